-- What a look-up finds, and what it recovers.
use Rattle.std.specs.Prelude.{nat_le, nat_lt}
use Rattle.std.specs.List.{filter, find}
use Rattle.std.specs.Option.{option_map}
use Rattle.std.proofs.Common.{◌≡◌, ℕ, suc, ◌+◌, ◌-◌, ◌<◌, ◌≤◌, Bool, true, false, cond, IsTrue, List, [], ◌∷◌, All, Option, Some, None, refl, sym, ap, subst, ◌∙◌, arith}
use Rattle.std.proofs.Math.Nat.{mod-le}
use Rattle.std.proofs.lemmas.Bool.{and_parts, ltb-true}
use Rattle.std.proofs.lemmas.List.Elements.{All-filter}
use Rattle.sf_model.specs.declared.machine.Arch.{Arch}
use Rattle.sf_model.specs.declared.rows.Row.{Row}
use Rattle.sf_model.specs.declared.recovery.Regs.{Regs}
use Rattle.sf_model.specs.declared.function.Func.{Func}
use Rattle.sf_model.specs.declared.function.Shape.{Shape}
use Rattle.sf_model.specs.declared.function.Shape.TheVariants.{Plain, Repeat}
use Rattle.sf_model.specs.declared.function.FuncHead.{FuncHead}
use Rattle.sf_model.specs.Content.{content_fits}
use Rattle.sf_model.specs.Lookup.{FoundRow, begins_by, begins_last, contains, found_at, offset_in_block, row_at, row_in_first}
use Rattle.sf_model.specs.Memory.{Region}
use Rattle.sf_model.specs.Recovery.{recovered, recovery}
use Rattle.sf_model.specs.Walk.{recover_by_rows}
use Rattle.sf_decode.specs.View.{head_of}
use Rattle.sf_lookup.specs.declared.lookup.Found.{Found}
use Rattle.sf_lookup.specs.Lookup.{shown}
use Rattle.sf_decode.proofs.Holds.{first_of, le_if}
use Rattle.sf_lookup.proofs.Checked.{RowsFit}
use Rattle.sf_lookup.proofs.Numbered.{found_passes}

-- no function contains the address
pub nothing_found : (functions : List Func) (pc : ℕ) → None ≡ find (contains pc) functions → None ≡ option_map shown (found_at functions pc)
unfolding found_at
nothing_found functions pc e = ap (λ (o : Option Func). option_map shown (row_in_first pc o)) e

abbrev pub with_head : Func → Row → Found
with_head f row = record { func = head_of f; row = row }

shown_as : (f : Func) (o : Option Row) → option_map (with_head f) o ≡ option_map shown (option_map (λ (row : Row). record { func = f; row = row }) o)
shown_as f None = refl
shown_as f (Some row) = refl

-- a function contains the address, and this is its row, or none
pub found_in : (functions : List Func) (pc : ℕ) (f : Func) (o : Option Row) → Some f ≡ find (contains pc) functions → o ≡ row_at (offset_in_block f.shape (pc - f.start)) f.rows
    → option_map (with_head f) o ≡ option_map shown (found_at functions pc)
unfolding found_at
found_in functions pc f o e r =
    ap (option_map (with_head f)) r ∙ shown_as f (row_at (offset_in_block f.shape (pc - f.start)) f.rows) ∙ ap (λ (x : Option Func). option_map shown (row_in_first pc x)) e

-- the row by what was asked of the view
pub row_asked : (pc : ℕ) (f : Func) (head : FuncHead) (offset : ℕ) (o : Option Row) → head ≡ head_of f → offset ≡ offset_in_block head.shape (pc - head.start)
    → o ≡ row_at offset f.rows → o ≡ row_at (offset_in_block f.shape (pc - f.start)) f.rows
row_asked pc f head offset o h at e = e ∙ ap (λ (n : ℕ). row_at n f.rows) at ∙ ap (λ (x : FuncHead). row_at (offset_in_block x.shape (pc - x.start)) f.rows) h

-- what is found starts by the address
pub starts_by : (functions : List Func) (pc : ℕ) (f : Func) → Some f ≡ find (contains pc) functions → f.start ≤ pc
starts_by functions pc f e = le_if f.start pc (first_of (nat_le f.start pc) (nat_lt pc (f.start + f.size)) (found_passes (contains pc) functions f (sym e)))

-- the function that is found has not ended there
pub ends_after : (functions : List Func) (pc : ℕ) (f : Func) → Some f ≡ find (contains pc) functions → pc < f.start + f.size
ends_after functions pc f e = ltb-true pc (f.start + f.size) (and_parts (nat_le f.start pc) (nat_lt pc (f.start + f.size)) (found_passes (contains pc) functions f (sym e))).1

pub block_below : (shape : Shape) (offset : ℕ) → offset_in_block shape offset ≤ offset
block_below Plain offset = omega arith
block_below (Repeat size) offset = mod-le offset size

-- what holds of each holds of the one that is found
all_found : {X : Type 0} (P : X → Type 0) (p : X → Bool) (xs : List X) (x : X) → All P xs → find p xs ≡ Some x → P x
all_found P p [] x all e = absurd (let no : None ≡ Some x = e in cc)
all_found P p (y ∷ ys) x all e = by_test (p y) e (all 0 y (omega arith)) (all_found P p ys x (λ k d lt. all (suc k) d (omega (lt, arith))))
  where
    by_test : (b : Bool) → cond b (Some y) (find p ys) ≡ Some x → P y → (find p ys ≡ Some x → P x) → P x
    by_test true here first later = let same : y ≡ x = cc in subst P same first
    by_test false here first later = later here

-- the row that holds is one of the function's
pub row_fits : (arch : Arch) (rows : List Row) (offset : ℕ) (row : Row) → RowsFit arch rows → Some row ≡ row_at offset rows → IsTrue (content_fits arch row.content)
unfolding row_at
row_fits arch rows offset row fits e =
    let begun = filter (begins_by offset) rows in
    all_found (λ (r : Row). IsTrue (content_fits arch r.content)) (begins_last begun) begun row (All-filter (begins_by offset) (λ (r : Row). IsTrue (content_fits arch r.content)) rows fits) (sym e)

-- what is recovered where nothing is found, and where a row is
pub recovered_of : (functions : List Func) (pc : ℕ) (regs : Regs) (memory : List Region) (o : Option Found) → o ≡ option_map shown (found_at functions pc)
    → option_map (λ (found : Found). recovered (recovery found.row.content found.func.key regs memory)) o ≡ option_map recovered (recover_by_rows functions memory pc regs)
unfolding recover_by_rows
recovered_of functions pc regs memory o e =
    ap (option_map (λ (found : Found). recovered (recovery found.row.content found.func.key regs memory))) e ∙ by_found (found_at functions pc)
  where
    by_found : (x : Option FoundRow) → option_map (λ (found : Found). recovered (recovery found.row.content found.func.key regs memory)) (option_map shown x)
        ≡ option_map recovered (option_map (λ (found : FoundRow). recovery found.row.content found.func.key regs memory) x)
    by_found None = refl
    by_found (Some found) = refl
