-- What is needed of a section recovers what the section recovers.
use Rattle.std.specs.Prelude.{is_some}
use Rattle.std.specs.List.{filter, find, list_any, range_with_len}
use Rattle.std.specs.Option.{option_map}
use Rattle.std.proofs.Common.{◌≡◌, ℕ, ◌-◌, ◌<◌, Bool, true, false, cond, List, [], ◌∷◌, All, map, Option, Some, None, refl, sym, ap, subst, ◌∙◌, arith, inl, inr}
use Rattle.std.proofs.lemmas.List.Elements.{All-head, All-tail}
use Rattle.std.proofs.lemmas.List.Sorted.{IsPermutation-sym}
use Rattle.sf_model.specs.declared.content.Content.{Content}
use Rattle.sf_model.specs.declared.recovery.Regs.{Regs}
use Rattle.sf_model.specs.declared.rows.Row.{Row}
use Rattle.sf_model.specs.declared.function.Func.{Func}
use Rattle.sf_model.specs.declared.function.Shape.{Shape}
use Rattle.sf_model.specs.declared.function.Shape.TheVariants.{Plain, Repeat}
use Rattle.sf_model.specs.Function.{RowsRise}
use Rattle.sf_model.specs.Lookup.{FoundRow, contains, found_at, offset_in_block, row_at, row_in}
use Rattle.sf_model.specs.Memory.{Region}
use Rattle.sf_model.specs.Recovery.{Recovery, recovery}
use Rattle.sf_model.specs.Table.{Table}
use Rattle.sf_model.specs.Walk.{recover_by_rows}
use Rattle.sf_model.proofs.Unions.{IsFound, Member, OnePasses, found, found_alone, found_by, from_filter, in_filter, moved, one_contains, some_found, within}
use Rattle.sf_slim.specs.Slim.{has_row_at, content_at, is_live, slim_function, slim_rows_of, AreNeeded}
use Rattle.sf_slim.proofs.Live.{some_offset}
use Rattle.sf_slim.proofs.Sweep.{slim_says}

-- ---- members
in_map : {X Y : Type 0} (f : X → Y) (xs : List X) (x : X) → Member xs x → Member (map f xs) (f x)
in_map f [] x m = absurd m
in_map f (y ∷ ys) x (inl is) = inl (ap f is)
in_map f (y ∷ ys) x (inr m) = inr (in_map f ys x m)

pub from_map : {X Y : Type 0} (f : X → Y) (xs : List X) (y : Y) → Member (map f xs) y → (x : X) × Member xs x × (f x ≡ y)
from_map f [] y m = absurd m
from_map f (x ∷ xs) y (inl is) = (x, inl refl, is)
from_map f (x ∷ xs) y (inr m) = let later = from_map f xs y m in (later.0, inr later.1, later.2)

pub passes : {X : Type 0} (p : X → Bool) (xs : List X) (x : X) → Member (filter p xs) x → p x ≡ true
passes p [] x m = absurd m
passes p (y ∷ ys) x m = at_test (p y) refl m (passes p ys x)
  where
    at_test : (b : Bool) → p y ≡ b → Member (cond b (y ∷ filter p ys) (filter p ys)) x → (Member (filter p ys) x → p x ≡ true) → p x ≡ true
    at_test true e (inl is) later = ap p (sym is) ∙ e
    at_test true e (inr m) later = later m
    at_test false e m later = later m

pub all_member : {X : Type 0} (P : X → Type 0) (xs : List X) (x : X) → All P xs → Member xs x → P x
all_member P [] x h m = absurd m
all_member P (y ∷ ys) x h (inl is) = subst P is (All-head P y ys h)
all_member P (y ∷ ys) x h (inr m) = all_member P ys x (All-tail P y ys h) m

-- ---- what a function's row recovers
abbrev pub recovers : (regs : Regs) → List Region → Option FoundRow → Option Recovery
recovers regs memory o = option_map (λ (found : FoundRow). recovery found.row.content found.func.key regs memory) o

pub by_content : (f : Func) (o : Option Row) (regs : Regs) (memory : List Region)
    → recovers regs memory (option_map (λ (row : Row). record { func = f; row = row }) o) ≡ option_map (λ (c : Content). recovery c f.key regs memory) (option_map (λ (r : Row). r.content) o)
by_content f None regs memory = refl
by_content f (Some r) regs memory = refl

slim_content : (shape : Shape) (size : ℕ) (rows : List Row) (offset : ℕ) → RowsRise rows → offset < size → content_at (slim_rows_of shape size rows) (offset_in_block shape offset) ≡ content_at rows (offset_in_block shape offset)
slim_content Plain size rows offset rise lt = slim_says size rows rise offset lt
slim_content (Repeat block) size rows offset rise lt = refl

slim_recovers : (pc : ℕ) (f : Func) (regs : Regs) (memory : List Region) → RowsRise f.rows → contains pc f ≡ true → recovers regs memory (row_in pc (slim_function f)) ≡ recovers regs memory (row_in pc f)
slim_recovers pc f regs memory rise t =
    let w = within pc f t in
    let offset = offset_in_block f.shape (pc - f.start) in
    by_content (slim_function f) (row_at offset (slim_rows_of f.shape f.size f.rows)) regs memory
    ∙ ap (option_map (λ (c : Content). recovery c f.key regs memory)) (slim_content f.shape f.size f.rows (pc - f.start) rise (omega (w.from, w.to, arith)))
    ∙ sym (by_content f (row_at offset f.rows) regs memory)

-- a function that is not live has no row
no_row : (pc : ℕ) (f : Func) → contains pc f ≡ true → is_live f ≡ false → row_in pc f ≡ None
unfolding is_live
no_row pc f t dead =
    let w = within pc f t in
    by_row (row_at (offset_in_block f.shape (pc - f.start)) f.rows) refl
    (some_offset (has_row_at f) f.size (pc - f.start) (omega (w.from, w.to, arith)))
  where
    by_row : (o : Option Row) → row_at (offset_in_block f.shape (pc - f.start)) f.rows ≡ o → (has_row_at f (pc - f.start) ≡ true → list_any (has_row_at f) (range_with_len 0 f.size) ≡ true) → row_in pc f ≡ None
    by_row None e live = ap (option_map (λ (row : Row). record { func = f; row = row })) e
    by_row (Some r) e live = let yes = live (ap is_some e) in cc

-- ---- the functions
module _ (table : Table) (functions : List Func) (rise : All (λ (f : Func). RowsRise f.rows) table.functions) (slim : AreNeeded table functions) (pc : ℕ) where
  pub one : OnePasses (contains pc) table.functions
  one = one_contains pc table.functions slim.apart

  -- each of the functions is one of the table's
  pub from_table : (g : Func) → Member functions g → (f : Func) × Member table.functions f × (is_live f ≡ true) × (slim_function f ≡ g)
  from_table g m =
      let back = from_map slim_function (filter is_live table.functions) g
      (moved functions (map slim_function (filter is_live table.functions)) g (IsPermutation-sym (map slim_function (filter is_live table.functions)) functions slim.taken) m) in
      (back.0, from_filter is_live table.functions back.0 back.1, passes is_live table.functions back.0 back.1, back.2)

  into_slim : (f : Func) → Member table.functions f → is_live f ≡ true → Member functions (slim_function f)
  into_slim f m live =
      moved (map slim_function (filter is_live table.functions)) functions (slim_function f) slim.taken
      (in_map slim_function (filter is_live table.functions) f (in_filter is_live table.functions f live m))

  same_place : (f g : Func) → slim_function f ≡ g → contains pc g ≡ true → contains pc f ≡ true
  same_place f g is t = ap (contains pc) is ∙ t

  one_slim : OnePasses (contains pc) functions
  one_slim x y m n s t =
      let a = from_table x m in
      let b = from_table y n in
      let same : a.0 ≡ b.0 = one a.0 b.0 a.1 b.1 (same_place a.0 x a.3 s) (same_place b.0 y b.3 t) in
      sym a.3 ∙ (ap slim_function same ∙ b.3)

  alike_at : (regs : Regs) (memory : List Region) → recovers regs memory (found_at functions pc) ≡ recovers regs memory (found_at table.functions pc)
  alike_at regs memory = by_found (find (contains pc) table.functions) refl
    where
      none_there : (o : Option Func) → find (contains pc) functions ≡ o → ((g : Func) → Member functions g → contains pc g ≡ true → ⊥) → found_at functions pc ≡ None
      none_there None e never = found_by functions pc None e
      none_there (Some g) e never = let h = found (contains pc) functions g e in absurd (never g h.within h.passes)

      by_live : (f : Func) → IsFound (contains pc) table.functions f → (live : Bool) → is_live f ≡ live → recovers regs memory (found_at functions pc) ≡ recovers regs memory (row_in pc f)
      by_live f h true live =
          ap (recovers regs memory) (found_by functions pc (Some (slim_function f)) (found_alone (contains pc) functions (slim_function f) one_slim (into_slim f h.within live) h.passes))
          ∙ slim_recovers pc f regs memory (all_member (λ (g : Func). RowsRise g.rows) table.functions f rise h.within) h.passes
      by_live f h false dead =
          ap (recovers regs memory) (none_there (find (contains pc) functions) refl (λ g m t.
          let a = from_table g m in
          let same : a.0 ≡ f = one a.0 f a.1 h.within (same_place a.0 g a.3 t) h.passes in
          let no : false ≡ true = sym dead ∙ (ap is_live (sym same) ∙ a.2) in cc)
          ∙ sym (no_row pc f h.passes dead))

      by_found : (o : Option Func) → find (contains pc) table.functions ≡ o → recovers regs memory (found_at functions pc) ≡ recovers regs memory (found_at table.functions pc)
      by_found None e =
          ap (recovers regs memory) (none_there (find (contains pc) functions) refl (λ g m t.
          let a = from_table g m in
          some_found (contains pc) table.functions a.0 (same_place a.0 g a.3 t) a.1 e)
          ∙ sym (found_by table.functions pc None e))
      by_found (Some f) e =
          let h = found (contains pc) table.functions f e in
          by_live f h (is_live f) refl ∙ ap (recovers regs memory) (sym (found_by table.functions pc (Some f) e))

pub alike : (table : Table) (functions : List Func) → All (λ (f : Func). RowsRise f.rows) table.functions → AreNeeded table functions → (pc : ℕ) (regs : Regs) (memory : List Region)
    → recover_by_rows functions memory pc regs ≡ recover_by_rows table.functions memory pc regs
unfolding recover_by_rows
alike table functions rise slim pc regs memory = alike_at table functions rise slim pc regs memory
