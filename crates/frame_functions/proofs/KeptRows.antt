-- Initial rows that are kept stay those of the entries at their places.
use Rattle.std.specs.BTreeMap.{BTreeMap, Updates, get}
use Rattle.std.specs.Option.{ForSome, option_map}
use Rattle.std.specs.Ordering.{is_eq, nat_cmp}
use Rattle.std.proofs.Common.{◌≡◌, ℕ, ℤ, Bool, true, false, cond, List, Option, Some, None, refl, sym, subst, arith}
use Rattle.std.proofs.lemmas.Bool.Decides.{nat_tests}
use Rattle.sf_bytes.specs.Cursor.{Cursor}
use Rattle.sf_model.specs.declared.machine.Arch.{Arch}
use Rattle.cfa_insn.specs.Listing.{listing}
use Rattle.cfa_machine.specs.declared.columns.Columns.{Columns}
use Rattle.cfa_machine.specs.Initial.{IsInitial}
use Rattle.eh_records.specs.Cie.{CieView}
use Rattle.frame_functions.specs.InitialRows.{IsInitialAt, IsInitialOf, row_origin}

-- each row of a map is that of the entry at its place
abbrev pub AreAt : Arch → List ℕ → BTreeMap ℕ Columns → Type 0
AreAt arch section rows = (place : ℕ) → ForSome (get nat_cmp rows place) (λ (row : Columns). IsInitialAt arch section place row)

same_place : (p q : ℕ) → is_eq (nat_cmp p q) ≡ true → p ≡ q
same_place p q h = grind (arith, nat_tests)

some_same : (x y : Columns) → Some x ≡ Some y → x ≡ y
some_same x y e = cc

-- the row of the entry at a place is that of its instructions
same_description : (x y : ℤ × Cursor) → Some x ≡ Some y → x ≡ y
same_description x y e = cc

pub row_of_instructions : (arch : Arch) (cie : Option CieView) (f : ℤ) (at : Cursor) (row : Columns) → option_map row_origin cie ≡ Some (f, at) → IsInitialOf arch cie row → IsInitial arch f (listing at) row
row_of_instructions arch None f at row has is = absurd cc
row_of_instructions arch (Some cie) f at row has is = subst (λ (s : ℤ × Cursor). IsInitial arch s.0 (listing s.1) row) (same_description (row_origin cie) (f, at) has) is

pub row_of_entry : (arch : Arch) (cie : Option CieView) (f : ℤ) (at : Cursor) (row : Columns) → option_map row_origin cie ≡ Some (f, at) → IsInitial arch f (listing at) row → IsInitialOf arch cie row
row_of_entry arch None f at row has is = tt
row_of_entry arch (Some cie) f at row has is = subst (λ (s : ℤ × Cursor). IsInitial arch s.0 (listing s.1) row) (sym (same_description (row_origin cie) (f, at) has)) is

with_one : (arch : Arch) (section : List ℕ) (p q : ℕ) (row : Columns) (before : Option Columns) (b : Bool) → (b ≡ true → p ≡ q) → IsInitialAt arch section p row → ForSome before (λ (x : Columns). IsInitialAt arch section q x)
    → ForSome (cond b (Some row) before) (λ (x : Columns). IsInitialAt arch section q x)
with_one arch section p q row before true is own others = λ x e. subst (λ (y : Columns). IsInitialAt arch section q y) (some_same row x e) (subst (λ (n : ℕ). IsInitialAt arch section n row) (is refl) own)
with_one arch section p q row before false is own others = others

pub with_row : (arch : Arch) (section : List ℕ) (p : ℕ) (row : Columns) (old new : BTreeMap ℕ Columns) → AreAt arch section old → Updates nat_cmp old new p (Some row) → IsInitialAt arch section p row → AreAt arch section new
with_row arch section p row old new are updates own = λ q.
    subst (λ (o : Option Columns). ForSome o (λ (x : Columns). IsInitialAt arch section q x)) (sym (updates.0 q))
    (with_one arch section p q row (get nat_cmp old q) (is_eq (nat_cmp p q)) (same_place p q) own (are q))
