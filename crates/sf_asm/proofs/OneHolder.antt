-- The one function that has an address, and what a kept one says.
use Rattle.std.specs.Prelude.{is_none, nat_le, nat_lt, not}
use Rattle.std.specs.List.{range_with_len}
use Rattle.std.specs.Option.{option_map}
use Rattle.std.proofs.Common.{◌≡◌, ℕ, zero, suc, ◌+◌, ◌^◌, ◌<◌, ◌≤◌, Bool, true, false, cond, ◌&&◌, ◌==◌, eqb, leb, List, [], ◌∷◌, map, Option, Some, None, Result, Ok, Err, refl, sym, ap, subst, ◌∙◌, arith, inl, inr}
use Rattle.std.proofs.lemmas.Bool.{cases_lt, leb-true, ltb-true, le-leb, lt-ltb, eqb-true}
use Rattle.std.proofs.lemmas.Bool.Decides.{nat_tests}
use Rattle.sf_model.specs.declared.content.Content.{Content}
use Rattle.sf_model.specs.declared.machine.Arch.{Arch}
use Rattle.sf_model.specs.declared.omission.Omission.{Omission}
use Rattle.sf_model.specs.declared.omission.Reason.{Reason}
use Rattle.sf_model.specs.declared.omission.Reason.TheVariants.{EmptyRange, SizeTooLarge, ReturnColumn, SignalFrame}
use Rattle.sf_model.specs.declared.omission.Span.{Span}
use Rattle.cfa_machine.specs.Registers.{return_address}
use Rattle.sf_express.specs.Expressed.{reason_of}
use Rattle.sf_express.specs.ContentRanges.{AreRangesOf, content_in, range_of_row}
use Rattle.sf_express.specs.Runs as runs
use Rattle.sf_express.specs.Runs.{ContentsByOffset, against, first_against, omission_of, rows_of, whole_or_row}
use Rattle.sf_express.proofs.AsRanges.{rows_said_by}
use Rattle.sf_express.proofs.Found.{SaysContent}
use Rattle.frame_functions.specs.declared.read_function.ReadFunction.{ReadFunction}
use Rattle.sf_asm.specs.declared.fault.GatherFault.{GatherFault}
use Rattle.frame_functions.specs.ReadFunction.{spans_of}
use Rattle.frame_functions.specs.Functions.{holds_address, Function}
use Rattle.sf_asm.specs.Functions.{Object}
use Rattle.frame_functions.specs.Kept.{read_of, facts_of, is_kept, row_contents}
use Rattle.sf_asm.specs.Linking.{Gathers, limits_fault, or_later, overlap_fault, overlap_in}
use Rattle.frame_functions.specs.Order.{are_apart}
use Rattle.frame_functions.specs.ContentAt.{form_content, has_form}
use Rattle.sf_model.proofs.Unions.{Member, OnePasses}
use Rattle.sf_asm.proofs.GatheredInputs.{are_read}
use Rattle.sf_asm.proofs.Kept.{not_overlapping_apart}

-- ---- one function has an address
pub both : (a b : Bool) → (a && b) ≡ true → (a ≡ true) × (b ≡ true)
both true b e = (refl, e)
both false b e = cc

pub record IsWithin (pc start size : ℕ) : Type 0 where
  pub from : start ≤ pc
  pub to : pc < start + size

pub within_span : (pc start size : ℕ) → (nat_le start pc && nat_lt pc (start + size)) ≡ true → IsWithin pc start size
within_span pc start size e =
    let two = both (nat_le start pc) (nat_lt pc (start + size)) e in
    record { from = leb-true start pc two.0; to = ltb-true pc (start + size) two.1 }

pub within : (pc : ℕ) (f : Function) → holds_address pc f ≡ true → IsWithin pc f.start f.size
within pc f e = within_span pc f.start f.size e

pub is_within : (pc : ℕ) (f : Function) → f.start ≤ pc → pc < f.start + f.size → holds_address pc f ≡ true
is_within pc f low high = rw (le-leb f.start pc low, lt-ltb pc (f.start + f.size) high) refl

-- the test of one function among functions that are apart
past_one : (end pc start size : ℕ) (rest skipped : Bool) → cond (eqb size 0) skipped (leb end start && rest) ≡ true → IsWithin pc start size → (end ≤ pc) × (rest ≡ true)
past_one end pc start size rest skipped h w =
    let some : 0 < size = omega (arith, w.from, w.to) in
    at_size (eqb size 0) refl some h
  where
    at_size : (b : Bool) → eqb size 0 ≡ b → 0 < size → cond b skipped (leb end start && rest) ≡ true → (end ≤ pc) × (rest ≡ true)
    at_size true t some h = let is : size ≡ 0 = eqb-true size 0 t in absurd (omega (arith, some, is))
    at_size false t some h = let two = both (leb end start) rest h in (let le = leb-true end start two.0 in omega (arith, le, w.from), two.1)

-- of elements whose entries are apart, one has an address at most
module _ {X : Type 0} (entry : X → ReadFunction) (p : X → Bool) (pc : ℕ) where
  abbrev pub AreWithin : List X → Type 0
  AreWithin xs = (x : X) → Member xs x → p x ≡ true → IsWithin pc (entry x).span.start (entry x).span.size

  past_end : (end : ℕ) (xs : List X) → AreWithin xs → are_apart end (map entry xs) ≡ true → (x : X) → Member xs x → p x ≡ true → end ≤ pc
  past_end end [] holds h x m t = absurd m
  past_end end (y ∷ ys) holds h x (inl is) t =
      (past_one end pc (entry y).span.start (entry y).span.size (are_apart ((entry y).span.start + (entry y).span.size) (map entry ys)) (are_apart end (map entry ys)) h (holds y (inl refl) (ap p is ∙ t))).0
  past_end end (y ∷ ys) holds h x (inr m) t =
      at_size (eqb (entry y).span.size 0) refl h (λ rest. past_end end ys (λ z n. holds z (inr n)) rest x m t) (λ rest. past_end ((entry y).span.start + (entry y).span.size) ys (λ z n. holds z (inr n)) rest x m t)
    where
      at_size : (b : Bool) → eqb (entry y).span.size 0 ≡ b → cond b (are_apart end (map entry ys)) (leb end (entry y).span.start && are_apart ((entry y).span.start + (entry y).span.size) (map entry ys)) ≡ true
          → (are_apart end (map entry ys) ≡ true → end ≤ pc) → (are_apart ((entry y).span.start + (entry y).span.size) (map entry ys) ≡ true → (entry y).span.start + (entry y).span.size ≤ pc) → end ≤ pc
      at_size true s h skipped behind = skipped h
      at_size false s h skipped behind =
          let two = both (leb end (entry y).span.start) (are_apart ((entry y).span.start + (entry y).span.size) (map entry ys)) h in
          let low = leb-true end (entry y).span.start two.0 in
          let high = behind two.1 in
          omega (arith, low, high)

  pub one_within : (end : ℕ) (xs : List X) → AreWithin xs → are_apart end (map entry xs) ≡ true → OnePasses p xs
  one_within end [] holds h = λ x y m n s t. absurd m
  one_within end (f ∷ fs) holds h = λ x y m n s t. at_members x y m n s t
      (at_rest (eqb (entry f).span.size 0) refl h (λ rest. one_within end fs (λ z k. holds z (inr k)) rest x y) (λ rest. one_within ((entry f).span.start + (entry f).span.size) fs (λ z k. holds z (inr k)) rest x y))
    where
      at_rest : {T : Type 0} (b : Bool) → eqb (entry f).span.size 0 ≡ b → cond b (are_apart end (map entry fs)) (leb end (entry f).span.start && are_apart ((entry f).span.start + (entry f).span.size) (map entry fs)) ≡ true
          → (are_apart end (map entry fs) ≡ true → T) → (are_apart ((entry f).span.start + (entry f).span.size) (map entry fs) ≡ true → T) → T
      at_rest true s h skipped behind = skipped h
      at_rest false s h skipped behind = behind (both (leb end (entry f).span.start) (are_apart ((entry f).span.start + (entry f).span.size) (map entry fs)) h).1

      first_and_later : (x y : X) → f ≡ x → Member fs y → p x ≡ true → p y ≡ true → ⊥
      first_and_later x y is m s t =
          let w = holds f (inl refl) (ap p is ∙ s) in
          let rest = (past_one end pc (entry f).span.start (entry f).span.size (are_apart ((entry f).span.start + (entry f).span.size) (map entry fs)) (are_apart end (map entry fs)) h w).1 in
          let past = past_end ((entry f).span.start + (entry f).span.size) fs (λ z k. holds z (inr k)) rest y m t in
          omega (arith, w.to, past)

      at_members : (x y : X) → Member (f ∷ fs) x → Member (f ∷ fs) y → p x ≡ true → p y ≡ true
          → (Member fs x → Member fs y → p x ≡ true → p y ≡ true → x ≡ y) → x ≡ y
      at_members x y (inl a) (inl b) s t later = sym a ∙ b
      at_members x y (inl a) (inr n) s t later = absurd (first_and_later x y a n s t)
      at_members x y (inr m) (inl b) s t later = absurd (first_and_later y x b m t s)
      at_members x y (inr m) (inr n) s t later = later m n s t

pub one_holds : (pc end : ℕ) (fs : List Function) → are_apart end (map read_of fs) ≡ true → OnePasses (holds_address pc) fs
one_holds pc end fs h = one_within read_of (holds_address pc) pc end fs (λ f m t. within pc f t) h

-- ---- a kept function
fine_first : (o : ℕ) (x : Result Content Reason) (later : Option Omission) → runs.or_later (against o x) later ≡ None → SaysContent x × (later ≡ None)
fine_first o (Ok c) later e = (tt, e)
fine_first o (Err reason) later e = cc

all_fine : (says : ContentsByOffset) (a n : ℕ) → first_against says (range_with_len a n) ≡ None → (o : ℕ) → a ≤ o → o < a + n → SaysContent (says o)
all_fine says a zero e o le lt = absurd (omega (arith, le, lt))
all_fine says a (suc n) e o le lt =
    let first = fine_first a (says a) (first_against says (range_with_len (a + 1) n)) e in
    elim (cases_lt a o) [
      | inl above ↦ all_fine says (a + 1) n first.1 o (omega (arith, above)) (omega (arith, lt))
      | inr not_above ↦ let is : o ≡ a = omega (arith, le, not_above) in subst (λ (k : ℕ). SaysContent (says k)) (sym is) first.0
    ]

no_reason : (whole : Option Reason) (row : Option Omission) → whole_or_row whole row ≡ None → (whole ≡ None) × (row ≡ None)
no_reason None row e = (refl, e)
no_reason (Some reason) row e = cc

none_is : (o : Option Omission) → is_none o ≡ true → o ≡ None
none_is None e = refl
none_is (Some omission) e = cc

pub record IsFine (f : Function) : Type 0 where
  pub whole : reason_of f.arch (facts_of f) ≡ None
  pub rows : (o : ℕ) → o < f.size → SaysContent (row_contents f o)

pub fine : (f : Function) → is_kept f ≡ true → IsFine f
unfolding omission_of
fine f kept =
    let none = none_is (omission_of f.arch (facts_of f) (row_contents f)) kept in
    let two = no_reason (reason_of f.arch (facts_of f)) (first_against (row_contents f) (range_with_len 0 f.size)) none in
    record { whole = two.0; rows = λ o lt. all_fine (row_contents f) 0 f.size two.1 o (omega arith) (omega (arith, lt)) }

form_by : (empty large column signal : Bool) → cond empty (Some EmptyRange) (cond large (Some SizeTooLarge) (cond column (cond signal (Some SignalFrame) None) (Some ReturnColumn))) ≡ None → (column && not signal) ≡ true
form_by true large column signal e = cc
form_by false true column signal e = cc
form_by false false false signal e = cc
form_by false false true true e = cc
form_by false false true false e = refl

pub has_form_if : (f : Function) → reason_of f.arch (facts_of f) ≡ None → has_form f ≡ true
has_form_if f e = form_by (f.size == 0) (nat_le (2 ^ 32) f.size) (f.column == return_address f.arch) f.signal e

size_by : (empty large column signal : Bool) → cond empty (Some EmptyRange) (cond large (Some SizeTooLarge) (cond column (cond signal (Some SignalFrame) None) (Some ReturnColumn))) ≡ None → empty ≡ false
size_by true large column signal e = cc
size_by false large column signal e = refl

-- it has an address
pub kept_size : (f : Function) → is_kept f ≡ true → 0 < f.size
kept_size f k =
    let none = size_by (f.size == 0) (nat_le (2 ^ 32) f.size) (f.column == return_address f.arch) f.signal (fine f k).whole in
    grind (arith, nat_tests)

-- what it says by its rows as ranges
pub kept_said_by : (f : Function) → is_kept f ≡ true → AreRangesOf f.size (form_content f) (map range_of_row (rows_of (row_contents f) f.size))
kept_said_by f k =
    let good = fine f k in
    subst (λ (b : Bool). AreRangesOf f.size (λ o. cond b (content_in (row_contents f o)) None) (map range_of_row (rows_of (row_contents f) f.size))) (sym (has_form_if f good.whole)) (rows_said_by (row_contents f) f.size (kept_size f k) good.rows)

-- ---- gathered functions
no_overlap : (limits : Option GatherFault) (pair : Option (Span × Span)) → or_later limits (option_map overlap_fault pair) ≡ None → pair ≡ None
no_overlap None None e = refl
no_overlap None (Some pair) e = cc
no_overlap (Some fault) pair e = cc

pub gathered_apart : (before : Option Arch) (objects : List Object) (ordered : List ReadFunction) → Gathers before objects (Ok ordered) → are_apart 0 ordered ≡ true
gathered_apart before objects ordered h =
    let read = are_read before objects ordered h in
    not_overlapping_apart ordered (no_overlap (limits_fault ordered) (overlap_in (spans_of ordered)) read.checked)
