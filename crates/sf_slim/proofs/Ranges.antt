-- The offsets of a section's rows are numbers of 32 signed bits.
use Rattle.std.specs.Prelude.{negsuc, option_to_list}
use Rattle.std.specs.List.{list_all}
use Rattle.std.proofs.Common.{ℕ, zero, suc, ◌+◌, ◌<◌, ◌≤◌, ◌^◌, w32, ℤ, pos, true, IsTrue, FitsSigned, List, [], ◌∷◌, ◌++◌, All, length, Option, Some, None, arith}
use Rattle.std.proofs.lemmas.Bool.{ltb-true}
use Rattle.std.proofs.lemmas.List.Elements.{All-nil, All-cons}
use Rattle.sf_model.specs.declared.machine.Arch.{Arch}
use Rattle.sf_model.specs.declared.content.Content.{Content}
use Rattle.sf_model.specs.declared.content.Ra.{Ra}
use Rattle.sf_model.specs.declared.content.Ra.TheVariants.{Fixed, Link, At}
use Rattle.sf_model.specs.declared.function.Func.{Func}
use Rattle.sf_model.specs.declared.rows.Row.{Row}
use Rattle.sf_model.specs.Content.{OffsetsInRange, PointerInRange, ReturnInRange, content_fits}
use Rattle.sf_model.specs.RowBytes.{holds_row_offsets, return_offset, spelled_row}
use Rattle.sf_model.specs.Section.{AnyWidth, FunctionsStand, RowsStand}
use Rattle.sf_model.specs.Width.{holds_signed}
use Rattle.sf_decode.proofs.Holds.{first_of, second_of}

in_four : (width : ℕ) (z : ℤ) → width ≤ 2 → IsTrue (holds_signed z width) → FitsSigned w32 z
in_four zero (pos n) le h = let lt : n < 2 ^ 7 = ltb-true n (2 ^ 7) h in record { sfits = omega (lt, arith) }
in_four zero (negsuc n) le h = let lt : n < 2 ^ 7 = ltb-true n (2 ^ 7) h in record { sfits = omega (lt, arith) }
in_four (suc zero) (pos n) le h = let lt : n < 2 ^ 15 = ltb-true n (2 ^ 15) h in record { sfits = omega (lt, arith) }
in_four (suc zero) (negsuc n) le h = let lt : n < 2 ^ 15 = ltb-true n (2 ^ 15) h in record { sfits = omega (lt, arith) }
in_four (suc (suc zero)) (pos n) le h = let lt : n < 2 ^ 31 = ltb-true n (2 ^ 31) h in record { sfits = lt }
in_four (suc (suc zero)) (negsuc n) le h = let lt : n < 2 ^ 31 = ltb-true n (2 ^ 31) h in record { sfits = lt }
in_four (suc (suc (suc k))) z le h = absurd (omega (le, arith))

pointer_in : (width : ℕ) (fp : Option ℤ) → width ≤ 2 → IsTrue (list_all (λ z. holds_signed z width) (option_to_list fp)) → PointerInRange fp
pointer_in width None le h = tt
pointer_in width (Some z) le h = in_four width z le (first_of (holds_signed z width) true h)

saved_in : (width : ℕ) (ra : Ra) (fp : Option ℤ) → width ≤ 2 → IsTrue (list_all (λ z. holds_signed z width) (return_offset ra ++ option_to_list fp)) → ReturnInRange ra × PointerInRange fp
saved_in width Fixed fp le h = (tt, pointer_in width fp le h)
saved_in width Link fp le h = (tt, pointer_in width fp le h)
saved_in width (At z) fp le h = (
  in_four width z le (first_of (holds_signed z width) (list_all (λ z. holds_signed z width) (option_to_list fp)) h),
  pointer_in width fp le (second_of (holds_signed z width) (list_all (λ z. holds_signed z width) (option_to_list fp)) h),
)

offsets_in : (width : ℕ) (c : Content) → width ≤ 2 → IsTrue (holds_row_offsets c width) → OffsetsInRange c
offsets_in width c le h =
    let later = list_all (λ z. holds_signed z width) (return_offset c.ra ++ option_to_list c.fp) in
    let saved = saved_in width c.ra c.fp le (second_of (holds_signed c.cfa width) later h) in
    record { frame_address = in_four width c.cfa le (first_of (holds_signed c.cfa width) later h); return_address = saved.0; frame_pointer = saved.1 }

-- a row that a machine has, with offsets in range
pub record IsGood (arch : Arch) (r : Row) : Type 0 where
  pub fits : IsTrue (content_fits arch r.content)
  pub range : OffsetsInRange r.content

pub rows_good : (arch : Arch) (bytes : List ℕ) (width place end : ℕ) (rows : List Row) → RowsStand AnyWidth arch bytes width place end rows → All (IsGood arch) rows
rows_good arch bytes width place end [] h = All-nil (IsGood arch)
rows_good arch bytes width place end (r ∷ rows) (own, may, stands, later) =
    All-cons (IsGood arch) r rows
    (record { fits = stands.fits; range = offsets_in own r.content stands.offset_width_fits.there_is stands.offset_width_fits.held })
    (rows_good arch bytes width (place + length (spelled_row width own r)) end rows later)

pub functions_good : (arch : Arch) (bytes : List ℕ) (flags at place : ℕ) (functions : List Func) → FunctionsStand arch bytes flags at place functions → All (λ (f : Func). All (IsGood arch) f.rows) functions
functions_good arch bytes flags at place [] h = All-nil (λ (f : Func). All (IsGood arch) f.rows)
functions_good arch bytes flags at place (f ∷ functions) (entry, (end, rows), later) =
    All-cons (λ (f : Func). All (IsGood arch) f.rows) f functions (rows_good arch _ _ _ end f.rows rows) (functions_good arch bytes flags at (place + 20) functions later)
