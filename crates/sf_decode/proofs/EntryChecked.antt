-- The check of an entry, by its parts.
use Rattle.std.proofs.Common.{◌≡◌, ◌<◌, ℕ, zero, suc, ◌-◌, ◌==◌, Bool, true, false, not, List, refl, ap, ◌∙◌, arith}
use Rattle.std.specs.Prelude.{◌&&◌}
use Rattle.sf_model.specs.Section.{is_sorted}
use Rattle.sf_decode.specs.declared.entry.Bounds.{Bounds}
use Rattle.sf_decode.specs.Bounds.{bounds_of}
use Rattle.sf_decode.specs.Checking.{Check, where_so, ◌>>◌}
use Rattle.sf_decode.specs.Entry.{flags_in, entry_place, raised_start, raised_end, behind_check, order_check, entry_fields_check, follows_check, entry_rows_check, entry_check}

-- there is no entry before the first
first_is : (sorted : Bool) (x y : Check) → where_so (sorted && not (0 == 0)) x ≡ where_so (sorted && not (0 == 0)) y
first_is true x y = refl
first_is false x y = refl

-- the order, by where the functions of both entries start and end
pub follows_is : (bytes : List ℕ) (at i : ℕ) (before here : Bounds) → (0 < i → before ≡ bounds_of bytes at (entry_place bytes (i - 1))) → here ≡ bounds_of bytes at (entry_place bytes i)
    → where_so (is_sorted (flags_in bytes) && not (i == 0)) (behind_check before.start before.end here.start (entry_place bytes i)) ≡ follows_check bytes at i
unfolding follows_check order_check
follows_is bytes at zero before here was is = first_is (is_sorted (flags_in bytes)) _ _
follows_is bytes at (suc i) before here was is =
    ap (λ (b : Bounds). where_so (is_sorted (flags_in bytes) && not (suc i == 0)) (behind_check b.start b.end here.start (entry_place bytes (suc i)))) (was (omega arith))
    ∙ ap (λ (h : Bounds). where_so (is_sorted (flags_in bytes) && not (suc i == 0)) (behind_check (raised_start bytes at (entry_place bytes (suc i - 1))) (raised_end bytes at (entry_place bytes (suc i - 1))) h.start (entry_place bytes (suc i)))) is

-- the whole check, by its parts
pub entry_is : (bytes : List ℕ) (at i place : ℕ) (fields follows rows : Check) → place ≡ entry_place bytes i
    → fields ≡ entry_fields_check bytes at place → follows ≡ follows_check bytes at i → rows ≡ entry_rows_check bytes place
    → fields >> follows >> rows ≡ entry_check bytes at i
unfolding entry_check
entry_is bytes at i place fields follows rows same one two three =
    ap (λ (x : Check). x >> follows >> rows) (one ∙ ap (entry_fields_check bytes at) same)
    ∙ ap (λ (x : Check). entry_fields_check bytes at (entry_place bytes i) >> x >> rows) two
    ∙ ap (λ (x : Check). entry_fields_check bytes at (entry_place bytes i) >> follows_check bytes at i >> x) (three ∙ ap (entry_rows_check bytes) same)
