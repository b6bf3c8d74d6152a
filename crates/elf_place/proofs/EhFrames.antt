-- The numbers that are listed are those of sections with call frame information.
use Rattle.std.specs.Prelude.{All}
use Rattle.std.proofs.Common.{◌≡◌, ◌<◌, ◌≤◌, ◌&&◌, ℕ, zero, suc, Bool, true, false, List, [], ◌∷◌, not, refl, subst, sym, arith, get_or, slice_index_or}
use Rattle.std.proofs.lemmas.List.Elements.{All-append, All-from_get_or, All-nil}
use Rattle.elf_read.specs.Sections.{section_count, is_eh_frame}
use Rattle.elf_place.specs.Place.{IsEhFrame, eh_frames_below, is_kept_eh_frame}
use Rattle.elf_place.proofs.Cursor.{eh_frames_below-none, one_more}
use Rattle.elf_place.proofs.Numbers.{with_one}

with_true : (a b : Bool) → (a && b) ≡ true → a ≡ true
with_true true b h = refl
with_true false b h = h

is_frame : (file : List ℕ) (dropped : List Bool) (i : ℕ) → is_kept_eh_frame file dropped i ≡ true → is_eh_frame file i ≡ true
unfolding is_kept_eh_frame
is_frame file dropped i kept = with_true (is_eh_frame file i) (not (slice_index_or dropped i false)) kept

at_one : (file : List ℕ) (i k : ℕ) → IsEhFrame file i → k < 1 → IsEhFrame file (get_or (i ∷ []) k i)
at_one file i zero here below = here
at_one file i (suc k) here below = absurd (omega (arith, below))

all_with : (file : List ℕ) (i : ℕ) (kept : Bool) (numbers : List ℕ) → All (IsEhFrame file) numbers → (kept ≡ true → IsEhFrame file i) → All (IsEhFrame file) (with_one kept i numbers)
all_with file i true numbers all here = All-append (IsEhFrame file) numbers (i ∷ []) all (All-from_get_or (IsEhFrame file) (i ∷ []) i (λ k. at_one file i k (here refl)))
all_with file i false numbers all here = all

pub all_frames : (file : List ℕ) (dropped : List Bool) (n : ℕ) → n ≤ section_count file → All (IsEhFrame file) (eh_frames_below file dropped n)
all_frames file dropped zero within = subst (All (IsEhFrame file)) (sym (eh_frames_below-none file dropped)) (All-nil (IsEhFrame file))
all_frames file dropped (suc n) within =
    subst (All (IsEhFrame file)) (sym (one_more file dropped n))
    (all_with file n (is_kept_eh_frame file dropped n) (eh_frames_below file dropped n) (all_frames file dropped n (omega (arith, within)))
    (λ kept. (omega (arith, within), is_frame file dropped n kept)))
