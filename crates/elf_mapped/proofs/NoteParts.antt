-- The notes of segments by parts.
use Rattle.std.proofs.Common.{◌≡◌, ℕ, ◌+◌, ◌==◌, ◌≤◌, Bool, false, cond, List, [], ◌∷◌, ◌++◌, length, refl, sym, ap, subst, ◌∙◌, arith, inl, inr, slice_index_or}
use Rattle.std.proofs.Math.Nat.{eq-or-lt_of_le}
use Rattle.std.proofs.lemmas.List.{get_or_append_left, get_or-append-add, length-append}
use Rattle.sf_bytes.specs.declared.file_part.FilePart.{FilePart}
use Rattle.elf_read.specs.Header.{p_type}
use Rattle.elf_read.specs.Views.{segment_bytes}
use Rattle.core_notes.specs.Segment.{segment_of}
use Rattle.core_notes.proofs.Segmented.{not_notes}
use Rattle.elf_mapped.specs.Parts.{AreNoteParts, IsNotePart}

-- a segment that is no PT_NOTE
pub no_part : (file : List ℕ) (i : ℕ) (part : FilePart) → part.place ≡ 0 → part.bytes.items ≡ [] → (p_type file i == 4) ≡ false → IsNotePart file i part
no_part file i part at none other =
    let len : length part.bytes.items ≡ 0 = ap (λ (xs : List ℕ). length xs) none in
    record {
      notes = not_notes file i part.place part.bytes.items (segment_of file i) none refl other;
      size = len ∙ sym (ap (λ (b : Bool). cond b (length (segment_bytes file i)) 0) other);
      fits = omega (arith, at, len);
    }

-- no segment, or one more
pub no_parts : (file : List ℕ) (parts : List FilePart) → parts ≡ [] → AreNoteParts file parts
no_parts file parts none i d below = let len : length parts ≡ 0 = ap (λ (xs : List FilePart). length xs) none in absurd (omega (arith, below, len))

pub one_more : (file : List ℕ) (parts new : List FilePart) (n : ℕ) (part : FilePart) → length parts ≡ n → new ≡ parts ++ part ∷ [] → AreNoteParts file parts → IsNotePart file n part → AreNoteParts file new
one_more file parts new n part len is are here i d below =
    let long : length new ≡ length parts + 1 = ap (λ (xs : List FilePart). length xs) is ∙ length-append parts (part ∷ []) in
    let upto : i ≤ length parts = omega (arith, below, long) in
    let at : IsNotePart file i (slice_index_or (parts ++ part ∷ []) i d) =
    elim (eq-or-lt_of_le upto) [
      | inl same ↦
          let number : i ≡ n = omega (arith, same, len) in
          let last : slice_index_or (parts ++ part ∷ []) i d ≡ part =
          ap (slice_index_or_at d) (omega (arith, same)) ∙ get_or-append-add parts (part ∷ []) 0 d
          in
          subst (λ (k : ℕ). IsNotePart file k (slice_index_or (parts ++ part ∷ []) i d)) (sym number) (subst (IsNotePart file n) (sym last) here)
      | inr before ↦ subst (IsNotePart file i) (sym (get_or_append_left parts (part ∷ []) d i before)) (are i d before)
    ]
    in
    subst (λ (xs : List FilePart). IsNotePart file i (slice_index_or xs i d)) (sym is) at
  where
    slice_index_or_at : FilePart → ℕ → FilePart
    slice_index_or_at e k = slice_index_or (parts ++ part ∷ []) k e
