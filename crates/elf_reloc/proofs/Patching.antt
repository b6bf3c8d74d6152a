-- What stands in a patched section.
use Rattle.std.specs.Option.{option_map, option_map_or}
use Rattle.std.proofs.Common.{◌≡◌, ◌⊎◌, ℕ, zero, suc, ◌+◌, ◌-◌, ◌*◌, ◌<◌, ◌≤◌, ◌^◌, Bool, true, false, List, [], ◌∷◌, ◌++◌, length, get_or, take, drop, Option, Some, None, Result, Ok, Err, refl, sym, ap, ◌∙◌, subst, arith, inl, inr, nat_lt, ltb-false, if◌then◌else◌, length-append, length-drop}
use Rattle.std.proofs.lemmas.Bool.{cases_eq}
use Rattle.std.proofs.lemmas.List.{get_or-take, get_or-drop, get_or_append_left, get_or-append_right, length-take-le}
use Rattle.byteorder.specs.Endian.{little_from, little_number, little_bytes}
use Rattle.byteorder.specs.Numbers.{little_number-reads_back, length-bytes_low_first}
use Rattle.elf_reloc.specs.declared.fault.RelocFault.{RelocFault}
use Rattle.elf_reloc.specs.declared.fault.RelocFault.TheVariants.{Twice}
use Rattle.elf_reloc.specs.declared.fix.RelocatedField.{RelocatedField}
use Rattle.elf_reloc.specs.Fields.{fix_bits}
use Rattle.elf_reloc.specs.Order.{overlap_check, first_at, place_of}
use Rattle.elf_reloc.specs.Patched.{overwritten, patched, AreInside, IsFree}
use Rattle.elf_reloc.specs.Table.{low_bits, width_of}
use Rattle.elf_reloc.proofs.First.{nil, same, other}

-- numbers of the same bytes are the same
same_number : (n i : ℕ) (xs ys : List ℕ) → ((k : ℕ) → i ≤ k → k < i + n → get_or xs k 0 ≡ get_or ys k 0) → little_from i n xs ≡ little_from i n ys
same_number zero i xs ys h = refl
same_number (suc n) i xs ys h =
    let here : get_or xs i 0 ≡ get_or ys i 0 = h i (omega arith) (omega arith) in
    let rest : little_from (suc i) n xs ≡ little_from (suc i) n ys = same_number n (suc i) xs ys (λ k low high. h k (omega arith) (omega arith)) in
    ap (λ (a : ℕ). a + 256 * little_from (suc i) n xs) here ∙ ap (λ (a : ℕ). get_or ys i 0 + 256 * a) rest

length-overwritten : (p : ℕ) (b xs : List ℕ) → p + length b ≤ length xs → length (overwritten p b xs) ≡ length xs
unfolding overwritten
length-overwritten p b xs within =
    let front : length (take p xs) ≡ p = length-take-le p xs (omega arith) in
    let back : length (drop (p + length b) xs) ≡ length xs - (p + length b) = length-drop (p + length b) xs in
    let mid : length (b ++ drop (p + length b) xs) ≡ length b + length (drop (p + length b) xs) = length-append b (drop (p + length b) xs) in
    length-append (take p xs) (b ++ drop (p + length b) xs) ∙ omega (arith, front, back, mid)

before : (p : ℕ) (b xs : List ℕ) (k : ℕ) → p + length b ≤ length xs → k < p → get_or (overwritten p b xs) k 0 ≡ get_or xs k 0
unfolding overwritten
before p b xs k within low =
    let front : length (take p xs) ≡ p = length-take-le p xs (omega arith) in
    get_or_append_left (take p xs) (b ++ drop (p + length b) xs) 0 k (omega (arith, front)) ∙ get_or-take p xs k 0 low

behind : (p : ℕ) (b xs : List ℕ) (k : ℕ) → p + length b ≤ length xs → p + length b ≤ k → get_or (overwritten p b xs) k 0 ≡ get_or xs k 0
unfolding overwritten
behind p b xs k within high =
    let front : length (take p xs) ≡ p = length-take-le p xs (omega arith) in
    let at : p + length b + (k - p - length b) ≡ k = omega arith in
    get_or-append_right (take p xs) (b ++ drop (p + length b) xs) p k 0 front (omega arith)
    ∙ get_or-append_right b (drop (p + length b) xs) (length b) (k - p) 0 refl (omega arith)
    ∙ get_or-drop (p + length b) xs (k - p - length b) 0
    ∙ ap (λ (j : ℕ). get_or xs j 0) at

within_bytes : (p : ℕ) (b xs : List ℕ) (k : ℕ) → p + length b ≤ length xs → k < length b → get_or (overwritten p b xs) (p + k) 0 ≡ get_or b k 0
unfolding overwritten
within_bytes p b xs k within inside =
    let front : length (take p xs) ≡ p = length-take-le p xs (omega arith) in
    let at : p + k - p ≡ k = omega arith in
    get_or-append_right (take p xs) (b ++ drop (p + length b) xs) p (p + k) 0 front (omega arith)
    ∙ ap (λ (j : ℕ). get_or (b ++ drop (p + length b) xs) j 0) at
    ∙ get_or_append_left b (drop (p + length b) xs) 0 k inside

-- a place that no field covers
abbrev Clear : ℕ → List RelocatedField → Type 0
Clear k [] = Unit {0}
Clear k (f ∷ fs) = ((k < f.place) ⊎ (f.place + width_of f.range ≤ k)) × Clear k fs

-- the field's bits in its place, where they are known
abbrev with_bits : RelocatedField → Option ℕ → List ℕ → List ℕ
with_bits f None section = section
with_bits f (Some bits) section = overwritten f.place (little_bytes (width_of f.range) bits) section

length-with_bits : (f : RelocatedField) (o : Option ℕ) (xs : List ℕ) → f.place + width_of f.range ≤ length xs → length (with_bits f o xs) ≡ length xs
length-with_bits f None xs within = refl
length-with_bits f (Some v) xs within =
    let len : length (little_bytes (width_of f.range) v) ≡ width_of f.range = length-bytes_low_first 0 (width_of f.range) v in
    length-overwritten f.place (little_bytes (width_of f.range) v) xs (omega (arith, len, within))

keeps_one : (f : RelocatedField) (o : Option ℕ) (xs : List ℕ) (k : ℕ) → f.place + width_of f.range ≤ length xs → (k < f.place) ⊎ (f.place + width_of f.range ≤ k) → get_or (with_bits f o xs) k 0 ≡ get_or xs k 0
keeps_one f None xs k within clear = refl
keeps_one f (Some v) xs k within (inl low) =
    let len : length (little_bytes (width_of f.range) v) ≡ width_of f.range = length-bytes_low_first 0 (width_of f.range) v in
    before f.place (little_bytes (width_of f.range) v) xs k (omega (arith, len, within)) low
keeps_one f (Some v) xs k within (inr high) =
    let len : length (little_bytes (width_of f.range) v) ≡ width_of f.range = length-bytes_low_first 0 (width_of f.range) v in
    behind f.place (little_bytes (width_of f.range) v) xs k (omega (arith, len, within)) (omega (arith, len, high))

patched-nil : (xs : List ℕ) → patched [] xs ≡ xs
unfolding patched
patched-nil xs = refl

of_value : (f : RelocatedField) (o : Option ℕ) (xs : List ℕ) → option_map_or (λ (value : ℕ). overwritten f.place (little_bytes (width_of f.range) (low_bits f.range value)) xs) o xs ≡ with_bits f (option_map (low_bits f.range) o) xs
of_value f None xs = refl
of_value f (Some value) xs = refl

patched-cons : (f : RelocatedField) (fs : List RelocatedField) (xs : List ℕ) → patched (f ∷ fs) xs ≡ patched fs (with_bits f (fix_bits f) xs)
unfolding patched
patched-cons f fs xs = ap (patched fs) (of_value f f.value xs)

inside_still : (f : RelocatedField) (fs : List RelocatedField) (xs : List ℕ) → AreInside (length xs) (f ∷ fs) → AreInside (length (with_bits f (fix_bits f) xs)) fs
inside_still f fs xs inside = subst (λ (n : ℕ). AreInside n fs) (sym (length-with_bits f (fix_bits f) xs inside.0)) inside.1

keeps : (fs : List RelocatedField) (xs : List ℕ) (k : ℕ) → AreInside (length xs) fs → Clear k fs → get_or (patched fs xs) k 0 ≡ get_or xs k 0
keeps [] xs k inside clear = ap (λ (ys : List ℕ). get_or ys k 0) (patched-nil xs)
keeps (f ∷ fs) xs k inside clear =
    ap (λ (ys : List ℕ). get_or ys k 0) (patched-cons f fs xs)
    ∙ keeps fs (with_bits f (fix_bits f) xs) k (inside_still f fs xs inside) clear.1
    ∙ keeps_one f (fix_bits f) xs k inside.0 clear.0

overlap_check-cons : (end : ℕ) (f : RelocatedField) (fs : List RelocatedField) → overlap_check end (f ∷ fs) ≡ (if nat_lt f.place end then Err (Twice f.index) else overlap_check (f.place + width_of f.range) fs)
unfolding overlap_check
overlap_check-cons end f fs = refl

guarded : (b : Bool) (e : RelocFault) (r : Result (Unit {0}) RelocFault) → (if b then Err e else r) ≡ Ok tt → (b ≡ false) × (r ≡ Ok tt)
guarded true e r h = absurd (cc h)
guarded false e r h = (refl, h)

pub apart_here : (end : ℕ) (f : RelocatedField) (fs : List RelocatedField) → overlap_check end (f ∷ fs) ≡ Ok tt → (end ≤ f.place) × (overlap_check (f.place + width_of f.range) fs ≡ Ok tt)
apart_here end f fs apart =
    let p = guarded (nat_lt f.place end) (Twice f.index) (overlap_check (f.place + width_of f.range) fs) (sym (overlap_check-cons end f fs) ∙ apart) in
    (ltb-false f.place end p.0, p.1)

-- after the end of the fields before, a place below is clear of the others
clear_below : (end k : ℕ) (fs : List RelocatedField) → overlap_check end fs ≡ Ok tt → k < end → Clear k fs
clear_below end k [] apart low = tt
clear_below end k (f ∷ fs) apart low =
    let p = apart_here end f fs apart in
    let above : end ≤ f.place = p.0 in
    (inl (omega (arith, above, low)), clear_below (f.place + width_of f.range) k fs p.1 (omega (arith, above, low)))

-- the first field holds its bits, whatever the others hold
first_holds : (f : RelocatedField) (fs : List RelocatedField) (xs : List ℕ) (v : ℕ) → overlap_check (f.place + width_of f.range) fs ≡ Ok tt → AreInside (length xs) (f ∷ fs) → fix_bits f ≡ Some v → v < 256 ^ width_of f.range
    → little_number (width_of f.range) (drop f.place (patched (f ∷ fs) xs)) ≡ v
first_holds f fs xs v apart inside known fits =
    let w : ℕ = width_of f.range in
    let b : List ℕ = little_bytes (width_of f.range) v in
    let len : length (little_bytes (width_of f.range) v) ≡ width_of f.range = length-bytes_low_first 0 (width_of f.range) v in
    let one : with_bits f (fix_bits f) xs ≡ overwritten f.place (little_bytes (width_of f.range) v) xs = ap (λ (o : Option ℕ). with_bits f o xs) known in
    let each : (k : ℕ) → 0 ≤ k → k < 0 + width_of f.range → get_or (drop f.place (patched (f ∷ fs) xs)) k 0 ≡ get_or (little_bytes (width_of f.range) v ++ []) k 0 = λ k low high.
    let k_in : k < length (little_bytes (width_of f.range) v) = omega (arith, len, high) in
    get_or-drop f.place (patched (f ∷ fs) xs) k 0
    ∙ ap (λ (ys : List ℕ). get_or ys (f.place + k) 0) (patched-cons f fs xs)
    ∙ keeps fs (with_bits f (fix_bits f) xs) (f.place + k) (inside_still f fs xs inside) (clear_below (f.place + width_of f.range) (f.place + k) fs apart (omega (arith, high)))
    ∙ ap (λ (ys : List ℕ). get_or ys (f.place + k) 0) one
    ∙ within_bytes f.place (little_bytes (width_of f.range) v) xs k (omega (arith, len, inside.0)) k_in
    ∙ sym (get_or_append_left (little_bytes (width_of f.range) v) [] 0 k k_in) in
    same_number (width_of f.range) 0 (drop f.place (patched (f ∷ fs) xs)) (little_bytes (width_of f.range) v ++ []) each
    ∙ little_number-reads_back (width_of f.range) v [] fits

-- each field that is written holds its bits
pub holds : (fs : List RelocatedField) (xs : List ℕ) (end place : ℕ) (f : RelocatedField) (v : ℕ) → overlap_check end fs ≡ Ok tt → AreInside (length xs) fs → first_at place_of place fs ≡ Some f → fix_bits f ≡ Some v → v < 256 ^ width_of f.range
    → little_number (width_of f.range) (drop place (patched fs xs)) ≡ v
holds [] xs end place f v apart inside found known fits = absurd (cc (sym (nil place_of place) ∙ found))
holds (g ∷ gs) xs end place f v apart inside found known fits =
    let p = apart_here end g gs apart in
    elim (cases_eq g.place place) [
      | inl here ↦
          let is : Some g ≡ Some f = sym (same place_of place g gs here) ∙ found in
          let e : f ≡ g = cc is in
          let goal : RelocatedField → Type 0 = λ h. little_number (width_of h.range) (drop place (patched (g ∷ gs) xs)) ≡ v in
          let known' : fix_bits g ≡ Some v = ap fix_bits (sym e) ∙ known in
          let fits' : v < 256 ^ width_of g.range = subst (λ (h : RelocatedField). v < 256 ^ width_of h.range) e fits in
          subst goal (sym e) (subst (λ (k : ℕ). little_number (width_of g.range) (drop k (patched (g ∷ gs) xs)) ≡ v) here (first_holds g gs xs v p.1 inside known' fits'))
      | inr differ ↦
          let left : first_at place_of place gs ≡ Some f = sym (other place_of place g gs differ) ∙ found in
          ap (λ (ys : List ℕ). little_number (width_of f.range) (drop place ys)) (patched-cons g gs xs)
          ∙ holds gs (with_bits g (fix_bits g) xs) (g.place + width_of g.range) place f v p.1 (inside_still g gs xs inside) left known fits
    ]

clear_side : (place width k : ℕ) (f : RelocatedField) → (place + width ≤ f.place) ⊎ (f.place + width_of f.range ≤ place) → k < width → (place + k < f.place) ⊎ (f.place + width_of f.range ≤ place + k)
clear_side place width k f (inl h) low = inl (omega (arith, h, low))
clear_side place width k f (inr h) low = inr (omega (arith, h, low))

clear_free : (place width k : ℕ) (fs : List RelocatedField) → IsFree place width fs → k < width → Clear (place + k) fs
clear_free place width k [] free low = tt
clear_free place width k (f ∷ fs) free low = (clear_side place width k f free.0 low, clear_free place width k fs free.1 low)

-- a field that no other covers holds what it held
pub holds_still : (fs : List RelocatedField) (xs : List ℕ) (place width : ℕ) → AreInside (length xs) fs → IsFree place width fs → little_number width (drop place (patched fs xs)) ≡ little_number width (drop place xs)
holds_still fs xs place width inside free =
    same_number width 0 (drop place (patched fs xs)) (drop place xs)
    (λ k low high.
    get_or-drop place (patched fs xs) k 0
    ∙ keeps fs xs (place + k) inside (clear_free place width k fs free (omega (arith, high)))
    ∙ sym (get_or-drop place xs k 0))
