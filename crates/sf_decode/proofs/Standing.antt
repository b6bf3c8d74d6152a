-- Runs of bytes at a place: those of numbers that are read there.
use Rattle.std.proofs.Common.{◌≡◌, ◌<◌, ◌≤◌, ℕ, zero, suc, ◌+◌, ◌-◌, ◌%◌, ℤ, pos, Bool, true, false, IsTrue, List, [], ◌∷◌, ◌++◌, length, refl, ap, sym, subst, ◌∙◌, arith, nat_lt, w32, of_z}
use Rattle.std.specs.Prelude.{negsuc, ◌-ℤ◌, if◌then◌else◌, take, drop, slice_index}
use Rattle.std.proofs.Math.IntN.{sub_ℕ}
use Rattle.std.proofs.Math.Seq.{take-add}
use Rattle.std.proofs.lemmas.Bool.{lt-ltb}
use Rattle.std.proofs.lemmas.List.{length-append, drop-drop, get_or-drop, get_or-take, length-take, get_or_past}
use Rattle.std.specs.Int.{byte_at}
use Rattle.byteorder.specs.Endian.{little_from, little_bytes, twos_complement}
use Rattle.byteorder.specs.Numbers.{little_from-lt, length-bytes_low_first}
use Rattle.sf_model.specs.Section.{AreBytes}
use Rattle.sf_model.specs.Width.{holds_signed, holds_unsigned, signed_bytes, unsigned_bytes, width_len}
use Rattle.sf_model.specs.RowBytes.{StandsAt}
use Rattle.sf_decode.specs.Row.{number_len, unsigned_in, signed_in}
use Rattle.sf_decode.proofs.Holds.{if_lt, lt_if, ge_if_not}

-- the lengths of the three widths
pub len_of_width : (w : ℕ) → w ≤ 2 → number_len w ≡ width_len w
len_of_width zero k = refl
len_of_width (suc zero) k = refl
len_of_width (suc (suc zero)) k = refl
len_of_width (suc (suc (suc w))) k = absurd (omega arith)

drop_cons : (xs : List ℕ) (p : ℕ) → p < length xs → drop p xs ≡ slice_index xs p ∷ drop (suc p) xs
drop_cons [] p lt = absurd (omega (lt, arith))
drop_cons (x ∷ xs) zero lt = refl
drop_cons (x ∷ xs) (suc p) lt = drop_cons xs p (omega (lt, arith))

-- a byte, and a run after it
pub stands_cons : (bytes : List ℕ) (p x : ℕ) (run : List ℕ) → p < length bytes → slice_index bytes p ≡ x → StandsAt bytes (suc p) run → StandsAt bytes p (x ∷ run)
stands_cons bytes p x run lt here later =
    ap (take (suc (length run))) (drop_cons bytes p lt)
    ∙ (ap (λ y. y ∷ take (length run) (drop (suc p) bytes)) here ∙ ap (λ l. x ∷ l) later)

-- a run, and another one after it
pub stands_append : (bytes : List ℕ) (p : ℕ) (a b : List ℕ) → StandsAt bytes p a → StandsAt bytes (p + length a) b → StandsAt bytes p (a ++ b)
stands_append bytes p a b x y =
    ap (λ n. take n (drop p bytes)) (length-append a b)
    ∙ (take-add (length a) (length b) (drop p bytes)
    ∙ (ap (λ l. l ++ take (length b) (drop (length a) (drop p bytes))) x
    ∙ ap (λ l. a ++ l) (ap (take (length b)) (drop-drop (length a) p bytes) ∙ y)))

-- the bytes of a number whose low part is read there
one_byte : (bytes : List ℕ) (p x : ℕ) → AreBytes bytes → p + 1 ≤ length bytes → x % 256 ≡ little_from p 1 bytes → StandsAt bytes p (little_bytes 1 x)
one_byte bytes p x all within e =
    let first : slice_index bytes p ≡ byte_at 0 x = omega (e, all p, arith) in
    stands_cons bytes p (byte_at 0 x) [] (omega (within, arith)) first refl

two_bytes : (bytes : List ℕ) (p x : ℕ) → AreBytes bytes → p + 2 ≤ length bytes → x % 65536 ≡ little_from p 2 bytes → StandsAt bytes p (little_bytes 2 x)
two_bytes bytes p x all within e =
    let first : slice_index bytes p ≡ byte_at 0 x = omega (e, all p, all (suc p), arith) in
    let second : slice_index bytes (suc p) ≡ byte_at 1 x = omega (e, all p, all (suc p), arith) in
    stands_cons bytes p (byte_at 0 x) (byte_at 1 x ∷ []) (omega (within, arith)) first
    (stands_cons bytes (suc p) (byte_at 1 x) [] (omega (within, arith)) second refl)

four_bytes : (bytes : List ℕ) (p x : ℕ) → AreBytes bytes → p + 4 ≤ length bytes → x % 4294967296 ≡ little_from p 4 bytes → StandsAt bytes p (little_bytes 4 x)
four_bytes bytes p x all within e =
    let first : slice_index bytes p ≡ byte_at 0 x = omega (e, all p, all (suc p), all (suc (suc p)), all (suc (suc (suc p))), arith) in
    let second : slice_index bytes (suc p) ≡ byte_at 1 x = omega (e, all p, all (suc p), all (suc (suc p)), all (suc (suc (suc p))), arith) in
    let third : slice_index bytes (suc (suc p)) ≡ byte_at 2 x = omega (e, all p, all (suc p), all (suc (suc p)), all (suc (suc (suc p))), arith) in
    let fourth : slice_index bytes (suc (suc (suc p))) ≡ byte_at 3 x = omega (e, all p, all (suc p), all (suc (suc p)), all (suc (suc (suc p))), arith) in
    stands_cons bytes p (byte_at 0 x) (byte_at 1 x ∷ byte_at 2 x ∷ byte_at 3 x ∷ []) (omega (within, arith)) first
    (stands_cons bytes (suc p) (byte_at 1 x) (byte_at 2 x ∷ byte_at 3 x ∷ []) (omega (within, arith)) second
    (stands_cons bytes (suc (suc p)) (byte_at 2 x) (byte_at 3 x ∷ []) (omega (within, arith)) third
    (stands_cons bytes (suc (suc (suc p))) (byte_at 3 x) [] (omega (within, arith)) fourth refl)))

-- an unsigned number that is read at a place is there, in its width
pub unsigned_stands : (bytes : List ℕ) (w p : ℕ) → AreBytes bytes → w ≤ 2 → p + width_len w ≤ length bytes → StandsAt bytes p (unsigned_bytes w (unsigned_in w p bytes))
unfolding unsigned_in
unsigned_stands bytes zero p all k within = one_byte bytes p (little_from p 1 bytes) all within (let small = little_from-lt p 1 bytes all in omega (small, arith))
unsigned_stands bytes (suc zero) p all k within = two_bytes bytes p (little_from p 2 bytes) all within (let small = little_from-lt p 2 bytes all in omega (small, arith))
unsigned_stands bytes (suc (suc zero)) p all k within = four_bytes bytes p (little_from p 4 bytes) all within (let small = little_from-lt p 4 bytes all in omega (small, arith))
unsigned_stands bytes (suc (suc (suc w))) p all k within = absurd (omega arith)

pub unsigned_held : (bytes : List ℕ) (w p : ℕ) → AreBytes bytes → w ≤ 2 → IsTrue (holds_unsigned (unsigned_in w p bytes) w)
unfolding unsigned_in
unsigned_held bytes zero p all k = if_lt (little_from p 1 bytes) 256 (little_from-lt p 1 bytes all)
unsigned_held bytes (suc zero) p all k = if_lt (little_from p 2 bytes) 65536 (little_from-lt p 2 bytes all)
unsigned_held bytes (suc (suc zero)) p all k = if_lt (little_from p 4 bytes) 4294967296 (little_from-lt p 4 bytes all)
unsigned_held bytes (suc (suc (suc w))) p all k = absurd (omega arith)

-- a signed number of a width, and the number in its bytes
record HasBits (w whole : ℕ) (z : ℤ) (x : ℕ) : Type 0 where
  held : IsTrue (holds_signed z w)
  bits : of_z w32 z % whole ≡ x

sub_below : (x w : ℕ) → x < w → sub_ℕ x w ≡ negsuc (w - suc x)
sub_below x w lt = rw (lt-ltb x w lt) refl

bits_of_one : (x : ℕ) (t : Bool) → nat_lt x 128 ≡ t → x < 256 → HasBits 0 256 (if t then pos x else pos x -ℤ pos 256) x
bits_of_one x true e lt = record { held = e; bits = omega (lt, arith) }
bits_of_one x false e lt =
    let high = ge_if_not x 128 e in
    let there : HasBits 0 256 (negsuc (256 - suc x)) x = record { held = if_lt (256 - suc x) 128 (omega (high, arith)); bits = omega (lt, arith) } in
    subst (λ z. HasBits 0 256 z x) (sym (sub_below x 256 lt)) there

bits_of_two : (x : ℕ) (t : Bool) → nat_lt x 32768 ≡ t → x < 65536 → HasBits 1 65536 (if t then pos x else pos x -ℤ pos 65536) x
bits_of_two x true e lt = record { held = e; bits = omega (lt, arith) }
bits_of_two x false e lt =
    let high = ge_if_not x 32768 e in
    let there : HasBits 1 65536 (negsuc (65536 - suc x)) x = record { held = if_lt (65536 - suc x) 32768 (omega (high, arith)); bits = omega (lt, arith) } in
    subst (λ z. HasBits 1 65536 z x) (sym (sub_below x 65536 lt)) there

bits_of_four : (x : ℕ) (t : Bool) → nat_lt x 2147483648 ≡ t → x < 4294967296 → HasBits 2 4294967296 (if t then pos x else pos x -ℤ pos 4294967296) x
bits_of_four x true e lt = record { held = e; bits = omega (lt, arith) }
bits_of_four x false e lt =
    let high = ge_if_not x 2147483648 e in
    let there : HasBits 2 4294967296 (negsuc (4294967296 - suc x)) x = record { held = if_lt (4294967296 - suc x) 2147483648 (omega (high, arith)); bits = omega (lt, arith) } in
    subst (λ z. HasBits 2 4294967296 z x) (sym (sub_below x 4294967296 lt)) there

-- a signed number that is read at a place is there, in its width
pub signed_stands : (bytes : List ℕ) (w p : ℕ) → AreBytes bytes → w ≤ 2 → p + width_len w ≤ length bytes → StandsAt bytes p (signed_bytes w (signed_in w p bytes))
unfolding signed_in
signed_stands bytes zero p all k within =
    one_byte bytes p (of_z w32 (twos_complement 1 (little_from p 1 bytes))) all within (bits_of_one (little_from p 1 bytes) _ refl (little_from-lt p 1 bytes all)).bits
signed_stands bytes (suc zero) p all k within =
    two_bytes bytes p (of_z w32 (twos_complement 2 (little_from p 2 bytes))) all within (bits_of_two (little_from p 2 bytes) _ refl (little_from-lt p 2 bytes all)).bits
signed_stands bytes (suc (suc zero)) p all k within =
    four_bytes bytes p (of_z w32 (twos_complement 4 (little_from p 4 bytes))) all within (bits_of_four (little_from p 4 bytes) _ refl (little_from-lt p 4 bytes all)).bits
signed_stands bytes (suc (suc (suc w))) p all k within = absurd (omega arith)

pub signed_held : (bytes : List ℕ) (w p : ℕ) → AreBytes bytes → w ≤ 2 → IsTrue (holds_signed (signed_in w p bytes) w)
unfolding signed_in
signed_held bytes zero p all k = (bits_of_one (little_from p 1 bytes) _ refl (little_from-lt p 1 bytes all)).held
signed_held bytes (suc zero) p all k = (bits_of_two (little_from p 2 bytes) _ refl (little_from-lt p 2 bytes all)).held
signed_held bytes (suc (suc zero)) p all k = (bits_of_four (little_from p 4 bytes) _ refl (little_from-lt p 4 bytes all)).held
signed_held bytes (suc (suc (suc w))) p all k = absurd (omega arith)

-- how long the bytes of a number are
pub length-unsigned : (w n : ℕ) → length (unsigned_bytes w n) ≡ width_len w
length-unsigned w n = length-bytes_low_first 0 (width_len w) n

pub length-signed : (w : ℕ) (z : ℤ) → length (signed_bytes w z) ≡ width_len w
length-signed w z = length-bytes_low_first 0 (width_len w) (of_z w32 z)

part_by : (bytes : List ℕ) (p len : ℕ) → AreBytes bytes → (k : ℕ) (t : Bool) → nat_lt k len ≡ t → slice_index (take len (drop p bytes)) k < 256
part_by bytes p len all k true e =
    let within : k < len = lt_if k len e in
    let same = get_or-take len (drop p bytes) k 0 within ∙ get_or-drop p bytes k 0 in
    omega (same, all (p + k), arith)
part_by bytes p len all k false e =
    let past : len ≤ k = ge_if_not k len e in
    let short = length-take len (drop p bytes) in
    let nothing = get_or_past (take len (drop p bytes)) k 0 (omega (short, past, arith)) in
    omega (nothing, arith)

-- a part of bytes is bytes
pub part_are_bytes : (bytes : List ℕ) (p len : ℕ) → AreBytes bytes → AreBytes (take len (drop p bytes))
part_are_bytes bytes p len all k = part_by bytes p len all k (nat_lt k len) refl
