-- What equal recoveries mean.
use Rattle.std.proofs.Common.{◌≡◌, ℕ, ◌+◌, ◌-◌, ◌<◌, ◌%◌, ◌^◌, w32, w64, ℤ, pos, Bool, true, false, IsTrue, [], FitsSigned, of_z, refl, ap, sym, ◌∙◌, arith}
use Rattle.std.specs.Prelude.{suc, negsuc, Option, Some, None, if◌then◌else◌, nat_le, is_none, is_some}
use Rattle.std.specs.Prelude.{unwrap_or}
use Rattle.sf_model.specs.declared.machine.Arch.{Arch}
use Rattle.sf_model.specs.declared.machine.Arch.TheVariants.{Amd64, Aarch64}
use Rattle.sf_model.specs.declared.machine.Base.{Base}
use Rattle.sf_model.specs.declared.machine.Base.TheVariants.{Fp, Sp}
use Rattle.sf_model.specs.declared.machine.Key.{Key}
use Rattle.sf_model.specs.declared.content.Ra.{Ra}
use Rattle.sf_model.specs.declared.content.Ra.TheVariants.{Fixed, Link, At}
use Rattle.sf_model.specs.declared.content.Content.{Content}
use Rattle.sf_model.specs.Content.{content_fits, return_fits, OffsetsInRange, ReturnInRange, PointerInRange}
use Rattle.sf_model.specs.Memory.{read_eight}
use Rattle.sf_model.specs.Recovery.{moved, Value, Known, Unreadable, Recovery, saved_value, saved_at, saved_or_kept, base_value, frame_address_of, return_place, pointer_place, key_if_signed, recovery, deciding_registers}
use Rattle.sf_model.proofs.Addresses.{moved_by}

-- numbers below 2^64 that lead from one address to the same one are equal
wraps_once : (a x y : ℕ) → x < 2 ^ 64 → y < 2 ^ 64 → (a + x) % 2 ^ 64 ≡ (a + y) % 2 ^ 64 → x ≡ y
wraps_once a x y p q e = omega arith

low_complement : (m n : ℕ) → m < 2 ^ 31 → n < 2 ^ 31 → 2 ^ 64 - suc m ≡ 2 ^ 64 - suc n → m ≡ n
low_complement m n p q e = omega arith

apart_complement : (m n : ℕ) → m < 2 ^ 31 → n < 2 ^ 31 → m ≡ 2 ^ 64 - suc n → ⊥
apart_complement m n p q e = omega arith

low : (n : ℕ) → n < 2 ^ 31 → n < 2 ^ 64
low n p = omega arith

complement_low : (n : ℕ) → 2 ^ 64 - suc n < 2 ^ 64
complement_low n = omega arith

-- the two's complement in 64 bits of a number of 32 bits
bits_low : (z : ℤ) → FitsSigned w32 z → of_z w64 z < 2 ^ 64
bits_low (pos n) fits = low n fits.sfits
bits_low (negsuc n) fits = complement_low n

bits_same : (y z : ℤ) → FitsSigned w32 y → FitsSigned w32 z → of_z w64 y ≡ of_z w64 z → y ≡ z
bits_same (pos m) (pos n) p q e = ap pos e
bits_same (pos m) (negsuc n) p q e = absurd (apart_complement m n p.sfits q.sfits e)
bits_same (negsuc m) (pos n) p q e = absurd (apart_complement n m q.sfits p.sfits (sym e))
bits_same (negsuc m) (negsuc n) p q e = ap negsuc (low_complement m n p.sfits q.sfits e)

-- one address moved to the same one was moved by the same number
moved_same : (a : ℕ) (y z : ℤ) → FitsSigned w32 y → FitsSigned w32 z → moved a y ≡ moved a z → y ≡ z
moved_same a y z p q e =
    bits_same y z p q (wraps_once a (of_z w64 y) (of_z w64 z) (bits_low y p) (bits_low z q) (moved_by a y p ∙ (e ∙ sym (moved_by a z q))))

-- 0 and 2^40 are too far apart to be moved to the same address
far_apart : (m n : ℕ) → m < 2 ^ 31 → n < 2 ^ 31 → (0 + m) % 2 ^ 64 ≡ (2 ^ 40 + n) % 2 ^ 64 → ⊥
far_apart m n p q e = omega arith

far_apart_down : (m n : ℕ) → m < 2 ^ 31 → n < 2 ^ 31 → (0 + m) % 2 ^ 64 ≡ (2 ^ 40 + (2 ^ 64 - suc n)) % 2 ^ 64 → ⊥
far_apart_down m n p q e = omega arith

far_apart_up : (m n : ℕ) → m < 2 ^ 31 → n < 2 ^ 31 → (0 + (2 ^ 64 - suc m)) % 2 ^ 64 ≡ (2 ^ 40 + n) % 2 ^ 64 → ⊥
far_apart_up m n p q e = omega arith

far_apart_both : (m n : ℕ) → m < 2 ^ 31 → n < 2 ^ 31 → (0 + (2 ^ 64 - suc m)) % 2 ^ 64 ≡ (2 ^ 40 + (2 ^ 64 - suc n)) % 2 ^ 64 → ⊥
far_apart_both m n p q e = omega arith

bits_apart : (y z : ℤ) → FitsSigned w32 y → FitsSigned w32 z → (0 + of_z w64 y) % 2 ^ 64 ≡ (2 ^ 40 + of_z w64 z) % 2 ^ 64 → ⊥
bits_apart (pos m) (pos n) p q e = far_apart m n p.sfits q.sfits e
bits_apart (pos m) (negsuc n) p q e = far_apart_down m n p.sfits q.sfits e
bits_apart (negsuc m) (pos n) p q e = far_apart_up m n p.sfits q.sfits e
bits_apart (negsuc m) (negsuc n) p q e = far_apart_both m n p.sfits q.sfits e

bases_apart : (y z : ℤ) → FitsSigned w32 y → FitsSigned w32 z → moved 0 y ≡ moved (2 ^ 40) z → ⊥
bases_apart y z p q e = bits_apart y z p q (moved_by 0 y p ∙ (e ∙ sym (moved_by (2 ^ 40) z q)))

-- the canonical frame address determines the base and its offset
frames_same : (b c : Base) (y z : ℤ) → FitsSigned w32 y → FitsSigned w32 z
    → moved (base_value b deciding_registers) y ≡ moved (base_value c deciding_registers) z → (b ≡ c) × (y ≡ z)
frames_same Fp Fp y z p q e = (refl, moved_same (2 ^ 40) y z p q e)
frames_same Fp Sp y z p q e = absurd (bases_apart z y q p (sym e))
frames_same Sp Fp y z p q e = absurd (bases_apart y z p q e)
frames_same Sp Sp y z p q e = (refl, moved_same 0 y z p q e)

true_is_not_false : true ≡ false → ⊥
true_is_not_false e = cc

pub not_true : IsTrue false → ⊥
not_true e = cc

-- an empty memory holds nothing
none_anyway : (b : Bool) (x : Option ℕ) → x ≡ None → (if b then x else None) ≡ None
none_anyway true x e = e
none_anyway false x e = refl

pub read_nowhere : (address : ℕ) → read_eight [] address ≡ None
unfolding read_eight
read_nowhere address = none_anyway (nat_le (address + 8) (2 ^ 64)) None refl

saved_nowhere : (address : ℕ) → saved_at [] address ≡ Unreadable address
saved_nowhere address = ap (saved_value address) (read_nowhere address)

address_of : Value → ℕ
address_of (Known value) = value
address_of (Unreadable address) = address

is_known : Value → Bool
is_known (Known value) = true
is_known (Unreadable address) = false

places_same : (x y : ℕ) → saved_at [] x ≡ saved_at [] y → x ≡ y
unfolding address_of
places_same x y e = ap address_of (sym (saved_nowhere x) ∙ (e ∙ saved_nowhere y))

kept_or_saved : (present x : ℕ) → Known present ≡ saved_at [] x → ⊥
unfolding is_known
kept_or_saved present x e = true_is_not_false (ap is_known (e ∙ saved_nowhere x))

-- the return addresses of two contents of one machine, above one canonical frame address
returns_same : (arch : Arch) (r s : Ra) (f g v w : Bool) (c : ℕ) → ReturnInRange r → ReturnInRange s → IsTrue (return_fits arch r f v) → IsTrue (return_fits arch s g w)
    → saved_or_kept [] 0 (return_place r c) ≡ saved_or_kept [] 0 (return_place s c) → r ≡ s
returns_same Amd64 Fixed Fixed f g v w c p q a b e = refl
returns_same Amd64 Fixed Link f g v w c p q a b e = absurd (not_true b)
returns_same Amd64 Fixed (At n) f g v w c p q a b e = absurd (not_true b)
returns_same Amd64 Link s f g v w c p q a b e = absurd (not_true a)
returns_same Amd64 (At m) s f g v w c p q a b e = absurd (not_true a)
returns_same Aarch64 Fixed s f g v w c p q a b e = absurd (not_true a)
returns_same Aarch64 Link Fixed f g v w c p q a b e = absurd (not_true b)
returns_same Aarch64 Link Link f g v w c p q a b e = refl
returns_same Aarch64 Link (At n) f g v w c p q a b e = absurd (kept_or_saved 0 (moved c n) e)
returns_same Aarch64 (At m) Fixed f g v w c p q a b e = absurd (not_true b)
returns_same Aarch64 (At m) Link f g v w c p q a b e = absurd (kept_or_saved 0 (moved c m) (sym e))
returns_same Aarch64 (At m) (At n) f g v w c p q a b e = ap At (moved_same c m n p q (places_same (moved c m) (moved c n) e))

pointers_same : (x y : Option ℤ) (c : ℕ) → PointerInRange x → PointerInRange y
    → saved_or_kept [] (2 ^ 40) (pointer_place x c) ≡ saved_or_kept [] (2 ^ 40) (pointer_place y c) → x ≡ y
pointers_same None None c p q e = refl
pointers_same None (Some n) c p q e = absurd (kept_or_saved (2 ^ 40) (moved c n) e)
pointers_same (Some m) None c p q e = absurd (kept_or_saved (2 ^ 40) (moved c m) (sym e))
pointers_same (Some m) (Some n) c p q e = ap (λ z. Some z) (moved_same c m n p q (places_same (moved c m) (moved c n) e))

keys_same : (v w : Bool) (j k : Key) → key_if_signed v j ≡ key_if_signed w k → (v ≡ w) × (IsTrue v → j ≡ k)
keys_same false false j k e = (refl, λ h. absurd (not_true h))
keys_same false true j k e = absurd (true_is_not_false (ap is_some (sym e)))
keys_same true false j k e = absurd (true_is_not_false (ap is_some e))
keys_same true true j k e = (refl, λ h. ap (λ o. unwrap_or o j) e)

abbrev content_of : Base → ℤ → Ra → Option ℤ → Bool → Content
content_of base cfa ra fp signed = record { base = base; cfa = cfa; ra = ra; fp = fp; signed = signed }

pub by_fields : (a b : Content) → a.base ≡ b.base → a.cfa ≡ b.cfa → a.ra ≡ b.ra → a.fp ≡ b.fp → a.signed ≡ b.signed → a ≡ b
by_fields a b p q r s t =
    ap (λ x. content_of x a.cfa a.ra a.fp a.signed) p ∙ (ap (λ x. content_of b.base x a.ra a.fp a.signed) q ∙ (ap (λ x. content_of b.base b.cfa x a.fp a.signed) r
    ∙ (ap (λ x. content_of b.base b.cfa b.ra x a.signed) s ∙ ap (λ x. content_of b.base b.cfa b.ra b.fp x) t)))

-- two contents of one machine that recover alike in the deciding case are equal, and their keys where they are signed
pub same_contents : (arch : Arch) (a b : Content) (j k : Key) → OffsetsInRange a → OffsetsInRange b → IsTrue (content_fits arch a) → IsTrue (content_fits arch b)
    → recovery a j deciding_registers [] ≡ recovery b k deciding_registers [] → (a ≡ b) × (IsTrue a.signed → j ≡ k)
unfolding recovery
same_contents arch a b j k p q f g e =
    let frame : frame_address_of a deciding_registers ≡ frame_address_of b deciding_registers = ap (λ (r : Recovery). r.frame_address) e in
    let same : (a.base ≡ b.base) × (a.cfa ≡ b.cfa) = frames_same a.base b.base a.cfa b.cfa p.frame_address q.frame_address frame in
    let c : ℕ = frame_address_of b deciding_registers in
    let return : saved_or_kept [] 0 (return_place a.ra (frame_address_of a deciding_registers)) ≡ saved_or_kept [] 0 (return_place b.ra c) = ap (λ (r : Recovery). r.return_address) e in
    let pointer : saved_or_kept [] (2 ^ 40) (pointer_place a.fp (frame_address_of a deciding_registers)) ≡ saved_or_kept [] (2 ^ 40) (pointer_place b.fp c) = ap (λ (r : Recovery). r.frame_pointer) e in
    let key : key_if_signed a.signed j ≡ key_if_signed b.signed k = ap (λ (r : Recovery). r.signed) e in
    let signed : (a.signed ≡ b.signed) × (IsTrue a.signed → j ≡ k) = keys_same a.signed b.signed j k key in
    let ra : a.ra ≡ b.ra = returns_same arch a.ra b.ra (is_none a.fp) (is_none b.fp) a.signed b.signed c p.return_address q.return_address f g
    (ap (λ x. saved_or_kept [] 0 (return_place a.ra x)) (sym frame) ∙ return) in
    let fp : a.fp ≡ b.fp = pointers_same a.fp b.fp c p.frame_pointer q.frame_pointer (ap (λ x. saved_or_kept [] (2 ^ 40) (pointer_place a.fp x)) (sym frame) ∙ pointer) in
    (by_fields a b same.0 same.1 ra fp signed.0, signed.1)
