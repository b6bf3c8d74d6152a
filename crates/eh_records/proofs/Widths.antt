-- The width of a usable encoding is that of its format.
use Rattle.std.proofs.Common.{◌≡◌, ℕ, ◌<◌, ◌^◌, Bool, true, false, cond, Option, Some, None, ap, sym, ◌∙◌}
use Rattle.std.specs.Prelude.{IsTrue}
use Rattle.std.proofs.lemmas.Bool.{eqb-true}
use Rattle.eh_pointer.specs.Pointer.{usable_width, pointer_width}
use Rattle.eh_records.specs.Width.{is_width, is_usable_width}

width_is : (o : Option ℕ) (w : ℕ) → IsTrue (is_width o w) → o ≡ Some w
width_is None w h = absurd cc
width_is (Some v) w h = ap (λ (n : ℕ). Some n) (eqb-true v w h)

pub usable_is : (encoding w : ℕ) → IsTrue (is_usable_width encoding w) → usable_width encoding ≡ Some w
usable_is encoding w h = width_is (usable_width encoding) w h

chosen : (b : Bool) (o : Option ℕ) (w : ℕ) → cond b o None ≡ Some w → o ≡ Some w
chosen true o w e = e
chosen false o w e = absurd cc

pub pointer_is : (encoding w : ℕ) → IsTrue (is_usable_width encoding w) → pointer_width encoding ≡ Some w
unfolding usable_width
pointer_is encoding w h = chosen _ (pointer_width encoding) w (usable_is encoding w h)

abbrev some : ℕ → Option ℕ
some n = Some n

some_is : (a b : ℕ) → some a ≡ some b → a ≡ b
some_is a b e = cc

-- bits that fit a field fit the width of its format
pub fits_format : (encoding w x bits : ℕ) → IsTrue (is_usable_width encoding w) → pointer_width encoding ≡ Some x → bits < 256 ^ w → bits < 256 ^ x
fits_format encoding w x bits h e lt =
    let same : w ≡ x = some_is w x (sym (pointer_is encoding w h) ∙ e) in
    rw (← same) lt
