-- The widths of the signed formats.
use Rattle.std.proofs.Common.{◌≡◌, ℕ, ◌%◌, Some, refl}
use Rattle.eh_pointer.specs.Pointer.{pointer_width}

pub width-sdata2 : (encoding : ℕ) → encoding % 16 ≡ 10 → pointer_width encoding ≡ Some 2
unfolding pointer_width
width-sdata2 encoding h = rw h refl

pub width-sdata4 : (encoding : ℕ) → encoding % 16 ≡ 11 → pointer_width encoding ≡ Some 4
unfolding pointer_width
width-sdata4 encoding h = rw h refl
