use Rattle.std.proofs.Common.{refl}
use Rattle.eh_pointer.specs.Pointer.{usable_width, pointer_width}
use Rattle.eh_records.proofs.augmentation.Augmentation.plain.Goals as goal

pub invariant_of-result : goal.invariant_of-result
unfolding usable_width pointer_width
invariant_of-result c = record { usable = refl; wide = refl }
