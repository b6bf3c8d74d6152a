use Rattle.std.proofs.Common.{sym}
use Rattle.frame_functions.proofs.Relocating.{unchanged_bits}
use Rattle.frame_functions.proofs.overlay.OverlayValues.bits.Goals as goal

pub returns-in-Unchanged-clause-value : goal.returns-in-Unchanged-clause-value
returns-in-Unchanged-clause-value c = rw c.in-Unchanged.is (sym (unchanged_bits c.args.field.place c.args.field.width c.args.field.raw))
