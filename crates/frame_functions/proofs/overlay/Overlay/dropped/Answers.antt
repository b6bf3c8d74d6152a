use Rattle.std.proofs.Common.{sym}
use Rattle.frame_functions.proofs.Relocating.{nothing_dropped}
use Rattle.frame_functions.proofs.overlay.Overlay.dropped.Goals as goal

pub returns-in-Unchanged : goal.returns-in-Unchanged
returns-in-Unchanged c = rw c.in-Unchanged.is (sym (nothing_dropped c.args.field.place c.args.field.width))
