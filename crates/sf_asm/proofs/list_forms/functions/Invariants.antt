use Rattle.std.proofs.Common.{◌≡◌, take, map}
use Rattle.sf_write.specs.Stored.{stored_in}
use Rattle.sf_asm.proofs.list_forms.functions.Given as goal

abbrev pub invariant-loop-number : goal.invariant-loop-number
invariant-loop-number l = l.functions.items ≡ map (stored_in l.rows) (take l.number l.kept)
