use Rattle.std.proofs.Common.{ℕ, List}
use Rattle.core_parts.specs.Whole.{AreRead, IsHeadOf, IsWholeOf}
use Rattle.core_parts.proofs.HeadSound.{each_read, head_is}
use Rattle.core_parts.proofs.core_head.head_of.Goals as goal

pub returns-clause-head : goal.returns-clause-head
returns-clause-head c =
    each_read (AreRead c.in-Some.header.now c.in-Some-part_at.table.now c.in-Some-part_at-2.notes.now c.args.file.now.len)
    (λ head. (whole : List ℕ) → IsWholeOf c.args.file.now whole → IsHeadOf head whole)
    (λ head read whole is. head_is whole c.in-Some.header.now c.in-Some-part_at.table.now c.in-Some-part_at-2.notes.now c.args.file.now.len head is.len (c.in-Some.ensures whole is) (c.in-Some-part_at.ensures whole is) (c.in-Some-part_at-2.ensures whole is) read)
    c.head_by.result c.head_by.ensures.head
