use Rattle.std.proofs.Common.{◌∙◌, arith}
use Rattle.std.proofs.lemmas.Bool.{lt-leb}
use Rattle.core_notes.specs.Memory.{file_regions}
use Rattle.core_parts.specs.Partial.{partial_file}
use Rattle.core_parts.proofs.PartReads.{eight_held, none_too_high}
use Rattle.core_parts.proofs.partial_memory.PartialMemory.holds.Goals as goal

pub returns-then-address : goal.returns-then-address
returns-then-address c =
    c.holds_bytes.ensures ∙ eight_held (file_regions (partial_file c.args.self.now.core.now)) c.args.address (omega (c.if-address.true, arith))

pub returns-else-address : goal.returns-else-address
returns-else-address c =
    lt-leb c.args.address 18446744073709551608 c.if-address.false
    ∙ none_too_high (file_regions (partial_file c.args.self.now.core.now)) c.args.address (omega (c.if-address.false, arith))
