use Rattle.std.proofs.Common.{arith}
use Rattle.sf_decode.proofs.Joined.{view_stands}
use Rattle.sf_decode.proofs.laws.bytes_are_a_section.Goals as goal

pub returns : goal.returns
returns c = view_stands c.args.bytes.now c.args.at (λ k. omega (c.type_inv.bytes k, arith)) c.requires
