use Rattle.frame_functions.specs.CallFrames.{bare_section}
use Rattle.frame_functions.proofs.FunctionsOfSection.{alone}
use Rattle.sf_asm.proofs.reading.read_bare.Goals as goal

pub returns-clause-exact : goal.returns-clause-exact
returns-clause-exact c = rw (alone c.args.arch c.args.item (bare_section c.args.bytes.now c.args.base)) c.read_section.ensures.exact
