use Rattle.std.proofs.Common.{sym, ap}
use Rattle.std.specs.Option.{option_map}
use Rattle.sf_model.specs.Recovery.{recovered}
use Rattle.sf_decode.specs.Kept.{functions_lent}
use Rattle.sf_c.specs.Sample.{stack_memory, registers_of}
use Rattle.sf_c.proofs.Empty.{nothing_recovered}
use Rattle.sf_c.proofs.recovering.recovered_in.Goals as goal

pub returns-in-None : goal.returns-in-None
returns-in-None c =
    ap (option_map recovered) (sym (nothing_recovered (functions_lent c.args.section.now) (stack_memory c.args.sample.now) c.args.sample.now.pc (registers_of c.args.sample.now) c.in-None.ensures.functions))
