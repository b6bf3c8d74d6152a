use Rattle.std.proofs.Common.{Bor, ℕ, List, Option, sym, subst}
use Rattle.std.specs.Option.{option_map}
use Rattle.sf_run.specs.Ends.{file_line}
use Rattle.sf_run.specs.Lines.{Says}
use Rattle.sf_run.proofs.deliver.print_file.Goals as goal

pub returns-in-Some : goal.returns-in-Some
returns-in-Some g c =
    subst (λ (file : Option (Bor (List ℕ))). Says (g.E.Sink.seen c.args.err.now) (g.E.Sink.seen c.print_name.new.sink) (file_line (option_map (λ name. name.now) file))) (sym c.in-Some.is) c.print_name.ensures
