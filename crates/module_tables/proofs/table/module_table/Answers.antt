use Rattle.std.proofs.Common.{List, subst}
use Rattle.frame_functions.specs.Functions.{Function}
use Rattle.sf_asm.specs.Functions.{bytes_of, form_of}
use Rattle.module_tables.specs.Signals.{AreSignals}
use Rattle.module_tables.proofs.Formed.{table_of}
use Rattle.module_tables.proofs.table.module_table.Goals as goal

pub returns-in-Ok-clause-table : goal.returns-in-Ok-clause-table
returns-in-Ok-clause-table c =
    let made = c.in_ok-made.made in
    let all = c.in_ok-made.ensures.linked in
    table_of (form_of c.args.file) (bytes_of c.args.file) c.args.base c.args.at made.linked.section.items made.linked.kept made.linked.omitted.items made.linked.plts.items c.in-Ok.signals.items c.requires.form all.linked
    (subst (λ (fs : List Function). AreSignals fs c.in-Ok.signals.items) all.descriptions_are c.in-Ok.ensures)
