use Rattle.std.proofs.Common.{◌≡◌, List, ℕ, Bool, true, None, Result, Ok, ap, sym, subst, ◌∙◌}
use Rattle.sf_model.specs.declared.machine.Arch.{Arch}
use Rattle.elf_read.specs.Header.{arch_of}
use Rattle.sf_decode.specs.declared.fault.DecodeFault.{DecodeFault}
use Rattle.sf_decode.specs.View.{table_of}
use Rattle.core_notes.specs.declared.fault.CoreFault.{CoreFault}
use Rattle.core_notes.specs.Checks.{core_check}
use Rattle.core_parts.specs.Loaded.{core_read_bytes}
use Rattle.sf_merge.specs.Merging.{same_arch}
use Rattle.section_commands.specs.declared.made.Outcome.TheVariants.{Done}
use Rattle.section_commands.specs.Coming.{Coming, Makes}
use Rattle.section_commands.specs.Walk.{WalkComesFrom, coming_of_walks}
use Rattle.section_commands.specs.Walks.{table_walks}
use Rattle.section_commands.proofs.walk.walk_made.Goals as goal

pub returns-clause-comes : goal.returns-clause-comes
returns-clause-comes c =
    let section = c.args.section.now in
    let at = c.args.at in
    let core = core_read_bytes c.args.core.now in
    let depth = c.args.depth in
    let table = table_of c.in-Ok.view in
    let coming : Coming = Makes Done None c.in_ok-text.text.items in
    let text : c.in_ok-text.text.items ≡ table_walks table core depth =
    c.in_ok-text.ensures.text ∙ ap (λ (file : List ℕ). table_walks table file depth) c.in-Ok-parse.ensures.bytes in
    let same : same_arch table.arch (arch_of core) ≡ true =
    ap (λ (a : Arch). same_arch table.arch a) (ap arch_of (sym c.in-Ok-parse.ensures.bytes) ∙ sym c.arch-2.ensures) ∙ ap (λ (a : Arch). same_arch a c.arch-2.result) (sym c.arch.ensures)
    ∙ sym c.same_machine.ensures ∙ c.if-not-same_machine.false in
    subst (λ (check : Result (Unit {0}) DecodeFault). WalkComesFrom at section core depth check (core_check core) coming) c.in-Ok.ensures.exact
    (subst (λ (check : Result (Unit {0}) CoreFault). WalkComesFrom at section core depth (Ok tt) check coming) c.in-Ok-parse.ensures.exact
    record { table = table; of_bytes = c.in-Ok.ensures.sound; is = ap (Makes Done None) text ∙ ap (λ (b : Bool). coming_of_walks b (table_walks table core depth)) (sym same) })
