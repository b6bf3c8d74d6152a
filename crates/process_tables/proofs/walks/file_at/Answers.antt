use Rattle.std.specs.Option.{option_map}
use Rattle.std.proofs.Common.{◌≡◌, ◌<◌, List, None, Some, length, map, sym, ap, ◌∙◌, arith}
use Rattle.sf_modules.specs.Module.{ModuleView}
use Rattle.sf_modules.specs.Span.{module_number_at}
use Rattle.sf_text.specs.FileFrames.{FileView, file_view}
use Rattle.process_walk.specs.Process.{entries_in}
use Rattle.process_tables.specs.Texts.{file_shown}
use Rattle.process_tables.specs.Views.{section_view}
use Rattle.process_tables.proofs.Lookups.{as_many, module_of_number, numbered, unnumbered}
use Rattle.process_tables.proofs.walks.file_at.Goals as goal

pub returns-in_err-number : goal.returns-in_err-number
returns-in_err-number c modules are in_order =
    let entries = entries_in c.args.process.now in
    let none : None ≡ module_number_at entries (map section_view modules) c.args.pc = c.in_err-number.ensures ∙ ap (λ (vs : List ModuleView). module_number_at entries vs c.args.pc) in_order in
    ap (option_map file_view) c.from_residual.ensures ∙ sym (ap (option_map file_shown) (unnumbered entries modules c.args.pc (sym none)))

pub returns-in_err-made : goal.returns-in_err-made
returns-in_err-made c modules are in_order =
    let entries = entries_in c.args.process.now in
    let number = c.in_ok-number.number in
    let some : Some number ≡ module_number_at entries (map section_view modules) c.args.pc = c.in_ok-number.ensures ∙ ap (λ (vs : List ModuleView). module_number_at entries vs c.args.pc) in_order in
    let within : number < length modules = (numbered entries modules c.args.pc (Some number) (sym some)).0 in
    let count = as_many modules c.args.tables.now are in
    absurd (omega (within, count, c.in_err-made.ensures.lookup.3, arith))

pub returns : goal.returns
returns c modules are in_order =
    let entries = entries_in c.args.process.now in
    let number = c.in_ok-number.number in
    let some : Some number ≡ module_number_at entries (map section_view modules) c.args.pc = c.in_ok-number.ensures ∙ ap (λ (vs : List ModuleView). module_number_at entries vs c.args.pc) in_order in
    let found = module_of_number entries modules c.args.tables.now c.args.pc number c.in_ok-made.made.now are (sym some) c.in_ok-made.ensures.lookup.1 in
    ap (λ (v : FileView). Some v) (c.file_of.ensures found.0 found.1) ∙ sym (ap (option_map file_shown) found.2)
