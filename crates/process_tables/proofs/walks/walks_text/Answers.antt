use Rattle.std.proofs.Common.{map, ap, sym, ◌∙◌}
use Rattle.core_parts.specs.Input.{input_file, is_by_parts}
use Rattle.sf_modules.specs.Entry.{mapping_view}
use Rattle.process_walk.specs.Masks.{are_unmasked}
use Rattle.process_tables.proofs.Ordered.{IsOrdered, walks_in}
use Rattle.process_tables.proofs.walks.walks_text.Goals as goal

pub returns : goal.returns
returns c modules are in_sections =
    let process = c.in_ok-process.process in
    let entries = map mapping_view c.args.entries.now in
    let core = c.args.core.now in
    let threads = c.deref-3.result.now in
    let ordered : IsOrdered process entries modules threads = record {
      entries_are = c.in_ok-process.ensures.entries;
      modules_are = c.in_ok-process.ensures.modules ∙ in_sections;
      signals_are = c.in_ok-process.ensures.signals ∙ ap (map (λ s. s.now)) c.deref.ensures.value ∙ c.in_ok-signals.ensures modules are;
      masks_are = c.in_ok-process.ensures.threads ∙ ap are_unmasked (c.deref-2.ensures.value ∙ sym c.deref-3.ensures.value);
    } in
    walks_in process entries modules c.args.tables.now threads ordered are c.in_ok-memory.memory (input_file core) (is_by_parts core) c.args.depth c.texts_of.result
    c.in_ok-memory.ensures.file c.in_ok-memory.ensures.part (c.deref-3.ensures.value ∙ c.in_ok-threads.ensures.are) (c.texts_of.ensures modules are ordered.modules_are)
