use Rattle.std.proofs.Common.{List, map, sym, subst, ◌∙◌}
use Rattle.std.proofs.lemmas.List.{get_or_default, take_all}
use Rattle.sf_modules.specs.declared.entry.Entry.{Entry}
use Rattle.sf_modules.specs.Entry.{mapping_view}
use Rattle.sf_modules.specs.Stretch.{AreOf}
use Rattle.sf_modules.proofs.Stretched.{entry_has_number, one_more}
use Rattle.sf_modules.proofs.stretch.stretches_of.Goals as goal

pub unreachable-requires : goal.unreachable-requires
unreachable-requires c = entry_has_number c.args.entries.now c.loop-entry.entry-index _ c.loop-entry-test.true (sym (c.in-None.ensures.value ∙ c.requires _))

pub loop-entry-preserved : goal.loop-entry-preserved
loop-entry-preserved c =
    let entries = c.args.entries.now in
    let i = c.loop-entry.entry-index in
    one_more (map mapping_view entries) entries i _ c.in-Some.number.now c.loop-entry.stretches.items c.push.new.self.items c.stretch_of.result c.loop-entry-test.true (get_or_default entries i _ _ c.loop-entry-test.true)
    (sym (c.in-Some.ensures.value ∙ c.requires _)) c.stretch_of.ensures c.in_ok-push.ensures.items c.loop-entry.invariant

pub returns : goal.returns
returns c =
    let entries = c.args.entries.now in
    subst (λ (es : List Entry). AreOf (map mapping_view entries) (map mapping_view es) c.loop-entry.stretches.items) (take_all c.loop-entry.entry-index entries c.loop-entry-test.false) c.loop-entry.invariant
