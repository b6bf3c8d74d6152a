use Rattle.std.proofs.Common.{map, ap, ◌∙◌, arith}
use Rattle.std.proofs.lemmas.List.{take_all}
use Rattle.sf_words.specs.declared.loaded.Loaded.{Loaded}
use Rattle.sf_words.specs.Items.{item_of}
use Rattle.sf_run.proofs.Inputs.{input_at, loaded_object, loaded_objects, not_input}
use Rattle.sf_run.proofs.linked.inputs_in.Goals as goal

pub unreachable-requires : goal.unreachable-requires
unreachable-requires c =
    let here = input_at c.args.loaded.now c.requires.0 c.loop-file.file-index c.file-item.result c.requires.1 c.loop-file-test.true in
    not_input c.file-item.result.item here.0 (ap (λ (f : Loaded). item_of f.item) c.file-item.is ∙ here.1) c.in_default.not-Input

pub returns : goal.returns
returns c inputs are =
    c.loop-file.invariant ∙ ap (map loaded_object) (take_all c.loop-file.file-index c.args.loaded.now (omega (arith, c.loop-file-test.false))) ∙ loaded_objects c.args.loaded.now inputs are
