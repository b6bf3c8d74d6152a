use Rattle.std.proofs.Common.{List, ◌++◌, ◌∷◌, [], sym, ap, ◌∙◌, arith}
use Rattle.std.proofs.lemmas.List.FromFn.{map-range_with_len_more}
use Rattle.elf_read.specs.Views.{file}
use Rattle.sf_lookup.specs.declared.span.Span.{Span}
use Rattle.std.proofs.Common.{Bool}
use Rattle.core_notes.specs.MemoryBytes.{load_span}
use Rattle.core_notes.proofs.memory_map.load_spans.Goals as goal

pub loop-i-preserved : goal.loop-i-preserved
loop-i-preserved c =
    let f = file c.args.elf.now in
    c.in_ok-push.ensures.items
    ∙ ap (λ (s : Span Bool). c.loop-i.spans.items ++ s ∷ []) c.load_span.ensures
    ∙ ap (λ (ss : List (Span Bool)). ss ++ load_span f c.loop-i.i ∷ []) c.loop-i.invariant
    ∙ sym (map-range_with_len_more (load_span f) 0 c.loop-i.i c.loop-i.i (omega arith))
