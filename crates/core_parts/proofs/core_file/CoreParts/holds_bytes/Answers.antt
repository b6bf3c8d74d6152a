use Rattle.std.specs.Prelude.{is_some}
use Rattle.std.proofs.Common.{◌≡◌, List, length, true, sym, ap, subst, ◌∙◌}
use Rattle.sf_model.specs.Memory.{Region}
use Rattle.core_notes.specs.MemoryBytes.{bytes_at}
use Rattle.core_parts.specs.declared.segment.SegmentHead.{SegmentHead}
use Rattle.core_parts.specs.Heads.{heads_lie, memory_in}
use Rattle.core_parts.proofs.PartReads.{bytes_held}
use Rattle.core_parts.proofs.Windows.{same_memory}
use Rattle.core_parts.proofs.core_file.CoreParts.holds_bytes.Goals as goal

pub returns : goal.returns
returns c = λ whole is.
    let heads = c.args.self.now.head.heads.items in
    let lie : heads_lie (length whole) heads ≡ true = ap (λ len. heads_lie len heads) is.len ∙ c.args.self.now.lie in
    c.any_holds.ensures
    ∙ bytes_held whole c.args.address c.args.len c.deref.result.now (subst (λ (hs : List SegmentHead). heads_lie (length whole) hs ≡ true) (sym c.deref.ensures.value) lie)
    ∙ ap (λ (hs : List SegmentHead). is_some (bytes_at (memory_in whole hs) c.args.address c.args.len)) c.deref.ensures.value
    ∙ ap (λ (memory : List Region). is_some (bytes_at memory c.args.address c.args.len)) (sym (same_memory whole heads (c.args.self.now.segments_are whole is)))
