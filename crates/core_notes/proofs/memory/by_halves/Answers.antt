use Rattle.std.specs.Bool.{then_some}
use Rattle.std.specs.Option.{option_map}
use Rattle.std.proofs.Common.{◌≡◌, ◌<◌, ◌+◌, Bool, true, false, cond, Some, None, refl, sym, ap, subst, ◌∙◌, arith}
use Rattle.elf_read.specs.declared.entry.Segment.{Segment}
use Rattle.elf_read.specs.Views.{file}
use Rattle.elf_read.specs.Sections.{segment_count}
use Rattle.core_notes.specs.Memory.{IsCountUpto}
use Rattle.core_notes.specs.MemoryBytes.{is_bytes_holder}
use Rattle.core_notes.specs.Segment.{SegmentView, segment_view, segments}
use Rattle.core_notes.proofs.Rising.{last_reached, none_reached}
use Rattle.core_notes.proofs.Segments.{is_at, segments-length}
use Rattle.core_notes.proofs.memory.by_halves.Goals as goal

pub returns-in_err-i : goal.returns-in_err-i
returns-in_err-i c =
    let ss = segments (file c.args.elf.now) in
    let none : c.count_upto.result ≡ 0 = omega (c.in_err-i.ensures, arith) in
    ap (option_map segment_view) c.from_residual.ensures ∙ sym (none_reached c.args.address c.args.len ss (subst (IsCountUpto c.args.address ss) none c.count_upto.ensures))

seen : (b : Bool) (s : Segment) → option_map segment_view (then_some b s) ≡ cond b (Some (segment_view s)) None
seen true s = refl
seen false s = refl

pub returns : goal.returns
returns c =
    let bytes = file c.args.elf.now in
    let ss = segments bytes in
    let s = segment_view c.segment_at-segment.result in
    let one_less = c.in_ok-i.ensures in
    let count : c.count_upto.result ≡ c.in_ok-i.i + 1 = omega (one_less.0, one_less.1, arith) in
    let upto = subst (IsCountUpto c.args.address ss) count c.count_upto.ensures in
    let within : c.in_ok-i.i < segment_count bytes = omega (upto.within, segments-length bytes, arith) in
    ap (option_map segment_view) c.then_some.ensures ∙ seen c.is_holder.result c.segment_at-segment.result
    ∙ ap (λ (b : Bool). cond b (Some s) None) c.is_holder.ensures
    ∙ ap (λ (x : SegmentView). cond (is_bytes_holder c.args.address c.args.len x) (Some x) None) (sym (is_at bytes c.in_ok-i.i s s within c.segment_at-segment.ensures))
    ∙ sym (last_reached c.args.address c.args.len ss c.in_ok-i.i s c.requires.some c.requires.rise upto)
