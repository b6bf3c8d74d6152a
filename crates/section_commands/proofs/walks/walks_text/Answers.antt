use Rattle.std.proofs.Common.{◌≡◌, ◌<◌, ◌++◌, ℕ, List, [], length, drop, inl, inr, ap, sym, ◌∙◌, arith}
use Rattle.std.proofs.lemmas.Bool.{eqb-true}
use Rattle.std.proofs.lemmas.List.{append-nil, drop_all}
use Rattle.sf_model.specs.Walk.{Listing, ThreadState, look_up_walk}
use Rattle.core_notes.specs.declared.status.Thread.{Thread}
use Rattle.core_notes.specs.Memory.{file_regions}
use Rattle.core_parts.specs.Input.{input_file}
use Rattle.section_commands.specs.Walks.{HasOneMore, walks_text}
use Rattle.section_commands.proofs.WalkTexts.{no_walk, one_more_text}
use Rattle.section_commands.proofs.walks.walks_text.Goals as goal

pub loop-thread-preserved : goal.loop-thread-preserved
loop-thread-preserved g c =
    let before = c.loop-thread.invariant in
    let one : HasOneMore _ _ _ _ = c.in_ok-push_walk.ensures in
    let lt : c.loop-thread.thread-index < length c.deref-thread-items.result.now = omega arith in
    record {
      file = before.file;
      part = before.part;
      threads = before.threads;
      few = before.few;
      count = omega (arith, before.count);
      text =
          one_more_text (g.L.LookUp.found_at c.args.rows.now) c.args.depth _ _ _ c.loop-thread.number c.loop-thread.thread-index c.deref-thread-items.result.now _ _ _ _ lt before.file c.in_ok-push_walk.ensures before.text;
      parts = λ some. elim (one.parts some) [
        | inl earlier ↦ before.parts earlier
        | inr part ↦ sym before.part ∙ part
      ];
    }

pub returns-then-is_empty-clause-text : goal.returns-then-is_empty-clause-text
returns-then-is_empty-clause-text g c =
    let walk_of : ThreadState → Listing = λ thread. look_up_walk (g.L.LookUp.found_at c.args.rows.now) thread (file_regions (input_file c.args.core.now)) c.args.depth in
    let before = c.loop-thread.invariant in
    let none : drop c.loop-thread.thread-index c.deref-thread-items.result.now ≡ [] = drop_all c.loop-thread.thread-index c.deref-thread-items.result.now (omega arith) in
    let text = c.loop-thread.walks.text.items in
    let missed = c.loop-thread.walks.missed in
    let len = eqb-true missed.len 0 (sym c.is_empty.ensures ∙ c.if-is_empty.true) in
    let empty : length missed.items ≡ 0 = omega (arith, len, missed.ok.0) in
    sym (append-nil text) ∙ ap (λ (t : List ℕ). text ++ t) (sym (no_walk walk_of c.loop-thread.number))
    ∙ ap (λ (ts : List Thread). text ++ walks_text walk_of c.loop-thread.number ts) (sym none) ∙ before.text empty
