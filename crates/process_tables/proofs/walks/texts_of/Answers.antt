use Rattle.process_tables.proofs.walks.texts_of.Goals.{in-Whole+in_ok-text_of-in-Whole+in_ok-extend_from_slice-in-Whole, in-Missed+in_ok-push-in-Missed}
use Rattle.std.proofs.Common.{◌≡◌, ◌<◌, ◌+◌, ◌++◌, ℕ, List, Vec, Global, None, true, drop, get_or, length, vec_len, map, arith, rules, sym, subst, ◌∙◌, ap}
use Rattle.std.proofs.lemmas.Bool.{eqb-true}
use Rattle.std.proofs.lemmas.List.{append-nil, drop_all, drop_more, length-append}
use Rattle.core_notes.specs.declared.status.Thread.{Thread}
use Rattle.core_notes.specs.Memory.{file_regions}
use Rattle.core_parts.specs.Input.{is_part, memory_file}
use Rattle.core_walk.specs.Walk.{thread_state}
use Rattle.sf_text.specs.FileFrames.{file_frames_text}
use Rattle.sf_text.specs.Frames.{numbered_lines}
use Rattle.process_walk.specs.Process.{entries_in}
use Rattle.process_walk.specs.Walk.{ProcessListing, listing}
use Rattle.process_tables.specs.declared.walks.ThreadWalk.{ThreadWalk}
use Rattle.process_tables.specs.Texts.{Walking, frame_shown, thread_text}
use Rattle.process_tables.specs.Views.{rows_walk}
use Rattle.process_tables.specs.Walked.{IsThreadWalk}
use Rattle.process_tables.proofs.Lines.{next_line, no_line}
use Rattle.process_tables.proofs.walks.texts_of.Goals as goal

pub overflow_add-number : goal.overflow_add-number
overflow_add-number c = omega (arith, c.requires, c.loop-thread.invariant.number, c.loop-thread-test.true)

-- what is at no index
abbrev no_thread : Thread
no_thread = record { pid = 0; pc = 0; regs = record { sp = 0; fp = 0; lr = 0 }; mask = None }

pub loop-thread-preserved : goal.loop-thread-preserved
loop-thread-preserved c =
    let process = c.args.process.now in
    let entries = entries_in process in
    let threads = c.args.threads.now in
    let i = c.loop-thread.thread-index in
    let thread = get_or threads i no_thread in
    let memory = c.args.memory.now in
    let walk_of : Walking = λ thread. rows_walk process thread (file_regions (memory_file memory)) c.args.depth in
    let so_far = c.loop-thread.invariant in
    elim c.match-branch-2.branch [
      | in-Whole+in_ok-text_of-in-Whole+in_ok-extend_from_slice-in-Whole w ↦
          let before = c.loop-thread.text.items in
          let same : c.match-branch-2.missed ≡ c.loop-thread.missed = w.missed-is in
          let items : List ℕ = w.in_ok-text_of-in-Whole.field-0.items in
          let walked : listing w.in-Whole.walk ≡ walk_of (thread_state thread) =
          subst (λ (walked : ThreadWalk). IsThreadWalk (walk_of (thread_state thread)) (is_part memory) walked) w.in-Whole.is c.in_ok-walk.ensures in
          let grown : c.match-branch-2.text.items ≡ before ++ items =
          ap (λ (v : Vec ℕ Global). v.items) w.text-is ∙ (w.in_ok-extend_from_slice-in-Whole).ensures.items ∙ ap (λ (b : List ℕ). before ++ b) w.deref.ensures.value in
          record {
            number = omega (arith, so_far.number);
            missed = λ some. so_far.missed (subst (λ (v : Vec ℕ Global). 0 < length v.items) same some);
            text = λ modules are in_order none.
                next_line (thread_text entries modules walk_of) before c.match-branch-2.text.items items c.loop-thread.number thread (drop i threads) (drop (i + 1) threads) _
                (drop_more threads i no_thread c.loop-thread-test.true)
                (w.in_ok-text_of-in-Whole.ensures modules are in_order
                ∙ ap (λ (l : ProcessListing). file_frames_text c.loop-thread.number thread.pid (map (frame_shown entries modules) l.frames) l.stop) walked)
                grown (so_far.text modules are in_order (subst (λ (v : Vec ℕ Global). length v.items ≡ 0) same none));
          }
      | in-Missed+in_ok-push-in-Missed w ↦
          let same : c.match-branch-2.missed ≡ w.push.new.self = w.missed-is in
          let grown = simp length-append at (ap length w.in_ok-push-in-Missed.ensures.items) in
          let part : is_part memory ≡ true = subst (λ (walked : ThreadWalk). IsThreadWalk (walk_of (thread_state thread)) (is_part memory) walked) w.in-Missed.is c.in_ok-walk.ensures in
          record {
            number = omega (arith, so_far.number);
            missed = λ some. part;
            text = λ modules are in_order none. let e : length w.push.new.self.items ≡ 0 = subst (λ (v : Vec ℕ Global). length v.items ≡ 0) same none in absurd (omega (arith, e, grown));
          }
    ]

pub returns-then-is_empty : goal.returns-then-is_empty
returns-then-is_empty c modules are in_order =
    let walk_of : Walking = λ thread. rows_walk c.args.process.now thread (file_regions (memory_file c.args.memory.now)) c.args.depth in
    let line = thread_text (entries_in c.args.process.now) modules walk_of in
    let text = c.loop-thread.text.items in
    let long : vec_len c.loop-thread.missed ≡ length c.loop-thread.missed.items = search rules in
    let none = sym long ∙ eqb-true (vec_len c.loop-thread.missed) 0 (sym c.if-is_empty.ensures) in
    sym (append-nil text) ∙ ap (λ (t : List ℕ). text ++ t) (sym (no_line line c.loop-thread.number))
    ∙ ap (λ (ts : List Thread). text ++ numbered_lines line c.loop-thread.number ts) (sym (drop_all c.loop-thread.thread-index c.args.threads.now c.loop-thread-test.false))
    ∙ c.loop-thread.invariant.text modules are in_order none
