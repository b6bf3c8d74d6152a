use Rattle.std.specs.Iterator.{YieldsFirst}
use Rattle.std.proofs.Common.{◌≡◌, ◌+◌, ◌<◌, ℕ, List, ◌∷◌, Option, Some, None, length, drop, get_or, sym, ap, ◌∙◌, arith}
use Rattle.std.proofs.lemmas.List.{drop-drop, drop_more, length-drop}
use Rattle.core_notes.specs.declared.iter.ThreadIter.{ThreadIter}
use Rattle.core_notes.specs.declared.status.Thread.{Thread}
use Rattle.core_notes.specs.Views.{threads_left, threads_of}
use Rattle.core_notes.proofs.view.Core.thread.Goals as goal

-- a call of `next` leaves all but the first
after_next : (s t : ThreadIter) (r : Option Thread) → YieldsFirst threads_left s r t → threads_left t ≡ drop 1 (threads_left s)
after_next s t None h = h.1 ∙ sym (ap (drop 1) h.0)
after_next s t (Some x) h = sym (ap (drop 1) h)

first_left : (xs ys : List Thread) (i : ℕ) (x d : Thread) → i < length xs → x ∷ ys ≡ drop i xs → get_or xs i d ≡ x
first_left xs ys i x d lt e = let same : x ∷ ys ≡ get_or xs i d ∷ drop (i + 1) xs = e ∙ drop_more xs i d lt in cc

pub loop-passed-preserved : goal.loop-passed-preserved
loop-passed-preserved c =
    after_next c.loop-passed.threads c.next.new.self c.next.result c.next.ensures.steps ∙ ap (drop 1) c.loop-passed.invariant
    ∙ drop-drop 1 c.loop-passed.passed (threads_of c.args.self.now)

pub unreachable-requires : goal.unreachable-requires
unreachable-requires c =
    let xs = threads_of c.args.self.now in
    let none : length (drop c.loop-passed.passed xs) ≡ 0 = ap length (sym c.loop-passed.invariant ∙ c.in-None.ensures.steps.0) in
    omega (none, length-drop c.loop-passed.passed xs, c.requires, c.loop-passed.auto.passed-end, arith)

pub returns : goal.returns
returns c = λ d.
    let xs = threads_of c.args.self.now in
    let all : c.loop-passed.passed ≡ c.args.i = omega (c.loop-passed.auto.passed-end, c.loop-passed-test.false, arith) in
    first_left xs (threads_left c.next-2.new.self) c.args.i c.in-Some.thread d c.requires
    (sym c.in-Some.ensures.steps ∙ c.loop-passed.invariant ∙ ap (λ (k : ℕ). drop k xs) all)
