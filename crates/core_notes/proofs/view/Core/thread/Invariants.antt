use Rattle.std.proofs.Common.{◌≡◌, drop}
use Rattle.core_notes.specs.Views.{threads_left, threads_of}
use Rattle.core_notes.proofs.view.Core.thread.Given as goal

abbrev pub invariant-loop-passed : goal.invariant-loop-passed
invariant-loop-passed l = threads_left l.threads ≡ drop l.passed (threads_of l.self)
