-- What words that ask for a command say of it: one input at least.
use Rattle.std.proofs.Common.{ℕ, ◌<◌, List, length, subst}
use Rattle.sf_words.specs.Forms.{NameInputs, SectionAndInputs}
use Rattle.sf_words.specs.Words.{IsInputWord}
use Rattle.sf_words.proofs.NamedWords.{as_long}
use Rattle.sf_run.specs.Backtrace.{BacktraceWords, IsBacktrace}

pub named_inputs : (command : List ℕ) (words : List (List ℕ)) (named : SectionAndInputs) → NameInputs command words named → 0 < length named.inputs
named_inputs command words named h = subst (λ (n : ℕ). 0 < n) (as_long IsInputWord h.input_words named.inputs h.inputs) h.some

pub backtrace_inputs : (words : List (List ℕ)) (backtrace : BacktraceWords) → IsBacktrace words backtrace → 0 < length backtrace.inputs
backtrace_inputs words backtrace h = subst (λ (n : ℕ). 0 < n) (as_long IsInputWord h.input_words backtrace.inputs h.inputs) h.some
