-- Signal frames, by the rules of their functions.
use Rattle.std.proofs.Common.{◌≡◌, ℤ, w64, FitsSigned, List, ◌++◌, Option, Some, None, sym, ap, subst, ◌∙◌, IfSome}
use Rattle.sf_model.specs.declared.facts.FdeFacts.{FdeFacts}
use Rattle.sf_model.specs.declared.machine.Arch.{Arch}
use Rattle.cfa_insn.specs.Listing.{Item}
use Rattle.signal_frames.specs.declared.frame.SignalFrame.{SignalFrame}
use Rattle.signal_frames.specs.Rules.{Expression, Other, Rule, RulesView}
use Rattle.signal_frames.specs.Run.{no_rules, rules_by}
use Rattle.signal_frames.specs.SignalFrame.{HaveConstants, IsSavedAt, IsSignal, IsSignalFrame, IsValueAt, latest_rules}
use Rattle.signal_frames.proofs.Running.{after-none, complete, sound}

-- what has the constants of the rules is the function's signal frame
pub found : (arch : Arch) (facts : FdeFacts) (initial own : List Item) (rules : RulesView) (f : SignalFrame) → IsSignal arch facts → Some rules ≡ rules_by (initial ++ own) no_rules → HaveConstants rules f
    → IsSignalFrame arch facts initial own f
found arch facts initial own rules f signal e h =
    let ran = sound (initial ++ own) no_rules rules (sym e) in
    record {
      signal = signal;
      instructions = ran.instructions;
      are = ran.are;
      one_row = ran.one_row;
      constants = subst (λ (r : RulesView). HaveConstants r f) (ran.result_is ∙ after-none ran.instructions) h;
    }

pub found_if : (arch : Arch) (facts : FdeFacts) (initial own : List Item) (rules : RulesView) (result : Option SignalFrame) → IsSignal arch facts → Some rules ≡ rules_by (initial ++ own) no_rules
    → IfSome result (λ (f : SignalFrame). HaveConstants rules f) → IfSome result (λ (f : SignalFrame). IsSignalFrame arch facts initial own f)
found_if arch facts initial own rules None signal e h = tt
found_if arch facts initial own rules (Some f) signal e h = found arch facts initial own rules f signal e h

-- the rules of a function that has a signal frame
pub has_rules : (arch : Arch) (facts : FdeFacts) (initial own : List Item) (f : SignalFrame) (h : IsSignalFrame arch facts initial own f) → rules_by (initial ++ own) no_rules ≡ Some (latest_rules h.instructions)
has_rules arch facts initial own f h =
    complete (initial ++ own) h.instructions no_rules h.are h.one_row ∙ ap (λ (r : RulesView). Some r) (after-none h.instructions)

pub has_constants : (arch : Arch) (facts : FdeFacts) (initial own : List Item) (rules : RulesView) (f : SignalFrame) → Some rules ≡ rules_by (initial ++ own) no_rules → IsSignalFrame arch facts initial own f → HaveConstants rules f
has_constants arch facts initial own rules f e h =
    let same : Some rules ≡ Some (latest_rules h.instructions) = e ∙ has_rules arch facts initial own f h in
    let is : rules ≡ latest_rules h.instructions = cc in
    subst (λ (r : RulesView). HaveConstants r f) (sym is) h.constants

-- a constant is a number of 64 signed bits
pub value_fits : (constant : ℤ) (rule : Option Rule) → IsValueAt constant rule → FitsSigned w64 constant
value_fits constant (Some (Expression bytes)) h = h.is_constant.fits
value_fits constant (Some Other) h = absurd h
value_fits constant None h = absurd h

pub saved_fits : (constant : ℤ) (rule : Option Rule) → IsSavedAt constant rule → FitsSigned w64 constant
saved_fits constant (Some (Expression bytes)) h = h.is_constant.fits
saved_fits constant (Some Other) h = absurd h
saved_fits constant None h = absurd h
