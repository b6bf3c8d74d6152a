use Rattle.std.specs.List.{slice_get}
use Rattle.std.proofs.Common.{◌∙◌, List, None, Some, refl, sym, ap}
use Rattle.std.proofs.lemmas.Option.{slice_get_past, slice_get_read}
use Rattle.process_walk.specs.declared.signals.OrderedSignals.{OrderedSignals}
use Rattle.process_walk.specs.Process.{entries_in, modules_in, signals_in}
use Rattle.process_walk.proofs.Located.{in_module, no_module}
use Rattle.process_walk.proofs.process.Process.signal_at.Goals as goal

pub returns-in_err-number : goal.returns-in_err-number
returns-in_err-number c = let p = c.args.self.now in c.from_residual.ensures ∙ no_module (entries_in p) (modules_in p) (signals_in p) c.args.pc c.in_err-number.ensures

pub returns-in_err-signals : goal.returns-in_err-signals
returns-in_err-signals c =
    let p = c.args.self.now in
    let number = c.in_ok-number.number in
    let lists = c.deref.result.now in
    c.from_residual-in_err-signals.ensures
    ∙ in_module (entries_in p) (modules_in p) p.signals.items c.args.pc number None c.in_ok-number.ensures
    (sym (slice_get_past lists number c.in_err-signals.ensures.lookup.3) ∙ ap (λ (xs : List OrderedSignals). slice_get xs number) c.deref.ensures.value)

pub returns : goal.returns
returns c =
    let p = c.args.self.now in
    let number = c.in_ok-number.number in
    let lists = c.deref.result.now in
    let found = c.in_ok-signals.ensures.lookup in
    c.signal_at.ensures
    ∙ in_module (entries_in p) (modules_in p) p.signals.items c.args.pc number (Some c.in_ok-signals.signals.now) c.in_ok-number.ensures
    (sym (slice_get_read lists _ number c.in_ok-signals.signals.now refl found.3.0 found.1) ∙ ap (λ (xs : List OrderedSignals). slice_get xs number) c.deref.ensures.value)
