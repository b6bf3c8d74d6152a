use Rattle.std.proofs.Common.{ℕ, Some, None, sym, ap, ◌∙◌}
use Rattle.sf_model.specs.declared.recovery.Recovered.{Recovered}
use Rattle.sf_model.specs.declared.walk.Frame.{Frame}
use Rattle.sf_model.specs.Walk.{behind, frame_by}
use Rattle.core_walk.specs.Step.{on_with}
use Rattle.core_walk.proofs.Steps.{recover_found, recovered_by}
use Rattle.core_walk.proofs.step.step.Goals as goal

pub returns-in_default : goal.returns-in_default
returns-in_default g c = λ go.
    let memory = g.M.Memory.regions c.args.mem.now in
    ap (frame_by go c.args.mask c.args.asked c.args.at.now.pc) (recovered_by (g.L.LookUp.found_at c.args.rows.now) memory c.args.asked c.args.at.now.regs None c.in_default.ensures.found)

pub returns : goal.returns
returns g c = λ go.
    let memory = g.M.Memory.regions c.args.mem.now in
    let regs = c.args.at.now.regs in
    let found = c.in-Some.found in
    let r = recover_found memory regs found in
    let frame : Frame = record { pc = c.args.at.now.pc; cfa = Some r.frame_address } in
    ap (frame_by go c.args.mask c.args.asked c.args.at.now.pc) (recovered_by (g.L.LookUp.found_at c.args.rows.now) memory c.args.asked regs (Some (c.in-Some.arch, found)) c.in-Some.ensures.found)
    ∙ ap (behind frame) (c.caller_of.ensures found.func.key regs memory c.recover-recovered.ensures go)
    ∙ ap (λ (n : ℕ). behind (record { pc = c.args.at.now.pc; cfa = Some n }) (on_with go c.caller_of.result)) (sym (ap (λ (x : Recovered). x.cfa) c.recover-recovered.ensures))
