use Rattle.std.proofs.Common.{◌∙◌, refl, arith}
use Rattle.sf_base.proofs.Growing.{more_appended}
use Rattle.sf_base.proofs.putting.put_all.Goals as goal

pub loop-done-preserved : goal.loop-done-preserved
loop-done-preserved g c =
    let done = c.loop-done.invariant in
    let sink = g.S.Sink in
    record {
      within = omega (arith, c.in_ok-done.ensures.within);
      appended = more_appended ((sink.seen c.args.sink.now).written) _ ((sink.seen c.write.new.self).written) c.args.bytes.now c.loop-done.done c.in_ok-done.field-0 done.appended c.in_ok-done.ensures.appends;
      later = c.in_ok-done.ensures.cause.done refl ∙ done.later;
    }
