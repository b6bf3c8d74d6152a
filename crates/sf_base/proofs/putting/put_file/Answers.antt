use Rattle.std.proofs.Common.{refl, ◌∙◌, rules, arith}
use Rattle.sf_base.proofs.Growing.{more_grown}
use Rattle.sf_base.proofs.putting.put_file.Goals as goal

pub loop-done-preserved : goal.loop-done-preserved
loop-done-preserved g c =
    let done = c.loop-done.invariant in
    let ok = c.in_ok-done.ensures in
    let files = g.F.Files in
    record {
      within = omega (arith, ok.within);
      grown = more_grown ((files.seen c.args.files.now).contents) _ ((files.seen c.write.new.self).contents) ((files.seen c.args.files.now).created_name) _ c.args.bytes.now c.loop-done.done c.in_ok-done.field-0 done.created_name done.grown ok.grows;
      later = ok.cause.done refl ∙ done.later;
      created = ok.created ∙ done.created;
      created_name = ok.created_name ∙ done.created_name;
      opened = search rules;
      may_open = ok.may_open ∙ done.may_open;
      may_create = ok.may_create ∙ done.may_create;
      read_faults = ok.read_faults ∙ done.read_faults;
      failed_name = ok.failed_name ∙ done.failed_name;
    }
