use Rattle.std.proofs.Common.{◌≡◌, ◌≤◌, ◌-◌, length, take, false, cond, eqb}
use Rattle.sf_base.specs.Contents.{Grows}
use Rattle.sf_base.proofs.putting.put_file.Given as goal

-- the first bytes are appended
abbrev pub invariant-loop-done : goal.invariant-loop-done
invariant-loop-done g l =
    let files = g.F.Files in
    record {
      within : l.done ≤ length l.bytes;
      grown : Grows ((files.seen l.fn.files).contents) ((files.seen l.files).contents) ((files.seen l.fn.files).created_name) (take l.done l.bytes);
      later : (files.seen l.files).write_faults ≡ (files.seen l.fn.files).write_faults;
      created : (files.seen l.files).created ≡ (files.seen l.fn.files).created;
      created_name : (files.seen l.files).created_name ≡ (files.seen l.fn.files).created_name;
      opened : files.opened l.files ≡ cond (eqb l.done 0) (files.opened l.fn.files) false;
      may_open : files.may_open l.files ≡ files.may_open l.fn.files;
      may_create : files.may_create l.files ≡ files.may_create l.fn.files;
      read_faults : (files.seen l.files).read_faults ≡ (files.seen l.fn.files).read_faults;
      failed_name : (files.seen l.files).failed_name ≡ (files.seen l.fn.files).failed_name;
    }

abbrev pub decreases-loop-done : goal.decreases-loop-done
decreases-loop-done g l = length l.bytes - l.done
