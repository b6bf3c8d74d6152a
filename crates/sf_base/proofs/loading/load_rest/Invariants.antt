use Rattle.std.proofs.Common.{◌≡◌, ◌≤◌, ◌-◌, ◌+◌, ◌++◌, vec_len, IsTrue}
use Rattle.std.specs.Option.{IfSome}
use Rattle.sf_base.proofs.loading.load_rest.Given as goal

-- the bytes so far and what is left to read are what was left
abbrev pub invariant-loop-bytes : goal.invariant-loop-bytes
invariant-loop-bytes g l =
    let files = g.F.Files in
    record {
      within : vec_len l.bytes ≤ l.limit;
      opened : IsTrue (files.opened l.files);
      told : IfSome ((files.seen l.fn.files).contents) (λ told. l.bytes.items ++ files.rest l.files ≡ files.rest l.fn.files);
      opened_name : files.opened_name l.files ≡ files.opened_name l.fn.files;
      same : files.seen l.files ≡ files.seen l.fn.files;
      may_open : files.may_open l.files ≡ files.may_open l.fn.files;
      may_create : files.may_create l.files ≡ files.may_create l.fn.files;
    }

abbrev pub decreases-loop-bytes : goal.decreases-loop-bytes
decreases-loop-bytes g l = l.limit + 1 - vec_len l.bytes
