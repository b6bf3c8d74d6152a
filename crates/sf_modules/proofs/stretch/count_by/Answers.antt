use Rattle.std.specs.Prelude.{nat_le}
use Rattle.std.proofs.Common.{arith, rules}
use Rattle.std.proofs.lemmas.Bool.{leb-true}
use Rattle.std.proofs.lemmas.List.Sorted.{IsPartitionPoint-from_clause, IsPartitionedBy-leb}
use Rattle.sf_modules.specs.declared.stretch.Stretch.{Stretch}
use Rattle.sf_modules.specs.Stretch.{point, start_point}
use Rattle.sf_modules.proofs.Stretched.{upto_point}
use Rattle.sf_modules.proofs.stretch.count_by.Goals as goal

pub returns-clause-by : goal.returns-clause-by
returns-clause-by c = λ k d lt.
    let at = point c.args.line c.args.address in
    let h = IsPartitionPoint-from_clause (λ (s : Stretch). nat_le (start_point s) at) c.args.stretches.now c.partition_point.result c.partition_point.ensures.partitioned
    (IsPartitionedBy-leb start_point c.args.stretches.now at c.requires) (λ a r f q. search rules) in
    leb-true _ at (h.0 k d (omega arith) lt)

pub returns-clause-any : goal.returns-clause-any
returns-clause-any c =
    let at = point c.args.line c.args.address in
    upto_point at c.partition_point.result c.args.stretches.now
    (IsPartitionPoint-from_clause (λ (s : Stretch). nat_le (start_point s) at) c.args.stretches.now c.partition_point.result c.partition_point.ensures.partitioned
    (IsPartitionedBy-leb start_point c.args.stretches.now at c.requires) (λ a r f q. search rules))
