use Rattle.std.proofs.Common.{rules, ◌<◌, nat_le, arith, sym, ◌∙◌}
use Rattle.std.proofs.lemmas.List.Sorted.{IsPartitionPoint-from_clause}
use Rattle.sf_c.specs.declared.modules.KiblawenModule.{KiblawenModule}
use Rattle.sf_c.proofs.Reached.{Reaches, answers_last, answers_none, answers_not, starts_parted}
use Rattle.sf_c.proofs.modules.Modules.view_at.Goals as goal

pub returns-then-reached-eq0 : goal.returns-then-reached-eq0
returns-then-reached-eq0 c =
    let modules = c.args.self.now.modules.now in
    let point : Reaches modules c.args.address c.partition_point-reached.result =
    IsPartitionPoint-from_clause (λ (m : KiblawenModule). nat_le m.start c.args.address) modules c.partition_point-reached.result c.partition_point-reached.ensures.partitioned
    (starts_parted modules c.args.address c.args.self.now.in_order) (λ a r q k. search rules) in
    answers_none modules c.args.address c.partition_point-reached.result point c.if-reached-eq0.true

pub returns-then-holds : goal.returns-then-holds
returns-then-holds c =
    let modules = c.args.self.now.modules.now in
    let reached = c.partition_point-reached.result in
    let point : Reaches modules c.args.address reached =
    IsPartitionPoint-from_clause (λ (m : KiblawenModule). nat_le m.start c.args.address) modules reached c.partition_point-reached.ensures.partitioned
    (starts_parted modules c.args.address c.args.self.now.in_order) (λ a r q k. search rules) in
    let some : 0 < reached = omega (c.if-reached-eq0.false, arith) in
    answers_last modules c.args.address reached c.index-self-reached.result c.view.result c.args.self.now.in_order point some c.partition_point-reached.ensures.bound
    (sym c.holds.ensures ∙ c.if-holds.true) c.view.ensures.functions

pub returns-else-holds : goal.returns-else-holds
returns-else-holds c =
    let modules = c.args.self.now.modules.now in
    let reached = c.partition_point-reached.result in
    let point : Reaches modules c.args.address reached =
    IsPartitionPoint-from_clause (λ (m : KiblawenModule). nat_le m.start c.args.address) modules reached c.partition_point-reached.ensures.partitioned
    (starts_parted modules c.args.address c.args.self.now.in_order) (λ a r q k. search rules) in
    let some : 0 < reached = omega (c.if-reached-eq0.false, arith) in
    answers_not modules c.args.address reached c.index-self-reached.result c.args.self.now.in_order point some c.partition_point-reached.ensures.bound
    (sym c.holds.ensures ∙ c.if-holds.false)
