use Rattle.std.proofs.Common.{◌≡◌, ℕ, ◌<◌, ◌-◌, nat_le, length, get_or, rules, arith, sym, ◌∙◌}
use Rattle.std.proofs.lemmas.Bool.{ltb-true}
use Rattle.std.proofs.lemmas.List.{get_or_default}
use Rattle.std.proofs.lemmas.List.Sorted.{IsPartitionPoint-from_clause}
use Rattle.sf_c.specs.Order.{IsIndex, module_start}
use Rattle.sf_c.proofs.Ordered.{Reaches, by_index, last_has, last_has_not, none_has, past_fails, starts_parted}
use Rattle.sf_c.proofs.indexed.IndexedModules.index_of.Goals as goal

pub returns-then-reached-eq0 : goal.returns-then-reached-eq0
returns-then-reached-eq0 c =
    let modules = c.args.self.now.modules.now in
    let order = c.args.self.now.order.now in
    let point : IsIndex modules order → Reaches modules order c.args.address c.partition_point-reached.result =
    λ index. IsPartitionPoint-from_clause (λ (k : ℕ). nat_le (module_start modules k) c.args.address) order c.partition_point-reached.result c.partition_point-reached.ensures.partitioned
    (starts_parted modules order c.args.address index) (λ a r q k. search rules) in
    by_index modules order _ _ c.args.self.now.indexed (λ index. none_has modules order c.args.address c.partition_point-reached.result index (point index) c.if-reached-eq0.true)

pub returns-in_default : goal.returns-in_default
returns-in_default c =
    let modules = c.args.self.now.modules.now in
    let order = c.args.self.now.order.now in
    let reached = c.partition_point-reached.result in
    let some : 0 < reached = omega (c.if-reached-eq0.false, arith) in
    by_index modules order _ _ c.args.self.now.indexed (λ index. past_fails modules order c.args.address reached index some c.partition_point-reached.ensures.bound c.in_default.ensures.lookup.3)

pub returns-then-holds : goal.returns-then-holds
returns-then-holds c =
    let modules = c.args.self.now.modules.now in
    let order = c.args.self.now.order.now in
    let reached = c.partition_point-reached.result in
    let last = get_or order (reached - 1) 0 in
    let point : IsIndex modules order → Reaches modules order c.args.address reached =
    λ index. IsPartitionPoint-from_clause (λ (k : ℕ). nat_le (module_start modules k) c.args.address) order reached c.partition_point-reached.ensures.partitioned
    (starts_parted modules order c.args.address index) (λ a r q k. search rules) in
    let some : 0 < reached = omega (c.if-reached-eq0.false, arith) in
    let itself : get_or order (reached - 1) last ≡ last = get_or_default order (reached - 1) last 0 (omega (some, c.partition_point-reached.ensures.bound, arith)) in
    by_index modules order _ _ c.args.self.now.indexed
    (λ index. last_has modules order c.args.address reached last c.in-Some.module.now index (point index) some c.partition_point-reached.ensures.bound itself
    (ltb-true last (length modules) (sym c.in-Some.ensures.lookup.0)) (sym c.in-Some.ensures.lookup.1) (sym c.holds.ensures ∙ c.if-holds.true))

pub returns-else-holds : goal.returns-else-holds
returns-else-holds c =
    let modules = c.args.self.now.modules.now in
    let order = c.args.self.now.order.now in
    let reached = c.partition_point-reached.result in
    let last = get_or order (reached - 1) 0 in
    let point : IsIndex modules order → Reaches modules order c.args.address reached =
    λ index. IsPartitionPoint-from_clause (λ (k : ℕ). nat_le (module_start modules k) c.args.address) order reached c.partition_point-reached.ensures.partitioned
    (starts_parted modules order c.args.address index) (λ a r q k. search rules) in
    let some : 0 < reached = omega (c.if-reached-eq0.false, arith) in
    let itself : get_or order (reached - 1) last ≡ last = get_or_default order (reached - 1) last 0 (omega (some, c.partition_point-reached.ensures.bound, arith)) in
    by_index modules order _ _ c.args.self.now.indexed
    (λ index. last_has_not modules order c.args.address reached last c.in-Some.module.now index (point index) some c.partition_point-reached.ensures.bound itself
    (sym c.in-Some.ensures.lookup.1) (sym c.holds.ensures ∙ c.if-holds.false))
