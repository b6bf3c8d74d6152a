use Rattle.std.proofs.Common.{◌≡◌, ◌≤◌, ltb, ltb-true, ltb-false, sym, ap, ◌∙◌, get_or, arith, rules, is_some}
use Rattle.std.proofs.lemmas.List.Sorted.{IsPartitionPoint-from_clause, IsPartitionedBy-ltb}
use Rattle.elf_reloc.proofs.First.{found, missed, past}
use Rattle.elf_reloc.proofs.order.find_at.Goals as goal
use Rattle.elf_reloc.proofs.order.find_at.Goals.{in_default-via-in-Some+else-place, in_default-via-in_default}

pub returns-in-Some : goal.returns-in-Some
returns-in-Some g c =
    let number = g.P.HasPlace.place_in in
    let parted = IsPartitionedBy-ltb number c.args.list.now c.args.place c.requires in
    let point = IsPartitionPoint-from_clause (λ (x : g.row.P.Denot). ltb (g.P.HasPlace.place_in x) c.args.place) c.args.list.now c.partition_point-i.result c.partition_point-i.ensures.partitioned parted (λ a r q k. search rules) in
    found number c.args.place c.args.list.now c.partition_point-i.result c.in-Some.found.now point.0
    (ltb-true _ _ (sym c.in-Some.ensures.lookup.0)) c.in-Some.ensures.lookup.1 (sym c.place.ensures ∙ c.if-place.true)

pub returns-in_default : goal.returns-in_default
returns-in_default g c =
    let number = g.P.HasPlace.place_in in
    let parted = IsPartitionedBy-ltb number c.args.list.now c.args.place c.requires in
    let point = IsPartitionPoint-from_clause (λ (x : g.row.P.Denot). ltb (g.P.HasPlace.place_in x) c.args.place) c.args.list.now c.partition_point-i.result c.partition_point-i.ensures.partitioned parted (λ a r q k. search rules) in
    elim c.in_default.branch [
      | in_default-via-in-Some+else-place w ↦
          let within = ltb-true _ _ (sym w.in-Some.ensures.lookup.0) in
          let there : number w.in-Some.found.now ≡ number (get_or c.args.list.now c.partition_point-i.result w.in-Some.found.now) = ap number w.in-Some.ensures.lookup.1 in
          let above : c.args.place ≤ number (get_or c.args.list.now c.partition_point-i.result w.in-Some.found.now) = ltb-false _ _ (point.1 c.partition_point-i.result w.in-Some.found.now (omega arith) within) in
          missed number c.args.place c.args.list.now c.partition_point-i.result w.in-Some.found.now c.requires point.0
          within w.in-Some.ensures.lookup.1 (omega (arith, above, there)) (λ e. w.if-place.false (w.place.ensures ∙ e))
      | in_default-via-in_default w ↦
          past number c.args.place c.args.list.now c.partition_point-i.result point.0
          (ltb-false _ _ (sym c.get.ensures.lookup.0 ∙ ap (λ o. is_some o) w.in_default.is))
    ]
