use Rattle.std.proofs.Common.{◌∙◌, ap, ltb, leb, take, List, rules}
use Rattle.std.proofs.lemmas.List.Sorted.{IsPartitionPoint-from_clause, IsPartitionedBy-ltb, IsPartitionedBy-leb, IsNonDecreasingBy-drop}
use Rattle.elf_place.specs.Relocations.{target_of}
use Rattle.elf_place.specs.declared.relocations.RelocationSection.{RelocationSection}
use Rattle.elf_place.proofs.WithTarget.{run_is}
use Rattle.elf_place.proofs.relocations.with_target.Goals as goal

pub returns : goal.returns
returns c =
    let t = c.args.target in
    let xs = c.args.list.now in
    let i = c.partition_point-start.result in
    let j = c.partition_point-count.result in
    let rest = c.split_at.ensures.back in
    let below = IsPartitionPoint-from_clause (λ (s : RelocationSection). ltb (target_of s) t) xs i c.partition_point-start.ensures.partitioned (IsPartitionedBy-ltb target_of xs t c.requires) (λ a r q k. search rules) in
    let upto = IsPartitionPoint-from_clause (λ (s : RelocationSection). leb (target_of s) t) c.split_at.result.1.now j c.partition_point-count.ensures.partitioned
    (IsPartitionedBy-leb target_of c.split_at.result.1.now t (rw rest (IsNonDecreasingBy-drop target_of i xs c.requires)))
    (λ a r q k. search rules) in
    c.split_at-2.ensures.front ∙ ap (λ (ys : List RelocationSection). take j ys) rest
    ∙ run_is t i j xs c.partition_point-start.ensures.bound (rw (← rest) c.partition_point-count.ensures.bound) below (rw rest at upto)
