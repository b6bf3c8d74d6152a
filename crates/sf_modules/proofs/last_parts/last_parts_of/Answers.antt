use Rattle.std.specs.Prelude.{bytes_eq}
use Rattle.std.specs.BTreeMap as tree
use Rattle.std.specs.Cmp.Lexicographic.{slice_cmp}
use Rattle.std.specs.List.{position_from}
use Rattle.std.specs.Ordering.{nat_cmp}
use Rattle.std.proofs.Common.{◌≡◌, ℕ, ◌+◌, ◌-◌, ◌<◌, List, None, Bor, drop, get_or, length, map, reverse, sym, ap, ◌∙◌, arith, rules}
use Rattle.std.proofs.lemmas.Map.Text.{btree_map_updates_str}
use Rattle.sf_modules.specs.Candidates.{last_parts, next_same}
use Rattle.sf_modules.specs.Entry.{mapping_view}
use Rattle.sf_modules.proofs.Alike.{first_more, next_more, none_first, none_next, part_at, parts_of_entries}
use Rattle.sf_modules.proofs.last_parts.last_parts_of.Goals as goal

pub loop-passed-init : goal.loop-passed-init
loop-passed-init c =
    let entries = c.args.entries.now in
    let parts = last_parts (map mapping_view entries) in
    let count : c.in-Ok.count ≡ length c.args.entries.now = search rules in
    let some = parts_of_entries entries in
    let all : c.in-Ok.count - 0 ≡ length (last_parts (map mapping_view c.args.entries.now)) = omega (count, some, arith) in
    record {
      first = λ part.
          let none : tree.get_by (λ (k : Bor (List ℕ)). slice_cmp nat_cmp part k.now) c.new-first.result ≡ None = search rules in
          none ∙ sym (none_first part parts (c.in-Ok.count - 0) all);
      next = ap reverse c.in_ok-next.ensures.items ∙ sym (none_next parts (c.in-Ok.count - 0) all);
    }

pub loop-passed-preserved : goal.loop-passed-preserved
loop-passed-preserved c =
    let entries = c.args.entries.now in
    let parts = last_parts (map mapping_view entries) in
    let own = c.last_part-part.result.now in
    let before = c.in-Ok.count - c.loop-passed.passed in
    let number = c.in-Ok.count - 1 - c.loop-passed.passed in
    let count : c.in-Ok.count ≡ length c.args.entries.now = search rules in
    let some = parts_of_entries entries in
    let lt = c.loop-passed-test.true in
    let within : c.in-Ok.count - 1 - c.loop-passed.passed < length c.args.entries.now = omega (lt, count, arith) in
    let inner : number < length parts = omega (within, some, arith) in
    let next : before ≡ number + 1 = omega (lt, arith) in
    let same : number ≡ c.in-Ok.count - (c.loop-passed.passed + 1) = omega arith in
    let is : get_or parts number own ≡ own = part_at entries number own _ within ∙ sym c.last_part-part.ensures in
    let inv = c.loop-passed.invariant in
    record {
      first = λ part.
          btree_map_updates_str own c.loop-passed.first c.insert.new.self _ c.in_ok-later.ensures.updates part
          ∙ first_more part own parts number before _ next inner is (inv.first part)
          ∙ ap (λ (n : ℕ). position_from (bytes_eq part) n (drop n parts)) same;
      next =
          next_more own parts number before c.in_ok-later.later c.loop-passed.next.items c.push.new.self.items next inner is (c.in_ok-later.ensures.old ∙ inv.first own) c.in_ok-push.ensures.items inv.next
          ∙ ap (λ (n : ℕ). next_same n (drop n parts)) same;
    }
