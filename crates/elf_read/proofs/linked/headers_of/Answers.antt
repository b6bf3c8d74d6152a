use Rattle.std.proofs.Common.{rules}
use Rattle.elf_read.proofs.HeadersKept.{head_kept, count_kept, place_kept}
use Rattle.elf_read.proofs.linked.headers_of.Goals as goal

pub invariant_of-result : goal.invariant_of-result
invariant_of-result c =
    let file = c.args.whole.now.numbers in
    let is = c.in_ok-header.ensures.window c.args.whole.now.numbers c.requires.header in
    let there = c.in_ok-sections.ensures.window c.args.whole.now.numbers c.requires.sections in
    let head = head_kept c.args.whole.now.numbers c.in_ok-header.header.now is (search rules) in
    let count = count_kept c.args.whole.now.numbers c.in_ok-header.header.now is head in
    let place = place_kept c.args.whole.now.numbers c.in_ok-header.header.now is in
    record {
      sized = c.requires.len;
      small = c.requires.small;
      header_is = is;
      sections_are = search (rules, place, there);
      counted = search (rules, count);
    }

pub returns-clause-head : goal.returns-clause-head
returns-clause-head c =
    let is = c.in_ok-header.ensures.window c.args.whole.now.numbers c.requires.header in
    head_kept c.args.whole.now.numbers c.in_ok-header.header.now is (search rules)
