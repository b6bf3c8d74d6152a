use Rattle.std.specs.List.{find}
use Rattle.std.proofs.Common.{ℕ, None, Some, false, true, sym, ap, ◌∙◌}
use Rattle.elf_mapped.specs.Program.{program_bytes}
use Rattle.sf_modules.specs.Entry.{mapping_view}
use Rattle.sf_modules.specs.Match.{matches}
use Rattle.sf_modules.specs.Process.{process_view}
use Rattle.sf_modules.proofs.Alike.{match_among, others_among}
use Rattle.sf_modules.proofs.Placing.{by_match, by_others, no_candidate}
use Rattle.sf_modules.proofs.nearest.entry_of.Goals as goal

pub returns-then-tail-eq0-clause-check : goal.returns-then-tail-eq0-clause-check
returns-then-tail-eq0-clause-check c =
    let program = c.args.program.now in
    no_candidate (process_view c.args.process.now) c.args.word.now (program_bytes program.elf) program.load c.longest_tail-tail.result c.longest_tail-tail.ensures c.if-tail-eq0.true

pub returns-in_default-clause-check : goal.returns-in_default-clause-check
returns-in_default-clause-check c =
    let program = c.args.program.now in
    let p = process_view c.args.process.now in
    let tail = c.longest_tail-tail.result in
    by_match p c.args.word.now (program_bytes program.elf) program.load tail None c.longest_tail-tail.ensures c.if-tail-eq0.false
    (c.in_default.ensures ∙ match_among p c.args.word.now (program_bytes program.elf) program.load tail p.entries c.if-tail-eq0.false)

pub returns-then-other_matches-clause-check : goal.returns-then-other_matches-clause-check
returns-then-other_matches-clause-check c =
    let program = c.args.program.now in
    let p = process_view c.args.process.now in
    let tail = c.longest_tail-tail.result in
    let e = mapping_view c.in-Some.entry.now in
    by_others p c.args.word.now (program_bytes program.elf) program.load tail e true c.longest_tail-tail.ensures
    (c.if-other_matches.ensures ∙ others_among p c.args.word.now (program_bytes program.elf) program.load tail e p.entries c.if-tail-eq0.false)
    ∙ by_match p c.args.word.now (program_bytes program.elf) program.load tail (Some e) c.longest_tail-tail.ensures c.if-tail-eq0.false
    (c.in-Some.ensures ∙ match_among p c.args.word.now (program_bytes program.elf) program.load tail p.entries c.if-tail-eq0.false)

pub returns-clause-check : goal.returns-clause-check
returns-clause-check c =
    let program = c.args.program.now in
    let p = process_view c.args.process.now in
    let tail = c.longest_tail-tail.result in
    let e = mapping_view c.in-Some.entry.now in
    by_others p c.args.word.now (program_bytes program.elf) program.load tail e false c.longest_tail-tail.ensures
    (c.if-other_matches.ensures ∙ others_among p c.args.word.now (program_bytes program.elf) program.load tail e p.entries c.if-tail-eq0.false)
    ∙ by_match p c.args.word.now (program_bytes program.elf) program.load tail (Some e) c.longest_tail-tail.ensures c.if-tail-eq0.false
    (c.in-Some.ensures ∙ match_among p c.args.word.now (program_bytes program.elf) program.load tail p.entries c.if-tail-eq0.false)

pub returns-clause-value : goal.returns-clause-value
returns-clause-value c =
    let program = c.args.program.now in
    let p = process_view c.args.process.now in
    let tail = c.longest_tail-tail.result in
    sym
    (c.in-Some.ensures
    ∙ match_among p c.args.word.now (program_bytes program.elf) program.load tail p.entries c.if-tail-eq0.false
    ∙ ap (λ (n : ℕ). find (matches p c.args.word.now (program_bytes program.elf) program.load n) p.entries) c.longest_tail-tail.ensures)
