use Rattle.std.proofs.Common.{◌<◌, map, inl, inr, subst}
use Rattle.std.specs.String.{string_bytes}
use Rattle.sf_words.specs.Files.{counted_items}
use Rattle.sf_run.specs.Commands.{CommandWords, files_of_command, words_of}
use Rattle.sf_run.specs.Ends.{RunEnds, TurnedAwayUnread, seen}
use Rattle.sf_run.proofs.Runs.{complete_from}
use Rattle.sf_run.proofs.running.run.Goals as goal

pub run_command-requires-clause-form : goal.run_command-requires-clause-form
run_command-requires-clause-form g c = (map string_bytes c.args.words.now, c.in-Some.ensures.found)

pub run_command-requires-clause-open : goal.run_command-requires-clause-open
run_command-requires-clause-open g c = c.requires.open (words_of c.in-Some.command) c.in-Some.ensures.found

pub run_command-requires-clause-create : goal.run_command-requires-clause-create
run_command-requires-clause-create g c = c.requires.create (words_of c.in-Some.command) c.in-Some.ensures.found

pub returns-clause-counted : goal.returns-clause-counted
returns-clause-counted g c command asked =
    let before = seen (g.F.Files.seen c.args.files.now) (g.O.Sink.seen c.args.out.now) (g.E.Sink.seen c.args.err.now) in
    let after = seen (g.F.Files.seen c.run_command.new.files) (g.O.Sink.seen c.run_command.new.out) (g.E.Sink.seen c.run_command.new.err) in
    subst (λ (words : CommandWords). 512 < counted_items (files_of_command words) → TurnedAwayUnread c.run_command.result before after) (c.in-Some.ensures.only command asked) c.run_command.ensures.counted

pub returns-clause-ends : goal.returns-clause-ends
returns-clause-ends g c command asked =
    let before = seen (g.F.Files.seen c.args.files.now) (g.O.Sink.seen c.args.out.now) (g.E.Sink.seen c.args.err.now) in
    let after = seen (g.F.Files.seen c.run_command.new.files) (g.O.Sink.seen c.run_command.new.out) (g.E.Sink.seen c.run_command.new.err) in
    subst (λ (words : CommandWords). RunEnds c.run_command.result words before after) (c.in-Some.ensures.only command asked) c.run_command.ensures.ends

pub returns-clause-complete : goal.returns-clause-complete
returns-clause-complete g c command asked =
    let before = seen (g.F.Files.seen c.args.files.now) (g.O.Sink.seen c.args.out.now) (g.E.Sink.seen c.args.err.now) in
    let after = seen (g.F.Files.seen c.run_command.new.files) (g.O.Sink.seen c.run_command.new.out) (g.E.Sink.seen c.run_command.new.err) in
    complete_from c.run_command.result command before after (map string_bytes c.args.words.now, asked)
    (subst (λ (words : CommandWords). RunEnds c.run_command.result words before after) (c.in-Some.ensures.only command asked) c.run_command.ensures.ends)

pub returns-clause-some : goal.returns-clause-some
returns-clause-some g c = inr (inl (words_of c.in-Some.command, c.run_command.ensures.ends))
