use Rattle.std.proofs.Common.{refl, ap, subst, ◌∙◌}
use Rattle.sf_words.specs.Files.{FilesWords}
use Rattle.sf_words.specs.Loading.{loaded_bytes}
use Rattle.sf_words.proofs.Limits.{few_limit}
use Rattle.section_commands.specs.Making.{ComesAs, UnmadeAs}
use Rattle.sf_run.specs.Comes.{Comes}
use Rattle.sf_run.specs.Commands.{files_of_command, words_of}
use Rattle.sf_run.specs.Ends.{seen}
use Rattle.sf_run.proofs.Runs.{ends_from_delivered, ends_from_tells, made_runs, no_name, no_read, no_reads, refused_runs}
use Rattle.sf_run.proofs.running.make_and_deliver.Goals as goal

pub make-requires-clause-items : goal.make-requires-clause-items
make-requires-clause-items g c = c.requires.loaded.items

pub make-requires-clause-within : goal.make-requires-clause-within
make-requires-clause-within g c = few_limit (files_of_command (words_of c.args.command.now)) (loaded_bytes c.args.loaded.now) c.requires.few ∙ c.requires.loaded.bytes.within

pub returns-in-Ok-clause-ends : goal.returns-in-Ok-clause-ends
returns-in-Ok-clause-ends g c =
    let contents = (g.F.Files.seen c.args.files.now).contents in
    let command = words_of c.args.command.now in
    ends_from_delivered c.deliver.result c.in-Ok.made.outcome command _ _ _ _ _ _ _ _ _ _ _ (ap (λ (files : FilesWords). files.out) c.requires.named) refl
    (made_runs command contents (loaded_bytes c.args.loaded.now) c.requires.loaded.bytes c.in-Ok.made c.in-Ok.ensures.comes) c.deliver.ensures

pub returns-in-Err-Refused-clause-ends : goal.returns-in-Err-Refused-clause-ends
returns-in-Err-Refused-clause-ends g c =
    let contents = (g.F.Files.seen c.args.files.now).contents in
    let command = words_of c.args.command.now in
    let files = g.F.Files.seen c.args.files.now in
    let out = g.O.Sink.seen c.args.out.now in
    let items = loaded_bytes c.args.loaded.now in
    let refused = c.in-Err-Refused.refusal in
    let comes : ComesAs (Comes command items) refused = subst (UnmadeAs (Comes command items)) c.in-Err-Refused.field-0-is c.in-Err-Refused.ensures.comes in
    ends_from_tells refused c.refuse.result command (seen files out (g.E.Sink.seen c.args.err.now)) (seen files out (g.E.Sink.seen c.refuse.new.err)) (no_reads files) refl
    (λ read. absurd (no_read (Comes command items) refused comes read)) (no_name (Comes command items) _ refused comes)
    (refused_runs command contents items c.requires.loaded.bytes refused comes) c.refuse.ensures
