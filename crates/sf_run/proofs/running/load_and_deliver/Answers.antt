use Rattle.std.specs.Prelude.{IsTrue}
use Rattle.std.proofs.Common.{ℕ, ◌≤◌, List, All, refl, sym, subst}
use Rattle.sf_words.specs.Files.{FilesWords, counted_items, item_names, items_of}
use Rattle.sf_words.specs.Loading.{IsLoadingRefusal}
use Rattle.sf_run.specs.Commands.{words_of}
use Rattle.sf_run.specs.Ends.{seen}
use Rattle.sf_run.proofs.Runs.{ends_from_tells, loading_refuses}
use Rattle.sf_run.proofs.running.load_and_deliver.Goals as goal

pub load_all-requires-clause-few : goal.load_all-requires-clause-few
load_all-requires-clause-few g c = subst (λ (files : FilesWords). counted_items files ≤ 512) (sym c.requires.named) c.requires.few

pub load_all-requires-clause-open : goal.load_all-requires-clause-open
load_all-requires-clause-open g c = subst (λ (files : FilesWords). All (λ (name : List ℕ). IsTrue (g.F.Files.may_open c.args.files.now name)) (item_names files)) (sym c.requires.named) c.requires.open

pub returns-in-Err : goal.returns-in-Err
returns-in-Err g c =
    let contents = (g.F.Files.seen c.args.files.now).contents in
    let command = words_of c.args.command.now in
    let out = g.O.Sink.seen c.args.out.now in
    let refused = subst (λ (files : FilesWords). IsLoadingRefusal contents (items_of files) c.in-Err.refusal) c.requires.named c.in-Err.ensures.refused in
    ends_from_tells c.in-Err.refusal c.refuse.result command (seen (g.F.Files.seen c.args.files.now) out (g.E.Sink.seen c.args.err.now))
    (seen (g.F.Files.seen c.load_all.new.files) out (g.E.Sink.seen c.refuse.new.err)) c.in-Err.ensures.reads refl c.in-Err.ensures.read c.in-Err.ensures.failed_name
    (loading_refuses command contents c.in-Err.refusal c.requires.few refused) c.refuse.ensures
