use Rattle.std.specs.Prelude.{IsTrue}
use Rattle.std.proofs.Common.{◌≡◌, ℕ, List, All, true, refl, subst, sym}
use Rattle.sf_words.specs.Items.{ItemWords, is_core, name_of}
use Rattle.sf_words.specs.Files.{items_of}
use Rattle.sf_words.specs.Loading.{IsLoadingRefusal}
use Rattle.sf_run.specs.Commands.{files_of_command, words_of}
use Rattle.sf_run.specs.Ends.{seen}
use Rattle.sf_run.proofs.Runs.{ends_from_tells, loading_refuses, opens_cores}
use Rattle.sf_run.proofs.running.deliver_again.Goals as goal

pub load_cores_again-requires-clause-open : goal.load_cores_again-requires-clause-open
load_cores_again-requires-clause-open g c =
    let may = g.F.Files.may_open c.args.files.now in
    subst (λ (items : List ItemWords). All (λ (item : ItemWords). is_core item ≡ true → IsTrue (may (name_of item))) items) (sym c.requires.loaded.items)
    (opens_cores (λ (name : List ℕ). IsTrue (may name)) (items_of (files_of_command (words_of c.args.command.now))) c.requires.open)

pub returns-in-Err-clause-ends : goal.returns-in-Err-clause-ends
returns-in-Err-clause-ends g c =
    let contents = (g.F.Files.seen c.args.files.now).contents in
    let command = words_of c.args.command.now in
    let out = g.O.Sink.seen c.args.out.now in
    let refused = subst (λ (items : List ItemWords). IsLoadingRefusal contents items c.in-Err.refusal) c.requires.loaded.items c.in-Err.ensures.refused in
    ends_from_tells c.in-Err.refusal c.refuse.result command (seen (g.F.Files.seen c.args.files.now) out (g.E.Sink.seen c.args.err.now))
    (seen (g.F.Files.seen c.load_cores_again.new.files) out (g.E.Sink.seen c.refuse.new.err)) c.in-Err.ensures.reads refl c.in-Err.ensures.read c.in-Err.ensures.failed_name
    (loading_refuses command contents c.in-Err.refusal c.requires.few refused) c.refuse.ensures
