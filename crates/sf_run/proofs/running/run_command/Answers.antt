use Rattle.std.specs.Prelude.{IfSome, IsTrue}
use Rattle.std.proofs.Common.{◌≡◌, ◌<◌, ◌≤◌, inl, ℕ, Bool, List, Option, Some, None, Bor, refl, ap, sym, subst, arith}
use Rattle.std.specs.Option.{option_map}
use Rattle.sf_words.specs.declared.refusal.Limit.TheVariants.{Inputs}
use Rattle.sf_words.specs.declared.refusal.Refusal.TheVariants as refusal
use Rattle.sf_words.specs.Files.{FilesWords, counted_items}
use Rattle.sf_run.specs.Commands.{files_of_command, words_of}
use Rattle.sf_run.specs.Ends.{seen}
use Rattle.sf_run.proofs.Runs.{ends_from_tells, no_reads, too_many_runs}
use Rattle.sf_run.proofs.running.run_command.Goals as goal

pub load_and_deliver-requires-clause-few : goal.load_and_deliver-requires-clause-few
load_and_deliver-requires-clause-few g c =
    let count = ap (λ (files : FilesWords). counted_items files) c.files-named.ensures in
    omega (arith, count, c.len.ensures, c.if-len-gt-ITEM_COUNT.false)

pub load_and_deliver-requires-clause-open : goal.load_and_deliver-requires-clause-open
load_and_deliver-requires-clause-open g c =
    let count = ap (λ (files : FilesWords). counted_items files) c.files-named.ensures in
    c.requires.open (omega (arith, count, c.len.ensures, c.if-len-gt-ITEM_COUNT.false))

-- the name of the file that a command makes, as the code has it
may_create_it : (may : List ℕ → Bool) (file : Option (Bor (List ℕ))) (out : Option (List ℕ)) → option_map (λ (name : Bor (List ℕ)). name.now) file ≡ out → IfSome out (λ name. IsTrue (may name)) → IfSome file (λ name. IsTrue (may name.now))
may_create_it may None out e h = tt
may_create_it may (Some name) out e h = subst (λ (o : Option (List ℕ)). IfSome o (λ n. IsTrue (may n))) (sym e) h

pub load_and_deliver-requires-clause-create : goal.load_and_deliver-requires-clause-create
load_and_deliver-requires-clause-create g c =
    let count = ap (λ (files : FilesWords). counted_items files) c.files-named.ensures in
    let few : counted_items (files_of_command (words_of c.args.command.now)) ≤ 512 = omega (arith, count, c.len.ensures, c.if-len-gt-ITEM_COUNT.false) in
    may_create_it (g.F.Files.may_create c.args.files.now) c.files-named.result.out (files_of_command (words_of c.args.command.now)).out (ap (λ (files : FilesWords). files.out) c.files-named.ensures) (c.requires.create few)

pub returns-then-len-gt-ITEM_COUNT-clause-ends : goal.returns-then-len-gt-ITEM_COUNT-clause-ends
returns-then-len-gt-ITEM_COUNT-clause-ends g c =
    let command = words_of c.args.command.now in
    let count = ap (λ (files : FilesWords). counted_items files) c.files-named.ensures in
    let many : 512 < counted_items (files_of_command command) = omega (arith, count, c.len.ensures, c.if-len-gt-ITEM_COUNT.true) in
    let files = g.F.Files.seen c.args.files.now in
    let out = g.O.Sink.seen c.args.out.now in
    ends_from_tells (refusal.Limit Inputs) c.refuse.result command (seen files out (g.E.Sink.seen c.args.err.now)) (seen files out (g.E.Sink.seen c.refuse.new.err)) (no_reads files) refl
    (λ read. absurd read) tt (inl (too_many_runs command files.contents many)) c.refuse.ensures

pub returns-clause-counted : goal.returns-clause-counted
returns-clause-counted g c many =
    let count = ap (λ (files : FilesWords). counted_items files) c.files-named.ensures in
    let none : ⊥ = omega (arith, count, c.len.ensures, c.if-len-gt-ITEM_COUNT.false, many) in
    absurd none
