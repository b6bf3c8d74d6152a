use Rattle.std.proofs.Common.{◌≡◌, ◌∙◌, sym, subst, ap, List, ℕ, []}
use Rattle.sf_base.specs.Contents.{Changes}
use Rattle.sf_fakes.specs.Pairs.{pairs_of, with_file}
use Rattle.sf_fakes.proofs.Lookups.{file_changes, name_added}
use Rattle.sf_fakes.proofs.mem_files.MemFilesFiles.create_file.Goals as goal

pub returns-in-Ok-clause-holds : goal.returns-in-Ok-clause-holds
returns-in-Ok-clause-holds c =
    let P : List (List ℕ × List ℕ) → Type 0 = λ files. Changes c.args.name.now [] (pairs_of c.args.self.now.files.items) files in
    let is : pairs_of c.set_file.new.files.items ≡ with_file (pairs_of c.args.self.now.files.items) c.args.name.now []
    = c.in-Ok.ensures.ok ∙ ap (λ bytes. with_file (pairs_of c.args.self.now.files.items) c.args.name.now bytes) c.new-empty.ensures.items in
    subst P (sym is) (file_changes (pairs_of c.args.self.now.files.items) c.args.name.now [])

pub returns-in-Ok-clause-names : goal.returns-in-Ok-clause-names
returns-in-Ok-clause-names c =
    name_added (pairs_of c.args.self.now.files.items) (pairs_of c.set_file.new.files.items) c.args.name.now c.new-empty.result.items c.in-Ok.ensures.ok
