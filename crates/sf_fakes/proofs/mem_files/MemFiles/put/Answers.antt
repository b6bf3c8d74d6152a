use Rattle.std.proofs.Common.{◌≡◌, sym, subst, List, ℕ, length, vec_len, rules}
use Rattle.sf_base.specs.Contents.{Changes}
use Rattle.sf_fakes.specs.Pairs.{pairs_of}
use Rattle.sf_fakes.proofs.Lookups.{file_changes, name_added, created_stays}
use Rattle.sf_fakes.proofs.mem_files.MemFiles.put.Goals as goal

pub returns-clause-ok : goal.returns-clause-ok
returns-clause-ok c =
    let P : List (List ℕ × List ℕ) → Type 0 = λ files. Changes c.args.name.now c.args.bytes.items (pairs_of c.args.self.now.files.items) files in
    subst P (sym c.in_ok-set_file.ensures.ok) (file_changes (pairs_of c.args.self.now.files.items) c.args.name.now c.args.bytes.items)

pub returns-clause-names : goal.returns-clause-names
returns-clause-names c =
    name_added (pairs_of c.args.self.now.files.items) (pairs_of c.set_file.new.files.items) c.args.name.now c.args.bytes.items c.in_ok-set_file.ensures.ok

pub returns-clause-created_name : goal.returns-clause-created_name
returns-clause-created_name c =
    let long : vec_len c.args.self.now.files ≡ length c.args.self.now.files.items = search rules in
    created_stays c.args.self.now.files.items (pairs_of c.set_file.new.files.items) c.args.self.now.created (vec_len c.args.self.now.files) c.args.name.now c.args.bytes.items
    long c.args.self.now.created_stands c.in_ok-set_file.ensures.ok
