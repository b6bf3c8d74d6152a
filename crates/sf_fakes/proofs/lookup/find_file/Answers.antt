use Rattle.std.proofs.Common.{◌≡◌, ◌<◌, ◌∙◌, Some, None, Option, List, ℕ, length, sym}
use Rattle.std.specs.Option.{IfSome, is_some}
use Rattle.sf_fakes.specs.Pairs.{pairs_of, place_named, has_name, contents_at, name_at}
use Rattle.sf_base.specs.Contents.{contents_of}
use Rattle.sf_fakes.proofs.Lookups.{Stored, position_is_place, found_below, found_has, absent_has, found_there, name_found}
use Rattle.sf_fakes.proofs.lookup.find_file.Goals as goal

below : (files : List Stored) (name : List ℕ) (found : Option ℕ) → found ≡ place_named (pairs_of files) name → IfSome found (λ place. place < length files)
below files name None e = tt
below files name (Some k) e = found_below files name k (sym e)

has : (files : List Stored) (name : List ℕ) (found : Option ℕ) → found ≡ place_named (pairs_of files) name → is_some found ≡ has_name (pairs_of files) name
has files name None e = sym (absent_has files name (sym e))
has files name (Some k) e = sym (found_has files name k (sym e))

pub returns-clause-place : goal.returns-clause-place
returns-clause-place c = c.first_named.ensures ∙ position_is_place c.args.files.now c.args.name.now

pub returns-clause-below : goal.returns-clause-below
returns-clause-below c = below c.args.files.now c.args.name.now c.first_named.result (c.first_named.ensures ∙ position_is_place c.args.files.now c.args.name.now)

pub returns-clause-found : goal.returns-clause-found
returns-clause-found c = has c.args.files.now c.args.name.now c.first_named.result (c.first_named.ensures ∙ position_is_place c.args.files.now c.args.name.now)

bytes : (files : List Stored) (name : List ℕ) (found : Option ℕ) → found ≡ place_named (pairs_of files) name → IfSome found (λ place. contents_at (pairs_of files) place ≡ contents_of (pairs_of files) name)
bytes files name None e = tt
bytes files name (Some k) e = found_there (pairs_of files) name k (sym e)

pub returns-clause-bytes : goal.returns-clause-bytes
returns-clause-bytes c = bytes c.args.files.now c.args.name.now c.first_named.result (c.first_named.ensures ∙ position_is_place c.args.files.now c.args.name.now)

named : (files : List Stored) (name : List ℕ) (found : Option ℕ) → found ≡ place_named (pairs_of files) name → IfSome found (λ place. name_at (pairs_of files) place ≡ name)
named files name None e = tt
named files name (Some k) e = name_found (pairs_of files) name k (sym e)

pub returns-clause-name : goal.returns-clause-name
returns-clause-name c = named c.args.files.now c.args.name.now c.first_named.result (c.first_named.ensures ∙ position_is_place c.args.files.now c.args.name.now)
