use Rattle.std.proofs.Common.{◌≡◌, ◌<◌, ◌-◌, ◌∙◌, ◌++◌, ◌∷◌, [], Some, None, length, string_bytes, refl, sym, ap, rules}
use Rattle.sf_fakes.specs.Pairs.{pairs_of, place_named, name_at}
use Rattle.sf_fakes.proofs.Lookups.{Stored, replaced, found_name, name_of_set, pushed_there, name_pushed, not_found}
use Rattle.sf_fakes.proofs.lookup.set_file.Goals as goal

pub returns-in-Some-clause-name : goal.returns-in-Some-clause-name
returns-in-Some-clause-name c =
    let files = c.args.files.now.items in
    let below : c.in-Some.place < length files = search rules in
    let found : Some c.in-Some.place ≡ place_named (pairs_of files) c.args.name.now = c.in-Some.ensures.place ∙ ap (λ fs. place_named (pairs_of fs) c.args.name.now) c.deref.ensures.value in
    name_of_set files c.in-Some.place (c.index_mut.result.now.0, c.args.bytes) below
    ∙ (ap (λ (f : Stored). string_bytes f.0) c.index_mut.ensures.value ∙ found_name files c.args.name.now c.in-Some.place c.index_mut.result.now (sym found))

pub returns-in-Some-clause-ok : goal.returns-in-Some-clause-ok
returns-in-Some-clause-ok c =
    let files = c.args.files.now.items in
    let found : Some c.in-Some.place ≡ place_named (pairs_of files) c.args.name.now = c.in-Some.ensures.place ∙ ap (λ fs. place_named (pairs_of fs) c.args.name.now) c.deref.ensures.value in
    replaced files c.args.name.now c.in-Some.place c.index_mut.result.now (c.index_mut.result.now.0, c.args.bytes) found c.index_mut.ensures.value refl

pub returns-clause-name : goal.returns-clause-name
returns-clause-name c =
    let files = c.args.files.now.items in
    let last : c.len.result - 1 ≡ length files = search rules in
    ap (λ fs. name_at (pairs_of fs) (c.len.result - 1)) c.in_ok-push.ensures.items
    ∙ (ap (λ n. name_at (pairs_of (files ++ (c.in_ok-name.name, c.args.bytes) ∷ [])) n) last
    ∙ (name_pushed files (c.in_ok-name.name, c.args.bytes) ∙ c.in_ok-name.ensures.ok))

pub returns-clause-ok : goal.returns-clause-ok
returns-clause-ok c =
    let files = c.args.files.now.items in
    let absent : place_named (pairs_of files) c.args.name.now ≡ None = not_found c.find_file.result files c.args.name.now (c.find_file.ensures.place ∙ ap (λ fs. place_named (pairs_of fs) c.args.name.now) c.deref.ensures.value) c.in_default.not-Some in
    ap (λ fs. pairs_of fs) c.in_ok-push.ensures.items ∙ pushed_there files c.args.name.now (c.in_ok-name.name, c.args.bytes) absent c.in_ok-name.ensures.ok
