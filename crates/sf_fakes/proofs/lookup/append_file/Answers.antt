use Rattle.std.proofs.Common.{◌∙◌, ◌++◌, drop, length, ap}
use Rattle.std.proofs.lemmas.List.{take_at}
use Rattle.sf_base.specs.Contents.{contents_of}
use Rattle.sf_fakes.specs.Pairs.{pairs_of, with_file, name_at}
use Rattle.sf_fakes.proofs.Lookups.{on_ok, on_err}
use Rattle.sf_fakes.proofs.lookup.append_file.Goals as goal

pub returns-clause-ok : goal.returns-clause-ok
returns-clause-ok c =
    let new = c.append_to.new.files in
    let whole = take_at new (drop (length new) c.args.files.now.items) c.args.files.now.len (c.append_to.auto.files ∙ c.deref_mut.ensures.len) in
    on_ok c.append_to.result _ _ (λ same. ap (λ fs. pairs_of fs) whole ∙ (same
    ∙ ap (λ fs. with_file (pairs_of fs) (name_at (pairs_of fs) c.args.place) (contents_of (pairs_of fs) (name_at (pairs_of fs) c.args.place) ++ c.args.piece.now)) c.deref_mut.ensures.value)) c.append_to.ensures.ok

pub returns-clause-err : goal.returns-clause-err
returns-clause-err c =
    let new = c.append_to.new.files in
    let whole = take_at new (drop (length new) c.args.files.now.items) c.args.files.now.len (c.append_to.auto.files ∙ c.deref_mut.ensures.len) in
    on_err c.append_to.result _ _ (λ same. ap (λ fs. pairs_of fs) whole ∙ (same ∙ ap (λ fs. pairs_of fs) c.deref_mut.ensures.value)) c.append_to.ensures.err
