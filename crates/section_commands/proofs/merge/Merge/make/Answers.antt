use Rattle.std.proofs.Common.{◌≡◌, ◌<◌, ◌≤◌, map, length, ap, arith}
use Rattle.std.proofs.lemmas.List.{length-map}
use Rattle.std.proofs.lemmas.Result.{err_from_is_err_and}
use Rattle.sf_words.specs.Items.{Section}
use Rattle.sf_words.specs.Loading.{loaded_bytes}
use Rattle.sf_words.specs.Named.{named_sections}
use Rattle.sf_words.proofs.Limits.{within_limits}
use Rattle.section_commands.specs.Merge.{merge_files, merge_of}
use Rattle.section_commands.proofs.Lists.{as_many}
use Rattle.section_commands.proofs.Merged.{stopped_comes}
use Rattle.section_commands.proofs.MergeComes.{some_sections}
use Rattle.section_commands.proofs.merge.Merge.make.Goals as goal

pub views_of-requires-clause-few : goal.views_of-requires-clause-few
views_of-requires-clause-few c =
    let limits = within_limits (merge_files (merge_of c.args.self.now)) (loaded_bytes c.args.loaded.now) c.requires.within in
    let few : length (map Section (named_sections c.args.self.now.sections)) ≤ 512 = limits.0 in
    let count = length-map (named_sections c.args.self.now.sections) Section in
    omega (arith, few, count)

pub returns-in_err-views : goal.returns-in_err-views
returns-in_err-views c =
    let p = err_from_is_err_and c.from_residual.result c.from_residual.ensures.1 in
    record { comes = rw (p.1, p.2) (stopped_comes c.args.self.now.out.at _ _ c.in_err-views.ensures.stops) }

pub merge-requires-clause-some : goal.merge-requires-clause-some
merge-requires-clause-some c =
    let sections = named_sections c.args.self.now.sections in
    let some : 0 < length sections = some_sections c.requires.asked.0 (merge_of c.args.self.now) c.requires.asked.1 in
    let long : length c.args.loaded.now ≡ length (map Section sections) = as_many c.args.loaded.now (map Section sections) c.requires.items in
    let views : length c.in_ok-views.views.items ≡ length c.args.loaded.now = c.in_ok-views.ensures.count in
    let lent : length c.deref.result.now ≡ length c.in_ok-views.views.items = ap (λ vs. length vs) c.deref.ensures.value in
    omega (arith, some, long, length-map sections Section, views, lent)

pub merge-requires-clause-few : goal.merge-requires-clause-few
merge-requires-clause-few c =
    let sections = named_sections c.args.self.now.sections in
    let limits = within_limits (merge_files (merge_of c.args.self.now)) (loaded_bytes c.args.loaded.now) c.requires.within in
    let few : length (map Section sections) ≤ 512 = limits.0 in
    let long : length c.args.loaded.now ≡ length (map Section sections) = as_many c.args.loaded.now (map Section sections) c.requires.items in
    let views : length c.in_ok-views.views.items ≡ length c.args.loaded.now = c.in_ok-views.ensures.count in
    let lent : length c.deref.result.now ≡ length c.in_ok-views.views.items = ap (λ vs. length vs) c.deref.ensures.value in
    omega (arith, few, long, views, lent)
