use Rattle.std.specs.Prelude.{bytes_eq}
use Rattle.std.specs.List.{position_from}
use Rattle.std.proofs.Common.{◌≡◌, List, ℕ, map, sym, ap, ◌∙◌}
use Rattle.sf_modules.specs.Candidates.{last_parts}
use Rattle.sf_modules.specs.Entry.{mapping_view}
use Rattle.sf_modules.specs.Name.{last_part}
use Rattle.sf_modules.proofs.Alike.{first_within, from_word}
use Rattle.sf_modules.proofs.process.Process.candidates.Goals as goal

pub invariant_of-result : goal.invariant_of-result
invariant_of-result c =
    let p = c.args.self.now in
    let views = map mapping_view p.entries.now in
    let first : c.copied.result ≡ position_from (bytes_eq (last_part c.args.word.now)) 0 (last_parts (map mapping_view c.args.self.now.entries.now)) =
    c.copied.ensures ∙ c.get.ensures.value ∙ p.by_part.first c.last_part.result.now ∙ ap (λ (part : List ℕ). position_from (bytes_eq part) 0 (last_parts views)) c.last_part.ensures in
    record { next_are = c.deref.ensures.value ∙ p.by_part.next; within = λ k e. first_within c.args.word.now p.entries.now k (sym first ∙ e) }

pub returns : goal.returns
returns c =
    let p = c.args.self.now in
    let views = map mapping_view p.entries.now in
    let first : c.copied.result ≡ position_from (bytes_eq (last_part c.args.word.now)) 0 (last_parts (map mapping_view c.args.self.now.entries.now)) =
    c.copied.ensures ∙ c.get.ensures.value ∙ p.by_part.first c.last_part.result.now ∙ ap (λ (part : List ℕ). position_from (bytes_eq part) 0 (last_parts views)) c.last_part.ensures in
    from_word c.args.word.now views c.copied.result first
