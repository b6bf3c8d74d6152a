use Rattle.std.specs.Prelude.{not}
use Rattle.std.specs.BTreeSet.{keys}
use Rattle.std.specs.List.{list_any}
use Rattle.std.proofs.Common.{◌≡◌, ◌%◌, ℕ, List, All, ◌++◌, length, refl, sym, ap, subst, ◌∙◌}
use Rattle.elf_groups.specs.TextNumbers.{text_of}
use Rattle.elf_groups.specs.SeenSignatures.{IsKeptIn, is_kept_as}
use Rattle.elf_groups.proofs.NumberedText.{blocks_stand}
use Rattle.elf_groups.proofs.Signatures.{all_more, all_still_kept, any_same, any_still_kept, joined, not_not, own_key, rest_is_whole, seen_more}
use Rattle.elf_groups.proofs.groups.SeenSignatures.is_repeated.Goals as goal

pub returns-clause-repeated : goal.returns-clause-repeated
returns-clause-repeated c = λ file seen has texts stands.
    let blocks = c.number.new.blocks in
    let signature = c.args.signature.now in
    let front = c.split_at.result.0 in
    let whole = c.split_at.result.1.now in
    let behind = blocks_stand file signature front.now whole c.args.place stands c.split_at.ensures.front_len c.split_at.ensures.back in
    let are_whole = rest_is_whole signature whole c.split_at.ensures.back in
    let old = c.args.self.now in
    let grows = c.in_ok-number.ensures.grows in
    let are = c.in_ok-number.ensures.blocks file has.blocks texts behind are_whole in
    let number = c.in_ok-number.ensures.number file has.blocks texts behind are_whole in
    let own = own_key blocks signature front.now whole (c.in_ok-number.number, front) refl c.split_at.ensures.front number in
    let kept = all_still_kept old.blocks blocks (keys old.signatures) grows has.kept in
    let is : signature ≡ front.now ++ text_of blocks c.in_ok-number.number = joined signature front.now whole (length signature % 256) c.split_at.ensures.front c.split_at.ensures.back ∙ ap (λ (xs : List ℕ). front.now ++ xs) (sym number.text) in
    ap not c.in_ok-insert.ensures.added ∙ not_not _
    ∙ any_same blocks (c.in_ok-number.number, front) (keys old.signatures) are own kept
    ∙ ap (λ (xs : List ℕ). list_any (is_kept_as blocks xs) (keys old.signatures)) (sym is)
    ∙ any_still_kept old.blocks blocks signature (keys old.signatures) grows has.kept
    ∙ has.each signature

pub returns-clause-seen : goal.returns-clause-seen
returns-clause-seen c = λ file seen has texts stands.
    let blocks = c.number.new.blocks in
    let signature = c.args.signature.now in
    let front = c.split_at.result.0 in
    let whole = c.split_at.result.1.now in
    let behind = blocks_stand file signature front.now whole c.args.place stands c.split_at.ensures.front_len c.split_at.ensures.back in
    let are_whole = rest_is_whole signature whole c.split_at.ensures.back in
    let old = c.args.self.now in
    let grows = c.in_ok-number.ensures.grows in
    let are = c.in_ok-number.ensures.blocks file has.blocks texts behind are_whole in
    let number = c.in_ok-number.ensures.number file has.blocks texts behind are_whole in
    let own = own_key blocks signature front.now whole (c.in_ok-number.number, front) refl c.split_at.ensures.front number in
    let kept = all_still_kept old.blocks blocks (keys old.signatures) grows has.kept in
    let is : signature ≡ front.now ++ text_of blocks c.in_ok-number.number = joined signature front.now whole (length signature % 256) c.split_at.ensures.front c.split_at.ensures.back ∙ ap (λ (xs : List ℕ). front.now ++ xs) (sym number.text) in
    record {
      blocks = are;
      kept = subst (All (IsKeptIn blocks)) (sym c.in_ok-insert.ensures.keys) (all_more (IsKeptIn blocks) (keys old.signatures) (c.in_ok-number.number, front) kept own);
      each = λ q.
          seen_more blocks q signature (c.in_ok-number.number, front) (keys old.signatures) _ seen is c.in_ok-insert.ensures.keys
          (any_still_kept old.blocks blocks q (keys old.signatures) grows has.kept ∙ has.each q);
    }

pub returns-clause-texts : goal.returns-clause-texts
returns-clause-texts c = λ file seen has texts stands.
    let blocks = c.number.new.blocks in
    let signature = c.args.signature.now in
    let front = c.split_at.result.0 in
    let whole = c.split_at.result.1.now in
    let behind = blocks_stand file signature front.now whole c.args.place stands c.split_at.ensures.front_len c.split_at.ensures.back in
    let are_whole = rest_is_whole signature whole c.split_at.ensures.back in
    c.in_ok-number.ensures.texts file has.blocks texts behind are_whole
