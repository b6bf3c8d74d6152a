use Rattle.std.specs.Prelude.{string_bytes}
use Rattle.std.proofs.Common.{◌≡◌, ◌++◌, ℕ, List, ap, subst, sym, ◌∙◌}
use Rattle.std.proofs.lemmas.Str.{IsUtf8-past_char, chars_past_char}
use Rattle.std.specs.Char.{encode_utf8}
use Rattle.std.specs.List.{flat_map}
use Rattle.std.specs.Str.{chars, IsUtf8}
use Rattle.std.specs.Str.Iter.{chars_rest}
use Rattle.sf_text.specs.ShownName.{shown_character}
use Rattle.sf_text.proofs.ShownNames.{next_character, no_character, shown_is}
use Rattle.sf_text.proofs.pushed_name.push_name.Goals as goal

pub loop-character-init : goal.loop-character-init
loop-character-init c =
    let rest : chars_rest c.into_iter-character-iterator.result ≡ c.args.name.now = cc in
    record {
      utf8 = subst (λ (bytes : List ℕ). IsUtf8 bytes) (sym rest) c.utf8.name;
      left = ap (λ (text : List ℕ). string_bytes c.args.text.now ++ text) (ap (λ (bytes : List ℕ). flat_map shown_character (chars bytes)) rest ∙ shown_is c.args.name.now);
    }

pub loop-character-preserved : goal.loop-character-preserved
loop-character-preserved c =
    let so_far = c.loop-character.invariant in
    let character = c.in-Some.character in
    let rest = chars_rest c.loop-character.character-iterator in
    let left = chars_rest c.next.new.self in
    let next : rest ≡ encode_utf8 character ++ left = c.in-Some.ensures.steps.0 in
    record {
      utf8 = IsUtf8-past_char rest left character so_far.utf8 next;
      left = next_character (string_bytes c.loop-character.text) (string_bytes c.push_character.new.text) rest left character _ (chars_past_char rest left character so_far.utf8 next) c.in_ok-push_character.ensures so_far.left;
    }

pub returns : goal.returns
returns c =
    let rest = chars_rest c.loop-character.character-iterator in
    no_character (string_bytes c.loop-character.text) rest _ c.in-None.ensures.steps.0.0 c.loop-character.invariant.left
