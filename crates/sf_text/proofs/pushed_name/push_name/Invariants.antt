use Rattle.std.proofs.Common.{◌≡◌, ◌++◌}
use Rattle.std.specs.List.{flat_map}
use Rattle.std.specs.Prelude.{string_bytes}
use Rattle.std.specs.Str.{chars, IsUtf8}
use Rattle.std.specs.Str.Iter.{chars_rest}
use Rattle.sf_text.specs.ShownName.{shown_character, shown_name}
use Rattle.sf_text.proofs.pushed_name.push_name.Given as goal

-- what is there and the characters that are left are all that is to be there
abbrev pub invariant-loop-character : goal.invariant-loop-character
invariant-loop-character l = record {
  utf8 : IsUtf8 (chars_rest l.character-iterator);
  left : string_bytes l.text ++ flat_map shown_character (chars (chars_rest l.character-iterator)) ≡ string_bytes l.initial.text ++ shown_name l.name;
}
