use Rattle.std.proofs.Common.{◌≡◌, ◌++◌, []}
use Rattle.std.specs.List.{flat_map}
use Rattle.std.specs.Str.{chars, IsUtf8}
use Rattle.std.specs.Str.Iter.{chars_rest}
use Rattle.sf_text.specs.Gathered.{Gathers}
use Rattle.sf_text.specs.ShownName.{shown_character, shown_name}
use Rattle.sf_text.proofs.shown_name.put_name.Given as goal

-- the characters so far went through the buffer, and with those that are left they are the name
abbrev pub invariant-loop-character : goal.invariant-loop-character
invariant-loop-character g l =
    let sink = g.S.Sink in
    record {
      utf8 : IsUtf8 (chars_rest l.character-iterator);
      gathered : Gathers ((sink.seen l.fn.sink).written) ((sink.seen l.sink).written) [] l.buffer.items (flat_map shown_character l.yielded);
      left : flat_map shown_character l.yielded ++ flat_map shown_character (chars (chars_rest l.character-iterator)) ≡ shown_name l.name;
      faults : (sink.seen l.sink).faults ≡ (sink.seen l.fn.sink).faults;
    }
