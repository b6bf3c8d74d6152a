use Rattle.std.proofs.Common.{◌≡◌, ◌<◌, ◌^◌, drop}
use Rattle.std.specs.Option.{option_map}
use Rattle.sf_base.specs.Word.{spelled, text_digits}
use Rattle.sf_base.proofs.Spelling.{continued}
use Rattle.sf_base.proofs.word.read_number.Given as goal

-- the number so far and the rest spell what the text spells
abbrev pub invariant-loop-byte : goal.invariant-loop-byte
invariant-loop-byte l =
    record {
      fits : l.number < 16 ^ l.byte-index;
      rest : option_map (continued l.base l.number) (text_digits l.base (drop l.byte-index l.text)) ≡ option_map (spelled l.base) (text_digits l.base l.text);
    }
