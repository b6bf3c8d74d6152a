use Rattle.std.proofs.Common.{◌≡◌, ◌∙◌, List, ℕ, Option, Some, None, sym, ap}
use Rattle.std.specs.Option.{IfSome}
use Rattle.sf_base.specs.Word.{SpellsHexadecimal, hexadecimal}
use Rattle.sf_base.proofs.WordLaws.{hexadecimal_found, hexadecimal_read}
use Rattle.sf_base.proofs.word.hex_word.Goals as goal

found : (result : Option ℕ) (text : List ℕ) → result ≡ hexadecimal text → IfSome result (λ number. SpellsHexadecimal text number)
found None text is = tt
found (Some number) text is = hexadecimal_found text number (sym is)

pub returns-clause-found : goal.returns-clause-found
returns-clause-found c = found c.read_hexadecimal.result c.args.text.now (c.read_hexadecimal.ensures ∙ ap (λ xs. hexadecimal xs) c.as_bytes.ensures.value)

pub returns-clause-only : goal.returns-clause-only
returns-clause-only c = λ number spells. c.read_hexadecimal.ensures ∙ (ap (λ xs. hexadecimal xs) c.as_bytes.ensures.value ∙ hexadecimal_read c.args.text.now number spells)
