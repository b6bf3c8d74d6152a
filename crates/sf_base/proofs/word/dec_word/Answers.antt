use Rattle.std.proofs.Common.{◌≡◌, ◌∙◌, List, ℕ, Option, Some, None, sym, ap}
use Rattle.std.specs.Option.{IfSome}
use Rattle.sf_base.specs.Word.{SpellsDecimal, decimal_number}
use Rattle.sf_base.proofs.WordLaws.{decimal_found, decimal_read}
use Rattle.sf_base.proofs.word.dec_word.Goals as goal

found : (result : Option ℕ) (text : List ℕ) → result ≡ decimal_number text → IfSome result (λ number. SpellsDecimal text number)
found None text is = tt
found (Some number) text is = decimal_found text number (sym is)

pub returns-clause-found : goal.returns-clause-found
returns-clause-found c = found c.read_decimal.result c.args.text.now (c.read_decimal.ensures ∙ ap (λ xs. decimal_number xs) c.as_bytes.ensures.value)

pub returns-clause-only : goal.returns-clause-only
returns-clause-only c = λ number spells. c.read_decimal.ensures ∙ (ap (λ xs. decimal_number xs) c.as_bytes.ensures.value ∙ decimal_read c.args.text.now number spells)
