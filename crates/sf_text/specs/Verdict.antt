-- The text of a verdict on a section.
use Rattle.std.specs.Prelude.{◌++◌, ℕ, List, codes, Option, Some, None}
use Rattle.std.specs.Fmt.{decimal}
use Rattle.sf_model.specs.declared.content.Content.{Content}
use Rattle.sf_model.specs.declared.verdict.Verdict.{Verdict}
use Rattle.sf_model.specs.declared.verdict.Verdict.TheVariants.{Agrees, Differs}
use Rattle.sf_text.specs.Content.{content_text}
use Rattle.sf_text.specs.Number.{hexadecimal_text}

-- a name and a count
unfoldable pub counted_text : (name : List ℕ) → (count : ℕ) → List ℕ
counted_text name count = name ++ decimal count

-- `agrees checked COUNT missing COUNT repeats COUNT`
unfoldable pub agrees_text : (checked missing repeats : ℕ) → List ℕ
agrees_text checked missing repeats =
    counted_text (codes "agrees checked ") checked ++ counted_text (codes " missing ") missing ++ counted_text (codes " repeats ") repeats ++ codes "\n"

-- the content, or `none`
abbrev pub dwarf_text : Option Content → List ℕ
dwarf_text (Some content) = content_text content
dwarf_text None = codes "none"

-- `differs HEX section CONTENT dwarf CONTENT`
unfoldable pub differs_text : (pc : ℕ) → (section : Content) → (dwarf : Option Content) → List ℕ
differs_text pc section dwarf = codes "differs " ++ hexadecimal_text pc ++ codes " section " ++ content_text section ++ codes " dwarf " ++ dwarf_text dwarf ++ codes "\n"

-- the line of a verdict
abbrev pub verdict_text : Verdict → List ℕ
verdict_text (Agrees checked missing repeats) = agrees_text checked missing repeats
verdict_text (Differs pc section dwarf) = differs_text pc section dwarf
