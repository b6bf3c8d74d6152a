-- The content of one row, as text.
use Rattle.std.specs.Prelude.{◌++◌, ℕ, ℤ, Bool, true, false, List, [], codes, Option, Some, None, unsigned_abs, if◌then◌else◌}
use Rattle.std.specs.Int.{is_negative}
use Rattle.std.specs.Fmt.{decimal}
use Rattle.sf_model.specs.declared.machine.Base.{Base}
use Rattle.sf_model.specs.declared.machine.Base.TheVariants.{Fp, Sp}
use Rattle.sf_model.specs.declared.content.Ra.{Ra}
use Rattle.sf_model.specs.declared.content.Ra.TheVariants.{Fixed, Link, At}
use Rattle.sf_model.specs.declared.content.Content.{Content}
use Rattle.sf_model.specs.declared.rows.Row.{Row}

-- a minus, or a plus, also for 0
abbrev pub sign_text : ℤ → List ℕ
sign_text n = if is_negative n then codes "-" else codes "+"

-- a number with its sign
unfoldable pub signed_text : ℤ → List ℕ
signed_text n = sign_text n ++ decimal (unsigned_abs n)

-- the register that the canonical frame address counts from
abbrev pub base_text : Base → List ℕ
base_text Fp = codes "fp"
base_text Sp = codes "sp"

-- `cfa=BASE` and the offset
unfoldable pub frame_text : Base → ℤ → List ℕ
frame_text base offset = codes "cfa=" ++ base_text base ++ signed_text offset

-- a blank, `ra=c` and the offset, for a return address at an offset
abbrev pub return_text : Ra → List ℕ
return_text Fixed = []
return_text Link = []
return_text (At offset) = codes " ra=c" ++ signed_text offset

-- a blank, `fp=c` and the offset, for a saved frame pointer
abbrev pub pointer_text : Option ℤ → List ℕ
pointer_text None = []
pointer_text (Some offset) = codes " fp=c" ++ signed_text offset

-- a blank and `signed`, for a signed return address
abbrev pub signing_text : Bool → List ℕ
signing_text false = []
signing_text true = codes " signed"

-- the canonical frame address, the return address, the frame pointer, the sign
unfoldable pub content_text : Content → List ℕ
content_text content =
    frame_text content.base content.cfa ++ return_text content.ra ++ pointer_text content.fp ++ signing_text content.signed

-- `+START`, a blank and the content
unfoldable pub row_text : Row → List ℕ
row_text row = codes "+" ++ decimal row.start ++ codes " " ++ content_text row.content
