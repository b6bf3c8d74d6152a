-- A function as SFrame Version 2 expresses it, or why it can't.
use Rattle.std.specs.Prelude.{◌≡◌, ℕ, ℤ, ◌^◌, ◌==◌, nat_le, Bool, true, false, ◌&&◌, not, List, [], ◌∷◌, Option, Some, None, Result, Ok, Err, if◌then◌else◌}
use Rattle.std.specs.Ordering.{int_eq}
use Rattle.sf_model.specs.Answers as answers
use Rattle.sf_model.specs.declared.machine.Base.{Base}
use Rattle.sf_model.specs.declared.machine.Base.TheVariants.{Fp, Sp}
use Rattle.sf_model.specs.declared.content.Ra.{Ra}
use Rattle.sf_model.specs.declared.content.Ra.TheVariants.{Fixed, Link, At}
use Rattle.sf_model.specs.declared.content.Content.{Content}
use Rattle.sf_model.specs.declared.machine.Arch.{Arch}
use Rattle.sf_model.specs.declared.facts.FdeFacts.{FdeFacts}
use Rattle.sf_model.specs.declared.function.Func.{Func}
use Rattle.sf_model.specs.declared.function.Shape.TheVariants.{Plain}
use Rattle.sf_model.specs.declared.omission.Omission.{Omission}
use Rattle.sf_model.specs.declared.omission.Reason.{Reason}
use Rattle.sf_model.specs.declared.omission.Reason.TheVariants.{EmptyRange, SizeTooLarge, ReturnColumn, SignalFrame}
use Rattle.sf_model.specs.declared.rows.Row.{Row}
use Rattle.cfa_machine.specs.declared.row.DwRow.{DwRow}
use Rattle.sf_express.specs.declared.list_forms.ExpressFault.{ExpressFault}
use Rattle.sf_express.specs.declared.list_forms.ExpressFault.TheVariants.{Omit, NoMemory}
use Rattle.sf_express.specs.Rules.{content_of}
pub use Rattle.sf_bytes.specs.Steps.{◌>>=◌}
use Rattle.cfa_machine.specs.Registers.{return_address}

-- ---- whether two contents are the same
-- whether two base registers are the same
abbrev pub same_base : Base → Base → Bool
same_base Fp Fp = true
same_base Fp Sp = false
same_base Sp Fp = false
same_base Sp Sp = true

-- whether two return addresses are at the same place
abbrev pub same_ra : Ra → Ra → Bool
same_ra Fixed Fixed = true
same_ra Fixed Link = false
same_ra Fixed (At n) = false
same_ra Link Fixed = false
same_ra Link Link = true
same_ra Link (At n) = false
same_ra (At m) Fixed = false
same_ra (At m) Link = false
same_ra (At m) (At n) = int_eq m n

-- whether two frame pointers are saved at the same offset, or both aren't
abbrev pub same_fp : Option ℤ → Option ℤ → Bool
same_fp None None = true
same_fp None (Some n) = false
same_fp (Some m) None = false
same_fp (Some m) (Some n) = int_eq m n

-- whether both return addresses are signed, or both aren't
abbrev pub same_sign : Bool → Bool → Bool
same_sign true signed = signed
same_sign false signed = not signed

-- whether two contents are the same
abbrev pub same_content : Content → Content → Bool
same_content a b = same_base a.base b.base && int_eq a.cfa b.cfa && same_ra a.ra b.ra && same_fp a.fp b.fp && same_sign a.signed b.signed

-- whether a content is that of the row before
abbrev pub repeats : Option Content → Content → Bool
repeats None c = false
repeats (Some last) c = same_content last c

-- ---- the whole function (its size is in four bytes, and it has the machine's return address)
-- the first reason of the function as a whole
abbrev pub reason_of : Arch → FdeFacts → Option Reason
reason_of arch facts =
    if facts.size == 0 then Some EmptyRange else
    if nat_le (2 ^ 32) facts.size then Some SizeTooLarge else
    if facts.column == return_address arch then (if facts.signal then Some SignalFrame else None) else
    Some ReturnColumn

-- ---- its rows
-- the content from a start on, or the reason there
abbrev pub row_from : ℕ → Result Content Reason → Result Row Omission
row_from start (Ok c) = Ok (record { start = start; content = c })
row_from start (Err reason) = Err (record { reason = reason; offset = Some start })

-- the row in SFrame's form, or its omission
abbrev pub row_by : Arch → DwRow → Result Row Omission
row_by arch r = row_from r.start (content_of arch r)

-- a row is kept unless its content is that of the row before
abbrev pub unless_repeated : Option Content → Row → List Row → List Row
unless_repeated last row rows = if repeats last row.content then rows else row ∷ rows

-- the rows where the content changes, or the omission of the first row that can't be expressed
unfoldable pub expressed_rows : Arch → (last : Option Content) → List DwRow → Result (List Row) Omission
expressed_rows arch last [] = Ok []
expressed_rows arch last (r ∷ rows) = do
  row ← row_by arch r
  others ← expressed_rows arch (Some row.content) rows
  Ok (unless_repeated last row others)

-- the function, or the first omission: of the function as a whole, or else of a row
abbrev pub with_rows : FdeFacts → Option Reason → Result (List Row) Omission → Result Func Omission
with_rows facts (Some reason) rows = Err (record { reason = reason; offset = None })
with_rows facts None (Ok rows) = Ok (record { start = facts.start; size = facts.size; shape = Plain; key = facts.key; rows = rows })
with_rows facts None (Err omission) = Err omission

-- the function in SFrame's form, or its first omission
abbrev pub function_by : Arch → FdeFacts → List DwRow → Result Func Omission
function_by arch facts rows = with_rows facts (reason_of arch facts) (expressed_rows arch None rows)

-- ---- what a call returned is what the definition gives
-- Inside the crate: the row was returned, or the omission, and memory didn't run out
abbrev pub Makes : Result Row ExpressFault → Result Row Omission → Type 0
Makes (Ok row) given = given ≡ Ok row
Makes (Err (Omit omission)) given = given ≡ Err omission
Makes (Err NoMemory) given = ⊥

-- the omission of a fault, or none for out of memory
abbrev pub omission_of : ExpressFault → Option Omission
omission_of (Omit omission) = Some omission
omission_of NoMemory = None

-- Inside the crate: the omission was returned, or memory ran out
abbrev pub Fails : {Y : Type 0} → ExpressFault → Result Y Omission → Type 0
Fails fault given = answers.Fails omission_of fault given

-- the result, seen through `view`, is what the definition gives, unless memory ran out
abbrev pub Gives : {X Y : Type 0} → (X → Y) → Result X ExpressFault → Result Y Omission → Type 0
Gives view result given = answers.Gives omission_of view result given
