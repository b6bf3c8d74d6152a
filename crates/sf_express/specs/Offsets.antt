-- The content at an offset of a function: that of the row with the greatest start not above the offset (GNU SFrame
-- specification, "SFrame Frame Row Entries").
use Rattle.std.specs.Prelude.{◌≡◌, ◌≢◌, ◌<◌, ℕ, nat_le, List, [], ◌∷◌, Option, Some, None, Result, Ok, Err, if◌then◌else◌}
use Rattle.sf_model.specs.declared.machine.Arch.{Arch}
use Rattle.sf_model.specs.declared.content.Content.{Content}
use Rattle.sf_model.specs.declared.omission.Reason.{Reason}
use Rattle.sf_model.specs.declared.facts.FdeFacts.{FdeFacts}
use Rattle.sf_model.specs.declared.function.Func.{Func}
use Rattle.sf_model.specs.declared.rows.Row.{Row}
use Rattle.sf_express.specs.declared.list_forms.ExpressFault.{ExpressFault}
use Rattle.sf_express.specs.declared.list_forms.ExpressFault.TheVariants.{Omit, NoMemory}
use Rattle.sf_express.specs.Expressed.{reason_of}
use Rattle.cfa_machine.specs.declared.row.DwRow.{DwRow}
use Rattle.cfa_machine.specs.RowAtOffset.{latest_at}
use Rattle.sf_express.specs.Rules.{content_of}

-- the content of a row of the call frame instructions, or the reason against it, if there is a row
abbrev pub content_or_reason : Arch → Option DwRow → Option (Result Content Reason)
content_or_reason arch None = None
content_or_reason arch (Some r) = Some (content_of arch r)

-- the content at an offset, or the reason against it, by the call frame instructions' rows
abbrev pub content_at_offset : Arch → ℕ → List DwRow → Option (Result Content Reason)
content_at_offset arch o rows = content_or_reason arch (latest_at o None rows)

-- the content at an offset, by SFrame's rows
abbrev pub latest_content : ℕ → Option Content → List Row → Option Content
latest_content o found [] = found
latest_content o found (r ∷ rows) = latest_content o (if nat_le r.start o then Some r.content else found) rows

-- a content, as one without a reason against it
abbrev pub without_reason : Option Content → Option (Result Content Reason)
without_reason None = None
without_reason (Some c) = Some (Ok c)

-- at every offset SFrame's rows have the content of the call frame instructions' rows
abbrev pub HaveSameContents : Arch → List DwRow → List Row → Type 0
HaveSameContents arch rows kept = (o : ℕ) → content_at_offset arch o rows ≡ without_reason (latest_content o None kept)

-- no row, or one that SFrame can express
abbrev pub CanBeExpressed : Option (Result Content Reason) → Type 0
CanBeExpressed None = Unit {0}
CanBeExpressed (Some (Ok c)) = Unit {0}
CanBeExpressed (Some (Err reason)) = ⊥

-- the reason of the row at this offset, which is the least offset with a reason
pub record IsFirstReason (arch : Arch) (rows : List DwRow) (reason : Reason) (o : ℕ) : Type 0 where
  pub there : content_at_offset arch o rows ≡ Some (Err reason)
  pub before : (p : ℕ) → p < o → CanBeExpressed (content_at_offset arch p rows)

-- an omission has the first reason of the function as a whole, and no offset, or else the first of its rows
abbrev pub IsOmission : Arch → FdeFacts → List DwRow → Reason → Option ℕ → Type 0
IsOmission arch facts rows reason None = reason_of arch facts ≡ Some reason
IsOmission arch facts rows reason (Some o) = (reason_of arch facts ≡ None) × IsFirstReason arch rows reason o

-- a function is kept if it has no reason as a whole, and is omitted with its first reason
abbrev pub Omits : Arch → FdeFacts → List DwRow → Result Func ExpressFault → Type 0
Omits arch facts rows (Ok f) = reason_of arch facts ≡ None
Omits arch facts rows (Err (Omit omission)) = IsOmission arch facts rows omission.reason omission.offset
Omits arch facts rows (Err NoMemory) = Unit {0}

-- a row's content is not that of the row before it
abbrev pub DifferFrom : Option Content → List Row → Type 0
DifferFrom last [] = Unit {0}
DifferFrom last (r ∷ rows) = (last ≢ Some r.content) × DifferFrom (Some r.content) rows

-- the first row starts at 0
abbrev pub StartAtZero : List Row → Type 0
StartAtZero [] = ⊥
StartAtZero (r ∷ rows) = r.start ≡ 0

-- rows begin at 0 and where the content changes, and nowhere else
pub record StandAtChanges (rows : List Row) : Type 0 where
  pub first : StartAtZero rows
  pub differ : DifferFrom None rows
