-- A function as SFrame Version 2 expresses it, by the content of its call frame instructions' rows at each offset (GNU SFrame
-- specification, function descriptor entries and frame row entries): a row at 0 and at each offset where the content changes.
use Rattle.std.specs.Prelude.{◌≡◌, ◌<◌, ℕ, zero, suc, Bool, true, false, not, List, [], ◌∷◌, Option, Some, None, Result, Ok, Err}
use Rattle.std.specs.List.{filter, filter_map, range_with_len}
use Rattle.sf_model.specs.declared.machine.Arch.{Arch}
use Rattle.sf_model.specs.declared.content.Content.{Content}
use Rattle.sf_model.specs.declared.facts.FdeFacts.{FdeFacts}
use Rattle.sf_model.specs.declared.function.Func.{Func}
use Rattle.sf_model.specs.declared.function.Shape.TheVariants.{Plain}
use Rattle.sf_model.specs.declared.omission.Omission.{Omission}
use Rattle.sf_model.specs.declared.omission.Reason.{Reason}
use Rattle.sf_model.specs.declared.rows.Row.{Row}
use Rattle.cfa_machine.specs.declared.row.DwRow.{DwRow}
use Rattle.sf_express.specs.Expressed.{same_content, reason_of}
use Rattle.sf_express.specs.Offsets.{content_at_offset}
pub use Rattle.sf_model.specs.Firsts.{or_later}

-- at each offset a content, or the first reason against the row there
abbrev pub ContentsByOffset : Type 0
ContentsByOffset = (offset : ℕ) → Result Content Reason

-- ---- omissions
-- the reason against a row, with its offset
abbrev pub against : (offset : ℕ) → Result Content Reason → Option Omission
against offset (Ok content) = None
against offset (Err reason) = Some (record { reason = reason; offset = Some offset })

-- the first reason at one of these offsets
abbrev pub first_against : ContentsByOffset → List ℕ → Option Omission
first_against says [] = None
first_against says (offset ∷ offsets) = or_later (against offset (says offset)) (first_against says offsets)

-- the reason against the function as a whole, or else the first one against a row
abbrev pub whole_or_row : Option Reason → Option Omission → Option Omission
whole_or_row (Some reason) row = Some (record { reason = reason; offset = None })
whole_or_row None row = row

-- the first reason against the function: against it as a whole, or else against the row at the least offset below its size
unfoldable pub omission_of : Arch → FdeFacts → ContentsByOffset → Option Omission
omission_of arch facts says = whole_or_row (reason_of arch facts) (first_against says (range_with_len 0 facts.size))

-- ---- rows
-- both offsets have the same content
abbrev pub are_same_contents : Result Content Reason → Result Content Reason → Bool
are_same_contents (Ok content) (Ok other) = same_content content other
are_same_contents (Ok content) (Err reason) = false
are_same_contents (Err reason) said = false

-- a row begins at 0, and where the content is not that of the offset before
abbrev pub begins : ContentsByOffset → (offset : ℕ) → Bool
begins says zero = true
begins says (suc offset) = not (are_same_contents (says offset) (says (suc offset)))

-- the row that begins at an offset, if it has a content
abbrev pub row_there : (offset : ℕ) → Result Content Reason → Option Row
row_there offset (Ok content) = Some (record { start = offset; content = content })
row_there offset (Err reason) = None

-- the rows that begin at one of these offsets
abbrev pub rows_among : ContentsByOffset → List ℕ → List Row
rows_among says offsets = filter_map (λ (offset : ℕ). row_there offset (says offset)) (filter (begins says) offsets)

-- the rows of a function of this size
unfoldable pub rows_of : ContentsByOffset → (size : ℕ) → List Row
rows_of says size = rows_among says (range_with_len 0 size)

-- ---- the function
-- the function with the rows that begin where the content changes
abbrev pub expressed : FdeFacts → ContentsByOffset → Func
expressed facts says = record { start = facts.start; size = facts.size; shape = Plain; key = facts.key; rows = rows_of says facts.size }

-- the function, or the omission if there is one
abbrev pub unless_omitted : Option Omission → Func → Result Func Omission
unless_omitted None function = Ok function
unless_omitted (Some omission) function = Err omission

-- the function as it is expressed, or the first reason against it
unfoldable pub function_of : Arch → FdeFacts → ContentsByOffset → Result Func Omission
function_of arch facts says = unless_omitted (omission_of arch facts says) (expressed facts says)

-- at each offset below the size this is the content of the call frame instructions' rows, or the reason against it
abbrev pub AreContentsOf : Arch → (size : ℕ) → List DwRow → ContentsByOffset → Type 0
AreContentsOf arch size rows says = (offset : ℕ) → offset < size → content_at_offset arch offset rows ≡ Some (says offset)
