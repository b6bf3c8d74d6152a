-- What a section and what call frame information say fits the machine, with offsets in range.
use Rattle.std.specs.Prelude.{IfOk, IfSome, IsTrue}
use Rattle.std.specs.List.{All, filter, find}
use Rattle.std.specs.Option.{option_and_then, option_map}
use Rattle.std.proofs.Common.{◌≡◌, ℕ, ◌-◌, Bool, true, false, cond, List, [], ◌∷◌, Option, Some, None, Result, Ok, Err}
use Rattle.std.proofs.lemmas.List.Elements.{All-filter, All-head, All-tail}
use Rattle.sf_model.specs.declared.content.Content.{Content}
use Rattle.sf_model.specs.declared.function.Func.{Func}
use Rattle.sf_model.specs.declared.function.Shape.{Shape}
use Rattle.sf_model.specs.declared.function.Shape.TheVariants.{Plain, Repeat}
use Rattle.sf_model.specs.declared.machine.Arch.{Arch}
use Rattle.sf_model.specs.declared.omission.Reason.{Reason}
use Rattle.sf_model.specs.declared.rows.Row.{Row}
use Rattle.sf_model.specs.Content.{OffsetsInRange, content_fits}
use Rattle.sf_model.specs.Lookup.{begins_by, begins_last, contains, found_at, offset_in_block, row_at, row_in_first}
use Rattle.cfa_machine.specs.FirstFault.{first_fault}
use Rattle.sf_express.specs.ContentRanges.{content_in}
use Rattle.sf_express.proofs.Writable.{ContentFits, content_of-fits}
use Rattle.frame_functions.specs.Functions.{holds_address, Function}
use Rattle.frame_functions.specs.Kept.{row_contents}
use Rattle.frame_functions.specs.ContentAt.{dwarf_at, has_form, content_in_function, with_key}
use Rattle.sf_verify.specs.Agreement.{IsFitting}
use Rattle.sf_verify.specs.SectionContent.{by_row, section_at, unless_in_blocks}
use Rattle.sf_verify.proofs.Signs.{signs_fit}

-- what is found has what all have
find_all : {X : Type 0} (P : X → Type 0) (test : X → Bool) (xs : List X) → All P xs → IfSome (find test xs) P
find_all P test [] h = tt
find_all {X} P test (x ∷ xs) h = at_test (test x) (find_all P test xs (All-tail P x xs h))
  where
    at_test : (b : Bool) → IfSome (find test xs) P → IfSome (cond b (Some x) (find test xs)) P
    at_test true later = All-head P x xs h
    at_test false later = later

-- ---- a section
-- a row's content is one of the machine, with offsets in range
pub record RowFits (arch : Arch) (r : Row) : Type 0 where
  pub fits : IsTrue (content_fits arch r.content)
  pub in_range : OffsetsInRange r.content

row_found : (arch : Arch) (offset : ℕ) (rows : List Row) → All (RowFits arch) rows → IfSome (row_at offset rows) (RowFits arch)
unfolding row_at
row_found arch offset rows h =
    let begun = filter (begins_by offset) rows in
    find_all (RowFits arch) (begins_last begun) begun (All-filter (begins_by offset) (RowFits arch) rows h)

row_says : (arch : Arch) (f : Func) (found : Option Row) → IfSome found (RowFits arch) → IfSome (option_and_then by_row (option_map (λ (row : Row). record { func = f; row = row }) found)) (IsFitting arch)
row_says arch f None h = tt
row_says arch f (Some r) h = by_shape f.shape
  where
    by_shape : (shape : Shape) → IfSome (unless_in_blocks shape (with_key f.key r.content)) (IsFitting arch)
    by_shape Plain = record { fits = h.fits; in_range = h.in_range }
    by_shape (Repeat size) = tt

abbrev RowsFit : Arch → Func → Type 0
RowsFit arch f = All (RowFits arch) f.rows

function_says : (arch : Arch) (pc : ℕ) (found : Option Func) → IfSome found (RowsFit arch) → IfSome (option_and_then by_row (row_in_first pc found)) (IsFitting arch)
function_says arch pc None h = tt
function_says arch pc (Some f) h = row_says arch f (row_at (offset_in_block f.shape (pc - f.start)) f.rows) (row_found arch (offset_in_block f.shape (pc - f.start)) f.rows h)

pub section_fits : (arch : Arch) (functions : List Func) → All (λ (f : Func). All (RowFits arch) f.rows) functions → (pc : ℕ) → IfSome (section_at functions pc) (IsFitting arch)
unfolding section_at found_at
section_fits arch functions h pc = function_says arch pc (find (contains pc) functions) (find_all (RowsFit arch) (contains pc) functions h)

-- ---- call frame information
content_says : (f : Function) (form : Bool) (said : Result Content Reason) → ContentFits f.arch said → IfOk said OffsetsInRange → IfSome (option_map (with_key f.key) (cond form (content_in said) None)) (IsFitting f.arch)
content_says f true (Ok content) fits in_range = record { fits = fits; in_range = in_range }
content_says f true (Err reason) fits in_range = tt
content_says f false said fits in_range = tt

-- a function that runs without a fault
pub function_fits : (f : Function) → first_fault f.arch f.factor f.initial f.own ≡ None → ((offset : ℕ) → IfOk (row_contents f offset) OffsetsInRange) → (pc : ℕ) → IfSome (content_in_function pc f) (IsFitting f.arch)
function_fits f runs in_range pc =
    let offset = pc - f.start in
    content_says f (has_form f) (row_contents f offset) (content_of-fits f.arch _ (signs_fit f.arch f.code f.factor f.initial f.own offset runs)) (in_range offset)

abbrev SaysFit : Arch → Function → Type 0
SaysFit arch f = (pc : ℕ) → IfSome (content_in_function pc f) (IsFitting arch)

pub dwarf_fits : (arch : Arch) (functions : List Function) → All (λ (f : Function). (pc : ℕ) → IfSome (content_in_function pc f) (IsFitting arch)) functions → (pc : ℕ) → IfSome (dwarf_at functions pc) (IsFitting arch)
unfolding dwarf_at
dwarf_fits arch functions h pc = at_found (find (holds_address pc) functions) (find_all (SaysFit arch) (holds_address pc) functions h)
  where
    at_found : (found : Option Function) → IfSome found (SaysFit arch) → IfSome (option_and_then (content_in_function pc) found) (IsFitting arch)
    at_found None none = tt
    at_found (Some f) says = says pc
