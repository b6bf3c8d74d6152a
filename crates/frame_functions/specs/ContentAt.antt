-- The content that call frame information (DWARF 5, section 6.4) has at each address, where SFrame Version 2 has a form for it (GNU SFrame
-- specification, "SFrame Frame Row Entries"): of kept and of omitted functions.
use Rattle.std.specs.Prelude.{◌≡◌, ◌≤◌, ◌-◌, ◌==◌, ◌&&◌, ℕ, Bool, not, IsTrue, List, Option, Some, None, ⊤, if◌then◌else◌}
use Rattle.std.specs.List.{All, find}
use Rattle.std.specs.Option.{option_and_then, option_map}
use Rattle.sf_model.specs.declared.content.Content.{Content}
use Rattle.sf_model.specs.declared.machine.Arch.{Arch}
use Rattle.sf_model.specs.declared.machine.Key.{Key}
use Rattle.sf_model.specs.Content.{content_fits}
use Rattle.sf_express.specs.declared.content_ranges.ContentRange.{ContentRange}
use Rattle.cfa_machine.specs.Registers.{return_address}
use Rattle.sf_express.specs.ContentRanges.{content_in}
use Rattle.frame_functions.specs.declared.keyed_content.KeyedContent.{KeyedContent}
use Rattle.frame_functions.specs.Functions.{holds_address, Function}
use Rattle.frame_functions.specs.Kept.{row_contents}

-- the content at each address, if there is one
abbrev pub Answers : Type 0
Answers = (pc : ℕ) → Option KeyedContent

-- a content with a key
abbrev pub with_key : Key → Content → KeyedContent
with_key key content = record { content = content; key = key }

-- SFrame has a form for the function's frames: its return address column is the machine's, and it is no signal frame
abbrev pub has_form : Function → Bool
has_form f = (f.column == return_address f.arch) && not f.signal

-- the content of its row at an offset, if there is no reason against it
abbrev pub form_content : Function → (offset : ℕ) → Option Content
form_content f offset = if has_form f then content_in (row_contents f offset) else None

-- the content of a function at one of its addresses, kept or omitted: its other rows, and its size, don't matter
abbrev pub content_in_function : (pc : ℕ) → Function → Option KeyedContent
content_in_function pc f = option_map (with_key f.key) (form_content f (pc - f.start))

-- the content in the function that has the address
unfoldable pub dwarf_at : List Function → Answers
dwarf_at functions pc = option_and_then (content_in_function pc) (find (holds_address pc) functions)

-- ---- from an address on
-- the content is the same at each address from one to another, both included
abbrev pub HoldsTo : Answers → (from to : ℕ) → KeyedContent → Type 0
HoldsTo answers from to said = (pc : ℕ) → from ≤ pc → pc ≤ to → answers pc ≡ Some said

-- the greatest address of a function up to which the content is that at one of its addresses
pub record HoldsUpTo (answers : Answers) (f : Function) (pc : ℕ) (said : KeyedContent) (last : ℕ) : Type 0 where
  pub from_here : pc ≤ last
  pub within : IsTrue (holds_address last f)
  pub same : HoldsTo answers pc last said
  pub greatest : (other : ℕ) → IsTrue (holds_address other f) → HoldsTo answers pc other said → other ≤ last

-- Inside the crate: the content at an address of a function, and the greatest address up to which it stays the same
abbrev pub GivesUpTo : Answers → Function → (pc : ℕ) → Option (Content × Key × ℕ) → Type 0
GivesUpTo answers f pc None = answers pc ≡ None
GivesUpTo answers f pc (Some row) = HoldsUpTo answers f pc (with_key row.1 row.0) row.2

-- the content at an address, and the greatest address of the same function up to which it stays the same
abbrev pub RowAt : List Function → (pc : ℕ) → Option (Content × Key × ℕ) → Type 0
RowAt functions pc None = dwarf_at functions pc ≡ None
RowAt functions pc (Some row) = (f : Function) × (find (holds_address pc) functions ≡ Some f) × HoldsUpTo (dwarf_at functions) f pc (with_key row.1 row.0) row.2

-- ---- contents of a machine
-- a content fits the machine, if there is a content
abbrev pub IfFits : Arch → Option Content → Type 0
IfFits arch None = ⊤
IfFits arch (Some content) = IsTrue (content_fits arch content)

-- all ranges have contents of the machine
abbrev pub AllFit : Arch → List ContentRange → Type 0
AllFit arch ranges = All (λ (p : ContentRange). IfFits arch p.content) ranges
