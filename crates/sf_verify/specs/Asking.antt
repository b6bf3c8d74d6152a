-- Inside the crate: the contents of call frame information, from the two lists in which the functions of the inputs are gathered.
use Rattle.std.specs.Prelude.{◌≡◌, ◌<◌, ◌≤◌, ◌+◌, ◌-◌, ◌^◌, ℕ, Bool, true, false, List, [], ◌∷◌, length, map, get_or, IsTrue, Option, Some, None}
use Rattle.std.specs.List.{All, find}
use Rattle.std.specs.Option.{option_and_then, option_map}
use Rattle.sf_model.specs.declared.content.Content.{Content}
use Rattle.sf_model.specs.declared.function.Func.{Func}
use Rattle.sf_model.specs.declared.function.Shape.TheVariants.{Plain}
use Rattle.sf_model.specs.declared.machine.Arch.{Arch}
use Rattle.sf_model.specs.declared.rows.Row.{Row}
use Rattle.sf_model.specs.Content.{content_fits}
use Rattle.sf_model.specs.Function.{RowsRise}
use Rattle.sf_model.specs.Lookup.{contains}
use Rattle.sf_write.specs.Stored.{stored_in}
use Rattle.sf_express.specs.ContentRanges.{AreRanges, content_by}
use Rattle.frame_functions.specs.Functions.{holds_address, Function}
use Rattle.frame_functions.specs.declared.function_list.InputFunctions.{InputFunctions}
use Rattle.frame_functions.specs.declared.keyed_content.KeyedContent.{KeyedContent}
use Rattle.frame_functions.specs.ContentAt.{AllFit, Answers, content_in_function, with_key}
use Rattle.sf_verify.specs.declared.dwarf_cursor.DwarfCursor.{DwarfCursor}
use Rattle.sf_verify.specs.declared.dwarf_cursor.CurrentFunction.{CurrentFunction}
use Rattle.sf_verify.specs.declared.dwarf_cursor.ContentUntil.{ContentUntil}
use Rattle.sf_verify.specs.Comparing.{function_content}

-- ---- the contents by both lists
-- the content at an address by the kept function that contains it, or else by the omitted one
abbrev pub by_holder : (pc : ℕ) → (kept : Option Func) → (omitted : Option Function) → Option KeyedContent
by_holder pc (Some f) omitted = function_content f pc
by_holder pc None omitted = option_and_then (content_in_function pc) omitted

-- the content at each address, by kept and omitted functions
unfoldable pub answers_of : (kept : List Func) → (omitted : List Function) → Answers
answers_of kept omitted pc = by_holder pc (find (contains pc) kept) (find (holds_address pc) omitted)

-- the kept functions of all inputs, with their rows
abbrev pub kept_in : InputFunctions → List Func
kept_in functions = map (stored_in functions.rows) functions.kept

-- the content at each address, by the lists that are held
abbrev pub contents_of : DwarfCursor → Answers
contents_of d = answers_of d.kept d.omitted.now.functions

-- the first row begins at 0
abbrev pub RowsBegin : List Row → Type 0
RowsBegin [] = ⊥
RowsBegin (r ∷ rows) = r.start ≡ 0

-- the kept function is as it was gathered: plain, with a row from its first address on, and its rows rise
pub record IsRowed (arch : Arch) (f : Func) : Type 0 where
  pub plain : f.shape ≡ Plain
  pub end : f.start + f.size ≤ 2 ^ 64
  pub first : RowsBegin f.rows
  pub below : All (λ (r : Row). r.start < f.size) f.rows
  pub rise : RowsRise f.rows
  pub fits : All (λ (r : Row). IsTrue (content_fits arch r.content)) f.rows

-- these are the contents by the two lists, in which at most one function contains an address
pub record AreHolders (arch : Arch) (answers : Answers) (kept : List Func) (omitted : List Function) : Type 0 where
  pub kept_content : (i : ℕ) (d : Func) → i < length kept → (pc : ℕ) → (get_or kept i d).start ≤ pc → pc < (get_or kept i d).start + (get_or kept i d).size → answers pc ≡ function_content (get_or kept i d) pc
  pub omitted_content : (i : ℕ) (d : Function) → i < length omitted → (pc : ℕ) → (get_or omitted i d).start ≤ pc → pc < (get_or omitted i d).start + (get_or omitted i d).size → answers pc ≡ content_in_function pc (get_or omitted i d)
  pub no_content_there : (pc : ℕ) → ((i : ℕ) (d : Func) → i < length kept → (get_or kept i d).start ≤ pc → pc < (get_or kept i d).start + (get_or kept i d).size → ⊥)
      → ((i : ℕ) (d : Function) → i < length omitted → (get_or omitted i d).start ≤ pc → pc < (get_or omitted i d).start + (get_or omitted i d).size → ⊥) → answers pc ≡ None
  -- both lists are by rising start, of functions of this machine
  pub kept_rowed : All (IsRowed arch) kept
  pub kept_rise : (i j : ℕ) (d : Func) → i ≤ j → j < length kept → (get_or kept i d).start ≤ (get_or kept j d).start
  pub omitted_rise : (i j : ℕ) (d : Function) → i ≤ j → j < length omitted → (get_or omitted i d).start ≤ (get_or omitted j d).start
  pub omitted_here : All (λ (f : Function). f.arch ≡ arch) omitted

-- ---- the function that was found last
-- the function's ranges have at each of its addresses the content that is there
pub record IsHeld (arch : Arch) (answers : Answers) (h : CurrentFunction) : Type 0 where
  pub end : h.start + h.size ≤ 2 ^ 64
  pub ranges : 0 < h.size → AreRanges h.size h.ranges.items
  pub says : (pc : ℕ) (content : Option Content) → h.start ≤ pc → pc < h.start + h.size → content_by (pc - h.start) None h.ranges.items ≡ Some content
      → answers pc ≡ option_map (with_key h.key) content
  pub fits : AllFit arch h.ranges.items

-- the kept functions before a place end at an address or below it
abbrev pub KeptPassed : List Func → (next pc : ℕ) → Type 0
KeptPassed kept next pc = (i : ℕ) (d : Func) → i < next → i < length kept → (get_or kept i d).start + (get_or kept i d).size ≤ pc

-- the omitted functions before a place end at an address or below it
abbrev pub OmittedPassed : List Function → (next pc : ℕ) → Type 0
OmittedPassed omitted next pc = (i : ℕ) (d : Function) → i < next → i < length omitted → (get_or omitted i d).start + (get_or omitted i d).size ≤ pc

-- the content at each address from this one on can be found
pub record IsReady (d : DwarfCursor) (pc : ℕ) : Type 0 where
  pub holders : AreHolders d.arch (contents_of d) d.kept d.omitted.now.functions
  pub held : IsHeld d.arch (contents_of d) d.held
  pub kept_passed : KeptPassed d.kept d.next_kept pc
  pub omitted_passed : OmittedPassed d.omitted.now.functions d.next_omitted pc

-- both have the same lists, machine and contents
pub record IsSame (d e : DwarfCursor) : Type 0 where
  pub arch : e.arch ≡ d.arch
  pub kept : e.kept ≡ d.kept
  pub omitted : e.omitted.now ≡ d.omitted.now
  pub says : contents_of e ≡ contents_of d

-- the function that is held contains the address, or no kept function does
abbrev pub FindsKept : DwarfCursor → (pc : ℕ) → Bool → Type 0
FindsKept d pc true = (d.held.start ≤ pc) × (pc < d.held.start + d.held.size)
FindsKept d pc false = (i : ℕ) (f : Func) → i < length d.kept → (get_or d.kept i f).start ≤ pc → pc < (get_or d.kept i f).start + (get_or d.kept i f).size → ⊥

-- the function that is held contains the address, or no omitted function does
abbrev pub FindsOmitted : DwarfCursor → (pc : ℕ) → Bool → Type 0
FindsOmitted d pc true = (d.held.start ≤ pc) × (pc < d.held.start + d.held.size)
FindsOmitted d pc false = (i : ℕ) (f : Function) → i < length d.omitted.now.functions → (get_or d.omitted.now.functions i f).start ≤ pc → pc < (get_or d.omitted.now.functions i f).start + (get_or d.omitted.now.functions i f).size → ⊥

-- the function that is held contains the address, or there is no content
abbrev pub Finds : DwarfCursor → (pc : ℕ) → Bool → Type 0
Finds d pc true = (d.held.start ≤ pc) × (pc < d.held.start + d.held.size)
Finds d pc false = contents_of d pc ≡ None

-- the content that is known at an address is the content there, and up to the last address to which it is known
pub record IsKnownUpTo (arch : Arch) (answers : Answers) (pc : ℕ) (known : ContentUntil) : Type 0 where
  pub from_here : pc ≤ known.last
  pub steady : (p : ℕ) → pc ≤ p → p ≤ known.last → answers p ≡ Some known.said
  pub fits : IsTrue (content_fits arch known.said.content)

-- the content at an address is known, and up to which address, or there is none
abbrev pub Knows : Arch → Answers → (pc : ℕ) → Option ContentUntil → Type 0
Knows arch answers pc None = answers pc ≡ None
Knows arch answers pc (Some known) = IsKnownUpTo arch answers pc known
