-- Functions that are lent as their records describe them (LSB Core, "The .eh_frame section"), and the order of functions by their starts.
use Rattle.std.specs.Prelude.{◌≡◌, ◌<◌, ℕ, ℤ, pos, Bool, true, false, is_ok, List, [], ◌∷◌, get_or, length, map}
use Rattle.sf_bytes.specs.Cursor.{cursor}
use Rattle.cfa_insn.specs.Listing.{Item, listing}
use Rattle.cfa_machine.specs.Pass.{rows_by}
use Rattle.sf_model.specs.declared.machine.Arch.{Arch}
use Rattle.sf_model.specs.declared.machine.Arch.TheVariants.{Amd64}
use Rattle.sf_model.specs.declared.machine.Key.{Key}
use Rattle.sf_model.specs.declared.machine.Key.TheVariants.{A}
use Rattle.sf_model.specs.declared.omission.Span.{Span}
use Rattle.eh_records.specs.declared.fde.Fde.{Fde}
use Rattle.eh_records.specs.Cie.{CieView}
use Rattle.sf_functions.specs.Order.{IsInOrder}
use Rattle.frame_functions.specs.declared.read_function.Expressed.{Expressed}
use Rattle.frame_functions.specs.declared.read_function.Expressed.TheVariants.{Kept, LeftOut}
use Rattle.frame_functions.specs.declared.description.CommonPart.{CommonPart}
use Rattle.frame_functions.specs.declared.description.Description.{Description}
use Rattle.frame_functions.specs.declared.description.DescriptionItem.{DescriptionItem}
use Rattle.frame_functions.specs.Functions.{Function}

-- the function that is lent
abbrev pub described_function : Description → Function
described_function s = record {
  arch = s.arch;
  start = s.facts.start;
  size = s.facts.size;
  column = s.facts.column;
  signal = s.facts.signal;
  key = s.facts.key;
  code = s.code;
  factor = s.factor;
  initial = listing (cursor s.initial);
  own = listing (cursor s.own);
  origin = s.origin;
}

-- ---- what functions share, held once
-- what the functions of one common information entry share
pub record Common : Type 0 where
  pub arch : Arch
  pub column : ℕ
  pub signal : Bool
  pub key : Key
  pub code : ℕ
  pub factor : ℤ
  pub initial : List Item

-- what is held of it
abbrev pub common_view : CommonPart → Common
common_view c = record { arch = c.arch; column = c.column; signal = c.signal; key = c.key; code = c.code; factor = c.factor; initial = listing (cursor c.initial) }

-- the same of all
abbrev pub commons_of : List CommonPart → List Common
commons_of parts = map common_view parts

-- what is past the end of a list
abbrev pub no_common : Common
no_common = record { arch = Amd64; column = 0; signal = false; key = A; code = 0; factor = pos 0; initial = [] }

-- the initial instructions of the functions that share what has this number
abbrev pub HasInitial : List Common → (number : ℕ) → List Item → Type 0
HasInitial commons number initial = initial ≡ (get_or commons number no_common).initial

-- a function by what it shares and what it has of its own
abbrev pub function_by_item : Common → DescriptionItem → Function
function_by_item c i = record {
  arch = c.arch;
  start = i.start;
  size = i.size;
  column = c.column;
  signal = c.signal;
  key = c.key;
  code = c.code;
  factor = c.factor;
  initial = c.initial;
  own = listing (cursor i.own);
  origin = i.origin;
}

-- the function, where what it shares is one of these
abbrev pub item_function : List Common → DescriptionItem → Function
item_function commons i = function_by_item (get_or commons i.common no_common) i

-- each instruction of a function can be run
abbrev pub CanBeRun : Function → Type 0
CanBeRun f = is_ok (rows_by f.arch f.code f.factor f.size f.initial f.own) ≡ true

-- what it shares is one of these, and it can be run
abbrev pub IsItemIn : List Common → DescriptionItem → Type 0
IsItemIn commons i = (i.common < length commons) × CanBeRun (item_function commons i)

-- functions that are lent, and what they share
pub record DescriptionsView : Type 0 where
  pub common : List Common
  pub functions : List Function

-- ---- the order by starts
-- its first address
abbrev pub function_start : Function → ℕ
function_start f = f.start

-- the same functions by rising start; those of one start stay in their order
abbrev pub AreByStart : (all sorted : List Function) → Type 0
AreByStart all sorted = IsInOrder function_start all sorted

-- ---- Inside the crate: parts of these
-- a function by its frame description entry, its addresses and its origin
abbrev pub function_by_span : Arch → Fde → Span → Function
function_by_span arch f span = record {
  arch = arch;
  start = span.start;
  size = span.size;
  column = f.cie.return_address_register;
  signal = f.cie.signal;
  key = f.cie.key;
  code = f.cie.code_alignment_factor;
  factor = f.cie.data_alignment_factor;
  initial = listing (cursor f.cie.insns);
  own = listing (cursor f.insns);
  origin = span.origin;
}

-- of the functions of this entry
abbrev pub common_of : Arch → CieView → Common
common_of arch cie = record { arch = arch; column = cie.return_address_register; signal = cie.signal; key = cie.key; code = cie.code_alignment_factor; factor = cie.data_alignment_factor; initial = listing cie.insns }

-- the function, if it is omitted
abbrev pub if_left : Expressed → Function → List Function
if_left (Kept g) f = []
if_left (LeftOut omission) f = f ∷ []
