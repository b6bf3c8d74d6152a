-- What inputs describe is what is read of them.
use Rattle.std.proofs.Common.{◌≡◌, ℕ, ◌+◌, Bool, true, false, not, cond, List, [], Option, ◌∷◌, ◌++◌, Result, Ok, Err, refl, sym, ap, subst, ◌∙◌}
use Rattle.std.specs.Prelude.{filter}
use Rattle.std.proofs.lemmas.List.{append-nil}
use Rattle.sf_model.specs.declared.machine.Arch.{Arch}
use Rattle.cfa_insn.specs.Listing.{Item, listing}
use Rattle.cfa_insn.proofs.Listed.{listed, stand_as_listed}
use Rattle.eh_records.specs.declared.fault.RecordFault.{RecordFault}
use Rattle.eh_records.specs.Fde.{FdeView}
use Rattle.eh_records.specs.Section.{EntryView, entries_of, frames, pointer_fields}
use Rattle.eh_records.proofs.EntriesRefused.{as_read, read_as}
use Rattle.elf_reloc.specs.declared.fix.RelocatedField.{RelocatedField}
use Rattle.frame_functions.specs.declared.fault.AsmFault.{AsmFault}
use Rattle.frame_functions.specs.declared.fault.AsmFault.TheVariants as asm
use Rattle.sf_asm.specs.declared.fault.GatherFault.{GatherFault}
use Rattle.sf_asm.specs.declared.fault.GatherFault.TheVariants as gather
use Rattle.sf_asm.specs.Described.{of_one_machine, DescribeTogether, joined, AllDescribe, OrFault, FrameDescribes, FramesDescribe, SectionDescribes, InputsDescribe, Describe}
use Rattle.frame_functions.specs.CallFrames.{CallFrames}
use Rattle.frame_functions.specs.Functions.{Function, by_instructions, function_in, functions_in, section_functions, sections_functions}
use Rattle.sf_asm.specs.Functions.{◌>>=◌, Object, functions_after, functions_of, machine_of, named, seen_behind}
use Rattle.sf_asm.specs.Inputs.{all_functions, first_item}
use Rattle.sf_asm.specs.Linking.{Gathers, GathersFrom, Links, LinksFrom}
use Rattle.frame_functions.specs.declared.read_function.ReadFunction.{ReadFunction}
use Rattle.sf_asm.specs.declared.fault.LinkFault.{LinkFault}
use Rattle.frame_functions.specs.Relocated.{Values, on_pointers, patched_values}
use Rattle.sf_asm.specs.Sections.{SectionsAre, elf_sections, files_in, sections_by, seen_by}
use Rattle.sf_model.specs.declared.form.Form.{Form}
use Rattle.sf_model.specs.declared.form.Form.TheVariants.{Elf, Bare}
use Rattle.elf_groups.specs.Groups.{dropped_groups, seen_in}
use Rattle.elf_groups.proofs.Dropped.{lists_no_other, lists_dropped, one_file_more}

abbrev All : Type 0
All = Result (List Function) AsmFault

-- ---- the results of parts
after_value : {X Y F : Type 0} (Is : X → Result Y F → Type 0) (then : X → Result Y F) (given : Result X F) (r : Result Y F) → ((x : X) (y : Result Y F) → Is x y → then x ≡ y) → OrFault Is given r → (given >>= then) ≡ r
after_value Is then (Ok x) r each h = each x r h
after_value Is then (Err fault) r each h = sym h

value_after : {X Y F : Type 0} (Is : X → Result Y F → Type 0) (then : X → Result Y F) (given : Result X F) → ((x : X) → Is x (then x)) → OrFault Is given (given >>= then)
value_after Is then (Ok x) each = each x
value_after Is then (Err fault) each = refl

-- ---- one function
abbrev alone : Result Function AsmFault → All
alone given = given >>= λ g. Ok (g ∷ [])

one_is : (arch : Arch) (item : ℕ) (section : CallFrames) (values : Values) (f : FdeView) (r : All) → FrameDescribes arch item section values f r → alone (function_in arch item section values f) ≡ r
unfolding function_in
one_is arch item section values f r h =
    ap (λ (is : List Item). alone (by_instructions arch item section values f is (listing f.insns))) (listed h.initial f.cie.insns h.initial_are)
    ∙ ap (λ (is : List Item). alone (by_instructions arch item section values f h.initial is)) (listed h.own f.insns h.own_are)
    ∙ sym h.is

is_one : (arch : Arch) (item : ℕ) (section : CallFrames) (values : Values) (f : FdeView) → FrameDescribes arch item section values f (alone (function_in arch item section values f))
unfolding function_in
is_one arch item section values f = record {
  initial = listing f.cie.insns;
  own = listing f.insns;
  initial_are = stand_as_listed (listing f.cie.insns) f.cie.insns refl;
  own_are = stand_as_listed (listing f.insns) f.insns refl;
  is = refl;
}

-- ---- a section
abbrev with_others : Result Function AsmFault → All → All
with_others first others = first >>= λ g. others >>= λ gs. Ok (g ∷ gs)

first_joined : (first : Result Function AsmFault) (others : All) → with_others first others ≡ joined (alone first) others
first_joined (Ok g) others = refl
first_joined (Err fault) others = refl

abbrev Each : Arch → (item : ℕ) → CallFrames → Values → List FdeView → All → Type 0
Each arch item section values fs r = AllDescribe (FrameDescribes arch item section values) fs r

unless_is : (b : Bool) (arch : Arch) (item : ℕ) (section : CallFrames) (values : Values) (f : FdeView) (rest : List FdeView) (others r : All) → ((y : All) → Each arch item section values rest y → others ≡ y)
    → Each arch item section values (cond (not b) (f ∷ rest) rest) r → cond b others (with_others (function_in arch item section values f) others) ≡ r
unless_is true arch item section values f rest others r all h = all r h
unless_is false arch item section values f rest others r all h =
    first_joined (function_in arch item section values f) others
    ∙ ap (λ (x : All). joined x others) (one_is arch item section values f h.0 h.1)
    ∙ ap (λ (x : All). joined h.0 x) (all h.2 h.3)
    ∙ sym h.4

is_unless : (b : Bool) (arch : Arch) (item : ℕ) (section : CallFrames) (values : Values) (f : FdeView) (rest : List FdeView) (others : All) → Each arch item section values rest others
    → Each arch item section values (cond (not b) (f ∷ rest) rest) (cond b others (with_others (function_in arch item section values f) others))
is_unless true arch item section values f rest others h = h
is_unless false arch item section values f rest others h =
    (alone (function_in arch item section values f), is_one arch item section values f, others, h, first_joined (function_in arch item section values f) others)

all_are : (arch : Arch) (item : ℕ) (section : CallFrames) (values : Values) (fs : List FdeView) (r : All) → FramesDescribe arch item section values fs r → functions_in arch item section values fs ≡ r
all_are arch item section values [] r h = sym h
all_are arch item section values (f ∷ fs) r h =
    unless_is (values.dropped f.begin) arch item section values f (filter (λ (x : FdeView). not (values.dropped x.begin)) fs) (functions_in arch item section values fs) r (λ y k. all_are arch item section values fs y k) h

are_all : (arch : Arch) (item : ℕ) (section : CallFrames) (values : Values) (fs : List FdeView) → FramesDescribe arch item section values fs (functions_in arch item section values fs)
are_all arch item section values [] = refl
are_all arch item section values (f ∷ fs) =
    is_unless (values.dropped f.begin) arch item section values f (filter (λ (x : FdeView). not (values.dropped x.begin)) fs) (functions_in arch item section values fs) (are_all arch item section values fs)

abbrev fixes_of : CallFrames → List EntryView → Result (List RelocatedField) AsmFault
fixes_of section es = named (asm.Reloc section.number) (section.relocations >>= on_pointers (pointer_fields es))

abbrev of_fixes : Arch → (item : ℕ) → CallFrames → List EntryView → List RelocatedField → All
of_fixes arch item section es fixes = functions_in arch item section (patched_values fixes section.bytes) (frames es)

abbrev of_entries : Arch → (item : ℕ) → CallFrames → List EntryView → All
of_entries arch item section es = fixes_of section es >>= of_fixes arch item section es

abbrev by_entries : Arch → (item : ℕ) → CallFrames → Result (List EntryView) RecordFault → All
by_entries arch item section entries = named (asm.Record section.number) entries >>= of_entries arch item section

abbrev FixesDescribe : Arch → (item : ℕ) → CallFrames → List EntryView → List RelocatedField → All → Type 0
FixesDescribe arch item section es fixes r = FramesDescribe arch item section (patched_values fixes section.bytes) (frames es) r

abbrev EntriesDescribe : Arch → (item : ℕ) → CallFrames → List EntryView → All → Type 0
EntriesDescribe arch item section es r = OrFault (FixesDescribe arch item section es) (fixes_of section es) r

section_is : (arch : Arch) (item : ℕ) (section : CallFrames) (r : All) → SectionDescribes arch item section r → section_functions arch item section ≡ r
unfolding section_functions
section_is arch item section r h =
    ap (by_entries arch item section) (read_as arch section.bytes h.0 h.1)
    ∙ after_value (EntriesDescribe arch item section) (of_entries arch item section) (named (asm.Record section.number) h.0) r
    (λ es x k. after_value (FixesDescribe arch item section es) (of_fixes arch item section es) (fixes_of section es) x (λ fixes y d. all_are arch item section (patched_values fixes section.bytes) (frames es) y d) k)
    h.2

is_section : (arch : Arch) (item : ℕ) (section : CallFrames) → SectionDescribes arch item section (section_functions arch item section)
unfolding section_functions
is_section arch item section = (
  entries_of arch section.bytes,
  as_read arch section.bytes (entries_of arch section.bytes) refl,
  value_after (EntriesDescribe arch item section) (of_entries arch item section) (named (asm.Record section.number) (entries_of arch section.bytes))
      (λ es. value_after (FixesDescribe arch item section es) (of_fixes arch item section es) (fixes_of section es) (λ fixes. are_all arch item section (patched_values fixes section.bytes) (frames es))),
)

-- ---- inputs
sections_are : (arch : Arch) (item : ℕ) (sections : List CallFrames) (r : All) → AllDescribe (SectionDescribes arch item) sections r → sections_functions arch item sections ≡ r
sections_are arch item [] r h = sym h
sections_are arch item (s ∷ ss) r h =
    ap (λ (x : All). joined x (sections_functions arch item ss)) (section_is arch item s h.0 h.1) ∙ ap (λ (x : All). joined h.0 x) (sections_are arch item ss h.2 h.3) ∙ sym h.4

are_sections : (arch : Arch) (item : ℕ) (sections : List CallFrames) → AllDescribe (SectionDescribes arch item) sections (sections_functions arch item sections)
are_sections arch item [] = refl
are_sections arch item (s ∷ ss) = (section_functions arch item s, is_section arch item s, sections_functions arch item ss, are_sections arch item ss, refl)

-- the groups that are dropped are those whose signature was seen
found : (form : Form) (earlier : List (List ℕ)) (bytes : List ℕ) (base : ℕ) (r : Result (List CallFrames) AsmFault) → SectionsAre form earlier bytes base r → sections_by form (seen_in [] earlier) bytes base ≡ r
found Elf earlier file base r h = ap (λ (groups : List ℕ). elf_sections groups file base) (lists_no_other earlier file h.0 h.1) ∙ sym h.2
found (Bare arch) earlier bytes base r h = sym h

are_found : (form : Form) (earlier : List (List ℕ)) (bytes : List ℕ) (base : ℕ) → SectionsAre form earlier bytes base (sections_by form (seen_in [] earlier) bytes base)
are_found Elf earlier file base = (dropped_groups (seen_in [] earlier) file, lists_dropped earlier file, refl)
are_found (Bare arch) earlier bytes base = refl

one_more : (form : Form) (earlier : List (List ℕ)) (bytes : List ℕ) → seen_in [] (earlier ++ files_in form bytes) ≡ seen_by form (seen_in [] earlier) bytes
one_more Elf earlier file = one_file_more [] earlier file
one_more (Bare arch) earlier bytes = ap (seen_in []) (append-nil earlier)

abbrev Gathered : Type 0
Gathered = Result (List Function) GatherFault

abbrev of_input : (item : ℕ) → Object → Result (List CallFrames) AsmFault → All
of_input item object sections = sections >>= sections_functions (machine_of object) item

after_is : (earlier : List (List ℕ)) (item : ℕ) (objects : List Object) (r : Gathered) → InputsDescribe earlier item objects r → functions_after (seen_in [] earlier) item objects ≡ r
unfolding functions_after
after_is earlier item [] r h = sym h
after_is earlier item (object ∷ objects) r h =
    let rest = functions_after (seen_behind (seen_in [] earlier) object) (item + 1) objects in
    ap (λ (sections : Result (List CallFrames) AsmFault). joined (named (gather.Input item) (of_input item object sections)) rest) (found object.form earlier object.bytes object.base h.0 h.1)
    ∙ ap (λ (x : All). joined (named (gather.Input item) x) rest) (after_value (AllDescribe (SectionDescribes (machine_of object) item)) (sections_functions (machine_of object) item) h.0 h.2 (sections_are (machine_of object) item) h.3)
    ∙ ap (λ (seen : List (List ℕ)). joined (named (gather.Input item) h.2) (functions_after seen (item + 1) objects)) (sym (one_more object.form earlier object.bytes))
    ∙ ap (λ (x : Gathered). joined (named (gather.Input item) h.2) x) (after_is (earlier ++ files_in object.form object.bytes) (item + 1) objects h.4 h.5)
    ∙ sym h.6

is_after : (earlier : List (List ℕ)) (item : ℕ) (objects : List Object) → InputsDescribe earlier item objects (functions_after (seen_in [] earlier) item objects)
unfolding functions_after
is_after earlier item [] = refl
is_after earlier item (object ∷ objects) =
    let sections = sections_by object.form (seen_in [] earlier) object.bytes object.base in (
      sections,
      are_found object.form earlier object.bytes object.base,
      of_input item object sections,
      value_after (AllDescribe (SectionDescribes (machine_of object) item)) (sections_functions (machine_of object) item) sections (are_sections (machine_of object) item),
      functions_after (seen_in [] (earlier ++ files_in object.form object.bytes)) (item + 1) objects,
      is_after (earlier ++ files_in object.form object.bytes) (item + 1) objects,
      ap (λ (seen : List (List ℕ)). joined (named (gather.Input item) (of_input item object sections)) (functions_after seen (item + 1) objects)) (sym (one_more object.form earlier object.bytes)),
    )

-- ---- all inputs
pub described : (item : ℕ) (objects : List Object) (r : Result (List Function) GatherFault) → Describe item objects r → functions_of item objects ≡ r
described item objects r h = after_is [] item objects r h

pub describe : (item : ℕ) (objects : List Object) (r : Result (List Function) GatherFault) → functions_of item objects ≡ r → Describe item objects r
describe item objects r h = subst (InputsDescribe [] item objects) h (is_after [] item objects)

-- ---- all items
pub together : (before : Option Arch) (objects : List Object) (r : Result (List Function) GatherFault) → DescribeTogether before objects r → all_functions before objects ≡ r
together before objects r h = ap (of_one_machine before objects) (described (first_item before) objects h.0 h.1) ∙ sym h.2

pub are_together : (before : Option Arch) (objects : List Object) → DescribeTogether before objects (all_functions before objects)
are_together before objects = (functions_of (first_item before) objects, describe (first_item before) objects (functions_of (first_item before) objects) refl, refl)

pub from_gathers : (before : Option Arch) (objects : List Object) (r : Result (List ReadFunction) GatherFault) → Gathers before objects r → GathersFrom (all_functions before objects) r
from_gathers before objects r h = subst (λ (given : Result (List Function) GatherFault). GathersFrom given r) (sym (together before objects h.given h.described)) h.comes

pub to_gathers : (before : Option Arch) (objects : List Object) (r : Result (List ReadFunction) GatherFault) → GathersFrom (all_functions before objects) r → Gathers before objects r
to_gathers before objects r h = record { given = all_functions before objects; described = are_together before objects; comes = h }

pub from_links : (before : Option Arch) (objects : List Object) (at : ℕ) (r : Result (List ReadFunction) LinkFault) → Links before objects at r → LinksFrom at (all_functions before objects) r
from_links before objects at r h = subst (λ (given : Result (List Function) GatherFault). LinksFrom at given r) (sym (together before objects h.given h.described)) h.comes

pub to_links : (before : Option Arch) (objects : List Object) (at : ℕ) (r : Result (List ReadFunction) LinkFault) → LinksFrom at (all_functions before objects) r → Links before objects at r
to_links before objects at r h = record { given = all_functions before objects; described = are_together before objects; comes = h }
