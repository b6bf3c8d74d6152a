-- A fault of the definitions is a refusal or a limit: inputs never come to `NoMemory`, of any crate. So the first fault, or `NoMemory` on
-- its own, is all that a call returns.
use Rattle.std.specs.Prelude.{IfErr, IfSome, IsTrue, nat_lt}
use Rattle.std.specs.Option.{option_map}
use Rattle.std.proofs.Common.{◌≡◌, ℕ, zero, suc, ◌+◌, ◌%◌, ◌^◌, ℤ, Bool, true, false, cond, List, [], ◌∷◌, ◌++◌, ◌==◌, length, map, sum_by, Option, Some, None, Result, Ok, Err, refl, sym, subst, inl, inr}
use Rattle.sf_model.specs.declared.machine.Arch.{Arch}
use Rattle.sf_model.specs.declared.machine.Arch.TheVariants.{Amd64, Aarch64}
use Rattle.sf_model.specs.declared.form.Form.{Form}
use Rattle.sf_model.specs.declared.form.Form.TheVariants.{Elf, Bare}
use Rattle.sf_model.specs.Checking as check
use Rattle.cfa_insn.specs.Listing.{Item, listing}
use Rattle.cfa_machine.specs.declared.effect.Effect.{Effect}
use Rattle.cfa_machine.specs.declared.effect.Effect.TheVariants.{Row, Advance, Restore, Remember, Recall}
use Rattle.cfa_machine.specs.declared.effect.RowEffect.{RowEffect}
use Rattle.cfa_machine.specs.declared.effect.RowEffect.TheVariants.{Nothing, SetRule, SetCfa, SetCfaRegister, SetCfaOffset, NegateSign}
use Rattle.cfa_machine.specs.declared.rule.CfaRule.{CfaRule}
use Rattle.cfa_machine.specs.declared.rule.CfaRule.TheVariants as cfa
use Rattle.cfa_machine.specs.RowAtOffset.{UnwindState, after_instruction, row_defined}
use Rattle.cfa_machine.specs.Effects.{effect_by}
use Rattle.cfa_machine.specs.FirstFault.{change_fault, define_fault, function_fault, depth_after, initial_fault, run_fault, unless_register, unless_signs}
use Rattle.cfa_machine.specs.FullRow.{FullRow, no_row}
use Rattle.eh_records.specs.declared.fault.RecordFault.{RecordFault}
use Rattle.eh_records.specs.declared.fault.RecordFault.TheVariants as record_faults
use Rattle.eh_records.specs.Fde.{FdeView}
use Rattle.eh_records.specs.Refused.{IsOfRecords}
use Rattle.eh_records.specs.Section.{EntryView, entries_of, frames, pointer_fields}
use Rattle.eh_records.specs.Span.{span_of}
use Rattle.elf_reloc.proofs.Applying.{is_slot}
use Rattle.eh_records.proofs.EntriesFail.{is_refused}
use Rattle.eh_records.proofs.OfRecords.{of_records}
use Rattle.eh_pointer.specs.Pointer.{pointer_bits, pointer_value}
use Rattle.elf_read.specs.Checking.{each_below}
use Rattle.elf_read.specs.declared.kind.Kind.{Kind}
use Rattle.elf_read.specs.declared.kind.Kind.TheVariants as kinds
use Rattle.elf_read.specs.Header.{arch_of, is_rel, kind_of}
use Rattle.elf_read.specs.Parsing.{file_check}
use Rattle.elf_read.specs.Sections.{section_count}
use Rattle.elf_place.specs.declared.fault.PlaceFault.TheVariants as place_faults
use Rattle.elf_place.specs.Place.{align_check, bits_check, eh_frames_below, overflow_check, place_check, shift_of}
use Rattle.elf_place.specs.Relocations.{relocation_sections}
use Rattle.elf_groups.specs.Groups.{dropped_groups}
use Rattle.elf_place.specs.Views.{Placing}
use Rattle.elf_reloc.specs.Applied.{Slot, slot_check}
use Rattle.elf_reloc.specs.declared.fault.RelocFault.{RelocFault}
use Rattle.elf_reloc.specs.declared.fix.RelocatedField.{RelocatedField}
use Rattle.elf_reloc.specs.declared.table.Effect.{Effect as RelocEffect}
use Rattle.elf_reloc.specs.declared.table.Effect.TheVariants as reloc
use Rattle.elf_reloc.specs.declared.table.Range.{Range}
use Rattle.elf_reloc.specs.declared.target.Target.{Target}
use Rattle.elf_reloc.specs.declared.target.Target.TheVariants.{Address, Unresolved, Dropped}
use Rattle.elf_reloc.specs.Order.{overlap_check}
use Rattle.elf_reloc.specs.Reading.{Relocation, aimed, applied, entry_fix, fixes_from, has_addends, inside, object_fixes, rel_check, relocations_in, section_fixes, written}
use Rattle.elf_reloc.specs.Table.{fits, width_of}
use Rattle.sf_functions.specs.declared.limits.Limit.{Limit}
use Rattle.sf_functions.specs.declared.limits.Limit.TheVariants.{Functions, Rows}
use Rattle.sf_functions.specs.Limits.{exceeded}
use Rattle.frame_functions.specs.declared.read_function.ReadFunction.{ReadFunction}
use Rattle.frame_functions.specs.declared.fault.AsmFault.{AsmFault}
use Rattle.frame_functions.specs.declared.fault.AsmFault.TheVariants as asm
use Rattle.sf_asm.specs.declared.fault.GatherFault.{GatherFault}
use Rattle.sf_asm.specs.declared.fault.GatherFault.TheVariants as gather
use Rattle.sf_asm.specs.Answers.{IsFirstGathered}
use Rattle.frame_functions.specs.Fault.{is_input_refusal, is_machine_refusal, is_place_refusal, is_record_refusal, is_reloc_refusal}
use Rattle.sf_asm.specs.Fault.{is_gather_answered, is_gather_refusal, is_wrapped_answered}
use Rattle.frame_functions.specs.CallFrames.{CallFrames, bare_section}
use Rattle.frame_functions.specs.Functions.{Function, fault_in, function_in, functions_in, section_functions, sections_functions, span_in}
use Rattle.sf_asm.specs.Functions.{◌>>=◌, Object, functions_after, functions_of, named, object_functions, seen_behind, unless}
use Rattle.sf_asm.specs.Inputs.{all_functions, differing, first_item, machines_of, mixed_fault}
use Rattle.frame_functions.specs.ReadFunction.{spans_of}
use Rattle.sf_asm.specs.Linking.{Gathers, GathersFrom, fault_of_limit, functions_fault, limits_fault, or_later, overlap_fault, overlap_in, unless_fault}
use Rattle.frame_functions.specs.Order.{read_rows, exceeded_by}
use Rattle.frame_functions.specs.Relocated.{Values, by_place, on_pointers, patched_values, pointer_check, pointer_slot, relocations_of}
use Rattle.sf_asm.specs.Sections.{dropped_after, elf_sections, linked_check, linked_kind, placed_section, placing_of}
use Rattle.sf_asm.proofs.Described.{from_gathers}

-- ---- which faults there are
-- a fault, where there is one, is of this kind
abbrev pub FaultIs : {X F : Type 0} → (F → Bool) → Result X F → Type 0
FaultIs kind given = IfErr given (λ fault. IsTrue (kind fault))

-- the same of one that may be there
abbrev pub FaultIn : {F : Type 0} → (F → Bool) → Option F → Type 0
FaultIn kind fault = IfSome fault (λ fault. IsTrue (kind fault))

either : {X F : Type 0} (kind : F → Bool) (test : Bool) (one other : Result X F) → FaultIs kind one → FaultIs kind other → FaultIs kind (cond test one other)
either kind true one other h k = h
either kind false one other h k = k

in_turn : {A B F : Type 0} (kind : F → Bool) (first : Result A F) (next : A → Result B F) → FaultIs kind first → ((x : A) → FaultIs kind (next x)) → FaultIs kind (first >>= next)
in_turn kind (Ok x) next h k = k x
in_turn kind (Err fault) next h k = h

renamed : {A F G : Type 0} (kind : F → Bool) (new : G → Bool) (name : F → G) (given : Result A F) → ((fault : F) → IsTrue (kind fault) → IsTrue (new (name fault))) → FaultIs kind given → FaultIs new (named name given)
renamed kind new name (Ok x) k h = tt
renamed kind new name (Err fault) k h = k fault h

any : {A F G : Type 0} (new : G → Bool) (name : F → G) (given : Result A F) → ((fault : F) → IsTrue (new (name fault))) → FaultIs new (named name given)
any new name (Ok x) k = tt
any new name (Err fault) k = k fault

pub where_none : {X F : Type 0} (kind : F → Bool) (fault : Option F) (x : X) → FaultIn kind fault → FaultIs kind (unless_fault fault x)
where_none kind None x h = tt
where_none kind (Some fault) x h = h

pub either_in : {F : Type 0} (kind : F → Bool) (test : Bool) (one other : Option F) → FaultIn kind one → FaultIn kind other → FaultIn kind (cond test one other)
either_in kind true one other h k = h
either_in kind false one other h k = k

pub earlier : {F : Type 0} (kind : F → Bool) (fault later : Option F) → FaultIn kind fault → FaultIn kind later → FaultIn kind (or_later fault later)
earlier kind None later h k = k
earlier kind (Some fault) later h k = h

pub mapped : {A F : Type 0} (kind : A → Bool) (new : F → Bool) (name : A → F) (given : Option A) → ((x : A) → IsTrue (kind x) → IsTrue (new (name x))) → FaultIn kind given → FaultIn new (option_map name given)
mapped kind new name None k h = tt
mapped kind new name (Some x) k h = k x h

pub any_mapped : {A F : Type 0} (new : F → Bool) (name : A → F) (given : Option A) → ((x : A) → IsTrue (new (name x))) → FaultIn new (option_map name given)
any_mapped new name None k = tt
any_mapped new name (Some x) k = k x

-- ---- placing
checked : {F : Type 0} (kind : F → Bool) (one other : Result (Unit {0}) F) → FaultIs kind one → FaultIs kind other → FaultIs kind (check.◌>>◌ one other)
checked kind (Ok x) other h k = k
checked kind (Err fault) other h k = h

each : {F : Type 0} (kind : F → Bool) (n : ℕ) (test : ℕ → Result (Unit {0}) F) → ((i : ℕ) → FaultIs kind (test i)) → FaultIs kind (each_below n test)
unfolding each_below
each kind zero test h = tt
each kind (suc n) test h = checked kind (each_below n test) (test n) (each kind n test h) (h n)

tried : {F : Type 0} (kind : F → Bool) (here test : Bool) (fault : F) → IsTrue (kind fault) → FaultIs kind (check.where_so here (check.unless test fault))
tried kind true true fault h = tt
tried kind true false fault h = h
tried kind false test fault h = tt

aligned : (file : List ℕ) (dropped : List Bool) (i : ℕ) → FaultIs is_place_refusal (align_check file dropped i)
unfolding align_check
aligned file dropped i = tried is_place_refusal _ _ (place_faults.Align i) refl

in_memory : (file : List ℕ) (dropped : List Bool) (base i : ℕ) → FaultIs is_place_refusal (overflow_check file dropped base i)
unfolding overflow_check
in_memory file dropped base i = tried is_place_refusal _ _ (place_faults.AddressOverflow i) refl

with_bytes : (file : List ℕ) (dropped : List Bool) (i : ℕ) → FaultIs is_place_refusal (bits_check file dropped i)
unfolding bits_check
with_bytes file dropped i = tried is_place_refusal _ _ (place_faults.NoBits i) refl

placing : (file : List ℕ) (dropped : List Bool) (base : ℕ) → FaultIs is_place_refusal (place_check file dropped base)
unfolding place_check align_check overflow_check bits_check
placing file dropped base =
    let count = section_count file in
    checked is_place_refusal _ _
    (checked is_place_refusal _ _
    (each is_place_refusal count (align_check file dropped) (aligned file dropped))
    (each is_place_refusal count (overflow_check file dropped base) (in_memory file dropped base)))
    (each is_place_refusal count (bits_check file dropped) (with_bytes file dropped))

-- ---- relocations
writing : (place index : ℕ) (form : Range) (value : ℕ) → FaultIs is_reloc_refusal (written place index form value)
unfolding written
writing place index form value = either is_reloc_refusal (fits form value) _ _ tt refl

aiming : (place index : ℕ) (form : Range) (value : ℕ → ℕ) (target : Target) → FaultIs is_reloc_refusal (aimed place index form value target)
unfolding written
aiming place index form value (Address symbol) = writing place index form (value symbol)
aiming place index form value Unresolved = tt
aiming place index form value Dropped = tt

staying_inside : (len place index : ℕ) (form : Range) (read : Result RelocatedField RelocFault) → FaultIs is_reloc_refusal read → FaultIs is_reloc_refusal (inside len place index form read)
unfolding inside
staying_inside len place index form read h =
    either is_reloc_refusal (nat_lt len (place + width_of form)) _ _ refl (in_turn is_reloc_refusal read (λ f. Ok (Some f)) h (λ f. tt))

applying : (effect : Option RelocEffect) (len address place index addend : ℕ) (target : Target) → FaultIs is_reloc_refusal (applied effect len address place index addend target)
applying None len address place index addend target = refl
applying (Some reloc.Nothing) len address place index addend target = tt
applying (Some (reloc.Absolute form)) len address place index addend target = staying_inside len place index form _ (aiming place index form _ target)
applying (Some (reloc.Relative form)) len address place index addend target = staying_inside len place index form _ (aiming place index form _ target)

one_entry : (p : Placing) (section index i k : ℕ) → FaultIs is_reloc_refusal (entry_fix p section index i k)
unfolding entry_fix
one_entry p section index i k = applying _ _ _ _ _ _ _

entries : (p : Placing) (section number : ℕ) (relocations : List Relocation) → FaultIs is_reloc_refusal (fixes_from p section number relocations)
unfolding fixes_from
entries p section number [] = tt
entries p section number (r ∷ relocations) =
    in_turn is_reloc_refusal (entry_fix p section number r.table r.entry) _ (one_entry p section number r.table r.entry)
    (λ f. in_turn is_reloc_refusal (fixes_from p section (number + 1) relocations) _ (entries p section (number + 1) relocations) (λ fixes. tt))

with_addends : (file sections : List ℕ) → FaultIs is_reloc_refusal (rel_check file sections)
unfolding rel_check has_addends
with_addends file [] = tt
with_addends file (i ∷ sections) = either is_reloc_refusal (has_addends file i) _ _ (with_addends file sections) refl

reading : (p : Placing) (section : ℕ) → FaultIs is_reloc_refusal (section_fixes p section)
unfolding section_fixes object_fixes
reading p section =
    either is_reloc_refusal (is_rel p.file) _ _
    (in_turn is_reloc_refusal (rel_check p.file (relocation_sections p.file section)) _ (with_addends p.file (relocation_sections p.file section))
    (λ x. entries p section 0 (relocations_in p.file (relocation_sections p.file section))))
    tt

not_twice : (end : ℕ) (fixes : List RelocatedField) → FaultIs is_reloc_refusal (overlap_check end fixes)
unfolding overlap_check
not_twice end [] = tt
not_twice end (f ∷ fs) = either is_reloc_refusal (nat_lt f.place end) _ _ refl (not_twice (f.place + width_of f.range) fs)

relocating : (p : Placing) (section : ℕ) → FaultIs is_reloc_refusal (relocations_of p section)
unfolding relocations_of
relocating p section =
    in_turn is_reloc_refusal (section_fixes p section) _ (reading p section)
    (λ fixes. in_turn is_reloc_refusal (overlap_check 0 (by_place fixes)) _ (not_twice 0 (by_place fixes)) (λ x. tt))

on_slots : (slots : List Slot) (fixes : List RelocatedField) → FaultIs is_reloc_refusal (slot_check slots fixes)
unfolding slot_check
on_slots slots [] = tt
on_slots slots (f ∷ fs) = either is_reloc_refusal (is_slot slots f) _ _ (on_slots slots fs) refl

-- ---- records
of_record : (fault : RecordFault) → IsOfRecords fault → IsTrue (is_record_refusal fault)
of_record (record_faults.Short place) h = refl
of_record (record_faults.Extended place) h = refl
of_record (record_faults.CieVersion place) h = refl
of_record (record_faults.Augmentation place) h = refl
of_record (record_faults.CiePointer place) h = refl
of_record (record_faults.Encoding place) h = refl
of_record (record_faults.Leb place) h = refl
of_record (record_faults.Unresolved place) h = absurd h
of_record (record_faults.FunctionEnd place) h = absurd h
of_record record_faults.NoMemory h = absurd h

records_from : (arch : Arch) (section : List ℕ) (given : Result (List EntryView) RecordFault) → entries_of arch section ≡ given → FaultIs is_record_refusal given
records_from arch section (Ok found) e = tt
records_from arch section (Err fault) e = of_record fault (of_records arch section fault (is_refused arch section fault e))

records : (arch : Arch) (section : List ℕ) → FaultIs is_record_refusal (entries_of arch section)
records arch section = records_from arch section (entries_of arch section) refl

spans : (encoding place address shift : ℕ) (begin range : Option ℕ) → FaultIs is_record_refusal (span_of encoding place address shift begin range)
spans encoding place address shift (Some begin) (Some range) =
    either is_record_refusal (nat_lt (2 ^ 64) ((pointer_value encoding begin ((address + place) % 2 ^ 64) + shift) % 2 ^ 64 + pointer_bits encoding range)) _ _ refl tt
spans encoding place address shift (Some begin) None = refl
spans encoding place address shift None range = refl

-- ---- instructions
has_register : (place : ℕ) (rule : CfaRule) → FaultIn is_machine_refusal (unless_register place rule)
has_register place (cfa.Reg r n) = tt
has_register place cfa.Missing = refl
has_register place cfa.Expression = refl

has_signs : (arch : Arch) (place : ℕ) → FaultIn is_machine_refusal (unless_signs arch place)
has_signs Amd64 place = refl
has_signs Aarch64 place = tt

changes : (arch : Arch) (place : ℕ) (change : RowEffect) (rule : CfaRule) → FaultIn is_machine_refusal (change_fault arch place change rule)
changes arch place Nothing rule = tt
changes arch place (SetRule r new) rule = tt
changes arch place (SetCfa new) rule = tt
changes arch place (SetCfaRegister r) rule = has_register place rule
changes arch place (SetCfaOffset n) rule = has_register place rule
changes arch place NegateSign rule = has_signs arch place

defines : (arch : Arch) (place : ℕ) (effect : Effect) (rule : CfaRule) → FaultIn is_machine_refusal (define_fault arch place effect rule)
defines arch place (Row change) rule = changes arch place change rule
defines arch place (Advance n) rule = refl
defines arch place (Restore r) rule = refl
defines arch place Remember rule = refl
defines arch place Recall rule = refl

initial : (arch : Arch) (f : ℤ) (row : FullRow) (items : List Item) → FaultIn is_machine_refusal (initial_fault arch f row items)
unfolding initial_fault
initial arch f row [] = tt
initial arch f row (Err e ∷ items) = refl
initial arch f row (Ok (place, i) ∷ items) =
    earlier is_machine_refusal (define_fault arch place (effect_by f i) row.cfa) _ (defines arch place (effect_by f i) row.cfa) (initial arch f (row_defined (effect_by f i) row) items)

runs : (arch : Arch) (place : ℕ) (effect : Effect) (before : List Item) (rule : CfaRule) → FaultIn is_machine_refusal (run_fault arch place effect before rule)
runs arch place (Row change) before rule = changes arch place change rule
runs arch place (Advance n) before rule = tt
runs arch place (Restore r) before rule = tt
runs arch place Remember before rule = either_in is_machine_refusal (nat_lt (depth_after before) 64) _ _ tt refl
runs arch place Recall before rule = either_in is_machine_refusal (depth_after before == 0) _ _ refl tt

own : (arch : Arch) (f : ℤ) (first : FullRow) (s : UnwindState) (before items : List Item) → FaultIn is_machine_refusal (function_fault arch f first s before items)
unfolding function_fault
own arch f first s before [] = tt
own arch f first s before (Err e ∷ items) = refl
own arch f first s before (Ok (place, i) ∷ items) =
    earlier is_machine_refusal (run_fault arch place (effect_by f i) before s.row.cfa) _ (runs arch place (effect_by f i) before s.row.cfa)
    (own arch f first (after_instruction first (effect_by f i) s) (before ++ Ok (place, i) ∷ []) items)

instructions : (arch : Arch) (f : FdeView) → FaultIn is_machine_refusal (fault_in arch f)
instructions arch f =
    earlier is_machine_refusal (initial_fault arch f.cie.data_alignment_factor no_row (listing f.cie.insns)) _ (initial arch f.cie.data_alignment_factor no_row (listing f.cie.insns)) (own arch f.cie.data_alignment_factor _ _ _ (listing f.insns))

-- ---- sections
one_function : (arch : Arch) (item : ℕ) (section : CallFrames) (values : Values) (f : FdeView) → FaultIs is_input_refusal (function_in arch item section values f)
unfolding function_in
one_function arch item section values f =
    in_turn is_input_refusal (named (asm.Record section.number) (span_in section values f)) _
    (renamed is_record_refusal is_input_refusal (asm.Record section.number) (span_in section values f) (λ fault h. h) (spans f.cie.encoding f.begin.place section.address section.shift (values.bits f.begin) (values.bits f.range)))
    (λ span. in_turn is_input_refusal (named (asm.Machine section.number) (unless (fault_in arch f))) _
    (renamed is_machine_refusal is_input_refusal (asm.Machine section.number) (unless (fault_in arch f)) (λ fault h. h) (where_none is_machine_refusal (fault_in arch f) tt (instructions arch f)))
    (λ x. tt))

all_in : (arch : Arch) (item : ℕ) (section : CallFrames) (values : Values) (fs : List FdeView) → FaultIs is_input_refusal (functions_in arch item section values fs)
all_in arch item section values [] = tt
all_in arch item section values (f ∷ fs) =
    either is_input_refusal (values.dropped f.begin) _ _ (all_in arch item section values fs)
    (in_turn is_input_refusal (function_in arch item section values f) _ (one_function arch item section values f)
    (λ g. in_turn is_input_refusal (functions_in arch item section values fs) _ (all_in arch item section values fs) (λ gs. tt)))

one_section : (arch : Arch) (item : ℕ) (section : CallFrames) → FaultIs is_reloc_refusal section.relocations → FaultIs is_input_refusal (section_functions arch item section)
unfolding section_functions
one_section arch item section h =
    in_turn is_input_refusal (named (asm.Record section.number) (entries_of arch section.bytes)) _
    (renamed is_record_refusal is_input_refusal (asm.Record section.number) (entries_of arch section.bytes) (λ fault k. k) (records arch section.bytes))
    (λ found. in_turn is_input_refusal (named (asm.Reloc section.number) (section.relocations >>= on_pointers (pointer_fields found))) _
    (renamed is_reloc_refusal is_input_refusal (asm.Reloc section.number) (section.relocations >>= on_pointers (pointer_fields found)) (λ fault k. k)
    (in_turn is_reloc_refusal section.relocations (on_pointers (pointer_fields found)) h
    (λ fixes. in_turn is_reloc_refusal (pointer_check (pointer_fields found) fixes) _ (on_slots (map pointer_slot (pointer_fields found)) fixes) (λ x. tt))))
    (λ fixes. all_in arch item section (patched_values fixes section.bytes) (frames found)))

placed_sections : (arch : Arch) (item : ℕ) (p : Placing) (shift : ℕ) (sections : List ℕ) → FaultIs is_input_refusal (sections_functions arch item (map (placed_section p shift) sections))
placed_sections arch item p shift [] = tt
placed_sections arch item p shift (i ∷ sections) =
    in_turn is_input_refusal (section_functions arch item (placed_section p shift i)) _ (one_section arch item (placed_section p shift i) (relocating p i))
    (λ fs. in_turn is_input_refusal (sections_functions arch item (map (placed_section p shift) sections)) _ (placed_sections arch item p shift sections) (λ gs. tt))

-- ---- inputs
not_core : (kind : Kind) → FaultIs is_input_refusal (linked_kind kind)
not_core kinds.Core = refl
not_core kinds.Rel = tt
not_core kinds.Exec = tt
not_core kinds.Dyn = tt

parsing : (file : List ℕ) → FaultIs is_input_refusal (linked_check file)
unfolding linked_check
parsing file = in_turn is_input_refusal (named asm.Elf (file_check file)) _ (any is_input_refusal asm.Elf (file_check file) (λ fault. refl)) (λ x. not_core (kind_of file))

one_file : (item : ℕ) (seen : List (List ℕ)) (file : List ℕ) (base : ℕ) → FaultIs is_input_refusal (elf_sections (dropped_groups seen file) file base >>= sections_functions (arch_of file) item)
one_file item seen file base = from (linked_check file) (place_check file (dropped_after seen file) base) (parsing file) (placing file (dropped_after seen file) base)
  where
    from : (linked : Result (Unit {0}) AsmFault) (placed : Result (Unit {0}) _) → FaultIs is_input_refusal linked → FaultIs is_place_refusal placed
        → FaultIs is_input_refusal ((linked >>= λ _. named asm.Place placed >>= λ _. Ok (map (placed_section (placing_of (dropped_groups seen file) file base) (shift_of file base)) (eh_frames_below file (dropped_after seen file) (section_count file)))) >>= sections_functions (arch_of file) item)
    from (Ok x) (Ok y) h k = placed_sections (arch_of file) item (placing_of (dropped_groups seen file) file base) (shift_of file base) (eh_frames_below file (dropped_after seen file) (section_count file))
    from (Ok x) (Err fault) h k = k
    from (Err fault) placed h k = h

one_input : (item : ℕ) (seen : List (List ℕ)) (form : Form) (bytes : List ℕ) (base : ℕ) → FaultIs is_input_refusal (object_functions item seen (record { form = form; bytes = bytes; base = base }))
one_input item seen Elf bytes base = one_file item seen bytes base
one_input item seen (Bare arch) bytes base =
    in_turn is_input_refusal (section_functions arch item (bare_section bytes base)) _ (one_section arch item (bare_section bytes base) tt) (λ fs. tt)

input_refused : (item : ℕ) (seen : List (List ℕ)) (object : Object) → FaultIs is_input_refusal (object_functions item seen object)
input_refused item seen object = one_input item seen object.form object.bytes object.base

inputs_from : (seen : List (List ℕ)) (item : ℕ) (objects : List Object) → FaultIs is_gather_refusal (functions_after seen item objects)
unfolding functions_after
inputs_from seen item [] = tt
inputs_from seen item (object ∷ objects) =
    in_turn is_gather_refusal (named (gather.Input item) (object_functions item seen object)) _
    (renamed is_input_refusal is_gather_refusal (gather.Input item) (object_functions item seen object) (λ fault h. h) (input_refused item seen object))
    (λ fs. in_turn is_gather_refusal (functions_after (seen_behind seen object) (item + 1) objects) _ (inputs_from (seen_behind seen object) (item + 1) objects) (λ gs. tt))

-- a fault of the inputs' functions is a refusal
inputs_refused : (item : ℕ) (objects : List Object) → FaultIs is_gather_refusal (functions_of item objects)
inputs_refused item objects = inputs_from [] item objects

pub all_refused : (before : Option Arch) (objects : List Object) → FaultIs is_gather_refusal (all_functions before objects)
all_refused before objects =
    in_turn is_gather_refusal (functions_of (first_item before) objects) _ (inputs_refused (first_item before) objects)
    (λ functions. in_turn is_gather_refusal (unless (mixed_fault before objects)) _
    (where_none is_gather_refusal (mixed_fault before objects) tt (any_mapped is_gather_refusal (gather.MixedArch 0) (differing (machines_of before objects)) (λ n. refl)))
    (λ x. tt))

-- ---- gathering: a refusal or a limit
pub refusal_or_limit : (fault : GatherFault) → IsTrue (is_gather_refusal fault) → IsTrue (is_wrapped_answered fault)
refusal_or_limit (gather.Input item fault) h = h
refusal_or_limit (gather.MixedArch item other) h = refl
refusal_or_limit gather.TooManyFunctions h = refl
refusal_or_limit gather.TooManyRows h = refl
refusal_or_limit (gather.Overlap start item other other_item) h = refl
refusal_or_limit gather.NoMemory h = h

or_memory : (fault : GatherFault) → IsTrue (is_wrapped_answered fault) → IsTrue (is_gather_answered fault)
or_memory (gather.Input item fault) h = h
or_memory (gather.MixedArch item other) h = refl
or_memory gather.TooManyFunctions h = refl
or_memory gather.TooManyRows h = refl
or_memory (gather.Overlap start item other other_item) h = refl
or_memory gather.NoMemory h = refl

pub limit_answered : (limit : Limit) → IsTrue (is_wrapped_answered (fault_of_limit limit))
limit_answered Functions = refl
limit_answered Rows = refl

limits : (ordered : List ReadFunction) → FaultIn is_wrapped_answered (limits_fault ordered)
unfolding limits_fault exceeded_by
limits ordered = any_mapped is_wrapped_answered fault_of_limit (exceeded (length ordered) (sum_by read_rows ordered)) limit_answered

pub functions_tried : (ordered : List ReadFunction) → FaultIn is_wrapped_answered (functions_fault ordered)
functions_tried ordered =
    earlier is_wrapped_answered (limits_fault ordered) _ (limits ordered) (any_mapped is_wrapped_answered overlap_fault (overlap_in (spans_of ordered)) (λ pair. refl))

gathers_from : (given : Result (List Function) GatherFault) (result : Result (List ReadFunction) GatherFault) → FaultIs is_gather_refusal given → GathersFrom given result → FaultIs is_wrapped_answered result
gathers_from (Ok functions) result h (ordered, order, is) =
    subst (FaultIs is_wrapped_answered) (sym is) (where_none is_wrapped_answered (functions_fault ordered) ordered (functions_tried ordered))
gathers_from (Err fault) result h is = subst (FaultIs is_wrapped_answered) (sym is) (refusal_or_limit fault h)

-- gathering comes to no fault but a refusal or a limit
gathers : (before : Option Arch) (objects : List Object) (result : Result (List ReadFunction) GatherFault) → Gathers before objects result → FaultIs is_wrapped_answered result
gathers before objects result h = gathers_from (all_functions before objects) result (all_refused before objects) (from_gathers before objects result h)

-- and a call returns that fault, or that memory ran out
pub first_is_answered : (before : Option Arch) (objects : List Object) (fault : GatherFault) → IsFirstGathered before objects fault → IsTrue (is_gather_answered fault)
first_is_answered before objects fault (inl is) = subst (λ (f : GatherFault). IsTrue (is_gather_answered f)) (sym is) refl
first_is_answered before objects fault (inr h) = or_memory fault (gathers before objects (Err fault) h)
