-- What was read is what the definitions of functions come to.
use Rattle.std.proofs.Common.{◌≡◌, ℕ, ◌+◌, ◌<◌, length, drop, get_or, Bool, true, false, cond, List, [], ◌∷◌, ◌++◌, map, Option, Some, None, Result, Ok, Err, refl, sym, ap, ◌∙◌}
use Rattle.std.proofs.lemmas.List.{append-nil, drop_more}
use Rattle.sf_model.specs.declared.machine.Arch.{Arch}
use Rattle.cfa_machine.specs.declared.row.DwRow.{DwRow}
use Rattle.cfa_machine.specs.RowAtOffset.{MatchInstructions}
use Rattle.cfa_machine.specs.Columns.{row_from}
use Rattle.cfa_machine.specs.FullRow.{columns_of}
use Rattle.cfa_machine.specs.declared.columns.Columns.{Columns}
use Rattle.eh_records.specs.declared.fault.RecordFault.{RecordFault}
use Rattle.eh_records.specs.Fde.{FdeView}
use Rattle.eh_records.specs.Section.{EntryView, entries_of, frames, pointer_fields}
use Rattle.elf_reloc.specs.declared.fault.RelocFault.{RelocFault}
use Rattle.elf_reloc.specs.declared.fix.RelocatedField.{RelocatedField}
use Rattle.sf_express.specs.Rules.{content_of}
use Rattle.sf_express.specs.Offsets.{content_or_reason}
use Rattle.sf_express.specs.Runs.{AreContentsOf, function_of}
use Rattle.frame_functions.specs.declared.read_function.Expressed.{Expressed}
use Rattle.frame_functions.specs.declared.fault.AsmFault.{AsmFault}
use Rattle.frame_functions.specs.declared.fault.AsmFault.TheVariants as asm
use Rattle.frame_functions.specs.declared.read.ReadFunctions.{ReadFunctions}
use Rattle.frame_functions.specs.Answers.{seen_as}
use Rattle.frame_functions.specs.CallFrames.{CallFrames}
use Rattle.sf_bytes.specs.Steps.{◌>>=◌, named}
use Rattle.sf_model.specs.Firsts.{unless}
use Rattle.frame_functions.specs.Functions.{Function, span_in, fault_in, function_at, function_in, functions_in, section_functions, sections_functions}
use Rattle.frame_functions.specs.Relocated.{Values, on_pointers, patched_values, pointer_check}
use Rattle.frame_functions.specs.Kept.{full_row, row_contents, facts_of, outcome_by, read_of}
use Rattle.frame_functions.specs.ReadSoFar.{ReadsAll}
use Rattle.frame_functions.proofs.ReadSoFar.{GoesOn, goes_on, then_others}

-- ---- one function
-- what a row says doesn't depend on its start
content_anywhere : (arch : Arch) (a b : ℕ) (columns : Columns) → content_of arch (row_from a columns) ≡ content_of arch (row_from b columns)
unfolding content_of
content_anywhere arch a b columns = refl

pub are_said : (f : Function) (rows : List DwRow) → MatchInstructions f.arch f.code f.factor f.size f.initial f.own rows → AreContentsOf f.arch f.size rows (row_contents f)
are_said f rows h = λ o lt.
    let there = h o lt in
    ap (content_or_reason f.arch) there.is ∙ ap Some (content_anywhere f.arch there.start o (columns_of f.arch (full_row f o)))

pub reads_function : (arch : Arch) (item : ℕ) (section : CallFrames) (values : Values) (f : FdeView) (span : ℕ × ℕ) (outcome : Expressed) → Ok span ≡ named (asm.Record section.number) (span_in section values f) → fault_in arch f ≡ None
    → outcome ≡ outcome_by (function_of arch (facts_of (function_at arch item section f span)) (row_contents (function_at arch item section f span)))
    → seen_as read_of (function_in arch item section values f) ≡ Ok (record { span = record { start = span.0; size = span.1; origin = record { item = item; section = section.number; place = f.place } }; outcome = outcome })
unfolding function_in
reads_function arch item section values f span outcome p q r =
    ap (λ (s : Result (ℕ × ℕ) AsmFault). seen_as read_of (s >>= λ span. (named (asm.Machine section.number) (unless (fault_in arch f)) >>= λ _. Ok (function_at arch item section f span)))) (sym p)
    ∙ ap (λ (x : Option _). seen_as read_of (named (asm.Machine section.number) (unless x) >>= λ _. Ok (function_at arch item section f span))) q
    ∙ ap (λ (o : Expressed). Ok (record { span = record { start = span.0; size = span.1; origin = record { item = item; section = section.number; place = f.place } }; outcome = o })) (sym r)

pub reads_description : (arch : Arch) (item : ℕ) (section : CallFrames) (values : Values) (f : FdeView) (span : ℕ × ℕ) → Ok span ≡ named (asm.Record section.number) (span_in section values f) → fault_in arch f ≡ None
    → function_in arch item section values f ≡ Ok (function_at arch item section f span)
unfolding function_in
reads_description arch item section values f span p q =
    ap (λ (s : Result (ℕ × ℕ) AsmFault). s >>= λ span. (named (asm.Machine section.number) (unless (fault_in arch f)) >>= λ _. Ok (function_at arch item section f span))) (sym p)
    ∙ ap (λ (x : Option _). named (asm.Machine section.number) (unless x) >>= λ _. Ok (function_at arch item section f span)) q

pub span_refused : (arch : Arch) (item : ℕ) (section : CallFrames) (values : Values) (f : FdeView) (fault : AsmFault) → Err fault ≡ named (asm.Record section.number) (span_in section values f) → function_in arch item section values f ≡ Err fault
unfolding function_in
span_refused arch item section values f fault p = ap (λ (s : Result (ℕ × ℕ) AsmFault). s >>= λ span. (named (asm.Machine section.number) (unless (fault_in arch f)) >>= λ _. Ok (function_at arch item section f span))) (sym p)

pub run_refused : (arch : Arch) (item : ℕ) (section : CallFrames) (values : Values) (f : FdeView) (span : ℕ × ℕ) (fault : AsmFault) → Ok span ≡ named (asm.Record section.number) (span_in section values f) → named (asm.Machine section.number) (unless (fault_in arch f)) ≡ Err fault
    → function_in arch item section values f ≡ Err fault
unfolding function_in
run_refused arch item section values f span fault p q =
    ap (λ (s : Result (ℕ × ℕ) AsmFault). s >>= λ span. (named (asm.Machine section.number) (unless (fault_in arch f)) >>= λ _. Ok (function_at arch item section f span))) (sym p)
    ∙ ap (λ (u : Result (Unit {0}) AsmFault). u >>= λ _. Ok (function_at arch item section f span)) q

-- ---- all functions of a section
-- an entry that describes a function, and one that doesn't
pub kept_on : (arch : Arch) (item : ℕ) (section : CallFrames) (values : Values) (f : FdeView) (fs : List FdeView) → values.dropped f.begin ≡ false
    → functions_in arch item section values (f ∷ fs) ≡ (function_in arch item section values f >>= λ g. functions_in arch item section values fs >>= λ gs. Ok (g ∷ gs))
kept_on arch item section values f fs e =
    ap (λ (b : Bool). cond b (functions_in arch item section values fs) (function_in arch item section values f >>= λ g. functions_in arch item section values fs >>= λ gs. Ok (g ∷ gs))) e

pub passed_on : (arch : Arch) (item : ℕ) (section : CallFrames) (values : Values) (f : FdeView) (fs : List FdeView) → values.dropped f.begin ≡ true
    → functions_in arch item section values (f ∷ fs) ≡ functions_in arch item section values fs
passed_on arch item section values f fs e =
    ap (λ (b : Bool). cond b (functions_in arch item section values fs) (function_in arch item section values f >>= λ g. functions_in arch item section values fs >>= λ gs. Ok (g ∷ gs))) e

-- ---- a section
-- by its records and its relocations
abbrev by_parts : Arch → (item : ℕ) → CallFrames → Result (List EntryView) RecordFault → Result (List RelocatedField) RelocFault → Result (List Function) AsmFault
by_parts arch item section records relocations =
    named (asm.Record section.number) records
    >>= λ es. (named (asm.Reloc section.number) (relocations >>= on_pointers (pointer_fields es)) >>= λ fixes. functions_in arch item section (patched_values fixes section.bytes) (frames es))

abbrev by_check : Arch → (item : ℕ) → CallFrames → List EntryView → List RelocatedField → Result (Unit {0}) RelocFault → Result (List Function) AsmFault
by_check arch item section es fixes check = named (asm.Reloc section.number) (check >>= λ _. Ok fixes) >>= λ fixes. functions_in arch item section (patched_values fixes section.bytes) (frames es)

pub section_is : (arch : Arch) (item : ℕ) (section : CallFrames) (es : List EntryView) (fixes : List RelocatedField) → entries_of arch section.bytes ≡ Ok es → section.relocations ≡ Ok fixes → pointer_check (pointer_fields es) fixes ≡ Ok tt
    → section_functions arch item section ≡ functions_in arch item section (patched_values fixes section.bytes) (frames es)
unfolding section_functions
section_is arch item section es fixes p q r =
    ap (λ (x : Result (List EntryView) RecordFault). by_parts arch item section x section.relocations) p
    ∙ ap (λ (x : Result (List RelocatedField) RelocFault). by_parts arch item section (Ok es) x) q
    ∙ ap (λ (x : Result (Unit {0}) RelocFault). by_check arch item section es fixes x) r

records_fault : (arch : Arch) (item : ℕ) (section : CallFrames) (given : Result (List EntryView) RecordFault) (fault : AsmFault) → named (asm.Record section.number) given ≡ Err fault → by_parts arch item section given section.relocations ≡ Err fault
records_fault arch item section (Ok es) fault p = cc
records_fault arch item section (Err e) fault p = ap Err (let is : asm.Record section.number e ≡ fault = cc in is)

pub records_refused : (arch : Arch) (item : ℕ) (section : CallFrames) (fault : AsmFault) → named (asm.Record section.number) (entries_of arch section.bytes) ≡ Err fault → section_functions arch item section ≡ Err fault
unfolding section_functions
records_refused arch item section fault p = records_fault arch item section (entries_of arch section.bytes) fault p

relocations_fault : (arch : Arch) (item : ℕ) (section : CallFrames) (es : List EntryView) (given : Result (List RelocatedField) RelocFault) (fault : AsmFault) → named (asm.Reloc section.number) given ≡ Err fault → by_parts arch item section (Ok es) given ≡ Err fault
relocations_fault arch item section es (Ok fixes) fault p = cc
relocations_fault arch item section es (Err e) fault p = ap Err (let is : asm.Reloc section.number e ≡ fault = cc in is)

pub relocations_refused : (arch : Arch) (item : ℕ) (section : CallFrames) (es : List EntryView) (fault : AsmFault) → entries_of arch section.bytes ≡ Ok es → named (asm.Reloc section.number) section.relocations ≡ Err fault → section_functions arch item section ≡ Err fault
unfolding section_functions
relocations_refused arch item section es fault p q =
    ap (λ (x : Result (List EntryView) RecordFault). by_parts arch item section x section.relocations) p
    ∙ relocations_fault arch item section es section.relocations fault q

pointers_fault : (arch : Arch) (item : ℕ) (section : CallFrames) (es : List EntryView) (fixes : List RelocatedField) (given : Result (Unit {0}) RelocFault) (fault : AsmFault) → named (asm.Reloc section.number) given ≡ Err fault → by_check arch item section es fixes given ≡ Err fault
pointers_fault arch item section es fixes (Ok x) fault p = cc
pointers_fault arch item section es fixes (Err e) fault p = ap Err (let is : asm.Reloc section.number e ≡ fault = cc in is)

pub pointers_refused : (arch : Arch) (item : ℕ) (section : CallFrames) (es : List EntryView) (fixes : List RelocatedField) (fault : AsmFault) → entries_of arch section.bytes ≡ Ok es → section.relocations ≡ Ok fixes
    → named (asm.Reloc section.number) (pointer_check (pointer_fields es) fixes) ≡ Err fault → section_functions arch item section ≡ Err fault
unfolding section_functions
pointers_refused arch item section es fixes fault p q r =
    ap (λ (x : Result (List EntryView) RecordFault). by_parts arch item section x section.relocations) p
    ∙ ap (λ (x : Result (List RelocatedField) RelocFault). by_parts arch item section (Ok es) x) q
    ∙ pointers_fault arch item section es fixes (pointer_check (pointer_fields es) fixes) fault r

-- ---- several sections
-- of one section
pub alone : (arch : Arch) (item : ℕ) (s : CallFrames) → sections_functions arch item (s ∷ []) ≡ section_functions arch item s
alone arch item s = by_functions (section_functions arch item s)
  where
    by_functions : (given : Result (List Function) AsmFault) → (given >>= λ fs. Ok (fs ++ [])) ≡ given
    by_functions (Ok fs) = ap Ok (append-nil fs)
    by_functions (Err fault) = refl

-- the sections from a number on
sections_from : (arch : Arch) (item : ℕ) (section : ℕ → CallFrames) (numbers : List ℕ) (k d : ℕ) → k < length numbers
    → sections_functions arch item (map section (drop k numbers))
    ≡ (section_functions arch item (section (get_or numbers k d)) >>= λ fs. sections_functions arch item (map section (drop (k + 1) numbers)) >>= λ gs. Ok (fs ++ gs))
sections_from arch item section numbers k d within = ap (λ (xs : List ℕ). sections_functions arch item (map section xs)) (drop_more numbers k d within)

-- its first one is read
pub section_more : (lending : Bool) (old mid new : ReadFunctions) (arch : Arch) (item : ℕ) (section : ℕ → CallFrames) (numbers : List ℕ) (k d : ℕ) (all : Result (List Function) AsmFault) → k < length numbers
    → GoesOn lending old mid (sections_functions arch item (map section (drop k numbers))) all → ReadsAll lending mid new (section_functions arch item (section (get_or numbers k d)))
    → GoesOn lending old new (sections_functions arch item (map section (drop (k + 1) numbers))) all
section_more lending old mid new arch item section numbers k d all within h (functions, is, reads) =
    let others = sections_functions arch item (map section (drop (k + 1) numbers)) in
    goes_on lending old mid new functions (sections_functions arch item (map section (drop k numbers))) others all h
    (sections_from arch item section numbers k d within ∙ then_others (section_functions arch item (section (get_or numbers k d))) functions others is) reads
