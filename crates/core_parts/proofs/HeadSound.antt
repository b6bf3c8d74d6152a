-- What a core file's headers and its one segment of notes say holds of the whole file.
use Rattle.std.specs.Prelude.{IfOk, IfSome, nat_le}
use Rattle.std.specs.List.{flat_map, range_with_len}
use Rattle.std.specs.Option.{option_map}
use Rattle.std.proofs.Common.{◌≡◌, ℕ, zero, suc, ◌+◌, ◌*◌, ◌<◌, ◌≤◌, ◌==◌, ◌&&◌, ◌||◌, not, min, Bool, true, false, cond, List, length, map, Option, Some, None, Result, Ok, Err, refl, sym, ap, subst, ◌∙◌, arith}
use Rattle.std.proofs.lemmas.Bool.{le-leb, leb-true}
use Rattle.std.proofs.lemmas.List.{length-take}
use Rattle.sf_bytes.specs.declared.file_part.FilePart.{FilePart}
use Rattle.sf_bytes.specs.Parts.{IsPart}
use Rattle.sf_model.specs.declared.machine.Arch.{Arch as machine}
use Rattle.sf_model.specs.declared.machine.Arch.TheVariants.{Amd64, Aarch64}
use Rattle.elf_read.specs.declared.fault.ElfFault.TheVariants.{Short, NotElf, Class, Order, Version, Machine, Kind, EntrySize, OutOfFile}
use Rattle.elf_read.specs.declared.kind.Kind.TheVariants as kinds
use Rattle.elf_read.specs.Checking.{unless, where_so, ◌>>◌, each_below}
use Rattle.elf_read.specs.Checks.{ElfCheck, first_section_check, identity_check, is_known_machine, is_known_type, names_check, needs_sections, purpose_check, sections_check, segment_check}
use Rattle.elf_read.specs.Checks as elf
use Rattle.elf_read.specs.Header.{FileHeader, arch_of, header_fields, is_core, kind_of, p_filesz, p_offset, program_header}
use Rattle.elf_read.specs.InTurn.{checks_in_turn, content_check, table_check, used_check}
use Rattle.elf_read.specs.Number.{window}
use Rattle.elf_read.specs.Parsing.{file_check}
use Rattle.elf_read.specs.Sections.{section_fields, segment_count, segment_total}
use Rattle.elf_read.proofs.Rules.{file_check_is}
use Rattle.core_notes.specs.declared.fault.CoreFault.TheVariants.{NotCore}
use Rattle.core_notes.specs.Checks.{Check, NotesPass, core_check, core_part, elf_part, file_threads, is_core_kind}
use Rattle.core_notes.specs.Listing.{NoteItem, notes_from, notes_in, segment_items, whole_notes}
use Rattle.core_notes.specs.Segment.{segment_of, segments}
use Rattle.core_notes.specs.MemoryBytes.{load_span, load_spans}
use Rattle.core_notes.specs.Thread.{file_note_in, threads_in}
use Rattle.core_notes.proofs.Rooms.{room_is_checked}
use Rattle.core_parts.specs.declared.core_head.CoreHead.{CoreHead}
use Rattle.core_parts.specs.CoreHeader.{IsCoreHeader}
use Rattle.core_parts.specs.Heads.{head_lies, head_span, heads_lie, segment_in}
use Rattle.core_parts.specs.Table.{head_at}
use Rattle.core_parts.specs.Whole.{AreRead, IsHeadOf, part_cursor}
use Rattle.core_parts.proofs.Fields.{IsTableOf, all_at, fields_kept, loads_kept, place_kept, segments_kept, size_kept}
use Rattle.core_parts.proofs.Notes.{notes_of_one, room_for_one}

-- the three parts of a file, and what they say
record Parts (file : List ℕ) (header table notes : FilePart) (head : CoreHead) : Type 0 where
  header_is : header.bytes.items ≡ window 0 64 file
  table_is : IsTableOf file table.bytes.items (header_fields file).e_phnum
  notes_are : notes.bytes.items ≡ window notes.place (length notes.bytes.items) file
  read : AreRead header table notes (length file) head

-- ---- the file header
same_header : (file : List ℕ) (header table notes : FilePart) (head : CoreHead) → Parts file header table notes head → header_fields header.bytes.items ≡ header_fields file
same_header file header table notes head p = fields_kept file header.bytes.items p.header_is

-- what the header says, the file says
record Says (h : FileHeader) : Type 0 where
  mag : h.ei_mag ≡ 0x464c457f
  width : h.ei_class ≡ 2
  order : h.ei_data ≡ 1
  version : h.ei_version ≡ 1
  file_version : h.e_version ≡ 1
  machine : is_known_machine h.e_machine ≡ true
  kind : h.e_type ≡ 4
  entry : h.e_phentsize ≡ 56
  count : (h.e_phnum == 0xffff) ≡ false

says : (header : List ℕ) → IsCoreHeader header → Says (header_fields header)
says header h = record {
  mag = h.elf.mag;
  width = h.elf.width;
  order = h.elf.order;
  version = h.elf.version;
  file_version = h.elf.file_version;
  machine = h.machine;
  kind = h.kind;
  entry = h.entry;
  count = h.count;
}

file_says : (file : List ℕ) (header table notes : FilePart) (head : CoreHead) → Parts file header table notes head → Says (header_fields file)
file_says file header table notes head p = subst Says (same_header file header table notes head p) (says header.bytes.items p.read.heads_are.header_is)

long_file : (file : List ℕ) (header table notes : FilePart) (head : CoreHead) → Parts file header table notes head → 64 ≤ length file
long_file file header table notes head p =
    let len : length header.bytes.items ≡ min 64 (length file) = ap length p.header_is ∙ length-take 64 file in
    let full = p.read.whole_header in
    omega (arith, len, full)

-- ---- the checks of the ELF file
six : (a b c d e f : ElfCheck) → a ≡ Ok tt → b ≡ Ok tt → c ≡ Ok tt → d ≡ Ok tt → e ≡ Ok tt → f ≡ Ok tt → (a >> b >> c >> d >> e >> f) ≡ Ok tt
six a b c d e f p q r s t u = rw (p, q, r, s, t, u) refl

identity_is : (file : List ℕ) → identity_check file
    ≡ (unless (nat_le 64 (length file)) (Short (length file))
    >> unless ((header_fields file).ei_mag == 0x464c457f) (NotElf 0)
    >> unless ((header_fields file).ei_class == 2) (Class 4)
    >> unless ((header_fields file).ei_data == 1) (Order 5)
    >> unless ((header_fields file).ei_version == 1) (Version 6)
    >> unless ((header_fields file).e_version == 1) (Version 20))
unfolding identity_check header_fields
identity_is file = refl

identity_passes : (file : List ℕ) → 64 ≤ length file → Says (header_fields file) → identity_check file ≡ Ok tt
identity_passes file long h =
    identity_is file ∙ six _ _ _ _ _ _
    (ap (λ (b : Bool). unless b (Short (length file))) (le-leb 64 (length file) long))
    (ap (λ (n : ℕ). unless (n == 0x464c457f) (NotElf 0)) h.mag)
    (ap (λ (n : ℕ). unless (n == 2) (Class 4)) h.width)
    (ap (λ (n : ℕ). unless (n == 1) (Order 5)) h.order)
    (ap (λ (n : ℕ). unless (n == 1) (Version 6)) h.version)
    (ap (λ (n : ℕ). unless (n == 1) (Version 20)) h.file_version)

purpose_passes : (file : List ℕ) → Says (header_fields file) → purpose_check file ≡ Ok tt
unfolding purpose_check
purpose_passes file h =
    ap (λ (b : Bool). unless b (Machine 18) >> unless (is_known_type (header_fields file).e_type) (Kind 16)) h.machine
    ∙ ap (λ (n : ℕ). unless (is_known_type n) (Kind 16)) h.kind

is_core_file : (file : List ℕ) → Says (header_fields file) → is_core file ≡ true
is_core_file file h = ap (λ (n : ℕ). n == 4) h.kind

none_needed : (a b c : Bool) → b ≡ true → c ≡ false → ((a && not b) || c) ≡ false
none_needed true true c p q = q
none_needed true false c p q = absurd (cc p)
none_needed false b c p q = q

table_passes : (file : List ℕ) → Says (header_fields file) → table_check file ≡ Ok tt
unfolding table_check needs_sections
table_passes file h =
    ap (λ (b : Bool). where_so b (first_section_check file))
    (none_needed (not ((header_fields file).e_shoff == 0)) (is_core file) ((header_fields file).e_phnum == 0xffff) (is_core_file file h) h.count)

total_is : (file : List ℕ) → Says (header_fields file) → segment_total file ≡ (header_fields file).e_phnum
unfolding segment_total
total_is file h = ap (λ (b : Bool). cond b (section_fields file 0).sh_info (header_fields file).e_phnum) h.count

count_is : (file : List ℕ) → Says (header_fields file) → segment_count file ≡ (header_fields file).e_phnum
unfolding segment_count
count_is file h = ap (λ (b : Bool). cond b (segment_total file) 0) (is_core_file file h) ∙ total_is file h

next : (n : ℕ) (check : ℕ → ElfCheck) → each_below (suc n) check ≡ (each_below n check >> check n)
unfolding each_below
next n check = refl

none : (check : ℕ → ElfCheck) → each_below 0 check ≡ Ok tt
unfolding each_below
none check = refl

all_pass : (n : ℕ) (check : ℕ → ElfCheck) → ((i : ℕ) → i < n → check i ≡ Ok tt) → each_below n check ≡ Ok tt
all_pass zero check h = none check
all_pass (suc n) check h = next n check ∙ ap (λ (c : ElfCheck). c >> check n) (all_pass n check (λ i below. h i (omega (arith, below)))) ∙ h n (omega arith)

segment_passes : (file : List ℕ) (header table notes : FilePart) (head : CoreHead) → Parts file header table notes head → (i : ℕ) → i < (header_fields file).e_phnum → segment_check file i ≡ Ok tt
unfolding segment_check
segment_passes file header table notes head p i below =
    let heads = p.read.heads_are in
    let same = ap (λ (h : FileHeader). h.e_phnum) (same_header file header table notes head p) in
    let lie : heads_lie (length file) (map (head_at table.bytes.items) (range_with_len 0 (header_fields header.bytes.items).e_phnum)) ≡ true = ap (heads_lie (length file)) (sym heads.heads_are) ∙ heads.lie in
    let here = all_at (head_lies (length file)) (head_at table.bytes.items) 0 (header_fields header.bytes.items).e_phnum i lie (omega arith) (omega (arith, below, same)) in
    let within = leb-true ((head_at table.bytes.items i).place + (head_at table.bytes.items i).size) (length file) here in
    let place = place_kept file table.bytes.items (header_fields file).e_phnum i p.table_is below in
    let size = size_kept file table.bytes.items (header_fields file).e_phnum i p.table_is below in
    ap (λ (b : Bool). unless b (OutOfFile (program_header file i))) (le-leb (p_offset file i + 1 * p_filesz file i) (length file) (omega (arith, within, place, size)))

three : (a b c : ElfCheck) → a ≡ Ok tt → b ≡ Ok tt → c ≡ Ok tt → (a >> b >> c) ≡ Ok tt
three a b c p q r = rw (p, q, r) refl

any_or_true : (a b : Bool) → b ≡ true → (a || b) ≡ true
any_or_true true b h = refl
any_or_true false b h = h

core_passes : (file : List ℕ) (header table notes : FilePart) (head : CoreHead) → Parts file header table notes head → elf.core_check file ≡ Ok tt
unfolding elf.core_check
core_passes file header table notes head p =
    let h = file_says file header table notes head p in
    let total = total_is file h in
    let table_is = p.read.heads_are.table_is in
    let same = same_header file header table notes head p in
    let place : table.place ≡ (header_fields file).e_phoff = table_is.place ∙ ap (λ (h : FileHeader). h.e_phoff) same in
    let size : length table.bytes.items ≡ 56 * (header_fields file).e_phnum = table_is.size ∙ ap (λ (h : FileHeader). 56 * h.e_phnum) same in
    let lies = table_is.lies in
    three _ _ _
    (ap (λ (b : Bool). unless b (EntrySize 54)) (any_or_true (segment_total file == 0) ((header_fields file).e_phentsize == 56) (ap (λ (n : ℕ). n == 56) h.entry)))
    (ap (λ (b : Bool). unless b (OutOfFile 32)) (le-leb ((header_fields file).e_phoff + 56 * segment_total file) (length file) (omega (arith, place, size, lies, total))))
    (ap (λ (n : ℕ). each_below n (segment_check file)) total ∙ all_pass (header_fields file).e_phnum (segment_check file) (segment_passes file header table notes head p))

content_passes : (file : List ℕ) (header table notes : FilePart) (head : CoreHead) → Parts file header table notes head → content_check file ≡ Ok tt
unfolding content_check
content_passes file header table notes head p =
    ap (λ (b : Bool). cond b (elf.core_check file) (sections_check file >> names_check file >> used_check file)) (is_core_file file (file_says file header table notes head p))
    ∙ core_passes file header table notes head p

four : (a b c d : ElfCheck) → a ≡ Ok tt → b ≡ Ok tt → c ≡ Ok tt → d ≡ Ok tt → (a >> b >> c >> d) ≡ Ok tt
four a b c d p q r s = rw (p, q, r, s) refl

in_turn : (file : List ℕ) (header table notes : FilePart) (head : CoreHead) → Parts file header table notes head → checks_in_turn file ≡ Ok tt
unfolding checks_in_turn
in_turn file header table notes head p =
    let h = file_says file header table notes head p in
    four _ _ _ _ (identity_passes file (long_file file header table notes head p) h) (purpose_passes file h) (table_passes file h) (content_passes file header table notes head p)

file_passes : (file : List ℕ) (header table notes : FilePart) (head : CoreHead) → Parts file header table notes head → file_check file ≡ Ok tt
file_passes file header table notes head p = file_check_is file ∙ in_turn file header table notes head p

-- ---- the segments, and the notes
segments_kept_by : (file : List ℕ) (header table notes : FilePart) (head : CoreHead) → Parts file header table notes head → segments file ≡ map (segment_in file) head.heads.items
unfolding segments
segments_kept_by file header table notes head p =
    let same = ap (λ (h : FileHeader). h.e_phnum) (same_header file header table notes head p) in
    ap (λ (n : ℕ). map (segment_of file) (range_with_len 0 n)) (count_is file (file_says file header table notes head p))
    ∙ sym (segments_kept file table.bytes.items (header_fields file).e_phnum p.table_is)
    ∙ ap (λ (n : ℕ). map (segment_in file) (map (head_at table.bytes.items) (range_with_len 0 n))) (sym same)
    ∙ ap (map (segment_in file)) (sym p.read.heads_are.heads_are)

loads_kept_by : (file : List ℕ) (header table notes : FilePart) (head : CoreHead) → Parts file header table notes head → load_spans file ≡ map head_span head.heads.items
loads_kept_by file header table notes head p =
    let same = ap (λ (h : FileHeader). h.e_phnum) (same_header file header table notes head p) in
    ap (λ (n : ℕ). map (load_span file) (range_with_len 0 n)) (count_is file (file_says file header table notes head p))
    ∙ sym (loads_kept file table.bytes.items (header_fields file).e_phnum p.table_is)
    ∙ ap (λ (n : ℕ). map head_span (map (head_at table.bytes.items) (range_with_len 0 n))) (sym same)
    ∙ ap (map head_span) (sym p.read.heads_are.heads_are)

notes_kept : (file : List ℕ) (header table notes : FilePart) (head : CoreHead) → Parts file header table notes head → notes_in file ≡ notes_from (part_cursor notes)
notes_kept file header table notes head p =
    let t = p.read.threads_are in
    ap (flat_map segment_items) (segments_kept_by file header table notes head p)
    ∙ notes_of_one file head.heads.items t.note t.only
    ∙ ap (λ (n : ℕ). notes_from (record { place = n; left = window n t.note.size file })) t.place
    ∙ ap (λ (n : ℕ). notes_from (record { place = notes.place; left = window notes.place n file })) t.size
    ∙ ap (λ (bytes : List ℕ). notes_from (record { place = notes.place; left = bytes })) (sym p.notes_are)

arch_is : (file : List ℕ) → arch_of file ≡ cond ((header_fields file).e_machine == 62) Amd64 Aarch64
unfolding arch_of
arch_is file = refl

arch_kept : (file : List ℕ) (header table notes : FilePart) (head : CoreHead) → Parts file header table notes head → arch_of file ≡ head.arch
arch_kept file header table notes head p =
    arch_is file
    ∙ ap (λ (h : FileHeader). cond (h.e_machine == 62) Amd64 Aarch64) (sym (same_header file header table notes head p))
    ∙ sym (arch_is header.bytes.items) ∙ sym p.read.arch_is

-- ---- the checks of the core file
kind_is : (file : List ℕ) → Says (header_fields file) → is_core_kind (kind_of file) ≡ true
unfolding kind_of
kind_is file h = ap (λ (n : ℕ). is_core_kind (cond (n == 1) kinds.Rel (cond (n == 2) kinds.Exec (cond (n == 3) kinds.Dyn kinds.Core)))) h.kind

four_parts : (a b c d : Check) → a ≡ Ok tt → b ≡ Ok tt → c ≡ Ok tt → d ≡ Ok tt → (a >> b >> c >> d) ≡ Ok tt
four_parts a b c d p q r s = rw (p, q, r, s) refl

part_passes : (file : List ℕ) (header table notes : FilePart) (head : CoreHead) → Parts file header table notes head → core_part file ≡ Ok tt
unfolding core_part
part_passes file header table notes head p =
    let t = p.read.threads_are in
    let arch = arch_kept file header table notes head p in
    let items = notes_kept file header table notes head p in
    let pass : NotesPass (arch_of file) (notes_in file) =
    subst (λ (xs : List NoteItem). NotesPass (arch_of file) xs) (sym items) (subst (λ (a : machine). NotesPass a (notes_from (part_cursor notes))) (sym arch) t.pass) in
    four_parts _ _ _ _
    (ap (λ (b : Bool). unless b NotCore) (kind_is file (file_says file header table notes head p)))
    (ap elf_part (room_is_checked file (room_for_one file head.heads.items t.note (segments_kept_by file header table notes head p) t.only)))
    pass.notes pass.count

check_passes : (file : List ℕ) (header table notes : FilePart) (head : CoreHead) → Parts file header table notes head → core_check file ≡ Ok tt
check_passes file header table notes head p =
    ap (λ (c : ElfCheck). elf_part c >> core_part file) (file_passes file header table notes head p) ∙ part_passes file header table notes head p

threads_kept : (file : List ℕ) (header table notes : FilePart) (head : CoreHead) → Parts file header table notes head → file_threads file ≡ head.threads.items
threads_kept file header table notes head p =
    ap (λ (items : List NoteItem). threads_in (arch_of file) (whole_notes items)) (notes_kept file header table notes head p)
    ∙ ap (λ (a : machine). threads_in a (whole_notes (notes_from (part_cursor notes)))) (arch_kept file header table notes head p)
    ∙ sym p.read.threads_are.threads_are

note_kept : (file : List ℕ) (header table notes : FilePart) (head : CoreHead) → Parts file header table notes head → file_note_in (whole_notes (notes_in file)) ≡ option_map part_cursor head.file_note
note_kept file header table notes head p = ap (λ (items : List NoteItem). file_note_in (whole_notes items)) (notes_kept file header table notes head p) ∙ p.read.note_is

-- ---- all
pub head_is : (file : List ℕ) (header table notes : FilePart) (len : ℕ) (head : CoreHead) → length file ≡ len → IsPart file header → IsPart file table → IsPart file notes → AreRead header table notes len head → IsHeadOf head file
head_is file header table notes len head is at_header at_table at_notes read =
    let header_is : header.bytes.items ≡ window 0 64 file =
    at_header ∙ ap (λ (n : ℕ). window n (length header.bytes.items) file) read.at_start ∙ ap (λ (n : ℕ). window 0 n file) read.whole_header in
    let same = fields_kept file header.bytes.items header_is in
    let p : Parts file header table notes head = record {
      header_is = header_is;
      table_is =
          at_table ∙ ap (λ (n : ℕ). window n (length table.bytes.items) file) (read.heads_are.table_is.place ∙ ap (λ (h : FileHeader). h.e_phoff) same)
          ∙ ap (λ (n : ℕ). window (header_fields file).e_phoff n file) (read.heads_are.table_is.size ∙ ap (λ (h : FileHeader). 56 * h.e_phnum) same);
      notes_are = at_notes;
      read = subst (λ (n : ℕ). AreRead header table notes n head) (sym is) read;
    } in
    record {
      checked = check_passes file header table notes head p;
      machine = arch_kept file header table notes head p;
      segments_are = segments_kept_by file header table notes head p;
      threads_are = threads_kept file header table notes head p;
      loads_are = loads_kept_by file header table notes head p;
      note_is = note_kept file header table notes head p;
    }

-- what holds of what was read
pub each_read : {E : Type 0} (P Q : CoreHead → Type 0) → ((head : CoreHead) → P head → Q head) → (r : Result (Option CoreHead) E) → IfOk r (λ found. IfSome found P) → IfOk r (λ found. IfSome found Q)
each_read P Q h (Ok (Some head)) p = h head p
each_read P Q h (Ok None) p = tt
each_read P Q h (Err e) p = tt
