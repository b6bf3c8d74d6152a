-- The PT_NOTE segments have room in a file that passes the checks.
use Rattle.std.specs.Prelude.{nat_le}
use Rattle.std.proofs.Common.{◌≡◌, ℕ, zero, suc, ◌+◌, ◌*◌, ◌<◌, ◌≤◌, Bool, true, false, cond, IsTrue, is_ok, List, length, Result, Ok, Err, refl, sym, ap, ◌∙◌, arith}
use Rattle.std.proofs.lemmas.Bool.{le-leb, leb-true, lt-leb}
use Rattle.elf_read.specs.declared.fault.ElfFault.{ElfFault}
use Rattle.elf_read.specs.declared.fault.ElfFault.TheVariants.{EntrySize, OutOfFile}
use Rattle.elf_read.specs.declared.view.Elf.{Elf}
use Rattle.elf_read.specs.Checking.{unless, each_below, ◌>>◌}
use Rattle.elf_read.specs.Checks.{ElfCheck, core_check, has_program_headers, identity_check, names_check, purpose_check, sections_check, segment_check}
use Rattle.elf_read.specs.Header.{header_fields, is_core, program_header}
use Rattle.elf_read.specs.Number.{lies_in}
use Rattle.elf_read.specs.InTurn.{content_check, checks_in_turn, table_check, used_check}
use Rattle.elf_read.specs.Parsing.{file_check}
use Rattle.elf_read.specs.Sections.{segment_count, segment_total}
use Rattle.elf_read.specs.Views.{file}
use Rattle.elf_read.proofs.Each.{both_fine, each_below-at}
use Rattle.elf_read.proofs.Rules.{file_check_is}
use Rattle.core_notes.specs.TotalSize.{HasNoteRoom, note_size, note_size_below, note_room_check}
use Rattle.core_notes.specs.Segment.{segment_of}

-- ---- one segment after the other
pub note_size_below-none : (file : List ℕ) → note_size_below file 0 ≡ 0
unfolding note_size_below
note_size_below-none file = refl

after_suc : (file : List ℕ) (i : ℕ) → note_size_below file (suc i) ≡ note_size_below file i + note_size (segment_of file i)
unfolding note_size_below
after_suc file i = refl

pub note_size_below-more : (file : List ℕ) (i : ℕ) → note_size_below file (i + 1) ≡ note_size_below file i + note_size (segment_of file i)
note_size_below-more file i = let next : i + 1 ≡ suc i = omega arith in ap (note_size_below file) next ∙ after_suc file i

-- the check of a segment, by what those up to it have together
pub room-holds : (file : List ℕ) (i taken : ℕ) → taken ≡ note_size_below file (i + 1) → taken ≤ length file → note_room_check file i ≡ Ok tt
unfolding note_room_check
room-holds file i taken is fits =
    let next : i + 1 ≡ suc i = omega arith in
    let same : taken ≡ note_size_below file (suc i) = is ∙ ap (note_size_below file) next in
    ap (λ (b : Bool). unless b (OutOfFile (program_header file i))) (ap (λ (n : ℕ). nat_le n (length file)) (sym same) ∙ le-leb taken (length file) fits)

pub room-fails : (file : List ℕ) (i taken : ℕ) → taken ≡ note_size_below file (i + 1) → length file < taken → note_room_check file i ≡ Err (OutOfFile (program_header file i))
unfolding note_room_check
room-fails file i taken is over =
    let next : i + 1 ≡ suc i = omega arith in
    let same : taken ≡ note_size_below file (suc i) = is ∙ ap (note_size_below file) next in
    ap (λ (b : Bool). unless b (OutOfFile (program_header file i))) (ap (λ (n : ℕ). nat_le n (length file)) (sym same) ∙ lt-leb taken (length file) over)

-- ---- all of them
passes : (test : Bool) (e : ElfFault) → unless test e ≡ Ok tt → test ≡ true
passes true e h = refl
passes false e h = absurd (let differ : Err e ≡ Ok tt = h in cc)

room_upto : (file : List ℕ) (i : ℕ) → note_room_check file i ≡ Ok tt → note_size_below file (suc i) ≤ length file
unfolding note_room_check
room_upto file i h = leb-true (note_size_below file (suc i)) (length file) (passes (nat_le (note_size_below file (suc i)) (length file)) (OutOfFile (program_header file i)) h)

pub checked_has_room : (file : List ℕ) → each_below (segment_count file) (note_room_check file) ≡ Ok tt → HasNoteRoom file
checked_has_room file h zero upto = let none = note_size_below-none file in omega (none, arith)
checked_has_room file h (suc i) upto = room_upto file i (each_below-at (segment_count file) i (note_room_check file) (omega (upto, arith)) h)

each_fine : {E : Type 0} (n : ℕ) (check : ℕ → Result (Unit {0}) E) → ((i : ℕ) → i < n → check i ≡ Ok tt) → each_below n check ≡ Ok tt
unfolding each_below
each_fine zero check h = refl
each_fine (suc n) check h = ap (λ (c : Result (Unit {0}) _). c >> check n) (each_fine n check (λ i lt. h i (omega (lt, arith)))) ∙ h n (omega arith)

pub room_is_checked : (file : List ℕ) → HasNoteRoom file → each_below (segment_count file) (note_room_check file) ≡ Ok tt
room_is_checked file h = each_fine (segment_count file) (note_room_check file) (λ i lt. room-holds file i (note_size_below file (i + 1)) refl (h (i + 1) (omega (lt, arith))))

-- ---- the program headers are in the file
headers_by : (file : List ℕ) (i : ℕ) → core_check file ≡ Ok tt → i < segment_total file → (header_fields file).e_phoff + 56 * i < length file
unfolding core_check
headers_by file i h lt =
    let count = segment_total file in
    let lies = unless (lies_in (length file) (header_fields file).e_phoff count 56) (OutOfFile 32) in
    let upto = both_fine (unless (has_program_headers file) (EntrySize 54) >> lies) (each_below count (segment_check file)) h in
    let two = both_fine (unless (has_program_headers file) (EntrySize 54)) lies upto.0 in
    let fits = leb-true ((header_fields file).e_phoff + 56 * count) (length file) (passes (lies_in (length file) (header_fields file).e_phoff count 56) (OutOfFile 32) two.1) in
    omega (fits, lt, arith)

headers_if : (file : List ℕ) (i : ℕ) (core : Bool) → cond core (core_check file) (sections_check file >> names_check file >> used_check file) ≡ Ok tt → i < cond core (segment_total file) 0 → (header_fields file).e_phoff + 56 * i < length file
headers_if file i true h lt = headers_by file i h lt
headers_if file i false h lt = absurd (omega (lt, arith))

headers_lie : (file : List ℕ) (i : ℕ) → file_check file ≡ Ok tt → i < segment_count file → (header_fields file).e_phoff + 56 * i < length file
unfolding checks_in_turn content_check segment_count
headers_lie file i h lt = headers_if file i (is_core file) (both_fine (identity_check file >> purpose_check file >> table_check file) (content_check file) (sym (file_check_is file) ∙ h)).1 lt

passed : (check : ElfCheck) → IsTrue (is_ok check) → check ≡ Ok tt
passed (Ok u) h = refl
passed (Err e) h = absurd (cc h)

pub header_lies : (elf : Elf) (i : ℕ) → i < segment_count (file elf) → (header_fields (file elf)).e_phoff + 56 * i < length (file elf)
header_lies elf i lt = headers_lie elf.bytes.now i (passed (file_check elf.bytes.now) elf.checked) lt
