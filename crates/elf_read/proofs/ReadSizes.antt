-- The sections that are read whole have room in a file that passes the checks.
use Rattle.std.specs.Prelude.{nat_le}
use Rattle.std.proofs.Common.{◌≡◌, ℕ, zero, suc, ◌+◌, ◌≤◌, ◌/◌, ◌||◌, Bool, true, false, cond, IsTrue, is_ok, List, length, Ok, Err, refl, sym, ap, ◌∙◌, arith}
use Rattle.std.proofs.lemmas.Bool.{leb-true}
use Rattle.elf_read.specs.declared.fault.ElfFault.{ElfFault}
use Rattle.elf_read.specs.declared.fault.ElfFault.TheVariants.{OutOfFile}
use Rattle.elf_read.specs.declared.view.Elf.{Elf}
use Rattle.elf_read.specs.Checking.{unless, ◌>>◌, each_below}
use Rattle.elf_read.specs.Checks.{ElfCheck, identity_check, purpose_check, core_check, sections_check, names_check}
use Rattle.elf_read.specs.Header.{is_core}
use Rattle.elf_read.specs.InTurn.{table_check, used_check, content_check, checks_in_turn}
use Rattle.elf_read.specs.Parsing.{file_check}
use Rattle.elf_read.specs.TotalSize.{is_read, read_size, read_size_below, room_check, HasRoom}
use Rattle.elf_read.specs.Sections.{section_bytes, section_count, section_header, section_total, is_eh_frame, entry_count}
use Rattle.elf_read.specs.Used.{rela_check, group_check, compressed_check, entries_check, is_used_rela, is_group}
use Rattle.elf_read.specs.declared.input.ElfInput.{ElfInput}
use Rattle.elf_read.specs.declared.input.ElfInput.TheVariants.{Whole, Linked}
use Rattle.elf_read.specs.Input.{file as input_file}
use Rattle.elf_read.specs.Linked.{linked_file}
use Rattle.elf_read.specs.Views.{file}
use Rattle.elf_read.proofs.Each.{both_fine, each_below-at}
use Rattle.elf_read.proofs.Rules.{file_check_is}

-- ---- one section after the other
pub read_size_below-none : (file : List ℕ) → read_size_below file 0 ≡ 0
unfolding read_size_below
read_size_below-none file = refl

after_suc : (file : List ℕ) (i : ℕ) → read_size_below file (suc i) ≡ read_size_below file i + read_size file i
unfolding read_size_below
after_suc file i = refl

pub read_size_below-more : (file : List ℕ) (i : ℕ) → read_size_below file (i + 1) ≡ read_size_below file i + read_size file i
read_size_below-more file i = let next : i + 1 ≡ suc i = omega arith in ap (read_size_below file) next ∙ after_suc file i

-- the check of a section, by what those up to it hold together and the place of its header
pub room_check-is : (file : List ℕ) (i taken place : ℕ) → taken ≡ read_size_below file (i + 1) → place ≡ section_header file i → unless (nat_le taken (length file)) (OutOfFile place) ≡ room_check file i
unfolding room_check
room_check-is file i taken place is at =
    let next : i + 1 ≡ suc i = omega arith in
    ap (λ (p : ℕ). unless (nat_le taken (length file)) (OutOfFile p)) at
    ∙ ap (λ (n : ℕ). unless (nat_le n (length file)) (OutOfFile (section_header file i))) (is ∙ ap (read_size_below file) next)

-- ---- a file that passes
passes : (test : Bool) (e : ElfFault) → unless test e ≡ Ok tt → test ≡ true
passes true e h = refl
passes false e h = absurd (let differ : Err e ≡ Ok tt = h in cc)

room_below : (file : List ℕ) (i : ℕ) → room_check file i ≡ Ok tt → read_size_below file (suc i) ≤ length file
unfolding room_check
room_below file i h = leb-true (read_size_below file (suc i)) (length file) (passes (nat_le (read_size_below file (suc i)) (length file)) (OutOfFile (section_header file i)) h)

together_by : (file : List ℕ) (n : ℕ) → n ≤ section_count file → each_below (section_count file) (room_check file) ≡ Ok tt → read_size_below file n ≤ length file
together_by file zero upto checked = let none : read_size_below file 0 ≡ 0 = read_size_below-none file in omega (arith, none)
together_by file (suc i) upto checked = room_below file i (each_below-at (section_count file) i (room_check file) (omega (arith, upto)) checked)

used_parts : (file : List ℕ) → used_check file ≡ Ok tt → each_below (section_count file) (room_check file) ≡ Ok tt
unfolding used_check
used_parts file h =
    let count = section_count file in
    let relas = each_below count (rela_check file) in
    let room = relas >> each_below count (room_check file) in
    let groups = room >> each_below count (group_check file) in
    let compressed = groups >> compressed_check file in
    let p = both_fine compressed (each_below count (entries_check file)) h in
    let q = both_fine groups (compressed_check file) p.0 in
    let r = both_fine room (each_below count (group_check file)) q.0 in
    (both_fine relas (each_below count (room_check file)) r.0).1

of_core : (file : List ℕ) (b : Bool) → b ≡ true → cond b 0 (section_total file) ≡ 0
of_core file true h = refl
of_core file false h = absurd (cc h)

of_content : (file : List ℕ) (core : Bool) → is_core file ≡ core → cond core (core_check file) (sections_check file >> names_check file >> used_check file) ≡ Ok tt → each_below (section_count file) (room_check file) ≡ Ok tt
unfolding section_count section_total each_below
of_content file true is h = ap (λ (n : ℕ). each_below n (room_check file)) (of_core file (is_core file) is)
of_content file false is h = used_parts file (both_fine (sections_check file >> names_check file) (used_check file) h).1

room_is_checked : (file : List ℕ) → file_check file ≡ Ok tt → each_below (section_count file) (room_check file) ≡ Ok tt
unfolding checks_in_turn content_check
room_is_checked file h =
    of_content file (is_core file) refl (both_fine (identity_check file >> purpose_check file >> table_check file) (content_check file) (sym (file_check_is file) ∙ h)).1

-- ---- the entries of relocations
used_read : (frames rela group : Bool) (size : ℕ) → rela ≡ true → cond (frames || (rela || group)) size 0 ≡ size
used_read true rela group size h = refl
used_read false true group size h = refl
used_read false false group size h = absurd (cc h)

entries_by : (file : List ℕ) (i : ℕ) → is_used_rela file i ≡ true → entry_count file i ≡ read_size file i / 24
unfolding entry_count read_size is_read
entries_by file i used = ap (λ (n : ℕ). n / 24) (sym (used_read (is_eh_frame file i) (is_used_rela file i) (is_group file i) (length (section_bytes file i)) used))

pub has_room : (file : List ℕ) → file_check file ≡ Ok tt → HasRoom file
has_room file checked = record { together = λ n upto. together_by file n upto (room_is_checked file checked); entries = entries_by file }

passed : (check : ElfCheck) → IsTrue (is_ok check) → check ≡ Ok tt
passed (Ok u) h = refl
passed (Err e) h = absurd (cc h)

-- of a file that was read
elf_has_room : (elf : Elf) → HasRoom (file elf)
elf_has_room elf = has_room elf.bytes.now (passed (file_check elf.bytes.now) elf.checked)

pub input_has_room : (input : ElfInput) → HasRoom (input_file input)
input_has_room (Whole elf) = elf_has_room elf
input_has_room (Linked elf) = has_room (linked_file elf.now) elf.now.checked
