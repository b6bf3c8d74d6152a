-- An executable or a shared object passes all checks if its headers, its names and its one section with call frame information do.
use Rattle.std.proofs.Common.{◌≡◌, ℕ, zero, suc, ◌+◌, ◌*◌, ◌<◌, ◌≤◌, ◌==◌, ◌&&◌, ◌||◌, Bool, true, false, not, cond, List, [], length, drop, Ok, Err, refl, sym, ap, subst, ◌∙◌, arith, inl, inr, le-leb}
use Rattle.std.proofs.lemmas.Bool.{cases_lt}
use Rattle.std.proofs.lemmas.List.{length-drop, length-take}
use Rattle.elf_read.specs.declared.fault.ElfFault.TheVariants.{EntrySize, Strings, OutOfFile}
use Rattle.elf_read.specs.Checking.{unless, where_so, ◌>>◌, each_below}
use Rattle.elf_read.specs.Checks.{ElfCheck, needs_sections, has_first_section, first_section_check, core_check, sections_check, names_check, bytes_check, name_check, is_string_table, has_names}
use Rattle.elf_read.specs.Compressed.{IsUsedBy, NoneIsCompressed}
use Rattle.elf_read.specs.Header.{header_fields, is_rel}
use Rattle.elf_read.specs.Linked.{IsLinkedHead, IsOnlyEhFrame}
use Rattle.elf_read.specs.Number.{lies_in, window}
use Rattle.elf_read.specs.InTurn.{table_check, used_check, content_check, checks_in_turn}
use Rattle.elf_read.specs.Parsing.{file_check}
use Rattle.elf_read.specs.TotalSize.{is_read, read_size, read_size_below, room_check}
use Rattle.elf_read.specs.Sections.{has_bytes, name_table, section_bytes, section_count, section_header, section_fields, is_compressed, is_eh_frame, entry_count}
use Rattle.elf_read.specs.Used.{names_eh_frame, is_used_rela, is_group, rela_check, rela_tables, group_check, group_tables, members_check, entries_check, entry_check, compressed_check}
use Rattle.elf_read.proofs.LeastCompressed.{none_is_compressed}
use Rattle.elf_read.proofs.Rules.{file_check_is}

-- ---- each of them
next : (n : ℕ) (check : ℕ → ElfCheck) → each_below (suc n) check ≡ (each_below n check >> check n)
unfolding each_below
next n check = refl

none : (check : ℕ → ElfCheck) → each_below 0 check ≡ Ok tt
unfolding each_below
none check = refl

pub all_passes : (n : ℕ) (check : ℕ → ElfCheck) → ((i : ℕ) → i < n → check i ≡ Ok tt) → each_below n check ≡ Ok tt
all_passes zero check h = none check
all_passes (suc n) check h =
    next n check
    ∙ ap (λ (c : ElfCheck). c >> check n) (all_passes n check (λ i below. h i (omega (arith, below))))
    ∙ h n (omega arith)

-- ---- no object
no_rela : (file : List ℕ) (i : ℕ) → is_rel file ≡ false → is_used_rela file i ≡ false
unfolding is_used_rela
no_rela file i h = ap (λ (b : Bool). b && ((section_fields file i).sh_type == 4) && names_eh_frame file (section_fields file i).sh_info) h

no_group : (file : List ℕ) (i : ℕ) → is_rel file ≡ false → is_group file i ≡ false
unfolding is_group
no_group file i h = ap (λ (b : Bool). b && ((section_fields file i).sh_type == 17)) h

rela_passes : (file : List ℕ) → is_rel file ≡ false → (i : ℕ) → rela_check file i ≡ Ok tt
unfolding rela_check
rela_passes file h i = ap (λ (b : Bool). where_so b (rela_tables file i)) (no_rela file i h)

group_passes : (file : List ℕ) → is_rel file ≡ false → (i : ℕ) → group_check file i ≡ Ok tt
unfolding group_check
group_passes file h i = ap (λ (b : Bool). where_so b (group_tables file i >> members_check file i)) (no_group file i h)

entries_passes : (file : List ℕ) → is_rel file ≡ false → (i : ℕ) → entries_check file i ≡ Ok tt
unfolding entries_check
entries_passes file h i = ap (λ (b : Bool). where_so b (each_below (entry_count file i) (entry_check file i))) (no_rela file i h)

-- ---- room
read_is : (file : List ℕ) (i : ℕ) → is_rel file ≡ false → is_read file i ≡ is_eh_frame file i
unfolding is_read
read_is file i h =
    ap (λ (b : Bool). is_eh_frame file i || (b || is_group file i)) (no_rela file i h)
    ∙ ap (λ (b : Bool). is_eh_frame file i || b) (no_group file i h)
    ∙ or_false (is_eh_frame file i)
  where
    or_false : (b : Bool) → (b || false) ≡ b
    or_false true = refl
    or_false false = refl

size_none : (file : List ℕ) (i : ℕ) → is_rel file ≡ false → is_eh_frame file i ≡ false → read_size file i ≡ 0
unfolding read_size
size_none file i h frame = ap (λ (b : Bool). cond b (length (section_bytes file i)) 0) (read_is file i h ∙ frame)

size_most : (file : List ℕ) (i : ℕ) → read_size file i ≤ length (section_bytes file i)
unfolding read_size
size_most file i = elim (is_read file i) as (λ b. cond b (length (section_bytes file i)) 0 ≤ length (section_bytes file i)) [ true ↦ omega arith | false ↦ omega arith ]

pub bytes_short : (file : List ℕ) (i : ℕ) → length (section_bytes file i) ≤ length file
unfolding section_bytes
bytes_short file i = elim (has_bytes file i) as (λ b. length (cond b (window (section_fields file i).sh_offset (section_fields file i).sh_size file) []) ≤ length file) [
  | true ↦
      let a = length-take (section_fields file i).sh_size (drop (section_fields file i).sh_offset file) in
      let b = length-drop (section_fields file i).sh_offset file in
      omega (arith, a, b)
  | false ↦ omega arith
]

after : (file : List ℕ) (n : ℕ) → read_size_below file (suc n) ≡ read_size_below file n + read_size file n
unfolding read_size_below
after file n = refl

start : (file : List ℕ) → read_size_below file 0 ≡ 0
unfolding read_size_below
start file = refl

record IsBelow (file : List ℕ) (f n : ℕ) : Type 0 where
  before : n ≤ f → read_size_below file n ≡ 0
  most : read_size_below file n ≤ length (section_bytes file f)

not_true : (b : Bool) → (b ≡ true → ⊥) → b ≡ false
not_true true h = absurd (h refl)
not_true false h = refl

frame_else : (file : List ℕ) (f n : ℕ) → IsOnlyEhFrame file f → n < section_count file → (n ≡ f → ⊥) → is_eh_frame file n ≡ false
frame_else file f n h below other = not_true (is_eh_frame file n) (λ e. other (h.only n below e))

is_below : (file : List ℕ) (f n : ℕ) → is_rel file ≡ false → IsOnlyEhFrame file f → n ≤ section_count file → IsBelow file f n
is_below file f zero rel h within =
    let none_yet : read_size_below file 0 ≡ 0 = start file in
    record { before = λ _. none_yet; most = omega (arith, none_yet) }
is_below file f (suc n) rel h within =
    let ih = is_below file f n rel h (omega (arith, within)) in
    let more = after file n in
    elim (cases_lt n f) [
      | inl less ↦
          let none_here : read_size file n ≡ 0 = size_none file n rel (frame_else file f n h (omega (arith, within)) (λ e. omega (arith, e, less))) in
          let so_far : read_size_below file n ≡ 0 = ih.before (omega (arith, less)) in
          let sum : read_size_below file (suc n) ≡ 0 = omega (arith, more, none_here, so_far) in
          record { before = λ _. sum; most = omega (arith, sum) }
      | inr not_less ↦
          elim (cases_lt f n) [
            | inl past ↦
                let none_here : read_size file n ≡ 0 = size_none file n rel (frame_else file f n h (omega (arith, within)) (λ e. omega (arith, e, past))) in
                let so_far = ih.most in
                let sum : read_size_below file (suc n) ≤ length (section_bytes file f) = omega (arith, more, none_here, so_far) in
                record { before = λ short. absurd (omega (arith, short, past)); most = sum }
            | inr not_past ↦
                let same : n ≡ f = omega (arith, not_less, not_past) in
                let so_far : read_size_below file n ≡ 0 = ih.before (omega (arith, same)) in
                let here : read_size file n ≤ length (section_bytes file f) = subst (λ (k : ℕ). read_size file n ≤ length (section_bytes file k)) same (size_most file n) in
                let sum : read_size_below file (suc n) ≤ length (section_bytes file f) = omega (arith, more, so_far, here) in
                record { before = λ short. absurd (omega (arith, short, same)); most = sum }
          ]
    ]

room_passes : (file : List ℕ) (f i : ℕ) → is_rel file ≡ false → IsOnlyEhFrame file f → i < section_count file → room_check file i ≡ Ok tt
unfolding room_check
room_passes file f i rel h below =
    let most = (is_below file f (suc i) rel h (omega (arith, below))).most in
    let short = bytes_short file f in
    ap (λ (b : Bool). unless b (OutOfFile (section_header file i))) (le-leb _ _ (omega (arith, most, short)))

-- ---- compressed
no_or : (a b : Bool) → b ≡ false → (a || b) ≡ true → a ≡ true
no_or true b h k = refl
no_or false b h k = absurd (cc (sym h ∙ k))

two_none : (a b : Bool) → a ≡ false → b ≡ false → (a || b) ≡ false
two_none true b h k = absurd (cc h)
two_none false b h k = k

only_itself : (file : List ℕ) (j i : ℕ) → is_rel file ≡ false → IsUsedBy file j i → (i ≡ j) × (is_eh_frame file j ≡ true)
only_itself file j i rel used =
    let linking : (is_used_rela file j || is_group file j) ≡ false = two_none (is_used_rela file j) (is_group file j) (no_rela file j rel) (no_group file j rel) in
    elim used [
      | inl itself ↦ (itself.0, no_or (is_eh_frame file j) (is_used_rela file j || is_group file j) linking itself.1)
      | inr others ↦ elim others [
        | inl table ↦ absurd (cc (sym linking ∙ table.1))
        | inr strings ↦ absurd (cc (sym (no_group file j rel) ∙ strings.1))
      ]
    ]

by_answer : (file : List ℕ) (f : ℕ) (check : ElfCheck) → is_rel file ≡ false → IsOnlyEhFrame file f → is_compressed file f ≡ false → NoneIsCompressed file check → check ≡ Ok tt
by_answer file f (Ok u) rel h plain answer = refl
by_answer file f (Err e) rel h plain answer =
    let first = answer.2 in
    let itself = only_itself file first.used.by answer.0 rel first.used.used in
    let is : first.used.by ≡ f = h.only first.used.by first.used.within itself.1 in
    let there : is_compressed file f ≡ true = ap (is_compressed file) (sym (itself.0 ∙ is)) ∙ first.compressed in
    absurd (cc (sym plain ∙ there))

compressed_passes : (file : List ℕ) (f : ℕ) → is_rel file ≡ false → IsOnlyEhFrame file f → is_compressed file f ≡ false → compressed_check file ≡ Ok tt
compressed_passes file f rel h plain = by_answer file f (compressed_check file) rel h plain (none_is_compressed file)

-- ---- all
-- what was found of the file
pub record PassesByParts (file : List ℕ) (f : ℕ) : Type 0 where
  pub head : IsLinkedHead file
  pub headers : (header_fields file).e_shoff + 64 * section_count file ≤ length file
  pub some : 0 < section_count file
  pub bytes : each_below (section_count file) (bytes_check file) ≡ Ok tt
  pub table : is_string_table file (name_table file) ≡ true
  pub names : each_below (section_count file) (name_check file) ≡ Ok tt
  pub only : IsOnlyEhFrame file f
  pub plain : is_compressed file f ≡ false

first_is : (file : List ℕ) → first_section_check file ≡ (unless ((header_fields file).e_shentsize == 64) (EntrySize 58) >> unless (has_first_section file) (OutOfFile 40))
unfolding first_section_check
first_is file = refl

has_first : (file : List ℕ) → ((header_fields file).e_shoff == 0) ≡ false → (header_fields file).e_shoff + 64 ≤ length file → has_first_section file ≡ true
unfolding has_first_section
has_first file some within =
    ap (λ (b : Bool). not b && lies_in (length file) (header_fields file).e_shoff 1 64) some
    ∙ le-leb _ _ (omega (arith, within))

any_test : (b : Bool) (c : ElfCheck) → c ≡ Ok tt → where_so b c ≡ Ok tt
any_test true c h = h
any_test false c h = refl

table_passes : (file : List ℕ) (f : ℕ) → PassesByParts file f → table_check file ≡ Ok tt
unfolding table_check
table_passes file f h =
    let first : first_section_check file ≡ Ok tt =
    first_is file
    ∙ ap (λ (n : ℕ). unless (n == 64) (EntrySize 58) >> unless (has_first_section file) (OutOfFile 40)) h.head.entry
    ∙ ap (λ (b : Bool). unless b (OutOfFile 40)) (has_first file h.head.place (let a = h.headers in let b = h.some in omega (arith, a, b)))
    in
    any_test (needs_sections file) (first_section_check file) first

sections_passes : (file : List ℕ) (f : ℕ) → PassesByParts file f → sections_check file ≡ Ok tt
unfolding sections_check
sections_passes file f h =
    ap (λ (b : Bool). unless b (OutOfFile 40) >> each_below (section_count file) (bytes_check file)) (le-leb _ _ h.headers)
    ∙ h.bytes

names_passes : (file : List ℕ) (f : ℕ) → PassesByParts file f → names_check file ≡ Ok tt
unfolding names_check
names_passes file f h =
    let inner = ap (λ (b : Bool). unless b (Strings 62) >> each_below (section_count file) (name_check file)) h.table ∙ h.names in
    any_test (has_names file) _ inner

used_passes : (file : List ℕ) (f : ℕ) → PassesByParts file f → used_check file ≡ Ok tt
unfolding used_check
used_passes file f h =
    let rel : is_rel file ≡ false = h.head.no_object in
    let count = section_count file in
    let a = all_passes (section_count file) (rela_check file) (λ i below. rela_passes file rel i) in
    let b = all_passes (section_count file) (room_check file) (λ i below. room_passes file f i rel h.only below) in
    let c = all_passes (section_count file) (group_check file) (λ i below. group_passes file rel i) in
    let d = compressed_passes file f rel h.only h.plain in
    let e = all_passes (section_count file) (entries_check file) (λ i below. entries_passes file rel i) in
    five _ _ _ _ _ a b c d e
  where
    five : (a b c d e : ElfCheck) → a ≡ Ok tt → b ≡ Ok tt → c ≡ Ok tt → d ≡ Ok tt → e ≡ Ok tt → (a >> b >> c >> d >> e) ≡ Ok tt
    five a b c d e p q r s t = rw (p, q, r, s, t) refl

content_passes : (file : List ℕ) (f : ℕ) → PassesByParts file f → content_check file ≡ Ok tt
unfolding content_check
content_passes file f h =
    ap (λ (b : Bool). cond b (core_check file) (sections_check file >> names_check file >> used_check file)) h.head.no_core
    ∙ three _ _ _ (sections_passes file f h) (names_passes file f h) (used_passes file f h)
  where
    three : (a b c : ElfCheck) → a ≡ Ok tt → b ≡ Ok tt → c ≡ Ok tt → (a >> b >> c) ≡ Ok tt
    three a b c p q r = rw (p, q, r) refl

in_turn_passes : (file : List ℕ) (f : ℕ) → PassesByParts file f → checks_in_turn file ≡ Ok tt
unfolding checks_in_turn
in_turn_passes file f h = four _ _ _ _ h.head.identity h.head.purpose (table_passes file f h) (content_passes file f h)
  where
    four : (a b c d : ElfCheck) → a ≡ Ok tt → b ≡ Ok tt → c ≡ Ok tt → d ≡ Ok tt → (a >> b >> c >> d) ≡ Ok tt
    four a b c d p q r s = rw (p, q, r, s) refl

pub file_passes : (file : List ℕ) (f : ℕ) → PassesByParts file f → file_check file ≡ Ok tt
file_passes file f h = file_check_is file ∙ in_turn_passes file f h
