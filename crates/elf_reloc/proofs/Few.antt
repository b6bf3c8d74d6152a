-- A file has room for fewer than 2^32 relocations of one section.
use Rattle.std.specs.Prelude.{◌&&◌, ◌==◌}
use Rattle.std.proofs.Common.{◌≡◌, ℕ, zero, suc, ◌+◌, ◌*◌, ◌<◌, ◌≤◌, ◌^◌, Bool, true, false, IsTrue, List, [], ◌∷◌, ◌++◌, length, Ok, Err, refl, sym, ap, subst, ◌∙◌, arith, if◌then◌else◌}
use Rattle.elf_read.specs.Header.{is_rel}
use Rattle.elf_read.specs.TotalSize.{read_size, read_size_below, HasRoom}
use Rattle.elf_read.specs.Sections.{section_count, section_fields, entry_count}
use Rattle.elf_read.specs.Used.{names_eh_frame, is_used_rela}
use Rattle.elf_read.proofs.ReadSizes.{read_size_below-none, read_size_below-more}
use Rattle.elf_place.proofs.Numbers.{with_one, filter_none, filter_suc}
use Rattle.elf_place.specs.Relocations.{may_relocate, has_relocations, is_relocation_section, relocation_sections_below, relocation_sections}
use Rattle.elf_reloc.specs.declared.fault.RelocFault.TheVariants.{RelSection}
use Rattle.elf_reloc.specs.Reading.{Relocation, relocations_in, rel_check, has_addends}
use Rattle.elf_reloc.proofs.GoingOn.{relocations_in-length, relocations_in-none}

-- ---- a list of sections to which one is added
relocations_with : (file : List ℕ) (sections : List ℕ) (i : ℕ) → length (relocations_in file (sections ++ i ∷ [])) ≡ length (relocations_in file sections) + entry_count file i
relocations_with file [] i =
    let one = relocations_in-length file i [] in
    let none : length (relocations_in file []) ≡ 0 = ap (λ (rs : List Relocation). length rs) (relocations_in-none file) in
    omega (arith, one, none)
relocations_with file (s ∷ sections) i =
    let all = relocations_in-length file s (sections ++ i ∷ []) in
    let before = relocations_in-length file s sections in
    let rest = relocations_with file sections i in
    omega (arith, all, before, rest)

checked_with : (file : List ℕ) (sections : List ℕ) (i : ℕ) → rel_check file (sections ++ i ∷ []) ≡ Ok tt → (rel_check file sections ≡ Ok tt) × (has_addends file i ≡ true)
unfolding rel_check has_addends
checked_with file [] i h = (refl, at_once (has_addends file i) refl h)
  where
    at_once : (b : Bool) → has_addends file i ≡ b → (if b then rel_check file [] else Err (RelSection i)) ≡ Ok tt → has_addends file i ≡ true
    at_once true is h = is
    at_once false is h = absurd (cc h)
checked_with file (s ∷ sections) i h = after (has_addends file s) refl (checked_with file sections i) h
  where
    after : (b : Bool) → has_addends file s ≡ b → (rel_check file (sections ++ i ∷ []) ≡ Ok tt → (rel_check file sections ≡ Ok tt) × (has_addends file i ≡ true)) → (if b then rel_check file (sections ++ i ∷ []) else Err (RelSection s)) ≡ Ok tt
        → ((if has_addends file s then rel_check file sections else Err (RelSection s)) ≡ Ok tt) × (has_addends file i ≡ true)
    after true is later rest =
        let parts = later rest in
        (ap (λ (b : Bool). if b then rel_check file sections else Err (RelSection s)) is ∙ parts.0, parts.1)
    after false is later rest = absurd (cc rest)

second : (a b c : Bool) → (a && b && c) ≡ true → b ≡ true
second true true c h = refl
second true false c h = absurd (cc h)
second false b c h = absurd (cc h)

both : (a b c : Bool) → a ≡ true → b ≡ true → c ≡ true → (a && b && c) ≡ true
both a b c p q r = rw (p, q, r) refl

holds_rela : (file : List ℕ) (target i : ℕ) → is_rel file ≡ true → has_addends file i ≡ true → is_relocation_section file target i ≡ true → is_used_rela file i ≡ true
unfolding is_used_rela has_addends is_relocation_section has_relocations
holds_rela file target i object addends applied =
    both (is_rel file) ((section_fields file i).sh_type == 4) (names_eh_frame file (section_fields file i).sh_info) object addends
    (second (may_relocate file i) (names_eh_frame file (section_fields file i).sh_info) ((section_fields file i).sh_info == target) applied)

no_sections : (file : List ℕ) (target : ℕ) → length (relocations_in file (relocation_sections_below file target 0)) ≡ 0
no_sections file target =
    ap (λ (ns : List ℕ). length (relocations_in file ns)) (filter_none (is_relocation_section file target))
    ∙ ap (λ (rs : List Relocation). length rs) (relocations_in-none file)

one_more : (file : List ℕ) (target n : ℕ) → relocation_sections_below file target (suc n) ≡ with_one (is_relocation_section file target n) n (relocation_sections_below file target n)
one_more file target n = filter_suc (is_relocation_section file target) n

few_below : (file : List ℕ) (target n : ℕ) → is_rel file ≡ true → HasRoom file → rel_check file (relocation_sections_below file target n) ≡ Ok tt
    → 24 * length (relocations_in file (relocation_sections_below file target n)) ≤ read_size_below file n
few_below file target zero object room checked =
    let none : length (relocations_in file (relocation_sections_below file target 0)) ≡ 0 = no_sections file target in
    let size = read_size_below-none file in
    omega (arith, none, size)
few_below file target (suc n) object room checked =
    added (is_relocation_section file target n) refl (subst (λ (ns : List ℕ). rel_check file ns ≡ Ok tt) (one_more file target n) checked)
    (few_below file target n object room)
  where
    sizes : read_size_below file (suc n) ≡ read_size_below file n + read_size file n
    sizes = let next : n + 1 ≡ suc n = omega arith in ap (read_size_below file) (sym next) ∙ read_size_below-more file n

    whole : (b : Bool) → is_relocation_section file target n ≡ b → length (relocations_in file (relocation_sections_below file target (suc n))) ≡ length (relocations_in file (with_one b n (relocation_sections_below file target n)))
    whole b is = ap (λ (ns : List ℕ). length (relocations_in file ns)) (one_more file target n ∙ ap (λ (b : Bool). with_one b n (relocation_sections_below file target n)) is)

    added : (b : Bool) → is_relocation_section file target n ≡ b → rel_check file (with_one (is_relocation_section file target n) n (relocation_sections_below file target n)) ≡ Ok tt
        → (rel_check file (relocation_sections_below file target n) ≡ Ok tt → 24 * length (relocations_in file (relocation_sections_below file target n)) ≤ read_size_below file n)
        → 24 * length (relocations_in file (relocation_sections_below file target (suc n))) ≤ read_size_below file (suc n)
    added true is h earlier =
        let parts = checked_with file (relocation_sections_below file target n) n (subst (λ (b : Bool). rel_check file (with_one b n (relocation_sections_below file target n)) ≡ Ok tt) is h) in
        let before = earlier parts.0 in
        let here = room.entries n (holds_rela file target n object parts.1 is) in
        let count = relocations_with file (relocation_sections_below file target n) n in
        let all = whole true is in
        omega (arith, sizes, before, here, count, all)
    added false is h earlier =
        let before = earlier (subst (λ (b : Bool). rel_check file (with_one b n (relocation_sections_below file target n)) ≡ Ok tt) is h) in
        let all = whole false is in
        omega (arith, sizes, before, all)

is_so : (b : Bool) → IsTrue b → b ≡ true
is_so true h = refl
is_so false h = absurd (cc h)

pub few : (file : List ℕ) (target : ℕ) → IsTrue (is_rel file) → length file < 2 ^ 32 → HasRoom file → rel_check file (relocation_sections file target) ≡ Ok tt → length (relocations_in file (relocation_sections file target)) < 2 ^ 32
few file target object small room checked =
    let together = room.together (section_count file) (omega arith) in
    let below = few_below file target (section_count file) (is_so (is_rel file) object) room checked in
    omega (arith, small, together, below)
