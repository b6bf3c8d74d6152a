-- The table of what is asked of a file has the fault of the checks in turn.
use Rattle.std.specs.Prelude.{◌==◌, ◌&&◌, ◌||◌, not, nat_lt, nat_le, filter, flat_map, fold, sum_by, option_to_list}
use Rattle.std.proofs.Common.{◌≡◌, ℕ, zero, suc, ◌+◌, ◌*◌, ◌%◌, Bool, true, false, cond, List, [], ◌∷◌, ◌++◌, length, map, Option, Some, None, Result, Ok, Err, refl, sym, ap, ◌∙◌, arith}
use Rattle.std.proofs.lemmas.List.{append-nil, map-append}
use Rattle.std.proofs.lemmas.List.Elements.{filter-append}
use Rattle.std.proofs.lemmas.List.Sums.{fold-append}
use Rattle.std.proofs.lemmas.Grind.{flat_map-append}
use Rattle.elf_read.specs.declared.fault.ElfFault.{ElfFault}
use Rattle.elf_read.specs.declared.fault.ElfFault.TheVariants.{Short, NotElf, Class, Order, Version, Machine, Kind, EntrySize, Strings, OutOfFile, Compressed, SymbolIndex}
use Rattle.elf_read.specs.Checking.{unless, where_so, ◌>>◌, each_below, numbers_below, first_broken}
use Rattle.elf_read.specs.Checks.{ElfCheck, is_string_table, identity_check, purpose_check, needs_sections, has_first_section, first_section_check, segment_check, core_check, bytes_check, sections_check, name_check, has_names, names_check}
use Rattle.elf_read.specs.Header.{header_fields, is_core, program_header, p_offset, p_filesz}
use Rattle.elf_read.specs.Number.{lies_in, has_text}
use Rattle.elf_read.specs.InTurn.{used_check, table_check, content_check, checks_in_turn}
use Rattle.elf_read.specs.Parsing.{identity_rules, first_section_rules, core_rules, section_rules, name_rules, rela_rules, room_rules, group_rules, used_by, lowest, compressed_rules, entry_rules, file_rules, file_check, sections}
use Rattle.elf_read.specs.TotalSize.{is_read, read_size, read_size_below, room_check}
use Rattle.elf_read.specs.Sections.{section_header, section_fields, symbol_fields, rela_fields, section_bytes, section_count, segment_total, has_bytes, name_table, is_compressed, is_eh_frame, group_member, member_count, entry_count}
use Rattle.elf_read.specs.Used.{is_used_rela, is_group, is_symbol_table, is_entry_table, rela_tables, rela_check, is_word_table, is_symbol, has_signature, group_tables, member_check, members_check, group_check, least, if_compressed, compressed_by, least_compressed, refused_compressed, compressed_check, is_sound_symbol, entry_check, entries_check}

abbrev Checked : Type 0 → Type 0
Checked E = Result (Unit {0}) E

-- ---- checks in turn
assoc : {E : Type 0} (a b c : Checked E) → (a >> b >> c) ≡ (a >> (b >> c))
assoc (Ok u) b c = refl
assoc (Err e) b c = refl

alone : {E : Type 0} (a : Checked E) → (a >> Ok tt) ≡ a
alone (Ok u) = refl
alone (Err e) = refl

two : {E : Type 0} (a b : Checked E) → (a >> (b >> Ok tt)) ≡ (a >> b)
two (Ok u) b = alone b
two (Err e) b = refl

three : {E : Type 0} (a b c : Checked E) → (a >> (b >> (c >> Ok tt))) ≡ (a >> b >> c)
three (Ok u) b c = two b c
three (Err e) b c = refl

-- the six of the identification, and the two of the purpose
purpose : {E : Type 0} (f g h : Checked E) → (f >> (g >> (h >> Ok tt))) ≡ (f >> (g >> h))
purpose (Ok u) g h = two g h
purpose (Err e) g h = refl

four : {E : Type 0} (e f g h : Checked E) → (e >> (f >> (g >> (h >> Ok tt)))) ≡ (e >> f >> (g >> h))
four (Ok u) f g h = purpose f g h
four (Err e) f g h = refl

five : {E : Type 0} (d e f g h : Checked E) → (d >> (e >> (f >> (g >> (h >> Ok tt))))) ≡ (d >> e >> f >> (g >> h))
five (Ok u) e f g h = four e f g h
five (Err x) e f g h = refl

six : {E : Type 0} (c d e f g h : Checked E) → (c >> (d >> (e >> (f >> (g >> (h >> Ok tt)))))) ≡ (c >> d >> e >> f >> (g >> h))
six (Ok u) d e f g h = five d e f g h
six (Err x) d e f g h = refl

seven : {E : Type 0} (b c d e f g h : Checked E) → (b >> (c >> (d >> (e >> (f >> (g >> (h >> Ok tt))))))) ≡ (b >> c >> d >> e >> f >> (g >> h))
seven (Ok u) c d e f g h = six c d e f g h
seven (Err x) c d e f g h = refl

eight : {E : Type 0} (a b c d e f g h : Checked E) → (a >> (b >> (c >> (d >> (e >> (f >> (g >> (h >> Ok tt)))))))) ≡ (a >> b >> c >> d >> e >> f >> (g >> h))
eight (Ok u) b c d e f g h = seven b c d e f g h
eight (Err x) b c d e f g h = refl

-- and others after them
four_on : {E : Type 0} (b c d e : Checked E) → (b >> (c >> (d >> e))) ≡ (b >> c >> d >> e)
four_on (Ok u) c d e = sym (assoc c d e)
four_on (Err x) c d e = refl

five_on : {E : Type 0} (a b c d e : Checked E) → (a >> (b >> (c >> (d >> e)))) ≡ (a >> b >> c >> d >> e)
five_on (Ok u) b c d e = four_on b c d e
five_on (Err x) b c d e = refl

six_on : {E : Type 0} (a b c d e f : Checked E) → (a >> (b >> (c >> (d >> (e >> f))))) ≡ (a >> b >> c >> d >> e >> f)
six_on (Ok u) b c d e f = five_on b c d e f
six_on (Err x) b c d e f = refl

two_and_five : {E : Type 0} (a b c d e f g : Checked E) → (a >> b >> c >> d >> e >> f >> g) ≡ (a >> b >> (c >> d >> e >> f >> g))
two_and_five (Ok u) (Ok v) c d e f g = refl
two_and_five (Ok u) (Err x) c d e f g = refl
two_and_five (Err x) b c d e f g = refl

-- ---- rows
joined : {E : Type 0} (xs ys : List (Bool × E)) → first_broken (xs ++ ys) ≡ (first_broken xs >> first_broken ys)
joined [] ys = refl
joined {E = E} (x ∷ xs) ys = ap (λ (c : Checked E). unless x.0 x.1 >> c) (joined xs ys) ∙ sym (assoc (unless x.0 x.1) (first_broken xs) (first_broken ys))

at_test : {E : Type 0} (b : Bool) (xs : List (Bool × E)) → first_broken (cond b xs []) ≡ where_so b (first_broken xs)
at_test true xs = refl
at_test false xs = refl

either : {E : Type 0} (b : Bool) (xs ys : List (Bool × E)) → first_broken (cond b xs ys) ≡ cond b (first_broken xs) (first_broken ys)
either true xs ys = refl
either false xs ys = refl

-- a row of each number
mapped : {E : Type 0} (n : ℕ) (row : ℕ → Bool × E) → first_broken (map row (numbers_below n)) ≡ each_below n (λ i. unless (row i).0 (row i).1)
unfolding numbers_below each_below
mapped zero row = refl
mapped {E = E} (suc n) row =
    ap first_broken (map-append row (numbers_below n) (n ∷ []))
    ∙ joined (map row (numbers_below n)) (row n ∷ [])
    ∙ ap (λ (c : Checked E). c >> first_broken (row n ∷ [])) (mapped n row)
    ∙ ap (λ (c : Checked E). each_below n (λ i. unless (row i).0 (row i).1) >> c) (alone (unless (row n).0 (row n).1))

-- a row of each number that passes a test
mapped_where : {E : Type 0} (n : ℕ) (p : ℕ → Bool) (row : ℕ → Bool × E) → first_broken (map row (filter p (numbers_below n))) ≡ each_below n (λ i. where_so (p i) (unless (row i).0 (row i).1))
unfolding numbers_below each_below
mapped_where zero p row = refl
mapped_where {E = E} (suc n) p row =
    ap (λ (xs : List ℕ). first_broken (map row xs)) (filter-append p (numbers_below n) (n ∷ []))
    ∙ ap first_broken (map-append row (filter p (numbers_below n)) (filter p (n ∷ [])))
    ∙ joined (map row (filter p (numbers_below n))) (map row (filter p (n ∷ [])))
    ∙ ap (λ (c : Checked E). c >> first_broken (map row (filter p (n ∷ [])))) (mapped_where n p row)
    ∙ ap (λ (c : Checked E). each_below n (λ i. where_so (p i) (unless (row i).0 (row i).1)) >> c) (last (p n))
  where
    last : (b : Bool) → first_broken (map row (cond b (n ∷ []) [])) ≡ where_so b (unless (row n).0 (row n).1)
    last true = alone (unless (row n).0 (row n).1)
    last false = refl

-- rows of each number that passes a test
several_where : {E : Type 0} (n : ℕ) (p : ℕ → Bool) (rows : ℕ → List (Bool × E)) → first_broken (flat_map rows (filter p (numbers_below n))) ≡ each_below n (λ i. where_so (p i) (first_broken (rows i)))
unfolding numbers_below each_below
several_where zero p rows = refl
several_where {E = E} (suc n) p rows =
    ap (λ (xs : List ℕ). first_broken (flat_map rows xs)) (filter-append p (numbers_below n) (n ∷ []))
    ∙ ap first_broken (flat_map-append rows (filter p (numbers_below n)) (filter p (n ∷ [])))
    ∙ joined (flat_map rows (filter p (numbers_below n))) (flat_map rows (filter p (n ∷ [])))
    ∙ ap (λ (c : Checked E). c >> first_broken (flat_map rows (filter p (n ∷ [])))) (several_where n p rows)
    ∙ ap (λ (c : Checked E). each_below n (λ i. where_so (p i) (first_broken (rows i))) >> c) (last (p n))
  where
    last : (b : Bool) → first_broken (flat_map rows (cond b (n ∷ []) [])) ≡ where_so b (first_broken (rows n))
    last true = ap first_broken (append-nil (rows n))
    last false = refl

agree : {E : Type 0} (n : ℕ) (f g : ℕ → Checked E) → ((i : ℕ) → f i ≡ g i) → each_below n f ≡ each_below n g
unfolding each_below
agree zero f g h = refl
agree {E = E} (suc n) f g h =
    ap (λ (c : Checked E). c >> f n) (agree n f g h)
    ∙ ap (λ (c : Checked E). each_below n g >> c) (h n)

-- ---- the headers
identity_is : (file : List ℕ) → first_broken (identity_rules (length file) (header_fields file)) ≡ (identity_check file >> purpose_check file)
unfolding identity_check purpose_check header_fields
identity_is file =
    let h = header_fields file in
    eight (unless (nat_le 64 (length file)) (Short (length file))) (unless (h.ei_mag == 0x464c457f) (NotElf 0)) (unless (h.ei_class == 2) (Class 4))
    (unless (h.ei_data == 1) (Order 5)) (unless (h.ei_version == 1) (Version 6)) (unless (h.e_version == 1) (Version 20))
    (unless ((h.e_machine == 62) || (h.e_machine == 183)) (Machine 18)) (unless (nat_le 1 h.e_type && nat_le h.e_type 4) (Kind 16))

table_is : (file : List ℕ) → first_broken (first_section_rules (length file) (header_fields file)) ≡ table_check file
unfolding table_check needs_sections first_section_check has_first_section
table_is file =
    let h = header_fields file in
    let entry = unless (h.e_shentsize == 64) (EntrySize 58) in
    let first = unless (not (h.e_shoff == 0) && lies_in (length file) h.e_shoff 1 64) (OutOfFile 40) in
    at_test (needs_sections file) ((h.e_shentsize == 64, EntrySize 58) ∷ (not (h.e_shoff == 0) && lies_in (length file) h.e_shoff 1 64, OutOfFile 40) ∷ [])
    ∙ ap (where_so (needs_sections file)) (two entry first)

core_is : (file : List ℕ) → first_broken (core_rules file) ≡ core_check file
unfolding core_check segment_check
core_is file =
    let headers = unless ((segment_total file == 0) || ((header_fields file).e_phentsize == 56)) (EntrySize 54) in
    let lies = unless (lies_in (length file) (header_fields file).e_phoff (segment_total file) 56) (OutOfFile 32) in
    ap (λ (c : ElfCheck). headers >> (lies >> c))
    (mapped (segment_total file) (λ i. (lies_in (length file) (p_offset file i) (p_filesz file i) 1, OutOfFile (program_header file i))))
    ∙ sym (assoc headers lies (each_below (segment_total file) (segment_check file)))

sections_are : (file : List ℕ) → first_broken (section_rules file) ≡ sections_check file
unfolding sections_check bytes_check
sections_are file =
    ap (λ (c : ElfCheck). unless (lies_in (length file) (header_fields file).e_shoff (section_count file) 64) (OutOfFile 40) >> c)
    (mapped_where (section_count file) (has_bytes file) (λ i. (lies_in (length file) (section_fields file i).sh_offset (section_fields file i).sh_size 1, OutOfFile (section_header file i))))

names_are : (file : List ℕ) → first_broken (name_rules file) ≡ names_check file
unfolding names_check has_names name_check
names_are file =
    let row : ℕ → Bool × ElfFault = λ i. (has_text (section_fields file i).sh_name (section_bytes file (name_table file)), Strings (section_header file i)) in
    at_test (has_names file) ((is_string_table file (name_table file), Strings 62) ∷ map row (sections file))
    ∙ ap (λ (c : ElfCheck). where_so (has_names file) (unless (is_string_table file (name_table file)) (Strings 62) >> c)) (mapped (section_count file) row)

-- ---- the sections that are used
rela_is : (file : List ℕ) (i : ℕ) → where_so (is_used_rela file i) (first_broken (rela_rules file i)) ≡ rela_check file i
unfolding rela_check rela_tables
rela_is file i =
    let symbols = (section_fields file i).sh_link in
    ap (where_so (is_used_rela file i))
    (three (unless (is_symbol_table file symbols) (SymbolIndex (section_header file i))) (unless (is_entry_table file i) (EntrySize (section_header file i)))
    (unless (is_entry_table file symbols) (EntrySize (section_header file symbols))))

relas_are : (file : List ℕ) → first_broken (flat_map (rela_rules file) (filter (is_used_rela file) (sections file))) ≡ each_below (section_count file) (rela_check file)
relas_are file =
    several_where (section_count file) (is_used_rela file) (rela_rules file)
    ∙ agree (section_count file) (λ i. where_so (is_used_rela file i) (first_broken (rela_rules file i))) (rela_check file) (rela_is file)

sizes_are : (file : List ℕ) (n : ℕ) → sum_by (λ j. length (section_bytes file j)) (filter (is_read file) (numbers_below n)) ≡ read_size_below file n
unfolding numbers_below read_size_below read_size
sizes_are file zero = refl
sizes_are file (suc n) =
    ap (sum_by size) (filter-append (is_read file) (numbers_below n) (n ∷ []))
    ∙ fold-append (λ (a j : ℕ). a + size j) 0 (filter (is_read file) (numbers_below n)) (filter (is_read file) (n ∷ []))
    ∙ last (is_read file n) (sum_by size (filter (is_read file) (numbers_below n)))
    ∙ ap (λ (m : ℕ). m + read_size file n) (sizes_are file n)
  where
    size : ℕ → ℕ
    size j = length (section_bytes file j)

    last : (b : Bool) (before : ℕ) → fold (λ (a j : ℕ). a + size j) before (cond b (n ∷ []) []) ≡ before + cond b (length (section_bytes file n)) 0
    last true before = refl
    last false before = omega arith

abbrev fits : List ℕ → ℕ → Bool
fits file i = nat_le (sum_by (λ j. length (section_bytes file j)) (filter (is_read file) (numbers_below (suc i)))) (length file)

room_is : (file : List ℕ) (i : ℕ) → unless (fits file i) (OutOfFile (section_header file i)) ≡ room_check file i
unfolding room_check
room_is file i = ap (λ (n : ℕ). unless (nat_le n (length file)) (OutOfFile (section_header file i))) (sizes_are file (suc i))

rooms_are : (file : List ℕ) → first_broken (room_rules file) ≡ each_below (section_count file) (room_check file)
rooms_are file =
    mapped (section_count file) (λ i. (fits file i, OutOfFile (section_header file i)))
    ∙ agree (section_count file) (λ i. unless (fits file i) (OutOfFile (section_header file i))) (room_check file) (room_is file)

group_is : (file : List ℕ) (i : ℕ) → where_so (is_group file i) (first_broken (group_rules file i)) ≡ group_check file i
unfolding group_check group_tables members_check member_check is_word_table is_symbol has_signature
group_is file i =
    let group = section_fields file i in
    let strings = (section_fields file group.sh_link).sh_link in
    let words = unless ((group.sh_size % 4 == 0) && not (group.sh_size == 0)) (EntrySize (section_header file i)) in
    let symbols = unless (is_symbol_table file group.sh_link) (SymbolIndex (section_header file i)) in
    let entries = unless (is_entry_table file group.sh_link) (EntrySize (section_header file group.sh_link)) in
    let symbol = unless (nat_lt group.sh_info (entry_count file group.sh_link)) (SymbolIndex (section_header file i)) in
    let name = unless (is_string_table file strings && has_text (symbol_fields file group.sh_link group.sh_info).st_name (section_bytes file strings)) (Strings (section_header file i)) in
    ap (where_so (is_group file i))
    (ap (λ (c : ElfCheck). words >> (symbols >> (entries >> (symbol >> (name >> c)))))
    (mapped (member_count file i) (λ k. (nat_lt (group_member file i k) (section_count file), SymbolIndex (group.sh_offset + (4 * k + 4)))))
    ∙ six_on words symbols entries symbol name (each_below (member_count file i) (member_check file i)))

groups_are : (file : List ℕ) → first_broken (flat_map (group_rules file) (filter (is_group file) (sections file))) ≡ each_below (section_count file) (group_check file)
groups_are file =
    several_where (section_count file) (is_group file) (group_rules file)
    ∙ agree (section_count file) (λ i. where_so (is_group file i) (first_broken (group_rules file i))) (group_check file) (group_is file)

entry_is : (file : List ℕ) (i : ℕ) → where_so (is_used_rela file i) (first_broken (entry_rules file i)) ≡ entries_check file i
unfolding entries_check entry_check is_sound_symbol is_symbol
entry_is file i =
    let symbols = (section_fields file i).sh_link in
    ap (where_so (is_used_rela file i))
    (mapped (entry_count file i) (λ k.
    let symbol = (rela_fields file i k).r_sym in
    let index = (symbol_fields file symbols symbol).st_shndx in
    (nat_lt symbol (entry_count file symbols) && (nat_le 0xff00 index || nat_lt index (section_count file)), SymbolIndex ((section_fields file i).sh_offset + 24 * k))))

entries_are : (file : List ℕ) → first_broken (flat_map (entry_rules file) (filter (is_used_rela file) (sections file))) ≡ each_below (section_count file) (entries_check file)
entries_are file =
    several_where (section_count file) (is_used_rela file) (entry_rules file)
    ∙ agree (section_count file) (λ i. where_so (is_used_rela file i) (first_broken (entry_rules file i))) (entries_check file) (entry_is file)

-- ---- the lowest compressed section
least-assoc : (a b c : Option ℕ) → least a (least b c) ≡ least (least a b) c
least-assoc None b c = refl
least-assoc (Some a) None c = refl
least-assoc (Some a) (Some b) None = refl
least-assoc (Some a) (Some b) (Some c) = ap Some (omega arith)

lowest-append : (xs ys : List ℕ) → lowest (xs ++ ys) ≡ least (lowest xs) (lowest ys)
lowest-append [] ys = refl
lowest-append (x ∷ xs) ys = ap (least (Some x)) (lowest-append xs ys) ∙ least-assoc (Some x) (lowest xs) (lowest ys)

one_used : (file : List ℕ) (used : Bool) (i : ℕ) → lowest (filter (is_compressed file) (cond used (i ∷ []) [])) ≡ if_compressed file used i
unfolding if_compressed
one_used file false i = refl
one_used file true i = at (is_compressed file i)
  where
    at : (b : Bool) → lowest (cond b (i ∷ []) []) ≡ cond b (Some i) None
    at true = refl
    at false = refl

lowest_of_both : (file xs ys : List ℕ) → lowest (filter (is_compressed file) (xs ++ ys)) ≡ least (lowest (filter (is_compressed file) xs)) (lowest (filter (is_compressed file) ys))
lowest_of_both file xs ys = ap lowest (filter-append (is_compressed file) xs ys) ∙ lowest-append (filter (is_compressed file) xs) (filter (is_compressed file) ys)

by_one : (file : List ℕ) (i : ℕ) → lowest (filter (is_compressed file) (used_by file i)) ≡ compressed_by file i
unfolding compressed_by is_read
by_one file i =
    let link = (section_fields file i).sh_link in
    let strings = (section_fields file link).sh_link in
    let itself = is_eh_frame file i || (is_used_rela file i || is_group file i) in
    let linking = is_used_rela file i || is_group file i in
    let one = cond itself (i ∷ []) [] in
    let table = cond linking (link ∷ []) [] in
    let last = cond (is_group file i) (strings ∷ []) [] in
    let least_of : List ℕ → Option ℕ = λ xs. lowest (filter (is_compressed file) xs) in
    lowest_of_both file (one ++ table) last
    ∙ ap (λ (o : Option ℕ). least o (least_of last)) (lowest_of_both file one table)
    ∙ sym (least-assoc (least_of one) (least_of table) (least_of last))
    ∙ ap (λ (o : Option ℕ). least o (least (least_of table) (least_of last))) (one_used file itself i)
    ∙ ap (λ (o : Option ℕ). least (if_compressed file itself i) (least o (least_of last))) (one_used file linking link)
    ∙ ap (λ (o : Option ℕ). least (if_compressed file itself i) (least (if_compressed file linking link) o)) (one_used file (is_group file i) strings)

lowest_is : (file : List ℕ) (n : ℕ) → lowest (filter (is_compressed file) (flat_map (used_by file) (numbers_below n))) ≡ least_compressed file n
unfolding numbers_below least_compressed
lowest_is file zero = refl
lowest_is file (suc n) =
    ap (λ (xs : List ℕ). lowest (filter (is_compressed file) xs)) (flat_map-append (used_by file) (numbers_below n) (n ∷ []))
    ∙ lowest_of_both file (flat_map (used_by file) (numbers_below n)) (used_by file n ++ [])
    ∙ ap (λ (o : Option ℕ). least o (lowest (filter (is_compressed file) (used_by file n ++ [])))) (lowest_is file n)
    ∙ ap (λ (xs : List ℕ). least (least_compressed file n) (lowest (filter (is_compressed file) xs))) (append-nil (used_by file n))
    ∙ ap (least (least_compressed file n)) (by_one file n)

named : (file : List ℕ) (o : Option ℕ) → first_broken (map (λ i. (false, Compressed (section_header file i))) (option_to_list o)) ≡ refused_compressed file o
named file None = refl
named file (Some i) = refl

pub compressed_is : (file : List ℕ) → first_broken (compressed_rules file) ≡ compressed_check file
unfolding compressed_check
compressed_is file =
    named file (lowest (filter (is_compressed file) (flat_map (used_by file) (sections file))))
    ∙ ap (refused_compressed file) (lowest_is file (section_count file))

-- ---- all rows
seven_lists : (a b c d e f g : List (Bool × ElfFault)) → first_broken (a ++ b ++ c ++ d ++ e ++ f ++ g) ≡ (first_broken a >> first_broken b >> (first_broken c >> first_broken d >> first_broken e >> first_broken f >> first_broken g))
seven_lists a b c d e f g =
    joined (a ++ b ++ c ++ d ++ e ++ f) g
    ∙ ap (λ (x : ElfCheck). x >> first_broken g) (joined (a ++ b ++ c ++ d ++ e) f
    ∙ ap (λ (x : ElfCheck). x >> first_broken f) (joined (a ++ b ++ c ++ d) e
    ∙ ap (λ (x : ElfCheck). x >> first_broken e) (joined (a ++ b ++ c) d
    ∙ ap (λ (x : ElfCheck). x >> first_broken d) (joined (a ++ b) c
    ∙ ap (λ (x : ElfCheck). x >> first_broken c) (joined a b)))))
    ∙ two_and_five (first_broken a) (first_broken b) (first_broken c) (first_broken d) (first_broken e) (first_broken f) (first_broken g)

abbrev others_of : List ℕ → List (Bool × ElfFault)
others_of file =
    section_rules file
    ++ name_rules file
    ++ flat_map (rela_rules file) (filter (is_used_rela file) (sections file))
    ++ room_rules file
    ++ flat_map (group_rules file) (filter (is_group file) (sections file))
    ++ compressed_rules file
    ++ flat_map (entry_rules file) (filter (is_used_rela file) (sections file))

others_are : (file : List ℕ) → first_broken (others_of file) ≡ (sections_check file >> names_check file >> used_check file)
unfolding used_check
others_are file =
    seven_lists (section_rules file) (name_rules file) (flat_map (rela_rules file) (filter (is_used_rela file) (sections file))) (room_rules file)
    (flat_map (group_rules file) (filter (is_group file) (sections file))) (compressed_rules file) (flat_map (entry_rules file) (filter (is_used_rela file) (sections file)))
    ∙ rw (sections_are file, names_are file, relas_are file, rooms_are file, groups_are file, compressed_is file, entries_are file) refl

pub file_check_is : (file : List ℕ) → file_check file ≡ checks_in_turn file
unfolding file_check file_rules checks_in_turn content_check
file_check_is file =
    let first = first_section_rules (length file) (header_fields file) in
    let others = others_of file in
    let content = cond (is_core file) (core_rules file) others in
    joined (identity_rules (length file) (header_fields file) ++ first) content
    ∙ ap (λ (c : ElfCheck). c >> first_broken content)
    (joined (identity_rules (length file) (header_fields file)) first
    ∙ ap (λ (c : ElfCheck). c >> first_broken first) (identity_is file)
    ∙ ap (λ (c : ElfCheck). identity_check file >> purpose_check file >> c) (table_is file))
    ∙ ap (λ (c : ElfCheck). identity_check file >> purpose_check file >> table_check file >> c)
    (either (is_core file) (core_rules file) others
    ∙ ap (λ (c : ElfCheck). cond (is_core file) c (first_broken others)) (core_is file)
    ∙ ap (λ (c : ElfCheck). cond (is_core file) (core_check file) c) (others_are file))
