-- What `merge` comes to: one thing.
use Rattle.std.specs.List.{AllZip, zip}
use Rattle.std.specs.Option.{option_map}
use Rattle.std.proofs.Common.{◌≡◌, ◌<◌, ◌⊎◌, inl, inr, ℕ, List, [], ◌∷◌, ◌++◌, length, All, Option, Some, None, Result, Ok, Err, refl, ap, sym, subst, ◌∙◌, arith, ◌+◌}
use Rattle.std.proofs.lemmas.List.{append_assoc, append-nil, length-map}
use Rattle.std.proofs.lemmas.List.Elements.{All-nil, All-cons, All-head, All-tail}
use Rattle.std.proofs.lemmas.List.Sums.{sum_by-append}
use Rattle.sf_model.specs.declared.function.Func.{Func}
use Rattle.sf_model.specs.declared.machine.Arch.{Arch}
use Rattle.sf_model.specs.Section.{AreBytes}
use Rattle.sf_model.specs.Table.{Table, row_count}
use Rattle.sf_model.specs.Tight.{Narrow, Tight}
use Rattle.sf_model.proofs.TableSame.{table_same}
use Rattle.sf_model.proofs.TightOne.{tight_one}
use Rattle.sf_write.specs.Section.{table_of}
use Rattle.sf_decode.specs.declared.fault.DecodeFault.{DecodeFault}
use Rattle.sf_decode.specs.Decoding.{table_in}
use Rattle.sf_decode.proofs.EntriesRead.{section_stands}
use Rattle.sf_functions.proofs.LimitsHeld.{none_exceeded}
use Rattle.sf_merge.specs.declared.fault.MergeFault.{MergeFault}
use Rattle.sf_merge.specs.Merging.{Merges, functions_in_all, rows_in_all}
use Rattle.sf_merge.proofs.OneOrder.{one_result as one_merge}
use Rattle.sf_merge.proofs.SomeResult.{some_result}
use Rattle.sf_text.specs.Merged.{merged_text}
use Rattle.sf_words.specs.declared.refusal.Limit.{Limit}
use Rattle.sf_words.specs.Items.{Section}
use Rattle.sf_words.specs.Words.{IsSectionWord, SectionWords}
use Rattle.sf_words.proofs.NamedWords.{as_long}
use Rattle.section_commands.specs.declared.made.Outcome.TheVariants.{Done}
use Rattle.section_commands.specs.Coming.{Coming, Exceeded, Makes}
use Rattle.section_commands.specs.Limits.{run_limit, sums_limit}
use Rattle.section_commands.specs.Merge.{AreWithin, GoesOver, IsMerge, IsUnsound, LoadedSection, IsSectionOf, MakesMerge, MergeComes, MergeComesAt, MergeComesFrom, MergeWords, ReadingStops, TablesCome, merge_files, coming_of_merging, item_check}
use Rattle.section_commands.specs.SectionComes.{coming_of_decoding}
use Rattle.section_commands.proofs.ComesToOne.{ComesToOne}
use Rattle.section_commands.proofs.Merged.{ReadingSections, all_read, few_so_far, none_read, one_more_read, over_stops, unsound_stops}
use Rattle.section_commands.proofs.SectionsFit.{IsSaid, some_merged}

-- ---- the limits of the first sections
abbrev AreInLimits : List Table → Type 0
AreInLimits tables = sums_limit tables ≡ None

first_within : (first later : List Table) → AreInLimits (first ++ later) → AreInLimits first
first_within first later h =
    let few = few_so_far (functions_in_all (first ++ later)) (rows_in_all (first ++ later)) h in
    let functions = sum_by-append (λ (table : Table). length table.functions) first later in
    let rows = sum_by-append (λ (table : Table). row_count table.functions) first later in
    ap (option_map run_limit) (none_exceeded (functions_in_all first) (rows_in_all first) (omega (arith, few.0, functions)) (omega (arith, few.1, rows)))

-- ---- one thing at most
one_table : (item : LoadedSection) (one other : Table) → IsSectionOf item one → IsSectionOf item other → one ≡ other
one_table item one other p q = table_same item.1 item.0.at one other p.is q.is

-- no tables within the limits are these and then a table of the first item that is left
abbrev EndsAt : (Within : List Table → Type 0) → List Table → List LoadedSection → Type 0
EndsAt Within tables left = (item : LoadedSection) → (later : List LoadedSection) → left ≡ item ∷ later → (table : Table) → (more : List Table) → IsSectionOf item table → Within (tables ++ table ∷ more) → ⊥

-- two readings of the same items are one, where neither of them goes on
record OneReading (before other : List LoadedSection) (left rest : List LoadedSection) (tables others : List Table) : Type 0 where
  items : before ≡ other
  lefts : left ≡ rest
  tables_are : tables ≡ others

one_reading : (Within : List Table → Type 0) (before other left rest : List LoadedSection) (tables others : List Table) → before ++ left ≡ other ++ rest → AllZip IsSectionOf before tables → AllZip IsSectionOf other others
    → Within tables → Within others → EndsAt Within tables left → EndsAt Within others rest → OneReading before other left rest tables others
one_reading Within [] [] left rest [] [] same p q v w ends stops = record { items = refl; lefts = same; tables_are = refl }
one_reading Within [] [] left rest [] (u ∷ us) same p q v w ends stops = absurd q
one_reading Within [] [] left rest (t ∷ ts) others same p q v w ends stops = absurd p
one_reading Within [] (j ∷ js) left rest [] [] same p q v w ends stops = absurd q
one_reading Within [] (j ∷ js) left rest [] (u ∷ us) same p q v w ends stops = absurd (ends j (js ++ rest) same u us q.0 w)
one_reading Within [] (j ∷ js) left rest (t ∷ ts) others same p q v w ends stops = absurd p
one_reading Within (i ∷ is) [] left rest [] others same p q v w ends stops = absurd p
one_reading Within (i ∷ is) [] left rest (t ∷ ts) [] same p q v w ends stops = absurd (stops i (is ++ left) (sym same) t ts p.0 v)
one_reading Within (i ∷ is) [] left rest (t ∷ ts) (u ∷ us) same p q v w ends stops = absurd q
one_reading Within (i ∷ is) (j ∷ js) left rest [] others same p q v w ends stops = absurd p
one_reading Within (i ∷ is) (j ∷ js) left rest (t ∷ ts) [] same p q v w ends stops = absurd q
one_reading Within (i ∷ is) (j ∷ js) left rest (t ∷ ts) (u ∷ us) same p q v w ends stops =
    let item : i ≡ j = cc in
    let others : is ++ left ≡ js ++ rest = cc in
    let table : t ≡ u = one_table i t u p.0 (subst (λ (k : LoadedSection). IsSectionOf k u) (sym item) q.0) in
    let on = one_reading (λ (tables : List Table). Within (u ∷ tables)) is js left rest ts us others p.1 q.1 (subst (λ (s : Table). Within (s ∷ ts)) table v) w
    (subst (λ (s : Table). EndsAt (λ (tables : List Table). Within (s ∷ tables)) ts left) table ends) stops in
    record {
      items = ap (λ (k : LoadedSection). k ∷ is) item ∙ ap (λ (ks : List LoadedSection). j ∷ ks) on.items;
      lefts = on.lefts;
      tables_are = ap (λ (s : Table). s ∷ ts) table ∙ ap (λ (ss : List Table). u ∷ ss) on.tables_are;
    }

abbrev StopsAt : (number : ℕ) → List Table → LoadedSection → Coming → Type 0
StopsAt number tables item coming = IsUnsound number item coming ⊎ GoesOver tables item coming

stop_ends : (number : ℕ) (tables : List Table) (item : LoadedSection) (later : List LoadedSection) (coming : Coming) → StopsAt number tables item coming → EndsAt AreInLimits tables (item ∷ later)
stop_ends number tables item later coming (inl unsound) next others same table more is within =
    let here : item ≡ next = cc in
    let check = sym unsound.check ∙ ap item_check here ∙ is.checked in
    cc
stop_ends number tables item later coming (inr over) next others same table more is within =
    let here : item ≡ next = cc in
    let tables_are = one_table next over.table table (subst (λ (i : LoadedSection). IsSectionOf i over.table) here over.is) is in
    let earlier = first_within (tables ++ table ∷ []) more (subst AreInLimits (sym (append_assoc tables (table ∷ []) more)) within) in
    let exceeds = subst (λ (t : Table). sums_limit (tables ++ t ∷ []) ≡ Some over.limit) tables_are over.exceeds in
    let none : None ≡ Some over.limit = sym earlier ∙ exceeds in
    cc

none_ends : (tables : List Table) → EndsAt AreInLimits tables []
none_ends tables item later same table more is within = let none : ⊥ = cc in absurd none

one_stop : (number : ℕ) (tables : List Table) (item : LoadedSection) (c d : Coming) → StopsAt number tables item c → StopsAt number tables item d → c ≡ d
one_stop number tables item c d (inl p) (inl q) =
    let faults = sym p.check ∙ q.check in
    let fault : p.fault ≡ q.fault = cc in
    p.comes ∙ ap (coming_of_decoding number) fault ∙ sym q.comes
one_stop number tables item c d (inl p) (inr q) = let checks = sym p.check ∙ q.is.checked in absurd (let none : ⊥ = cc in none)
one_stop number tables item c d (inr p) (inl q) = let checks = sym q.check ∙ p.is.checked in absurd (let none : ⊥ = cc in none)
one_stop number tables item c d (inr p) (inr q) =
    let table : p.table ≡ q.table = one_table item p.table q.table p.is q.is in
    let limits = sym p.exceeds ∙ ap (λ (t : Table). sums_limit (tables ++ t ∷ [])) table ∙ q.exceeds in
    let limit : p.limit ≡ q.limit = cc in
    p.comes ∙ ap Exceeded limit ∙ sym q.comes

one_reading_stops : (items : List LoadedSection) (c d : Coming) → ReadingStops items c → ReadingStops items d → c ≡ d
one_reading_stops items c d p q =
    let on = one_reading AreInLimits p.before q.before (p.item ∷ p.later) (q.item ∷ q.later) p.tables q.tables (sym p.items_are ∙ q.items_are) p.read.are q.read.are p.read.within q.read.within
    (stop_ends (length p.before) p.tables p.item p.later c p.stops) (stop_ends (length q.before) q.tables q.item q.later d q.stops) in
    let lefts : p.item ∷ p.later ≡ q.item ∷ q.later = on.lefts in
    let item : p.item ≡ q.item = cc in
    let by_number = subst (λ (is : List LoadedSection). StopsAt (length is) p.tables p.item c) on.items p.stops in
    let by_tables = subst (λ (ts : List Table). StopsAt (length q.before) ts p.item c) on.tables_are by_number in
    one_stop (length q.before) q.tables q.item c d (subst (λ (i : LoadedSection). StopsAt (length q.before) q.tables i c) item by_tables) q.stops

-- where all are read, reading doesn't stop
none_stops : (items : List LoadedSection) (c : Coming) (tables : List Table) → AreWithin items tables → ReadingStops items c → ⊥
none_stops items c tables all p =
    let on = one_reading AreInLimits p.before items (p.item ∷ p.later) [] p.tables tables (sym p.items_are ∙ sym (append-nil items)) p.read.are all.are p.read.within all.within
    (stop_ends (length p.before) p.tables p.item p.later c p.stops) (none_ends tables) in
    let lefts : p.item ∷ p.later ≡ [] = on.lefts in
    cc

one_merged : (at : ℕ) (tables : List Table) (c d : Coming) → 0 < length tables → MakesMerge at tables c → MakesMerge at tables d → c ≡ d
one_merged at tables c d some p q =
    let same = one_merge tables at (Ok p.merged.functions) (Ok q.merged.functions) p.merged.are q.merged.are in
    let functions : p.merged.functions ≡ q.merged.functions = cc in
    let arch : p.merged.arch ≡ q.merged.arch = one_arch tables some p.merged.arch q.merged.arch p.merged.union.one_machine q.merged.union.one_machine in
    let table : table_of p.merged.arch p.merged.functions ≡ table_of q.merged.arch q.merged.functions = ap (λ (a : Arch). table_of a p.merged.functions) arch ∙ ap (table_of q.merged.arch) functions in
    let sections = tight_one p.section q.section at (table_of q.merged.arch q.merged.functions) p.merged.are_bytes q.merged.are_bytes
    (subst (Tight p.section at) table p.merged.tight) q.merged.tight (subst (Narrow p.section) table p.merged.narrow) q.merged.narrow in
    let texts : p.text ≡ q.text = p.text_is ∙ ap (λ (n : ℕ). merged_text n p.rows) (p.merged.count_is ∙ ap (λ (fs : List Func). length fs) functions ∙ sym q.merged.count_is)
    ∙ ap (λ (n : ℕ). merged_text q.count n) (p.merged.rows_are ∙ ap (λ (fs : List Func). row_count fs) functions ∙ sym q.merged.rows_are) ∙ sym q.text_is in
    p.is ∙ ap (λ (s : List ℕ). Makes Done (Some s) p.text) sections ∙ ap (λ (t : List ℕ). Makes Done (Some q.section) t) texts ∙ sym q.is
  where
    one_arch : (tables : List Table) → 0 < length tables → (a b : Arch) → All (λ (t : Table). t.arch ≡ a) tables → All (λ (t : Table). t.arch ≡ b) tables → a ≡ b
    one_arch [] some a b p q = let none : ⊥ = omega (arith, some) in absurd none
    one_arch (t ∷ ts) some a b p q = sym (p 0 t (omega arith)) ∙ q 0 t (omega arith)

one_from_tables : (at : ℕ) (tables : List Table) (result : Result (List Func) MergeFault) (c d : Coming) → 0 < length tables → MergeComesFrom at tables result c → MergeComesFrom at tables result d → c ≡ d
one_from_tables at tables (Err fault) c d some p q = p ∙ sym q
one_from_tables at tables (Ok functions) c d some p q = one_merged at tables c d some p q

-- as many tables as items, and one at least
some_tables : (sections : List SectionWords) (items : List (List ℕ)) (tables : List Table) → 0 < length items → length items ≡ length sections → AllZip IsSectionOf (zip sections items) tables → 0 < length tables
some_tables [] [] tables some count are = let none : ⊥ = omega (arith, some) in absurd none
some_tables [] (i ∷ is) tables some count are = let none : ⊥ = omega (arith, count) in absurd none
some_tables (s ∷ ss) [] tables some count are = let none : ⊥ = omega (arith, some) in absurd none
some_tables (s ∷ ss) (i ∷ is) [] some count are = absurd are
some_tables (s ∷ ss) (i ∷ is) (t ∷ ts) some count are = omega arith

one_list : (items : List LoadedSection) (one other : List Table) → AllZip IsSectionOf items one → AllZip IsSectionOf items other → one ≡ other
one_list [] [] [] p q = refl
one_list [] [] (t ∷ ts) p q = absurd q
one_list [] (t ∷ ts) other p q = absurd p
one_list (i ∷ is) [] other p q = absurd p
one_list (i ∷ is) (t ∷ ts) [] p q = absurd q
one_list (i ∷ is) (t ∷ ts) (u ∷ us) p q =
    ap (λ (v : Table). v ∷ ts) (one_table i t u p.0 q.0) ∙ ap (λ (vs : List Table). u ∷ vs) (one_list is ts us p.1 q.1)

one_tables : (at : ℕ) (sections : List SectionWords) (items : List (List ℕ)) (c d : Coming) → 0 < length items → length items ≡ length sections → TablesCome at (zip sections items) c → TablesCome at (zip sections items) d → c ≡ d
one_tables at sections items c d some count p q =
    let tables : p.tables ≡ q.tables = one_list (zip sections items) p.tables q.tables p.read.are q.read.are in
    let merges = subst (λ (ts : List Table). Merges ts at p.result) tables p.merges in
    let result = one_merge q.tables at p.result q.result merges q.merges in
    let comes = subst (λ (ts : List Table). MergeComesFrom at ts p.result c) tables p.comes in
    one_from_tables at q.tables q.result c d (some_tables sections items q.tables some count q.read.are) (subst (λ (r : Result (List Func) MergeFault). MergeComesFrom at q.tables r c) result comes) q.comes

one_merge_at : (at : ℕ) (sections : List SectionWords) (items : List (List ℕ)) (c d : Coming) → 0 < length items → length items ≡ length sections → MergeComesAt at (zip sections items) c → MergeComesAt at (zip sections items) d → c ≡ d
one_merge_at at sections items c d some count (inl p) (inl q) = one_reading_stops (zip sections items) c d p q
one_merge_at at sections items c d some count (inl p) (inr q) = absurd (none_stops (zip sections items) c q.tables q.read p)
one_merge_at at sections items c d some count (inr p) (inl q) = absurd (none_stops (zip sections items) d p.tables p.read q)
one_merge_at at sections items c d some count (inr p) (inr q) = one_tables at sections items c d some count p q

-- ---- something
abbrev HasBytes : LoadedSection → Type 0
HasBytes item = AreBytes item.1

-- reading stops at an item, or all items are sections of tables that are within the limits together
abbrev Reads : List LoadedSection → Type 0
Reads all = ((coming : Coming) × ReadingStops all coming) ⊎ ((tables : List Table) × AreWithin all tables)

-- of a section, with what comes after it
read_within : (all : List LoadedSection) (number : ℕ) (tables : List Table) (item : LoadedSection) (later : List LoadedSection) (table : Table) (limit : Option Limit) → sums_limit (tables ++ table ∷ []) ≡ limit
    → ReadingSections all number (item ∷ later) tables → IsSectionOf item table → (ReadingSections all (number + 1) later (tables ++ table ∷ []) → Reads all) → Reads all
read_within all number tables item later table (Some limit) e h is next = inl (Exceeded limit, over_stops all number (item ∷ later) tables item later table limit h refl is e)
read_within all number tables item later table None e h is next = next (one_more_read all number (item ∷ later) tables item later table h refl is e)

-- of an item, with what comes after it
read_item : (all : List LoadedSection) (number : ℕ) (tables : List Table) (item : LoadedSection) (later : List LoadedSection) (check : Result (Unit {0}) DecodeFault) → item_check item ≡ check → AreBytes item.1
    → ReadingSections all number (item ∷ later) tables → ((table : Table) → ReadingSections all (number + 1) later (tables ++ table ∷ []) → Reads all) → Reads all
read_item all number tables item later (Err fault) e bytes h next = inl (coming_of_decoding number fault, unsound_stops all number (item ∷ later) tables item later fault h refl e)
read_item all number tables item later (Ok u) e bytes h next =
    let table = table_in item.1 item.0.at in
    read_within all number tables item later table (sums_limit (tables ++ table ∷ [])) refl h record { checked = e; is = section_stands item.1 item.0.at bytes e } (next table)

read_items : (all : List LoadedSection) (number : ℕ) (left : List LoadedSection) (tables : List Table) → All HasBytes left → ReadingSections all number left tables → Reads all
read_items all number [] tables bytes h = inr (tables, all_read all number [] tables h refl)
read_items all number (item ∷ later) tables bytes h =
    read_item all number tables item later (item_check item) refl (All-head HasBytes item later bytes) h
    (λ table next. read_items all (number + 1) later (tables ++ table ∷ []) (All-tail HasBytes item later bytes) next)

all_said : (items : List LoadedSection) (tables : List Table) → All HasBytes items → AllZip IsSectionOf items tables → All IsSaid tables
all_said [] [] bytes are = All-nil IsSaid
all_said [] (t ∷ ts) bytes are = absurd are
all_said (item ∷ items) [] bytes are = absurd are
all_said (item ∷ items) (t ∷ ts) bytes are =
    All-cons IsSaid t ts (record { bytes = item.1; from = item.0.at; are_bytes = All-head HasBytes item items bytes; is = are.0.is }) (all_said items ts (All-tail HasBytes item items bytes) are.1)

some_merging : (at : ℕ) (tables : List Table) → All IsSaid tables → (result : Result (List Func) MergeFault) → Merges tables at result → (coming : Coming) × MergeComesFrom at tables result coming
some_merging at tables said (Err fault) h = (coming_of_merging fault, refl)
some_merging at tables said (Ok functions) h =
    let made = some_merged tables at functions said h in
    (_, record { section = made.0; text = merged_text made.1 made.2; count = made.1; rows = made.2; merged = made.3; text_is = refl; is = refl })

some_merge_at : (at : ℕ) (items : List LoadedSection) → All HasBytes items → Reads items → (coming : Coming) × MergeComesAt at items coming
some_merge_at at items bytes (inl stops) = (stops.0, inl stops.1)
some_merge_at at items bytes (inr all) =
    let merges = some_result all.0 at in
    let comes = some_merging at all.0 (all_said items all.0 bytes all.1.are) merges.0 merges.1 in
    (comes.0, inr record { tables = all.0; read = all.1; result = merges.0; merges = merges.1; comes = comes.1 })

all_items : (sections : List SectionWords) (items : List (List ℕ)) → All AreBytes items → All HasBytes (zip sections items)
all_items [] items h = All-nil HasBytes
all_items (section ∷ sections) [] h = All-nil HasBytes
all_items (section ∷ sections) (bytes ∷ items) h =
    All-cons HasBytes (section, bytes) (zip sections items) (All-head AreBytes bytes items h) (all_items sections items (All-tail AreBytes bytes items h))

-- ---- one thing
-- the sections of a merge are one at least
pub some_sections : (words : List (List ℕ)) (merge : MergeWords) → IsMerge words merge → 0 < length merge.sections
some_sections words merge h = subst (λ (n : ℕ). 0 < n) (as_long IsSectionWord h.section_words merge.sections h.sections) h.some

pub merge_comes_to_one : (merge : MergeWords) → ComesToOne (λ words. IsMerge words merge) (merge_files merge) (λ items coming. MergeComes merge items coming)
merge_comes_to_one merge = record {
  one = λ asked items count c d p q.
      let sections : length items ≡ length merge.sections = count ∙ length-map merge.sections Section in
      one_merge_at merge.out.at merge.sections items c d (subst (λ (n : ℕ). 0 < n) (sym sections) (some_sections asked.0 merge asked.1)) sections p q;
  some = λ asked items count bytes.
      let all = all_items merge.sections items bytes in
      let read = read_items (zip merge.sections items) 0 (zip merge.sections items) [] all (none_read (zip merge.sections items)) in
      some_merge_at merge.out.at (zip merge.sections items) all read;
}
