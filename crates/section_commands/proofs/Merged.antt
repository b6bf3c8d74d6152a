-- Sections that are read one after the other, and where reading them stops.
use Rattle.std.specs.List.{AllZip}
use Rattle.std.proofs.Common.{◌≡◌, ◌≤◌, ◌+◌, ◌^◌, ℕ, List, [], ◌∷◌, ◌++◌, length, Some, None, Ok, Err, refl, ap, sym, subst, ◌∙◌, inl, inr, arith}
use Rattle.std.proofs.lemmas.List.{append_assoc, append-nil, length-append}
use Rattle.std.proofs.lemmas.List.Sums.{sum_by_push}
use Rattle.sf_model.specs.Section.{Section}
use Rattle.sf_model.specs.Table.{Table, row_count}
use Rattle.sf_decode.specs.declared.fault.DecodeFault.{DecodeFault}
use Rattle.sf_decode.specs.Decoding.{section_check}
use Rattle.sf_functions.specs.Limits.{exceeded}
use Rattle.sf_functions.proofs.LimitsHeld.{few_functions, few_rows, none_over}
use Rattle.sf_merge.specs.Merging.{functions_in_all, rows_in_all}
use Rattle.sf_words.specs.declared.refusal.Limit.{Limit}
use Rattle.sf_words.specs.declared.refusal.Refusal.{Refusal}
use Rattle.sf_words.specs.Words.{SectionWords}
use Rattle.section_commands.specs.Coming.{Coming, Exceeded}
use Rattle.section_commands.specs.Limits.{exceeded_limit, run_limit, sums_limit}
use Rattle.section_commands.specs.Making.{ComesAs}
use Rattle.section_commands.specs.Merge.{AreWithin, LoadedSection, IsSectionOf, MergeComesAt, ReadingStops, item_check}
use Rattle.section_commands.specs.SectionComes.{coming_of_decoding}
use Rattle.section_commands.proofs.Making.{comes_as}

-- ---- while sections are read
-- Of all items, those before the ones left are sections of these tables, which are within the limits together.
pub record ReadingSections (all : List LoadedSection) (number : ℕ) (left : List LoadedSection) (tables : List Table) : Type 0 where
  pub before : List LoadedSection
  pub all_are : all ≡ before ++ left
  pub number_is : length before ≡ number
  pub read : AreWithin before tables

pub none_read : (all : List LoadedSection) → ReadingSections all 0 all []
none_read all = record { before = []; all_are = refl; number_is = refl; read = record { are = tt; within = refl } }

one_more : (items : List LoadedSection) (tables : List Table) (item : LoadedSection) (table : Table) → AllZip IsSectionOf items tables → IsSectionOf item table → AllZip IsSectionOf (items ++ item ∷ []) (tables ++ table ∷ [])
one_more [] [] item table h is = (is, tt)
one_more [] (t ∷ ts) item table h is = absurd h
one_more (i ∷ is) [] item table h is_section = absurd h
one_more (i ∷ is) (t ∷ ts) item table h is_section = (h.0, one_more is ts item table h.1 is_section)

pub one_more_read : (all : List LoadedSection) (number : ℕ) (left : List LoadedSection) (tables : List Table) (item : LoadedSection) (later : List LoadedSection) (table : Table)
    → ReadingSections all number left tables → left ≡ item ∷ later → IsSectionOf item table → sums_limit (tables ++ table ∷ []) ≡ None → ReadingSections all (number + 1) later (tables ++ table ∷ [])
one_more_read all number left tables item later table h are is within = record {
  before = h.before ++ item ∷ [];
  all_are = h.all_are ∙ ap (λ (items : List LoadedSection). h.before ++ items) are ∙ sym (append_assoc h.before (item ∷ []) later);
  number_is = length-append h.before (item ∷ []) ∙ ap (λ (n : ℕ). n + 1) h.number_is;
  read = record { are = one_more h.before tables item table h.read.are is; within = within };
}

-- of an item whose bytes were read
pub is_read : (bytes read : List ℕ) (section : SectionWords) (table : Table) → bytes ≡ read → section_check bytes section.at ≡ Ok tt → Section bytes section.at table → IsSectionOf (section, read) table
is_read bytes read section table same check is = record {
  checked = subst (λ (b : List ℕ). section_check b section.at ≡ Ok tt) same check;
  is = subst (λ (b : List ℕ). Section b section.at table) same is;
}

-- ---- the functions and rows of the sections so far, and of one more
pub functions_more : (tables : List Table) (table : Table) (functions more : ℕ) → functions ≡ functions_in_all tables → more ≡ length table.functions → functions_in_all (tables ++ table ∷ []) ≡ functions + more
functions_more tables table functions more are more_are = omega (arith, sum_by_push (λ (t : Table). length t.functions) tables table, are, more_are)

pub rows_more : (tables : List Table) (table : Table) (rows more : ℕ) → rows ≡ rows_in_all tables → more ≡ row_count table.functions → rows_in_all (tables ++ table ∷ []) ≡ rows + more
rows_more tables table rows more are more_are = omega (arith, sum_by_push (λ (t : Table). row_count t.functions) tables table, are, more_are)

pub limit_of_sums : (tables : List Table) (functions rows : ℕ) → functions_in_all tables ≡ functions → rows_in_all tables ≡ rows → sums_limit tables ≡ exceeded_limit functions rows
limit_of_sums tables functions rows functions_are rows_are =
    ap (λ (n : ℕ). exceeded_limit n (rows_in_all tables)) functions_are ∙ ap (λ (n : ℕ). exceeded_limit functions n) rows_are

pub few_so_far : (functions rows : ℕ) → exceeded_limit functions rows ≡ None → (functions ≤ 2 ^ 21) × (rows ≤ 2 ^ 24)
few_so_far functions rows h = let none = none_over run_limit (exceeded functions rows) h in (few_functions functions rows none, few_rows functions rows none)

-- ---- at the end
pub all_read : (all : List LoadedSection) (number : ℕ) (left : List LoadedSection) (tables : List Table) → ReadingSections all number left tables → left ≡ [] → AreWithin all tables
all_read all number left tables h none =
    subst (λ (items : List LoadedSection). AreWithin items tables) (sym (h.all_are ∙ ap (λ (items : List LoadedSection). h.before ++ items) none ∙ append-nil h.before)) h.read

-- ---- where reading stops
pub unsound_stops : (all : List LoadedSection) (number : ℕ) (left : List LoadedSection) (tables : List Table) (item : LoadedSection) (later : List LoadedSection) (fault : DecodeFault) → ReadingSections all number left tables
    → left ≡ item ∷ later → item_check item ≡ Err fault → ReadingStops all (coming_of_decoding number fault)
unsound_stops all number left tables item later fault h are check = record {
  before = h.before;
  item = item;
  later = later;
  items_are = h.all_are ∙ ap (λ (items : List LoadedSection). h.before ++ items) are;
  tables = tables;
  read = h.read;
  stops = inl record { fault = fault; check = check; comes = ap (λ (n : ℕ). coming_of_decoding n fault) (sym h.number_is) };
}

pub over_stops : (all : List LoadedSection) (number : ℕ) (left : List LoadedSection) (tables : List Table) (item : LoadedSection) (later : List LoadedSection) (table : Table) (limit : Limit) → ReadingSections all number left tables
    → left ≡ item ∷ later → IsSectionOf item table → sums_limit (tables ++ table ∷ []) ≡ Some limit → ReadingStops all (Exceeded limit)
over_stops all number left tables item later table limit h are is exceeds = record {
  before = h.before;
  item = item;
  later = later;
  items_are = h.all_are ∙ ap (λ (items : List LoadedSection). h.before ++ items) are;
  tables = tables;
  read = h.read;
  stops = inr record { table = table; is = is; limit = limit; exceeds = exceeds; comes = refl };
}

pub unread : (all : List LoadedSection) (number : ℕ) (left : List LoadedSection) (tables : List Table) (item : LoadedSection) (later : List LoadedSection) (fault : DecodeFault) (shown : ℕ) (refused : Refusal)
    → ReadingSections all number left tables → left ≡ item ∷ later → item_check item ≡ Err fault → shown ≡ number → ComesAs (λ (c : Coming). c ≡ coming_of_decoding shown fault) refused → ComesAs (ReadingStops all) refused
unread all number left tables item later fault shown refused h are check is tells =
    comes_as (λ (c : Coming). c ≡ coming_of_decoding shown fault) (ReadingStops all)
    (λ c e. subst (ReadingStops all) (sym (e ∙ ap (λ (n : ℕ). coming_of_decoding n fault) is)) (unsound_stops all number left tables item later fault h are check)) refused tells

-- ---- what they come to
pub stopped_comes : (at : ℕ) (items : List LoadedSection) (refused : Refusal) → ComesAs (ReadingStops items) refused → ComesAs (MergeComesAt at items) refused
stopped_comes at items refused tells = comes_as (ReadingStops items) (MergeComesAt at items) (λ c h. inl h) refused tells
