-- Files of a process, one after the other, and what becomes of each.
use Rattle.std.specs.List.{AllZip, cons_option, filter_map, zip}
use Rattle.std.proofs.Common.{◌≡◌, ◌≤◌, ◌+◌, ◌==◌, ℕ, suc, Bool, true, false, cond, List, [], ◌∷◌, ◌++◌, length, map, Option, Some, None, Result, refl, ap, sym, subst, ◌∙◌, inl, inr, arith, append-nil, append_assoc}
use Rattle.std.proofs.lemmas.List.Elements.{All-nil, All-push, filter_map-append}
use Rattle.std.proofs.lemmas.Bool.{eqb-true}
use Rattle.std.proofs.lemmas.List.{map-append}
use Rattle.elf_read.specs.Header.{arch_of}
use Rattle.sf_model.specs.Notice.{HasLine}
use Rattle.sf_model.specs.Table.{Table}
use Rattle.sf_merge.specs.Merging.{same_arch}
use Rattle.sf_asm.specs.declared.fault.LinkFault.{LinkFault}
use Rattle.sf_asm.specs.declared.fault.LinkFault.TheVariants.{NoMemory}
use Rattle.sf_plt.specs.Answers.{IsFirstPltLinked}
use Rattle.sf_modules.specs.Fault.{Check}
use Rattle.sf_modules.specs.Match.{is_candidate}
use Rattle.sf_modules.specs.Process.{ProcessView}
use Rattle.sf_modules.specs.Reading.{mapped_check}
use Rattle.sf_modules.specs.Union.{tables_of}
use Rattle.module_tables.specs.Table.{file_at}
use Rattle.process_tables.specs.declared.table.MappedTable.{MappedTable}
use Rattle.process_tables.specs.Modules.{MappedModule}
use Rattle.process_tables.specs.Views.{IsTableOf, IsUnlinked as Unlinked, section_view}
use Rattle.process_tables.proofs.Lookups.{as_many}
use Rattle.sf_text.specs.declared.passed.PassedFile.{PassedFile}
use Rattle.sf_text.specs.Passed.{PassedView, passed_view}
use Rattle.sf_words.specs.declared.refusal.Limit.{Limit}
use Rattle.sf_words.specs.declared.refusal.Refusal.{Refusal}
use Rattle.sf_words.specs.declared.refusal.Refusal.TheVariants as refusal
use Rattle.section_commands.specs.declared.made.Made.{Made}
use Rattle.section_commands.specs.declared.made.Unmade.{Unmade}
use Rattle.section_commands.specs.Coming.{Coming, Exceeded, MakesNoting, Refused}
use Rattle.section_commands.specs.Making.{ComesAs, MadeAs}
use Rattle.section_commands.specs.Process.{File}
use Rattle.section_commands.specs.Walks.{shown_of_mixed}
use Rattle.section_commands.proofs.Making.{comes_as, made_as, memory_comes}
use Rattle.sf_run.specs.declared.named_files.NamedFiles.{NamedFiles}
use Rattle.sf_run.specs.NamedFiles.{AreRead, HaveLines, IsNoFault, IsOver}
use Rattle.sf_run.specs.Procbacktrace.{FileComes, FileOutcome, FilesCome, HasModule, IsUnusable, NumberedFile, Over, Passed, ProcbacktraceComesIn, Used, coming_of_files, coming_of_modules, coming_of_none, coming_of_table, coming_of_walks, coming_within, files_named, files_passed, first_limit, first_of, limit_of, module_of, modules_used, passed_of}
use Rattle.sf_run.proofs.SomeProcbacktrace.{some_files}

-- ---- a file that can't be used
-- a file that can't be linked: its fault is what it comes to, unless memory ran out
pub unlinked_comes : (p : ProcessView) (item : ℕ) (file : File) (fault : LinkFault) (refused : Refusal) → Unlinked p file.0 file.1 fault → (fault ≡ NoMemory → refused ≡ refusal.Memory)
    → ComesAs (λ (c : Coming). c ≡ coming_of_table item fault) refused → ComesAs (λ (c : Coming). IsUnusable p item file (mapped_check p file.0 file.1) c) refused
unlinked_comes p item file fault refused u memory tells = by_cause u.first
  where
    by_cause : IsFirstPltLinked None (file_at file.1 u.mapped.base ∷ []) u.mapped.entry.start fault → ComesAs (λ (c : Coming). IsUnusable p item file (mapped_check p file.0 file.1) c) refused
    by_cause (inl none) = memory_comes (λ (c : Coming). IsUnusable p item file (mapped_check p file.0 file.1) c) refused (memory none)
    by_cause (inr links) =
        comes_as (λ (c : Coming). c ≡ coming_of_table item fault) (λ (c : Coming). IsUnusable p item file (mapped_check p file.0 file.1) c)
        (λ c e. subst (λ (check : Check). IsUnusable p item file check c) (sym u.checked) (inl record { mapped = u.mapped; is_mapped = u.is_mapped; fault = fault; links = links; is = e })) refused tells

-- a file for another machine
pub mixed_comes : (p : ProcessView) (item : ℕ) (file : File) (m : MappedModule) (refused : Refusal) → HasModule p item file m → same_arch (arch_of p.core) m.machine ≡ false
    → ComesAs (λ (c : Coming). c ≡ Refused (shown_of_mixed item)) refused → ComesAs (λ (c : Coming). IsUnusable p item file (mapped_check p file.0 file.1) c) refused
mixed_comes p item file m refused has other =
    comes_as (λ (c : Coming). c ≡ Refused (shown_of_mixed item)) (λ (c : Coming). IsUnusable p item file (mapped_check p file.0 file.1) c)
    (λ c e. subst (λ (check : Check). IsUnusable p item file check c) (sym has.checked) (inr record { made = m; has = has; other = other; is = e })) refused

-- what is no fault is a limit, or not about the file
pub over_only : (p : ProcessView) (item : ℕ) (file : File) (refused : Refusal) → IsNoFault refused → ComesAs (λ (c : Coming). IsUnusable p item file (mapped_check p file.0 file.1) c) refused → ComesAs (λ (c : Coming). IsOver p item file c) refused
over_only p item file (refusal.Read name) none h = absurd h
over_only p item file refusal.Memory none h = tt
over_only p item file (refusal.Limit limit) none h = h
over_only p item file (refusal.Input notice) none h = absurd none

-- ---- the files so far
one_table_more : (modules : List MappedModule) (tables : List MappedTable) (m : MappedModule) (t : MappedTable) → AllZip IsTableOf modules tables → IsTableOf m t → AllZip IsTableOf (modules ++ m ∷ []) (tables ++ t ∷ [])
one_table_more [] [] m t h is = (is, tt)
one_table_more [] (u ∷ tables) m t h is = absurd h
one_table_more (n ∷ modules) [] m t h is = absurd h
one_table_more (n ∷ modules) (u ∷ tables) m t h is = (h.0, one_table_more modules tables m t h.1 is)

first_of_more : (limits : List Limit) (limit : Limit) (more : List Limit) → first_of limits ≡ None → first_of (limits ++ limit ∷ more) ≡ Some limit
first_of_more [] limit more e = refl
first_of_more (first ∷ limits) limit more e = absurd (let no : Some first ≡ None = e in cc)

-- an outcome more that is no limit
within_more : (outcomes : List FileOutcome) (outcome : FileOutcome) → limit_of outcome ≡ None → first_limit outcomes ≡ None → first_limit (outcomes ++ outcome ∷ []) ≡ None
within_more outcomes outcome none within =
    ap first_of (filter_map-append limit_of outcomes (outcome ∷ []) ∙ ap (λ (o : Option Limit). filter_map limit_of outcomes ++ cons_option o []) none ∙ append-nil (filter_map limit_of outcomes)) ∙ within

-- the first limit
pub over_first : (outcomes later : List FileOutcome) (limit : Limit) → first_limit outcomes ≡ None → first_limit (outcomes ++ Over limit ∷ later) ≡ Some limit
over_first outcomes later limit within =
    ap first_of (filter_map-append limit_of outcomes (Over limit ∷ later)) ∙ first_of_more (filter_map limit_of outcomes) limit (filter_map limit_of later) within

-- no file so far
pub none_read : (files : NamedFiles) → files.tables.items ≡ [] → files.passed.items ≡ [] → AreRead [] files.tables.items files.passed.items
none_read files tables passed = record {
  within = refl;
  made = subst (λ (ts : List MappedTable). AllZip IsTableOf [] ts) (sym tables) tt;
  views = ap (map passed_view) passed;
  lines = subst HaveLines (sym passed) (All-nil (λ (file : PassedFile). HasLine file.notice));
}

-- a file more that is used
pub one_used : (outcomes : List FileOutcome) (m : MappedModule) (t : MappedTable) (old new : NamedFiles) → IsTableOf m t → new.tables.items ≡ old.tables.items ++ t ∷ [] → new.passed.items ≡ old.passed.items
    → AreRead outcomes old.tables.items old.passed.items → AreRead (outcomes ++ Used m ∷ []) new.tables.items new.passed.items
one_used outcomes m t old new is tables passed h = record {
  within = within_more outcomes (Used m) refl h.within;
  made =
      subst (λ (ts : List MappedTable). AllZip IsTableOf (modules_used (outcomes ++ Used m ∷ [])) ts) (sym tables)
      (subst (λ (ms : List MappedModule). AllZip IsTableOf ms (old.tables.items ++ t ∷ [])) (sym (filter_map-append module_of outcomes (Used m ∷ [])))
      (one_table_more (modules_used outcomes) old.tables.items m t h.made is));
  views = ap (map passed_view) passed ∙ h.views ∙ sym (filter_map-append passed_of outcomes (Used m ∷ []) ∙ append-nil (files_passed outcomes));
  lines = subst HaveLines (sym passed) h.lines;
}

-- a file more that is passed
pub one_passed : (outcomes : List FileOutcome) (file : PassedFile) (old new : NamedFiles) → HasLine file.notice → new.tables.items ≡ old.tables.items → new.passed.items ≡ old.passed.items ++ file ∷ []
    → AreRead outcomes old.tables.items old.passed.items → AreRead (outcomes ++ Passed (passed_view file) ∷ []) new.tables.items new.passed.items
one_passed outcomes file old new line tables passed h = record {
  within = within_more outcomes (Passed (passed_view file)) refl h.within;
  made =
      subst (λ (ts : List MappedTable). AllZip IsTableOf (modules_used (outcomes ++ Passed (passed_view file) ∷ [])) ts) (sym tables)
      (subst (λ (ms : List MappedModule). AllZip IsTableOf ms old.tables.items) (sym (filter_map-append module_of outcomes (Passed (passed_view file) ∷ []) ∙ append-nil (modules_used outcomes))) h.made);
  views =
      ap (map passed_view) passed ∙ map-append passed_view old.passed.items (file ∷ []) ∙ ap (λ (views : List PassedView). views ++ passed_view file ∷ []) h.views
      ∙ sym (filter_map-append passed_of outcomes (Passed (passed_view file) ∷ []));
  lines = subst HaveLines (sym passed) (All-push (λ (it : PassedFile). HasLine it.notice) old.passed.items file h.lines line);
}

-- ---- one file after the other
-- Of all files those that are left are numbered from `item` on. What becomes of these, comes after what became of those that were read.
pub record Reached (p : ProcessView) (all : List File) (item : ℕ) (left : List File) (files : NamedFiles) : Type 0 where
  pub outcomes : List FileOutcome
  pub are : AreRead outcomes files.tables.items files.passed.items
  pub on : (later : List FileOutcome) → FilesCome p item left later → FilesCome p 1 all (outcomes ++ later)

pub none_reached : (p : ProcessView) (all left : List File) (files : NamedFiles) → left ≡ all → files.tables.items ≡ [] → files.passed.items ≡ [] → Reached p all 1 left files
none_reached p all left files same tables passed = record {
  outcomes = [];
  are = none_read files tables passed;
  on = λ later h. subst (λ (fs : List File). FilesCome p 1 fs later) same h;
}

-- the files of which the first one's base name is one that the process had, or not
first_named : (p : ProcessView) (item : ℕ) (file : File) (later : List File) (is_named : Bool) → is_candidate file.0 p.entries ≡ is_named
    → files_named p item (file ∷ later) ≡ cond is_named ((item, file) ∷ files_named p (item + 1) later) (files_named p (item + 1) later)
first_named p item file later is_named e = ap (λ (b : Bool). cond b ((item, file) ∷ files_named p (item + 1) later) (files_named p (item + 1) later)) e

pub skipped : (p : ProcessView) (all : List File) (item : ℕ) (file : File) (left later : List File) (files : NamedFiles) → left ≡ file ∷ later → is_candidate file.0 p.entries ≡ false
    → Reached p all item left files → Reached p all (item + 1) later files
skipped p all item file left later files next e h = record {
  outcomes = h.outcomes;
  are = h.are;
  on = λ rest come.
      h.on rest (subst (λ (fs : List File). FilesCome p item fs rest) (sym next)
      (subst (λ (ns : List NumberedFile). AllZip (λ (n : NumberedFile). FileComes p n.0 n.1) ns rest) (sym (first_named p item file later false e)) come));
}

-- what becomes of the next file, in front of what becomes of those after it
in_front : (p : ProcessView) (item : ℕ) (file : File) (left later : List File) (outcome : FileOutcome) (rest : List FileOutcome) → left ≡ file ∷ later → is_candidate file.0 p.entries ≡ true → FileComes p item file outcome
    → FilesCome p (item + 1) later rest → FilesCome p item left (outcome ∷ rest)
in_front p item file left later outcome rest next e comes come =
    subst (λ (fs : List File). FilesCome p item fs (outcome ∷ rest)) (sym next)
    (subst (λ (ns : List NumberedFile). AllZip (λ (n : NumberedFile). FileComes p n.0 n.1) ns (outcome ∷ rest)) (sym (first_named p item file later true e)) (comes, come))

pub one_read : (p : ProcessView) (all : List File) (item : ℕ) (file : File) (left later : List File) (old new : NamedFiles) (outcome : FileOutcome) → left ≡ file ∷ later → is_candidate file.0 p.entries ≡ true
    → FileComes p item file outcome → (h : Reached p all item left old) → AreRead (h.outcomes ++ outcome ∷ []) new.tables.items new.passed.items → Reached p all (item + 1) later new
one_read p all item file left later old new outcome next e comes h are = record {
  outcomes = h.outcomes ++ outcome ∷ [];
  are = are;
  on = λ rest come.
      subst (λ (os : List FileOutcome). FilesCome p 1 all os) (sym (append_assoc h.outcomes (outcome ∷ []) rest))
      (h.on (outcome ∷ rest) (in_front p item file left later outcome rest next e comes come));
}

-- a file that exceeds a limit is what all files come to
pub over_at : (p : ProcessView) (all : List File) (item : ℕ) (file : File) (left later : List File) (files : NamedFiles) (depth : ℕ) (coming : Coming) → left ≡ file ∷ later → is_candidate file.0 p.entries ≡ true
    → Reached p all item left files → IsOver p item file coming → ProcbacktraceComesIn depth all p coming
over_at p all item file left later files depth (Refused shown) next e h over = absurd over
over_at p all item file left later files depth (MakesNoting outcome section text notes) next e h over = absurd over
over_at p all item file left later files depth (Exceeded limit) next e h over =
    let rest = some_files p (files_named p (item + 1) later) in
    let outcomes = h.outcomes ++ Over limit ∷ rest.0 in
    record {
      outcomes = outcomes;
      come = h.on (Over limit ∷ rest.0) (in_front p item file left later (Over limit) rest.0 next e over rest.1);
      is = sym (ap (λ (o : Option Limit). coming_within o (coming_of_modules p depth (modules_used outcomes) (files_passed outcomes))) (over_first h.outcomes rest.0 limit h.are.within));
    }

-- at the end
pub all_read : (p : ProcessView) (all : List File) (item : ℕ) (left : List File) (files : NamedFiles) → left ≡ [] → Reached p all item left files → (outcomes : List FileOutcome) × FilesCome p 1 all outcomes × AreRead outcomes files.tables.items files.passed.items
all_read p all item left files none h = (
  h.outcomes,
  subst (λ (os : List FileOutcome). FilesCome p 1 all os) (append-nil h.outcomes) (h.on [] (subst (λ (fs : List File). FilesCome p item fs []) (sym none) tt)),
  h.are,
)

-- ---- how many
fewer_used : (outcomes : List FileOutcome) → length (modules_used outcomes) ≤ length outcomes
fewer_used [] = omega arith
fewer_used (Used m ∷ outcomes) = let later = fewer_used outcomes in omega (later, arith)
fewer_used (Passed passed ∷ outcomes) = let later = fewer_used outcomes in omega (later, arith)
fewer_used (Over limit ∷ outcomes) = let later = fewer_used outcomes in omega (later, arith)

fewer_with : (file : NumberedFile) (later : List NumberedFile) (count : ℕ) (is_named : Bool) → length later ≤ count → length (cond is_named (file ∷ later) later) ≤ suc count
fewer_with file later count true h = omega (h, arith)
fewer_with file later count false h = omega (h, arith)

fewer_named : (p : ProcessView) (item : ℕ) (files : List File) → length (files_named p item files) ≤ length files
fewer_named p item [] = omega arith
fewer_named p item (file ∷ files) = fewer_with (item, file) (files_named p (item + 1) files) (length files) (is_candidate file.0 p.entries) (fewer_named p (item + 1) files)

fewer_zipped : (names items : List (List ℕ)) → length (zip names items) ≤ length items
fewer_zipped [] items = omega arith
fewer_zipped (name ∷ names) [] = omega arith
fewer_zipped (name ∷ names) (item ∷ items) = let later = fewer_zipped names items in omega (later, arith)

one_for_each : (p : ProcessView) (files : List NumberedFile) (outcomes : List FileOutcome) → AllZip (λ (n : NumberedFile). FileComes p n.0 n.1) files outcomes → length files ≡ length outcomes
one_for_each p [] [] h = refl
one_for_each p [] (outcome ∷ outcomes) h = absurd h
one_for_each p (file ∷ files) [] h = absurd h
one_for_each p (file ∷ files) (outcome ∷ outcomes) h = ap suc (one_for_each p files outcomes h.1)

-- there are no more tables than files
pub fewer_tables : (p : ProcessView) (names items : List (List ℕ)) (outcomes : List FileOutcome) (tables : List MappedTable) (passed : List PassedFile) → FilesCome p 1 (zip names items) outcomes → AreRead outcomes tables passed → length tables ≤ length items
fewer_tables p names items outcomes tables passed come are =
    let made = as_many (modules_used outcomes) tables are.made in
    let used = fewer_used outcomes in
    let all = one_for_each p (files_named p 1 (zip names items)) outcomes come in
    let named = fewer_named p 1 (zip names items) in
    let zipped = fewer_zipped names items in
    omega (made, used, all, named, zipped, arith)

-- ---- the walks
within_limits : (p : ProcessView) (depth : ℕ) (outcomes : List FileOutcome) → first_limit outcomes ≡ None → coming_of_files p depth outcomes ≡ coming_of_modules p depth (modules_used outcomes) (files_passed outcomes)
within_limits p depth outcomes within = ap (λ (o : Option Limit). coming_within o (coming_of_modules p depth (modules_used outcomes) (files_passed outcomes))) within

no_module : (p : ProcessView) (depth : ℕ) (modules : List MappedModule) (tables : List MappedTable) (passed : List PassedView) → AllZip IsTableOf modules tables → true ≡ (length tables == 0) → coming_of_modules p depth modules passed ≡ coming_of_none passed
no_module p depth [] tables passed are none = refl
no_module p depth (m ∷ modules) [] passed are none = absurd are
no_module p depth (m ∷ modules) (t ∷ tables) passed are none = let no : length (t ∷ tables) ≡ 0 = eqb-true (length (t ∷ tables)) 0 (sym none) in absurd (omega (no, arith))

some_module : (p : ProcessView) (depth : ℕ) (modules : List MappedModule) (tables : List MappedTable) (passed : List PassedView) → AllZip IsTableOf modules tables → false ≡ (length tables == 0) → coming_of_modules p depth modules passed ≡ coming_of_walks p depth modules passed
some_module p depth [] [] passed are some = absurd (let no : false ≡ true = some in cc)
some_module p depth [] (t ∷ tables) passed are some = absurd are
some_module p depth (m ∷ modules) tables passed are some = refl

-- no file is used
pub none_walked : (p : ProcessView) (depth : ℕ) (outcomes : List FileOutcome) (tables : List MappedTable) (passed : List PassedFile) → AreRead outcomes tables passed → true ≡ (length tables == 0) → coming_of_files p depth outcomes ≡ coming_of_none (map passed_view passed)
none_walked p depth outcomes tables passed h none =
    within_limits p depth outcomes h.within ∙ no_module p depth (modules_used outcomes) tables (files_passed outcomes) h.made none ∙ ap coming_of_none (sym h.views)

-- some file is used
pub files_walk : (p : ProcessView) (depth : ℕ) (outcomes : List FileOutcome) (tables : List MappedTable) (passed : List PassedFile) → AreRead outcomes tables passed → false ≡ (length tables == 0)
    → coming_of_files p depth outcomes ≡ coming_of_walks p depth (modules_used outcomes) (map passed_view passed)
files_walk p depth outcomes tables passed h some =
    within_limits p depth outcomes h.within ∙ some_module p depth (modules_used outcomes) tables (files_passed outcomes) h.made some
    ∙ ap (coming_of_walks p depth (modules_used outcomes)) (sym h.views)

pub same_tables : (modules : List MappedModule) → tables_of (map section_view modules) ≡ map (λ (m : MappedModule). m.table) modules
same_tables [] = refl
same_tables (m ∷ modules) = ap (λ (ts : List Table). m.table ∷ ts) (same_tables modules)

-- what files come to of which these became
pub walked_in : (depth : ℕ) (files : List File) (p : ProcessView) (outcomes : List FileOutcome) (made : Result Made Unmade) → FilesCome p 1 files outcomes → MadeAs (λ (c : Coming). c ≡ coming_of_files p depth outcomes) made
    → MadeAs (ProcbacktraceComesIn depth files p) made
walked_in depth files p outcomes made come =
    made_as (λ (c : Coming). c ≡ coming_of_files p depth outcomes) (ProcbacktraceComesIn depth files p) (λ c e. record { outcomes = outcomes; come = come; is = e }) made
