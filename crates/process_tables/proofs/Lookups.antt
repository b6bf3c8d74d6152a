-- Look-ups in the sections of modules find what is found in the modules.
use Rattle.std.specs.List.{AllZip, find, position_from}
use Rattle.std.specs.Option.{option_and_then, option_map}
use Rattle.std.specs.Prelude.{bytes_eq, IfSome}
use Rattle.std.proofs.Common.{◌≡◌, ℕ, zero, suc, ◌+◌, ◌-◌, ◌<◌, Bool, true, false, cond, List, [], ◌∷◌, ◌++◌, length, get_or, map, take, Option, Some, None, refl, sym, ap, subst, ◌∙◌, arith}
use Rattle.std.proofs.lemmas.List.{get_or-map, map-append, take_more}
use Rattle.sf_model.specs.declared.machine.Arch.{Arch}
use Rattle.sf_model.specs.declared.recovery.Regs.{Regs}
use Rattle.sf_model.specs.Table.{Table}
use Rattle.sf_model.specs.Lookup.{found_at}
use Rattle.sf_model.specs.Memory.{Region}
use Rattle.sf_model.specs.Walk.{recover_by, recover_by_rows}
use Rattle.sf_lookup.specs.declared.span.Span.{Span}
use Rattle.sf_lookup.specs.Span.{answer_of}
use Rattle.sf_asm.specs.Faithful.{if_whole}
use Rattle.sf_asm.proofs.Walking.{undone}
use Rattle.sf_plt.specs.Answers.{RecoversWithPlts}
use Rattle.sf_plt.specs.Written.{recover_with_plts}
use Rattle.sf_modules.specs.Entry.{EntryView, entry_contains}
use Rattle.sf_modules.specs.Found as rows
use Rattle.sf_modules.specs.declared.mapped.Module.{Module}
use Rattle.sf_modules.specs.Module.{ModuleView, module_view}
use Rattle.sf_modules.specs.Span.{module_number_at, number_of}
use Rattle.sf_modules.proofs.Numbers.{first_is, none_passes}
use Rattle.signal_frames.specs.declared.frame.SignalFrame.{SignalFrame}
use Rattle.process_walk.specs.Signals as listed
use Rattle.process_tables.specs.declared.table.MappedTable.{MappedTable}
use Rattle.process_tables.specs.Modules.{MappedModule, module_at, recover_at, signal_at}
use Rattle.process_tables.specs.Views.{IsTableOf, section_view}

-- ---- by names
find_view : (name : List ℕ) (ms : List MappedModule) → find (λ (v : ModuleView). bytes_eq name v.name) (map section_view ms) ≡ option_map section_view (find (λ (m : MappedModule). bytes_eq name m.name) ms)
find_view name [] = refl
find_view name (m ∷ ms) = at_test (bytes_eq name m.name) (find_view name ms)
  where
    at_test : (b : Bool) → find (λ (v : ModuleView). bytes_eq name v.name) (map section_view ms) ≡ option_map section_view (find (λ (m : MappedModule). bytes_eq name m.name) ms)
        → cond b (Some (section_view m)) (find (λ (v : ModuleView). bytes_eq name v.name) (map section_view ms)) ≡ option_map section_view (cond b (Some m) (find (λ (m : MappedModule). bytes_eq name m.name) ms))
    at_test true later = refl
    at_test false later = later

place_view : (name : List ℕ) (first : ℕ) (ms : List MappedModule) → position_from (λ (v : ModuleView). bytes_eq name v.name) first (map section_view ms) ≡ position_from (λ (m : MappedModule). bytes_eq name m.name) first ms
place_view name first [] = refl
place_view name first (m ∷ ms) = ap (cond (bytes_eq name m.name) (Some first)) (place_view name (first + 1) ms)

views_by : (ms : List MappedModule) (o : Option EntryView) → option_and_then (λ (e : EntryView). rows.module_of (map section_view ms) e.name) o
    ≡ option_map section_view (option_and_then (λ (e : EntryView). find (λ (m : MappedModule). bytes_eq e.name m.name) ms) o)
views_by ms None = refl
views_by ms (Some e) = find_view e.name ms

views_at : (entries : List EntryView) (ms : List MappedModule) (pc : ℕ) → rows.module_at entries (map section_view ms) pc ≡ option_map section_view (module_at entries ms pc)
unfolding rows.module_at
views_at entries ms pc = views_by ms (find (entry_contains pc) entries)

-- ---- by numbers
-- the module of a number, if there is one
abbrev pub at_number : List MappedModule → Option ℕ → MappedModule → Option MappedModule
at_number ms None d = None
at_number ms (Some k) d = Some (get_or ms k d)

-- a number of a module, if there is one
abbrev pub IsWithin : List MappedModule → Option ℕ → Type 0
IsWithin ms number = IfSome number (λ k. k < length ms)

numbered_in : (p : MappedModule → Bool) (ms : List MappedModule) (o : Option ℕ) → position_from p 0 ms ≡ o → IsWithin ms o × ((d : MappedModule) → find p ms ≡ at_number ms o d)
numbered_in p ms None e = (tt, λ d. none_passes p 0 ms e)
numbered_in p ms (Some k) e =
    let h = first_is p 0 k ms e in
    let whole : k - 0 ≡ k = omega arith in
    let within = h.within in
    (omega (within, whole, arith), λ d. h.is d ∙ ap (λ (n : ℕ). Some (get_or ms n d)) whole)

numbered_by : (ms : List MappedModule) (o : Option EntryView) (number : Option ℕ) → option_and_then (λ (e : EntryView). number_of e.name (map section_view ms)) o ≡ number
    → IsWithin ms number × ((d : MappedModule) → option_and_then (λ (e : EntryView). find (λ (m : MappedModule). bytes_eq e.name m.name) ms) o ≡ at_number ms number d)
numbered_by ms None None e = (tt, λ d. refl)
numbered_by ms None (Some k) e = absurd (let no : None ≡ Some k = e in cc)
numbered_by ms (Some entry) number e = numbered_in (λ (m : MappedModule). bytes_eq entry.name m.name) ms number (sym (place_view entry.name 0 ms) ∙ e)

pub numbered : (entries : List EntryView) (ms : List MappedModule) (pc : ℕ) (number : Option ℕ) → module_number_at entries (map section_view ms) pc ≡ number
    → IsWithin ms number × ((d : MappedModule) → module_at entries ms pc ≡ at_number ms number d)
numbered entries ms pc number e = numbered_by ms (find (entry_contains pc) entries) number e

unnumbered_by : (ms : List MappedModule) (o : Option EntryView) → option_and_then (λ (e : EntryView). number_of e.name (map section_view ms)) o ≡ None
    → option_and_then (λ (e : EntryView). find (λ (m : MappedModule). bytes_eq e.name m.name) ms) o ≡ None
unnumbered_by ms None e = refl
unnumbered_by ms (Some entry) e = none_passes (λ (m : MappedModule). bytes_eq entry.name m.name) 0 ms (sym (place_view entry.name 0 ms) ∙ e)

pub unnumbered : (entries : List EntryView) (ms : List MappedModule) (pc : ℕ) → module_number_at entries (map section_view ms) pc ≡ None → module_at entries ms pc ≡ None
unnumbered entries ms pc e = unnumbered_by ms (find (entry_contains pc) entries) e

-- ---- what rows recover
-- each module's rows recover what DWARF does
abbrev pub AreSound : List MappedModule → Type 0
AreSound [] = Unit {0}
AreSound (m ∷ ms) = RecoversWithPlts m.table.functions m.functions × AreSound ms

pub tables_sound : (ms : List MappedModule) (ts : List MappedTable) → AllZip IsTableOf ms ts → AreSound ms
tables_sound [] [] h = tt
tables_sound [] (t ∷ ts) h = tt
tables_sound (m ∷ ms) [] h = absurd h
tables_sound (m ∷ ms) (t ∷ ts) h = (h.0.recovers, tables_sound ms ts h.1)

abbrev IsSound : Option MappedModule → Type 0
IsSound o = IfSome o (λ m. RecoversWithPlts m.table.functions m.functions)

found_sound : (p : MappedModule → Bool) (ms : List MappedModule) → AreSound ms → IsSound (find p ms)
found_sound p [] h = tt
found_sound p (m ∷ ms) h = at_test (p m) (found_sound p ms h.1)
  where
    at_test : (b : Bool) → IsSound (find p ms) → IsSound (cond b (Some m) (find p ms))
    at_test true later = h.0
    at_test false later = later

sound_by : (ms : List MappedModule) → AreSound ms → (o : Option EntryView) → IsSound (option_and_then (λ (e : EntryView). find (λ (m : MappedModule). bytes_eq e.name m.name) ms) o)
sound_by ms h None = tt
sound_by ms h (Some e) = found_sound (λ (m : MappedModule). bytes_eq e.name m.name) ms h

same_rows : (m : MappedModule) → RecoversWithPlts m.table.functions m.functions → (memory : List Region) (asked : ℕ) (regs : Regs) → recover_by (found_at m.table.functions) memory asked regs ≡ recover_with_plts m.functions memory asked regs
unfolding recover_by_rows
same_rows m h memory asked regs = sym (undone (recover_by_rows m.table.functions memory asked regs)) ∙ ap (option_and_then if_whole) (h asked regs memory)

by_module : (memory : List Region) (asked : ℕ) (regs : Regs) (o : Option MappedModule) → IsSound o
    → recover_by (λ (pc : ℕ). option_and_then (λ (v : ModuleView). found_at v.table.functions pc) (option_map section_view o)) memory asked regs ≡ option_and_then (λ (m : MappedModule). recover_with_plts m.functions memory asked regs) o
by_module memory asked regs None h = refl
by_module memory asked regs (Some m) h = same_rows m h memory asked regs

pub recover_same : (entries : List EntryView) (ms : List MappedModule) → AreSound ms → (memory : List Region) (asked : ℕ) (regs : Regs)
    → recover_by (rows.found_in entries (map section_view ms)) memory asked regs ≡ recover_at entries ms memory asked regs
unfolding rows.found_in recover_at
recover_same entries ms h memory asked regs =
    ap (λ (o : Option ModuleView). recover_by (λ (pc : ℕ). option_and_then (λ (v : ModuleView). found_at v.table.functions pc) o) memory asked regs) (views_at entries ms asked)
    ∙ by_module memory asked regs (module_at entries ms asked) (sound_by ms h (find (entry_contains asked) entries))

-- ---- signal frames
abbrev pub signals_in : List MappedModule → List (List (Span SignalFrame))
signals_in ms = map (λ (m : MappedModule). m.signals) ms

by_number : (ms : List MappedModule) (pc : ℕ) (number : Option ℕ) (o : Option MappedModule) → IsWithin ms number → ((d : MappedModule) → o ≡ at_number ms number d)
    → option_and_then (λ (n : ℕ). answer_of (get_or (signals_in ms) n []) pc) number ≡ option_and_then (λ (m : MappedModule). answer_of m.signals pc) o
by_number [] pc None o within is = absurd_none o is
  where
    absurd_none : (o : Option MappedModule) → ((d : MappedModule) → o ≡ None) → None ≡ option_and_then (λ (m : MappedModule). answer_of m.signals pc) o
    absurd_none None is = refl
    absurd_none (Some m) is = absurd (let no : Some m ≡ None = is m in cc)
by_number [] pc (Some k) o within is = absurd (omega (within, arith))
by_number (m ∷ ms) pc None o within is = sym (ap (option_and_then (λ (m : MappedModule). answer_of m.signals pc)) (is m))
by_number (m ∷ ms) pc (Some k) o within is =
    ap (λ (ss : List (Span SignalFrame)). answer_of ss pc) (get_or-map (λ (m : MappedModule). m.signals) (m ∷ ms) k m [] within)
    ∙ sym (ap (option_and_then (λ (m : MappedModule). answer_of m.signals pc)) (is m))

pub signal_same : (entries : List EntryView) (ms : List MappedModule) (pc : ℕ) → listed.signal_at entries (map section_view ms) (signals_in ms) pc ≡ signal_at entries ms pc
unfolding listed.signal_at signal_at
signal_same entries ms pc =
    let h = numbered entries ms pc (module_number_at entries (map section_view ms) pc) refl in
    by_number ms pc (module_number_at entries (map section_view ms) pc) (module_at entries ms pc) h.0 h.1

-- ---- tables in their places
pub table_at : (ms : List MappedModule) (ts : List MappedTable) (k : ℕ) (m : MappedModule) (t : MappedTable) → AllZip IsTableOf ms ts → k < length ms → IsTableOf (get_or ms k m) (get_or ts k t)
table_at [] ts k m t h lt = absurd (omega (lt, arith))
table_at (x ∷ xs) [] k m t h lt = absurd h
table_at (x ∷ xs) (y ∷ ys) zero m t h lt = h.0
table_at (x ∷ xs) (y ∷ ys) (suc k) m t h lt = table_at xs ys k m t h.1 (omega (lt, arith))

pub as_many : (ms : List MappedModule) (ts : List MappedTable) → AllZip IsTableOf ms ts → length ms ≡ length ts
as_many [] [] h = refl
as_many [] (t ∷ ts) h = absurd h
as_many (m ∷ ms) [] h = absurd h
as_many (m ∷ ms) (t ∷ ts) h = ap suc (as_many ms ts h.1)

-- the signal frames of modules are those of their tables
pub signals_are : (ms : List MappedModule) (ts : List MappedTable) → AllZip IsTableOf ms ts → map (λ (t : MappedTable). t.table.signals.items) ts ≡ signals_in ms
signals_are [] [] h = refl
signals_are [] (t ∷ ts) h = absurd h
signals_are (m ∷ ms) [] h = absurd h
signals_are (m ∷ ms) (t ∷ ts) h =
    ap (λ (s : List (Span SignalFrame)). s ∷ map (λ (t : MappedTable). t.table.signals.items) ts) (sym h.0.signals)
    ∙ ap (λ (ss : List (List (Span SignalFrame))). m.signals ∷ ss) (signals_are ms ts h.1)

-- the module of a table in its place
pub module_there : (ms : List MappedModule) (ts : List MappedTable) (k : ℕ) (t : MappedTable) → AllZip IsTableOf ms ts → k < length ts → t ≡ get_or ts k t → (m : MappedModule) × IsTableOf m t
module_there [] [] k t are lt at = absurd (omega (lt, arith))
module_there [] (y ∷ ys) k t are lt at = absurd are
module_there (m ∷ ms) ts k t are lt at =
    let count = as_many (m ∷ ms) ts are in
    (get_or (m ∷ ms) k m, subst (λ (x : MappedTable). IsTableOf (get_or (m ∷ ms) k m) x) (sym at) (table_at (m ∷ ms) ts k m t are (omega (lt, count, arith))))

-- the module at an address, by the table of its number
pub module_of_number : (entries : List EntryView) (ms : List MappedModule) (ts : List MappedTable) (pc k : ℕ) (t : MappedTable) → AllZip IsTableOf ms ts → module_number_at entries (map section_view ms) pc ≡ Some k → t ≡ get_or ts k t
    → (m : MappedModule) × IsTableOf m t × (module_at entries ms pc ≡ Some m)
module_of_number entries [] ts pc k t are e at = let within = (numbered entries [] pc (Some k) e).0 in absurd (omega (within, arith))
module_of_number entries (m ∷ ms) ts pc k t are e at =
    let h = numbered entries (m ∷ ms) pc (Some k) e in
    (get_or (m ∷ ms) k m, subst (λ (x : MappedTable). IsTableOf (get_or (m ∷ ms) k m) x) (sym at) (table_at (m ∷ ms) ts k m t are h.0), h.1 m)

-- the module of a table that is shown as a module with its section
pub shown_with : (m : MappedModule) (t : MappedTable) (v : ModuleView) → IsTableOf m t → v.name ≡ t.mapped.entry.name.now → v.machine ≡ t.mapped.machine → v.table ≡ m.table → v ≡ section_view m
shown_with m t v is name machine table =
    ap (λ (n : List ℕ). let x : ModuleView = record { name = n; machine = v.machine; table = v.table } in x) (name ∙ sym is.name)
    ∙ ap (λ (a : Arch). let x : ModuleView = record { name = m.name; machine = a; table = v.table } in x) (machine ∙ sym is.machine)
    ∙ ap (λ (a : Table). let x : ModuleView = record { name = m.name; machine = m.machine; table = a } in x) table

-- one more section
pub one_more : (ms : List MappedModule) (ts : List MappedTable) (k : ℕ) (t : MappedTable) (views new : List Module) (v : Module) → AllZip IsTableOf ms ts → k < length ts → t ≡ get_or ts k t → new ≡ views ++ v ∷ []
    → ((m : MappedModule) → IsTableOf m t → module_view v ≡ section_view m) → map module_view views ≡ map section_view (take k ms) → map module_view new ≡ map section_view (take (k + 1) ms)
one_more ms ts k t views new v are lt at grown is h =
    let count = as_many ms ts are in
    let within : k < length ms = omega (lt, count, arith) in
    let d = (module_there ms ts k t are lt at).0 in
    let m = get_or ms k d in
    let of : IsTableOf m t = subst (λ (x : MappedTable). IsTableOf m x) (sym at) (table_at ms ts k d t are within) in
    ap (map module_view) grown ∙ map-append module_view views (v ∷ []) ∙ ap (λ (vs : List ModuleView). vs ++ module_view v ∷ []) h
    ∙ ap (λ (x : ModuleView). map section_view (take k ms) ++ x ∷ []) (is m of)
    ∙ sym (ap (map section_view) (take_more ms k d within) ∙ map-append section_view (take k ms) (m ∷ []))
