-- The module at an address, by its number.
use Rattle.std.specs.Prelude.{bytes_eq, nat_le, nat_lt}
use Rattle.std.specs.List.{find, position_from}
use Rattle.std.specs.Option.{option_and_then, option_map}
use Rattle.std.proofs.Common.{◌≡◌, ℕ, zero, suc, ◌+◌, ◌-◌, ◌<◌, ◌≤◌, Bool, true, false, cond, ◌&&◌, List, [], ◌∷◌, length, get_or, map, Option, Some, None, refl, sym, ap, ◌∙◌, arith, inl, inr}
use Rattle.std.proofs.lemmas.Bool.{cases_lt, leb-true, lt-ltb, le-ltb}
use Rattle.std.proofs.lemmas.List.{length-map}
use Rattle.sf_model.specs.Lookup.{found_at}
use Rattle.sf_model.specs.Table.{Table}
use Rattle.sf_lookup.specs.declared.span.Span.{Span}
use Rattle.sf_lookup.specs.Span.{answer_of, covers}
use Rattle.sf_modules.specs.Entry.{EntryView, entry_contains}
use Rattle.sf_modules.specs.Found.{found_in, module_at, module_of}
use Rattle.sf_modules.specs.Module.{ModuleView}
use Rattle.sf_modules.specs.Span.{module_number_at, number_of, entry_span}
use Rattle.sf_modules.specs.Union.{tables_of}

-- ---- an entry's span has its addresses
same_end : (start end pc : ℕ) → start ≤ pc → nat_lt pc (start + (end - start)) ≡ nat_lt pc end
same_end start end pc from =
    elim (cases_lt pc end) [
      | inl before ↦ lt-ltb pc (start + (end - start)) (omega (from, before, arith)) ∙ sym (lt-ltb pc end before)
      | inr after ↦ le-ltb pc (start + (end - start)) (omega (from, after, arith)) ∙ sym (le-ltb pc end after)
    ]

same_holds : (modules : List ModuleView) (e : EntryView) (pc : ℕ) → covers pc (entry_span modules e) ≡ entry_contains pc e
same_holds modules e pc = at_test (nat_le e.start pc) refl
  where
    at_test : (b : Bool) → nat_le e.start pc ≡ b → (b && nat_lt pc (e.start + (e.end - e.start))) ≡ (b && nat_lt pc e.end)
    at_test true t = same_end e.start e.end pc (leb-true e.start pc t)
    at_test false t = refl

-- what the first span leads to
pub led : (modules : List ModuleView) (entries : List EntryView) (pc : ℕ) → option_and_then (λ (o : Option ℕ). o) (answer_of (map (entry_span modules) entries) pc) ≡ module_number_at entries modules pc
led modules [] pc = refl
led modules (e ∷ es) pc = at_test (covers pc (entry_span modules e)) (entry_contains pc e) (same_holds modules e pc) (led modules es pc)
  where
    at_test : (a b : Bool) → a ≡ b → option_and_then (λ (o : Option ℕ). o) (answer_of (map (entry_span modules) es) pc) ≡ module_number_at es modules pc
        → option_and_then (λ (o : Option ℕ). o) (option_map (λ (s : Span (Option ℕ)). s.leads_to) (cond a (Some (entry_span modules e)) (find (covers pc) (map (entry_span modules) es))))
        ≡ option_and_then (λ (x : EntryView). number_of x.name modules) (cond b (Some e) (find (entry_contains pc) es))
    at_test true true same later = refl
    at_test false false same later = later
    at_test true false same later = absurd (cc)
    at_test false true same later = absurd (cc)

-- ---- the module of a number
-- the first that passes, by its place
pub record IsFirst {X : Type 0} (p : X → Bool) (first k : ℕ) (xs : List X) : Type 0 where
  pub from : first ≤ k
  pub within : (k - first) < length xs
  pub is : (d : X) → find p xs ≡ Some (get_or xs (k - first) d)

pub first_is : {X : Type 0} (p : X → Bool) (first k : ℕ) (xs : List X) → position_from p first xs ≡ Some k → IsFirst p first k xs
first_is p first k [] e = absurd (let no : None ≡ Some k = e in cc)
first_is p first k (x ∷ xs) e = at_test (p x) refl e (first_is p (first + 1) k xs)
  where
    at_test : (b : Bool) → p x ≡ b → cond b (Some first) (position_from p (first + 1) xs) ≡ Some k → (position_from p (first + 1) xs ≡ Some k → IsFirst p (first + 1) k xs) → IsFirst p first k (x ∷ xs)
    at_test true t here later =
        let same : first ≡ k = cc in
        let none : k - first ≡ 0 = omega (same, arith) in
        record {
          from = omega (same, arith);
          within = omega (none, arith);
          is = λ d. ap (λ (b : Bool). cond b (Some x) (find p xs)) t ∙ sym (ap (λ (n : ℕ). Some (get_or (x ∷ xs) n d)) none);
        }
    at_test false t here later =
        let h = later here in
        let from = h.from in
        let within = h.within in
        let next : k - first ≡ suc (k - (first + 1)) = omega (from, arith) in
        record {
          from = omega (from, arith);
          within = omega (within, next, arith);
          is = λ d. ap (λ (b : Bool). cond b (Some x) (find p xs)) t ∙ h.is d ∙ sym (ap (λ (n : ℕ). Some (get_or (x ∷ xs) n d)) next);
        }

pub none_passes : {X : Type 0} (p : X → Bool) (first : ℕ) (xs : List X) → position_from p first xs ≡ None → find p xs ≡ None
none_passes p first [] e = refl
none_passes p first (x ∷ xs) e = at_test (p x) refl e (none_passes p (first + 1) xs)
  where
    at_test : (b : Bool) → p x ≡ b → cond b (Some first) (position_from p (first + 1) xs) ≡ None → (position_from p (first + 1) xs ≡ None → find p xs ≡ None) → cond (p x) (Some x) (find p xs) ≡ None
    at_test true t here later = absurd (cc)
    at_test false t here later = ap (λ (b : Bool). cond b (Some x) (find p xs)) t ∙ later here

-- the module at an address, where it has a number, and where it has none
pub record IsNumbered (entries : List EntryView) (modules : List ModuleView) (pc k : ℕ) : Type 0 where
  pub within : k < length modules
  pub is : (d : ModuleView) → module_at entries modules pc ≡ Some (get_or modules k d)

numbered_by : (modules : List ModuleView) (k : ℕ) (o : Option EntryView) → option_and_then (λ (e : EntryView). number_of e.name modules) o ≡ Some k
    → (k < length modules) × ((d : ModuleView) → option_and_then (λ (e : EntryView). module_of modules e.name) o ≡ Some (get_or modules k d))
numbered_by modules k None e = absurd (let no : None ≡ Some k = e in cc)
numbered_by modules k (Some entry) e =
    let h = first_is (λ (m : ModuleView). bytes_eq entry.name m.name) 0 k modules e in
    let whole : k - 0 ≡ k = omega arith in
    let within = h.within in
    (omega (within, whole, arith), λ d. h.is d ∙ ap (λ (n : ℕ). Some (get_or modules n d)) whole)

pub numbered : (entries : List EntryView) (modules : List ModuleView) (pc k : ℕ) → module_number_at entries modules pc ≡ Some k → IsNumbered entries modules pc k
unfolding module_at
numbered entries modules pc k e = let h = numbered_by modules k (find (entry_contains pc) entries) e in record { within = h.0; is = h.1 }

unnumbered_by : (modules : List ModuleView) (o : Option EntryView) → option_and_then (λ (e : EntryView). number_of e.name modules) o ≡ None
    → option_and_then (λ (e : EntryView). module_of modules e.name) o ≡ None
unnumbered_by modules None e = refl
unnumbered_by modules (Some entry) e = none_passes (λ (m : ModuleView). bytes_eq entry.name m.name) 0 modules e

unnumbered : (entries : List EntryView) (modules : List ModuleView) (pc : ℕ) → module_number_at entries modules pc ≡ None → module_at entries modules pc ≡ None
unfolding module_at
unnumbered entries modules pc e = unnumbered_by modules (find (entry_contains pc) entries) e

-- the table of a module's number
table_at : (modules : List ModuleView) (k : ℕ) (m : ModuleView) (t : Table) → k < length modules → get_or (tables_of modules) k t ≡ (get_or modules k m).table
table_at [] k m t lt = absurd (omega (lt, arith))
table_at (n ∷ ns) zero m t lt = refl
table_at (n ∷ ns) (suc k) m t lt = table_at ns k m t (omega (lt, arith))

-- ---- what is found
pub nothing_found : (entries : List EntryView) (modules : List ModuleView) (pc : ℕ) → None ≡ module_number_at entries modules pc → None ≡ found_in entries modules pc
unfolding found_in
nothing_found entries modules pc e = sym (ap (λ (o : Option ModuleView). option_and_then (λ (m : ModuleView). found_at m.table.functions pc) o) (unnumbered entries modules pc (sym e)))

-- it is found in the table of that number
pub found_there : (entries : List EntryView) (modules : List ModuleView) (tables : List Table) (pc k : ℕ) (t : Table) → tables ≡ tables_of modules → Some k ≡ module_number_at entries modules pc → t ≡ get_or tables k t
    → found_at t.functions pc ≡ found_in entries modules pc
unfolding found_in
found_there entries modules tables pc k t are e at = by_module modules refl
  where
    n : IsNumbered entries modules pc k
    n = numbered entries modules pc k (sym e)

    by_module : (ms : List ModuleView) → ms ≡ modules → found_at t.functions pc ≡ option_and_then (λ (m : ModuleView). found_at m.table.functions pc) (module_at entries modules pc)
    by_module [] none = let within = n.within in let short = ap length none in absurd (omega (within, short, arith))
    by_module (m ∷ ms) some =
        let is : t ≡ (get_or modules k m).table = at ∙ ap (λ (ts : List Table). get_or ts k t) are ∙ table_at modules k m t n.within in
        ap (λ (x : Table). found_at x.functions pc) is ∙ sym (ap (option_and_then (λ (x : ModuleView). found_at x.table.functions pc)) (n.is m))

pub numbered_within : (entries : List EntryView) (modules : List ModuleView) (tables : List Table) (pc k : ℕ) → tables ≡ tables_of modules → Some k ≡ module_number_at entries modules pc → k < length tables
numbered_within entries modules tables pc k are e =
    let n = numbered entries modules pc k (sym e) in
    let within = n.within in
    let all = ap length are ∙ length-map modules (λ (m : ModuleView). m.table) in
    omega (within, all, arith)
