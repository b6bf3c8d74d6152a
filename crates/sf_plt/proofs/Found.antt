-- What is written of functions recovers at each address what it should.
use Rattle.std.specs.Prelude.{nat_le, nat_lt, not}
use Rattle.std.specs.Option.{option_map, option_or}
use Rattle.std.specs.List.{filter, find}
use Rattle.std.specs.List.Sorted.{IsPermutation}
use Rattle.std.proofs.Common.{◌≡◌, ℕ, ◌+◌, ◌<◌, ◌≤◌, Bool, true, false, cond, ◌&&◌, List, [], ◌∷◌, map, Option, Some, None, refl, sym, ap, subst, ◌∙◌, arith, inl, inr}
use Rattle.std.proofs.lemmas.Bool.{leb-true}
use Rattle.std.proofs.lemmas.Bool.Decides.{nat_tests}
use Rattle.sf_model.specs.declared.content.Content.{Content}
use Rattle.sf_model.specs.declared.function.Func.{Func}
use Rattle.sf_model.specs.declared.recovery.Regs.{Regs}
use Rattle.sf_model.specs.Lookup.{contains, found_at, row_in_first}
use Rattle.sf_model.specs.Memory.{Region}
use Rattle.sf_model.specs.Walk.{recover_by_rows}
use Rattle.cfa_machine.specs.Recovery.{RuleRecovery}
use Rattle.frame_functions.specs.Functions.{holds_address, Function}
use Rattle.sf_asm.specs.Faithful.{recovered_at, recovered_in}
use Rattle.frame_functions.specs.Kept.{read_of, is_kept, kept_functions}
use Rattle.frame_functions.specs.Order.{are_apart}
use Rattle.sf_asm.proofs.Agreeing.{function_recovers}
use Rattle.sf_model.proofs.Unions.{Member, OnePasses}
use Rattle.sf_asm.proofs.OneFound.{found_alike}
use Rattle.sf_plt.specs.Answers.{RecoversWithPlts}
use Rattle.sf_plt.specs.Plt.{is_plt, plt_functions, recovered_in_plt}
use Rattle.sf_plt.specs.Written.{first_entry, later_entries, pair_by, recovered_with_plts, written_functions}
use Rattle.sf_plt.proofs.Apart.{later_of, sized_goes}
use Rattle.sf_plt.proofs.Cases.{Case, IsKept, IsTable, Lists, kept_case, table_case, other_case, case_of, expressed_of, kept_lists, table_lists, other_lists}
use Rattle.sf_plt.proofs.Form.{both, plt_form}
use Rattle.sf_plt.proofs.Recovers.{recovered_by, table_recovers, within}

-- ---- functions of which no two share an address
outside : (pc end : ℕ) (f : Function) → pc < end → end ≤ f.start → holds_address pc f ≡ false
outside pc end f lt le = at_tests (nat_le f.start pc) refl
  where
    at_tests : (b : Bool) → nat_le f.start pc ≡ b → (b && nat_lt pc (f.start + f.size)) ≡ false
    at_tests false t = refl
    at_tests true t = let below = leb-true f.start pc t in absurd (omega (arith, lt, le, below))

-- an address before the first of them is in none
none_holds : (pc end : ℕ) (fs : List Function) → pc < end → are_apart end (map read_of fs) ≡ true → (x : Function) → Member fs x → holds_address pc x ≡ true → ⊥
none_holds pc end [] lt h x m t = m
none_holds pc end (f ∷ fs) lt h x (inl is) t =
    let w = within pc x.start x.size t in
    let some : 0 < x.size = omega (arith, w.0, w.1) in
    let goes = sized_goes end f fs (subst (λ (g : Function). 0 < g.size) (sym is) some) h in
    let from : end ≤ x.start = subst (λ (g : Function). end ≤ g.start) is goes.from in
    omega (arith, lt, from, w.0)
none_holds pc end (f ∷ fs) lt h x (inr m) t =
    let later = later_of end f fs h in
    none_holds pc later.least fs (omega (arith, lt, later.above)) later.apart x m t

pub one_holds : (pc end : ℕ) (fs : List Function) → are_apart end (map read_of fs) ≡ true → OnePasses (holds_address pc) fs
one_holds pc end [] h = λ x y m n s t. absurd m
one_holds pc end (f ∷ fs) h = λ x y m n s t. at_members x y m n s t (let later = later_of end f fs h in one_holds pc later.least fs later.apart)
  where
    first_and_later : (x y : Function) → f ≡ x → Member fs y → holds_address pc x ≡ true → holds_address pc y ≡ true → ⊥
    first_and_later x y is m s t =
        let w = within pc x.start x.size s in
        let some : 0 < x.size = omega (arith, w.0, w.1) in
        let goes = sized_goes end f fs (subst (λ (g : Function). 0 < g.size) (sym is) some) h in
        none_holds pc (f.start + f.size) fs (subst (λ (g : Function). pc < g.start + g.size) (sym is) w.1) goes.on y m t

    at_members : (x y : Function) → Member (f ∷ fs) x → Member (f ∷ fs) y → holds_address pc x ≡ true → holds_address pc y ≡ true → OnePasses (holds_address pc) fs → x ≡ y
    at_members x y (inl a) (inl b) s t others = sym a ∙ b
    at_members x y (inl a) (inr n) s t others = absurd (first_and_later x y a n s t)
    at_members x y (inr m) (inl b) s t others = absurd (first_and_later y x b m t s)
    at_members x y (inr m) (inr n) s t others = others x y m n s t

-- ---- searches of filtered lists
find_filter : {X : Type 0} (p q : X → Bool) (xs : List X) → find p (filter q xs) ≡ find (λ x. q x && p x) xs
find_filter p q [] = refl
find_filter {X} p q (x ∷ xs) = at_test (q x) (find_filter p q xs)
  where
    at_test : (b : Bool) → find p (filter q xs) ≡ find (λ x. q x && p x) xs → find p (cond b (x ∷ filter q xs) (filter q xs)) ≡ cond (b && p x) (Some x) (find (λ x. q x && p x) xs)
    at_test true h = ap (λ (r : Option X). cond (p x) (Some x) r) h
    at_test false h = h

one_of : {X : Type 0} (p q : X → Bool) (xs : List X) → OnePasses p xs → OnePasses (λ x. q x && p x) xs
one_of p q xs one = λ x y m n s t. one x y m n (both (q x) (p x) s).1 (both (q y) (p y) t).1

-- in a filtered list of the same functions in another order
found_filtered : (p q : Function → Bool) (xs ys : List Function) → IsPermutation xs ys → OnePasses p ys → find p (filter q xs) ≡ find p (filter q ys)
found_filtered p q xs ys same one = find_filter p q xs ∙ found_alike (λ x. q x && p x) xs ys same (one_of p q ys one) ∙ sym (find_filter p q ys)

found_twice : (p q r : Function → Bool) (xs ys : List Function) → IsPermutation xs ys → OnePasses p ys → find p (filter q (filter r xs)) ≡ find p (filter q (filter r ys))
found_twice p q r xs ys same one =
    find_filter p q (filter r xs) ∙ found_filtered (λ x. q x && p x) r xs ys same (one_of p q ys one) ∙ sym (find_filter p q (filter r ys))

-- ---- one function more
no_member : (p : Function → Bool) (fs : List Function) → ((x : Function) → Member fs x → p x ≡ true → ⊥) → (q : Function → Bool) → find p (filter q fs) ≡ None
no_member p [] h q = refl
no_member p (f ∷ fs) h q = at_tests (q f) (p f) refl (no_member p fs (λ x m t. h x (inr m) t) q)
  where
    at_tests : (a b : Bool) → p f ≡ b → find p (filter q fs) ≡ None → find p (cond a (f ∷ filter q fs) (filter q fs)) ≡ None
    at_tests true true t rest = absurd (h f (inl refl) t)
    at_tests true false t rest = ap (λ (x : Bool). cond x (Some f) (find p (filter q fs))) t ∙ rest
    at_tests false b t rest = rest

abbrev recovered_of : List Func → (pc : ℕ) → Regs → List Region → Option RuleRecovery
recovered_of gs pc regs memory = recovered_by regs memory (row_in_first pc (find (contains pc) gs))

abbrev by_functions : List Function → (tables : List Function) → (pc : ℕ) → Regs → List Region → Option RuleRecovery
by_functions kept tables pc regs memory =
    option_or (option_map (recovered_in memory pc regs) (find (holds_address pc) kept)) (option_map (recovered_in_plt memory pc regs) (find (holds_address pc) tables))

-- the two functions at the front
found_front : (pc : ℕ) (regs : Regs) (memory : List Region) (a b : Func) (gs : List Func) (r : RuleRecovery) → recovered_of (a ∷ b ∷ []) pc regs memory ≡ Some r → recovered_of (a ∷ b ∷ gs) pc regs memory ≡ Some r
found_front pc regs memory a b gs r e = at_tests (contains pc a) (contains pc b) e
  where
    at_tests : (s t : Bool) → recovered_by regs memory (row_in_first pc (cond s (Some a) (cond t (Some b) None))) ≡ Some r → recovered_by regs memory (row_in_first pc (cond s (Some a) (cond t (Some b) (find (contains pc) gs)))) ≡ Some r
    at_tests true t e = e
    at_tests false true e = e
    at_tests false false e = cc

not_front : (pc : ℕ) (regs : Regs) (memory : List Region) (f : Function) (content : Content) (gs : List Func) → 16 < f.size → holds_address pc f ≡ false → recovered_of (first_entry f content ∷ later_entries f content ∷ gs) pc regs memory ≡ recovered_of gs pc regs memory
not_front pc regs memory f content gs above out =
    ap (λ (b : Bool). recovered_by regs memory (row_in_first pc (cond b (Some (first_entry f content)) (find (contains pc) (later_entries f content ∷ gs))))) first
    ∙ ap (λ (b : Bool). recovered_by regs memory (row_in_first pc (cond b (Some (later_entries f content)) (find (contains pc) gs)))) second
  where
    first : contains pc (first_entry f content) ≡ false
    first = grind (arith, nat_tests)

    second : contains pc (later_entries f content) ≡ false
    second = grind (arith, nat_tests)

-- ---- all functions
pub written_recovers : (end : ℕ) (fs : List Function) → are_apart end (map read_of fs) ≡ true → (pc : ℕ) (regs : Regs) (memory : List Region)
    → recovered_of (written_functions fs) pc regs memory ≡ by_functions (kept_functions fs) (plt_functions fs) pc regs memory
written_recovers end [] h pc regs memory = refl
written_recovers end (f ∷ fs) h pc regs memory = at_case (case_of f) (λ least apart. written_recovers least fs apart pc regs memory)
  where
    shown : (written kept : List Func) (kept_fs tables : List Function) → Lists f fs written kept kept_fs tables → recovered_of written pc regs memory ≡ by_functions kept_fs tables pc regs memory
        → recovered_of (written_functions (f ∷ fs)) pc regs memory ≡ by_functions (kept_functions (f ∷ fs)) (plt_functions (f ∷ fs)) pc regs memory
    shown written kept kept_fs tables lists e =
        ap (λ (gs : List Func). recovered_of gs pc regs memory) lists.written_is ∙ e
        ∙ sym (ap (λ (ks : List Function). by_functions ks (plt_functions (f ∷ fs)) pc regs memory) lists.kept_functions_are ∙ ap (λ (ts : List Function). by_functions kept_fs ts pc regs memory) lists.tables_are)

    of_kept : IsKept f → (b : Bool) → holds_address pc f ≡ b → recovered_of (written_functions fs) pc regs memory ≡ by_functions (kept_functions fs) (plt_functions fs) pc regs memory
        → recovered_of (expressed_of f ∷ written_functions fs) pc regs memory ≡ by_functions (f ∷ kept_functions fs) (plt_functions fs) pc regs memory
    of_kept k true t rest =
        ap (λ (b : Bool). recovered_by regs memory (row_in_first pc (cond b (Some (expressed_of f)) (find (contains pc) (written_functions fs))))) t
        ∙ function_recovers f pc regs memory k.kept t
        ∙ sym (ap (λ (b : Bool). option_or (option_map (recovered_in memory pc regs) (cond b (Some f) (find (holds_address pc) (kept_functions fs)))) (option_map (recovered_in_plt memory pc regs) (find (holds_address pc) (plt_functions fs)))) t)
    of_kept k false t rest =
        ap (λ (b : Bool). recovered_by regs memory (row_in_first pc (cond b (Some (expressed_of f)) (find (contains pc) (written_functions fs))))) t
        ∙ rest
        ∙ sym (ap (λ (b : Bool). option_or (option_map (recovered_in memory pc regs) (cond b (Some f) (find (holds_address pc) (kept_functions fs)))) (option_map (recovered_in_plt memory pc regs) (find (holds_address pc) (plt_functions fs)))) t)

    of_table : (t : IsTable f) → 16 < f.size → are_apart (f.start + f.size) (map read_of fs) ≡ true → (b : Bool) → holds_address pc f ≡ b → recovered_of (written_functions fs) pc regs memory ≡ by_functions (kept_functions fs) (plt_functions fs) pc regs memory
        → recovered_of (first_entry f t.content ∷ later_entries f t.content ∷ written_functions fs) pc regs memory ≡ by_functions (kept_functions fs) (f ∷ plt_functions fs) pc regs memory
    of_table t above on true holds rest =
        let w = within pc f.start f.size holds in
        let pair = ap (λ (x : Option Content). recovered_of (pair_by f x) pc regs memory) (sym t.content_is) ∙ table_recovers f pc regs memory t.table holds in
        let none = no_member (holds_address pc) fs (λ x m s. none_holds pc (f.start + f.size) fs w.1 on x m s) is_kept in
        found_front pc regs memory (first_entry f t.content) (later_entries f t.content) (written_functions fs) (recovered_in_plt memory pc regs f) pair
        ∙ sym (ap (λ (k : Option Function). option_or (option_map (recovered_in memory pc regs) k) (option_map (recovered_in_plt memory pc regs) (find (holds_address pc) (f ∷ plt_functions fs)))) none
        ∙ ap (λ (b : Bool). option_map (recovered_in_plt memory pc regs) (cond b (Some f) (find (holds_address pc) (plt_functions fs)))) holds)
    of_table t above on false out rest =
        not_front pc regs memory f t.content (written_functions fs) above out ∙ rest
        ∙ sym (ap (λ (b : Bool). option_or (option_map (recovered_in memory pc regs) (find (holds_address pc) (kept_functions fs))) (option_map (recovered_in_plt memory pc regs) (cond b (Some f) (find (holds_address pc) (plt_functions fs))))) out)

    at_case : Case f → ((least : ℕ) → are_apart least (map read_of fs) ≡ true → recovered_of (written_functions fs) pc regs memory ≡ by_functions (kept_functions fs) (plt_functions fs) pc regs memory)
        → recovered_of (written_functions (f ∷ fs)) pc regs memory ≡ by_functions (kept_functions (f ∷ fs)) (plt_functions (f ∷ fs)) pc regs memory
    at_case (kept_case k) others =
        let later = later_of end f fs h in
        shown _ _ _ _ (kept_lists f fs k) (of_kept k (holds_address pc f) refl (others later.least later.apart))
    at_case (table_case t) others =
        let above : 16 < f.size = (plt_form f t.table).above in
        let goes = sized_goes end f fs (omega (arith, above)) h in
        shown _ _ _ _ (table_lists f fs t) (of_table t above goes.on (holds_address pc f) refl (others (f.start + f.size) goes.on))
    at_case (other_case o) others =
        let later = later_of end f fs h in
        shown _ _ _ _ (other_lists f fs o) (others later.least later.apart)

-- of functions by rising start that are apart
pub recovers_with_plts : (functions sorted : List Function) → IsPermutation functions sorted → are_apart 0 (map read_of sorted) ≡ true → RecoversWithPlts (written_functions sorted) functions
unfolding recover_by_rows found_at recovered_at recovered_with_plts
recovers_with_plts functions sorted same apart address regs memory =
    let one = one_holds address 0 sorted apart in
    written_recovers 0 sorted apart address regs memory
    ∙ sym (ap (λ (k : Option Function). option_or (option_map (recovered_in memory address regs) k) (option_map (recovered_in_plt memory address regs) (find (holds_address address) (plt_functions functions)))) (found_filtered (holds_address address) is_kept functions sorted same one)
    ∙ ap (λ (t : Option Function). option_or (option_map (recovered_in memory address regs) (find (holds_address address) (kept_functions sorted))) (option_map (recovered_in_plt memory address regs) t)) (found_twice (holds_address address) is_plt (λ (f : Function). not (is_kept f)) functions sorted same one))
