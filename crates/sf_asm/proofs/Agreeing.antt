-- What the kept functions' rows recover at an address is what DWARF recovers there, and so walks list the same frames.
use Rattle.std.specs.Option.{option_map}
use Rattle.std.specs.List.{filter, find, cons_option, AllByRecursion}
use Rattle.std.proofs.Common.{◌≡◌, ℕ, ◌-◌, ◌<◌, Bool, true, false, cond, List, [], ◌∷◌, map, Option, Some, None, Result, Ok, Err, refl, sym, ap, subst, ◌∙◌, arith, inl, inr}
use Rattle.std.proofs.lemmas.List.{map-id}
use Rattle.std.proofs.lemmas.List.Sorted.{All-permutation}
use Rattle.std.proofs.lemmas.List.Elements.{All-from_recursion, recursion_from_All}
use Rattle.sf_model.specs.declared.content.Content.{Content}
use Rattle.sf_model.specs.declared.function.Func.{Func}
use Rattle.sf_model.specs.declared.rows.Row.{Row}
use Rattle.sf_model.specs.declared.recovery.Regs.{Regs}
use Rattle.sf_model.specs.Memory.{Region}
use Rattle.sf_model.specs.Lookup.{FoundRow, contains, row_at, row_in, row_in_first, found_at}
use Rattle.sf_model.specs.Recovery.{recovery}
use Rattle.sf_model.specs.Walk.{recover_by_rows}
use Rattle.sf_model.specs.declared.omission.Omission.{Omission}
use Rattle.sf_model.specs.declared.omission.Reason.{Reason}
use Rattle.cfa_machine.specs.Recovery.{recovery_by_rules}
use Rattle.cfa_machine.specs.Registers.{return_address}
use Rattle.sf_express.specs.Offsets.{without_reason}
use Rattle.sf_express.specs.Alike.{defined}
use Rattle.sf_express.specs.Runs.{omission_of, rows_of, expressed, unless_omitted, function_of}
use Rattle.sf_express.proofs.Found.{SaysContent, row_said}
use Rattle.sf_express.proofs.Alike.{recovers_alike}
use Rattle.sf_express.proofs.Column.{own_column}
use Rattle.frame_functions.specs.declared.read_function.ReadFunction.{ReadFunction}
use Rattle.frame_functions.specs.declared.read_function.Expressed.{Expressed}
use Rattle.frame_functions.specs.declared.read_function.Expressed.TheVariants as outcome
use Rattle.frame_functions.specs.ReadFunction.{kept_in, kept_of, spans_of}
use Rattle.frame_functions.specs.Functions.{Function, holds_address}
use Rattle.frame_functions.specs.Kept.{full_row, row_contents, facts_of, outcome_by, read_of, is_kept, kept_functions}
use Rattle.frame_functions.specs.Order.{InOrder, are_apart}
use Rattle.sf_asm.specs.Linking.{overlap_in}
use Rattle.sf_asm.specs.Faithful.{recovered_in, recovered_at}
use Rattle.sf_model.proofs.Unions.{Member, OnePasses}
use Rattle.sf_asm.proofs.OneFound.{found_alike}
use Rattle.sf_asm.proofs.OneHolder.{IsWithin, fine, one_within, within, within_span}
use Rattle.sf_asm.proofs.Kept.{not_overlapping_apart}

-- ---- the kept function at an address, among the functions
abbrev pub expressed_of : Function → Func
expressed_of f = expressed (facts_of f) (row_contents f)

pub find_kept : (pc : ℕ) (fs : List Function) → find (contains pc) (kept_of (map read_of fs)) ≡ option_map expressed_of (find (holds_address pc) (kept_functions fs))
unfolding function_of
find_kept pc [] = refl
find_kept pc (f ∷ fs) = at_omission (omission_of f.arch (facts_of f) (row_contents f)) refl (find_kept pc fs)
  where
    at_address : (b : Bool) → holds_address pc f ≡ b → find (contains pc) (kept_of (map read_of fs)) ≡ option_map expressed_of (find (holds_address pc) (kept_functions fs))
        → find (contains pc) (expressed_of f ∷ kept_of (map read_of fs)) ≡ option_map expressed_of (find (holds_address pc) (f ∷ kept_functions fs))
    at_address true t others = rw t refl
    at_address false t others = rw t others

    at_omission : (omission : Option Omission) → omission_of f.arch (facts_of f) (row_contents f) ≡ omission → find (contains pc) (kept_of (map read_of fs)) ≡ option_map expressed_of (find (holds_address pc) (kept_functions fs))
        → find (contains pc) (kept_of (map read_of (f ∷ fs))) ≡ option_map expressed_of (find (holds_address pc) (kept_functions (f ∷ fs)))
    at_omission None e others = rw e (at_address (holds_address pc f) refl others)
    at_omission (Some omission) e others = rw e others

-- ---- the same among functions in order
abbrev kept_there : (pc : ℕ) → Expressed → Bool
kept_there pc (outcome.Kept f) = contains pc f
kept_there pc (outcome.LeftOut omission) = false

abbrev is_there : (pc : ℕ) → ReadFunction → Bool
is_there pc e = kept_there pc e.outcome

abbrev function_in_found : Option ReadFunction → Option Func
function_in_found None = None
function_in_found (Some e) = kept_in e.outcome

find_entry : (pc : ℕ) (es : List ReadFunction) → find (contains pc) (kept_of es) ≡ function_in_found (find (is_there pc) es)
find_entry pc [] = refl
find_entry pc (e ∷ es) = at_outcome e.outcome refl (find_entry pc es)
  where
    at_test : (f : Func) → e.outcome ≡ outcome.Kept f → (b : Bool) → contains pc f ≡ b → find (contains pc) (kept_of es) ≡ function_in_found (find (is_there pc) es)
        → find (contains pc) (f ∷ kept_of es) ≡ function_in_found (cond (contains pc f) (Some e) (find (is_there pc) es))
    at_test f is true t others = rw t (sym (ap kept_in is))
    at_test f is false t others = rw t others

    at_outcome : (o : Expressed) → e.outcome ≡ o → find (contains pc) (kept_of es) ≡ function_in_found (find (is_there pc) es) → find (contains pc) (kept_of (e ∷ es)) ≡ function_in_found (find (is_there pc) (e ∷ es))
    at_outcome (outcome.Kept f) is others =
        ap (λ (o : Expressed). find (contains pc) (cons_option (kept_in o) (kept_of es))) is ∙ at_test f is (contains pc f) refl others
        ∙ sym (ap (λ (o : Expressed). function_in_found (cond (kept_there pc o) (Some e) (find (is_there pc) es))) is)
    at_outcome (outcome.LeftOut omission) is others =
        ap (λ (o : Expressed). find (contains pc) (cons_option (kept_in o) (kept_of es))) is ∙ others
        ∙ sym (ap (λ (o : Expressed). function_in_found (cond (kept_there pc o) (Some e) (find (is_there pc) es))) is)

-- a kept function has the addresses of its span
abbrev HasSpan : Expressed → (start size : ℕ) → Type 0
HasSpan (outcome.Kept f) start size = (f.start ≡ start) × (f.size ≡ size)
HasSpan (outcome.LeftOut omission) start size = Unit {0}

abbrev IsSpanned : ReadFunction → Type 0
IsSpanned e = HasSpan e.outcome e.span.start e.span.size

outcome_spanned : (f : Function) (omission : Option Omission) → HasSpan (outcome_by (unless_omitted omission (expressed_of f))) f.start f.size
outcome_spanned f None = (refl, refl)
outcome_spanned f (Some omission) = tt

all_spanned : (fs : List Function) → AllByRecursion IsSpanned (map read_of fs)
unfolding function_of
all_spanned [] = tt
all_spanned (f ∷ fs) = (outcome_spanned f (omission_of f.arch (facts_of f) (row_contents f)), all_spanned fs)

there_within : (pc : ℕ) (o : Expressed) (start size : ℕ) → HasSpan o start size → kept_there pc o ≡ true → IsWithin pc start size
there_within pc (outcome.Kept f) start size h t = rw (sym h.0, sym h.1) (within_span pc f.start f.size t)
there_within pc (outcome.LeftOut omission) start size h t = cc

spanned_there : (es : List ReadFunction) → AllByRecursion IsSpanned es → (e : ReadFunction) → Member es e → IsSpanned e
spanned_there [] h e m = absurd m
spanned_there (d ∷ es) h e (inl is) = subst IsSpanned is h.0
spanned_there (d ∷ es) h e (inr m) = spanned_there es h.1 e m

one_is_there : (pc : ℕ) (es : List ReadFunction) → AllByRecursion IsSpanned es → are_apart 0 es ≡ true → OnePasses (is_there pc) es
one_is_there pc es spanned h =
    one_within (λ (e : ReadFunction). e) (is_there pc) pc 0 es (λ e m t. there_within pc e.outcome e.span.start e.span.size (spanned_there es spanned e m) t)
    (subst (λ (all : List ReadFunction). are_apart 0 all ≡ true) (sym (map-id es)) h)

-- the kept function at an address, among functions in order
find_in_order : (pc : ℕ) (fs : List Function) (ordered : List ReadFunction) → InOrder (map read_of fs) ordered → overlap_in (spans_of ordered) ≡ None
    → find (contains pc) (kept_of ordered) ≡ option_map expressed_of (find (holds_address pc) (kept_functions fs))
find_in_order pc fs ordered order apart =
    let spanned = All-permutation IsSpanned (map read_of fs) ordered order.moved (All-from_recursion IsSpanned (map read_of fs) (all_spanned fs)) in
    let one = one_is_there pc ordered (recursion_from_All IsSpanned ordered spanned) (not_overlapping_apart ordered apart) in
    find_entry pc ordered ∙ sym (ap function_in_found (found_alike (is_there pc) (map read_of fs) ordered order.moved one)) ∙ sym (find_entry pc (map read_of fs)) ∙ find_kept pc fs

-- ---- one function
-- what a row that is found recovers
recovered_row : (f : Function) (o : ℕ) (found : Option Row) (said : Result Content Reason) (regs : Regs) (memory : List Region) → f.column ≡ return_address f.arch → row_contents f o ≡ said → SaysContent said → without_reason (option_map (λ (r : Row). r.content) found) ≡ Some said
    → option_map defined (option_map (λ (x : FoundRow). recovery x.row.content x.func.key regs memory) (option_map (λ (row : Row). record { func = expressed_of f; row = row }) found))
    ≡ Some (recovery_by_rules f.arch f.column (full_row f o) f.key regs memory)
recovered_row f o None said regs memory own e fine h = cc
recovered_row f o (Some row) (Err reason) regs memory own e fine h = absurd fine
recovered_row f o (Some row) (Ok c) regs memory own e fine h =
    let is : row.content ≡ c = cc in
    let alike = recovers_alike f.arch o (full_row f o) c e in
    ap (λ (x : Content). Some (defined (recovery x f.key regs memory))) is ∙ sym (ap Some (alike.alike f.key regs memory))
    ∙ ap (λ (column : ℕ). Some (recovery_by_rules f.arch column (full_row f o) f.key regs memory)) (sym own)

pub function_recovers : (f : Function) (pc : ℕ) (regs : Regs) (memory : List Region) → is_kept f ≡ true → holds_address pc f ≡ true
    → option_map defined (option_map (λ (x : FoundRow). recovery x.row.content x.func.key regs memory) (row_in pc (expressed_of f))) ≡ Some (recovered_in memory pc regs f)
function_recovers f pc regs memory kept holds =
    let w = within pc f holds in
    let lt : pc - f.start < f.size = omega (arith, w.from, w.to) in
    let h = fine f kept in
    recovered_row f (pc - f.start) (row_at (pc - f.start) (rows_of (row_contents f) f.size)) (row_contents f (pc - f.start)) regs memory (own_column f.arch (facts_of f) h.whole) refl (h.rows (pc - f.start) lt) (row_said (row_contents f) f.size h.rows (pc - f.start) lt)

-- what passes a search
pub found_passes : (p q : Function → Bool) (fs : List Function) (f : Function) → find p (filter q fs) ≡ Some f → (p f ≡ true) × (q f ≡ true)
found_passes p q [] f e = cc
found_passes p q (g ∷ fs) f e = at_second (q g) refl e (found_passes p q fs f)
  where
    at_first : (b : Bool) → p g ≡ b → q g ≡ true → cond b (Some g) (find p (filter q fs)) ≡ Some f → (find p (filter q fs) ≡ Some f → (p f ≡ true) × (q f ≡ true)) → (p f ≡ true) × (q f ≡ true)
    at_first true t s e later = let is : g ≡ f = cc in (ap p (sym is) ∙ t, ap q (sym is) ∙ s)
    at_first false t s e later = later e

    at_second : (b : Bool) → q g ≡ b → find p (cond b (g ∷ filter q fs) (filter q fs)) ≡ Some f → (find p (filter q fs) ≡ Some f → (p f ≡ true) × (q f ≡ true)) → (p f ≡ true) × (q f ≡ true)
    at_second true s e later = at_first (p g) refl s e later
    at_second false s e later = later e

-- ---- the section
at_found : (found : Option Function) (pc : ℕ) (regs : Regs) (memory : List Region) → ((f : Function) → found ≡ Some f → (holds_address pc f ≡ true) × (is_kept f ≡ true))
    → option_map defined (option_map (λ (x : FoundRow). recovery x.row.content x.func.key regs memory) (row_in_first pc (option_map expressed_of found))) ≡ option_map (recovered_in memory pc regs) found
at_found None pc regs memory h = refl
at_found (Some f) pc regs memory h = let passes = h f refl in function_recovers f pc regs memory passes.1 passes.0

pub recovers_by_dwarf : (fs : List Function) (ordered : List ReadFunction) → InOrder (map read_of fs) ordered → overlap_in (spans_of ordered) ≡ None → (pc : ℕ) (regs : Regs) (memory : List Region)
    → option_map defined (recover_by_rows (kept_of ordered) memory pc regs) ≡ recovered_at fs memory pc regs
unfolding recover_by_rows recovered_at found_at
recovers_by_dwarf fs ordered order apart pc regs memory =
    ap (λ (f : Option Func). option_map defined (option_map (λ (x : FoundRow). recovery x.row.content x.func.key regs memory) (row_in_first pc f))) (find_in_order pc fs ordered order apart)
    ∙ at_found (find (holds_address pc) (kept_functions fs)) pc regs memory (λ f e. found_passes (holds_address pc) is_kept fs f e)
