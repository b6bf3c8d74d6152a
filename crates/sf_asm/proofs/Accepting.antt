-- Inputs can be gathered exactly where gathering them comes to functions in order, and linked exactly where linking them does.
use Rattle.std.specs.Prelude.{nat_le, nat_lt}
use Rattle.std.specs.Option.{option_map}
use Rattle.std.specs.List.Sorted.{IsNonDecreasingBy}
use Rattle.std.proofs.Common.{◌≡◌, ℕ, suc, ◌+◌, ◌^◌, ◌<◌, ◌≤◌, Bool, true, false, cond, ◌&&◌, eqb, leb, List, [], ◌∷◌, length, map, sum_by, Option, Some, None, Result, Ok, Err, refl, sym, ap, subst, ◌∙◌, arith}
use Rattle.std.proofs.lemmas.Bool.{leb-true, ltb-true, le-leb, lt-ltb, eqb-true}
use Rattle.std.proofs.lemmas.Bool.Decides.{nat_tests}
use Rattle.std.proofs.lemmas.List.{length-map}
use Rattle.std.proofs.lemmas.List.Sums.{sum_by-cons}
use Rattle.std.proofs.lemmas.List.Sorted.{sum_by-IsPermutation, length_permutation}
use Rattle.sf_model.specs.declared.machine.Arch.{Arch}
use Rattle.sf_model.specs.declared.omission.Span.{Span}
use Rattle.sf_write.specs.Reach.{first_out_of_reach}
use Rattle.frame_functions.specs.declared.read_function.ReadFunction.{ReadFunction}
use Rattle.sf_asm.specs.declared.fault.GatherFault.{GatherFault}
use Rattle.sf_asm.specs.declared.fault.LinkFault.{LinkFault}
use Rattle.sf_asm.specs.declared.fault.LinkFault.TheVariants as link
use Rattle.sf_asm.specs.Accepted.{has_address, how_many_at, CanBeGathered, IsAccepted}
use Rattle.frame_functions.specs.ReadFunction.{kept_of, spans_of}
use Rattle.frame_functions.specs.Functions.{Function}
use Rattle.sf_asm.specs.Functions.{Object, functions_of}
use Rattle.sf_asm.specs.Inputs.{all_functions, first_item, machines_of, mixed_fault}
use Rattle.frame_functions.specs.Kept.{read_of}
use Rattle.frame_functions.specs.Order.{InOrder, start_of, are_apart, read_rows}
use Rattle.sf_asm.specs.Linking.{Gathers, GathersFrom, Links, LinksFrom, functions_fault, limits_fault, link_fault, or_later, overlap, overlap_after, overlap_fault, overlap_in, overlap_with, unless_fault}
use Rattle.sf_functions.proofs.ByStart.{by_key, in_order}
use Rattle.sf_asm.proofs.Described.{describe, described, from_gathers, from_links, to_gathers, to_links}
use Rattle.sf_asm.proofs.GatheredInputs.{are_read, by_parts, parts_of}
use Rattle.sf_asm.proofs.Kept.{not_overlapping_apart}
use Rattle.sf_asm.proofs.Limits.{within_limits, few_functions, few_rows}
use Rattle.sf_asm.proofs.Machines.{is_one, one_is_unmixed}
use Rattle.sf_asm.proofs.OverlapLaws.{overlap_begins, overlap_passes, overlap_goes_on}

both : (a b : Bool) → (a && b) ≡ true → (a ≡ true) × (b ≡ true)
both true b e = (refl, e)
both false b e = cc

-- ---- functions that are apart share no address
abbrev one_if : Bool → ℕ
one_if b = cond b 1 0

abbrev one_at : (address : ℕ) → ReadFunction → ℕ
one_at address e = one_if (has_address address e.span)

count_cons : (address : ℕ) (e : ReadFunction) (es : List ReadFunction) → how_many_at address (e ∷ es) ≡ one_at address e + how_many_at address es
count_cons address e es = sum_by-cons (one_at address) e es

none_before : (address end : ℕ) (es : List ReadFunction) → are_apart end es ≡ true → address < end → how_many_at address es ≡ 0
none_before address end [] h lt = refl
none_before address end (e ∷ es) h lt =
    count_cons address e es ∙ at_size (eqb e.span.size 0) refl h (λ rest. none_before address end es rest lt) (λ rest less. none_before address (e.span.start + e.span.size) es rest less)
  where
    not_here : (b : Bool) → has_address address e.span ≡ b → (b ≡ true → ⊥) → one_if b ≡ 0
    not_here true t h = absurd (h refl)
    not_here false t h = refl

    at_size : (b : Bool) → eqb e.span.size 0 ≡ b → cond b (are_apart end es) (leb end e.span.start && are_apart (e.span.start + e.span.size) es) ≡ true
        → (are_apart end es ≡ true → how_many_at address es ≡ 0) → (are_apart (e.span.start + e.span.size) es ≡ true → address < e.span.start + e.span.size → how_many_at address es ≡ 0)
        → one_at address e + how_many_at address es ≡ 0
    at_size true t h skipped behind =
        let none : e.span.size ≡ 0 = eqb-true e.span.size 0 t in
        let rest = skipped h in
        let here = not_here (has_address address e.span) refl (λ s. let two = both (nat_le e.span.start address) (nat_lt address (e.span.start + e.span.size)) s in
        let low = leb-true e.span.start address two.0 in let high = ltb-true address (e.span.start + e.span.size) two.1 in omega (arith, low, high, none)) in
        omega (arith, here, rest)
    at_size false t h skipped behind =
        let two = both (leb end e.span.start) (are_apart (e.span.start + e.span.size) es) h in
        let low = leb-true end e.span.start two.0 in
        let rest = behind two.1 (omega (arith, low, lt)) in
        let here = not_here (has_address address e.span) refl (λ s. let tests = both (nat_le e.span.start address) (nat_lt address (e.span.start + e.span.size)) s in
        let from = leb-true e.span.start address tests.0 in omega (arith, from, low, lt)) in
        omega (arith, here, rest)

one_at_most : (address end : ℕ) (es : List ReadFunction) → are_apart end es ≡ true → how_many_at address es ≤ 1
one_at_most address end [] h = omega arith
one_at_most address end (e ∷ es) h =
    subst (λ (n : ℕ). n ≤ 1) (sym (count_cons address e es))
    (at_size (eqb e.span.size 0) refl h (λ rest. one_at_most address end es rest) (λ rest. one_at_most address (e.span.start + e.span.size) es rest) (λ rest less. none_before address (e.span.start + e.span.size) es rest less))
  where
    at_here : (b : Bool) → has_address address e.span ≡ b → how_many_at address es ≤ 1 → (b ≡ true → how_many_at address es ≡ 0) → one_if b + how_many_at address es ≤ 1
    at_here true t most none = let z = none refl in omega (arith, z)
    at_here false t most none = omega (arith, most)

    at_size : (b : Bool) → eqb e.span.size 0 ≡ b → cond b (are_apart end es) (leb end e.span.start && are_apart (e.span.start + e.span.size) es) ≡ true
        → (are_apart end es ≡ true → how_many_at address es ≤ 1) → (are_apart (e.span.start + e.span.size) es ≡ true → how_many_at address es ≤ 1)
        → (are_apart (e.span.start + e.span.size) es ≡ true → address < e.span.start + e.span.size → how_many_at address es ≡ 0)
        → one_at address e + how_many_at address es ≤ 1
    at_size true t h skipped most none =
        let empty : e.span.size ≡ 0 = eqb-true e.span.size 0 t in
        at_here (has_address address e.span) refl (skipped h) (λ s. let two = both (nat_le e.span.start address) (nat_lt address (e.span.start + e.span.size)) s in
        let low = leb-true e.span.start address two.0 in let high = ltb-true address (e.span.start + e.span.size) two.1 in absurd (omega (arith, low, high, empty)))
    at_size false t h skipped most none =
        let rest = (both (leb end e.span.start) (are_apart (e.span.start + e.span.size) es) h).1 in
        at_here (has_address address e.span) refl (most rest) (λ s. none rest (ltb-true address (e.span.start + e.span.size) (both (nat_le e.span.start address) (nat_lt address (e.span.start + e.span.size)) s).1))

-- ---- functions by rising start that share no address don't overlap
abbrev counted_with : (address : ℕ) → Option Span → List ReadFunction → ℕ
counted_with address None es = how_many_at address es
counted_with address (Some before) es = one_if (has_address address before) + how_many_at address es

-- no function starts before this address
abbrev StartFrom : ℕ → List ReadFunction → Type 0
StartFrom least [] = Unit {0}
StartFrom least (e ∷ es) = (least ≤ e.span.start) × StartFrom e.span.start es

abbrev start_of_span : Option Span → ℕ
start_of_span None = 0
start_of_span (Some span) = span.start

has_first : (span : Span) → 0 < span.size → has_address span.start span ≡ true
has_first span some = rw (le-leb span.start span.start (omega arith), lt-ltb span.start (span.start + span.size) (omega (arith, some))) refl

some_size : (size : ℕ) → eqb size 0 ≡ false → 0 < size
some_size size e = grind (arith, nat_tests)

-- a function that overlaps the one before shares its own start with it
shares_start : (before span : Span) → before.start ≤ span.start → overlap (before, span) ≡ true → has_address span.start before ≡ true
shares_start before span le t =
    let less = ltb-true span.start (before.start + before.size) t in
    rw (le-leb before.start span.start le, lt-ltb span.start (before.start + before.size) less) refl

-- more functions have the address than before
more_with : (address : ℕ) (before : Option Span) (e : ReadFunction) (es : List ReadFunction) → how_many_at address (e ∷ es) ≤ counted_with address before (e ∷ es)
more_with address None e es = omega arith
more_with address (Some before) e es = omega arith

more_behind : (address : ℕ) (before : Option Span) (e : ReadFunction) (es : List ReadFunction) → counted_with address before es ≤ counted_with address before (e ∷ es)
more_behind address None e es = let c = count_cons address e es in omega (arith, c)
more_behind address (Some before) e es = let c = count_cons address e es in omega (arith, c)

two_here : (address : ℕ) (before : Span) (e : ReadFunction) (es : List ReadFunction) → has_address address before ≡ true → has_address address e.span ≡ true → 2 ≤ counted_with address (Some before) (e ∷ es)
two_here address before e es p q =
    let c = count_cons address e es in
    let one : one_if (has_address address before) ≡ 1 = ap one_if p in
    let other : one_at address e ≡ 1 = ap one_if q in
    omega (arith, c, one, other)

overlaps : (before span : Span) (fault : GatherFault) → overlap_with (Some before) span ≡ Some fault → overlap (before, span) ≡ true
overlaps before span fault e = at_test (overlap (before, span)) refl e
  where
    at_test : (b : Bool) → overlap (before, span) ≡ b → cond b (Some (overlap_fault (before, span))) None ≡ Some fault → b ≡ true
    at_test true t e = refl
    at_test false t e = cc

-- an address that two functions share
record IsShared (before : Option Span) (es : List ReadFunction) : Type 0 where
  address : ℕ
  twice : 2 ≤ counted_with address before es

starts_lower : (a b : ℕ) (es : List ReadFunction) → a ≤ b → StartFrom b es → StartFrom a es
starts_lower a b [] le h = tt
starts_lower a b (e ∷ es) le h = (omega (arith, le, h.0), h.1)

no_pair_left : (before : Option Span) (pair : Span × Span) → overlap_after before [] ≡ Some pair → ⊥
no_pair_left None pair h = cc
no_pair_left (Some before) pair h = cc

shared : (before : Option Span) (es : List ReadFunction) (pair : Span × Span) → StartFrom (start_of_span before) es → overlap_after before (spans_of es) ≡ Some pair → IsShared before es
shared before [] pair rise h = absurd (no_pair_left before pair h)
shared before (e ∷ es) pair rise h =
    at_size (eqb e.span.size 0) refl (λ rest. shared before es pair (starts_lower (start_of_span before) e.span.start es rise.0 rise.1) rest) (λ rest. shared (Some e.span) es pair rise.1 rest)
  where
    on : IsShared before es → IsShared before (e ∷ es)
    on s = record { address = s.address; twice = (let more = more_behind s.address before e es in omega (arith, s.twice, more)) }

    from : IsShared (Some e.span) es → IsShared before (e ∷ es)
    from s = record { address = s.address; twice = (let more = more_with s.address before e es in let c = count_cons s.address e es in omega (arith, s.twice, more, c)) }

    at_overlap : (b : Option Span) → before ≡ b → eqb e.span.size 0 ≡ false → (fault : Option GatherFault) → overlap_with b e.span ≡ fault → (overlap_after (Some e.span) (spans_of es) ≡ Some pair → IsShared (Some e.span) es) → IsShared before (e ∷ es)
    at_overlap b is some None none later = from (later (sym (overlap_goes_on b e.span (spans_of es) some none) ∙ ap (λ (x : Option Span). overlap_after x (spans_of (e ∷ es))) (sym is) ∙ h))
    at_overlap None is some (Some fault) there later = cc
    at_overlap (Some b) is some (Some fault) there later =
        let le : b.start ≤ e.span.start = subst (λ (x : Option Span). start_of_span x ≤ e.span.start) is rise.0 in
        let over = overlaps b e.span fault there in
        let two = two_here e.span.start b e es (shares_start b e.span le over) (has_first e.span (some_size e.span.size some)) in
        record { address = e.span.start; twice = subst (λ (x : Option Span). 2 ≤ counted_with e.span.start x (e ∷ es)) (sym is) two }

    at_size : (b : Bool) → eqb e.span.size 0 ≡ b → (overlap_after before (spans_of es) ≡ Some pair → IsShared before es) → (overlap_after (Some e.span) (spans_of es) ≡ Some pair → IsShared (Some e.span) es) → IsShared before (e ∷ es)
    at_size true t skipped later = on (skipped (sym (overlap_passes before e.span (spans_of es) (eqb-true e.span.size 0 t)) ∙ h))
    at_size false t skipped later = at_overlap before refl t (overlap_with before e.span) refl later

-- ---- in order
tail_rises : (e : ReadFunction) (es : List ReadFunction) → IsNonDecreasingBy start_of (e ∷ es) → IsNonDecreasingBy start_of es
tail_rises e es h = λ i j d le lt. h (suc i) (suc j) d (omega (arith, le)) (omega (arith, lt))

starts_from : (least : ℕ) (es : List ReadFunction) → IsNonDecreasingBy start_of es → ((e : ReadFunction) (rest : List ReadFunction) → es ≡ e ∷ rest → least ≤ e.span.start) → StartFrom least es
starts_from least [] h first = tt
starts_from least (e ∷ es) h first = (first e es refl, starts_from e.span.start es (tail_rises e es h) (λ f rest is. next f rest is))
  where
    next : (f : ReadFunction) (rest : List ReadFunction) → es ≡ f ∷ rest → e.span.start ≤ f.span.start
    next f rest is =
        let rises = subst (λ (xs : List ReadFunction). IsNonDecreasingBy start_of (e ∷ xs)) is h in
        rises 0 1 e (omega arith) (omega arith)

no_overlap : (es : List ReadFunction) → IsNonDecreasingBy start_of es → ((address : ℕ) → how_many_at address es ≤ 1) → overlap_in (spans_of es) ≡ None
no_overlap es rise apart = at_pair (overlap_in (spans_of es)) refl
  where
    at_pair : (pair : Option (Span × Span)) → overlap_in (spans_of es) ≡ pair → pair ≡ None
    at_pair None e = refl
    at_pair (Some pair) e =
        let s = shared None es pair (starts_from 0 es rise (λ f rest is. omega arith)) (sym (overlap_begins (spans_of es)) ∙ e) in
        let most = apart s.address in
        absurd (omega (arith, most, s.twice))

-- ---- the law
none_of : {F : Type 0} (a b : Option F) → or_later a b ≡ None → (a ≡ None) × (b ≡ None)
none_of None b e = (refl, e)
none_of (Some fault) b e = cc

no_mapped : {A B : Type 0} (f : A → B) (x : Option A) → option_map f x ≡ None → x ≡ None
no_mapped f None e = refl
no_mapped f (Some a) e = cc

ok_is : (fault : Option LinkFault) (ordered other : List ReadFunction) → Ok ordered ≡ unless_fault fault other → (fault ≡ None) × (other ≡ ordered)
ok_is None ordered other e = let is : ordered ≡ other = cc in (refl, sym is)
ok_is (Some fault) ordered other e = cc

gathered_with : (before : Option Arch) (objects : List Object) (functions : List Function) (ordered : List ReadFunction) → functions_of (first_item before) objects ≡ Ok functions → mixed_fault before objects ≡ None → InOrder (map read_of functions) ordered
    → functions_fault ordered ≡ None → CanBeGathered before objects
gathered_with before objects functions ordered are unmixed order fine =
    let one = is_one (machines_of before objects) unmixed in
    let checks = none_of (limits_fault ordered) (option_map overlap_fault (overlap_in (spans_of ordered))) fine in
    let count = length_permutation (map read_of functions) ordered order.moved in
    let few = few_functions ordered checks.0 in
    let same = sum_by-IsPermutation read_rows (map read_of functions) ordered order.moved in
    let rows = few_rows ordered checks.0 in
    let apart = not_overlapping_apart ordered (no_mapped overlap_fault (overlap_in (spans_of ordered)) checks.1) in
    record {
      functions = functions;
      are = describe (first_item before) objects (Ok functions) are;
      arch = one.arch;
      machine = one.all;
      few = (let mapped = length-map functions read_of in omega (arith, count, few, mapped));
      few_rows = omega (arith, same, rows);
      apart = λ address. (let most = one_at_most address 0 ordered apart in let moved = sum_by-IsPermutation (one_at address) (map read_of functions) ordered order.moved in omega (arith, most, moved));
    }

accepted_with : (before : Option Arch) (objects : List Object) (at : ℕ) (functions : List Function) (ordered : List ReadFunction) → functions_of (first_item before) objects ≡ Ok functions → mixed_fault before objects ≡ None → InOrder (map read_of functions) ordered
    → link_fault at ordered ≡ None → IsAccepted before objects at
unfolding gathered_with
accepted_with before objects at functions ordered are unmixed order fine =
    let two = none_of (option_map link.Gather (functions_fault ordered)) (option_map link.OutOfReach (first_out_of_reach at 0 (kept_of ordered))) fine in
    record {
      gathered = gathered_with before objects functions ordered are unmixed order (no_mapped link.Gather (functions_fault ordered) two.0);
      ordered = ordered;
      in_order = order;
      near = no_mapped link.OutOfReach (first_out_of_reach at 0 (kept_of ordered)) two.1;
    }

accepted_from : (before : Option Arch) (objects : List Object) (at : ℕ) (given : Result (List Function) GatherFault) (ordered : List ReadFunction) → all_functions before objects ≡ given → LinksFrom at given (Ok ordered) → IsAccepted before objects at
accepted_from before objects at (Ok functions) ordered e (other, order, is) =
    let parts = parts_of (functions_of (first_item before) objects) (mixed_fault before objects) functions e in
    let two = ok_is (link_fault at other) ordered other is in
    accepted_with before objects at functions other parts.are parts.one order two.0
accepted_from before objects at (Err fault) ordered e is = cc

pub links_accepted : (before : Option Arch) (objects : List Object) (at : ℕ) (ordered : List ReadFunction) → Links before objects at (Ok ordered) → IsAccepted before objects at
links_accepted before objects at ordered h = accepted_from before objects at (all_functions before objects) ordered refl (from_links before objects at (Ok ordered) h)

fine_in_order : (functions : List Function) (ordered : List ReadFunction) → InOrder (map read_of functions) ordered → length functions ≤ 2 ^ 21 → sum_by read_rows (map read_of functions) ≤ 2 ^ 24
    → ((address : ℕ) → how_many_at address (map read_of functions) ≤ 1) → functions_fault ordered ≡ None
fine_in_order functions ordered order few rows apart =
    let count = length_permutation (map read_of functions) ordered order.moved in
    let mapped = length-map functions read_of in
    let same = sum_by-IsPermutation read_rows (map read_of functions) ordered order.moved in
    let limits = within_limits ordered (omega (arith, count, few, mapped)) (omega (arith, same, rows)) in
    let alone = no_overlap ordered order.rising (λ address. (let most = apart address in let moved = sum_by-IsPermutation (one_at address) (map read_of functions) ordered order.moved in omega (arith, most, moved))) in
    ap (λ (x : Option GatherFault). or_later x (option_map overlap_fault (overlap_in (spans_of ordered)))) limits
    ∙ ap (option_map overlap_fault) alone

-- what is read of inputs that can be gathered
read_all : (before : Option Arch) (objects : List Object) (h : CanBeGathered before objects) → all_functions before objects ≡ Ok h.functions
read_all before objects h =
    ap (λ (given : Result (List Function) GatherFault). by_parts given (mixed_fault before objects)) (described (first_item before) objects (Ok h.functions) h.are)
    ∙ ap (λ (mixed : Option GatherFault). by_parts (Ok h.functions) mixed) (one_is_unmixed h.arch (machines_of before objects) h.machine)

pub accepted_links : (before : Option Arch) (objects : List Object) (at : ℕ) (h : IsAccepted before objects at) → Links before objects at (Ok h.ordered)
accepted_links before objects at h =
    let g = h.gathered in
    let fine : link_fault at h.ordered ≡ None =
    ap (λ (x : Option GatherFault). or_later (option_map link.Gather x) (option_map link.OutOfReach (first_out_of_reach at 0 (kept_of h.ordered)))) (fine_in_order g.functions h.ordered h.in_order g.few g.few_rows g.apart)
    ∙ ap (option_map link.OutOfReach) h.near in
    to_links before objects at (Ok h.ordered) (subst (λ (given : Result (List Function) GatherFault). LinksFrom at given (Ok h.ordered)) (sym (read_all before objects g))
    (h.ordered, h.in_order, sym (ap (λ (x : Option LinkFault). unless_fault x h.ordered) fine)))

-- ---- gathering
pub are_gathered : (before : Option Arch) (objects : List Object) → CanBeGathered before objects → (ordered : List ReadFunction) × Gathers before objects (Ok ordered)
are_gathered before objects h =
    let ordered : List ReadFunction = by_key start_of (map read_of h.functions) in
    let order = in_order start_of (map read_of h.functions) in
    let fine = fine_in_order h.functions ordered order h.few h.few_rows h.apart in (
      ordered,
      to_gathers before objects (Ok ordered) (subst (λ (given : Result (List Function) GatherFault). GathersFrom given (Ok ordered)) (sym (read_all before objects h))
          (ordered, order, sym (ap (λ (x : Option GatherFault). unless_fault x ordered) fine))),
    )

pub gathered_can_be : (before : Option Arch) (objects : List Object) (ordered : List ReadFunction) → Gathers before objects (Ok ordered) → CanBeGathered before objects
gathered_can_be before objects ordered h =
    let read = are_read before objects ordered h in
    gathered_with before objects read.functions ordered read.are read.one read.in_order read.checked

ok_is_no_fault : (ordered : List ReadFunction) (fault : GatherFault) → Err fault ≡ unless_fault None ordered → ⊥
ok_is_no_fault ordered fault e = cc

refused_by : (functions : List Function) (fault : GatherFault) → length functions ≤ 2 ^ 21 → sum_by read_rows (map read_of functions) ≤ 2 ^ 24 → ((address : ℕ) → how_many_at address (map read_of functions) ≤ 1)
    → GathersFrom (Ok functions) (Err fault) → ⊥
refused_by functions fault few rows apart (ordered, order, is) =
    ok_is_no_fault ordered fault (is ∙ ap (λ (x : Option GatherFault). unless_fault x ordered) (fine_in_order functions ordered order few rows apart))

pub none_refused : (before : Option Arch) (objects : List Object) (fault : GatherFault) → CanBeGathered before objects → Gathers before objects (Err fault) → ⊥
none_refused before objects fault h is =
    refused_by h.functions fault h.few h.few_rows h.apart (subst (λ (given : Result (List Function) GatherFault). GathersFrom given (Err fault)) (read_all before objects h) (from_gathers before objects (Err fault) is))
