-- The number of the first of each name, one name after the other; and the entries as spans.
use Rattle.std.specs.Prelude.{bytes_eq, is_some}
use Rattle.std.specs.List.{position_from}
use Rattle.std.specs.Option.{option_or}
use Rattle.std.proofs.Common.{◌≡◌, ℕ, suc, ◌+◌, ◌-◌, ◌<◌, Bool, true, false, cond, List, [], ◌∷◌, ◌++◌, length, get_or, map, take, Option, Some, None, refl, sym, ap, subst, ◌∙◌, arith}
use Rattle.std.proofs.lemmas.Bool.{false_from_ne_true}
use Rattle.std.proofs.lemmas.List.{map-append, take_more}
use Rattle.std.proofs.lemmas.Slice.Eq.{bytes_eq-Decides}
use Rattle.sf_lookup.specs.declared.span.Span.{Span}
use Rattle.sf_modules.specs.declared.entry.Entry.{Entry}
use Rattle.sf_modules.specs.Entry.{mapping_view}
use Rattle.sf_modules.specs.Module.{ModuleView}
use Rattle.sf_modules.specs.Name.{name_number}
use Rattle.sf_modules.specs.Span.{number_of, entry_span}

-- the first that passes, with one more at the end
position_more : {X : Type 0} (p : X → Bool) (first : ℕ) (old : List X) (x : X) → position_from p first (old ++ x ∷ []) ≡ option_or (position_from p first old) (cond (p x) (Some (first + length old)) None)
position_more p first [] x = ap (λ (n : ℕ). cond (p x) (Some n) None) (omega arith)
position_more p first (y ∷ ys) x =
    let next : first + 1 + length ys ≡ first + suc (length ys) = omega arith in
    at_test (p y) (position_more p (first + 1) ys x ∙ ap (λ (n : ℕ). option_or (position_from p (first + 1) ys) (cond (p x) (Some n) None)) next)
  where
    at_test : (b : Bool) → position_from p (first + 1) (ys ++ x ∷ []) ≡ option_or (position_from p (first + 1) ys) (cond (p x) (Some (first + suc (length ys))) None)
        → cond b (Some first) (position_from p (first + 1) (ys ++ x ∷ [])) ≡ option_or (cond b (Some first) (position_from p (first + 1) ys)) (cond (p x) (Some (first + suc (length ys))) None)
    at_test true later = refl
    at_test false later = later

-- whether one more is a name
one_more : (name : List ℕ) (old : List (List ℕ)) (m : List ℕ) (i : ℕ) (b : Bool) → i ≡ length old → bytes_eq name m ≡ b
    → name_number name (old ++ m ∷ []) ≡ option_or (name_number name old) (cond b (Some i) None)
one_more name old m i b count e =
    let at : 0 + length old ≡ i = omega (count, arith) in
    position_more (bytes_eq name) 0 old m
    ∙ ap (λ (n : ℕ). option_or (name_number name old) (cond (bytes_eq name m) (Some n) None)) at
    ∙ ap (λ (t : Bool). option_or (name_number name old) (cond t (Some i) None)) e

or_none : (o : Option ℕ) → option_or o None ≡ o
or_none None = refl
or_none (Some m) = refl

some_stays : (o later : Option ℕ) → is_some o ≡ true → option_or o later ≡ o
some_stays None later e = absurd (cc)
some_stays (Some m) later e = refl

none_is : (o : Option ℕ) → is_some o ≡ false → o ≡ None
none_is None e = refl
none_is (Some m) e = cc

equal_bytes : (a b : List ℕ) → bytes_eq a b ≡ true → a ≡ b
equal_bytes a b e = (bytes_eq-Decides a b).0 e

same_bytes : (a b : List ℕ) → a ≡ b → bytes_eq a b ≡ true
same_bytes a b e = (bytes_eq-Decides a b).1 e

other_bytes : (a b : List ℕ) → bytes_eq b a ≡ false → bytes_eq a b ≡ false
other_bytes a b e = false_from_ne_true (bytes_eq a b) (λ t. let same = sym e ∙ same_bytes b a (sym (equal_bytes a b t)) in cc)

-- a name that was not there, where the map held the answers
pub inserted : (name own : List ℕ) (old : List (List ℕ)) (m : List ℕ) (i : ℕ) (held : Option ℕ) → i ≡ length old → own ≡ m → is_some (name_number own old) ≡ false
    → held ≡ name_number name old → cond (bytes_eq own name) (Some i) held ≡ name_number name (old ++ m ∷ [])
inserted name own old m i held count is none h = at_test (bytes_eq own name) refl
  where
    at_test : (b : Bool) → bytes_eq own name ≡ b → cond b (Some i) held ≡ name_number name (old ++ m ∷ [])
    at_test true e =
        let same : name ≡ own = sym (equal_bytes own name e) in
        let absent : name_number name old ≡ None = ap (λ (p : List ℕ). name_number p old) same ∙ none_is (name_number own old) none in
        sym (one_more name old m i true count (same_bytes name m (same ∙ is)) ∙ ap (λ (o : Option ℕ). option_or o (Some i)) absent)
    at_test false e =
        let other : bytes_eq name m ≡ false = subst (λ (p : List ℕ). bytes_eq name p ≡ false) is (other_bytes name own e) in
        h ∙ sym (one_more name old m i false count other ∙ or_none (name_number name old))

-- a name that was there
pub passed_over : (name own : List ℕ) (old : List (List ℕ)) (m : List ℕ) → own ≡ m → is_some (name_number own old) ≡ true → name_number name old ≡ name_number name (old ++ m ∷ [])
passed_over name own old m is some = at_test (bytes_eq name m) refl
  where
    at_test : (b : Bool) → bytes_eq name m ≡ b → name_number name old ≡ name_number name (old ++ m ∷ [])
    at_test true e =
        let same : name ≡ own = equal_bytes name m e ∙ sym is in
        sym (one_more name old m (length old) true refl e ∙ some_stays (name_number name old) (Some (length old)) (ap (λ (p : List ℕ). is_some (name_number p old)) same ∙ some))
    at_test false e = sym (one_more name old m (length old) false refl e ∙ or_none (name_number name old))

-- names of modules
pub of_modules : (name : List ℕ) (first : ℕ) (modules : List ModuleView) → position_from (bytes_eq name) first (map (λ (m : ModuleView). m.name) modules) ≡ position_from (λ (m : ModuleView). bytes_eq name m.name) first modules
of_modules name first [] = refl
of_modules name first (m ∷ ms) = ap (λ (o : Option ℕ). cond (bytes_eq name m.name) (Some first) o) (of_modules name (first + 1) ms)

-- one span more
pub spans_more : (modules : List ModuleView) (entries : List Entry) (i : ℕ) (d : Entry) (spans new : List (Span (Option ℕ))) (size : ℕ) (number : Option ℕ) → i < length entries
    → new ≡ spans ++ record { start = (get_or entries i d).start; size = size; leads_to = number } ∷ [] → size ≡ (get_or entries i d).end - (get_or entries i d).start
    → number ≡ number_of (get_or entries i d).name.now modules → spans ≡ map (entry_span modules) (map mapping_view (take i entries)) → new ≡ map (entry_span modules) (map mapping_view (take (i + 1) entries))
spans_more modules entries i d spans new size number lt grown sized leads h =
    let e = get_or entries i d in
    grown ∙ ap (λ (ss : List (Span (Option ℕ))). ss ++ record { start = e.start; size = size; leads_to = number } ∷ []) h
    ∙ ap (λ (n : ℕ). map (entry_span modules) (map mapping_view (take i entries)) ++ record { start = e.start; size = n; leads_to = number } ∷ []) sized
    ∙ ap (λ (o : Option ℕ). map (entry_span modules) (map mapping_view (take i entries)) ++ record { start = e.start; size = e.end - e.start; leads_to = o } ∷ []) leads
    ∙ sym (map-append (entry_span modules) (map mapping_view (take i entries)) (mapping_view e ∷ []))
    ∙ ap (map (entry_span modules)) (sym (ap (map mapping_view) (take_more entries i d lt) ∙ map-append mapping_view (take i entries) (e ∷ [])))
