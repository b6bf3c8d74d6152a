-- Entries whose names have one last part: each leads to the next, and only they have a part in common with a word of that last part.
use Rattle.std.specs.Prelude.{bytes_eq, max, not, ◌==◌, ◌&&◌, ◌||◌}
use Rattle.std.specs.List.{filter, find, list_any, position_from}
use Rattle.std.specs.Option.{option_map_or}
use Rattle.std.proofs.Common.{◌≡◌, ℕ, zero, suc, ◌+◌, ◌<◌, Bool, true, false, cond, List, [], ◌∷◌, ◌++◌, drop, get_or, length, map, reverse, Option, Some, None, refl, sym, ap, ◌∙◌, arith}
use Rattle.std.proofs.lemmas.Bool.{ne_eqb}
use Rattle.std.proofs.lemmas.List.{drop-drop, drop_all, drop_more, length-drop, length-map, reverse-append}
use Rattle.std.proofs.lemmas.Slice.Eq.{bytes_eq-Decides}
use Rattle.sf_modules.specs.declared.entry.Entry.{Entry}
use Rattle.sf_modules.specs.Candidates.{alike, candidates, ends_in, last_parts, next_same}
use Rattle.sf_modules.specs.Entry.{EntryView, mapping_view}
use Rattle.sf_modules.specs.Fit.{all_segments_fit}
use Rattle.sf_modules.specs.Match.{longest_tail, matches, matches_too}
use Rattle.sf_modules.specs.Name.{common_tail, last_part}
use Rattle.sf_modules.specs.Process.{ProcessView}
use Rattle.sf_modules.proofs.Lines.{same_test}
use Rattle.sf_modules.proofs.Names.{other_last}
use Rattle.sf_modules.proofs.Numbers.{first_is}
use Rattle.sf_modules.proofs.Tails.{longest-cons}

-- ---- the parts that entries have
parts_count : (entries : List EntryView) → length (last_parts entries) ≡ length entries
parts_count entries = length-map entries (λ (e : EntryView). last_part e.name)

views_count : (entries : List Entry) → length (map mapping_view entries) ≡ length entries
views_count entries = length-map entries mapping_view

pub parts_of_entries : (entries : List Entry) → length (last_parts (map mapping_view entries)) ≡ length entries
parts_of_entries entries = parts_count (map mapping_view entries) ∙ views_count entries

pub part_at : (entries : List Entry) (k : ℕ) (d : List ℕ) (e : Entry) → k < length entries → get_or (last_parts (map mapping_view entries)) k d ≡ last_part (get_or entries k e).name.now
part_at [] k d e lt = absurd (omega (lt, arith))
part_at (x ∷ xs) zero d e lt = refl
part_at (x ∷ xs) (suc k) d e lt = part_at xs k d e (omega (lt, arith))

-- ---- one entry more, from the last one back
same_bytes : (a b : List ℕ) → bytes_eq a b ≡ bytes_eq b a
same_bytes a b = same_test (bytes_eq a b) (bytes_eq b a)
    (λ t. (bytes_eq-Decides b a).1 (sym ((bytes_eq-Decides a b).0 t)))
    (λ t. (bytes_eq-Decides a b).1 (sym ((bytes_eq-Decides b a).0 t)))

-- the map has the first number of each part
pub first_more : (part own : List ℕ) (parts : List (List ℕ)) (number i : ℕ) (held : Option ℕ) → i ≡ number + 1 → number < length parts → get_or parts number own ≡ own
    → held ≡ position_from (bytes_eq part) i (drop i parts) → cond (bytes_eq own part) (Some number) held ≡ position_from (bytes_eq part) number (drop number parts)
first_more part own parts number i held next lt is h =
    let later = position_from (bytes_eq part) (number + 1) (drop (number + 1) parts) in
    let rest : held ≡ later = h ∙ ap (λ (n : ℕ). position_from (bytes_eq part) n (drop n parts)) next in
    let here : drop number parts ≡ own ∷ drop (number + 1) parts = drop_more parts number own lt ∙ ap (λ (p : List ℕ). p ∷ drop (number + 1) parts) is in
    ap (λ (b : Bool). cond b (Some number) held) (same_bytes own part) ∙ ap (λ (o : Option ℕ). cond (bytes_eq part own) (Some number) o) rest
    ∙ sym (ap (position_from (bytes_eq part) number) here)

next-cons : (number : ℕ) (part : List ℕ) (parts : List (List ℕ)) → next_same number (part ∷ parts) ≡ position_from (bytes_eq part) (number + 1) parts ∷ next_same (number + 1) parts
unfolding next_same
next-cons number part parts = refl

next-nil : (number : ℕ) → next_same number [] ≡ []
unfolding next_same
next-nil number = refl

-- and the number of the next entry is there for each
pub next_more : (own : List ℕ) (parts : List (List ℕ)) (number i : ℕ) (later : Option ℕ) (next new : List (Option ℕ)) → i ≡ number + 1 → number < length parts → get_or parts number own ≡ own
    → later ≡ position_from (bytes_eq own) i (drop i parts) → new ≡ next ++ later ∷ [] → reverse next ≡ next_same i (drop i parts) → reverse new ≡ next_same number (drop number parts)
next_more own parts number i later next new is_next lt is found grown h =
    let here : drop number parts ≡ own ∷ drop (number + 1) parts = drop_more parts number own lt ∙ ap (λ (p : List ℕ). p ∷ drop (number + 1) parts) is in
    ap reverse grown ∙ reverse-append next (later ∷ [])
    ∙ ap (λ (o : Option ℕ). o ∷ reverse next) found ∙ ap (λ (ns : List (Option ℕ)). position_from (bytes_eq own) i (drop i parts) ∷ ns) h
    ∙ ap (λ (n : ℕ). position_from (bytes_eq own) n (drop n parts) ∷ next_same n (drop n parts)) is_next
    ∙ sym (ap (next_same number) here ∙ next-cons number own (drop (number + 1) parts))

pub none_first : (part : List ℕ) (parts : List (List ℕ)) (i : ℕ) → i ≡ length parts → position_from (bytes_eq part) i (drop i parts) ≡ None
none_first part parts i all = ap (position_from (bytes_eq part) i) (drop_all i parts (omega (all, arith)))

pub none_next : (parts : List (List ℕ)) (i : ℕ) → i ≡ length parts → next_same i (drop i parts) ≡ []
none_next parts i all = ap (next_same i) (drop_all i parts (omega (all, arith))) ∙ next-nil i

-- ---- from one entry to the next
length-next : (number : ℕ) (parts : List (List ℕ)) → length (next_same number parts) ≡ length parts
length-next number [] = ap length (next-nil number)
length-next number (part ∷ parts) = ap length (next-cons number part parts) ∙ ap suc (length-next (number + 1) parts)

pub next_count : (entries : List Entry) → length (next_same 0 (last_parts (map mapping_view entries))) ≡ length entries
next_count entries = length-next 0 (last_parts (map mapping_view entries)) ∙ parts_of_entries entries

next_at : (number k : ℕ) (parts : List (List ℕ)) (d : Option ℕ) (p : List ℕ) → k < length parts
    → get_or (next_same number parts) k d ≡ position_from (bytes_eq (get_or parts k p)) (number + k + 1) (drop (k + 1) parts)
next_at number k [] d p lt = absurd (omega (lt, arith))
next_at number zero (part ∷ parts) d p lt =
    let same : number + 1 ≡ number + 0 + 1 = omega arith in
    ap (λ (ns : List (Option ℕ)). get_or ns 0 d) (next-cons number part parts) ∙ ap (λ (n : ℕ). position_from (bytes_eq part) n parts) same
next_at number (suc k) (part ∷ parts) d p lt =
    let same : number + 1 + k + 1 ≡ number + suc k + 1 = omega arith in
    let after : suc (k + 1) ≡ suc k + 1 = omega arith in
    ap (λ (ns : List (Option ℕ)). get_or ns (suc k) d) (next-cons number part parts)
    ∙ next_at (number + 1) k parts d p (omega (lt, arith))
    ∙ ap (λ (n : ℕ). position_from (bytes_eq (get_or parts k p)) n (drop (k + 1) parts)) same
    ∙ ap (λ (n : ℕ). position_from (bytes_eq (get_or parts k p)) (number + suc k + 1) (drop n (part ∷ parts))) after

alike-cons : (e : EntryView) (es : List EntryView) → alike (e ∷ es) ≡ e ∷ filter (ends_in (last_part e.name)) es
unfolding alike
alike-cons e es = refl

drop-parts : (i : ℕ) (entries : List EntryView) → drop i (last_parts entries) ≡ last_parts (drop i entries)
drop-parts zero entries = refl
drop-parts (suc i) [] = refl
drop-parts (suc i) (e ∷ es) = drop-parts i es

-- those from a number on
abbrev pub from_number : List EntryView → Option ℕ → List EntryView
from_number entries at = option_map_or (λ (i : ℕ). alike (drop i entries)) at []

-- from the first of a part on come all of the part
from_first : (part : List ℕ) (all : List EntryView) (number : ℕ) (entries : List EntryView) → entries ≡ drop number all → from_number all (position_from (bytes_eq part) number (last_parts entries)) ≡ filter (ends_in part) entries
from_first part all number [] is = refl
from_first part all number (e ∷ es) is = at_test (bytes_eq part (last_part e.name)) refl (from_first part all (number + 1) es rest)
  where
    rest : es ≡ drop (number + 1) all
    rest = ap (drop 1) is ∙ drop-drop 1 number all

    at_test : (b : Bool) → bytes_eq part (last_part e.name) ≡ b → from_number all (position_from (bytes_eq part) (number + 1) (last_parts es)) ≡ filter (ends_in part) es
        → from_number all (cond b (Some number) (position_from (bytes_eq part) (number + 1) (last_parts es))) ≡ cond b (e ∷ filter (ends_in part) es) (filter (ends_in part) es)
    at_test true t later = ap alike (sym is) ∙ alike-cons e es ∙ ap (λ (p : List ℕ). e ∷ filter (ends_in p) es) (sym ((bytes_eq-Decides part (last_part e.name)).0 t))
    at_test false t later = later

-- an entry, and those after it of its part
pub goes_on : (all : List Entry) (at : ℕ) (e : Entry) (next : List (Option ℕ)) (d : Option ℕ) → at < length all → e ≡ get_or all at e → next ≡ next_same 0 (last_parts (map mapping_view all))
    → from_number (map mapping_view all) (Some at) ≡ mapping_view e ∷ from_number (map mapping_view all) (get_or next at d)
goes_on all at e next d lt is are =
    let views = map mapping_view all in
    let v = mapping_view e in
    let count = views_count all in
    let parts = parts_of_entries all in
    let own : get_or (last_parts views) at [] ≡ last_part v.name = part_at all at [] e lt ∙ ap (λ (x : Entry). last_part x.name.now) (sym is) in
    let here : drop at views ≡ v ∷ drop (at + 1) views = view_at all at e lt is in
    let none : 0 + at + 1 ≡ at + 1 = omega arith in
    let later : get_or next at d ≡ position_from (bytes_eq (last_part v.name)) (at + 1) (last_parts (drop (at + 1) views)) =
    ap (λ (ns : List (Option ℕ)). get_or ns at d) are
    ∙ next_at 0 at (last_parts views) d [] (omega (lt, parts, arith))
    ∙ ap (λ (p : List ℕ). position_from (bytes_eq p) (0 + at + 1) (drop (at + 1) (last_parts views))) own
    ∙ ap (λ (n : ℕ). position_from (bytes_eq (last_part v.name)) n (drop (at + 1) (last_parts views))) none
    ∙ ap (position_from (bytes_eq (last_part v.name)) (at + 1)) (drop-parts (at + 1) views) in
    ap alike here ∙ alike-cons v (drop (at + 1) views)
    ∙ ap (λ (es : List EntryView). v ∷ es) (sym (ap (from_number views) later ∙ from_first (last_part v.name) views (at + 1) (drop (at + 1) views) refl))
  where
    drop-views : (i : ℕ) (entries : List Entry) → drop i (map mapping_view entries) ≡ map mapping_view (drop i entries)
    drop-views zero entries = refl
    drop-views (suc i) [] = refl
    drop-views (suc i) (x ∷ xs) = drop-views i xs

    view_at : (all : List Entry) (at : ℕ) (e : Entry) → at < length all → e ≡ get_or all at e → drop at (map mapping_view all) ≡ mapping_view e ∷ drop (at + 1) (map mapping_view all)
    view_at all at e lt is = drop-views at all ∙ ap (map mapping_view) (drop_more all at e lt ∙ ap (λ (x : Entry). x ∷ drop (at + 1) all) (sym is)) ∙ ap (λ (es : List EntryView). mapping_view e ∷ es) (sym (drop-views (at + 1) all))

-- from the first of a word's last part on come its candidates
pub from_word : (word : List ℕ) (entries : List EntryView) (at : Option ℕ) → at ≡ position_from (bytes_eq (last_part word)) 0 (last_parts entries) → from_number entries at ≡ candidates word entries
from_word word entries at is = ap (from_number entries) is ∙ from_first (last_part word) entries 0 entries refl

-- a number that leads on is that of an entry
pub leads_within : (all : List Entry) (at k : ℕ) (next : List (Option ℕ)) (d : Option ℕ) → at < length all → next ≡ next_same 0 (last_parts (map mapping_view all)) → get_or next at d ≡ Some k → k < length all
leads_within all at k next d lt are e =
    let views = map mapping_view all in
    let count = views_count all in
    let parts = parts_of_entries all in
    let rest = drop (at + 1) (last_parts views) in
    let found : position_from (bytes_eq (get_or (last_parts views) at [])) (0 + at + 1) rest ≡ Some k =
    sym (next_at 0 at (last_parts views) d [] (omega (lt, parts, arith))) ∙ ap (λ (ns : List (Option ℕ)). get_or ns at d) (sym are) ∙ e in
    let h = first_is (bytes_eq (get_or (last_parts views) at [])) (0 + at + 1) k rest found in
    let from = h.from in
    let within = h.within in
    let short = length-drop (at + 1) (last_parts views) in
    omega (from, within, short, parts, arith)

pub first_within : (word : List ℕ) (all : List Entry) (k : ℕ) → position_from (bytes_eq (last_part word)) 0 (last_parts (map mapping_view all)) ≡ Some k → k < length all
first_within word all k e =
    let h = first_is (bytes_eq (last_part word)) 0 k (last_parts (map mapping_view all)) e in
    let within = h.within in
    let parts = parts_of_entries all in
    omega (within, parts, arith)

-- ---- what only those of a word's last part can be
find_among : {X : Type 0} (p q : X → Bool) → ((x : X) → q x ≡ false → p x ≡ false) → (xs : List X) → find p (filter q xs) ≡ find p xs
find_among p q only [] = refl
find_among p q only (x ∷ xs) = at_test (q x) refl (find_among p q only xs)
  where
    at_test : (b : Bool) → q x ≡ b → find p (filter q xs) ≡ find p xs → find p (cond b (x ∷ filter q xs) (filter q xs)) ≡ cond (p x) (Some x) (find p xs)
    at_test true t later = ap (cond (p x) (Some x)) later
    at_test false t later = later ∙ sym (ap (λ (b : Bool). cond b (Some x) (find p xs)) (only x t))

any_among : {X : Type 0} (p q : X → Bool) → ((x : X) → q x ≡ false → p x ≡ false) → (xs : List X) → list_any p (filter q xs) ≡ list_any p xs
any_among p q only [] = refl
any_among p q only (x ∷ xs) = at_test (q x) refl (any_among p q only xs)
  where
    at_test : (b : Bool) → q x ≡ b → list_any p (filter q xs) ≡ list_any p xs → list_any p (cond b (x ∷ filter q xs) (filter q xs)) ≡ (p x || list_any p xs)
    at_test true t later = ap (λ (b : Bool). p x || b) later
    at_test false t later = later ∙ sym (ap (λ (b : Bool). b || list_any p xs) (only x t))

pub longest_among : (word : List ℕ) (entries : List EntryView) → longest_tail word (candidates word entries) ≡ longest_tail word entries
longest_among word [] = refl
longest_among word (e ∷ es) = at_test (ends_in (last_part word) e) refl (longest_among word es)
  where
    at_test : (b : Bool) → ends_in (last_part word) e ≡ b → longest_tail word (candidates word es) ≡ longest_tail word es
        → longest_tail word (cond b (e ∷ candidates word es) (candidates word es)) ≡ longest_tail word (e ∷ es)
    at_test true t later = longest-cons word e (candidates word es) ∙ ap (max (common_tail word e.name)) later ∙ sym (longest-cons word e es)
    at_test false t later =
        let none : common_tail word e.name ≡ 0 = other_last word e.name t in
        let least : longest_tail word es ≡ max (common_tail word e.name) (longest_tail word es) = omega (none, arith) in
        later ∙ least ∙ sym (longest-cons word e es)

no_tail : (word : List ℕ) (tail : ℕ) (e : EntryView) → (tail ≡ 0 → ⊥) → ends_in (last_part word) e ≡ false → (common_tail word e.name == tail) ≡ false
no_tail word tail e some t = ap (λ (n : ℕ). n == tail) (other_last word e.name t) ∙ ne_eqb 0 tail (λ same. some (sym same))

pub match_among : (p : ProcessView) (word file : List ℕ) (load tail : ℕ) (entries : List EntryView) → (tail ≡ 0 → ⊥) → find (matches p word file load tail) (candidates word entries) ≡ find (matches p word file load tail) entries
match_among p word file load tail entries some =
    find_among (matches p word file load tail) (ends_in (last_part word)) (λ e t. ap (λ (b : Bool). b && all_segments_fit p file load e) (no_tail word tail e some t)) entries

pub others_among : (p : ProcessView) (word file : List ℕ) (load tail : ℕ) (found : EntryView) (entries : List EntryView) → (tail ≡ 0 → ⊥)
    → list_any (matches_too p word file load tail found) (candidates word entries) ≡ list_any (matches_too p word file load tail found) entries
others_among p word file load tail found entries some =
    any_among (matches_too p word file load tail found) (ends_in (last_part word)) (λ e t. ap (λ (b : Bool). b && not (bytes_eq e.name found.name) && all_segments_fit p file load e) (no_tail word tail e some t)) entries
