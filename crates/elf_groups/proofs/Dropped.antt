-- The groups that are listed, file by file, are those that the definition drops.
use Rattle.std.specs.Prelude.{Contains, bytes_eq}
use Rattle.std.specs.List.Sorted.{IsStrictlyIncreasing}
use Rattle.std.proofs.Common.{◌≡◌, ◌⊎◌, ◌<◌, ◌≤◌, ◌+◌, ℕ, zero, suc, Bool, true, false, ◌%◌, ◌==◌, ◌&&◌, cond, if◌then◌else◌, List, [], ◌∷◌, ◌++◌, length, get_or, Option, Some, None, refl, sym, ap, subst, ◌∙◌, inl, inr, arith}
use Rattle.std.proofs.lemmas.Bool.{cases_eq, cases_lt}
use Rattle.std.proofs.lemmas.List.{get_or_append_left, length-append}
use Rattle.std.proofs.lemmas.List.Elements.{Contains-append_left, Contains-push, Contains-push_cases, Contains-get_or}
use Rattle.std.proofs.lemmas.List.Folds.{list_any-from_Any}
use Rattle.std.proofs.lemmas.Map.Views.{Contains-from_any}
use Rattle.std.proofs.lemmas.Slice.Eq.{bytes_eq-Decides}
use Rattle.std.proofs.Math.Seq.{get_or-append_seam}
use Rattle.elf_read.specs.Sections.{section_count}
use Rattle.elf_groups.specs.Dropped.{AreDroppedGroups, HasBelow, IsDroppedGroup, signature_of}
use Rattle.elf_read.specs.Number.{field_at}
use Rattle.elf_read.specs.Sections.{section_bytes, section_fields, member_count}
use Rattle.elf_read.specs.Used.{is_group}
use Rattle.elf_read.specs.Views.{group_of, symbol_text}
use Rattle.std.specs.Option.{option_and_then}
use Rattle.elf_groups.proofs.Listed.{none_seen, none_listed, seen_suc, listed_suc}
use Rattle.elf_groups.proofs.Rising.{same_members}
use Rattle.elf_groups.specs.Groups.{dropped_below, dropped_groups, group_signature, if_comdat, was_seen, seen_after, seen_below, seen_in, with_signature}

-- ---- signatures
by_tests : (group comdat : Bool) (signature : List ℕ) (count : ℕ) → (if group && comdat then Some signature else None) ≡ option_and_then if_comdat (if group then Some (record { comdat = comdat; signature = signature; count = count }) else None)
by_tests true true signature count = refl
by_tests true false signature count = refl
by_tests false comdat signature count = refl

signature_is : (file : List ℕ) (i : ℕ) → signature_of file i ≡ group_signature file i
unfolding signature_of group_signature group_of
signature_is file i =
    by_tests (is_group file i) (field_at 4 0 (section_bytes file i) % 2 == 1) (symbol_text file (section_fields file i).sh_link (section_fields file i).sh_info) (member_count file i)

-- ---- the signatures that were seen
seen_cases : (seen : List (List ℕ)) (o : Option (List ℕ)) (s : List ℕ) → Contains (with_signature seen o) s → Contains seen s ⊎ (o ≡ Some s)
seen_cases seen None s h = inl h
seen_cases seen (Some x) s h = elim (Contains-push_cases seen x s h) [
  | inl there ↦ inl there
  | inr same ↦ inr (ap Some same)
]

still_seen : (seen : List (List ℕ)) (o : Option (List ℕ)) (s : List ℕ) → Contains seen s → Contains (with_signature seen o) s
still_seen seen None s h = h
still_seen seen (Some x) s h = Contains-append_left seen (x ∷ []) s h

now_seen : (seen : List (List ℕ)) (o : Option (List ℕ)) (s : List ℕ) → o ≡ Some s → Contains (with_signature seen o) s
now_seen seen o s e = subst (λ (p : Option (List ℕ)). Contains (with_signature seen p) s) (sym e) (Contains-push seen s)

seen_as : (seen : List (List ℕ)) (file : List ℕ) (n : ℕ) (s : List ℕ) {xs : List (List ℕ)} → seen_below seen file n ≡ xs → Contains (seen_below seen file n) s → Contains xs s
seen_as seen file n s e h = subst (λ (l : List (List ℕ)). Contains l s) e h

as_seen : (seen : List (List ℕ)) (file : List ℕ) (n : ℕ) (s : List ℕ) {xs : List (List ℕ)} → seen_below seen file n ≡ xs → Contains xs s → Contains (seen_below seen file n) s
as_seen seen file n s e h = subst (λ (l : List (List ℕ)). Contains l s) (sym e) h

-- of the groups of a file below a number, and before them
from_below : (seen : List (List ℕ)) (file : List ℕ) (n : ℕ) (s : List ℕ) → Contains (seen_below seen file n) s → Contains seen s ⊎ HasBelow file n s
from_below seen file zero s h = inl (seen_as seen file 0 s (none_seen seen file) h)
from_below seen file (suc n) s h = elim (seen_cases (seen_below seen file n) (group_signature file n) s (seen_as seen file (suc n) s (seen_suc seen file n) h)) [
  | inl there ↦ elim (from_below seen file n s there) [
    | inl old ↦ inl old
    | inr has ↦ inr (has.0, omega (arith, has.1), has.2)
  ]
  | inr here ↦ inr (n, omega arith, signature_is file n ∙ here)
]

old_below : (seen : List (List ℕ)) (file : List ℕ) (n : ℕ) (s : List ℕ) → Contains seen s → Contains (seen_below seen file n) s
old_below seen file zero s h = as_seen seen file 0 s (none_seen seen file) h
old_below seen file (suc n) s h = as_seen seen file (suc n) s (seen_suc seen file n) (still_seen (seen_below seen file n) (group_signature file n) s (old_below seen file n s h))

to_below : (seen : List (List ℕ)) (file : List ℕ) (n m : ℕ) (s : List ℕ) → m < n → signature_of file m ≡ Some s → Contains (seen_below seen file n) s
to_below seen file zero m s low is = absurd (omega (arith, low))
to_below seen file (suc n) m s low is = as_seen seen file (suc n) s (seen_suc seen file n) (elim (cases_eq m n) [
  | inl same ↦ now_seen (seen_below seen file n) (group_signature file n) s (ap (group_signature file) (sym same) ∙ sym (signature_is file m) ∙ is)
  | inr other ↦ still_seen (seen_below seen file n) (group_signature file n) s (to_below seen file n m s (omega (arith, low, other)) is)
])

-- one of the groups of these files has it
abbrev HasAmong : (files : List (List ℕ)) → (signature : List ℕ) → Type 0
HasAmong files signature = (file : List ℕ) × Contains files file × HasBelow file (section_count file) signature

-- of all groups of files, and before them
from_files : (seen files : List (List ℕ)) (s : List ℕ) → Contains (seen_in seen files) s → Contains seen s ⊎ HasAmong files s
from_files seen [] s h = inl h
from_files seen (file ∷ files) s h = elim (from_files (seen_after seen file) files s h) [
  | inl after ↦ elim (from_below seen file (section_count file) s after) [
    | inl old ↦ inl old
    | inr has ↦ inr (file, (0, omega arith, refl), has)
  ]
  | inr among ↦ inr (among.0, (suc among.1.0, omega (arith, among.1.1), among.1.2), among.2)
]

old_files : (seen files : List (List ℕ)) (s : List ℕ) → Contains seen s → Contains (seen_in seen files) s
old_files seen [] s h = h
old_files seen (file ∷ files) s h = old_files (seen_after seen file) files s (old_below seen file (section_count file) s h)

-- `k` is the place of the file among them
to_files : (seen files : List (List ℕ)) (file : List ℕ) (k : ℕ) (s : List ℕ) → k < length files → get_or files k file ≡ file → HasBelow file (section_count file) s → Contains (seen_in seen files) s
to_files seen [] file k s low is has = absurd (omega (arith, low))
to_files seen (f ∷ fs) file zero s low is has =
    old_files (seen_after seen f) fs s (subst (λ (g : List ℕ). Contains (seen_after seen g) s) (sym is) (to_below seen file (section_count file) has.0 s has.1 has.2))
to_files seen (f ∷ fs) file (suc k) s low is has = to_files (seen_after seen f) fs file k s (omega (arith, low)) is has

pub one_file_more : (seen files : List (List ℕ)) (file : List ℕ) → seen_in seen (files ++ file ∷ []) ≡ seen_after (seen_in seen files) file
one_file_more seen [] file = refl
one_file_more seen (f ∷ fs) file = one_file_more (seen_after seen f) fs file

-- ---- a signature that is repeated
repeated : (seen : List (List ℕ)) (o : Option (List ℕ)) → was_seen seen o ≡ true → (s : List ℕ) × (o ≡ Some s) × Contains seen s
repeated seen None h = cc
repeated seen (Some s) h = (s, refl, Contains-from_any (λ (x y : List ℕ). (bytes_eq-Decides x y).0) s seen h)

is_among : (seen : List (List ℕ)) (o : Option (List ℕ)) (s : List ℕ) → o ≡ Some s → Contains seen s → was_seen seen o ≡ true
is_among seen o s e h = ap (was_seen seen) e ∙ list_any-from_Any (bytes_eq s) seen (h.0, s, h.1, h.2, (bytes_eq-Decides s s).1 refl)

-- ---- the numbers below n
listed_cases : (b : Bool) (n : ℕ) (listed : List ℕ) (k : ℕ) → Contains (cond b (listed ++ n ∷ []) listed) k → Contains listed k ⊎ ((n ≡ k) × (b ≡ true))
listed_cases false n listed k h = inl h
listed_cases true n listed k h = elim (Contains-push_cases listed n k h) [
  | inl there ↦ inl there
  | inr same ↦ inr (same, refl)
]

still_listed : (b : Bool) (n : ℕ) (listed : List ℕ) (k : ℕ) → Contains listed k → Contains (cond b (listed ++ n ∷ []) listed) k
still_listed false n listed k h = h
still_listed true n listed k h = Contains-append_left listed (n ∷ []) k h

abbrev Repeats : (seen : List (List ℕ)) → (file : List ℕ) → ℕ → Type 0
Repeats seen file k = was_seen (seen_below seen file k) (group_signature file k) ≡ true

listed_is : (seen : List (List ℕ)) (file : List ℕ) (n k : ℕ) → Contains (dropped_below seen file n) k → (k < n) × Repeats seen file k
listed_is seen file zero k h = let none = subst (λ (xs : List ℕ). Contains xs k) (none_listed seen file) h in absurd (omega (arith, none.1))
listed_is seen file (suc n) k h = elim (listed_cases (was_seen (seen_below seen file n) (group_signature file n)) n (dropped_below seen file n) k (subst (λ (xs : List ℕ). Contains xs k) (listed_suc seen file n) h)) [
  | inl there ↦ let rest = listed_is seen file n k there in (omega (arith, rest.0), rest.1)
  | inr here ↦ (omega (arith, here.0), subst (Repeats seen file) here.0 here.1)
]

is_listed : (seen : List (List ℕ)) (file : List ℕ) (n k : ℕ) → k < n → Repeats seen file k → Contains (dropped_below seen file n) k
is_listed seen file zero k low is = absurd (omega (arith, low))
is_listed seen file (suc n) k low is = subst (λ (xs : List ℕ). Contains xs k) (sym (listed_suc seen file n)) (elim (cases_eq k n) [
  | inl same ↦
      subst (λ (b : Bool). Contains (cond b (dropped_below seen file n ++ n ∷ []) (dropped_below seen file n)) k) (sym (subst (Repeats seen file) same is))
      (subst (Contains (dropped_below seen file n ++ n ∷ [])) (sym same) (Contains-push (dropped_below seen file n) n))
  | inr other ↦ still_listed (was_seen (seen_below seen file n) (group_signature file n)) n (dropped_below seen file n) k (is_listed seen file n k (omega (arith, low, other)) is)
])

-- they rise
one_higher : (xs : List ℕ) (n : ℕ) → IsStrictlyIncreasing xs → ((k : ℕ) → Contains xs k → k < n) → IsStrictlyIncreasing (xs ++ n ∷ [])
one_higher xs n rising all k within = at_test (cases_lt (k + 1) (length xs))
  where
    long : length (xs ++ n ∷ []) ≡ length xs + 1
    long = length-append xs (n ∷ [])

    here : k < length xs
    here = omega (arith, long, within)

    at_test : (k + 1 < length xs) ⊎ (length xs ≤ k + 1) → get_or (xs ++ n ∷ []) k 0 < get_or (xs ++ n ∷ []) (k + 1) 0
    at_test (inl inside) =
        let one : get_or (xs ++ n ∷ []) k 0 ≡ get_or xs k 0 = get_or_append_left xs (n ∷ []) 0 k here in
        let next : get_or (xs ++ n ∷ []) (k + 1) 0 ≡ get_or xs (k + 1) 0 = get_or_append_left xs (n ∷ []) 0 (k + 1) inside in
        let below = rising k inside in
        omega (arith, one, next, below)
    at_test (inr past) =
        let one : get_or (xs ++ n ∷ []) k 0 ≡ get_or xs k 0 = get_or_append_left xs (n ∷ []) 0 k here in
        let end : k + 1 ≡ length xs = omega (arith, long, within, past) in
        let last : get_or (xs ++ n ∷ []) (k + 1) 0 ≡ n = ap (λ (j : ℕ). get_or (xs ++ n ∷ []) j 0) end ∙ get_or-append_seam xs n [] 0 in
        let below : get_or xs k 0 < n = all (get_or xs k 0) (Contains-get_or xs k 0 here) in
        omega (arith, one, last, below)

or_one_higher : (b : Bool) (xs : List ℕ) (n : ℕ) → IsStrictlyIncreasing xs → ((k : ℕ) → Contains xs k → k < n) → IsStrictlyIncreasing (cond b (xs ++ n ∷ []) xs)
or_one_higher false xs n rising all = rising
or_one_higher true xs n rising all = one_higher xs n rising all

rises : (seen : List (List ℕ)) (file : List ℕ) (n : ℕ) → IsStrictlyIncreasing (dropped_below seen file n)
rises seen file zero = subst IsStrictlyIncreasing (sym (none_listed seen file)) (λ k within. absurd (omega (arith, within)))
rises seen file (suc n) = subst IsStrictlyIncreasing (sym (listed_suc seen file n))
    (or_one_higher (was_seen (seen_below seen file n) (group_signature file n)) (dropped_below seen file n) n (rises seen file n) (λ k h. (listed_is seen file n k h).0))

-- ---- all of them
abbrev after : List (List ℕ) → List (List ℕ)
after earlier = seen_in [] earlier

is_dropped : (earlier : List (List ℕ)) (file : List ℕ) (k : ℕ) → k < section_count file → Repeats (after earlier) file k → IsDroppedGroup earlier file k
is_dropped earlier file k inside is =
    let before = repeated (seen_below (after earlier) file k) (group_signature file k) is in
    record {
      inside = inside;
      signature = before.0;
      has = signature_is file k ∙ before.1;
      before = elim (from_below (after earlier) file k before.0 before.2) [
        | inl old ↦ elim (from_files [] earlier before.0 old) [
          | inl none ↦ absurd (omega (arith, none.1))
          | inr among ↦ inl among
        ]
        | inr has ↦ inr has
      ];
    }

repeats : (earlier : List (List ℕ)) (file : List ℕ) (k : ℕ) → IsDroppedGroup earlier file k → Repeats (after earlier) file k
repeats earlier file k d = is_among (seen_below (after earlier) file k) (group_signature file k) d.signature (sym (signature_is file k) ∙ d.has) (elim d.before [
  | inl among ↦ old_below (after earlier) file k d.signature (to_files [] earlier among.0 among.1.0 d.signature among.1.1 among.1.2 among.2)
  | inr has ↦ to_below (after earlier) file k has.0 d.signature has.1 has.2
])

pub lists_dropped : (earlier : List (List ℕ)) (file : List ℕ) → AreDroppedGroups earlier file (dropped_groups (after earlier) file)
lists_dropped earlier file = record {
  rising = rises (after earlier) file (section_count file);
  are = λ k. (
    (λ h. let is = listed_is (after earlier) file (section_count file) k h in is_dropped earlier file k is.0 is.1),
    (λ d. is_listed (after earlier) file (section_count file) k d.inside (repeats earlier file k d)),
  );
}

-- and there is one such list
pub lists_no_other : (earlier : List (List ℕ)) (file : List ℕ) (numbers : List ℕ) → AreDroppedGroups earlier file numbers → dropped_groups (after earlier) file ≡ numbers
lists_no_other earlier file numbers d =
    let own = lists_dropped earlier file in
    same_members (dropped_groups (after earlier) file) numbers own.rising d.rising (λ k c. (d.are k).1 ((own.are k).0 c)) (λ k c. (own.are k).1 ((d.are k).0 c))
