-- Names that are read backwards, byte by byte.
use Rattle.std.specs.Prelude.{bytes_eq, slice_get}
use Rattle.std.specs.Option.{option_map_or}
use Rattle.std.proofs.Common.{◌≡◌, ◌≢◌, ◌<◌, ℕ, suc, ◌+◌, ◌-◌, ◌&&◌, Bool, true, false, cond, List, [], ◌∷◌, ◌++◌, append-nil, append_assoc, drop, get_or, length, reverse, take, Option, Some, refl, sym, ap, subst, ◌∙◌, arith}
use Rattle.std.proofs.lemmas.Bool.{eq-eqb, false_from_ne_true, ne_eqb, eqb-true}
use Rattle.std.proofs.lemmas.List.{drop_all, drop_more, length-append, nil_from_length, reverse-append, reverse-reverse, take_all, take_more}
use Rattle.std.proofs.lemmas.Slice.Eq.{bytes_eq-Decides}
use Rattle.sf_modules.specs.Name.{common_tail, is_slash, last_part, longer_first, parts_of, shared, up_to_slash}

-- how many parts they have in common, from the first on
abbrev pub in_common : (bytes others : List ℕ) → ℕ
in_common bytes others = shared (parts_of bytes) (parts_of others)

-- the bytes are the rest of a part, which is empty
abbrev pub is_end : List ℕ → Bool
is_end [] = true
is_end (byte ∷ bytes) = is_slash byte

record Parts (bytes : List ℕ) : Type 0 where
  part : List ℕ
  parts : List (List ℕ)
  are : parts_of bytes ≡ part ∷ parts

at_slash : (byte : ℕ) (bytes : List ℕ) → is_slash byte ≡ true → parts_of (byte ∷ bytes) ≡ [] ∷ parts_of bytes
unfolding parts_of
at_slash byte bytes e = ap (λ (b : Bool). cond b ([] ∷ parts_of bytes) (longer_first byte (parts_of bytes))) e

at_other : (byte : ℕ) (bytes : List ℕ) → is_slash byte ≡ false → parts_of (byte ∷ bytes) ≡ longer_first byte (parts_of bytes)
unfolding parts_of
at_other byte bytes e = ap (λ (b : Bool). cond b ([] ∷ parts_of bytes) (longer_first byte (parts_of bytes))) e

at_none : parts_of [] ≡ [] ∷ []
unfolding parts_of
at_none = refl

some_parts : (bytes : List ℕ) → Parts bytes
some_parts [] = record { part = []; parts = []; are = at_none }
some_parts (byte ∷ bytes) = by_test (is_slash byte) refl (some_parts bytes)
  where
    by_test : (b : Bool) → is_slash byte ≡ b → Parts bytes → Parts (byte ∷ bytes)
    by_test true e later = record { part = []; parts = parts_of bytes; are = at_slash byte bytes e }
    by_test false e later = record { part = byte ∷ later.part; parts = later.parts; are = at_other byte bytes e ∙ ap (longer_first byte) later.are }

-- ---- two lists
shared-step : (p q : List ℕ) (ps qs : List (List ℕ)) (b : Bool) → bytes_eq p q ≡ b → shared (p ∷ ps) (q ∷ qs) ≡ cond b (suc (shared ps qs)) 0
unfolding shared
shared-step p q ps qs b e = ap (λ (t : Bool). cond t (suc (shared ps qs)) 0) e

shared-nil : (qs : List (List ℕ)) → shared [] qs ≡ 0
unfolding shared
shared-nil qs = refl

shared-one : (p : List ℕ) (ps : List (List ℕ)) → shared (p ∷ ps) [] ≡ 0
unfolding shared
shared-one p ps = refl

-- ---- the same byte
pub same_slash : (byte other : ℕ) (bytes others : List ℕ) → byte ≡ other → is_slash byte ≡ true → in_common (byte ∷ bytes) (other ∷ others) ≡ suc (in_common bytes others)
same_slash byte other bytes others same e =
    ap (λ (ps : List (List ℕ)). shared ps (parts_of (other ∷ others))) (at_slash byte bytes e)
    ∙ ap (shared ([] ∷ parts_of bytes)) (at_slash other others (ap is_slash (sym same) ∙ e))
    ∙ shared-step [] [] (parts_of bytes) (parts_of others) true refl

pub same_byte : (byte other : ℕ) (bytes others : List ℕ) → byte ≡ other → is_slash byte ≡ false → in_common (byte ∷ bytes) (other ∷ others) ≡ in_common bytes others
same_byte byte other bytes others same e =
    let p = some_parts bytes in
    let q = some_parts others in
    let first : bytes_eq (byte ∷ p.part) (other ∷ q.part) ≡ bytes_eq p.part q.part = ap (λ (b : Bool). b && bytes_eq p.part q.part) (eq-eqb byte other same) in
    ap (λ (ps : List (List ℕ)). shared ps (parts_of (other ∷ others))) (at_other byte bytes e ∙ ap (longer_first byte) p.are)
    ∙ ap (shared ((byte ∷ p.part) ∷ p.parts)) (at_other other others (ap is_slash (sym same) ∙ e) ∙ ap (longer_first other) q.are)
    ∙ shared-step (byte ∷ p.part) (other ∷ q.part) p.parts q.parts (bytes_eq p.part q.part) first
    ∙ sym (ap (λ (ps : List (List ℕ)). shared ps (parts_of others)) p.are ∙ ap (shared (p.part ∷ p.parts)) q.are ∙ shared-step p.part q.part p.parts q.parts (bytes_eq p.part q.part) refl)

-- ---- the end of what they have in common
-- one part more, where both are at the end of one
abbrev pub last_one : (bytes others : List ℕ) → ℕ
last_one bytes others = cond (is_end bytes && is_end others) 1 0

none_then : (bytes : List ℕ) → in_common [] bytes ≡ last_one [] bytes
none_then [] = ap (λ (ps : List (List ℕ)). shared ps ps) at_none ∙ shared-step [] [] [] [] true refl ∙ ap suc (shared-nil [])
none_then (byte ∷ bytes) = by_test (is_slash byte) refl
  where
    by_test : (b : Bool) → is_slash byte ≡ b → in_common [] (byte ∷ bytes) ≡ cond b 1 0
    by_test true e =
        ap (λ (ps : List (List ℕ)). shared ps (parts_of (byte ∷ bytes))) at_none ∙ ap (shared ([] ∷ [])) (at_slash byte bytes e)
        ∙ shared-step [] [] [] (parts_of bytes) true refl ∙ ap suc (shared-nil (parts_of bytes))
    by_test false e =
        let q = some_parts bytes in
        ap (λ (ps : List (List ℕ)). shared ps (parts_of (byte ∷ bytes))) at_none ∙ ap (shared ([] ∷ [])) (at_other byte bytes e ∙ ap (longer_first byte) q.are)
        ∙ shared-step [] (byte ∷ q.part) [] q.parts false refl

then_none : (bytes : List ℕ) → in_common bytes [] ≡ last_one bytes []
then_none [] = none_then []
then_none (byte ∷ bytes) = by_test (is_slash byte) refl
  where
    by_test : (b : Bool) → is_slash byte ≡ b → in_common (byte ∷ bytes) [] ≡ cond (b && true) 1 0
    by_test true e =
        let p = some_parts bytes in
        ap (shared (parts_of (byte ∷ bytes))) at_none ∙ ap (λ (ps : List (List ℕ)). shared ps ([] ∷ [])) (at_slash byte bytes e)
        ∙ shared-step [] [] (parts_of bytes) [] true refl ∙ ap (λ (ps : List (List ℕ)). suc (shared ps [])) p.are ∙ ap suc (shared-one p.part p.parts)
    by_test false e =
        let p = some_parts bytes in
        ap (shared (parts_of (byte ∷ bytes))) at_none ∙ ap (λ (ps : List (List ℕ)). shared ps ([] ∷ [])) (at_other byte bytes e ∙ ap (longer_first byte) p.are)
        ∙ shared-step (byte ∷ p.part) [] p.parts [] false refl

pub ends_apart : (bytes others : List ℕ) → (bytes ≡ []) → in_common bytes others ≡ last_one bytes others
ends_apart bytes others e = subst (λ (bs : List ℕ). in_common bs others ≡ last_one bs others) (sym e) (none_then others)

pub ends_apart_too : (bytes others : List ℕ) → (others ≡ []) → in_common bytes others ≡ last_one bytes others
ends_apart_too bytes others e = subst (λ (bs : List ℕ). in_common bytes bs ≡ last_one bytes bs) (sym e) (then_none bytes)

pub bytes_differ : (byte other : ℕ) (bytes others : List ℕ) → byte ≢ other → in_common (byte ∷ bytes) (other ∷ others) ≡ last_one (byte ∷ bytes) (other ∷ others)
bytes_differ byte other bytes others differ = by_tests (is_slash byte) (is_slash other) refl refl
  where
    p : Parts bytes
    p = some_parts bytes

    q : Parts others
    q = some_parts others

    by_tests : (b c : Bool) → is_slash byte ≡ b → is_slash other ≡ c → in_common (byte ∷ bytes) (other ∷ others) ≡ cond (b && c) 1 0
    by_tests true true e f = absurd (differ (eqb-true byte 47 e ∙ sym (eqb-true other 47 f)))
    by_tests true false e f =
        ap (λ (ps : List (List ℕ)). shared ps (parts_of (other ∷ others))) (at_slash byte bytes e)
        ∙ ap (shared ([] ∷ parts_of bytes)) (at_other other others f ∙ ap (longer_first other) q.are)
        ∙ shared-step [] (other ∷ q.part) (parts_of bytes) q.parts false refl
    by_tests false true e f =
        ap (λ (ps : List (List ℕ)). shared ps (parts_of (other ∷ others))) (at_other byte bytes e ∙ ap (longer_first byte) p.are)
        ∙ ap (shared ((byte ∷ p.part) ∷ p.parts)) (at_slash other others f)
        ∙ shared-step (byte ∷ p.part) [] p.parts (parts_of others) false refl
    by_tests false false e f =
        ap (λ (ps : List (List ℕ)). shared ps (parts_of (other ∷ others))) (at_other byte bytes e ∙ ap (longer_first byte) p.are)
        ∙ ap (shared ((byte ∷ p.part) ∷ p.parts)) (at_other other others f ∙ ap (longer_first other) q.are)
        ∙ shared-step (byte ∷ p.part) (other ∷ q.part) p.parts q.parts false (ap (λ (b : Bool). b && bytes_eq p.part q.part) (ne_eqb byte other differ))

-- ---- the same by the names as they are
pub backwards : (name front : List ℕ) (byte : ℕ) → name ≡ front ++ byte ∷ [] → reverse name ≡ byte ∷ reverse front
backwards name front byte e = ap reverse e ∙ reverse-append front (byte ∷ [])

at_length : (front : List ℕ) (byte : ℕ) → slice_get (front ++ byte ∷ []) (length front) ≡ Some byte
at_length [] byte = refl
at_length (b ∷ front) byte = at_length front byte

last_there : (front : List ℕ) (byte : ℕ) → slice_get (front ++ byte ∷ []) (length (front ++ byte ∷ []) - 1) ≡ Some byte
last_there front byte =
    let len : length (front ++ byte ∷ []) ≡ length front + 1 = length-append front (byte ∷ []) in
    let last : length (front ++ byte ∷ []) - 1 ≡ length front = omega (len, arith) in
    ap (slice_get (front ++ byte ∷ [])) last ∙ at_length front byte

by_back : (back : List ℕ) → option_map_or is_slash (slice_get (reverse back) (length (reverse back) - 1)) true ≡ is_end back
by_back [] = refl
by_back (byte ∷ back) =
    ap (λ (bs : List ℕ). option_map_or is_slash (slice_get bs (length bs - 1)) true) (reverse-append (byte ∷ []) back)
    ∙ ap (λ (o : Option ℕ). option_map_or is_slash o true) (last_there (reverse back) byte)

pub is_end-last : (name : List ℕ) → option_map_or is_slash (slice_get name (length name - 1)) true ≡ is_end (reverse name)
is_end-last name = ap (λ (bs : List ℕ). option_map_or is_slash (slice_get bs (length bs - 1)) true) (sym (reverse-reverse name)) ∙ by_back (reverse name)

pub starts_with_all : (name other : List ℕ) → common_tail name other ≡ 0 + in_common (reverse name) (reverse other)
unfolding common_tail
starts_with_all name other = omega arith

-- ---- one byte after the other
-- a slash more that they have in common
pub passed_slash : (all parts new : ℕ) (rest front others other_front : List ℕ) (byte other_byte : ℕ) → all ≡ parts + in_common (reverse rest) (reverse others) → rest ≡ front ++ byte ∷ []
    → others ≡ other_front ++ other_byte ∷ [] → byte ≡ other_byte → is_slash byte ≡ true → new ≡ parts + 1 → all ≡ new + in_common (reverse front) (reverse other_front)
passed_slash all parts new rest front others other_front byte other_byte h is other_is same slash grown =
    let step : in_common (reverse rest) (reverse others) ≡ suc (in_common (reverse front) (reverse other_front)) =
    ap (λ (bs : List ℕ). in_common bs (reverse others)) (backwards rest front byte is)
    ∙ ap (in_common (byte ∷ reverse front)) (backwards others other_front other_byte other_is)
    ∙ same_slash byte other_byte (reverse front) (reverse other_front) same slash in
    omega (h, step, grown, arith)

-- another byte more
pub passed_byte : (all parts new : ℕ) (rest front others other_front : List ℕ) (byte other_byte : ℕ) → all ≡ parts + in_common (reverse rest) (reverse others) → rest ≡ front ++ byte ∷ []
    → others ≡ other_front ++ other_byte ∷ [] → byte ≡ other_byte → is_slash byte ≡ false → new ≡ parts → all ≡ new + in_common (reverse front) (reverse other_front)
passed_byte all parts new rest front others other_front byte other_byte h is other_is same other grown =
    let step : in_common (reverse rest) (reverse others) ≡ in_common (reverse front) (reverse other_front) =
    ap (λ (bs : List ℕ). in_common bs (reverse others)) (backwards rest front byte is)
    ∙ ap (in_common (byte ∷ reverse front)) (backwards others other_front other_byte other_is)
    ∙ same_byte byte other_byte (reverse front) (reverse other_front) same other in
    omega (h, step, grown, arith)

-- where the first, or the other, has no byte left, or the last bytes differ
pub at_front : (rest others : List ℕ) → length rest ≡ 0 → in_common (reverse rest) (reverse others) ≡ last_one (reverse rest) (reverse others)
at_front rest others e = ends_apart (reverse rest) (reverse others) (ap reverse (nil_from_length rest e))

pub at_other_front : (rest others : List ℕ) → length others ≡ 0 → in_common (reverse rest) (reverse others) ≡ last_one (reverse rest) (reverse others)
at_other_front rest others e = ends_apart_too (reverse rest) (reverse others) (ap reverse (nil_from_length others e))

pub at_difference : (rest front others other_front : List ℕ) (byte other_byte : ℕ) → rest ≡ front ++ byte ∷ [] → others ≡ other_front ++ other_byte ∷ [] → byte ≢ other_byte
    → in_common (reverse rest) (reverse others) ≡ last_one (reverse rest) (reverse others)
at_difference rest front others other_front byte other_byte is other_is differ =
    ap (λ (bs : List ℕ). in_common bs (reverse others)) (backwards rest front byte is)
    ∙ ap (in_common (byte ∷ reverse front)) (backwards others other_front other_byte other_is)
    ∙ bytes_differ byte other_byte (reverse front) (reverse other_front) differ
    ∙ sym
    (ap (λ (bs : List ℕ). last_one bs (reverse others)) (backwards rest front byte is)
    ∙ ap (last_one (byte ∷ reverse front)) (backwards others other_front other_byte other_is))

-- a test at the last byte of a name
abbrev pub end_test : List ℕ → Bool
end_test name = option_map_or is_slash (slice_get name (length name - 1)) true

last_one-tests : (rest others : List ℕ) (b c : Bool) → end_test rest ≡ b → end_test others ≡ c → last_one (reverse rest) (reverse others) ≡ cond (b && c) 1 0
last_one-tests rest others b c e f =
    ap (λ (t : Bool). cond (t && is_end (reverse others)) 1 0) (sym (is_end-last rest) ∙ e) ∙ ap (λ (t : Bool). cond (b && t) 1 0) (sym (is_end-last others) ∙ f)

pub whole_part : (all parts : ℕ) (rest others : List ℕ) → all ≡ parts + in_common (reverse rest) (reverse others) → in_common (reverse rest) (reverse others) ≡ last_one (reverse rest) (reverse others)
    → end_test rest ≡ true → end_test others ≡ true → parts + 1 ≡ all
whole_part all parts rest others h last e f = let one = last ∙ last_one-tests rest others true true e f in omega (h, one, arith)

pub no_part : (all parts : ℕ) (rest others : List ℕ) → all ≡ parts + in_common (reverse rest) (reverse others) → in_common (reverse rest) (reverse others) ≡ last_one (reverse rest) (reverse others)
    → end_test rest ≡ false → parts ≡ all
no_part all parts rest others h last e = let none = last ∙ last_one-tests rest others false (end_test others) e refl in omega (h, none, arith)

pub no_other_part : (all parts : ℕ) (rest others : List ℕ) → all ≡ parts + in_common (reverse rest) (reverse others) → in_common (reverse rest) (reverse others) ≡ last_one (reverse rest) (reverse others)
    → end_test others ≡ false → parts ≡ all
no_other_part all parts rest others h last e =
    let tests = last_one-tests rest others (end_test rest) false refl e in
    let none = last ∙ tests ∙ and_false (end_test rest) in omega (h, none, arith)
  where
    and_false : (b : Bool) → ◌≡◌ {A = ℕ} (cond (b && false) 1 0) 0
    and_false true = refl
    and_false false = refl

-- ---- the last part
up_at_none : up_to_slash [] ≡ []
unfolding up_to_slash
up_at_none = refl

up_at_slash : (byte : ℕ) (bytes : List ℕ) → is_slash byte ≡ true → up_to_slash (byte ∷ bytes) ≡ []
unfolding up_to_slash
up_at_slash byte bytes e = ap (λ (b : Bool). cond b [] (byte ∷ up_to_slash bytes)) e

up_at_other : (byte : ℕ) (bytes : List ℕ) → is_slash byte ≡ false → up_to_slash (byte ∷ bytes) ≡ byte ∷ up_to_slash bytes
unfolding up_to_slash
up_at_other byte bytes e = ap (λ (b : Bool). cond b [] (byte ∷ up_to_slash bytes)) e

-- it is the first of the parts
record StartsWith (bytes : List ℕ) : Type 0 where
  parts : List (List ℕ)
  are : parts_of bytes ≡ up_to_slash bytes ∷ parts

starts_with : (bytes : List ℕ) → StartsWith bytes
starts_with [] = record { parts = []; are = at_none ∙ ap (λ (p : List ℕ). p ∷ []) (sym up_at_none) }
starts_with (byte ∷ bytes) = by_test (is_slash byte) refl (starts_with bytes)
  where
    by_test : (b : Bool) → is_slash byte ≡ b → StartsWith bytes → StartsWith (byte ∷ bytes)
    by_test true e later = record { parts = parts_of bytes; are = at_slash byte bytes e ∙ ap (λ (p : List ℕ). p ∷ parts_of bytes) (sym (up_at_slash byte bytes e)) }
    by_test false e later = record { parts = later.parts; are = at_other byte bytes e ∙ ap (longer_first byte) later.are ∙ ap (λ (p : List ℕ). p ∷ later.parts) (sym (up_at_other byte bytes e)) }

none_in_common : (bytes others : List ℕ) → bytes_eq (up_to_slash bytes) (up_to_slash others) ≡ false → in_common bytes others ≡ 0
none_in_common bytes others e =
    let p = starts_with bytes in
    let q = starts_with others in
    ap (λ (ps : List (List ℕ)). shared ps (parts_of others)) p.are ∙ ap (shared (up_to_slash bytes ∷ p.parts)) q.are
    ∙ shared-step (up_to_slash bytes) (up_to_slash others) p.parts q.parts false e

-- names whose last parts differ have none in common
pub other_last : (word name : List ℕ) → bytes_eq (last_part word) (last_part name) ≡ false → common_tail word name ≡ 0
other_last word name e =
    let u = up_to_slash (reverse word) in
    let v = up_to_slash (reverse name) in
    let differ : bytes_eq u v ≡ false =
    false_from_ne_true (bytes_eq u v) (λ t. let no : false ≡ true = sym e ∙ (bytes_eq-Decides (reverse u) (reverse v)).1 (ap reverse ((bytes_eq-Decides u v).0 t)) in cc) in
    let none : in_common (reverse word) (reverse name) ≡ 0 = none_in_common (reverse word) (reverse name) differ in
    starts_with_all word name ∙ ap (λ (n : ℕ). 0 + n) none

-- the last part of the first n bytes, and the bytes after them
abbrev pub last_from : (n : ℕ) → (name : List ℕ) → List ℕ
last_from n name = reverse (up_to_slash (reverse (take n name))) ++ drop n name

pub last_of_all : (name : List ℕ) (n : ℕ) → n ≡ length name → last_from n name ≡ last_part name
last_of_all name n all =
    let whole : take n name ≡ name = take_all n name (omega (all, arith)) in
    let none : drop n name ≡ [] = drop_all n name (omega (all, arith)) in
    ap (λ (bs : List ℕ). reverse (up_to_slash (reverse bs)) ++ drop n name) whole ∙ ap (λ (bs : List ℕ). last_part name ++ bs) none ∙ append-nil (last_part name)

-- the byte before is no slash, or it is one, or there is none
pub last_goes_on : (name : List ℕ) (n m : ℕ) (d : ℕ) → n ≡ m + 1 → m < length name → is_slash (get_or name m d) ≡ false → last_from n name ≡ last_from m name
last_goes_on name n m d is lt e =
    let byte = get_or name m d in
    let front = up_to_slash (reverse (take m name)) in
    let back : reverse (take (m + 1) name) ≡ byte ∷ reverse (take m name) = backwards (take (m + 1) name) (take m name) byte (take_more name m d lt) in
    ap (λ (k : ℕ). last_from k name) is
    ∙ ap (λ (bs : List ℕ). reverse (up_to_slash bs) ++ drop (m + 1) name) back
    ∙ ap (λ (bs : List ℕ). reverse bs ++ drop (m + 1) name) (up_at_other byte (reverse (take m name)) e)
    ∙ ap (λ (bs : List ℕ). bs ++ drop (m + 1) name) (reverse-append (byte ∷ []) front)
    ∙ append_assoc (reverse front) (byte ∷ []) (drop (m + 1) name)
    ∙ ap (λ (bs : List ℕ). reverse front ++ bs) (sym (drop_more name m d lt))

pub last_after_slash : (name : List ℕ) (n m : ℕ) (d : ℕ) → n ≡ m + 1 → m < length name → is_slash (get_or name m d) ≡ true → last_from n name ≡ drop n name
last_after_slash name n m d is lt e =
    let byte = get_or name m d in
    let back : reverse (take (m + 1) name) ≡ byte ∷ reverse (take m name) = backwards (take (m + 1) name) (take m name) byte (take_more name m d lt) in
    ap (λ (k : ℕ). last_from k name) is
    ∙ ap (λ (bs : List ℕ). reverse (up_to_slash bs) ++ drop (m + 1) name) back
    ∙ ap (λ (bs : List ℕ). reverse bs ++ drop (m + 1) name) (up_at_slash byte (reverse (take m name)) e)
    ∙ ap (λ (k : ℕ). drop k name) (sym is)

pub last_is_all : (name : List ℕ) (n : ℕ) → n ≡ 0 → last_from n name ≡ name
last_is_all name n none = ap (λ (k : ℕ). last_from k name) none ∙ ap (λ (bs : List ℕ). reverse bs ++ name) up_at_none
