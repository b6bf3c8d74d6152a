-- The first file with a name, in a list of names with bytes.
use Rattle.std.proofs.Common.{◌≡◌, ◌≢◌, ◌⊎◌, ◌<◌, ◌+◌, ◌++◌, ◌∷◌, ◌∙◌, ℕ, Bool, true, false, ◌||◌, cond, List, [], Option, Some, None, Result, Ok, Err, position, string_bytes, length, get_or, slice_set, unwrap_or, refl, sym, ap, subst, inl, inr, ⊎_elim, arith}
use Prim.Native.Nat.{zero, suc}
use Rattle.std.specs.Prelude.{String, Vec}
use Rattle.std.specs.declared.alloc.Global.{Global}
use Rattle.std.specs.Str.{bytes_eq}
use Rattle.std.specs.Option.{option_map, ForSome}
use Rattle.std.specs.List.{position_from}
use Rattle.std.proofs.lemmas.Iterator.Adapters.{position_from-zero}
use Rattle.std.proofs.lemmas.Slice.Eq.{bytes_eq-Decides}
use Rattle.sf_base.specs.Contents.{contents_of, Changes}
use Rattle.std.specs.Result.{OnOk, OnErr}
use Rattle.sf_fakes.specs.Reading.{created_file_name}
use Rattle.sf_fakes.specs.Pairs.{pairs_of, has_name, place_named, with_file, name_at, contents_at, AddsName}

abbrev pub Stored : Type 0
Stored = String Global × Vec ℕ Global

shifted : (i : ℕ) (found : Option ℕ) → option_map (λ k. i + 1 + k) found ≡ option_map (λ k. i + k) (option_map (λ k. suc k) found)
shifted i None = refl
shifted i (Some k) = let e : i + 1 + k ≡ i + suc k = omega arith in ap (λ n. Some n) e

from_place : (files : List Stored) (name : List ℕ) (i : ℕ) → position_from (λ (file : Stored). bytes_eq (string_bytes file.0) name) i files ≡ option_map (λ k. i + k) (place_named (pairs_of files) name)
from_place [] name i = refl
from_place (file ∷ files) name i =
    let rest = from_place files name (i + 1) ∙ shifted i (place_named (pairs_of files) name) in
    elim (bytes_eq (string_bytes file.0) name) as (λ b. cond b (Some i) (position_from (λ (f : Stored). bytes_eq (string_bytes f.0) name) (i + 1) files) ≡ option_map (λ k. i + k) (cond b (Some 0) (option_map (λ k. suc k) (place_named (pairs_of files) name))))
    [ true ↦ (let e : i ≡ i + 0 = omega arith in ap (λ n. Some n) e) | false ↦ rest ]

whole : (found : Option ℕ) → option_map (λ k. 0 + k) found ≡ found
whole None = refl
whole (Some k) = let e : 0 + k ≡ k = omega arith in ap (λ n. Some n) e

-- std's `position` finds that place
pub position_is_place : (files : List Stored) (name : List ℕ) → position (λ (file : Stored). bytes_eq (string_bytes file.0) name) files ≡ place_named (pairs_of files) name
position_is_place files name = position_from-zero (λ (file : Stored). bytes_eq (string_bytes file.0) name) files ∙ from_place files name 0 ∙ whole (place_named (pairs_of files) name)

-- it is the first pair, or one after it
place_cases : (b : Bool) (found : Option ℕ) (k : ℕ) → cond b (Some 0) (option_map (λ j. suc j) found) ≡ Some k
    → ((b ≡ true) × (k ≡ 0)) ⊎ ((b ≡ false) × ((j : ℕ) × ((found ≡ Some j) × (k ≡ suc j))))
place_cases true found k h = inl (refl, cc)
place_cases false None k h = absurd (cc)
place_cases false (Some j) k h = inr (refl, (j, (refl, cc)))

absent_cases : (b : Bool) (found : Option ℕ) → cond b (Some 0) (option_map (λ j. suc j) found) ≡ None → (b ≡ false) × (found ≡ None)
absent_cases true found h = absurd (cc)
absent_cases false None h = (refl, refl)
absent_cases false (Some j) h = absurd (cc)

same_text : (xs ys : List ℕ) → bytes_eq xs ys ≡ true → xs ≡ ys
same_text xs ys h = (bytes_eq-Decides xs ys).0 h

itself : (xs : List ℕ) → bytes_eq xs xs ≡ true
itself xs = (bytes_eq-Decides xs xs).1 refl

other_text : (xs ys : List ℕ) → bytes_eq xs ys ≡ false → xs ≢ ys
other_text xs ys h e = let t : bytes_eq xs ys ≡ true = (bytes_eq-Decides xs ys).1 e in cc

pub found_below : (files : List Stored) (name : List ℕ) (k : ℕ) → place_named (pairs_of files) name ≡ Some k → k < length files
found_below [] name k h = absurd (cc)
found_below (file ∷ files) name k h =
    ⊎_elim (λ first. omega arith)
    (λ later. let below : later.1.0 < length files = found_below files name later.1.0 later.1.1.0 in omega arith)
    (place_cases (bytes_eq (string_bytes file.0) name) (place_named (pairs_of files) name) k h)

pub found_has : (files : List Stored) (name : List ℕ) (k : ℕ) → place_named (pairs_of files) name ≡ Some k → has_name (pairs_of files) name ≡ true
found_has [] name k h = absurd (cc)
found_has (file ∷ files) name k h =
    ⊎_elim (λ first. rw first.0)
    (λ later. rw later.0 (found_has files name later.1.0 later.1.1.0))
    (place_cases (bytes_eq (string_bytes file.0) name) (place_named (pairs_of files) name) k h)

pub absent_has : (files : List Stored) (name : List ℕ) → place_named (pairs_of files) name ≡ None → has_name (pairs_of files) name ≡ false
absent_has [] name h = refl
absent_has (file ∷ files) name h =
    let both = absent_cases (bytes_eq (string_bytes file.0) name) (place_named (pairs_of files) name) h in
    rw both.0 (absent_has files name both.1)

pub lacking : (files : List (List ℕ × List ℕ)) (name : List ℕ) → has_name files name ≡ false → contents_of files name ≡ []
lacking [] name h = refl
lacking (file ∷ files) name h =
    let P : Bool → Type 0 = λ b. b || has_name files name ≡ false → cond b file.1 (contents_of files name) ≡ [] in
    elim (bytes_eq file.0 name) as P [ true ↦ λ never. absurd (cc) | false ↦ λ rest. lacking files name rest ] h

pub found_bytes : (files : List Stored) (name : List ℕ) (k : ℕ) (d : Stored) → place_named (pairs_of files) name ≡ Some k → (get_or files k d).1.items ≡ contents_of (pairs_of files) name
found_bytes [] name k d h = absurd (cc)
found_bytes (file ∷ files) name k d h =
    ⊎_elim (λ first. rw (first.1, first.0))
    (λ later. rw (later.1.1.1, later.0) (found_bytes files name later.1.0 d later.1.1.0))
    (place_cases (bytes_eq (string_bytes file.0) name) (place_named (pairs_of files) name) k h)

pub found_name : (files : List Stored) (name : List ℕ) (k : ℕ) (d : Stored) → place_named (pairs_of files) name ≡ Some k → string_bytes (get_or files k d).0 ≡ name
found_name [] name k d h = absurd (cc)
found_name (file ∷ files) name k d h =
    ⊎_elim (λ first. rw first.1 (same_text (string_bytes file.0) name first.0))
    (λ later. rw later.1.1.1 (found_name files name later.1.0 d later.1.1.0))
    (place_cases (bytes_eq (string_bytes file.0) name) (place_named (pairs_of files) name) k h)

-- the name at the place that was found
pub name_found : (files : List (List ℕ × List ℕ)) (name : List ℕ) (k : ℕ) → place_named files name ≡ Some k → name_at files k ≡ name
name_found [] name k h = absurd (cc)
name_found (file ∷ files) name k h =
    ⊎_elim (λ first. rw first.1 (same_text file.0 name first.0))
    (λ later. rw later.1.1.1 (name_found files name later.1.0 later.1.1.0))
    (place_cases (bytes_eq file.0 name) (place_named files name) k h)

-- the name of the file at a place
pub name_is : (files : List Stored) (k : ℕ) (d : Stored) → k < length files → string_bytes (get_or files k d).0 ≡ name_at (pairs_of files) k
name_is [] k d below = absurd (omega arith)
name_is (file ∷ files) zero d below = refl
name_is (file ∷ files) (suc k) d below = let smaller : k < length files = omega arith in name_is files k d smaller

pub name_held : (files : List Stored) (k : ℕ) → k < length files → place_named (pairs_of files) (name_at (pairs_of files) k) ≡ None → ⊥
name_held [] k below h = omega arith
name_held (file ∷ files) zero below h =
    let both = absent_cases (bytes_eq (string_bytes file.0) (string_bytes file.0)) (place_named (pairs_of files) (string_bytes file.0)) h in
    let same = itself (string_bytes file.0) in
    let no = both.0 in
    cc
name_held (file ∷ files) (suc k) below h =
    let smaller : k < length files = omega arith in
    let name = name_at (pairs_of files) k in
    let both = absent_cases (bytes_eq (string_bytes file.0) name) (place_named (pairs_of files) name) h in
    name_held files k smaller both.1

-- other bytes at the place that was found
pub set_there : (files : List Stored) (name : List ℕ) (k : ℕ) (file : Stored) → place_named (pairs_of files) name ≡ Some k → string_bytes file.0 ≡ name_at (pairs_of files) k
    → pairs_of (slice_set files k file) ≡ with_file (pairs_of files) name file.1.items
set_there [] name k new h same = absurd (cc)
set_there (file ∷ files) name k new h same =
    ⊎_elim (λ first. let e : string_bytes new.0 ≡ string_bytes file.0 = rw first.1 at same in rw (first.1, first.0) (ap (λ n. (n, new.1.items) ∷ pairs_of files) e))
    (λ later. let e : string_bytes new.0 ≡ name_at (pairs_of files) later.1.0 = rw later.1.1.1 at same in rw (later.1.1.1, later.0) (ap (λ rest. (string_bytes file.0, file.1.items) ∷ rest) (set_there files name later.1.0 new later.1.1.0 e)))
    (place_cases (bytes_eq (string_bytes file.0) name) (place_named (pairs_of files) name) k h)

-- one more file at the end
pub pushed_there : (files : List Stored) (name : List ℕ) (new : Stored) → place_named (pairs_of files) name ≡ None → string_bytes new.0 ≡ name
    → pairs_of (files ++ new ∷ []) ≡ with_file (pairs_of files) name new.1.items
pushed_there [] name new h same = ap (λ n. (n, new.1.items) ∷ []) same
pushed_there (file ∷ files) name new h same =
    let both = absent_cases (bytes_eq (string_bytes file.0) name) (place_named (pairs_of files) name) h in
    rw both.0 (ap (λ rest. (string_bytes file.0, file.1.items) ∷ rest) (pushed_there files name new both.1 same))

pub name_pushed : (files : List Stored) (new : Stored) → name_at (pairs_of (files ++ new ∷ [])) (length files) ≡ string_bytes new.0
name_pushed [] new = refl
name_pushed (file ∷ files) new = name_pushed files new

which : (b : Bool) → (b ≡ true) ⊎ (b ≡ false)
which true = inl refl
which false = inr refl

not_other : (text name other : List ℕ) → bytes_eq text name ≡ true → other ≢ name → bytes_eq text other ≡ false
not_other text name other same ne =
    ⊎_elim (λ yes. absurd (ne (sym (same_text text other yes) ∙ same_text text name same))) (λ no. no) (which (bytes_eq text other))

holds_there : (files : List (List ℕ × List ℕ)) (name bytes : List ℕ) → contents_of (with_file files name bytes) name ≡ bytes
holds_there [] name bytes = rw (itself name)
holds_there (file ∷ files) name bytes =
    ⊎_elim (λ yes. let e : bytes_eq file.0 name ≡ true = yes in simp e)
    (λ no. let e : bytes_eq file.0 name ≡ false = no in simp e (holds_there files name bytes)) (which (bytes_eq file.0 name))

holds_else : (files : List (List ℕ × List ℕ)) (name bytes other : List ℕ) → other ≢ name → contents_of (with_file files name bytes) other ≡ contents_of files other
holds_else [] name bytes other ne = rw (not_other name name other (itself name) ne)
holds_else (file ∷ files) name bytes other ne =
    ⊎_elim (λ yes. let no : bytes_eq file.0 other ≡ false = not_other file.0 name other yes ne in let e : bytes_eq file.0 name ≡ true = yes in simp (e, no))
    (λ no. let e : bytes_eq file.0 name ≡ false = no in simp e (ap (λ rest. cond (bytes_eq file.0 other) file.1 rest) (holds_else files name bytes other ne)))
    (which (bytes_eq file.0 name))

-- only the name's contents change
pub file_changes : (files : List (List ℕ × List ℕ)) (name bytes : List ℕ) → Changes name bytes files (with_file files name bytes)
file_changes files name bytes = record { named = holds_there files name bytes; others = holds_else files name bytes }

-- the same file again
pub set_same : (files : List Stored) (k : ℕ) (d file : Stored) → k < length files → string_bytes file.0 ≡ string_bytes (get_or files k d).0 → file.1.items ≡ (get_or files k d).1.items
    → pairs_of (slice_set files k file) ≡ pairs_of files
set_same [] k d new below name bytes = absurd (omega arith)
set_same (file ∷ files) zero d new below name bytes = ap (λ pair. pair ∷ pairs_of files) (let e : (string_bytes new.0, new.1.items) ≡ (string_bytes file.0, file.1.items) = cc in e)
set_same (file ∷ files) (suc k) d new below name bytes =
    let smaller : k < length files = omega arith in ap (λ rest. (string_bytes file.0, file.1.items) ∷ rest) (set_same files k d new smaller name bytes)

-- a name that is at a place is found
pub first_there : (files : List Stored) (place : ℕ) (found : Option ℕ) (name : List ℕ) → place < length files → name ≡ name_at (pairs_of files) place
    → found ≡ place_named (pairs_of files) name → place_named (pairs_of files) (name_at (pairs_of files) place) ≡ Some (unwrap_or found place)
first_there files place None name below is found =
    let nowhere : place_named (pairs_of files) (name_at (pairs_of files) place) ≡ None = rw (← is) (sym found) in
    absurd (name_held files place below nowhere)
first_there files place (Some k) name below is found = rw (← is) (sym found)

-- more bytes at the end of the file that was found
pub append_there : (files : List Stored) (name : List ℕ) (first : ℕ) (piece : List ℕ) (d new : Stored) → place_named (pairs_of files) name ≡ Some first
    → string_bytes new.0 ≡ string_bytes (get_or files first d).0 → new.1.items ≡ (get_or files first d).1.items ++ piece
    → pairs_of (slice_set files first new) ≡ with_file (pairs_of files) name (contents_of (pairs_of files) name ++ piece)
append_there files name first piece d new there same grown =
    let inside : first < length files = found_below files name first there in
    let named : string_bytes new.0 ≡ name_at (pairs_of files) first = same ∙ name_is files first d inside in
    let bytes : new.1.items ≡ contents_of (pairs_of files) name ++ piece = grown ∙ ap (λ xs. xs ++ piece) (found_bytes files name first d there) in
    set_there files name first new there named ∙ ap (λ xs. with_file (pairs_of files) name xs) bytes

-- other bytes for the file that was found
pub replaced : (files : List Stored) (name : List ℕ) (k : ℕ) (old new : Stored) → Some k ≡ place_named (pairs_of files) name → old ≡ get_or files k old
    → string_bytes new.0 ≡ string_bytes old.0 → pairs_of (slice_set files k new) ≡ with_file (pairs_of files) name new.1.items
replaced files name k old new found held same =
    let inside : k < length files = found_below files name k (sym found) in
    set_there files name k new (sym found) (same ∙ ap (λ (f : Stored). string_bytes f.0) held ∙ name_is files k old inside)

pub name_of_set : (files : List Stored) (k : ℕ) (file : Stored) → k < length files → name_at (pairs_of (slice_set files k file)) k ≡ string_bytes file.0
name_of_set [] k new below = absurd (omega arith)
name_of_set (file ∷ files) zero new below = refl
name_of_set (file ∷ files) (suc k) new below = let smaller : k < length files = omega arith in name_of_set files k new smaller

pub not_found : (found : Option ℕ) (files : List Stored) (name : List ℕ) → found ≡ place_named (pairs_of files) name → ((k : ℕ) → found ≡ Some k → ⊥) → place_named (pairs_of files) name ≡ None
not_found None files name e never = sym e
not_found (Some k) files name e never = absurd (never k refl)

pub found_there : (files : List (List ℕ × List ℕ)) (name : List ℕ) (k : ℕ) → place_named files name ≡ Some k → contents_at files k ≡ contents_of files name
found_there [] name k h = absurd (cc)
found_there (file ∷ files) name k h =
    ⊎_elim (λ first. rw (first.1, first.0))
    (λ later. rw (later.1.1.1, later.0) (found_there files name later.1.0 later.1.1.0))
    (place_cases (bytes_eq file.0 name) (place_named files name) k h)

-- the bytes at a place are those of the file there
pub bytes_is : (files : List Stored) (k : ℕ) (d : Stored) → k < length files → (get_or files k d).1.items ≡ contents_at (pairs_of files) k
bytes_is [] k d below = absurd (omega arith)
bytes_is (file ∷ files) zero d below = refl
bytes_is (file ∷ files) (suc k) d below = let smaller : k < length files = omega arith in bytes_is files k d smaller

-- other bytes leave the names at their places
pub name_kept : (files : List Stored) (name bytes : List ℕ) (k : ℕ) → k < length files → name_at (with_file (pairs_of files) name bytes) k ≡ name_at (pairs_of files) k
name_kept [] name bytes k below = absurd (omega arith)
name_kept (file ∷ files) name bytes zero below = elim (bytes_eq (string_bytes file.0) name) as (λ b. name_at (cond b ((string_bytes file.0, bytes) ∷ pairs_of files) ((string_bytes file.0, file.1.items) ∷ with_file (pairs_of files) name bytes)) 0 ≡ string_bytes file.0) [ true ↦ refl | false ↦ refl ]
name_kept (file ∷ files) name bytes (suc k) below =
    let smaller : k < length files = omega arith in
    elim (bytes_eq (string_bytes file.0) name) as (λ b. name_at (cond b ((string_bytes file.0, bytes) ∷ pairs_of files) ((string_bytes file.0, file.1.items) ∷ with_file (pairs_of files) name bytes)) (suc k) ≡ name_at (pairs_of files) k)
    [ true ↦ refl | false ↦ name_kept files name bytes k smaller ]

pub on_ok : {T E : Type 0} (r : Result T E) (P Q : Type 0) → (P → Q) → OnOk r P → OnOk r Q
on_ok (Ok x) P Q step h = step h
on_ok (Err e) P Q step h = h

pub on_err : {T E : Type 0} (r : Result T E) (P Q : Type 0) → (P → Q) → OnErr r P → OnErr r Q
on_err (Ok x) P Q step h = h
on_err (Err e) P Q step h = step h

-- the created file grew, and all else stayed
pub grew : (files new : List (List ℕ × List ℕ)) (created : Option ℕ) (place : ℕ) (piece : List ℕ) → created ≡ Some place
    → new ≡ with_file files (name_at files place) (contents_of files (name_at files place) ++ piece)
    → Changes (created_file_name files created) (contents_of files (created_file_name files created) ++ piece) files new
grew files new created place piece is e =
    let P : Option ℕ → Type 0 = λ o. Changes (created_file_name files o) (contents_of files (created_file_name files o) ++ piece) files new in
    let Q : List (List ℕ × List ℕ) → Type 0 = λ fs. Changes (name_at files place) (contents_of files (name_at files place) ++ piece) files fs in
    subst P (sym is) (subst Q (sym e) (file_changes files (name_at files place) (contents_of files (name_at files place) ++ piece)))

pub created_kept : (files : List Stored) (new : List (List ℕ × List ℕ)) (created : Option ℕ) (place : ℕ) (name bytes : List ℕ) → created ≡ Some place → place < length files
    → new ≡ with_file (pairs_of files) name bytes → created_file_name new created ≡ created_file_name (pairs_of files) created
created_kept files new created place name bytes is below e =
    let P : Option ℕ → Type 0 = λ o. created_file_name new o ≡ created_file_name (pairs_of files) o in
    subst P (sym is) (ap (λ fs. name_at fs place) e ∙ name_kept files name bytes place below)

has_there : (files : List (List ℕ × List ℕ)) (name bytes : List ℕ) → has_name (with_file files name bytes) name ≡ true
has_there [] name bytes = ap (λ b. b || false) (itself name)
has_there (file ∷ files) name bytes =
    ⊎_elim (λ yes. let e : bytes_eq file.0 name ≡ true = yes in simp e)
    (λ no. let e : bytes_eq file.0 name ≡ false = no in simp e (has_there files name bytes)) (which (bytes_eq file.0 name))

has_else : (files : List (List ℕ × List ℕ)) (name bytes other : List ℕ) → other ≢ name → has_name (with_file files name bytes) other ≡ has_name files other
has_else [] name bytes other ne = ap (λ b. b || false) (not_other name name other (itself name) ne)
has_else (file ∷ files) name bytes other ne =
    ⊎_elim (λ yes. let e : bytes_eq file.0 name ≡ true = yes in simp e)
    (λ no. let e : bytes_eq file.0 name ≡ false = no in simp e (ap (λ rest. bytes_eq file.0 other || rest) (has_else files name bytes other ne)))
    (which (bytes_eq file.0 name))

-- only that name is added
pub name_added : (files new : List (List ℕ × List ℕ)) (name bytes : List ℕ) → new ≡ with_file files name bytes → AddsName name files new
name_added files new name bytes is =
    let P : List (List ℕ × List ℕ) → Type 0 = λ fs. AddsName name files fs in
    subst P (sym is) (record { held = has_there files name bytes; others = has_else files name bytes })

-- the created file keeps its name
pub created_stays : (files : List Stored) (new : List (List ℕ × List ℕ)) (created : Option ℕ) (n : ℕ) (name bytes : List ℕ) → n ≡ length files → ForSome created (λ place. place < n)
    → new ≡ with_file (pairs_of files) name bytes → created_file_name new created ≡ created_file_name (pairs_of files) created
created_stays files new None n name bytes long stands is = refl
created_stays files new (Some place) n name bytes long stands is =
    let below : place < n = stands place refl in
    let inside : place < length files = omega arith in
    created_kept files new (Some place) place name bytes refl inside is
