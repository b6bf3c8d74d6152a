-- What a record that was split off is, and where the next one is.
use Rattle.std.specs.Prelude.{◌==◌, nat_lt}
use Rattle.std.proofs.lemmas.Bool.{eqb-true}
use Rattle.std.proofs.Common.{List, ◌∷◌, ◌⊎◌, inl, inr, ◌≡◌, ℕ, ◌+◌, ◌≤◌, Bool, true, false, cond, [], length, take, drop, subst, length-drop, Option, Some, None, Result, Ok, Err, refl, sym, ap, ◌∙◌, arith}
use Rattle.std.proofs.lemmas.Bool.Decides.{nat_tests}
use Rattle.std.proofs.lemmas.List.{drop-drop}
use Rattle.byteorder.specs.Endian.{little_number}
use Rattle.sf_bytes.specs.declared.fault.ByteFault.TheVariants as byte_faults
use Rattle.sf_bytes.specs.Cursor.{Cursor, Read, past, number_at, part_at}
use Rattle.eh_records.specs.declared.fault.RecordFault.{RecordFault}
use Rattle.eh_records.specs.declared.fault.RecordFault.TheVariants.{Short, Extended}
use Rattle.eh_records.specs.Records.{Stands}
use Rattle.eh_records.specs.RawRecord.{RawRecordView, raw_record_at, record_of_length, whole, of_length}
use Rattle.eh_records.specs.Step.{Step, ◌>>=◌, at_field, number_field, part_field}

-- a step that continued succeeded
pub record Through {A B : Type 0} (r : Result A RecordFault) (f : A → Result B RecordFault) (b : B) : Type 0 where
  pub first : A
  pub read : r ≡ Ok first
  pub rest : f first ≡ Ok b

pub through : {A B : Type 0} (r : Result A RecordFault) (f : A → Result B RecordFault) (b : B) → (r >>= f) ≡ Ok b → Through r f b
through (Ok a) f b e = record { first = a; read = refl; rest = e }
through (Err x) f b e = absurd cc

-- a step that gives a value, and one that fails, with what follows it
pub then_is : {A B : Type 0} (r : Result A RecordFault) (f : A → Result B RecordFault) (x : A) (y : Result B RecordFault) → r ≡ Ok x → f x ≡ y → (r >>= f) ≡ y
then_is {A = A} r f x y read rest = ap (λ (s : Result A RecordFault). s >>= f) read ∙ rest

pub then_fails : {A B : Type 0} (r : Result A RecordFault) (f : A → Result B RecordFault) (e : RecordFault) → r ≡ Err e → (r >>= f) ≡ Err e
then_fails {A = A} r f e h = ap (λ (s : Result A RecordFault). s >>= f) h

abbrev ok : {X : Type 0} → X → Result X RecordFault
ok x = Ok x

pub ok_same : {X : Type 0} (x y : X) → ok x ≡ ok y → x ≡ y
ok_same x y e = cc

-- a field that was read lies in the bytes, and gives this value and the cursor after it
pub record IsRead {X : Type 0} (n : ℕ) (at : Cursor) (v : X) (x : X × Cursor) : Type 0 where
  pub within : n ≤ length at.left
  pub value : x.0 ≡ v
  pub after : x.1 ≡ past n at

read_if : {X : Type 0} (n place : ℕ) (at : Cursor) (v : X) (x : X × Cursor) (b : Bool) → nat_lt (length at.left) n ≡ b
    → at_field place (cond {A = Read X} b (Err (byte_faults.Short at.place)) (Ok (v, past n at))) ≡ Ok x → IsRead n at v x
read_if n place at v x true t e = absurd cc
read_if n place at v x false t e =
    let le : n ≤ length at.left = grind (arith, nat_tests) in
    let pair : (v, past n at) ≡ x = cc in
    record { within = le; value = sym (ap (λ y. y.0) pair); after = sym (ap (λ y. y.1) pair) }

pub number_read : (n : ℕ) (at : Cursor) (x : ℕ × Cursor) → number_field n at ≡ Ok x → IsRead n at (little_number n (take n at.left)) x
unfolding number_field number_at
number_read n at x e = read_if n at.place at (little_number n (take n at.left)) x (nat_lt (length at.left) n) refl e

pub part_read : (n : ℕ) (at : Cursor) (x : Cursor × Cursor) → part_field n at ≡ Ok x → IsRead n at (record { place = at.place; left = take n at.left }) x
unfolding part_field part_at
part_read n at x e = read_if n at.place at (record { place = at.place; left = take n at.left }) x (nat_lt (length at.left) n) refl e

whole_is : {X : Type 0} (place : ℕ) (s : Step X) (x : X × Cursor) → whole place s ≡ Ok x → s ≡ Ok x
whole_is place (Ok y) x e = e
whole_is place (Err f) x e = absurd cc

-- the record of this length
abbrev pub record_there_is : ℕ → Cursor → RawRecordView
record_there_is len at = record {
  place = at.place;
  id_place = at.place + 4;
  id = little_number 4 (take 4 (take len (drop 4 at.left)));
  body = record { place = at.place + 8; left = drop 4 (take len (drop 4 at.left)) };
}

pub past-past : (m n : ℕ) (at : Cursor) → past n (past m at) ≡ past (m + n) at
past-past m n at =
    let place : at.place + m + n ≡ at.place + (m + n) = omega arith in
    let left : drop n (drop m at.left) ≡ drop (m + n) at.left = drop-drop n m at.left in
    cc

built : (len : ℕ) (at : Cursor) (p : RawRecordView) (after body after1 : Cursor) (id : ℕ) (rest : Cursor) → little_number 4 (take 4 at.left) ≡ len → (len ≡ 4294967295 → ⊥) → 4 ≤ len → 4 ≤ length at.left
    → IsRead len (past 4 at) (record { place = at.place + 4; left = take len (drop 4 at.left) }) (body, after1)
    → IsRead 4 body (little_number 4 (take 4 body.left)) (id, rest)
    → (record { place = at.place; id_place = body.place; id = id; body = rest }) ≡ p → after1 ≡ after → Stands at p after
built len at p after body after1 id rest word short enough four r1 r2 ep ea =
    let drops : length (drop 4 at.left) + 4 ≡ length at.left = grind (arith, length-drop 4 at.left) in
    let within : len ≤ length (drop 4 at.left) = r1.within in
    let body_is : body ≡ record { place = at.place + 4; left = take len (drop 4 at.left) } = r1.value in
    let rest_is : rest ≡ past 4 body = r2.after in
    let id_is : id ≡ little_number 4 (take 4 body.left) = r2.value in
    let place : at.place + 4 + 4 ≡ at.place + 8 = omega arith in
    let after_is : after1 ≡ past len (past 4 at) = r1.after in
    let all : (record { place = at.place; id_place = body.place; id = id; body = rest }) ≡ record_there_is len at =
    ap (λ (n : ℕ). record { place = at.place; id_place = body.place; id = n; body = rest }) id_is
    ∙ ap (λ (c : Cursor). record { place = at.place; id_place = body.place; id = little_number 4 (take 4 body.left); body = c }) rest_is
    ∙ ap (λ (c : Cursor). record { place = at.place; id_place = c.place; id = little_number 4 (take 4 c.left); body = past 4 c }) body_is
    ∙ ap (λ (n : ℕ). record { place = at.place; id_place = at.place + 4; id = little_number 4 (take 4 (take len (drop 4 at.left))); body = record { place = n; left = drop 4 (take len (drop 4 at.left)) } }) place in
    record {
      len = len;
      word = word;
      enough = enough;
      short = short;
      within = omega arith;
      raw_record_view = sym ep ∙ all;
      behind = sym ea ∙ after_is ∙ past-past 4 len at;
    }

record_split : (len : ℕ) (at at1 : Cursor) (x : RawRecordView × Cursor) → little_number 4 (take 4 at.left) ≡ len → (len ≡ 4294967295 → ⊥) → 4 ≤ len → 4 ≤ length at.left → at1 ≡ past 4 at → record_of_length at.place len at1 ≡ Ok x → Stands at x.0 x.1
unfolding record_of_length
record_split len at at1 x word short enough four e1 e =
    let s1 = through (whole at.place (part_field len at1)) _ x e in
    let p1 = part_read len at1 s1.first (whole_is at.place (part_field len at1) s1.first s1.read) in
    let s2 = through (number_field 4 s1.first.0) _ x s1.rest in
    let p2 = number_read 4 s1.first.0 s2.first s2.read in
    let p1' : IsRead len (past 4 at) (record { place = at.place + 4; left = take len (drop 4 at.left) }) s1.first =
    subst (λ (c : Cursor). IsRead len c (record { place = c.place; left = take len c.left }) s1.first) e1 p1 in
    built len at x.0 x.1 s1.first.0 s1.first.1 s2.first.0 s2.first.1 word short enough four p1' p2 (ap (λ (y : RawRecordView × Cursor). y.0) (ok_same _ _ s2.rest)) (ap (λ (y : RawRecordView × Cursor). y.1) (ok_same _ _ s2.rest))

-- a length word of 0
abbrev pub EndsWithZero : Cursor → Type 0
EndsWithZero at = (4 ≤ length at.left) × (little_number 4 (take 4 at.left) ≡ 0)

-- the first record of a cursor
abbrev pub FrontIs : Cursor → Result (Option (RawRecordView × Cursor)) RecordFault → Type 0
FrontIs at (Ok (Some x)) = Stands at x.0 x.1
FrontIs at (Ok None) = (at.left ≡ []) ⊎ EndsWithZero at
FrontIs at (Err e) = Unit {0}

front_some : (len : ℕ) (at at1 : Cursor) → little_number 4 (take 4 at.left) ≡ len → (len ≡ 4294967295 → ⊥) → 4 ≤ len → 4 ≤ length at.left → at1 ≡ past 4 at → (r : Step RawRecordView) → record_of_length at.place len at1 ≡ r → FrontIs at (r >>= λ p. Ok (Some p))
front_some len at at1 word short enough four e1 (Ok x) e = record_split len at at1 x word short enough four e1 e
front_some len at at1 word short enough four e1 (Err f) e = tt

front_sized : (len : ℕ) (at at1 : Cursor) → little_number 4 (take 4 at.left) ≡ len → 4 ≤ length at.left → at1 ≡ past 4 at → (a b c : Bool) → (len == 0) ≡ a → (len == 4294967295) ≡ b → nat_lt len 4 ≡ c
    → FrontIs at (cond a (Ok None) (cond b (Err (Extended at.place)) (cond c (Err (Short at.place)) (record_of_length at.place len at1 >>= λ p. Ok (Some p)))))
front_sized len at at1 word four e1 true b c ta tb tc = inr (four, word ∙ eqb-true len 0 ta)
front_sized len at at1 word four e1 false true c ta tb tc = tt
front_sized len at at1 word four e1 false false true ta tb tc = tt
front_sized len at at1 word four e1 false false false ta tb tc =
    front_some len at at1 word (grind (arith, nat_tests)) (grind (arith, nat_tests)) four e1 (record_of_length at.place len at1) refl

front_word : (at : Cursor) (r : Step ℕ) → number_field 4 at ≡ r → FrontIs at (r >>= λ len. of_length at.place len.0 len.1)
front_word at (Ok len) e =
    let read = number_read 4 at len e in
    front_sized len.0 at len.1 (sym read.value) read.within read.after (len.0 == 0) (len.0 == 4294967295) (nat_lt len.0 4) refl refl refl
front_word at (Err f) e = tt

no_length : (xs : List ℕ) → (length xs == 0) ≡ true → xs ≡ []
no_length [] h = refl
no_length (x ∷ xs) h = absurd (grind (arith, nat_tests))

front_if : (at : Cursor) (b : Bool) → (length at.left == 0) ≡ b → FrontIs at (cond b (Ok None) (number_field 4 at >>= λ len. of_length at.place len.0 len.1))
front_if at true h = inl (no_length at.left h)
front_if at false h = front_word at (number_field 4 at) refl

pub front_is : (at : Cursor) → FrontIs at (raw_record_at at)
unfolding raw_record_at
front_is at = front_if at (length at.left == 0) refl

pub split_is : (at : Cursor) (p : RawRecordView) (after : Cursor) → raw_record_at at ≡ Ok (Some (p, after)) → Stands at p after
split_is at p after e = subst (FrontIs at) e (front_is at)

pub end_is : (at : Cursor) → raw_record_at at ≡ Ok None → (at.left ≡ []) ⊎ EndsWithZero at
end_is at e = subst (FrontIs at) e (front_is at)

-- at the end there is no fault
pub nothing_there : (place : ℕ) (f : RecordFault) → raw_record_at (record { place = place; left = [] }) ≡ Err f → ⊥
unfolding raw_record_at
nothing_there place f e = cc
