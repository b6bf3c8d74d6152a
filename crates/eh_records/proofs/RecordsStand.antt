-- A record is split off exactly where there is one.
use Rattle.std.specs.Prelude.{◌==◌, nat_lt}
use Rattle.std.proofs.Common.{◌≡◌, inl, inr, ℕ, ◌+◌, ◌-◌, ◌≤◌, Bool, true, false, cond, List, [], ◌∷◌, length, take, drop, subst, length-drop, Option, Some, None, Result, Ok, Err, refl, sym, ap, ◌∙◌, arith}
use Rattle.std.proofs.lemmas.List.{length-take-le}
use Rattle.std.proofs.lemmas.Bool.{eqb-true}
use Rattle.std.proofs.lemmas.Bool.Decides.{nat_tests}
use Rattle.byteorder.specs.Endian.{little_number}
use Rattle.sf_bytes.specs.declared.fault.ByteFault.TheVariants as byte_faults
use Rattle.sf_bytes.specs.Cursor.{Cursor, Read, past, number_at, part_at}
use Rattle.eh_records.specs.declared.fault.RecordFault.{RecordFault}
use Rattle.eh_records.specs.declared.fault.RecordFault.TheVariants.{Short, Extended}
use Rattle.eh_records.specs.RawRecord.{RawRecordView, raw_record_at, record_of_length, whole, of_length}
use Rattle.eh_records.specs.Records.{Stands, AreRecords, all_split}
use Rattle.eh_records.specs.Section.{SplitRecord, records_from}
use Rattle.eh_records.specs.Step.{Step, ◌>>=◌, at_field, number_field, part_field}
use Rattle.eh_records.proofs.FirstRecord.{starts_with_record, stops, faults}
use Rattle.eh_records.proofs.RawRecords.{EndsWithZero, past-past, split_is, end_is}

-- a field that lies in the bytes is read
there_if : {X : Type 0} (n place : ℕ) (at : Cursor) (v : X) (b : Bool) → nat_lt (length at.left) n ≡ b → n ≤ length at.left
    → at_field place (cond {A = Read X} b (Err (byte_faults.Short at.place)) (Ok (v, past n at))) ≡ Ok (v, past n at)
there_if n place at v true t h = absurd (grind (arith, nat_tests))
there_if n place at v false t h = refl

pub number_there : (n : ℕ) (at : Cursor) → n ≤ length at.left → number_field n at ≡ Ok (little_number n (take n at.left), past n at)
unfolding number_field number_at
number_there n at h = there_if n at.place at (little_number n (take n at.left)) (nat_lt (length at.left) n) refl h

part_there : (n : ℕ) (at : Cursor) → n ≤ length at.left → part_field n at ≡ Ok (record { place = at.place; left = take n at.left }, past n at)
unfolding part_field part_at
part_there n at h = there_if n at.place at (record { place = at.place; left = take n at.left }) (nat_lt (length at.left) n) refl h

abbrev Found : Type 0
Found = Result (Option (RawRecordView × Cursor)) RecordFault

-- the tests of a length word
sized_some : (len : ℕ) (at1 : Cursor) (place : ℕ) (x : RawRecordView × Cursor) → (a b c : Bool) → (len == 0) ≡ a → (len == 4294967295) ≡ b → nat_lt len 4 ≡ c → 4 ≤ len → (len ≡ 4294967295 → ⊥)
    → record_of_length place len at1 ≡ Ok x
    → cond {A = Found} a (Ok None) (cond b (Err (Extended place)) (cond c (Err (Short place)) (record_of_length place len at1 >>= λ p. Ok (Some p)))) ≡ Ok (Some x)
sized_some len at1 place x true b c ta tb tc enough short e = absurd (grind (arith, nat_tests))
sized_some len at1 place x false true c ta tb tc enough short e = absurd (short (eqb-true len 4294967295 tb))
sized_some len at1 place x false false true ta tb tc enough short e = absurd (grind (arith, nat_tests))
sized_some len at1 place x false false false ta tb tc enough short e = ap (λ (r : Step RawRecordView). r >>= λ p. Ok (Some p)) e

front_if : (at : Cursor) (b : Bool) (r : Found) → (length at.left == 0) ≡ b → 4 ≤ length at.left → (number_field 4 at >>= λ len. of_length at.place len.0 len.1) ≡ r
    → cond {A = Found} b (Ok None) (number_field 4 at >>= λ len. of_length at.place len.0 len.1) ≡ r
front_if at true r t h e = absurd (grind (arith, nat_tests))
front_if at false r t h e = e

-- the record of this length
abbrev record_there_is : ℕ → Cursor → RawRecordView
record_there_is len at = record {
  place = at.place;
  id_place = at.place + 4;
  id = little_number 4 (take 4 (take len (drop 4 at.left)));
  body = record { place = at.place + 8; left = drop 4 (take len (drop 4 at.left)) };
}

record_there : (len : ℕ) (at : Cursor) → 4 ≤ len → 4 + len ≤ length at.left → record_of_length at.place len (past 4 at) ≡ Ok (record_there_is len at, past (4 + len) at)
unfolding record_of_length
record_there len at enough within =
    let left : length (drop 4 at.left) ≡ length at.left - 4 = length-drop 4 at.left in
    let some : len ≤ length (drop 4 at.left) = omega arith in
    let inner : Cursor = record { place = at.place + 4; left = take len (drop 4 at.left) } in
    let size : length (take len (drop 4 at.left)) ≡ len = length-take-le len (drop 4 at.left) some in
    let four : 4 ≤ length (take len (drop 4 at.left)) = omega arith in
    let place : at.place + 4 + 4 ≡ at.place + 8 = omega arith in
    let behind : past len (past 4 at) ≡ past (4 + len) at = past-past 4 len at in
    ap (λ (r : Step Cursor). whole at.place r >>= λ body. number_field 4 body.0 >>= λ id. Ok (record { place = at.place; id_place = body.0.place; id = id.0; body = id.1 }, body.1)) (part_there len (past 4 at) some)
    ∙ ap (λ (r : Step ℕ). r >>= λ id. Ok (record { place = at.place; id_place = at.place + 4; id = id.0; body = id.1 }, past len (past 4 at))) (number_there 4 inner four)
    ∙ ap (λ (n : ℕ). Ok (record { place = at.place; id_place = at.place + 4; id = little_number 4 (take 4 (take len (drop 4 at.left))); body = record { place = n; left = drop 4 (take len (drop 4 at.left)) } }, past len (past 4 at))) place
    ∙ ap (λ (c : Cursor). Ok (record_there_is len at, c)) behind

pub stands_is : (at : Cursor) (p : RawRecordView) (after : Cursor) → Stands at p after → raw_record_at at ≡ Ok (Some (p, after))
unfolding raw_record_at
stands_is at p after s =
    let four : 4 ≤ length at.left = omega (arith, s.within) in
    let read : number_field 4 at ≡ Ok (s.len, past 4 at) = number_there 4 at four ∙ ap (λ (n : ℕ). Ok (n, past 4 at)) s.word in
    let raw_record_view : record_of_length at.place s.len (past 4 at) ≡ Ok (p, after) =
    record_there s.len at s.enough s.within ∙ ap (λ (q : RawRecordView). Ok (q, past (4 + s.len) at)) (sym s.raw_record_view) ∙ ap (λ (c : Cursor). Ok (p, c)) (sym s.behind) in
    let sized_is : of_length at.place s.len (past 4 at) ≡ Ok (Some (p, after)) =
    sized_some s.len (past 4 at) at.place (p, after) (s.len == 0) (s.len == 4294967295) (nat_lt s.len 4) refl refl refl s.enough s.short raw_record_view in
    front_if at (length at.left == 0) (Ok (Some (p, after))) refl four (ap (λ (r : Step ℕ). r >>= λ len. of_length at.place len.0 len.1) read ∙ sized_is)

end_if : (at : Cursor) (b : Bool) → number_field 4 at ≡ Ok (0, past 4 at) → cond {A = Found} b (Ok None) (number_field 4 at >>= λ len. of_length at.place len.0 len.1) ≡ Ok None
end_if at true e = refl
end_if at false e = ap (λ (r : Step ℕ). r >>= λ len. of_length at.place len.0 len.1) e

end_zero : (at : Cursor) → EndsWithZero at → raw_record_at at ≡ Ok None
unfolding raw_record_at
end_zero at z = end_if at (length at.left == 0) (number_there 4 at z.0 ∙ ap (λ (n : ℕ). Ok (n, past 4 at)) z.1)

end_nothing : (at : Cursor) → at.left ≡ [] → raw_record_at at ≡ Ok None
unfolding raw_record_at
end_nothing at e =
    let none : (length at.left == 0) ≡ true = ap (λ (xs : List ℕ). length xs == 0) e in
    ap (λ (b : Bool). cond {A = Found} b (Ok None) (number_field 4 at >>= λ len. of_length at.place len.0 len.1)) none

-- the records of a section are those that are split off
pub split_read : (ps : List RawRecordView) (at : Cursor) → AreRecords ps at → records_from at ≡ all_split ps
split_read [] at (inl e) = stops at (end_nothing at e)
split_read [] at (inr z) = stops at (end_zero at z)
split_read (p ∷ ps) at (after, stands, rest) =
    starts_with_record at p after (stands_is at p after stands) ∙ ap (λ (xs : List SplitRecord). Ok p ∷ xs) (split_read ps after rest)

-- records that are all split off without a fault are the section's records
abbrev faulted : RecordFault → List SplitRecord
faulted f = Err f ∷ []

abbrev first : RawRecordView → List SplitRecord → List SplitRecord
first p xs = Ok p ∷ xs

abbrev nothing : List SplitRecord
nothing = []

some_more : (p : RawRecordView) (xs : List SplitRecord) → first p xs ≡ nothing → ⊥
some_more p xs e = cc

some_fault : (f : RecordFault) → faulted f ≡ nothing → ⊥
some_fault f e = cc

other_fault : (f : RecordFault) (p : RawRecordView) (xs : List SplitRecord) → faulted f ≡ first p xs → ⊥
other_fault f p xs e = cc

same_first : (p q : RawRecordView) (xs ys : List SplitRecord) → first p xs ≡ first q ys → p ≡ q
same_first p q xs ys e = cc

same_others : (p q : RawRecordView) (xs ys : List SplitRecord) → first p xs ≡ first q ys → xs ≡ ys
same_others p q xs ys e = cc

ends_empty : (at : Cursor) → records_from at ≡ [] → (r : Found) → raw_record_at at ≡ r → r ≡ Ok None
ends_empty at e (Ok None) h = refl
ends_empty at e (Ok (Some x)) h = absurd (some_more x.0 (records_from x.1) (sym (starts_with_record at x.0 x.1 h) ∙ e))
ends_empty at e (Err f) h = absurd (some_fault f (sym (faults at f h) ∙ e))

pub record Next (at : Cursor) (p : RawRecordView) (xs : List SplitRecord) : Type 0 where
  pub after : Cursor
  pub stands : Stands at p after
  pub rest : records_from after ≡ xs

pub next_of : (at : Cursor) (p : RawRecordView) (xs : List SplitRecord) → records_from at ≡ Ok p ∷ xs → (r : Found) → raw_record_at at ≡ r → Next at p xs
next_of at p xs e (Ok None) h = absurd (some_more p xs (sym e ∙ stops at h))
next_of at p xs e (Ok (Some x)) h =
    let same : first x.0 (records_from x.1) ≡ first p xs = sym (starts_with_record at x.0 x.1 h) ∙ e in
    record {
      after = x.1;
      stands = subst (λ (q : RawRecordView). Stands at q x.1) (same_first x.0 p (records_from x.1) xs same) (split_is at x.0 x.1 h);
      rest = same_others x.0 p (records_from x.1) xs same;
    }
next_of at p xs e (Err f) h = absurd (other_fault f p xs (sym (faults at f h) ∙ e))

pub read_split : (ps : List RawRecordView) (at : Cursor) → records_from at ≡ all_split ps → AreRecords ps at
read_split [] at e = end_is at (ends_empty at e (raw_record_at at) refl)
read_split (p ∷ ps) at e =
    let n = next_of at p (all_split ps) e (raw_record_at at) refl in
    (n.after, n.stands, read_split ps n.after n.rest)

-- there is at most one list of records
both_same : (p q : RawRecordView) (ps qs : List RawRecordView) → p ≡ q → ps ≡ qs → p ∷ ps ≡ q ∷ qs
both_same p q ps qs e h = cc

same_split : (ps qs : List RawRecordView) → all_split ps ≡ all_split qs → ps ≡ qs
same_split [] [] e = refl
same_split [] (q ∷ qs) e = absurd (some_more q (all_split qs) (sym e))
same_split (p ∷ ps) [] e = absurd (some_more p (all_split ps) e)
same_split (p ∷ ps) (q ∷ qs) e = both_same p q ps qs (same_first p q (all_split ps) (all_split qs) e) (same_split ps qs (same_others p q (all_split ps) (all_split qs) e))

pub one_split : (ps qs : List RawRecordView) (at : Cursor) → AreRecords ps at → AreRecords qs at → ps ≡ qs
one_split ps qs at h k = same_split ps qs (sym (split_read ps at h) ∙ split_read qs at k)
