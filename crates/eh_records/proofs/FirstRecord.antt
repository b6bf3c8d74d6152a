-- The first record from a cursor on, and those after it.
use Rattle.std.proofs.Common.{◌≡◌, ℕ, suc, ◌+◌, ◌-◌, ◌<◌, ◌≤◌, List, [], ◌∷◌, length, drop, Some, None, Ok, Err, refl, ap, ◌∙◌, arith}
use Rattle.sf_bytes.specs.Cursor.{Cursor, past}
use Rattle.sf_bytes.proofs.Skipped.{behind}
use Rattle.eh_records.specs.declared.fault.RecordFault.{RecordFault}
use Rattle.eh_records.specs.Records.{Stands}
use Rattle.eh_records.specs.RawRecord.{RawRecordView, raw_record_at}
use Rattle.eh_records.specs.Section.{SplitRecord, records_after, records_from}
use Rattle.eh_records.proofs.RawRecords.{split_is, nothing_there}

records_from-nil : (skipped place : ℕ) → records_after skipped place [] ≡ []
unfolding records_after
records_from-nil skipped place = refl

records_from-suc : (n place b : ℕ) (bs : List ℕ) → records_after (suc n) place (b ∷ bs) ≡ records_after n (place + 1) bs
unfolding records_after
records_from-suc n place b bs = refl

next_behind : (place b : ℕ) (bs : List ℕ) (p : RawRecordView) (after : Cursor) (k : ℕ) → 4 ≤ k → after ≡ past (4 + k) (record { place = place; left = b ∷ bs }) → records_after (length bs - length after.left) (place + 1) bs ≡ records_from after
next_behind place b bs p after k enough e =
    let on : place + (4 + k) ≡ place + 1 + (3 + k) = omega arith in
    let one : 4 + k ≡ suc (3 + k) = omega arith in
    let left : drop (4 + k) (b ∷ bs) ≡ drop (3 + k) bs = ap (λ (n : ℕ). drop n (b ∷ bs)) one in
    let after_is : after ≡ record { place = place + 1 + (3 + k); left = drop (3 + k) bs } = e ∙ cc in
    behind records_after records_from-nil records_from-suc (3 + k) (place + 1) bs after after_is

starts_bytes : (place : ℕ) (bytes : List ℕ) (p : RawRecordView) (after : Cursor) → 0 < length bytes → raw_record_at (record { place = place; left = bytes }) ≡ Ok (Some (p, after))
    → records_after 0 place bytes ≡ Ok p ∷ records_from after
unfolding records_after
starts_bytes place [] p after some e = absurd (omega arith)
starts_bytes place (b ∷ bs) p after some e =
    let c : Stands (record { place = place; left = b ∷ bs }) p after = split_is _ p after e in
    rw e (ap (λ (others : List SplitRecord). Ok p ∷ others) (next_behind place b bs p after c.len c.enough c.behind))

pub starts_with_record : (at : Cursor) (p : RawRecordView) (after : Cursor) → raw_record_at at ≡ Ok (Some (p, after)) → records_from at ≡ Ok p ∷ records_from after
starts_with_record at p after e =
    let c : Stands at p after = split_is at p after e in
    let some : 0 < length at.left = omega (arith, c.within) in
    starts_bytes at.place at.left p after some e

stops_bytes : (place : ℕ) (bytes : List ℕ) → raw_record_at (record { place = place; left = bytes }) ≡ Ok None → records_after 0 place bytes ≡ []
unfolding records_after
stops_bytes place [] e = refl
stops_bytes place (b ∷ bs) e = rw e refl

pub stops : (at : Cursor) → raw_record_at at ≡ Ok None → records_from at ≡ []
stops at e = stops_bytes at.place at.left e

faults_bytes : (place : ℕ) (bytes : List ℕ) (f : RecordFault) → raw_record_at (record { place = place; left = bytes }) ≡ Err f → records_after 0 place bytes ≡ Err f ∷ []
unfolding records_after
faults_bytes place [] f e = absurd (nothing_there place f e)
faults_bytes place (b ∷ bs) f e = rw e refl

pub faults : (at : Cursor) (f : RecordFault) → raw_record_at at ≡ Err f → records_from at ≡ Err f ∷ []
faults at f e = faults_bytes at.place at.left f e
