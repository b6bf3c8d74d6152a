-- The entries of records are there field by field exactly where the reader gives them.
use Rattle.std.specs.Prelude.{◌≢◌, ◌==◌, ◌||◌, nat_lt}
use Rattle.std.specs.List.{All, Contains, list_any}
use Rattle.std.proofs.Common.{◌≡◌, ℕ, zero, suc, ◌+◌, ◌-◌, ◌<◌, ◌≤◌, Bool, true, false, List, [], ◌∷◌, ◌++◌, length, drop, map, get_or, Option, Result, Ok, Err, refl, sym, ap, subst, ◌∙◌, arith, eq-eqb, ne_eqb, if◌then◌else◌}
use Rattle.std.proofs.lemmas.Bool.{eqb-true, eqb-false, le-ltb, ltb-false}
use Rattle.std.proofs.lemmas.List.{map-append}
use Rattle.std.proofs.lemmas.List.Elements.{All-push, All-contains}
use Rattle.sf_bytes.specs.Cursor.{Cursor, past}
use Rattle.sf_model.specs.declared.machine.Arch.{Arch}
use Rattle.eh_records.specs.declared.fault.RecordFault.{RecordFault}
use Rattle.eh_records.specs.declared.fault.RecordFault.TheVariants.{CiePointer}
use Rattle.eh_records.specs.Cie.{FullCieView, cie_of}
use Rattle.eh_records.specs.RawRecord.{RawRecordView, raw_record_at, named_place}
use Rattle.eh_records.specs.Records.{Stands, AreRecords, AreEntriesOf, with_cie, start}
use Rattle.eh_records.specs.Fde.{FdeView, cie_in, cie_at_place, entry_of, fde_of}
use Rattle.eh_records.specs.Fields.{CieStands, FdeStands, FrameStands, EntryStands}
use Rattle.eh_records.specs.Section.{EntryView, Common, Frame, entry_here, entry_at, place_among, entry_cie_place, with_place}
use Rattle.eh_records.specs.Step.{◌>>=◌}
use Rattle.eh_records.proofs.FieldsStand.{cie_read, cie_stands, fde_read, fde_stands}
use Rattle.eh_records.proofs.EntriesAsRead.{AreGiven}
use Rattle.eh_records.proofs.RawRecords.{through, ok_same, past-past}
use Rattle.eh_records.proofs.RecordsStand.{stands_is}

abbrev pub place_of : FullCieView → ℕ
place_of c = c.cie.place

-- an entry that can be read again at its place
abbrev pub IsAgain : Arch → List ℕ → FullCieView → Type 0
IsAgain arch section c = cie_at_place arch section c.cie.place ≡ Ok c

-- a cursor of the section
abbrev pub IsAt : List ℕ → Cursor → Type 0
IsAt section at = at ≡ past at.place (start section)

pub at_start : (section : List ℕ) → IsAt section (start section)
at_start section = refl

pub at_after : (section : List ℕ) (at : Cursor) (p : RawRecordView) (after : Cursor) → IsAt section at → Stands at p after → IsAt section after
at_after section at p after is s =
    let place : after.place ≡ at.place + (4 + s.len) = ap (λ (c : Cursor). c.place) s.behind in
    s.behind ∙ ap (past (4 + s.len)) is ∙ past-past at.place (4 + s.len) (start section) ∙ ap (λ (n : ℕ). past n (start section)) (sym place)

-- ---- places among these
abbrev pub Found : (place : ℕ) → List FullCieView → Type 0
Found place cs = (d : FullCieView) × Contains cs d × (d.cie.place ≡ place)

abbrev pub is_among : (place : ℕ) → List FullCieView → Bool
is_among place cs = list_any (λ q. q == place) (map place_of cs)

found_by : (b : Bool) (place : ℕ) (c : FullCieView) (cs : List FullCieView) → (c.cie.place == place) ≡ b → (b || is_among place cs) ≡ true → (is_among place cs ≡ true → Found place cs) → Found place (c ∷ cs)
found_by true place c cs t h rest = (c, (0, omega arith, refl), eqb-true _ _ t)
found_by false place c cs t h rest =
    let r = rest h in
    let within : r.1.0 < length cs = r.1.1 in
    (r.0, (suc r.1.0, omega (arith, within), r.1.2), r.2)

pub found : (place : ℕ) (cs : List FullCieView) → is_among place cs ≡ true → Found place cs
found place [] h = absurd cc
found place (c ∷ cs) h = found_by (c.cie.place == place) place c cs refl h (found place cs)

or_true : (b : Bool) → (b || true) ≡ true
or_true true = refl
or_true false = refl

pub among : (place : ℕ) (cs : List FullCieView) (d : FullCieView) (k : ℕ) → k < length cs → get_or cs k d ≡ d → d.cie.place ≡ place → is_among place cs ≡ true
among place [] d k within is at = absurd (omega (arith, within))
among place (c ∷ cs) d zero within is at =
    let here : (c.cie.place == place) ≡ true = eq-eqb _ _ (ap place_of is ∙ at) in
    ap (λ (b : Bool). b || is_among place cs) here
among place (c ∷ cs) d (suc k) within is at =
    ap (λ (b : Bool). (c.cie.place == place) || b) (among place cs d k (omega (arith, within)) is at) ∙ or_true (c.cie.place == place)

-- ---- a common information entry
common_given : (arch : Arch) (section cies : List ℕ) (p : RawRecordView) (c : FullCieView) → p.id ≡ 0 → CieStands arch p c → entry_at arch section cies p ≡ Ok (Common c)
unfolding entry_at entry_here entry_cie_place
common_given arch section cies p c zero_id s =
    ap (λ (b : Bool). (if b then Ok p.place else (named_place p >>= place_among cies p)) >>= λ _. if b then (cie_of arch p >>= λ x. Ok (Common x)) else (fde_of arch section p >>= λ f. Ok (Frame f))) (eq-eqb p.id 0 zero_id)
    ∙ ap (λ (r : Result FullCieView RecordFault). r >>= λ x. Ok (Common x)) (cie_read arch p c s)

-- a record that is read again at its place is the same
again : (arch : Arch) (section : List ℕ) (at : Cursor) (p : RawRecordView) (after : Cursor) (c : FullCieView) → IsAt section at → Stands at p after → CieStands arch p c → IsAgain arch section c
unfolding cie_at_place
again arch section at p after c is s fields =
    let place : c.cie.place ≡ at.place = ap place_of fields.entry ∙ ap (λ (q : RawRecordView). q.place) s.raw_record_view in
    let none : 0 + at.place ≡ at.place = omega arith in
    let here : record { place = c.cie.place; left = drop c.cie.place section } ≡ at =
    ap (λ (n : ℕ). record { place = n; left = drop n section }) place
    ∙ ap (λ (n : ℕ). record { place = n; left = drop at.place section }) (sym none)
    ∙ sym is in
    ap (λ (r : Result (Option (RawRecordView × Cursor)) RecordFault). r >>= cie_in arch c.cie.place) (ap raw_record_at here ∙ stands_is at p after s) ∙ cie_read arch p c fields

-- ---- a frame description entry
pub named_is : (p : RawRecordView) (place : ℕ) → place + p.id ≡ p.id_place → named_place p ≡ Ok place
unfolding named_place
named_is p place sum =
    let low : nat_lt p.id_place p.id ≡ false = le-ltb p.id_place p.id (omega (arith, sum)) in
    let back : p.id_place - p.id ≡ place = omega (arith, sum) in
    ap (λ (b : Bool). if b then Err (CiePointer p.id_place) else Ok (p.id_place - p.id)) low ∙ ap (λ (n : ℕ). Ok n) back

named_by : (b : Bool) (p : RawRecordView) (place : ℕ) → nat_lt p.id_place p.id ≡ b → (if b then Err (CiePointer p.id_place) else Ok (p.id_place - p.id)) ≡ Ok place → place + p.id ≡ p.id_place
named_by true p place t e = absurd cc
named_by false p place t e =
    let low : p.id ≤ p.id_place = ltb-false _ _ t in
    let is : p.id_place - p.id ≡ place = cc in
    omega (arith, low, is)

pub named_back : (p : RawRecordView) (place : ℕ) → named_place p ≡ Ok place → place + p.id ≡ p.id_place
unfolding named_place
named_back p place e = named_by (nat_lt p.id_place p.id) p place refl e

frame_given : (arch : Arch) (section : List ℕ) (before : List FullCieView) (p : RawRecordView) (f : FdeView) → All (IsAgain arch section) before → p.id ≢ 0 → FrameStands before p f → entry_at arch section (map place_of before) p ≡ Ok (Frame f)
unfolding entry_at entry_here entry_cie_place fde_of
frame_given arch section before p f known other s =
    let place = s.full.cie.place in
    let named : named_place p ≡ Ok place = named_is p place s.named in
    let is : is_among place before ≡ true = among place before s.full s.among.0 s.among.1 s.among.2 refl in
    let read : cie_at_place arch section place ≡ Ok s.full = All-contains (IsAgain arch section) before s.full known s.among in
    ap (λ (b : Bool). (if b then Ok p.place else (named_place p >>= place_among (map place_of before) p)) >>= λ _. if b then (cie_of arch p >>= λ x. Ok (Common x)) else ((named_place p >>= λ n. cie_at_place arch section n >>= λ c. entry_of c p) >>= λ g. Ok (Frame g))) (ne_eqb p.id 0 other)
    ∙ ap (λ (r : Result ℕ RecordFault). (r >>= place_among (map place_of before) p) >>= λ _. (r >>= λ n. cie_at_place arch section n >>= λ c. entry_of c p) >>= λ g. Ok (Frame g)) named
    ∙ ap (λ (b : Bool). (if b then Ok place else Err (CiePointer p.id_place)) >>= λ _. (cie_at_place arch section place >>= λ c. entry_of c p) >>= λ g. Ok (Frame g)) is
    ∙ ap (λ (r : Result FullCieView RecordFault). (r >>= λ c. entry_of c p) >>= λ g. Ok (Frame g)) read
    ∙ ap (λ (r : Result FdeView RecordFault). r >>= λ g. Ok (Frame g)) (fde_read s.full p f s.fields)

-- ---- what the reader gave
among_by : (b : Bool) (place id_place got : ℕ) → (if b then Ok place else Err (CiePointer id_place)) ≡ Ok got → b ≡ true
among_by true place id_place got e = refl
among_by false place id_place got e = absurd cc

pub frame_stands : (arch : Arch) (section : List ℕ) (before : List FullCieView) (p : RawRecordView) (f : FdeView) (got : ℕ) → All (IsAgain arch section) before → (named_place p >>= place_among (map place_of before) p) ≡ Ok got → fde_of arch section p ≡ Ok f → FrameStands before p f
unfolding fde_of
frame_stands arch section before p f got known named e =
    let one = through (named_place p) (place_among (map place_of before) p) got named in
    let has = found one.first before (among_by (is_among one.first before) one.first p.id_place got one.rest) in
    let again_named = through (named_place p) _ f e in
    let full = through (cie_at_place arch section again_named.first) _ f again_named.rest in
    let same : again_named.first ≡ one.first = ok_same _ _ (sym again_named.read ∙ one.read) in
    let read : cie_at_place arch section has.0.cie.place ≡ Ok has.0 = All-contains (IsAgain arch section) before has.0 known has.1 in
    let at : cie_at_place arch section again_named.first ≡ Ok has.0 = ap (cie_at_place arch section) (same ∙ sym has.2) ∙ read in
    let is : full.first ≡ has.0 = ok_same _ _ (sym full.read ∙ at) in
    record {
      full = has.0;
      among = has.1;
      named = ap (λ (n : ℕ). n + p.id) has.2 ∙ named_back p one.first one.read;
      fields = subst (λ (c : FullCieView). FdeStands c p f) is (fde_stands full.first p f full.rest);
    }

entry_by : (b : Bool) (arch : Arch) (section : List ℕ) (before : List FullCieView) (p : RawRecordView) (e : EntryView) → All (IsAgain arch section) before → (p.id == 0) ≡ b
    → ((if b then Ok p.place else (named_place p >>= place_among (map place_of before) p)) >>= λ _. if b then (cie_of arch p >>= λ x. Ok (Common x)) else (fde_of arch section p >>= λ f. Ok (Frame f))) ≡ Ok e
    → EntryStands arch before p e
entry_by true arch section before p e known t h =
    let one = through (cie_of arch p) (λ x. Ok (Common x)) e h in
    subst (EntryStands arch before p) (ok_same (Common one.first) e one.rest) (eqb-true _ _ t, cie_stands arch p one.first one.read)
entry_by false arch section before p e known t h =
    let named = through (named_place p >>= place_among (map place_of before) p) _ e h in
    let one = through (fde_of arch section p) (λ f. Ok (Frame f)) e named.rest in
    subst (EntryStands arch before p) (ok_same (Frame one.first) e one.rest) (eqb-false _ _ t, frame_stands arch section before p one.first named.first known named.read one.read)

pub entry_stands : (arch : Arch) (section : List ℕ) (before : List FullCieView) (p : RawRecordView) (e : EntryView) → All (IsAgain arch section) before → entry_at arch section (map place_of before) p ≡ Ok e → EntryStands arch before p e
unfolding entry_at entry_here entry_cie_place
entry_stands arch section before p e known h = entry_by (p.id == 0) arch section before p e known refl h

pub entry_given : (arch : Arch) (section : List ℕ) (before : List FullCieView) (p : RawRecordView) (e : EntryView) → All (IsAgain arch section) before → EntryStands arch before p e → entry_at arch section (map place_of before) p ≡ Ok e
entry_given arch section before p (Common c) known s = common_given arch section (map place_of before) p c s.0 s.1
entry_given arch section before p (Frame f) known s = frame_given arch section before p f known s.0 s.1

-- ---- all records
pub places_by : (cies : List ℕ) (before : List FullCieView) (arch : Arch) (p : RawRecordView) (e : EntryView) → cies ≡ map place_of before → EntryStands arch before p e → with_place cies p ≡ map place_of (with_cie before e)
places_by cies before arch p (Common c) is s =
    ap (λ (b : Bool). if b then cies ++ p.place ∷ [] else cies) (eq-eqb p.id 0 s.0)
    ∙ ap (λ (xs : List ℕ). xs ++ p.place ∷ []) is
    ∙ ap (λ (n : ℕ). map place_of before ++ n ∷ []) (sym (ap place_of s.1.entry))
    ∙ sym (map-append place_of before (c ∷ []))
places_by cies before arch p (Frame f) is s = ap (λ (b : Bool). if b then cies ++ p.place ∷ [] else cies) (ne_eqb p.id 0 s.0) ∙ is

pub known_by : (arch : Arch) (section : List ℕ) (before : List FullCieView) (at : Cursor) (p : RawRecordView) (after : Cursor) (e : EntryView) → IsAt section at → Stands at p after → All (IsAgain arch section) before → EntryStands arch before p e
    → All (IsAgain arch section) (with_cie before e)
known_by arch section before at p after (Common c) is stands known s = All-push (IsAgain arch section) before c known (again arch section at p after c is stands s.1)
known_by arch section before at p after (Frame f) is stands known s = known

pub give : (arch : Arch) (section cies : List ℕ) (before : List FullCieView) (ps : List RawRecordView) (es : List EntryView) (at : Cursor) → cies ≡ map place_of before → All (IsAgain arch section) before → IsAt section at → AreRecords ps at
    → AreEntriesOf arch before ps es → AreGiven arch section cies ps es
give arch section cies before [] [] at is known here raw read = tt
give arch section cies before [] (e ∷ es) at is known here raw read = absurd read
give arch section cies before (p ∷ ps) [] at is known here raw read = absurd read
give arch section cies before (p ∷ ps) (e ∷ es) at is known here (after, stands, rest) read = (
  ap (λ (xs : List ℕ). entry_at arch section xs p) is ∙ entry_given arch section before p e known read.0,
  give arch section (with_place cies p) (with_cie before e) ps es after (places_by cies before arch p e is read.0)
      (known_by arch section before at p after e here stands known read.0) (at_after section at p after here stands) rest read.1,
)

pub stand : (arch : Arch) (section cies : List ℕ) (before : List FullCieView) (ps : List RawRecordView) (es : List EntryView) (at : Cursor) → cies ≡ map place_of before → All (IsAgain arch section) before → IsAt section at → AreRecords ps at
    → AreGiven arch section cies ps es → AreEntriesOf arch before ps es
stand arch section cies before [] [] at is known here raw given = tt
stand arch section cies before [] (e ∷ es) at is known here raw given = absurd given
stand arch section cies before (p ∷ ps) [] at is known here raw given = absurd given
stand arch section cies before (p ∷ ps) (e ∷ es) at is known here (after, stands, rest) given =
    let fields = entry_stands arch section before p e known (sym (ap (λ (xs : List ℕ). entry_at arch section xs p) is) ∙ given.0) in (
      fields,
      stand arch section (with_place cies p) (with_cie before e) ps es after (places_by cies before arch p e is fields)
          (known_by arch section before at p after e here stands known fields) (at_after section at p after here stands) rest given.1,
    )
