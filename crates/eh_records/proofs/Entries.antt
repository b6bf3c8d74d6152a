-- The entries of a section in the standard's words are those that are read.
use Rattle.std.proofs.Common.{◌≡◌, ℕ, List, [], ◌∷◌, Result, Ok, Err, refl, ap, subst, ◌∙◌}
use Rattle.std.proofs.lemmas.List.Elements.{All-nil}
use Rattle.sf_model.specs.declared.machine.Arch.{Arch}
use Rattle.eh_records.specs.declared.fault.RecordFault.{RecordFault}
use Rattle.eh_records.specs.RawRecord.{RawRecordView}
use Rattle.eh_records.specs.Records.{AreRecords, all_split, start}
use Rattle.eh_records.specs.Refused.{AreReadAs}
use Rattle.eh_records.specs.Section.{EntryView, SplitRecord, records_of, entry_at, with_place, entries_in, entries_of}
use Rattle.eh_records.specs.Step.{◌>>=◌}
use Rattle.eh_records.proofs.EntriesStand.{IsAgain, at_start, give, stand}
use Rattle.eh_records.proofs.EntriesAsRead.{AreGiven}
use Rattle.eh_records.proofs.RawRecords.{through, ok_same}
use Rattle.eh_records.proofs.RecordsStand.{split_read, read_split}

read_all : (arch : Arch) (section cies : List ℕ) (ps : List RawRecordView) (es : List EntryView) → AreGiven arch section cies ps es → entries_in arch section cies (all_split ps) ≡ Ok es
unfolding entries_in
read_all arch section cies [] [] h = refl
read_all arch section cies [] (e ∷ es) h = absurd h
read_all arch section cies (p ∷ ps) [] h = absurd h
read_all arch section cies (p ∷ ps) (e ∷ es) h =
    ap (λ (r : Result EntryView RecordFault). r >>= λ x. entries_in arch section (with_place cies p) (all_split ps) >>= λ xs. Ok (x ∷ xs)) h.0
    ∙ ap (λ (r : Result (List EntryView) RecordFault). r >>= λ xs. Ok (e ∷ xs)) (read_all arch section (with_place cies p) ps es h.1)

record Found (arch : Arch) (section cies : List ℕ) (xs : List SplitRecord) (es : List EntryView) : Type 0 where
  records : List RawRecordView
  raw : xs ≡ all_split records
  read : AreGiven arch section cies records es

all_read : (arch : Arch) (section cies : List ℕ) (xs : List SplitRecord) (es : List EntryView) → entries_in arch section cies xs ≡ Ok es → Found arch section cies xs es
unfolding entries_in
all_read arch section cies [] es h = record { records = []; raw = refl; read = subst (AreGiven arch section cies []) (ok_same [] es h) tt }
all_read arch section cies (Err x ∷ others) es h = absurd cc
all_read arch section cies (Ok p ∷ others) es h =
    let one = through (entry_at arch section cies p) _ es h in
    let rest = through (entries_in arch section (with_place cies p) others) _ es one.rest in
    let more = all_read arch section (with_place cies p) others rest.first rest.read in
    record {
      records = p ∷ more.records;
      raw = ap (λ (ys : List SplitRecord). Ok p ∷ ys) more.raw;
      read = subst (AreGiven arch section cies (p ∷ more.records)) (ok_same (one.first ∷ rest.first) es rest.rest) (one.read, more.read);
    }

-- a section's records with what the reader gives of them
pub record Given (arch : Arch) (section : List ℕ) (es : List EntryView) : Type 0 where
  pub records : List RawRecordView
  pub raw : AreRecords records (start section)
  pub given : AreGiven arch section [] records es

pub given_entries : (arch : Arch) (section : List ℕ) (es : List EntryView) → entries_of arch section ≡ Ok es → Given arch section es
unfolding entries_of
given_entries arch section es h =
    let r = all_read arch section [] (records_of section) es h in
    record { records = r.records; raw = read_split r.records (start section) r.raw; given = r.read }

pub entries_read : (arch : Arch) (section : List ℕ) (es : List EntryView) → AreReadAs arch section (Ok es) → entries_of arch section ≡ Ok es
unfolding entries_of
entries_read arch section es (ps, raw, read) =
    ap (entries_in arch section []) (split_read ps (start section) raw)
    ∙ read_all arch section [] ps es (give arch section [] [] ps es (start section) refl (All-nil (IsAgain arch section)) (at_start section) raw read)

pub read_entries : (arch : Arch) (section : List ℕ) (es : List EntryView) → entries_of arch section ≡ Ok es → AreReadAs arch section (Ok es)
read_entries arch section es h =
    let g = given_entries arch section es h in
    (g.records, g.raw, stand arch section [] [] g.records es (start section) refl (All-nil (IsAgain arch section)) (at_start section) g.raw g.given)
