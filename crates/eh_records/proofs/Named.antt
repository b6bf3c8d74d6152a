-- A frame description entry has the common information entry at the place that it names.
use Rattle.std.specs.Prelude.{◌==◌, ◌||◌, All}
use Rattle.std.proofs.Common.{◌≡◌, ℕ, Bool, true, false, cond, List, [], ◌∷◌, Option, Some, None, Result, Ok, Err, refl, sym, ap, subst, drop, ◌∙◌}
use Rattle.std.proofs.lemmas.List.Elements.{All-nil, All-cons}
use Rattle.sf_bytes.specs.Cursor.{Cursor}
use Rattle.sf_model.specs.declared.machine.Arch.{Arch}
use Rattle.eh_records.specs.declared.fault.RecordFault.{RecordFault}
use Rattle.eh_records.specs.declared.fault.RecordFault.TheVariants.{CieVersion}
use Rattle.eh_records.specs.Cie.{FullCieView, CieView, version_at, return_address_register_at, augmentation_at, cie_of}
use Rattle.eh_records.specs.Augmentation.{letters_at}
use Rattle.eh_records.specs.RawRecord.{RawRecordView, raw_record_at, named_place}
use Rattle.eh_records.specs.Fde.{FdeView, fde_of, cie_in, cie_at_place}
use Rattle.eh_records.specs.Named.{HasNamed, cie_if_read, standing_cie}
use Rattle.eh_records.specs.Section.{EntryView, Common, Frame, SplitRecord, frames, entry_here, entry_before, entries_before}
use Rattle.eh_records.specs.Step.{◌>>=◌, uleb_field, sleb_field}
use Rattle.eh_records.proofs.Keys.{same_cie}
use Rattle.eh_records.proofs.RawRecords.{through, ok_same, split_is}

-- ---- an entry has the place at which it was read
cie_place : (arch : Arch) (p : RawRecordView) (full : FullCieView) → cie_of arch p ≡ Ok full → full.cie.place ≡ p.place
unfolding cie_of
cie_place arch p full e =
    let version = through (version_at p.body) _ full e in
    let letters = through (letters_at arch version.first.1) _ full version.rest in
    let code = through (uleb_field letters.first.1) _ full letters.rest in
    let factor = through (sleb_field code.first.1) _ full code.rest in
    let register = through (return_address_register_at version.first.0 factor.first.1) _ full factor.rest in
    let augmentation = through (augmentation_at letters.first.0 register.first.1) _ full register.rest in
    sym (ap (λ (s : FullCieView). s.cie.place) (ok_same _ full augmentation.rest))

found_place : (arch : Arch) (at : Cursor) (found : Option (RawRecordView × Cursor)) (full : FullCieView) → raw_record_at at ≡ Ok found → cie_in arch at.place found ≡ Ok full → full.cie.place ≡ at.place
found_place arch at None full h e = absurd cc
found_place arch at (Some p) full h e = cie_place arch p.0 full e ∙ ap (λ (q : RawRecordView). q.place) (split_is at p.0 p.1 h).raw_record_view

read_place : (arch : Arch) (section : List ℕ) (place : ℕ) (full : FullCieView) → cie_at_place arch section place ≡ Ok full → full.cie.place ≡ place
unfolding cie_at_place
read_place arch section place full e =
    let t = through (raw_record_at (record { place = place; left = drop place section })) _ full e in
    found_place arch (record { place = place; left = drop place section }) t.first full t.read t.rest

-- ---- a frame description entry
frame_named : (arch : Arch) (section : List ℕ) (p : RawRecordView) (f : FdeView) → fde_of arch section p ≡ Ok f → HasNamed arch section f
unfolding fde_of
frame_named arch section p f e =
    let t = through (named_place p) _ f e in
    let u = through (cie_at_place arch section t.first) _ f t.rest in
    let cie : f.cie ≡ u.first.cie = same_cie u.first p f u.rest in
    let place : f.cie.place ≡ t.first = ap (λ (c : CieView). c.place) cie ∙ read_place arch section t.first u.first u.read in
    ap (λ (n : ℕ). standing_cie arch section n) place
    ∙ ap cie_if_read u.read
    ∙ ap (λ (c : CieView). Some c) (sym cie)

-- ---- all of them
abbrev EntryNamed : Arch → List ℕ → EntryView → Type 0
EntryNamed arch section (Common c) = Unit {0}
EntryNamed arch section (Frame f) = HasNamed arch section f

here_named : (arch : Arch) (section : List ℕ) (p : RawRecordView) (x : EntryView) (b : Bool) → cond b (cie_of arch p >>= λ c. Ok (Common c)) (fde_of arch section p >>= λ f. Ok (Frame f)) ≡ Ok x → EntryNamed arch section x
here_named arch section p x true e =
    let t = through (cie_of arch p) _ x e in
    subst (EntryNamed arch section) (ok_same _ x t.rest) tt
here_named arch section p x false e =
    let t = through (fde_of arch section p) _ x e in
    subst (EntryNamed arch section) (ok_same _ x t.rest) (frame_named arch section p t.first t.read)

entry_named : (arch : Arch) (section : List ℕ) (p : RawRecordView) (x : EntryView) → entry_here arch section p ≡ Ok x → EntryNamed arch section x
unfolding entry_here
entry_named arch section p x e = here_named arch section p x (p.id == 0) e

before_named : (arch : Arch) (section : List ℕ) (r : Result EntryView RecordFault) (es : List EntryView) → ((x : EntryView) → r ≡ Ok x → EntryNamed arch section x) → All (HasNamed arch section) (frames es) → All (HasNamed arch section) (frames (entry_before r es))
before_named arch section (Ok (Common c)) es h rest = rest
before_named arch section (Ok (Frame f)) es h rest = All-cons (HasNamed arch section) f (frames es) (h (Frame f) refl) rest
before_named arch section (Err e) es h rest = All-nil (HasNamed arch section)

pub all_named : (arch : Arch) (section : List ℕ) (xs : List SplitRecord) → All (HasNamed arch section) (frames (entries_before arch section xs))
unfolding entries_before
all_named arch section [] = All-nil (HasNamed arch section)
all_named arch section (Err e ∷ others) = All-nil (HasNamed arch section)
all_named arch section (Ok p ∷ others) = before_named arch section (entry_here arch section p) (entries_before arch section others) (entry_named arch section p) (all_named arch section others)
