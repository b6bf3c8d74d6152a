-- On AMD64 every key is A.
use Rattle.std.specs.Prelude.{◌==◌, ◌||◌, ◌&&◌, IsTrue, All}
use Rattle.std.proofs.Common.{◌≡◌, ℕ, Bool, true, false, cond, List, [], ◌∷◌, ◌++◌, Option, Some, None, Result, Ok, Err, refl, sym, ap, subst, drop, ◌∙◌}
use Rattle.std.proofs.lemmas.List.Elements.{All-nil, All-cons}
use Rattle.sf_bytes.specs.Cursor.{Cursor}
use Rattle.sf_model.specs.declared.machine.Arch.TheVariants.{Amd64, Aarch64}
use Rattle.sf_model.specs.declared.machine.Arch.{Arch}
use Rattle.sf_model.specs.Function.{key_fits}
use Rattle.sf_model.specs.declared.machine.Key.{Key}
use Rattle.sf_model.specs.declared.machine.Key.TheVariants.{A, B}
use Rattle.eh_records.specs.declared.fault.RecordFault.{RecordFault}
use Rattle.eh_records.specs.declared.fault.RecordFault.TheVariants.{Augmentation, CieVersion}
use Rattle.eh_records.specs.Augmentation.{AugmentationView, plain_augmentation, is_letter, are_letters, letters_in, letters_at, form_at, personality_at, letter_at, augmentation_by, data_at}
use Rattle.eh_records.proofs.LetterLoop.{is_new}
use Rattle.eh_records.specs.Cie.{FullCieView, CieView, version_at, return_address_register_at, augmentation_at, passed_data, cie_of}
use Rattle.eh_records.specs.RawRecord.{RawRecordView, raw_record_at, named_place}
use Rattle.eh_records.specs.Fde.{FdeView, fde_of, entry_of, cie_in, cie_at_place, lsda_at}
use Rattle.eh_records.specs.Section.{EntryView, Common, Frame, SplitRecord, frames, entry_here, entry_before, entries_before}
use Rattle.eh_records.specs.Step.{Step, ◌>>=◌, number_field, uleb_field, sleb_field, text_field, pointer_field}
use Rattle.eh_records.proofs.RawRecords.{through, ok_same}

first_of : {A B : Type 0} (x y : A × B) → x ≡ y → x.0 ≡ y.0
first_of x y e = ap (λ p. p.0) e

letter_if : (augmentation : AugmentationView) (at : Cursor) (x : AugmentationView × Cursor) (r p l s k : Bool) → augmentation.key ≡ A → (r || p || s || l || (k && false)) ≡ true
    → cond {A = Step AugmentationView} r (form_at at >>= λ f. Ok (record augmentation { pointers = f.0 }, f.1))
    (cond p (personality_at at >>= λ f. Ok (record augmentation { personality = f.0 }, f.1))
    (cond l (number_field 1 at >>= λ e. Ok (record augmentation { lsda = Some e.0 }, e.1))
    (cond s (Ok (record augmentation { signal = true }, at)) (Ok (record augmentation { key = B }, at))))) ≡ Ok x
    → x.0.key ≡ A
letter_if augmentation at x true p l s k key h e =
    let t = through (form_at at) _ x e in
    sym (ap (λ (y : AugmentationView × Cursor). y.0.key) (ok_same _ x t.rest)) ∙ key
letter_if augmentation at x false true l s k key h e =
    let t = through (personality_at at) _ x e in
    sym (ap (λ (y : AugmentationView × Cursor). y.0.key) (ok_same _ x t.rest)) ∙ key
letter_if augmentation at x false false true s k key h e =
    let t = through (number_field 1 at) _ x e in
    sym (ap (λ (y : AugmentationView × Cursor). y.0.key) (ok_same _ x t.rest)) ∙ key
letter_if augmentation at x false false false true k key h e = sym (ap (λ (y : AugmentationView × Cursor). y.0.key) (ok_same _ x e)) ∙ key
letter_if augmentation at x false false false false true key h e = absurd cc
letter_if augmentation at x false false false false false key h e = absurd cc

letter_keeps : (b : ℕ) (augmentation : AugmentationView) (at : Cursor) (x : AugmentationView × Cursor) → augmentation.key ≡ A → is_letter Amd64 b ≡ true → letter_at b augmentation at ≡ Ok x → x.0.key ≡ A
unfolding letter_at
letter_keeps b augmentation at x key h e = letter_if augmentation at x (b == 82) (b == 80) (b == 76) (b == 83) (b == 66) key h e

both : (a b : Bool) → (a && b) ≡ true → (a ≡ true) × (b ≡ true)
both true b h = (refl, h)
both false b h = absurd cc

letters_keep : (before letters : List ℕ) (augmentation : AugmentationView) (at : Cursor) (s : AugmentationView) → augmentation.key ≡ A → are_letters Amd64 before letters ≡ true → augmentation_by letters augmentation at ≡ Ok s → s.key ≡ A
unfolding are_letters augmentation_by
letters_keep before [] augmentation at s key h e = sym (ap (λ (y : AugmentationView). y.key) (ok_same augmentation s e)) ∙ key
letters_keep before (b ∷ bs) augmentation at s key h e =
    let p = both (is_new Amd64 before b) _ h in
    let q = both (is_letter Amd64 b) _ p.0 in
    let t = through (letter_at b augmentation at) _ s e in
    letters_keep (before ++ b ∷ []) bs t.first.0 t.first.1 s (letter_keeps b augmentation at t.first key q.0 t.read) p.1 t.rest

-- letters that were read are letters of this machine
abbrev pub AreLetters : Option (List ℕ) → Type 0
AreLetters None = Unit {0}
AreLetters (Some letters) = are_letters Amd64 [] letters ≡ true

letters_if : (place : ℕ) (bs : List ℕ) (after : Cursor) (x : Option (List ℕ) × Cursor) (z known : Bool) → are_letters Amd64 [] bs ≡ known
    → cond {A = Step (Option (List ℕ))} (z && known) (Ok (Some bs, after)) (Err (Augmentation place)) ≡ Ok x → AreLetters x.0
letters_if place bs after x true true h e = subst (λ (y : Option (List ℕ) × Cursor). AreLetters y.0) (ok_same _ x e) h
letters_if place bs after x true false h e = absurd cc
letters_if place bs after x false known h e = absurd cc

letters_of : (place : ℕ) (text : List ℕ) (after : Cursor) (x : Option (List ℕ) × Cursor) → letters_in Amd64 place text after ≡ Ok x → AreLetters x.0
letters_of place [] after x e = subst (λ (y : Option (List ℕ) × Cursor). AreLetters y.0) (ok_same _ x e) tt
letters_of place (b ∷ bs) after x e = letters_if place bs after x (b == 122) (are_letters Amd64 [] bs) refl e

letters_are : (at : Cursor) (x : Option (List ℕ) × Cursor) → letters_at Amd64 at ≡ Ok x → AreLetters x.0
unfolding letters_at
letters_are at x e =
    let t = through (text_field at) _ x e in
    letters_of at.place t.first.0 t.first.1 x t.rest

passed_key : (after : Cursor) (r : Result AugmentationView RecordFault) (x : AugmentationView × Cursor) → ((s : AugmentationView) → r ≡ Ok s → s.key ≡ A) → passed_data after r ≡ Ok x → x.0.key ≡ A
passed_key after (Ok augmentation) x h e = sym (ap (λ (y : AugmentationView × Cursor). y.0.key) (ok_same _ x e)) ∙ h augmentation refl
passed_key after (Err f) x h e = absurd cc

augmentation_key : (letters : Option (List ℕ)) (at : Cursor) (x : AugmentationView × Cursor) → AreLetters letters → augmentation_at letters at ≡ Ok x → x.0.key ≡ A
unfolding augmentation_at
augmentation_key None at x h e = sym (ap (λ (y : AugmentationView × Cursor). y.0.key) (ok_same _ x e))
augmentation_key (Some letters) at x h e =
    let t = through (data_at at) _ x e in
    passed_key t.first.1 (augmentation_by letters plain_augmentation t.first.0) x (λ s r. letters_keep [] letters plain_augmentation t.first.0 s refl h r) t.rest

cie_key : (p : RawRecordView) (full : FullCieView) → cie_of Amd64 p ≡ Ok full → full.cie.key ≡ A
unfolding cie_of
cie_key p full e =
    let version = through (version_at p.body) _ full e in
    let letters = through (letters_at Amd64 version.first.1) _ full version.rest in
    let code = through (uleb_field letters.first.1) _ full letters.rest in
    let factor = through (sleb_field code.first.1) _ full code.rest in
    let register = through (return_address_register_at version.first.0 factor.first.1) _ full factor.rest in
    let augmentation = through (augmentation_at letters.first.0 register.first.1) _ full register.rest in
    sym (ap (λ (s : FullCieView). s.cie.key) (ok_same _ full augmentation.rest))
    ∙ augmentation_key letters.first.0 register.first.1 augmentation.first (letters_are version.first.1 letters.first letters.read) augmentation.read

at_place_key : (place : ℕ) (found : Option (RawRecordView × Cursor)) (full : FullCieView) → cie_in Amd64 place found ≡ Ok full → full.cie.key ≡ A
at_place_key place None full e = absurd cc
at_place_key place (Some p) full e = cie_key p.0 full e

named_key : (section : List ℕ) (place : ℕ) (full : FullCieView) → cie_at_place Amd64 section place ≡ Ok full → full.cie.key ≡ A
unfolding cie_at_place
named_key section place full e =
    let t = through (raw_record_at (record { place = place; left = drop place section })) _ full e in
    at_place_key place t.first full t.rest

pub same_cie : (full : FullCieView) (p : RawRecordView) (f : FdeView) → entry_of full p ≡ Ok f → f.cie ≡ full.cie
unfolding entry_of
same_cie full p f e =
    let t = through (pointer_field full.width p.body) _ f e in
    let u = through (pointer_field full.width t.first.1) _ f t.rest in
    let v = through (lsda_at full u.first.1) _ f u.rest in
    sym (ap (λ (g : FdeView). g.cie) (ok_same _ f v.rest))

frame_key : (section : List ℕ) (p : RawRecordView) (f : FdeView) → fde_of Amd64 section p ≡ Ok f → f.cie.key ≡ A
unfolding fde_of
frame_key section p f e =
    let t = through (named_place p) _ f e in
    let u = through (cie_at_place Amd64 section t.first) _ f t.rest in
    ap (λ (c : CieView). c.key) (same_cie u.first p f u.rest) ∙ named_key section t.first u.first u.read

fits : (k : Key) → k ≡ A → IsTrue (key_fits Amd64 k)
fits A h = refl
fits B h = absurd cc

abbrev Fits : FdeView → Type 0
Fits f = IsTrue (key_fits Amd64 f.cie.key)

abbrev EntryFits : EntryView → Type 0
EntryFits (Common c) = Unit {0}
EntryFits (Frame f) = Fits f

here_fits : (section : List ℕ) (p : RawRecordView) (x : EntryView) (b : Bool) → cond b (cie_of Amd64 p >>= λ c. Ok (Common c)) (fde_of Amd64 section p >>= λ f. Ok (Frame f)) ≡ Ok x → EntryFits x
here_fits section p x true e =
    let t = through (cie_of Amd64 p) _ x e in
    subst EntryFits (ok_same _ x t.rest) tt
here_fits section p x false e =
    let t = through (fde_of Amd64 section p) _ x e in
    subst EntryFits (ok_same _ x t.rest) (fits t.first.cie.key (frame_key section p t.first t.read))

entry_fits : (section : List ℕ) (p : RawRecordView) (x : EntryView) → entry_here Amd64 section p ≡ Ok x → EntryFits x
unfolding entry_here
entry_fits section p x e = here_fits section p x (p.id == 0) e

before_fit : (r : Result EntryView RecordFault) (es : List EntryView) → ((x : EntryView) → r ≡ Ok x → EntryFits x) → All Fits (frames es) → All Fits (frames (entry_before r es))
before_fit (Ok (Common c)) es h rest = rest
before_fit (Ok (Frame f)) es h rest = All-cons Fits f (frames es) (h (Frame f) refl) rest
before_fit (Err e) es h rest = All-nil Fits

amd64_fit : (section : List ℕ) (xs : List SplitRecord) → All Fits (frames (entries_before Amd64 section xs))
unfolding entries_before
amd64_fit section [] = All-nil Fits
amd64_fit section (Err e ∷ others) = All-nil Fits
amd64_fit section (Ok p ∷ others) = before_fit (entry_here Amd64 section p) (entries_before Amd64 section others) (entry_fits section p) (amd64_fit section others)

pub keys_fit : (arch : Arch) (section : List ℕ) (xs : List SplitRecord) → All (λ (f : FdeView). IsTrue (key_fits arch f.cie.key)) (frames (entries_before arch section xs))
keys_fit Amd64 section xs = amd64_fit section xs
keys_fit Aarch64 section xs = λ k d within. refl
