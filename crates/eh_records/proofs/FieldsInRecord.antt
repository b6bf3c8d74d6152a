-- The pointer fields of a record lie in it, consecutive, with their numbers.
use Rattle.std.proofs.Common.{◌≡◌, ℕ, ◌+◌, ◌-◌, ◌≤◌, Bool, true, false, cond, List, [], ◌∷◌, Option, Some, None, Result, Ok, Err, refl, subst, arith}
use Rattle.std.specs.Prelude.{◌==◌, ◌||◌, option_to_list}
use Rattle.sf_bytes.specs.Cursor.{Cursor}
use Rattle.sf_bytes.proofs.Inside.{end_of}
use Rattle.sf_model.specs.declared.machine.Arch.{Arch}
use Rattle.sf_model.specs.declared.machine.Key.TheVariants.{B}
use Rattle.eh_pointer.specs.declared.fault.PointerFault.{PointerFault}
use Rattle.eh_pointer.specs.Pointer.{pointer_width, usable_width}
use Rattle.eh_pointer.specs.Skipping.{pointer_passed}
use Rattle.eh_records.specs.declared.fault.RecordFault.{RecordFault}
use Rattle.eh_records.specs.declared.fault.RecordFault.TheVariants.{Augmentation, CieVersion}
use Rattle.eh_records.specs.Augmentation.{AugmentationView, Form, plain_augmentation, letters_in, letters_at, data_at, form_of, form_at, personality_field, personality_in, personality_at, letter_at, augmentation_by}
use Rattle.eh_records.specs.Cie.{FullCieView, version_at, return_address_register_at, passed_data, augmentation_at, cie_of}
use Rattle.eh_records.specs.RawRecord.{RawRecordView, named_place}
use Rattle.eh_records.specs.Fde.{FdeView, read_there, lsda_of_width, lsda_in, lsda_at, entry_of, cie_at_place, fde_of}
use Rattle.eh_records.specs.Section.{EntryView, Common, Frame, entry_fields, entry_here}
use Rattle.eh_records.specs.Step.{Step, ◌>>=◌, PointerField, number_field, uleb_field, sleb_field, text_field, pointer_field}
use Rattle.eh_records.proofs.FieldsInOrder.{LieIn, lower, higher, lie_wider, none_lies}
use Rattle.eh_records.proofs.RawRecords.{through, ok_same}
use Rattle.eh_records.proofs.StepsLeaveParts.{Pointed, number_on, uleb_on, sleb_on, text_on, data_on, pointer_on}
use Rattle.eh_records.proofs.Parts.{IsPart, number_there, part-part, pointer_part}

-- a pointer field that was read lies there, and so do those after it
pointer_raw : (at : Cursor) (x : PointerField × Cursor) → Pointed at x → x.0.raw ≡ number_there at x.0.place x.0.width
pointer_raw at x p =
    let none : x.0.place - at.place ≡ 0 = omega (arith, p.place) in
    rw none p.raw

then_lie : (at : Cursor) (x : PointerField × Cursor) (fs : List PointerField) → Pointed at x → LieIn x.1 fs → LieIn at (x.0 ∷ fs)
then_lie at x fs p h =
    let behind : x.0.place + x.0.width ≤ x.1.place = omega (arith, p.next) in
    record {
      between = (omega (arith, p.place), lower (x.0.place + x.0.width) x.1.place (end_of at) fs behind (higher x.1.place (end_of x.1) (end_of at) fs p.on.inside.to h.between));
      raw = (pointer_raw at x p, (lie_wider x.1 at fs p.on h).raw);
    }

pointer_lies : (at : Cursor) (x : PointerField × Cursor) → Pointed at x → LieIn at (option_to_list (Some x.0))
pointer_lies at x p = then_lie at x [] p (none_lies x.1)

-- ---- frame description entries

there_lies : (at : Cursor) (s : Step PointerField) → ((x : PointerField × Cursor) → s ≡ Ok x → LieIn at (option_to_list (Some x.0))) → LieIn at (option_to_list (read_there s))
there_lies at (Ok x) h = h x refl
there_lies at (Err e) h = none_lies at

width_lies : (o : Option ℕ) (at : Cursor) → LieIn at (option_to_list (lsda_of_width o at))
width_lies None at = none_lies at
width_lies (Some width) at = there_lies at (pointer_field width at) (λ x e. pointer_lies at x (pointer_on width at x e))

data_lies : (o : Option ℕ) (at : Cursor) → LieIn at (option_to_list (lsda_in o at))
data_lies None at = none_lies at
data_lies (Some encoding) at = width_lies (pointer_width encoding) at

lsda_if : (full : FullCieView) (at : Cursor) (x : Option PointerField × Cursor) (b : Bool) → cond b (data_at at >>= λ inner. Ok (lsda_in full.lsda inner.0, inner.1)) (Ok (None, at)) ≡ Ok x → LieIn at (option_to_list x.0)
lsda_if full at x true e =
    let t = through (data_at at) _ x e in
    let d = data_on at t.first t.read in
    subst (λ (y : Option PointerField × Cursor). LieIn at (option_to_list y.0)) (ok_same _ x t.rest) (lie_wider t.first.0 at (option_to_list (lsda_in full.lsda t.first.0)) d.0 (data_lies full.lsda t.first.0))
lsda_if full at x false e = subst (λ (y : Option PointerField × Cursor). LieIn at (option_to_list y.0)) (ok_same _ x e) (none_lies at)

lsda_lies : (full : FullCieView) (at : Cursor) (x : Option PointerField × Cursor) → lsda_at full at ≡ Ok x → LieIn at (option_to_list x.0)
unfolding lsda_at
lsda_lies full at x e = lsda_if full at x full.augmented e

frame_lies : (full : FullCieView) (p : RawRecordView) (f : FdeView) → entry_of full p ≡ Ok f → LieIn p.body (f.begin ∷ f.range ∷ option_to_list f.lsda)
unfolding entry_of
frame_lies full p f e =
    let t = through (pointer_field full.width p.body) _ f e in
    let u = through (pointer_field full.width t.first.1) _ f t.rest in
    let v = through (lsda_at full u.first.1) _ f u.rest in
    let begin = pointer_on full.width p.body t.first t.read in
    let range = pointer_on full.width t.first.1 u.first u.read in
    let lsda = lsda_lies full u.first.1 v.first v.read in
    let all = then_lie p.body t.first (u.first.0 ∷ option_to_list v.first.0) begin (then_lie t.first.1 u.first (option_to_list v.first.0) range lsda) in
    subst (λ (g : FdeView). LieIn p.body (g.begin ∷ g.range ∷ option_to_list g.lsda)) (ok_same _ f v.rest) all

-- ---- common information entries

-- what is left lies in a cursor's bytes, and so does the personality pointer
abbrev AugmentationIn : Cursor → AugmentationView × Cursor → Type 0
AugmentationIn outer x = IsPart x.1 outer × LieIn outer (option_to_list x.0.personality)

abbrev FieldIn : Cursor → Option PointerField × Cursor → Type 0
FieldIn outer x = IsPart x.1 outer × LieIn outer (option_to_list x.0)

form_in : (place encoding : ℕ) (o : Option ℕ) (at after : Cursor) (x : Form × Cursor) → IsPart after at → form_of place encoding o after ≡ Ok x → IsPart x.1 at
form_in place encoding (Some width) at after x i e = subst (λ (y : Form × Cursor). IsPart y.1 at) (ok_same _ x e) i
form_in place encoding None at after x i e = absurd cc

form_on : (at : Cursor) (x : Form × Cursor) → form_at at ≡ Ok x → IsPart x.1 at
unfolding form_at
form_on at x e =
    let t = through (number_field 1 at) _ x e in
    form_in at.place t.first.0 (usable_width t.first.0) at t.first.1 x (number_on 1 at t.first t.read) t.rest

field_lies : (o : Option ℕ) (at after : Cursor) (x : Option PointerField × Cursor) → IsPart after at → personality_field o at after ≡ Ok x → FieldIn at x
field_lies None at after x i e = subst (FieldIn at) (ok_same _ x e) (i, none_lies at)
field_lies (Some width) at after x i e =
    let t = through (pointer_field width at) _ x e in
    let p = pointer_on width at t.first t.read in
    subst (FieldIn at) (ok_same _ x t.rest) (p.on, pointer_lies at t.first p)

passed_lies : (place encoding : ℕ) (at : Cursor) (r : Result Cursor PointerFault) (x : Option PointerField × Cursor) → ((c : Cursor) → r ≡ Ok c → IsPart c at) → personality_in place encoding at r ≡ Ok x → FieldIn at x
passed_lies place encoding at (Ok after) x h e = field_lies (pointer_width encoding) at after x (h after refl) e
passed_lies place encoding at (Err f) x h e = absurd cc

wider : (inner outer : Cursor) (x : Option PointerField × Cursor) → IsPart inner outer → FieldIn inner x → FieldIn outer x
wider inner outer x i h = (part-part x.1 inner outer h.0 i, lie_wider inner outer (option_to_list x.0) i h.1)

personality_if : (place : ℕ) (at : Cursor) (encoding : ℕ × Cursor) (x : Option PointerField × Cursor) (omitted : Bool) → IsPart encoding.1 at
    → cond omitted (Ok (None, encoding.1)) (personality_in place encoding.0 encoding.1 (pointer_passed encoding.0 encoding.1)) ≡ Ok x → FieldIn at x
personality_if place at encoding x true i e = subst (FieldIn at) (ok_same _ x e) (i, none_lies at)
personality_if place at encoding x false i e =
    wider encoding.1 at x i (passed_lies place encoding.0 encoding.1 (pointer_passed encoding.0 encoding.1) x (pointer_part encoding.0 encoding.1) e)

personality_lies : (at : Cursor) (x : Option PointerField × Cursor) → personality_at at ≡ Ok x → FieldIn at x
unfolding personality_at
personality_lies at x e =
    let t = through (number_field 1 at) _ x e in
    personality_if at.place at t.first x (t.first.0 == 255) (number_on 1 at t.first t.read) t.rest

letter_if : (outer at : Cursor) (augmentation : AugmentationView) (x : AugmentationView × Cursor) (r p l s : Bool) → IsPart at outer → LieIn outer (option_to_list augmentation.personality)
    → cond {A = Step AugmentationView} r (form_at at >>= λ f. Ok (record augmentation { pointers = f.0 }, f.1))
    (cond p (personality_at at >>= λ f. Ok (record augmentation { personality = f.0 }, f.1))
    (cond l (number_field 1 at >>= λ e. Ok (record augmentation { lsda = Some e.0 }, e.1))
    (cond s (Ok (record augmentation { signal = true }, at)) (Ok (record augmentation { key = B }, at))))) ≡ Ok x
    → AugmentationIn outer x
letter_if outer at augmentation x true p l s i h e =
    let t = through (form_at at) _ x e in
    subst (AugmentationIn outer) (ok_same _ x t.rest) (part-part t.first.1 at outer (form_on at t.first t.read) i, h)
letter_if outer at augmentation x false true l s i h e =
    let t = through (personality_at at) _ x e in
    subst (AugmentationIn outer) (ok_same _ x t.rest) (wider at outer t.first i (personality_lies at t.first t.read))
letter_if outer at augmentation x false false true s i h e =
    let t = through (number_field 1 at) _ x e in
    subst (AugmentationIn outer) (ok_same _ x t.rest) (part-part t.first.1 at outer (number_on 1 at t.first t.read) i, h)
letter_if outer at augmentation x false false false true i h e = subst (AugmentationIn outer) (ok_same _ x e) (i, h)
letter_if outer at augmentation x false false false false i h e = subst (AugmentationIn outer) (ok_same _ x e) (i, h)

letter_lies : (b : ℕ) (outer at : Cursor) (augmentation : AugmentationView) (x : AugmentationView × Cursor) → IsPart at outer → LieIn outer (option_to_list augmentation.personality) → letter_at b augmentation at ≡ Ok x → AugmentationIn outer x
unfolding letter_at
letter_lies b outer at augmentation x i h e = letter_if outer at augmentation x (b == 82) (b == 80) (b == 76) (b == 83) i h e

letters_lie : (letters : List ℕ) (outer at : Cursor) (augmentation s : AugmentationView) → IsPart at outer → LieIn outer (option_to_list augmentation.personality) → augmentation_by letters augmentation at ≡ Ok s → LieIn outer (option_to_list s.personality)
unfolding augmentation_by
letters_lie [] outer at augmentation s i h e = subst (λ (y : AugmentationView). LieIn outer (option_to_list y.personality)) (ok_same augmentation s e) h
letters_lie (b ∷ bs) outer at augmentation s i h e =
    let t = through (letter_at b augmentation at) _ s e in
    let one = letter_lies b outer at augmentation t.first i h t.read in
    letters_lie bs outer t.first.1 t.first.0 s one.0 one.1 t.rest

passed_augmentation : (outer after : Cursor) (r : Result AugmentationView RecordFault) (x : AugmentationView × Cursor) → ((s : AugmentationView) → r ≡ Ok s → LieIn outer (option_to_list s.personality)) → passed_data after r ≡ Ok x → LieIn outer (option_to_list x.0.personality)
passed_augmentation outer after (Ok augmentation) x h e = subst (λ (y : AugmentationView × Cursor). LieIn outer (option_to_list y.0.personality)) (ok_same _ x e) (h augmentation refl)
passed_augmentation outer after (Err f) x h e = absurd cc

augmentation_lies : (letters : Option (List ℕ)) (at : Cursor) (x : AugmentationView × Cursor) → augmentation_at letters at ≡ Ok x → LieIn at (option_to_list x.0.personality)
unfolding augmentation_at
augmentation_lies None at x e = subst (λ (y : AugmentationView × Cursor). LieIn at (option_to_list y.0.personality)) (ok_same _ x e) (none_lies at)
augmentation_lies (Some letters) at x e =
    let t = through (data_at at) _ x e in
    let i : IsPart t.first.0 at = (data_on at t.first t.read).0 in
    passed_augmentation at t.first.1 (augmentation_by letters plain_augmentation t.first.0) x (λ s r. letters_lie letters at t.first.0 plain_augmentation s i (none_lies at) r) t.rest

register_if : (at : Cursor) (x : ℕ × Cursor) (b : Bool) → cond b (number_field 1 at) (uleb_field at) ≡ Ok x → IsPart x.1 at
register_if at x true e = number_on 1 at x e
register_if at x false e = uleb_on at x e

register_on : (version : ℕ) (at : Cursor) (x : ℕ × Cursor) → return_address_register_at version at ≡ Ok x → IsPart x.1 at
unfolding return_address_register_at
register_on version at x e = register_if at x (version == 1) e

version_if : (at : Cursor) (byte x : ℕ × Cursor) (known : Bool) → IsPart byte.1 at → cond {A = Step ℕ} known (Ok byte) (Err (CieVersion at.place)) ≡ Ok x → IsPart x.1 at
version_if at byte x true i e = subst (λ (y : ℕ × Cursor). IsPart y.1 at) (ok_same byte x e) i
version_if at byte x false i e = absurd cc

version_on : (at : Cursor) (x : ℕ × Cursor) → version_at at ≡ Ok x → IsPart x.1 at
unfolding version_at
version_on at x e =
    let t = through (number_field 1 at) _ x e in
    version_if at t.first x ((t.first.0 == 1) || (t.first.0 == 3)) (number_on 1 at t.first t.read) t.rest

letters_if : (arch : Arch) (place : ℕ) (bs : List ℕ) (at after : Cursor) (x : Option (List ℕ) × Cursor) (known : Bool) → IsPart after at
    → cond {A = Step (Option (List ℕ))} known (Ok (Some bs, after)) (Err (Augmentation place)) ≡ Ok x → IsPart x.1 at
letters_if arch place bs at after x true i e = subst (λ (y : Option (List ℕ) × Cursor). IsPart y.1 at) (ok_same _ x e) i
letters_if arch place bs at after x false i e = absurd cc

letters_of : (arch : Arch) (place : ℕ) (text : List ℕ) (at after : Cursor) (x : Option (List ℕ) × Cursor) → IsPart after at → letters_in arch place text after ≡ Ok x → IsPart x.1 at
letters_of arch place [] at after x i e = subst (λ (y : Option (List ℕ) × Cursor). IsPart y.1 at) (ok_same _ x e) i
letters_of arch place (b ∷ bs) at after x i e = letters_if arch place bs at after x _ i e

letters_on : (arch : Arch) (at : Cursor) (x : Option (List ℕ) × Cursor) → letters_at arch at ≡ Ok x → IsPart x.1 at
unfolding letters_at
letters_on arch at x e =
    let t = through (text_field at) _ x e in
    letters_of arch at.place t.first.0 at t.first.1 x (text_on at t.first t.read) t.rest

common_lies : (arch : Arch) (p : RawRecordView) (full : FullCieView) → cie_of arch p ≡ Ok full → LieIn p.body (option_to_list full.cie.personality)
unfolding cie_of
common_lies arch p full e =
    let version = through (version_at p.body) _ full e in
    let letters = through (letters_at arch version.first.1) _ full version.rest in
    let code = through (uleb_field letters.first.1) _ full letters.rest in
    let factor = through (sleb_field code.first.1) _ full code.rest in
    let register = through (return_address_register_at version.first.0 factor.first.1) _ full factor.rest in
    let augmentation = through (augmentation_at letters.first.0 register.first.1) _ full register.rest in
    let to_letters = part-part letters.first.1 version.first.1 p.body (letters_on arch version.first.1 letters.first letters.read) (version_on p.body version.first version.read) in
    let to_code = part-part code.first.1 letters.first.1 p.body (uleb_on letters.first.1 code.first code.read) to_letters in
    let to_factor = part-part factor.first.1 code.first.1 p.body (sleb_on code.first.1 factor.first factor.read) to_code in
    let to_register = part-part register.first.1 factor.first.1 p.body (register_on version.first.0 factor.first.1 register.first register.read) to_factor in
    let lies = lie_wider register.first.1 p.body (option_to_list augmentation.first.0.personality) to_register (augmentation_lies letters.first.0 register.first.1 augmentation.first augmentation.read) in
    subst (λ (s : FullCieView). LieIn p.body (option_to_list s.cie.personality)) (ok_same _ full augmentation.rest) lies

-- ---- entries of both kinds

named_lies : (arch : Arch) (section : List ℕ) (p : RawRecordView) (f : FdeView) → fde_of arch section p ≡ Ok f → LieIn p.body (f.begin ∷ f.range ∷ option_to_list f.lsda)
unfolding fde_of
named_lies arch section p f e =
    let t = through (named_place p) _ f e in
    let u = through (cie_at_place arch section t.first) _ f t.rest in
    frame_lies u.first p f u.rest

here_if : (arch : Arch) (section : List ℕ) (p : RawRecordView) (x : EntryView) (b : Bool) → cond b (cie_of arch p >>= λ c. Ok (Common c)) (fde_of arch section p >>= λ f. Ok (Frame f)) ≡ Ok x → LieIn p.body (entry_fields x)
here_if arch section p x true e =
    let t = through (cie_of arch p) _ x e in
    subst (λ (y : EntryView). LieIn p.body (entry_fields y)) (ok_same _ x t.rest) (common_lies arch p t.first t.read)
here_if arch section p x false e =
    let t = through (fde_of arch section p) _ x e in
    subst (λ (y : EntryView). LieIn p.body (entry_fields y)) (ok_same _ x t.rest) (named_lies arch section p t.first t.read)

pub entry_lies : (arch : Arch) (section : List ℕ) (p : RawRecordView) (x : EntryView) → entry_here arch section p ≡ Ok x → LieIn p.body (entry_fields x)
unfolding entry_here
entry_lies arch section p x e = here_if arch section p x (p.id == 0) e
