-- The values that are laid over the fields as they are read are the numbers of a patched copy.
use Rattle.std.specs.Prelude.{◌↔◌, ◌==◌, ◌&&◌, is_none, option_to_list}
use Rattle.std.specs.List.{All, Contains, list_any}
use Rattle.std.proofs.Common.{◌≡◌, ℕ, ◌+◌, ◌≤◌, Bool, true, false, cond, List, [], ◌∷◌, ◌++◌, length, get_or, drop, map, Option, Some, None, Result, Ok, Err, refl, sym, ap, subst, ◌∙◌, inl, inr, arith, eq-eqb}
use Rattle.std.proofs.lemmas.Bool.{eqb-true}
use Rattle.std.proofs.lemmas.List.Elements.{All-nil, All-cons, All-head, All-tail, All-map, Contains-get_or}
use Rattle.std.proofs.lemmas.List.Folds.{list_any_at, list_any_none}
use Rattle.byteorder.specs.Endian.{little_number}
use Rattle.sf_bytes.specs.declared.field.Field.{Field}
use Rattle.sf_bytes.specs.Rising.{field_place}
use Rattle.sf_model.specs.declared.machine.Arch.{Arch}
use Rattle.eh_records.specs.declared.fault.RecordFault.{RecordFault}
use Rattle.eh_records.specs.Fde.{FdeView}
use Rattle.eh_records.specs.Raw.{HoldsRaw, HoldRaw}
use Rattle.eh_records.specs.Section.{EntryView, Common, Frame, entries_of, frames, pointer_fields}
use Rattle.eh_records.specs.Span.{span_of}
use Rattle.eh_records.specs.Step.{PointerField, pointer_view}
use Rattle.eh_records.proofs.Rising.{fields_raw}
use Rattle.elf_place.specs.Views.{Placing}
use Rattle.elf_reloc.specs.declared.fault.RelocFault.{RelocFault}
use Rattle.elf_reloc.specs.declared.fault.RelocFault.TheVariants as faults
use Rattle.elf_reloc.specs.declared.fix.RelocatedField.{RelocatedField}
use Rattle.elf_reloc.specs.Fields.{bits_in, is_dropped_field}
use Rattle.elf_reloc.specs.Order.{first_at, has_width, lies_on, places_check}
use Rattle.elf_reloc.specs.Patched.{patched, AreInside, AreRaw, IsUnresolved, IsDropped, FieldHolds}
use Rattle.elf_reloc.specs.Reading.{section_fixes}
use Rattle.elf_reloc.specs.Table.{width_of}
use Rattle.elf_reloc.specs.Views.{Reads}
use Rattle.elf_reloc.proofs.Checked.{hold, reads_drop}
use Rattle.elf_reloc.proofs.Inside.{reads_small}
use Rattle.frame_functions.specs.declared.fault.AsmFault.{AsmFault}
use Rattle.frame_functions.specs.declared.fault.AsmFault.TheVariants as asm
use Rattle.frame_functions.specs.CallFrames.{CallFrames}
use Rattle.sf_bytes.specs.Steps.{◌>>=◌, named}
use Rattle.sf_model.specs.Firsts.{unless}
use Rattle.frame_functions.specs.Functions.{Function, span_in, fault_in, function_at, function_in, functions_in, section_functions}
use Rattle.frame_functions.specs.Relocated.{Values, is_unresolved_at, names_dropped_at, patched_values, pointer_check}
use Rattle.frame_functions.specs.Views.{overlaid, IsReadFrom, LieOn, AreChecked}
use Rattle.frame_functions.proofs.FunctionsOfSection.{section_is}
use Rattle.frame_functions.proofs.Relocating.{unchanged_bits, nothing_dropped}

-- ---- functions by values that are the same on all pointer fields
record SameOn (v w : Values) (g : PointerField) : Type 0 where
  bits : v.bits g ≡ w.bits g
  dropped : v.dropped g ≡ w.dropped g

span_same : (section : CallFrames) (v w : Values) (f : FdeView) → v.bits f.begin ≡ w.bits f.begin → v.bits f.range ≡ w.bits f.range → span_in section v f ≡ span_in section w f
span_same section v w f begin range =
    ap (λ (o : Option ℕ). span_of f.cie.encoding f.begin.place section.address section.shift o (v.bits f.range)) begin
    ∙ ap (λ (o : Option ℕ). span_of f.cie.encoding f.begin.place section.address section.shift (w.bits f.begin) o) range

function_same : (arch : Arch) (item : ℕ) (section : CallFrames) (v w : Values) (f : FdeView) → v.bits f.begin ≡ w.bits f.begin → v.bits f.range ≡ w.bits f.range → function_in arch item section v f ≡ function_in arch item section w f
unfolding function_in
function_same arch item section v w f begin range =
    ap (λ (s : Result (ℕ × ℕ) RecordFault). named (asm.Record section.number) s >>= λ span. (named (asm.Machine section.number) (unless (fault_in arch f)) >>= λ _. Ok (function_at arch item section f span)))
    (span_same section v w f begin range)

abbrev one_and : Bool → Result Function AsmFault → Result (List Function) AsmFault → Result (List Function) AsmFault
one_and dropped one others = cond dropped others (one >>= λ g. others >>= λ gs. Ok (g ∷ gs))

All-right : {X : Type 0} (P : X → Type 0) (xs ys : List X) → All P (xs ++ ys) → All P ys
All-right P [] ys h = h
All-right P (x ∷ xs) ys h = All-right P xs ys (All-tail P x (xs ++ ys) h)

functions_same : (arch : Arch) (item : ℕ) (section : CallFrames) (v w : Values) (es : List EntryView) → All (SameOn v w) (pointer_fields es) → functions_in arch item section v (frames es) ≡ functions_in arch item section w (frames es)
functions_same arch item section v w [] h = refl
functions_same arch item section v w (Common c ∷ es) h = functions_same arch item section v w es (All-right (SameOn v w) (option_to_list c.cie.personality) (pointer_fields es) h)
functions_same arch item section v w (Frame f ∷ es) h =
    let begin : SameOn v w f.begin = All-head (SameOn v w) f.begin (f.range ∷ (option_to_list f.lsda ++ pointer_fields es)) h in
    let behind : All (SameOn v w) (f.range ∷ (option_to_list f.lsda ++ pointer_fields es)) = All-tail (SameOn v w) f.begin (f.range ∷ (option_to_list f.lsda ++ pointer_fields es)) h in
    let range : SameOn v w f.range = All-head (SameOn v w) f.range (option_to_list f.lsda ++ pointer_fields es) behind in
    let others : All (SameOn v w) (option_to_list f.lsda ++ pointer_fields es) = All-tail (SameOn v w) f.range (option_to_list f.lsda ++ pointer_fields es) behind in
    let rest = functions_same arch item section v w es (All-right (SameOn v w) (option_to_list f.lsda) (pointer_fields es) others) in
    ap (λ (b : Bool). one_and b (function_in arch item section v f) (functions_in arch item section v (frames es))) begin.dropped
    ∙ ap (λ (one : Result Function AsmFault). one_and (w.dropped f.begin) one (functions_in arch item section v (frames es))) (function_same arch item section v w f begin.bits range.bits)
    ∙ ap (λ (gs : Result (List Function) AsmFault). one_and (w.dropped f.begin) (function_in arch item section w f) gs) rest

-- ---- tests over lists
both_true : (a b : Bool) → a ≡ true → b ≡ true → (a && b) ≡ true
both_true true b h k = k
both_true false b h k = h

each_true : (a b : Bool) → (a && b) ≡ true → (a ≡ true) × (b ≡ true)
each_true true b h = (refl, h)
each_true false b h = absurd cc

not_true : (b : Bool) → (b ≡ true → ⊥) → b ≡ false
not_true true h = absurd (h refl)
not_true false h = refl

no_value : (o : Option ℕ) → is_none o ≡ true → o ≡ None
no_value None h = refl
no_value (Some v) h = absurd cc

-- an element passes
passes : {X : Type 0} (p : X → Bool) (xs : List X) (x : X) → Contains xs x → p x ≡ true → list_any p xs ≡ true
passes p xs x among t = list_any_at p xs among.0 x among.1 (ap p among.2 ∙ t)

-- none does
none_passes : {X : Type 0} (p : X → Bool) (xs : List X) → ((x : X) → Contains xs x → p x ≡ true → ⊥) → list_any p xs ≡ false
none_passes p xs h = list_any_none p xs (λ k d within. not_true (p (get_or xs k d)) (h (get_or xs k d) (Contains-get_or xs k d within)))

by_answer : {X : Type 0} (p : X → Bool) (xs : List X) (b : Bool) → (b ≡ true → list_any p xs ≡ true) → ((x : X) → Contains xs x → p x ≡ true → b ≡ true) → b ≡ list_any p xs
by_answer p xs true some none = sym (some refl)
by_answer p xs false some none = sym (none_passes p xs (λ x among t. let clash : false ≡ true = none x among t in cc))

-- ---- one field
abbrev has_no_value : ℕ → RelocatedField → Bool
has_no_value place f = (f.place == place) && is_none f.value

abbrev is_gone : ℕ → RelocatedField → Bool
is_gone place f = (f.place == place) && f.dropped

unresolved_there : (fixes : List RelocatedField) (g : Field) → IsUnresolved fixes g → is_unresolved_at fixes g.place ≡ true
unresolved_there fixes g u = passes (has_no_value g.place) fixes u.fix u.among (both_true (u.fix.place == g.place) (is_none u.fix.value) (eq-eqb u.fix.place g.place u.at) (ap (λ (o : Option ℕ). is_none o) u.unknown))

resolved_there : (fixes : List RelocatedField) (g : Field) → (IsUnresolved fixes g → ⊥) → is_unresolved_at fixes g.place ≡ false
resolved_there fixes g h = none_passes (has_no_value g.place) fixes (λ f among t.
    let both = each_true (f.place == g.place) (is_none f.value) t in
    h (record { fix = f; among = among; at = eqb-true f.place g.place both.0; unknown = no_value f.value both.1 }))

abbrev number_in : List RelocatedField → List ℕ → Field → ℕ
number_in fixes section g = little_number g.width (drop g.place (patched fixes section))

bits_same : (fixes : List RelocatedField) (section : List ℕ) (g : Field) (o : Option ℕ) → FieldHolds fixes section g o → o ≡ (patched_values fixes section).bits (pointer_view g)
bits_same fixes section g None u = ap (λ (b : Bool). cond b None (Some (number_in fixes section g))) (sym (unresolved_there fixes g u))
bits_same fixes section g (Some bits) h =
    ap (λ (n : ℕ). Some n) (sym h.1) ∙ ap (λ (b : Bool). cond b None (Some (number_in fixes section g))) (sym (resolved_there fixes g h.0))

dropped_same : (fixes : List RelocatedField) (g : Field) (b : Bool) → (b ≡ true) ↔ IsDropped fixes g → b ≡ names_dropped_at fixes g.place
dropped_same fixes g b h = by_answer (is_gone g.place) fixes b
    (λ t. let u = h.0 t in passes (is_gone g.place) fixes u.fix u.among (both_true (u.fix.place == g.place) u.fix.dropped (eq-eqb u.fix.place g.place u.at) u.gone))
    (λ f among t. let both = each_true (f.place == g.place) f.dropped t in h.1 (record { fix = f; among = among; at = eqb-true f.place g.place both.0; gone = both.1 }))

-- ---- all fields, where nothing is written
patched_by_nothing : (section : List ℕ) → patched [] section ≡ section
unfolding patched
patched_by_nothing section = refl

none_same : (section : List ℕ) (pointers : List PointerField) → HoldRaw section pointers → All (SameOn (overlaid []) (patched_values [] section)) pointers
none_same section pointers raw = λ k d within.
    let g = get_or pointers k d in
    let held : HoldsRaw section (get_or pointers k d) = raw k d within in
    record {
      bits = unchanged_bits g.place g.width g.raw ∙ ap (λ (n : ℕ). Some n) (held.raw ∙ ap (λ (xs : List ℕ). little_number g.width (drop g.place xs)) (sym (patched_by_nothing section)));
      dropped = nothing_dropped g.place g.width;
    }

-- ---- all fields, where all that is written lies on them
abbrev Within : ℕ → Field → Type 0
Within len g = g.place + g.width ≤ len

within_if : (len : ℕ) (g : Field) (o : Option Field) (f : RelocatedField) (b : Bool) → (g.place == f.place) ≡ b → Within len g → (has_width o f ≡ true → f.place + width_of f.range ≤ len)
    → has_width (cond b (Some g) o) f ≡ true → f.place + width_of f.range ≤ len
within_if len g o f true here inside rest t =
    let place : g.place ≡ f.place = eqb-true g.place f.place here in
    let width : g.width ≡ width_of f.range = eqb-true g.width (width_of f.range) t in
    omega (arith, place, width, inside)
within_if len g o f false here inside rest t = rest t

lies_within : (len : ℕ) (fields : List Field) (f : RelocatedField) → All (Within len) fields → lies_on fields f ≡ true → f.place + width_of f.range ≤ len
unfolding first_at
lies_within len [] f all t = absurd cc
lies_within len (g ∷ gs) f all t =
    within_if len g (first_at field_place f.place gs) f (g.place == f.place) refl (All-head (Within len) g gs all) (lies_within len gs f (All-tail (Within len) g gs all)) t

passed : (b : Bool) (r : Result (Unit {0}) RelocFault) (e : RelocFault) → cond b r (Err e) ≡ Ok tt → (b ≡ true) × (r ≡ Ok tt)
passed true r e h = (refl, h)
passed false r e h = absurd cc

all_inside : (len : ℕ) (fields : List Field) (fs : List RelocatedField) → All (Within len) fields → places_check fields fs ≡ Ok tt → AreInside len fs
unfolding places_check
all_inside len fields [] all h = tt
all_inside len fields (f ∷ fs) all h =
    let p = passed (lies_on fields f) (places_check fields fs) (faults.Place f.index) h in
    (lies_within len fields f all p.0, all_inside len fields fs all p.1)

of_map : {X Y : Type 0} (P : X → Type 0) (view : Y → X) (ys : List Y) → All P (map view ys) → All (λ y. P (view y)) ys
of_map {Y = Y} P view [] h = All-nil (λ (y : Y). P (view y))
of_map {Y = Y} P view (y ∷ ys) h = All-cons (λ (z : Y). P (view z)) y ys (All-head P (view y) (map view ys) h) (of_map P view ys (All-tail P (view y) (map view ys) h))

abbrev Same : List RelocatedField → List ℕ → PointerField → Type 0
Same fixes section g = SameOn (overlaid fixes) (patched_values fixes section) g

lie_same : (p : Placing) (number : ℕ) (section : List ℕ) (pointers : List PointerField) (fixes : List RelocatedField) → Reads (section_fixes p number) fixes → LieOn pointers fixes → HoldRaw section pointers → All (Same fixes section) pointers
lie_same p number section pointers fixes reads lie raw =
    let held : All (λ (g : Field). HoldsRaw section (pointer_view g)) lie.fields = of_map (HoldsRaw section) pointer_view lie.fields (subst (HoldRaw section) (sym lie.viewed) raw) in
    let within : All (Within (length section)) lie.fields = λ k d lt. (held k d lt).within in
    let numbers : AreRaw section lie.fields = λ k d lt. (held k d lt).raw in
    let inside : AreInside (length section) fixes = all_inside (length section) lie.fields fixes within lie.lie in
    let small = reads_small p number reads.fixes fixes reads.read reads.order.moved in
    let holds = hold fixes section lie.fields reads.apart inside small lie.apart numbers lie.lie in
    let drops = reads_drop p number fixes lie.fields reads lie.apart lie.lie in
    let each : All (λ (g : Field). Same fixes section (pointer_view g)) lie.fields = λ k d lt.
    let g = get_or lie.fields k d in
    record {
      bits = bits_same fixes section (get_or lie.fields k d) (bits_in fixes g.place g.width g.raw) (holds k d lt);
      dropped = dropped_same fixes (get_or lie.fields k d) (is_dropped_field fixes g.place g.width) (drops k d lt);
    } in
    subst (All (Same fixes section)) lie.viewed (All-map (Same fixes section) pointer_view lie.fields each)

without_fixes : (section : List ℕ) (pointers : List PointerField) (fixes : List RelocatedField) → fixes ≡ [] → HoldRaw section pointers → All (Same fixes section) pointers
without_fixes section pointers fixes none raw = subst (λ (fs : List RelocatedField). All (Same fs section) pointers) (sym none) (none_same section pointers raw)

values_same : (placing : Option Placing) (number : ℕ) (section : List ℕ) (pointers : List PointerField) (fixes : List RelocatedField) → IsReadFrom placing number fixes → AreChecked pointers fixes → HoldRaw section pointers → All (Same fixes section) pointers
values_same placing number section pointers fixes from (inl none) raw = without_fixes section pointers fixes none raw
values_same None number section pointers fixes from (inr lie) raw = without_fixes section pointers fixes from raw
values_same (Some p) number section pointers fixes from (inr lie) raw = lie_same p number section pointers fixes from lie raw

-- ---- a section whose relocations were read and checked
pub section_over : (arch : Arch) (item : ℕ) (section : CallFrames) (es : List EntryView) (placing : Option Placing) (number : ℕ) (fixes : List RelocatedField) → entries_of arch section.bytes ≡ Ok es → section.relocations ≡ Ok fixes → IsReadFrom placing number fixes
    → pointer_check (pointer_fields es) fixes ≡ Ok tt → AreChecked (pointer_fields es) fixes → section_functions arch item section ≡ functions_in arch item section (overlaid fixes) (frames es)
section_over arch item section es placing number fixes whole read from lie checked =
    let raw : HoldRaw section.bytes (pointer_fields es) = fields_raw arch section.bytes es whole in
    let same = values_same placing number section.bytes (pointer_fields es) fixes from checked raw in
    section_is arch item section es fixes whole read lie ∙ sym (functions_same arch item section (overlaid fixes) (patched_values fixes section.bytes) es same)
