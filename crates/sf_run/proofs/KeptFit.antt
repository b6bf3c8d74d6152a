-- Functions that inputs are read to and that are kept can be written: one section can hold them, and their numbers fit its fields.
use Rattle.std.specs.Prelude.{is_ok, nat_le, nat_lt, ◌==◌}
use Rattle.std.specs.List.{cons_option, filter, filter_map, range_with_len}
use Rattle.std.proofs.Common.{◌≡◌, ◌<◌, ◌≤◌, ◌+◌, ◌^◌, ℕ, ℤ, zero, suc, pos, w32, FitsSigned, Bool, true, false, cond, IsTrue, List, [], ◌∷◌, ◌++◌, All, map, Option, Some, None, Result, Ok, Err, refl, sym, ap, subst, ◌∙◌, arith}
use Rattle.std.specs.Prelude.{negsuc}
use Rattle.std.proofs.lemmas.Bool.{leb-false, ltb-false, ltb-true}
use Rattle.std.proofs.lemmas.List.Elements.{All-nil, All-cons, All-head, All-tail, All-append, All-filter, All-weaker}
use Rattle.sf_model.specs.declared.machine.Arch.{Arch}
use Rattle.sf_model.specs.declared.machine.Arch.TheVariants.{Amd64, Aarch64}
use Rattle.sf_model.specs.declared.machine.Base.{Base}
use Rattle.sf_model.specs.declared.content.Content.{Content}
use Rattle.sf_model.specs.declared.content.Ra.{Ra}
use Rattle.sf_model.specs.declared.content.Ra.TheVariants.{Fixed}
use Rattle.sf_model.specs.declared.facts.FdeFacts.{FdeFacts}
use Rattle.sf_model.specs.declared.function.Func.{Func}
use Rattle.sf_model.specs.declared.omission.Omission.{Omission}
use Rattle.sf_model.specs.declared.omission.Reason.{Reason}
use Rattle.sf_model.specs.declared.omission.Reason.TheVariants.{EmptyRange, ReturnColumn, SignalFrame, SizeTooLarge, RaOffset}
use Rattle.sf_model.specs.declared.rows.Row.{Row}
use Rattle.sf_model.specs.Content.{OffsetsInRange, PointerInRange, ReturnInRange}
use Rattle.sf_model.specs.Function.{key_fits}
use Rattle.sf_write.specs.Numbers.{NumbersFit}
use Rattle.cfa_machine.specs.declared.fault.MachineFault.{MachineFault}
use Rattle.cfa_machine.specs.declared.row.DwRow.{DwRow}
use Rattle.cfa_machine.specs.declared.rule.CfaRule.{CfaRule}
use Rattle.cfa_machine.specs.declared.rule.CfaRule.TheVariants as cfa
use Rattle.cfa_machine.specs.declared.rule.Rule.{Rule}
use Rattle.cfa_machine.specs.declared.rule.Rule.TheVariants as rule
use Rattle.cfa_machine.specs.FirstFault.{first_fault}
use Rattle.cfa_machine.proofs.Faults.{fault_of}
use Rattle.eh_records.specs.declared.fault.RecordFault.{RecordFault}
use Rattle.eh_records.specs.declared.fault.RecordFault.TheVariants as record_fault
use Rattle.eh_records.specs.Fde.{FdeView}
use Rattle.eh_records.specs.Section.{EntryView, records_of, entries_before, entries_of, frames, pointer_fields}
use Rattle.eh_records.specs.Span.{span_of}
use Rattle.eh_records.proofs.Faults.{read_again}
use Rattle.eh_records.proofs.Keys.{keys_fit}
use Rattle.cfa_machine.specs.Registers.{return_address}
use Rattle.sf_express.specs.Expressed.{reason_of}
use Rattle.sf_express.specs.Rules.{◌>>=◌ as ◌>>>◌, base_of, cfa_from, cfa_content, content_of, fits_i32, frame_pointer_content, frame_pointer_at, is_minus_8, narrowed, frame_pointer_needs_return_address, return_address_content, return_address_at, sign_state_check, stack_pointer_check}
use Rattle.sf_express.specs.Runs.{ContentsByOffset, begins, expressed, first_against, function_of, omission_of, row_there, rows_of, unless_omitted, whole_or_row}
use Rattle.sf_express.proofs.Writable.{made}
use Rattle.frame_functions.specs.declared.read_function.ReadFunction.{ReadFunction}
use Rattle.frame_functions.specs.declared.read_function.Expressed.{Expressed}
use Rattle.frame_functions.specs.declared.read_function.Expressed.TheVariants.{Kept, LeftOut}
use Rattle.frame_functions.specs.ReadFunction.{IsSound, IsSoundOutcome, kept_in, kept_of}
use Rattle.frame_functions.specs.CallFrames.{CallFrames}
use Rattle.frame_functions.specs.Functions.{Function, fault_in, function_at, function_in, functions_in, section_functions, sections_functions, span_in}
use Rattle.sf_asm.specs.Functions.{◌>>=◌, Object, functions_after, functions_of, machine_of, named, object_functions, seen_behind, sections_of, unless}
use Rattle.frame_functions.specs.Kept.{read_of, facts_of, outcome_by, row_contents}
use Rattle.frame_functions.specs.Relocated.{Values, on_pointers, patched_values}
use Rattle.frame_functions.proofs.MadeRows.{first_of, made_of, outcome_is_sound, outcome_means}
use Rattle.frame_functions.proofs.MadeRows.{rows_of as instruction_rows}

-- ---- steps
-- what a step came to, and what came of it
abbrev Came : {A B F : Type 0} → Result A F → (A → Result B F) → B → Type 0
Came {A} given next y = (x : A) × (given ≡ Ok x) × (next x ≡ Ok y)

came : {A B F : Type 0} (given : Result A F) (next : A → Result B F) (y : B) → (given >>= next) ≡ Ok y → Came given next y
came (Ok x) next y e = (x, refl, e)
came (Err fault) next y e = cc

unnamed : {A F G : Type 0} (name : F → G) (given : Result A F) (x : A) → named name given ≡ Ok x → given ≡ Ok x
unnamed name (Ok y) x e = let is : y ≡ x = cc in ap Ok is
unnamed name (Err fault) x e = cc

no_fault : {F : Type 0} (fault : Option F) (x : Unit {0}) → unless fault ≡ Ok x → fault ≡ None
no_fault None x e = refl
no_fault (Some fault) x e = cc

-- ---- functions that are read
pub record IsRead (arch : Arch) (f : Function) : Type 0 where
  pub machine : f.arch ≡ arch
  pub end : f.start + f.size ≤ 2 ^ 64
  pub key : IsTrue (key_fits f.arch f.key)
  pub runs : first_fault f.arch f.factor f.initial f.own ≡ None

bounded_ends : (place start size : ℕ) (span : ℕ × ℕ) → cond {A = Result (ℕ × ℕ) RecordFault} (nat_lt (2 ^ 64) (start + size)) (Err (record_fault.FunctionEnd place)) (Ok (start, size)) ≡ Ok span → span.0 + span.1 ≤ 2 ^ 64
bounded_ends place start size span e = at_test (nat_lt (2 ^ 64) (start + size)) refl e
  where
    at_test : (b : Bool) → nat_lt (2 ^ 64) (start + size) ≡ b → cond {A = Result (ℕ × ℕ) RecordFault} b (Err (record_fault.FunctionEnd place)) (Ok (start, size)) ≡ Ok span → span.0 + span.1 ≤ 2 ^ 64
    at_test true t e = cc
    at_test false t e =
        let is : (start, size) ≡ span = cc in
        subst (λ (s : ℕ × ℕ). s.0 + s.1 ≤ 2 ^ 64) is (ltb-false (2 ^ 64) (start + size) t)

span_ends : (encoding place address shift : ℕ) (begin range : Option ℕ) (span : ℕ × ℕ) → span_of encoding place address shift begin range ≡ Ok span → span.0 + span.1 ≤ 2 ^ 64
span_ends encoding place address shift (Some begin) (Some range) span e = bounded_ends place _ _ span e
span_ends encoding place address shift (Some begin) None span e = cc
span_ends encoding place address shift None range span e = cc

one_read : (arch : Arch) (item : ℕ) (section : CallFrames) (values : Values) (f : FdeView) (g : Function) → IsTrue (key_fits arch f.cie.key) → function_in arch item section values f ≡ Ok g → IsRead arch g
unfolding function_in
one_read arch item section values f g key e =
    let spans = came (named _ (span_in section values f)) _ g e in
    let runs = came (named _ (unless (fault_in arch f))) _ g spans.2 in
    let is : function_at arch item section f spans.0 ≡ g = (let made = runs.2 in cc) in
    let end = span_ends f.cie.encoding f.begin.place section.address section.shift (values.bits f.begin) (values.bits f.range) spans.0 (unnamed _ (span_in section values f) spans.0 spans.1) in
    subst (IsRead arch) is record {
      machine = refl;
      end = end;
      key = key;
      runs = no_fault (fault_in arch f) runs.0 (unnamed _ (unless (fault_in arch f)) runs.0 runs.1);
    }

abbrev KeyFits : Arch → FdeView → Type 0
KeyFits arch f = IsTrue (key_fits arch f.cie.key)

frames_read : (arch : Arch) (item : ℕ) (section : CallFrames) (values : Values) (fs : List FdeView) (gs : List Function) → All (KeyFits arch) fs → functions_in arch item section values fs ≡ Ok gs → All (IsRead arch) gs
frames_read arch item section values [] gs keys e = let is : [] ≡ gs = cc in subst (All (IsRead arch)) is (All-nil (IsRead arch))
frames_read arch item section values (f ∷ fs) gs keys e =
    at_test (values.dropped f.begin) e (λ hs d. frames_read arch item section values fs hs (All-tail (KeyFits arch) f fs keys) d)
  where
    at_test : (b : Bool) → cond b (functions_in arch item section values fs) (function_in arch item section values f >>= λ g. functions_in arch item section values fs >>= λ gs. Ok (g ∷ gs)) ≡ Ok gs
        → ((hs : List Function) → functions_in arch item section values fs ≡ Ok hs → All (IsRead arch) hs) → All (IsRead arch) gs
    at_test true e later = later gs e
    at_test false e later =
        let one = came (function_in arch item section values f) _ gs e in
        let others = came (functions_in arch item section values fs) _ gs one.2 in
        let is : one.0 ∷ others.0 ≡ gs = (let all = others.2 in cc) in
        subst (All (IsRead arch)) is (All-cons (IsRead arch) one.0 others.0 (one_read arch item section values f one.0 (All-head (KeyFits arch) f fs keys) one.1) (later others.0 others.1))

entries_keys : (arch : Arch) (bytes : List ℕ) (es : List EntryView) → entries_of arch bytes ≡ Ok es → All (KeyFits arch) (frames es)
entries_keys arch bytes es e =
    let again = read_again arch bytes (ap is_ok e) in
    let is : entries_before arch bytes (records_of bytes) ≡ es = (let same = sym again ∙ e in cc) in
    subst (λ (xs : List EntryView). All (KeyFits arch) (frames xs)) is (keys_fit arch bytes (records_of bytes))

section_read : (arch : Arch) (item : ℕ) (section : CallFrames) (gs : List Function) → section_functions arch item section ≡ Ok gs → All (IsRead arch) gs
unfolding section_functions
section_read arch item section gs e =
    let entries = came (named _ (entries_of arch section.bytes)) _ gs e in
    let fixes = came (named _ (section.relocations >>= on_pointers (pointer_fields entries.0))) _ gs entries.2 in
    frames_read arch item section (patched_values fixes.0 section.bytes) (frames entries.0) gs
    (entries_keys arch section.bytes entries.0 (unnamed _ (entries_of arch section.bytes) entries.0 entries.1)) fixes.2

both_read : {F : Type 0} (arch : Arch) (one others : Result (List Function) F) (gs : List Function) → (one >>= λ fs. others >>= λ hs. Ok (fs ++ hs)) ≡ Ok gs
    → ((fs : List Function) → one ≡ Ok fs → All (IsRead arch) fs) → ((hs : List Function) → others ≡ Ok hs → All (IsRead arch) hs) → All (IsRead arch) gs
both_read arch one others gs e first later =
    let a = came one _ gs e in
    let b = came others _ gs a.2 in
    let is : a.0 ++ b.0 ≡ gs = (let all = b.2 in cc) in
    subst (All (IsRead arch)) is (All-append (IsRead arch) a.0 b.0 (first a.0 a.1) (later b.0 b.1))

sections_read : (arch : Arch) (item : ℕ) (ss : List CallFrames) (gs : List Function) → sections_functions arch item ss ≡ Ok gs → All (IsRead arch) gs
sections_read arch item [] gs e = let is : [] ≡ gs = cc in subst (All (IsRead arch)) is (All-nil (IsRead arch))
sections_read arch item (s ∷ ss) gs e =
    both_read arch (section_functions arch item s) (sections_functions arch item ss) gs e (section_read arch item s) (sections_read arch item ss)

object_read : (item : ℕ) (seen : List (List ℕ)) (object : Object) (gs : List Function) → object_functions item seen object ≡ Ok gs → All (IsRead (machine_of object)) gs
object_read item seen object gs e =
    let sections = came (sections_of seen object) _ gs e in
    sections_read (machine_of object) item sections.0 gs sections.2

abbrev Is : Arch → Arch → Type 0
Is arch machine = machine ≡ arch

objects_read : (arch : Arch) (seen : List (List ℕ)) (item : ℕ) (objects : List Object) (gs : List Function) → All (Is arch) (map machine_of objects) → functions_after seen item objects ≡ Ok gs → All (IsRead arch) gs
unfolding functions_after
objects_read arch seen item [] gs machines e = let is : [] ≡ gs = cc in subst (All (IsRead arch)) is (All-nil (IsRead arch))
objects_read arch seen item (object ∷ objects) gs machines e =
    both_read arch (named _ (object_functions item seen object)) (functions_after (seen_behind seen object) (item + 1) objects) gs e
    (λ fs d. subst (λ (a : Arch). All (IsRead a) fs) (All-head (Is arch) (machine_of object) (map machine_of objects) machines) (object_read item seen object fs (unnamed _ (object_functions item seen object) fs d)))
    (λ hs d. objects_read arch (seen_behind seen object) (item + 1) objects hs (All-tail (Is arch) (machine_of object) (map machine_of objects) machines) d)

-- ---- a row's offsets
narrowed_in : (n m : ℤ) → narrowed n ≡ Some m → FitsSigned w32 m
narrowed_in n m e = at_test (fits_i32 n) refl e
  where
    fits : (z : ℤ) → fits_i32 z ≡ true → FitsSigned w32 z
    fits (pos k) t = let lt = ltb-true k (2 ^ 31) t in record { sfits = lt }
    fits (negsuc k) t = let lt = ltb-true k (2 ^ 31) t in record { sfits = lt }

    at_test : (b : Bool) → fits_i32 n ≡ b → cond b (Some n) None ≡ Some m → FitsSigned w32 m
    at_test true t e = let is : n ≡ m = cc in subst (FitsSigned w32) is (fits n t)
    at_test false t e = cc

abbrev CfaIn : Result (Base × ℤ) Reason → Type 0
CfaIn (Ok x) = FitsSigned w32 x.1
CfaIn (Err e) = Unit {0}

abbrev RaIn : Result Ra Reason → Type 0
RaIn (Ok ra) = ReturnInRange ra
RaIn (Err e) = Unit {0}

abbrev FpIn : Result (Option ℤ) Reason → Type 0
FpIn (Ok fp) = PointerInRange fp
FpIn (Err e) = Unit {0}

cfa_from_in : (base : Option Base) (n : ℤ) (o : Option ℤ) → narrowed n ≡ o → CfaIn (cfa_from base n)
cfa_from_in None n o e = tt
cfa_from_in (Some base) n (Some m) e = rw e (narrowed_in n m e)
cfa_from_in (Some base) n None e = rw e tt

cfa_in : (arch : Arch) (r : CfaRule) → CfaIn (cfa_content arch r)
cfa_in arch cfa.Missing = tt
cfa_in arch cfa.Expression = tt
cfa_in arch (cfa.Reg r n) = cfa_from_in (base_of arch r) n (narrowed n) refl

saved_in : (n : ℤ) (o : Option ℤ) → narrowed n ≡ o → RaIn (return_address_at (narrowed n))
saved_in n (Some m) e = rw e (narrowed_in n m e)
saved_in n None e = rw e tt

fixed_in : (b : Bool) → RaIn (cond {A = Result Ra Reason} b (Ok Fixed) (Err RaOffset))
fixed_in true = tt
fixed_in false = tt

ra_in : (arch : Arch) (r : Rule) → RaIn (return_address_content arch r)
ra_in Amd64 (rule.Offset n) = fixed_in (is_minus_8 n)
ra_in Amd64 rule.Missing = tt
ra_in Amd64 rule.Undefined = tt
ra_in Amd64 rule.Same = tt
ra_in Amd64 (rule.ValOffset n) = tt
ra_in Amd64 (rule.Register r) = tt
ra_in Amd64 rule.Expression = tt
ra_in Amd64 rule.ValExpression = tt
ra_in Aarch64 (rule.Offset n) = saved_in n (narrowed n) refl
ra_in Aarch64 rule.Missing = tt
ra_in Aarch64 rule.Undefined = tt
ra_in Aarch64 rule.Same = tt
ra_in Aarch64 (rule.ValOffset n) = tt
ra_in Aarch64 (rule.Register r) = tt
ra_in Aarch64 rule.Expression = tt
ra_in Aarch64 rule.ValExpression = tt

pointer_in : (n : ℤ) (o : Option ℤ) → narrowed n ≡ o → FpIn (frame_pointer_at (narrowed n))
pointer_in n (Some m) e = rw e (narrowed_in n m e)
pointer_in n None e = rw e tt

fp_in : (r : Rule) → FpIn (frame_pointer_content r)
fp_in rule.Missing = tt
fp_in rule.Same = tt
fp_in (rule.Offset n) = pointer_in n (narrowed n) refl
fp_in rule.Undefined = tt
fp_in (rule.ValOffset n) = tt
fp_in (rule.Register r) = tt
fp_in rule.Expression = tt
fp_in rule.ValExpression = tt

abbrev pub ContentIn : Result Content Reason → Type 0
ContentIn (Ok c) = OffsetsInRange c
ContentIn (Err e) = Unit {0}

last_in : (x : Base × ℤ) (ra : Ra) (fp : Option ℤ) (pair sign : Result (Unit {0}) Reason) (signed : Bool) → CfaIn (Ok x) → RaIn (Ok ra) → FpIn (Ok fp) → ContentIn (pair >>> λ _. (sign >>> λ _. Ok (made x ra fp signed)))
last_in x ra fp (Err e) sign signed a b c = tt
last_in x ra fp (Ok u) (Err e) signed a b c = tt
last_in x ra fp (Ok u) (Ok v) signed a b c = record { frame_address = a; return_address = b; frame_pointer = c }

parts_in : (cfa : Result (Base × ℤ) Reason) (sp : Result (Unit {0}) Reason) (ra : Result Ra Reason) (fp : Result (Option ℤ) Reason) (sign : Result (Unit {0}) Reason) (signed : Bool) → CfaIn cfa → RaIn ra → FpIn fp
    → ContentIn (cfa >>> λ x. (sp >>> λ _. (ra >>> λ ra. (fp >>> λ fp. (frame_pointer_needs_return_address ra fp >>> λ _. (sign >>> λ _. Ok (made x ra fp signed)))))))
parts_in (Err e) sp ra fp sign signed a b c = tt
parts_in (Ok x) (Err e) ra fp sign signed a b c = tt
parts_in (Ok x) (Ok u) (Err e) fp sign signed a b c = tt
parts_in (Ok x) (Ok u) (Ok ra) (Err e) sign signed a b c = tt
parts_in (Ok x) (Ok u) (Ok ra) (Ok fp) sign signed a b c = last_in x ra fp (frame_pointer_needs_return_address ra fp) sign signed a b c

pub content_in : (arch : Arch) (r : DwRow) → ContentIn (content_of arch r)
unfolding content_of
content_in arch r = parts_in (cfa_content arch r.cfa) (stack_pointer_check r.sp) (return_address_content arch r.ra) (frame_pointer_content r.fp) (sign_state_check arch r.sign) r.signed (cfa_in arch r.cfa) (ra_in arch r.ra) (fp_in r.fp)

-- ---- rows
-- a row that begins below a size, with offsets in range
record RowFits (size : ℕ) (r : Row) : Type 0 where
  start : r.start < size
  offsets : OffsetsInRange r.content

all_said : {X Y : Type 0} (Q : X → Type 0) (P : Y → Type 0) (h : X → Option Y) (each : (x : X) (y : Y) → Q x → h x ≡ Some y → P y) (xs : List X) → All Q xs → All P (filter_map h xs)
all_said Q P h each [] all = All-nil P
all_said Q P h each (x ∷ xs) all = at_option (h x) refl (all_said Q P h each xs (All-tail Q x xs all))
  where
    at_option : (o : Option _) → h x ≡ o → All P (filter_map h xs) → All P (cons_option o (filter_map h xs))
    at_option None e rest = rest
    at_option (Some y) e rest = All-cons P y (filter_map h xs) (each x y (All-head Q x xs all) e) rest

all_below : (first n size : ℕ) → first + n ≤ size → All (λ (o : ℕ). o < size) (range_with_len first n)
all_below first zero size le = All-nil (λ (o : ℕ). o < size)
all_below first (suc n) size le =
    All-cons (λ (o : ℕ). o < size) first (range_with_len (first + 1) n) (omega (le, arith)) (all_below (first + 1) n size (omega (le, arith)))

row_said : (size offset : ℕ) (said : Result Content Reason) (r : Row) → offset < size → ContentIn said → row_there offset said ≡ Some r → RowFits size r
row_said size offset (Ok c) r lt range e =
    let is : record { start = offset; content = c } ≡ r = cc in
    subst (RowFits size) is record { start = lt; offsets = range }
row_said size offset (Err reason) r lt range e = cc

rows_fit : (says : ContentsByOffset) (size : ℕ) → ((offset : ℕ) → ContentIn (says offset)) → All (RowFits size) (rows_of says size)
unfolding rows_of
rows_fit says size range =
    all_said (λ (o : ℕ). o < size) (RowFits size) (λ (o : ℕ). row_there o (says o)) (λ o r lt e. row_said size o (says o) r lt (range o) e)
    (filter (begins says) (range_with_len 0 size)) (All-filter (begins says) (λ (o : ℕ). o < size) (range_with_len 0 size) (all_below 0 size size (omega arith)))

-- ---- a function
record IsExpressed (arch : Arch) (facts : FdeFacts) (says : ContentsByOffset) (g : Func) : Type 0 where
  none : reason_of arch facts ≡ None
  is : expressed facts says ≡ g

by_reasons : (arch : Arch) (facts : FdeFacts) (says : ContentsByOffset) (g : Func) (whole : Option Reason) (row : Option Omission) → reason_of arch facts ≡ whole → unless_omitted (whole_or_row whole row) (expressed facts says) ≡ Ok g → IsExpressed arch facts says g
by_reasons arch facts says g None None e h = record { none = e; is = cc }
by_reasons arch facts says g None (Some omission) e h = cc
by_reasons arch facts says g (Some reason) row e h = cc

is_expressed : (arch : Arch) (facts : FdeFacts) (says : ContentsByOffset) (g : Func) → function_of arch facts says ≡ Ok g → IsExpressed arch facts says g
unfolding function_of omission_of
is_expressed arch facts says g h = by_reasons arch facts says g (reason_of arch facts) (first_against says (range_with_len 0 facts.size)) refl h

small_size : (arch : Arch) (facts : FdeFacts) → reason_of arch facts ≡ None → facts.size < 2 ^ 32
small_size arch facts e = at_tests (facts.size == 0) (nat_le (2 ^ 32) facts.size) refl e
  where
    later : Option Reason
    later = cond (facts.column == return_address arch) (cond facts.signal (Some SignalFrame) None) (Some ReturnColumn)

    at_tests : (a b : Bool) → nat_le (2 ^ 32) facts.size ≡ b → cond a (Some EmptyRange) (cond b (Some SizeTooLarge) later) ≡ None → facts.size < 2 ^ 32
    at_tests true b t e = cc
    at_tests false true t e = cc
    at_tests false false t e = leb-false (2 ^ 32) facts.size t

expressed_fits : (arch : Arch) (facts : FdeFacts) (says : ContentsByOffset) (g : Func) → ((offset : ℕ) → ContentIn (says offset)) → function_of arch facts says ≡ Ok g → NumbersFit g
expressed_fits arch facts says g range h =
    let made = is_expressed arch facts says g h in
    let small = small_size arch facts made.none in
    let rows = rows_fit says facts.size range in
    subst NumbersFit made.is record {
      size = small;
      starts = All-weaker (RowFits facts.size) (λ (r : Row). r.start < 2 ^ 32) (λ r fits. let lt = fits.start in omega (lt, small, arith)) (rows_of says facts.size) rows;
      offsets = All-weaker (RowFits facts.size) (λ (r : Row). OffsetsInRange r.content) (λ r fits. fits.offsets) (rows_of says facts.size) rows;
      repeats = omega arith;
    }

-- ---- what becomes of a function that was read
rows_there : (given : Result (List DwRow) MachineFault) → fault_of given ≡ None → (rows : List DwRow) × (given ≡ Ok rows)
rows_there (Ok rows) e = (rows, refl)
rows_there (Err fault) e = cc

made_there : (f : Function) (given : Result (List DwRow) MachineFault) → fault_of given ≡ None → (outcome : Expressed) × (made_of f given ≡ Ok outcome)
made_there f (Ok rows) e = (_, refl)
made_there f (Err fault) e = cc

sound_by : (f : Function) (x : Result Func Omission) → function_of f.arch (facts_of f) (row_contents f) ≡ x → f.start + f.size ≤ 2 ^ 64 → IsTrue (key_fits f.arch f.key)
    → first_fault f.arch f.factor f.initial f.own ≡ None → IsSoundOutcome f.arch f.start f.size (outcome_by x)
sound_by f (Err omission) e end key runs = tt
sound_by f (Ok g) e end key runs =
    let small = small_size f.arch (facts_of f) (is_expressed f.arch (facts_of f) (row_contents f) g e).none in
    let there = made_there f (instruction_rows f) (first_of f ∙ runs) in
    let means : there.0 ≡ outcome_by (Ok g) = outcome_means f there.0 (omega (small, arith)) there.1 ∙ ap outcome_by e in
    subst (IsSoundOutcome f.arch f.start f.size) means (outcome_is_sound f there.0 end key there.1)

pub entry_sound : (arch : Arch) (f : Function) → IsRead arch f → IsSound arch (read_of f)
entry_sound arch f h =
    subst (λ (a : Arch). IsSoundOutcome a f.start f.size (read_of f).outcome) h.machine (sound_by f (function_of f.arch (facts_of f) (row_contents f)) refl h.end h.key h.runs)

-- its numbers fit, where it is kept
abbrev pub OutcomeFits : Expressed → Type 0
OutcomeFits (Kept g) = NumbersFit g
OutcomeFits (LeftOut omission) = Unit {0}

outcome_fits : (f : Function) (x : Result Func Omission) → function_of f.arch (facts_of f) (row_contents f) ≡ x → OutcomeFits (outcome_by x)
outcome_fits f (Ok g) e = expressed_fits f.arch (facts_of f) (row_contents f) g (λ offset. content_in f.arch _) e
outcome_fits f (Err omission) e = tt

pub entry_fits : (f : Function) → OutcomeFits (read_of f).outcome
entry_fits f = outcome_fits f (function_of f.arch (facts_of f) (row_contents f)) refl

kept_fits : (e : ReadFunction) (g : Func) (outcome : Expressed) → OutcomeFits outcome → kept_in outcome ≡ Some g → NumbersFit g
kept_fits e g (Kept h) fits is = let same : h ≡ g = cc in subst NumbersFit same fits
kept_fits e g (LeftOut omission) fits is = cc

pub all_kept_fit : (entries : List ReadFunction) → All (λ (e : ReadFunction). OutcomeFits e.outcome) entries → All NumbersFit (kept_of entries)
all_kept_fit entries all = all_said (λ (e : ReadFunction). OutcomeFits e.outcome) NumbersFit (λ (e : ReadFunction). kept_in e.outcome) (λ e g fits is. kept_fits e g e.outcome fits is) entries all

pub functions_read : (arch : Arch) (item : ℕ) (objects : List Object) (functions : List Function) → All (Is arch) (map machine_of objects) → functions_of item objects ≡ Ok functions → All (IsRead arch) functions
functions_read arch item objects functions machines e = objects_read arch [] item objects functions machines e
