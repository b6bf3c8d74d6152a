-- What `express` returns is the definition's function by offsets, or its first reason.
use Rattle.std.specs.List.{range_with_len, All}
use Rattle.std.proofs.Common.{◌≡◌, ℕ, zero, suc, ◌+◌, ◌<◌, ◌≤◌, Bool, true, false, cond, List, [], ◌∷◌, Option, Some, None, Result, Ok, Err, refl, sym, ap, subst, ◌∙◌, arith, inl, inr}
use Rattle.std.proofs.lemmas.Bool.{cases_lt, le-leb}
use Rattle.std.proofs.lemmas.List.Elements.{All-tail}
use Rattle.sf_model.specs.declared.machine.Arch.{Arch}
use Rattle.sf_model.specs.declared.content.Content.{Content}
use Rattle.sf_model.specs.declared.facts.FdeFacts.{FdeFacts}
use Rattle.sf_model.specs.declared.function.Func.{Func}
use Rattle.sf_model.specs.declared.function.Shape.TheVariants.{Plain}
use Rattle.sf_model.specs.declared.omission.Omission.{Omission}
use Rattle.sf_model.specs.declared.omission.Reason.{Reason}
use Rattle.sf_model.specs.declared.rows.Row.{Row}
use Rattle.cfa_machine.specs.declared.row.DwRow.{DwRow}
use Rattle.cfa_machine.specs.RowList.{AreRows}
use Rattle.cfa_machine.specs.RowAtOffset.{latest_at}
use Rattle.sf_express.specs.declared.list_forms.ExpressFault.{ExpressFault}
use Rattle.sf_express.specs.declared.list_forms.ExpressFault.TheVariants.{Omit, NoMemory}
use Rattle.sf_express.specs.Rules.{content_of}
use Rattle.sf_express.specs.Expressed.{◌>>=◌, reason_of, row_from, unless_repeated, repeats, expressed_rows, with_rows, function_by, Gives}
use Rattle.sf_express.specs.Offsets.{content_or_reason, content_at_offset, without_reason, latest_content, HaveSameContents, CanBeExpressed, IsOmission, IsFirstReason, Omits}
use Rattle.sf_express.specs.Runs.{ContentsByOffset, against, or_later, first_against, whole_or_row, omission_of, rows_of, expressed, unless_omitted, function_of, AreContentsOf}
use Rattle.sf_express.proofs.Runs.{RowsBelow, rows_are}
use Rattle.sf_express.proofs.Writable.{KeptFit, kept_fit, size_is_some}
use Rattle.sf_express.proofs.Same.{kept_say_the_same}
use Rattle.sf_express.proofs.Changes.{kept_differ}

-- ---- kept rows begin where rows do
abbrev KeptBelow : ℕ → Result (List Row) Omission → Type 0
KeptBelow end (Ok rows) = RowsBelow end rows
KeptBelow end (Err e) = Unit {0}

below_front : (end : ℕ) (b : Bool) (row : Row) (given : Result (List Row) Omission) → row.start < end → KeptBelow end given → KeptBelow end (given >>= λ rows. Ok (cond b rows (row ∷ rows)))
below_front end true row (Ok rows) lt h = h
below_front end false row (Ok rows) lt h = (lt, h)
below_front end b row (Err e) lt h = tt

below_then : (end start : ℕ) (last : Option Content) (content : Result Content Reason) (next : Row → Result (List Row) Omission) → start < end → ((row : Row) → KeptBelow end (next row))
    → KeptBelow end (row_from start content >>= λ row. (next row >>= λ rows. Ok (unless_repeated last row rows)))
below_then end start last (Ok c) next lt go = below_front end (repeats last c) (record { start = start; content = c }) (next (record { start = start; content = c })) lt (go (record { start = start; content = c }))
below_then end start last (Err e) next lt go = tt

kept_below : (arch : Arch) (end : ℕ) (last : Option Content) (rows : List DwRow) → All (λ (r : DwRow). r.start < end) rows → KeptBelow end (expressed_rows arch last rows)
unfolding expressed_rows
kept_below arch end last [] below = tt
kept_below arch end last (r ∷ rows) below =
    below_then end r.start last (content_of arch r) _ (below 0 r (omega arith)) (λ row. kept_below arch end (Some row.content) rows (All-tail (λ (x : DwRow). x.start < end) r rows below))

-- ---- a kept function
kept_is : (arch : Arch) (size : ℕ) (rows : List DwRow) (kept : List Row) (says : ContentsByOffset) → AreRows arch size rows → expressed_rows arch None rows ≡ Ok kept → AreContentsOf arch size rows says → kept ≡ rows_of says size
unfolding rows_of
kept_is arch size rows kept says h e are =
    let rise = subst (KeptFit arch 0) e (kept_fit arch 0 None rows h.rise h.signs) in
    let below = subst (KeptBelow size) e (kept_below arch size None rows h.below) in
    let same = kept_say_the_same arch size rows kept h e in
    rows_are says 0 size size None kept (omega arith) rise.rise below (λ o le lt. sym (same o) ∙ are o (omega (arith, lt))) refl (kept_differ arch rows kept e)

-- if each row can be expressed there is no reason
fine_first : (a : ℕ) (x : Result Content Reason) (later : Option Omission) → CanBeExpressed (Some x) → or_later (against a x) later ≡ later
fine_first a (Ok c) later fine = refl
fine_first a (Err reason) later fine = absurd fine

none_against : (says : ContentsByOffset) (a n : ℕ) → ((o : ℕ) → a ≤ o → o < a + n → CanBeExpressed (Some (says o))) → first_against says (range_with_len a n) ≡ None
none_against says a zero h = refl
none_against says a (suc n) h =
    fine_first a (says a) (first_against says (range_with_len (a + 1) n)) (h a (omega arith) (omega arith))
    ∙ none_against says (a + 1) n (λ o le lt. h o (omega (arith, le)) (omega (arith, lt)))

first_is : (says : ContentsByOffset) (reason : Reason) (a n at : ℕ) → a ≤ at → at < a + n → says at ≡ Err reason → ((o : ℕ) → o < at → CanBeExpressed (Some (says o))) → first_against says (range_with_len a n) ≡ Some (record { reason = reason; offset = Some at })
first_is says reason a zero at from to there before = absurd (omega (arith, from, to))
first_is says reason a (suc n) at from to there before =
    elim (cases_lt a at) [
      | inl lt ↦
          fine_first a (says a) (first_against says (range_with_len (a + 1) n)) (before a lt)
          ∙ first_is says reason (a + 1) n at (omega (arith, lt)) (omega (arith, to)) there before
      | inr le ↦
          let is : at ≡ a = omega (arith, from, le) in
          let there' : says a ≡ Err reason = subst (λ (k : ℕ). says k ≡ Err reason) is there in
          rw (there', is) refl
    ]

-- ---- an omitted function
-- past the last row's start nothing changes
as_before : (a b : ℕ) (found : Option DwRow) (rows : List DwRow) → All (λ (r : DwRow). r.start < suc a) rows → a ≤ b → latest_at b found rows ≡ latest_at a found rows
as_before a b found [] below le = refl
as_before a b found (r ∷ rows) below le =
    let first : r.start < suc a = below 0 r (omega arith) in
    let here : r.start ≤ a = omega (arith, first) in
    let there : r.start ≤ b = omega (arith, here, le) in
    ap (λ (t : Bool). latest_at b (cond t (Some r) found) rows) (le-leb r.start b there)
    ∙ as_before a b (Some r) rows (All-tail (λ (x : DwRow). x.start < suc a) r rows below) le
    ∙ sym (ap (λ (t : Bool). latest_at a (cond t (Some r) found) rows) (le-leb r.start a here))

no_sayable : (arch : Arch) (found : Option DwRow) (reason : Reason) → content_or_reason arch found ≡ Some (Err reason) → CanBeExpressed (content_or_reason arch found) → ⊥
no_sayable arch found reason e h = subst CanBeExpressed e h

-- the first reason is at an offset below the size
is_below : (arch : Arch) (size : ℕ) (rows : List DwRow) (reason : Reason) (o : ℕ) → 0 < size → All (λ (r : DwRow). r.start < size) rows → IsFirstReason arch rows reason o → o < size
is_below arch zero rows reason o some below h = absurd (omega (arith, some))
is_below arch (suc last) rows reason o some below h =
    elim (cases_lt o (suc last)) [
      | inl lt ↦ lt
      | inr le ↦
          let same = as_before last o None rows below (omega (arith, le)) in
          absurd (no_sayable arch (latest_at last None rows) reason (sym (ap (content_or_reason arch) same) ∙ h.there) (h.before last (omega (arith, le))))
    ]

said_there : (says : ContentsByOffset) (o : ℕ) (x : Option (Result Content Reason)) (reason : Reason) → x ≡ Some (says o) → x ≡ Some (Err reason) → says o ≡ Err reason
said_there says o x reason p q = let e : Some (says o) ≡ Some (Err reason) = sym p ∙ q in cc

row_reason : (arch : Arch) (size : ℕ) (rows : List DwRow) (says : ContentsByOffset) (reason : Reason) (o : ℕ) → 0 < size → All (λ (r : DwRow). r.start < size) rows → AreContentsOf arch size rows says → IsFirstReason arch rows reason o
    → first_against says (range_with_len 0 size) ≡ Some (record { reason = reason; offset = Some o })
row_reason arch size rows says reason o some below are h =
    let lt = is_below arch size rows reason o some below h in
    first_is says reason 0 size o (omega arith) (omega (arith, lt)) (said_there says o (content_at_offset arch o rows) reason (are o lt) h.there) (λ p before. subst CanBeExpressed (are p (omega (arith, before, lt))) (h.before p before))

omission_is : (arch : Arch) (facts : FdeFacts) (rows : List DwRow) (says : ContentsByOffset) (omission : Omission) → AreRows arch facts.size rows → AreContentsOf arch facts.size rows says → IsOmission arch facts rows omission.reason omission.offset → omission_of arch facts says ≡ Some omission
unfolding omission_of
omission_is arch facts rows says omission h are is = at_offset omission.offset refl is
  where
    at_offset : (offset : Option ℕ) → omission.offset ≡ offset → IsOmission arch facts rows omission.reason offset → whole_or_row (reason_of arch facts) (first_against says (range_with_len 0 facts.size)) ≡ Some omission
    at_offset None e is =
        let same : record { reason = omission.reason; offset = None } ≡ omission = rw e refl in
        ap (λ (x : Option Reason). whole_or_row x (first_against says (range_with_len 0 facts.size))) is ∙ ap (λ (x : Omission). Some x) same
    at_offset (Some o) e is =
        let same : record { reason = omission.reason; offset = Some o } ≡ omission = rw e refl in
        ap (λ (x : Option Reason). whole_or_row x (first_against says (range_with_len 0 facts.size))) is.0
        ∙ row_reason arch facts.size rows says omission.reason o (size_is_some arch facts is.0) h.below are is.1
        ∙ ap (λ (x : Omission). Some x) same

-- ---- the answer
sayable : (found : Option Content) (said : Result Content Reason) → without_reason found ≡ Some said → CanBeExpressed (Some said)
sayable (Some c) said e = let is : Ok c ≡ said = cc in subst (λ (x : Result Content Reason). CanBeExpressed (Some x)) is tt
sayable None said e = cc

none_is : (arch : Arch) (facts : FdeFacts) (rows : List DwRow) (kept : List Row) (says : ContentsByOffset) → reason_of arch facts ≡ None → HaveSameContents arch rows kept → AreContentsOf arch facts.size rows says → omission_of arch facts says ≡ None
unfolding omission_of
none_is arch facts rows kept says none same are =
    ap (λ (x : Option Reason). whole_or_row x (first_against says (range_with_len 0 facts.size))) none
    ∙ none_against says 0 facts.size (λ o le lt. sayable (latest_content o None kept) (says o) (sym (same o) ∙ are o (omega (arith, lt))))

function_is : (arch : Arch) (facts : FdeFacts) (rows : List DwRow) (says : ContentsByOffset) (f : Func) (whole : Option Reason) (given : Result (List Row) Omission) → AreRows arch facts.size rows → AreContentsOf arch facts.size rows says
    → reason_of arch facts ≡ whole → expressed_rows arch None rows ≡ given → with_rows facts whole given ≡ Ok f → function_of arch facts says ≡ Ok f
unfolding function_of
function_is arch facts rows says f (Some reason) given h are p q e = cc
function_is arch facts rows says f None (Err omission) h are p q e = cc
function_is arch facts rows says f None (Ok kept) h are p q e =
    let none = none_is arch facts rows kept says p (kept_say_the_same arch facts.size rows kept h q) are in
    let made : record { start = facts.start; size = facts.size; shape = Plain; key = facts.key; rows = kept } ≡ f = cc in
    ap (λ (x : Option Omission). unless_omitted x (expressed facts says)) none
    ∙ ap (λ (xs : List Row). Ok (record { start = facts.start; size = facts.size; shape = Plain; key = facts.key; rows = xs })) (sym (kept_is arch facts.size rows kept says h q are))
    ∙ ap (λ (x : Func). Ok x) made

omitted_is : (arch : Arch) (facts : FdeFacts) (rows : List DwRow) (says : ContentsByOffset) (omission : Omission) → AreRows arch facts.size rows → AreContentsOf arch facts.size rows says → IsOmission arch facts rows omission.reason omission.offset
    → function_of arch facts says ≡ Err omission
unfolding function_of
omitted_is arch facts rows says omission h are is = ap (λ (x : Option Omission). unless_omitted x (expressed facts says)) (omission_is arch facts rows says omission h are is)

pub answer_means : (arch : Arch) (facts : FdeFacts) (rows : List DwRow) (answer : Result Func ExpressFault) → AreRows arch facts.size rows → Gives (λ (f : Func). f) answer (function_by arch facts rows) → Omits arch facts rows answer
    → (says : ContentsByOffset) → AreContentsOf arch facts.size rows says → Gives (λ (f : Func). f) answer (function_of arch facts says)
answer_means arch facts rows (Ok f) h gives omits = λ says are. function_is arch facts rows says f (reason_of arch facts) (expressed_rows arch None rows) h are refl refl gives
answer_means arch facts rows (Err (Omit omission)) h gives omits = λ says are. omitted_is arch facts rows says omission h are omits
answer_means arch facts rows (Err NoMemory) h gives omits = λ says are. tt
