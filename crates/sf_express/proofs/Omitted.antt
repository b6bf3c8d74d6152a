-- An omission has the first reason of the rows.
use Rattle.std.specs.Prelude.{nat_le}
use Rattle.std.proofs.Common.{◌≡◌, ℕ, ◌+◌, ◌<◌, ◌≤◌, Bool, true, false, cond, List, [], ◌∷◌, Option, Some, None, Result, Ok, Err, refl, sym, ap, subst, ◌∙◌, arith}
use Rattle.std.proofs.lemmas.Bool.{le-leb, leb-true, leb-false}
use Rattle.sf_model.specs.declared.machine.Arch.{Arch}
use Rattle.sf_model.specs.declared.content.Content.{Content}
use Rattle.sf_model.specs.declared.facts.FdeFacts.{FdeFacts}
use Rattle.sf_model.specs.declared.function.Func.{Func}
use Rattle.sf_model.specs.declared.omission.Omission.{Omission}
use Rattle.sf_model.specs.declared.omission.Reason.{Reason}
use Rattle.sf_model.specs.declared.rows.Row.{Row}
use Rattle.cfa_machine.specs.declared.row.DwRow.{DwRow}
use Rattle.cfa_machine.specs.RowList.{RiseFrom, AreRows}
use Rattle.cfa_machine.specs.RowAtOffset.{latest_at}
use Rattle.sf_express.specs.declared.list_forms.ExpressFault.{ExpressFault}
use Rattle.sf_express.specs.declared.list_forms.ExpressFault.TheVariants.{Omit, NoMemory}
use Rattle.sf_express.specs.Rules.{content_of}
use Rattle.sf_express.specs.Expressed.{◌>>=◌, reason_of, row_from, unless_repeated, expressed_rows, with_rows, function_by, Gives}
use Rattle.sf_express.specs.Offsets.{content_or_reason, CanBeExpressed, IsOmission, Omits}
use Rattle.sf_express.proofs.Same.{rows_past}

record FirstIs (arch : Arch) (least : ℕ) (found : Option DwRow) (rows : List DwRow) (reason : Reason) (offset : Option ℕ) : Type 0 where
  at : ℕ
  is : offset ≡ Some at
  from : least ≤ at
  there : content_or_reason arch (latest_at at found rows) ≡ Some (Err reason)
  before : (p : ℕ) → p < at → CanBeExpressed (content_or_reason arch (latest_at p found rows))

abbrev FirstOn : Arch → ℕ → Option DwRow → List DwRow → Result (List Row) Omission → Type 0
FirstOn arch least found rows (Ok kept) = Unit {0}
FirstOn arch least found rows (Err omission) = FirstIs arch least found rows omission.reason omission.offset

taken : (arch : Arch) (p : ℕ) (r : DwRow) (rows : List DwRow) (found : Option DwRow) → r.start ≤ p → content_or_reason arch (latest_at p found (r ∷ rows)) ≡ content_or_reason arch (latest_at p (Some r) rows)
taken arch p r rows found le = ap (λ (b : Bool). content_or_reason arch (latest_at p (cond b (Some r) found) rows)) (le-leb r.start p le)

passed : (arch : Arch) (p : ℕ) (r : DwRow) (rows : List DwRow) (found : Option DwRow) → RiseFrom (r.start + 1) rows → p < r.start → content_or_reason arch (latest_at p found (r ∷ rows)) ≡ content_or_reason arch found
passed arch p r rows found rise lt = let all : RiseFrom r.start (r ∷ rows) = (omega arith, rise) in ap (content_or_reason arch) (rows_past p r.start found (r ∷ rows) lt all)

refused_here : (arch : Arch) (least : ℕ) (found : Option DwRow) (r : DwRow) (rows : List DwRow) (reason : Reason) → content_of arch r ≡ Err reason → RiseFrom least (r ∷ rows) → CanBeExpressed (content_or_reason arch found) → FirstIs arch least found (r ∷ rows) reason (Some r.start)
refused_here arch least found r rows reason e rise ok = record {
  at = r.start;
  is = refl;
  from = rise.0;
  there = taken arch r.start r rows found (omega arith) ∙ ap (content_or_reason arch) (rows_past r.start (r.start + 1) (Some r) rows (omega arith) rise.1) ∙ ap (λ (x : Result Content Reason). Some x) e;
  before = λ p lt. subst CanBeExpressed (sym (passed arch p r rows found rise.1 lt)) ok;
}

before_later : (arch : Arch) (p : ℕ) (found : Option DwRow) (r : DwRow) (rows : List DwRow) (below : Bool) → nat_le r.start p ≡ below → RiseFrom (r.start + 1) rows → CanBeExpressed (content_or_reason arch found) → CanBeExpressed (content_or_reason arch (latest_at p (Some r) rows)) → CanBeExpressed (content_or_reason arch (latest_at p found (r ∷ rows)))
before_later arch p found r rows true test rise ok h = subst CanBeExpressed (sym (taken arch p r rows found (leb-true r.start p test))) h
before_later arch p found r rows false test rise ok h = subst CanBeExpressed (sym (passed arch p r rows found rise (leb-false r.start p test))) ok

refused_later : (arch : Arch) (least : ℕ) (found : Option DwRow) (r : DwRow) (rows : List DwRow) (reason : Reason) (offset : Option ℕ) → RiseFrom least (r ∷ rows) → CanBeExpressed (content_or_reason arch found) → FirstIs arch (r.start + 1) (Some r) rows reason offset → FirstIs arch least found (r ∷ rows) reason offset
refused_later arch least found r rows reason offset rise ok h =
    let first : least ≤ r.start = rise.0 in
    let from : r.start + 1 ≤ h.at = h.from in
    record {
      at = h.at;
      is = h.is;
      from = omega arith;
      there = taken arch h.at r rows found (omega arith) ∙ h.there;
      before = λ p lt. before_later arch p found r rows (nat_le r.start p) refl rise.1 ok (h.before p lt);
    }

on_row : (arch : Arch) (least : ℕ) (found : Option DwRow) (r : DwRow) (rows : List DwRow) (last : Option Content) (content : Result Content Reason) (next : Row → Result (List Row) Omission) → content_of arch r ≡ content → RiseFrom least (r ∷ rows) → CanBeExpressed (content_or_reason arch found)
    → ((row : Row) → CanBeExpressed (content_or_reason arch (Some r)) → FirstOn arch (r.start + 1) (Some r) rows (next row)) → FirstOn arch least found (r ∷ rows) (row_from r.start content >>= λ row. (next row >>= λ kept. Ok (unless_repeated last row kept)))
on_row arch least found r rows last (Err reason) next e rise ok go = refused_here arch least found r rows reason e rise ok
on_row arch least found r rows last (Ok c) next e rise ok go = at_rest (next (record { start = r.start; content = c })) (go (record { start = r.start; content = c }) (subst (λ (x : Result Content Reason). CanBeExpressed (Some x)) (sym e) tt))
  where
    at_rest : (rest : Result (List Row) Omission) → FirstOn arch (r.start + 1) (Some r) rows rest → FirstOn arch least found (r ∷ rows) (rest >>= λ kept. Ok (unless_repeated last (record { start = r.start; content = c }) kept))
    at_rest (Ok kept) h = tt
    at_rest (Err omission) h = refused_later arch least found r rows omission.reason omission.offset rise ok h

first_on : (arch : Arch) (least : ℕ) (found : Option DwRow) (rows : List DwRow) (last : Option Content) → RiseFrom least rows → CanBeExpressed (content_or_reason arch found) → FirstOn arch least found rows (expressed_rows arch last rows)
unfolding expressed_rows
first_on arch least found [] last rise ok = tt
first_on arch least found (r ∷ rows) last rise ok = on_row arch least found r rows last (content_of arch r) (λ row. expressed_rows arch (Some row.content) rows) refl rise ok (λ row fine. first_on arch (r.start + 1) (Some r) rows (Some row.content) rise.1 fine)

-- ---- the function
offset_is : (arch : Arch) (facts : FdeFacts) (rows : List DwRow) (reason : Reason) (offset : Option ℕ) → reason_of arch facts ≡ None → FirstIs arch 0 None rows reason offset → IsOmission arch facts rows reason offset
offset_is arch facts rows reason offset none h = subst (IsOmission arch facts rows reason) (sym h.is) (none, record { there = h.there; before = h.before })

omits : (arch : Arch) (facts : FdeFacts) (rows : List DwRow) (answer : Result Func ExpressFault) (whole : Option Reason) (given : Result (List Row) Omission) → reason_of arch facts ≡ whole → FirstOn arch 0 None rows given → Gives (λ (f : Func). f) answer (with_rows facts whole given) → Omits arch facts rows answer
omits arch facts rows (Ok f) (Some reason) given e h g = cc
omits arch facts rows (Ok f) None given e h g = e
omits arch facts rows (Err NoMemory) whole given e h g = tt
omits arch facts rows (Err (Omit omission)) (Some reason) given e h g =
    let is : record { reason = reason; offset = None } ≡ omission = cc in
    subst (λ (x : Omission). IsOmission arch facts rows x.reason x.offset) is e
omits arch facts rows (Err (Omit omission)) None (Ok kept) e h g = cc
omits arch facts rows (Err (Omit omission)) None (Err refused) e h g =
    let is : refused ≡ omission = cc in
    subst (λ (x : Omission). IsOmission arch facts rows x.reason x.offset) is (offset_is arch facts rows refused.reason refused.offset e h)

pub answer_omits : (arch : Arch) (facts : FdeFacts) (rows : List DwRow) (answer : Result Func ExpressFault) → AreRows arch facts.size rows → Gives (λ (f : Func). f) answer (function_by arch facts rows) → Omits arch facts rows answer
answer_omits arch facts rows answer h g = omits arch facts rows answer (reason_of arch facts) (expressed_rows arch None rows) refl (first_on arch 0 None rows None h.rise tt) g
