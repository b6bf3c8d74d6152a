-- What is made of the instructions of a function, kept or omitted, as ranges.
use Rattle.std.specs.Prelude.{IsTrue}
use Rattle.std.specs.List.{All}
use Rattle.std.proofs.Common.{◌≡◌, ℕ, ◌^◌, ◌<◌, Bool, true, false, cond, List, [], ◌∷◌, Option, Some, None, Result, Ok, Err, refl, subst, arith}
use Rattle.std.proofs.lemmas.Bool.{le-leb}
use Rattle.std.proofs.lemmas.List.Elements.{All-nil, All-cons, All-head, All-tail}
use Rattle.sf_model.specs.declared.machine.Arch.{Arch}
use Rattle.sf_model.specs.declared.content.Content.{Content}
use Rattle.sf_model.specs.declared.omission.Reason.{Reason}
use Rattle.cfa_machine.specs.declared.fault.MachineFault.{MachineFault}
use Rattle.cfa_machine.specs.declared.row.DwRow.{DwRow}
use Rattle.cfa_machine.specs.RowList.{sign_fits}
use Rattle.cfa_machine.proofs.GoodRows.{AreRowsIfOk, rows_by-are_rows}
use Rattle.cfa_machine.proofs.RowsMatch.{MatchIfOk, rows_by-say}
use Rattle.sf_express.specs.declared.content_ranges.ContentRange.{ContentRange}
use Rattle.sf_express.specs.Rules.{content_of}
use Rattle.sf_express.specs.ContentRanges.{AreRangesOf, content_in, range_of, ranges_of, is_as_before}
use Rattle.sf_express.specs.Run.{on_rows}
use Rattle.sf_express.proofs.RangesOfRows.{are_said_by}
use Rattle.sf_express.proofs.Writable.{ContentFits, content_of-fits}
use Rattle.frame_functions.specs.Functions.{Function}
use Rattle.frame_functions.specs.Kept.{row_contents}
use Rattle.frame_functions.proofs.MadeRows.{rows_of}
use Rattle.frame_functions.proofs.FunctionsOfSection.{are_said}
use Rattle.frame_functions.specs.ContentAt.{AllFit, IfFits}

-- ---- contents fit
content_fits_if : (arch : Arch) (x : Result Content Reason) → ContentFits arch x → IfFits arch (content_in x)
content_fits_if arch (Ok c) h = h
content_fits_if arch (Err reason) h = tt

unless_fit : (arch : Arch) (b : Bool) (p : ContentRange) (rest : List ContentRange) → IfFits arch p.content → AllFit arch rest → AllFit arch (cond b rest (p ∷ rest))
unless_fit arch true p rest one others = others
unless_fit arch false p rest one others = All-cons (λ (p : ContentRange). IfFits arch p.content) p rest one others

ranges_fit : (arch : Arch) (last : Option (Option Content)) (rows : List DwRow) → All (λ (r : DwRow). IsTrue (sign_fits arch r.signed)) rows → AllFit arch (ranges_of arch last rows)
unfolding ranges_of
ranges_fit arch last [] h = All-nil (λ (p : ContentRange). IfFits arch p.content)
ranges_fit arch last (r ∷ rows) h =
    unless_fit arch (is_as_before last (content_in (content_of arch r))) (range_of arch r) (ranges_of arch (Some (content_in (content_of arch r))) rows)
    (content_fits_if arch (content_of arch r) (content_of-fits arch r (All-head (λ (r : DwRow). IsTrue (sign_fits arch r.signed)) r rows h)))
    (ranges_fit arch (Some (content_in (content_of arch r))) rows (All-tail (λ (r : DwRow). IsTrue (sign_fits arch r.signed)) r rows h))

-- ---- the ranges of a function
pub record AreMade (f : Function) (ranges : List ContentRange) : Type 0 where
  pub said : AreRangesOf f.size (λ offset. content_in (row_contents f offset)) ranges
  pub fit : AllFit f.arch ranges

made_by : (f : Function) (ranges : List ContentRange) (given : Result (List DwRow) MachineFault) → 0 < f.size → AreRowsIfOk f.arch f.size given → MatchIfOk f.arch f.code f.factor f.size f.initial f.own given
    → on_rows (ranges_of f.arch None) given ≡ Ok ranges → AreMade f ranges
made_by f ranges (Ok rows) some good say e =
    let is : ranges_of f.arch None rows ≡ ranges = cc in
    subst (AreMade f) is record {
      said = are_said_by f.arch f.size rows (row_contents f) some good (are_said f rows say);
      fit = ranges_fit f.arch None rows good.signs;
    }
made_by f ranges (Err x) some good say e = cc

pub are_made : (f : Function) (ranges : List ContentRange) (left : Result (List DwRow) MachineFault) → 0 < f.size → f.size < 2 ^ 64 → left ≡ rows_of f → on_rows (ranges_of f.arch None) left ≡ Ok ranges → AreMade f ranges
are_made f ranges left some small is e =
    made_by f ranges (rows_of f) some (rows_by-are_rows _ _ _ _ _ _) (rows_by-say _ _ _ _ _ _ small) (subst (λ (x : Result (List DwRow) MachineFault). on_rows (ranges_of f.arch None) x ≡ Ok ranges) is e)

-- one range that says nothing
pub none_said : (size : ℕ) → 0 < size → AreRangesOf size (λ offset. None) (record { start = 0; content = None } ∷ [])
none_said size some = record {
  are = record { first = refl; rise = (omega arith, tt); below = All-cons (λ (p : ContentRange). p.start < size) (record { start = 0; content = None }) [] some (All-nil (λ (p : ContentRange). p.start < size)) };
  say = λ offset lt. rw (le-leb 0 offset (omega arith)) refl;
  differ = ((λ e. cc), tt);
}
