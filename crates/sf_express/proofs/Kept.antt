-- The loop over the rows: what was kept so far, and what the rest gives.
use Rattle.std.proofs.Common.{◌≡◌, ℕ, suc, ◌+◌, ◌<◌, ◌≤◌, List, [], ◌∷◌, ◌++◌, length, drop, get_or, Bool, true, false, cond, Option, Some, Result, Ok, Err, refl, sym, ap, ◌∙◌, append_assoc, add-one, drop-cons}
use Rattle.std.proofs.lemmas.List.{append-nil, drop_all}
use Rattle.sf_model.specs.declared.machine.Arch.{Arch}
use Rattle.sf_model.specs.declared.content.Content.{Content}
use Rattle.sf_model.specs.declared.omission.Omission.{Omission}
use Rattle.sf_model.specs.declared.rows.Row.{Row}
use Rattle.cfa_machine.specs.declared.row.DwRow.{DwRow}
use Rattle.sf_express.specs.declared.list_forms.ExpressFault.{ExpressFault}
use Rattle.sf_express.specs.declared.list_forms.ExpressFault.TheVariants.{Omit, NoMemory}
use Rattle.sf_express.specs.Expressed.{◌>>=◌, Makes, Fails, repeats, row_by, unless_repeated, expressed_rows}

-- rows that were kept before the others
abbrev pub after_kept : List Row → Result (List Row) Omission → Result (List Row) Omission
after_kept before given = given >>= λ rows. Ok (before ++ rows)

kept_before : (b : Bool) (before : List Row) (row : Row) (rows : List Row) → before ++ cond b rows (row ∷ rows) ≡ (before ++ cond b [] (row ∷ [])) ++ rows
kept_before true before row rows = ap (λ (front : List Row). front ++ rows) (sym (append-nil before))
kept_before false before row rows = simp append_assoc

pub regroup : (before : List Row) (last : Option Content) (row : Row) (given : Result (List Row) Omission)
    → after_kept before (given >>= λ rows. Ok (unless_repeated last row rows)) ≡ after_kept (before ++ unless_repeated last row []) given
regroup before last row (Ok rows) = ap (λ (front : List Row). Ok front) (kept_before (repeats last row.content) before row rows)
regroup before last row (Err e) = refl

pub goes_on : (arch : Arch) (before now : List Row) (last : Option Content) (i : ℕ) (rows : List DwRow) (d : DwRow) (row : Row) (whole : Result (List Row) Omission) → i < length rows → row_by arch (get_or rows i d) ≡ Ok row → now ≡ before ++ unless_repeated last row []
    → after_kept before (expressed_rows arch last (drop i rows)) ≡ whole → after_kept now (expressed_rows arch (Some row.content) (drop (i + 1) rows)) ≡ whole
unfolding expressed_rows
goes_on arch before now last i rows d row whole lt one grown so_far =
    let step : after_kept before (expressed_rows arch last (drop i rows)) ≡ after_kept now (expressed_rows arch (Some row.content) (drop (suc i) rows)) = rw (drop-cons rows i d lt, one, grown) (regroup before last row (expressed_rows arch (Some row.content) (drop (suc i) rows))) in
    rw add-one (sym step ∙ so_far)

pub ends : (e : ExpressFault) (arch : Arch) (before : List Row) (last : Option Content) (i : ℕ) (rows : List DwRow) (d : DwRow) (whole : Result (List Row) Omission) → i < length rows → Makes (Err e) (row_by arch (get_or rows i d))
    → after_kept before (expressed_rows arch last (drop i rows)) ≡ whole → Fails e whole
unfolding expressed_rows
ends (Omit omission) arch before last i rows d whole lt one so_far =
    let step : after_kept before (expressed_rows arch last (drop i rows)) ≡ Err omission = rw (drop-cons rows i d lt, one) refl in
    sym so_far ∙ step
ends NoMemory arch before last i rows d whole lt one so_far = tt

pub is_done : (arch : Arch) (before : List Row) (last : Option Content) (i : ℕ) (rows : List DwRow) (whole : Result (List Row) Omission) → length rows ≤ i
    → after_kept before (expressed_rows arch last (drop i rows)) ≡ whole → whole ≡ Ok before
unfolding expressed_rows
is_done arch before last i rows whole le so_far =
    let none : drop i rows ≡ [] = drop_all i rows le in
    let step : after_kept before (expressed_rows arch last (drop i rows)) ≡ Ok before = rw none (ap (λ (front : List Row). Ok front) (append-nil before)) in
    sym so_far ∙ step
