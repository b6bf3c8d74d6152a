-- Kept rows begin where the content changes.
use Rattle.std.specs.Ordering.{int_eq}
use Rattle.std.proofs.lemmas.Bool.Decides.{Decides-int_eq}
use Rattle.std.proofs.Common.{◌≡◌, ℕ, ℤ, ◌<◌, Bool, true, false, cond, ◌&&◌, List, [], ◌∷◌, length, Option, Some, None, Result, Ok, Err, refl, sym, ap, subst, ◌∙◌, arith}
use Rattle.sf_model.specs.declared.machine.Arch.{Arch}
use Rattle.sf_model.specs.declared.machine.Base.{Base}
use Rattle.sf_model.specs.declared.machine.Base.TheVariants.{Fp, Sp}
use Rattle.sf_model.specs.declared.content.Ra.{Ra}
use Rattle.sf_model.specs.declared.content.Ra.TheVariants.{Fixed, Link, At}
use Rattle.sf_model.specs.declared.content.Content.{Content}
use Rattle.sf_model.specs.declared.facts.FdeFacts.{FdeFacts}
use Rattle.sf_model.specs.declared.omission.Omission.{Omission}
use Rattle.sf_model.specs.declared.omission.Reason.{Reason}
use Rattle.sf_model.specs.declared.rows.Row.{Row}
use Rattle.cfa_machine.specs.declared.row.DwRow.{DwRow}
use Rattle.cfa_machine.specs.RowList.{BeginAtZero, AreRows}
use Rattle.sf_express.specs.Rules.{content_of}
use Rattle.sf_express.specs.Expressed.{◌>>=◌, same_base, same_ra, same_fp, same_sign, same_content, repeats, reason_of, row_from, unless_repeated, expressed_rows}
use Rattle.sf_express.specs.Offsets.{DifferFrom, StartAtZero, StandAtChanges}
use Rattle.sf_express.proofs.Same.{repeated_is}
use Rattle.sf_express.proofs.Writable.{size_is_some}

-- ---- a content is the same as itself
int_itself : (z : ℤ) → int_eq z z ≡ true
int_itself z = (Decides-int_eq z z).1 refl

base_itself : (a : Base) → same_base a a ≡ true
base_itself Fp = refl
base_itself Sp = refl

ra_itself : (a : Ra) → same_ra a a ≡ true
ra_itself Fixed = refl
ra_itself Link = refl
ra_itself (At n) = int_itself n

fp_itself : (a : Option ℤ) → same_fp a a ≡ true
fp_itself None = refl
fp_itself (Some n) = int_itself n

sign_itself : (a : Bool) → same_sign a a ≡ true
sign_itself true = refl
sign_itself false = refl

all_true : (a b c d e : Bool) → a ≡ true → b ≡ true → c ≡ true → d ≡ true → e ≡ true → (a && b && c && d && e) ≡ true
all_true a b c d e p q r s t = rw (p, q, r, s, t) refl

pub content_itself : (c : Content) → same_content c c ≡ true
content_itself c = all_true (same_base c.base c.base) (int_eq c.cfa c.cfa) (same_ra c.ra c.ra) (same_fp c.fp c.fp) (same_sign c.signed c.signed) (base_itself c.base) (int_itself c.cfa) (ra_itself c.ra) (fp_itself c.fp) (sign_itself c.signed)

repeats_itself : (last : Option Content) (c : Content) → last ≡ Some c → repeats last c ≡ true
repeats_itself last c e = ap (λ (x : Option Content). repeats x c) e ∙ content_itself c

-- ---- neighbours
abbrev Differ : Option Content → Result (List Row) Omission → Type 0
Differ last (Ok rows) = DifferFrom last rows
Differ last (Err e) = Unit {0}

differ_front : (last : Option Content) (row : Row) (given : Result (List Row) Omission) → Differ (Some row.content) given → Differ last (given >>= λ rows. Ok (unless_repeated last row rows))
differ_front last row (Err e) h = tt
differ_front last row (Ok rows) h = at_test (repeats last row.content) refl
  where
    at_test : (b : Bool) → repeats last row.content ≡ b → DifferFrom last (cond b rows (row ∷ rows))
    at_test true e = subst (λ (x : Option Content). DifferFrom x rows) (sym (repeated_is last row.content e)) h
    at_test false e = ((λ same. let twice = sym e ∙ repeats_itself last row.content same in cc), h)

differ_then : (start : ℕ) (last : Option Content) (content : Result Content Reason) (next : Row → Result (List Row) Omission) → ((row : Row) → Differ (Some row.content) (next row)) → Differ last (row_from start content >>= λ row. (next row >>= λ rows. Ok (unless_repeated last row rows)))
differ_then start last (Ok c) next go = differ_front last (record { start = start; content = c }) (next (record { start = start; content = c })) (go (record { start = start; content = c }))
differ_then start last (Err e) next go = tt

differ : (arch : Arch) (last : Option Content) (rows : List DwRow) → Differ last (expressed_rows arch last rows)
unfolding expressed_rows
differ arch last [] = tt
differ arch last (r ∷ rows) = differ_then r.start last (content_of arch r) _ (λ row. differ arch (Some row.content) rows)

-- ---- the first row
abbrev FirstAtZero : Result (List Row) Omission → Type 0
FirstAtZero (Ok rows) = StartAtZero rows
FirstAtZero (Err e) = Unit {0}

first_in : (row : Row) (given : Result (List Row) Omission) → row.start ≡ 0 → FirstAtZero (given >>= λ rows. Ok (row ∷ rows))
first_in row (Ok rows) e = e
first_in row (Err omission) e = tt

first_then : (start : ℕ) (content : Result Content Reason) (next : Row → Result (List Row) Omission) → start ≡ 0 → FirstAtZero (row_from start content >>= λ row. (next row >>= λ rows. Ok (unless_repeated None row rows)))
first_then start (Ok c) next e = first_in (record { start = start; content = c }) (next (record { start = start; content = c })) e
first_then start (Err reason) next e = tt

first_at_zero : (arch : Arch) (rows : List DwRow) → 0 < length rows → BeginAtZero rows → FirstAtZero (expressed_rows arch None rows)
unfolding expressed_rows
first_at_zero arch [] some e = absurd (omega arith)
first_at_zero arch (r ∷ rows) some e = first_then r.start (content_of arch r) _ e

pub kept_stand_at_changes : (arch : Arch) (facts : FdeFacts) (rows : List DwRow) (kept : List Row) → AreRows arch facts.size rows → reason_of arch facts ≡ None → expressed_rows arch None rows ≡ Ok kept → StandAtChanges kept
kept_stand_at_changes arch facts rows kept h none e = record {
  first = subst FirstAtZero e (first_at_zero arch rows (h.some (size_is_some arch facts none)) h.first);
  differ = subst (Differ None) e (differ arch None rows);
}

pub kept_differ : (arch : Arch) (rows : List DwRow) (kept : List Row) → expressed_rows arch None rows ≡ Ok kept → DifferFrom None kept
kept_differ arch rows kept e = subst (Differ None) e (differ arch None rows)
