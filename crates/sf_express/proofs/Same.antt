-- At every offset the kept rows have the content of all rows.
use Rattle.std.specs.Prelude.{nat_le, IsTrue}
use Rattle.std.specs.List.{All}
use Rattle.std.proofs.lemmas.Bool.Decides.{Decides-int_eq}
use Rattle.std.specs.Ordering.{int_eq}
use Rattle.std.proofs.Common.{◌≡◌, ℕ, ℤ, ◌+◌, ◌<◌, ◌≤◌, Bool, true, false, cond, ◌&&◌, List, [], ◌∷◌, Option, Some, None, Result, Ok, Err, refl, sym, ap, subst, ◌∙◌, arith}
use Rattle.std.proofs.lemmas.List.Elements.{All-tail}
use Rattle.std.proofs.lemmas.Bool.{lt-leb, le-leb, leb-true, leb-false}
use Rattle.sf_model.specs.declared.machine.Arch.{Arch}
use Rattle.sf_model.specs.declared.machine.Base.{Base}
use Rattle.sf_model.specs.declared.machine.Base.TheVariants.{Fp, Sp}
use Rattle.sf_model.specs.declared.content.Ra.{Ra}
use Rattle.sf_model.specs.declared.content.Ra.TheVariants.{Fixed, Link, At}
use Rattle.sf_model.specs.declared.content.Content.{Content}
use Rattle.sf_model.specs.declared.omission.Omission.{Omission}
use Rattle.sf_model.specs.declared.omission.Reason.{Reason}
use Rattle.sf_model.specs.declared.rows.Row.{Row}
use Rattle.cfa_machine.specs.declared.row.DwRow.{DwRow}
use Rattle.cfa_machine.specs.RowList.{RiseFrom, sign_fits, AreRows}
use Rattle.cfa_machine.specs.RowAtOffset.{latest_at}
use Rattle.sf_express.specs.Rules.{content_of}
use Rattle.sf_express.specs.Expressed.{◌>>=◌, same_base, same_ra, same_fp, same_sign, same_content, repeats, row_from, unless_repeated, expressed_rows}
use Rattle.sf_express.specs.Offsets.{content_or_reason, latest_content, without_reason, HaveSameContents}
use Rattle.sf_express.proofs.Writable.{made, StartsRise, KeptFit, kept_fit}

-- ---- the test of contents
both : (a b : Bool) → (a && b) ≡ true → (a ≡ true) × (b ≡ true)
both true b e = (refl, e)
both false b e = (e, cc)

base_same : (a b : Base) → same_base a b ≡ true → a ≡ b
base_same Fp Fp e = refl
base_same Fp Sp e = cc
base_same Sp Fp e = cc
base_same Sp Sp e = refl

int_same : (a b : ℤ) → int_eq a b ≡ true → a ≡ b
int_same a b e = (Decides-int_eq a b).0 e

ra_same : (a b : Ra) → same_ra a b ≡ true → a ≡ b
ra_same Fixed Fixed e = refl
ra_same Fixed Link e = cc
ra_same Fixed (At n) e = cc
ra_same Link Fixed e = cc
ra_same Link Link e = refl
ra_same Link (At n) e = cc
ra_same (At m) Fixed e = cc
ra_same (At m) Link e = cc
ra_same (At m) (At n) e = ap (λ (z : ℤ). At z) (int_same m n e)

fp_same : (a b : Option ℤ) → same_fp a b ≡ true → a ≡ b
fp_same None None e = refl
fp_same None (Some n) e = cc
fp_same (Some m) None e = cc
fp_same (Some m) (Some n) e = ap (λ (z : ℤ). Some z) (int_same m n e)

sign_same : (a b : Bool) → same_sign a b ≡ true → a ≡ b
sign_same true b e = sym e
sign_same false true e = cc
sign_same false false e = refl

parts_same : (base base' : Base) (cfa cfa' : ℤ) (ra ra' : Ra) (fp fp' : Option ℤ) (signed signed' : Bool) → base ≡ base' → cfa ≡ cfa' → ra ≡ ra' → fp ≡ fp' → signed ≡ signed'
    → made (base, cfa) ra fp signed ≡ made (base', cfa') ra' fp' signed'
parts_same base base' cfa cfa' ra ra' fp fp' signed signed' p q r s t = rw (p, q, r, s, t) refl

pub content_same : (a b : Content) → same_content a b ≡ true → a ≡ b
content_same a b e =
    let p = both (same_base a.base b.base && int_eq a.cfa b.cfa && same_ra a.ra b.ra && same_fp a.fp b.fp) (same_sign a.signed b.signed) e in
    let q = both (same_base a.base b.base && int_eq a.cfa b.cfa && same_ra a.ra b.ra) (same_fp a.fp b.fp) p.0 in
    let r = both (same_base a.base b.base && int_eq a.cfa b.cfa) (same_ra a.ra b.ra) q.0 in
    let s = both (same_base a.base b.base) (int_eq a.cfa b.cfa) r.0 in
    let base = base_same a.base b.base s.0 in
    let cfa = int_same a.cfa b.cfa s.1 in
    let ra = ra_same a.ra b.ra r.1 in
    let fp = fp_same a.fp b.fp q.1 in
    let sign = sign_same a.signed b.signed p.1 in
    parts_same a.base b.base a.cfa b.cfa a.ra b.ra a.fp b.fp a.signed b.signed base cfa ra fp sign

pub repeated_is : (last : Option Content) (c : Content) → repeats last c ≡ true → last ≡ Some c
repeated_is None c e = cc
repeated_is (Some d) c e = ap (λ (x : Content). Some x) (content_same d c e)

-- ---- rows past the offset
pub rows_past : (o least : ℕ) (found : Option DwRow) (rows : List DwRow) → o < least → RiseFrom least rows → latest_at o found rows ≡ found
rows_past o least found [] lt h = refl
rows_past o least found (r ∷ rows) lt h =
    let first : least ≤ r.start = h.0 in
    let above : o < r.start = omega arith in
    ap (λ (b : Bool). latest_at o (cond b (Some r) found) rows) (lt-leb r.start o above) ∙ rows_past o (r.start + 1) found rows (omega arith) h.1

pub kept_past : (o least : ℕ) (found : Option Content) (rows : List Row) → o < least → StartsRise least rows → latest_content o found rows ≡ found
kept_past o least found [] lt h = refl
kept_past o least found (r ∷ rows) lt h =
    let first : least ≤ r.start = h.0 in
    let above : o < r.start = omega arith in
    ap (λ (b : Bool). latest_content o (cond b (Some r.content) found) rows) (lt-leb r.start o above) ∙ kept_past o (r.start + 1) found rows (omega arith) h.1

-- ---- the loop's rows
abbrev SaysOn : Arch → ℕ → Option DwRow → List DwRow → Option Content → Result (List Row) Omission → Type 0
SaysOn arch o found rows last (Ok kept) = content_or_reason arch (latest_at o found rows) ≡ without_reason (latest_content o last kept)
SaysOn arch o found rows last (Err e) = Unit {0}

kept_in_front : (o start : ℕ) (c : Content) (last : Option Content) (kept : List Row) → start ≤ o → latest_content o last (unless_repeated last (record { start = start; content = c }) kept) ≡ latest_content o (Some c) kept
kept_in_front o start c last kept le = at_test (repeats last c) refl
  where
    at_test : (b : Bool) → repeats last c ≡ b → latest_content o last (cond b kept (record { start = start; content = c } ∷ kept)) ≡ latest_content o (Some c) kept
    at_test true e = ap (λ (found : Option Content). latest_content o found kept) (repeated_is last c e)
    at_test false e = ap (λ (b : Bool). latest_content o (cond b (Some c) last) kept) (le-leb start o le)

on_below : (arch : Arch) (o : ℕ) (r : DwRow) (rows : List DwRow) (found : Option DwRow) (last : Option Content) (c : Content) (given : Result (List Row) Omission) → r.start ≤ o → SaysOn arch o (Some r) rows (Some c) given
    → SaysOn arch o found (r ∷ rows) last (given >>= λ kept. Ok (unless_repeated last (record { start = r.start; content = c }) kept))
on_below arch o r rows found last c (Err e) le h = tt
on_below arch o r rows found last c (Ok kept) le h =
    ap (λ (b : Bool). content_or_reason arch (latest_at o (cond b (Some r) found) rows)) (le-leb r.start o le) ∙ h ∙ sym (ap without_reason (kept_in_front o r.start c last kept le))

past_all : (arch : Arch) (o least : ℕ) (found : Option DwRow) (rows : List DwRow) (last : Option Content) (given : Result (List Row) Omission) → o < least → RiseFrom least rows → KeptFit arch least given → content_or_reason arch found ≡ without_reason last → SaysOn arch o found rows last given
past_all arch o least found rows last (Err e) lt rise fit e0 = tt
past_all arch o least found rows last (Ok kept) lt rise fit e0 = ap (content_or_reason arch) (rows_past o least found rows lt rise) ∙ e0 ∙ sym (ap without_reason (kept_past o least last kept lt fit.rise))

on_row : (arch : Arch) (o : ℕ) (r : DwRow) (rows : List DwRow) (found : Option DwRow) (last : Option Content) (content : Result Content Reason) → content_of arch r ≡ content → r.start ≤ o → ((c : Content) → content_of arch r ≡ Ok c → SaysOn arch o (Some r) rows (Some c) (expressed_rows arch (Some c) rows))
    → SaysOn arch o found (r ∷ rows) last (row_from r.start content >>= λ row. (expressed_rows arch (Some row.content) rows >>= λ kept. Ok (unless_repeated last row kept)))
on_row arch o r rows found last (Ok c) e le go = on_below arch o r rows found last c (expressed_rows arch (Some c) rows) le (go c e)
on_row arch o r rows found last (Err reason) e le go = tt

no_more : (arch : Arch) (o : ℕ) (found : Option DwRow) (last : Option Content) → content_or_reason arch found ≡ without_reason last → SaysOn arch o found [] last (expressed_rows arch last [])
unfolding expressed_rows
no_more arch o found last e = e

one_more : (arch : Arch) (o least : ℕ) (r : DwRow) (rows : List DwRow) (found : Option DwRow) (last : Option Content) (below : Bool) → nat_le r.start o ≡ below → RiseFrom least (r ∷ rows) → All (λ (x : DwRow). IsTrue (sign_fits arch x.signed)) (r ∷ rows) → content_or_reason arch found ≡ without_reason last
    → ((c : Content) → content_of arch r ≡ Ok c → SaysOn arch o (Some r) rows (Some c) (expressed_rows arch (Some c) rows)) → SaysOn arch o found (r ∷ rows) last (expressed_rows arch last (r ∷ rows))
unfolding expressed_rows
one_more arch o least r rows found last true test rise signs e go = on_row arch o r rows found last (content_of arch r) refl (leb-true r.start o test) go
one_more arch o least r rows found last false test rise signs e go =
    let itself : RiseFrom r.start (r ∷ rows) = (omega arith, rise.1) in
    past_all arch o r.start found (r ∷ rows) last (expressed_rows arch last (r ∷ rows)) (leb-false r.start o test) itself (kept_fit arch r.start last (r ∷ rows) itself signs) e

says_on : (arch : Arch) (o least : ℕ) (found : Option DwRow) (rows : List DwRow) (last : Option Content) → RiseFrom least rows → All (λ (r : DwRow). IsTrue (sign_fits arch r.signed)) rows → content_or_reason arch found ≡ without_reason last → SaysOn arch o found rows last (expressed_rows arch last rows)
says_on arch o least found [] last rise signs e = no_more arch o found last e
says_on arch o least found (r ∷ rows) last rise signs e = one_more arch o least r rows found last (nat_le r.start o) refl rise signs e
    (λ c h. says_on arch o (r.start + 1) (Some r) rows (Some c) rise.1 (All-tail (λ (x : DwRow). IsTrue (sign_fits arch x.signed)) r rows signs) (ap (λ (x : Result Content Reason). Some x) h))

pub kept_say_the_same : (arch : Arch) (size : ℕ) (rows : List DwRow) (kept : List Row) → AreRows arch size rows → expressed_rows arch None rows ≡ Ok kept → HaveSameContents arch rows kept
kept_say_the_same arch size rows kept h e = λ o. subst (SaysOn arch o None rows None) e (says_on arch o 0 None rows None h.rise h.signs refl)
