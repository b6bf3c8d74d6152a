-- A function in SFrame's form is one that a section can hold.
use Rattle.std.specs.Prelude.{IsTrue}
use Rattle.std.specs.List.{All}
use Rattle.std.proofs.Common.{◌≡◌, ℕ, zero, suc, ℤ, ◌+◌, ◌^◌, ◌<◌, ◌≤◌, Bool, true, false, cond, List, [], ◌∷◌, length, get_or, Option, Some, None, Result, Ok, Err, refl, subst, arith}
use Rattle.std.proofs.lemmas.List.Elements.{All-cons, All-tail, All-nil}
use Rattle.sf_model.specs.declared.machine.Arch.{Arch}
use Rattle.sf_model.specs.declared.machine.Arch.TheVariants.{Amd64, Aarch64}
use Rattle.sf_model.specs.declared.machine.Base.{Base}
use Rattle.sf_model.specs.declared.content.Ra.{Ra}
use Rattle.sf_model.specs.declared.content.Ra.TheVariants.{Fixed, Link, At}
use Rattle.sf_model.specs.declared.content.Content.{Content}
use Rattle.sf_model.specs.declared.facts.FdeFacts.{FdeFacts}
use Rattle.sf_model.specs.declared.function.Func.{Func}
use Rattle.sf_model.specs.declared.function.Shape.TheVariants.{Plain}
use Rattle.sf_model.specs.declared.omission.Omission.{Omission}
use Rattle.sf_model.specs.declared.omission.Reason.{Reason}
use Rattle.sf_model.specs.declared.omission.Reason.TheVariants.{RaOffset}
use Rattle.sf_model.specs.declared.rows.Row.{Row}
use Rattle.sf_model.specs.Content.{content_fits}
use Rattle.sf_model.specs.Function.{IsWritable, RowsRise, key_fits}
use Rattle.cfa_machine.specs.declared.rule.Rule.{Rule}
use Rattle.cfa_machine.specs.declared.rule.Rule.TheVariants as rule
use Rattle.cfa_machine.specs.declared.row.DwRow.{DwRow}
use Rattle.cfa_machine.specs.RowList.{RiseFrom, sign_fits, AreRows}
use Rattle.sf_express.specs.Rules.{◌>>=◌ as ◌>>>◌, narrowed, return_address_at, is_minus_8, cfa_content, stack_pointer_check, return_address_content, frame_pointer_content, frame_pointer_needs_return_address, sign_state_check, content_of}
use Rattle.sf_express.specs.Expressed.{◌>>=◌, repeats, reason_of, row_from, unless_repeated, expressed_rows, with_rows, function_by}

-- ---- contents
abbrev RaFits : Arch → Result Ra Reason → Type 0
RaFits Amd64 (Ok Fixed) = Unit {0}
RaFits Amd64 (Ok Link) = ⊥
RaFits Amd64 (Ok (At n)) = ⊥
RaFits Aarch64 (Ok Fixed) = ⊥
RaFits Aarch64 (Ok Link) = Unit {0}
RaFits Aarch64 (Ok (At n)) = Unit {0}
RaFits arch (Err e) = Unit {0}

fixed_fits : (b : Bool) → RaFits Amd64 (cond {A = Result Ra Reason} b (Ok Fixed) (Err RaOffset))
fixed_fits true = tt
fixed_fits false = tt

saved_fits : (n : Option ℤ) → RaFits Aarch64 (return_address_at n)
saved_fits (Some n) = tt
saved_fits None = tt

ra_fits : (arch : Arch) (r : Rule) → RaFits arch (return_address_content arch r)
ra_fits Amd64 (rule.Offset n) = fixed_fits (is_minus_8 n)
ra_fits Amd64 rule.Missing = tt
ra_fits Amd64 rule.Undefined = tt
ra_fits Amd64 rule.Same = tt
ra_fits Amd64 (rule.ValOffset n) = tt
ra_fits Amd64 (rule.Register r) = tt
ra_fits Amd64 rule.Expression = tt
ra_fits Amd64 rule.ValExpression = tt
ra_fits Aarch64 (rule.Offset n) = saved_fits (narrowed n)
ra_fits Aarch64 rule.Missing = tt
ra_fits Aarch64 rule.Undefined = tt
ra_fits Aarch64 rule.Same = tt
ra_fits Aarch64 (rule.ValOffset n) = tt
ra_fits Aarch64 (rule.Register r) = tt
ra_fits Aarch64 rule.Expression = tt
ra_fits Aarch64 rule.ValExpression = tt

abbrev pub ContentFits : Arch → Result Content Reason → Type 0
ContentFits arch (Ok c) = IsTrue (content_fits arch c)
ContentFits arch (Err e) = Unit {0}

abbrev pub made : Base × ℤ → Ra → Option ℤ → Bool → Content
made x ra fp signed = record { base = x.0; cfa = x.1; ra = ra; fp = fp; signed = signed }

pair_fits : (arch : Arch) (x : Base × ℤ) (ra : Ra) (fp : Option ℤ) (sign : Result (Unit {0}) Reason) (signed : Bool) → RaFits arch (Ok ra) → IsTrue (sign_fits arch signed) → ContentFits arch (frame_pointer_needs_return_address ra fp >>> λ _. (sign >>> λ _. Ok (made x ra fp signed)))
pair_fits Amd64 x Fixed fp (Ok v) signed h g = g
pair_fits Amd64 x Fixed fp (Err e) signed h g = tt
pair_fits Amd64 x Link fp sign signed h g = absurd h
pair_fits Amd64 x (At n) fp sign signed h g = absurd h
pair_fits Aarch64 x Fixed fp sign signed h g = absurd h
pair_fits Aarch64 x Link None (Ok v) signed h g = refl
pair_fits Aarch64 x Link None (Err e) signed h g = tt
pair_fits Aarch64 x Link (Some n) sign signed h g = tt
pair_fits Aarch64 x (At n) fp (Ok v) signed h g = refl
pair_fits Aarch64 x (At n) fp (Err e) signed h g = tt

parts_fit : (arch : Arch) (cfa : Result (Base × ℤ) Reason) (sp : Result (Unit {0}) Reason) (ra : Result Ra Reason) (fp : Result (Option ℤ) Reason) (sign : Result (Unit {0}) Reason) (signed : Bool) → RaFits arch ra → IsTrue (sign_fits arch signed)
    → ContentFits arch (cfa >>> λ x. (sp >>> λ _. (ra >>> λ ra. (fp >>> λ fp. (frame_pointer_needs_return_address ra fp >>> λ _. (sign >>> λ _. Ok (made x ra fp signed)))))))
parts_fit arch (Err e) sp ra fp sign signed h g = tt
parts_fit arch (Ok x) (Err e) ra fp sign signed h g = tt
parts_fit arch (Ok x) (Ok u) (Err e) fp sign signed h g = tt
parts_fit arch (Ok x) (Ok u) (Ok ra) (Err e) sign signed h g = tt
parts_fit arch (Ok x) (Ok u) (Ok ra) (Ok fp) sign signed h g = pair_fits arch x ra fp sign signed h g

pub content_of-fits : (arch : Arch) (r : DwRow) → IsTrue (sign_fits arch r.signed) → ContentFits arch (content_of arch r)
unfolding content_of
content_of-fits arch r h = parts_fit arch (cfa_content arch r.cfa) (stack_pointer_check r.sp) (return_address_content arch r.ra) (frame_pointer_content r.fp) (sign_state_check arch r.sign) r.signed (ra_fits arch r.ra) h

-- ---- rows
abbrev pub StartsRise : ℕ → List Row → Type 0
StartsRise least [] = Unit {0}
StartsRise least (r ∷ rows) = (least ≤ r.start) × StartsRise (r.start + 1) rows

pub rise_lower : (low high : ℕ) (rows : List Row) → low ≤ high → StartsRise high rows → StartsRise low rows
rise_lower low high [] le h = tt
rise_lower low high (r ∷ rows) le h = let first : high ≤ r.start = h.0 in (omega arith, h.1)

adjacent : (least : ℕ) (rows : List Row) → StartsRise least rows → (k : ℕ) (d : Row) → k + 1 < length rows → (get_or rows k d).start < (get_or rows (k + 1) d).start
adjacent least [] h k d lt = absurd (omega arith)
adjacent least (r ∷ []) h k d lt = absurd (omega arith)
adjacent least (r ∷ s ∷ rows) h zero d lt = let next : r.start + 1 ≤ s.start = h.1.0 in omega arith
adjacent least (r ∷ s ∷ rows) h (suc k) d lt =
    let e : suc k + 1 ≡ suc (k + 1) = omega arith in
    rw e (adjacent (r.start + 1) (s ∷ rows) h.1 k d (omega arith))

pub record AreKept (arch : Arch) (least : ℕ) (rows : List Row) : Type 0 where
  pub rise : StartsRise least rows
  pub contents : All (λ (r : Row). IsTrue (content_fits arch r.content)) rows

abbrev pub KeptFit : Arch → ℕ → Result (List Row) Omission → Type 0
KeptFit arch least (Ok rows) = AreKept arch least rows
KeptFit arch least (Err e) = Unit {0}

kept_front : (arch : Arch) (least : ℕ) (b : Bool) (row : Row) (given : Result (List Row) Omission) → least ≤ row.start → IsTrue (content_fits arch row.content) → KeptFit arch (row.start + 1) given → KeptFit arch least (given >>= λ rows. Ok (cond b rows (row ∷ rows)))
kept_front arch least b row (Err e) le fits h = tt
kept_front arch least true row (Ok rows) le fits h = record { rise = rise_lower least (row.start + 1) rows (omega arith) h.rise; contents = h.contents }
kept_front arch least false row (Ok rows) le fits h = record { rise = (le, h.rise); contents = All-cons (λ (r : Row). IsTrue (content_fits arch r.content)) row rows fits h.contents }

kept_then : (arch : Arch) (least start : ℕ) (last : Option Content) (content : Result Content Reason) (next : Row → Result (List Row) Omission) → least ≤ start → ContentFits arch content → ((row : Row) → KeptFit arch (start + 1) (next row))
    → KeptFit arch least (row_from start content >>= λ row. (next row >>= λ rows. Ok (unless_repeated last row rows)))
kept_then arch least start last (Ok c) next le fits go = kept_front arch least (repeats last c) (record { start = start; content = c }) (next (record { start = start; content = c })) le fits (go (record { start = start; content = c }))
kept_then arch least start last (Err e) next le fits go = tt

pub kept_fit : (arch : Arch) (least : ℕ) (last : Option Content) (rows : List DwRow) → RiseFrom least rows → All (λ (r : DwRow). IsTrue (sign_fits arch r.signed)) rows → KeptFit arch least (expressed_rows arch last rows)
unfolding expressed_rows
kept_fit arch least last [] rise signs = record { rise = tt; contents = All-nil (λ (r : Row). IsTrue (content_fits arch r.content)) }
kept_fit arch least last (r ∷ rows) rise signs = kept_then arch least r.start last (content_of arch r) _ rise.0 (content_of-fits arch r (signs 0 r (omega arith))) (λ row. kept_fit arch (r.start + 1) (Some row.content) rows rise.1 (All-tail (λ (r : DwRow). IsTrue (sign_fits arch r.signed)) r rows signs))

-- the first row is kept
abbrev SomeKept : Result (List Row) Omission → Type 0
SomeKept (Ok rows) = 0 < length rows
SomeKept (Err e) = Unit {0}

first_kept : (start : ℕ) (content : Result Content Reason) (next : Row → Result (List Row) Omission) → SomeKept (row_from start content >>= λ row. (next row >>= λ rows. Ok (unless_repeated None row rows)))
first_kept start (Ok c) next = first_in (record { start = start; content = c }) (next (record { start = start; content = c }))
  where
    first_in : (row : Row) (given : Result (List Row) Omission) → SomeKept (given >>= λ rows. Ok (row ∷ rows))
    first_in row (Ok rows) = omega arith
    first_in row (Err e) = tt
first_kept start (Err e) next = tt

some_kept : (arch : Arch) (rows : List DwRow) → 0 < length rows → SomeKept (expressed_rows arch None rows)
unfolding expressed_rows
some_kept arch [] h = absurd (omega arith)
some_kept arch (r ∷ rows) h = first_kept r.start (content_of arch r) _

-- ---- the function
pub size_is_some : (arch : Arch) (facts : FdeFacts) → reason_of arch facts ≡ None → 0 < facts.size
size_is_some arch facts e = grind arith

abbrev pub FunctionFits : Arch → Result Func Omission → Type 0
FunctionFits arch (Ok f) = f.start + f.size ≤ 2 ^ 64 → IsTrue (key_fits arch f.key) → IsWritable arch f
FunctionFits arch (Err e) = Unit {0}

whole_fits : (arch : Arch) (facts : FdeFacts) (reason : Option Reason) (given : Result (List Row) Omission) → (reason ≡ None → 0 < facts.size) → KeptFit arch 0 given → (0 < facts.size → SomeKept given) → FunctionFits arch (with_rows facts reason given)
whole_fits arch facts (Some reason) given size fit some = tt
whole_fits arch facts None (Err e) size fit some = tt
whole_fits arch facts None (Ok rows) size fit some = λ end key. record {
  size = size refl;
  end = end;
  has_rows = some (size refl);
  rows_rise = adjacent 0 rows fit.rise;
  contents = fit.contents;
  key = key;
  shape = refl;
}

pub function_by-fits : (arch : Arch) (facts : FdeFacts) (rows : List DwRow) → AreRows arch facts.size rows → FunctionFits arch (function_by arch facts rows)
function_by-fits arch facts rows h = whole_fits arch facts (reason_of arch facts) (expressed_rows arch None rows) (size_is_some arch facts) (kept_fit arch 0 None rows h.rise h.signs) (λ some. some_kept arch rows (h.some some))

pub kept_is_writable : (arch : Arch) (facts : FdeFacts) (rows : List DwRow) (kept : List Row) → AreRows arch facts.size rows → reason_of arch facts ≡ None → expressed_rows arch None rows ≡ Ok kept → facts.start + facts.size ≤ 2 ^ 64 → IsTrue (key_fits arch facts.key)
    → IsWritable arch (record { start = facts.start; size = facts.size; shape = Plain; key = facts.key; rows = kept })
kept_is_writable arch facts rows kept h none given end key =
    let f : Func = record { start = facts.start; size = facts.size; shape = Plain; key = facts.key; rows = kept } in
    let e : function_by arch facts rows ≡ Ok f = rw (none, given) refl in
    let fits : FunctionFits arch (Ok f) = subst (FunctionFits arch) e (function_by-fits arch facts rows h) in
    fits end key

-- ---- the rows of a kept function rise, and their contents are those of the machine
abbrev GoodRows : Arch → List Row → Type 0
GoodRows arch rows = RowsRise rows × All (λ (r : Row). IsTrue (content_fits arch r.content)) rows

good_by : (arch : Arch) (facts : FdeFacts) (reason : Option Reason) (given : Result (List Row) Omission) (func : Func) → KeptFit arch 0 given → with_rows facts reason given ≡ Ok func → GoodRows arch func.rows
good_by arch facts (Some reason) given func fit e = absurd cc
good_by arch facts None (Err omission) func fit e = absurd cc
good_by arch facts None (Ok rows) func fit e =
    let is : record { start = facts.start; size = facts.size; shape = Plain; key = facts.key; rows = rows } ≡ func = cc in
    subst (λ (f : Func). GoodRows arch f.rows) is (adjacent 0 rows fit.rise, fit.contents)

pub rows_of_kept : (arch : Arch) (facts : FdeFacts) (rows : List DwRow) (func : Func) → AreRows arch facts.size rows → function_by arch facts rows ≡ Ok func → RowsRise func.rows × All (λ (r : Row). IsTrue (content_fits arch r.content)) func.rows
rows_of_kept arch facts rows func h e = good_by arch facts (reason_of arch facts) (expressed_rows arch None rows) func (kept_fit arch 0 None rows h.rise h.signs) e
