-- The loops over rows that a runner yields one by one.
use Rattle.std.proofs.Common.{◌≡◌, ℕ, List, [], ◌++◌, length, true, is_ok, Option, Some, None, Result, Ok, Err, refl, subst, sym, ap, ◌∙◌}
use Rattle.std.proofs.lemmas.List.{append-nil}
use Rattle.sf_model.specs.declared.machine.Arch.{Arch}
use Rattle.sf_model.specs.declared.content.Content.{Content}
use Rattle.sf_model.specs.declared.omission.Omission.{Omission}
use Rattle.sf_model.specs.declared.omission.Reason.{Reason}
use Rattle.sf_model.specs.declared.rows.Row.{Row}
use Rattle.cfa_machine.specs.declared.columns.Columns.{Columns}
use Rattle.cfa_machine.specs.declared.fault.MachineFault.{MachineFault}
use Rattle.cfa_machine.specs.declared.row.DwRow.{DwRow}
use Rattle.cfa_machine.specs.Columns.{row_from}
use Rattle.cfa_machine.specs.Left.{behind_row}
use Rattle.sf_express.specs.Expressed.{unless_repeated, expressed_rows, function_by, reason_of}
use Rattle.sf_express.specs.Rules.{content_of}
use Rattle.sf_express.specs.Run.{PacksRows, on_rows}
use Rattle.sf_model.specs.declared.function.FuncHead.{FuncHead}
use Rattle.sf_decode.specs.View.{head_of}
use Rattle.sf_model.specs.declared.facts.FdeFacts.{FdeFacts}
use Rattle.sf_model.specs.declared.function.Func.{Func}
use Rattle.sf_model.specs.declared.function.Shape.TheVariants.{Plain}
use Rattle.sf_write.specs.declared.packed.PackedRows.{PackedRows}
use Rattle.sf_write.specs.Packed.{ArePacked}
use Rattle.sf_express.proofs.Kept.{after_kept, regroup}

-- the same end: both ended without a fault, or have the same one
pub record Continues (before after : Result (List DwRow) MachineFault) : Type 0 where
  pub ok : is_ok before ≡ is_ok after
  pub fault : (e : MachineFault) → after ≡ Err e → before ≡ Err e

abbrev pub kept_and_left : Arch → List Row → Option Content → Result (List DwRow) MachineFault → Result (Result (List Row) Omission) MachineFault
kept_and_left arch before last left = on_rows (λ rows. after_kept before (expressed_rows arch last rows)) left

row_goes_on : (arch : Arch) (before now : List Row) (last : Option Content) (start : ℕ) (c : Columns) (content : Content) (after : Result (List DwRow) MachineFault) → content_of arch (row_from start c) ≡ Ok content → now ≡ before ++ unless_repeated last (record { start = start; content = content }) []
    → kept_and_left arch before last (behind_row start c after) ≡ kept_and_left arch now (Some content) after
unfolding expressed_rows
row_goes_on arch before now last start c content (Ok rows) said grown = rw (said, grown) (ap (λ (r : Result (List Row) Omission). Ok r) (regroup before last (record { start = start; content = content }) (expressed_rows arch (Some content) rows)))
row_goes_on arch before now last start c content (Err e) said grown = refl

pub goes_on : (arch : Arch) (before now : List Row) (last : Option Content) (start : ℕ) (c : Columns) (content : Content) (left after : Result (List DwRow) MachineFault) (whole : Result (Result (List Row) Omission) MachineFault) → left ≡ behind_row start c after → Ok content ≡ content_of arch (row_from start c) → now ≡ before ++ unless_repeated last (record { start = start; content = content }) []
    → kept_and_left arch before last left ≡ whole → kept_and_left arch now (Some content) after ≡ whole
goes_on arch before now last start c content left after whole next said grown so_far =
    sym (row_goes_on arch before now last start c content after (sym said) grown) ∙ (ap (kept_and_left arch before last) (sym next) ∙ so_far)

omitted : (arch : Arch) (before : List Row) (last : Option Content) (start : ℕ) (c : Columns) (reason : Reason) (after : Result (List DwRow) MachineFault) → content_of arch (row_from start c) ≡ Err reason → is_ok after ≡ true
    → kept_and_left arch before last (behind_row start c after) ≡ Ok (Err (record { reason = reason; offset = Some start }))
unfolding expressed_rows
omitted arch before last start c reason (Ok rows) said ok = rw said refl
omitted arch before last start c reason (Err e) said ok = absurd cc

pub omits : (arch : Arch) (before : List Row) (last : Option Content) (start : ℕ) (c : Columns) (reason : Reason) (left after : Result (List DwRow) MachineFault) (whole : Result (Result (List Row) Omission) MachineFault) → left ≡ behind_row start c after → Err reason ≡ content_of arch (row_from start c) → is_ok after ≡ true
    → kept_and_left arch before last left ≡ whole → whole ≡ Ok (Err (record { reason = reason; offset = Some start }))
omits arch before last start c reason left after whole next said ok so_far =
    sym so_far ∙ (ap (kept_and_left arch before last) next ∙ omitted arch before last start c reason after (sym said) ok)

pub faults : (arch : Arch) (before : List Row) (last : Option Content) (e : MachineFault) (left : Result (List DwRow) MachineFault) (whole : Result (Result (List Row) Omission) MachineFault) → left ≡ Err e
    → kept_and_left arch before last left ≡ whole → whole ≡ Err e
faults arch before last e left whole here so_far = sym so_far ∙ ap (kept_and_left arch before last) here

pub faults_behind : (arch : Arch) (before : List Row) (last : Option Content) (start : ℕ) (c : Columns) (e : MachineFault) (left after : Result (List DwRow) MachineFault) (whole : Result (Result (List Row) Omission) MachineFault) → left ≡ behind_row start c after → after ≡ Err e
    → kept_and_left arch before last left ≡ whole → whole ≡ Err e
faults_behind arch before last start c e left after whole next here so_far = faults arch before last e left whole (next ∙ ap (behind_row start c) here) so_far

pub is_done : (arch : Arch) (before : List Row) (last : Option Content) (left : Result (List DwRow) MachineFault) (whole : Result (Result (List Row) Omission) MachineFault) → left ≡ Ok []
    → kept_and_left arch before last left ≡ whole → whole ≡ Ok (Ok before)
unfolding expressed_rows
is_done arch before last left whole none so_far =
    let here : kept_and_left arch before last left ≡ Ok (Ok before) = rw none (ap (λ (rows : List Row). Ok (Ok rows)) (append-nil before)) in
    sym so_far ∙ here

-- the rows that are kept so far are packed
pub record PackedSoFar (arch : Arch) (packed : PackedRows) (last : Option Content) (left : Result (List DwRow) MachineFault) (whole : Result (Result (List Row) Omission) MachineFault) : Type 0 where
  pub rows : List Row
  pub are : ArePacked packed rows
  pub same : kept_and_left arch rows last left ≡ whole

begins : (arch : Arch) (left : Result (List DwRow) MachineFault) → kept_and_left arch [] None left ≡ on_rows (expressed_rows arch None) left
begins arch (Ok rows) = ap (λ (r : Result (List Row) Omission). Ok r) (after_none (expressed_rows arch None rows))
  where
    after_none : (given : Result (List Row) Omission) → after_kept [] given ≡ given
    after_none (Ok rows) = refl
    after_none (Err omission) = refl
begins arch (Err e) = refl

pub none_packed : (arch : Arch) (packed : PackedRows) (left : Result (List DwRow) MachineFault) → ArePacked packed [] → PackedSoFar arch packed None left (on_rows (expressed_rows arch None) left)
none_packed arch packed left are = record { rows = []; are = are; same = begins arch left }

pub packs_on : (arch : Arch) (old new : PackedRows) (last : Option Content) (start : ℕ) (c : Columns) (content : Content) (left after : Result (List DwRow) MachineFault) (whole : Result (Result (List Row) Omission) MachineFault) → left ≡ behind_row start c after → Ok content ≡ content_of arch (row_from start c)
    → ((rows : List Row) → ArePacked old rows → ArePacked new (rows ++ unless_repeated last (record { start = start; content = content }) []))
    → PackedSoFar arch old last left whole → PackedSoFar arch new (Some content) after whole
packs_on arch old new last start c content left after whole next said grows so_far =
    let row : Row = record { start = start; content = content } in
    let now : List Row = so_far.rows ++ unless_repeated last row [] in
    record {
      rows = now;
      are = grows so_far.rows so_far.are;
      same = goes_on arch so_far.rows now last start c content left after whole next said refl so_far.same;
    }

-- ---- the function with the rows that were made
abbrev function_with : FdeFacts → List Row → Func
function_with facts rows = record { start = facts.start; size = facts.size; shape = Plain; key = facts.key; rows = rows }

function_made : (arch : Arch) (facts : FdeFacts) (left : Result (List DwRow) MachineFault) (rows : List Row) → reason_of arch facts ≡ None → on_rows (expressed_rows arch None) left ≡ Ok (Ok rows) → on_rows (function_by arch facts) left ≡ Ok (Ok (function_with facts rows))
function_made arch facts (Ok given) rows none made =
    let is : expressed_rows arch None given ≡ Ok rows = cc in
    rw (none, is) refl
function_made arch facts (Err e) rows none made = absurd cc

-- the head of the function whose rows are packed
pub packed_function : {U : Type 0} (arch : Arch) (facts : FdeFacts) (left : Result (List DwRow) MachineFault) (packed : PackedRows) (result : Result U Omission) (u : U) (head : FuncHead) (count : ℕ) → reason_of arch facts ≡ None → result ≡ Ok u → PacksRows packed (Ok result) (on_rows (expressed_rows arch None) left)
    → head ≡ record { start = facts.start; size = facts.size; shape = Plain; key = facts.key; rows = count } → ((rows : List Row) → ArePacked packed rows → count ≡ length rows)
    → (func : Func) × (on_rows (function_by arch facts) left ≡ Ok (Ok func)) × (head ≡ head_of func) × ArePacked packed func.rows
packed_function arch facts left packed (Ok w) u head count none is packs made counts = (
  function_with facts packs.0,
  function_made arch facts left packs.0 none packs.2,
  made ∙ ap (λ (n : ℕ). record { start = facts.start; size = facts.size; shape = Plain; key = facts.key; rows = n }) (counts packs.0 packs.1),
  packs.1,
)
packed_function arch facts left packed (Err omission) u head count none is packs made counts = absurd cc

-- ---- running what is left
pub continues_itself : (left : Result (List DwRow) MachineFault) → Continues left left
continues_itself left = record { ok = refl; fault = λ e here. here }

behind_is_ok : (start : ℕ) (c : Columns) (after : Result (List DwRow) MachineFault) → is_ok (behind_row start c after) ≡ is_ok after
behind_is_ok start c (Ok rows) = refl
behind_is_ok start c (Err e) = refl

pub continues_behind : (whole left after : Result (List DwRow) MachineFault) (start : ℕ) (c : Columns) → left ≡ behind_row start c after → Continues whole left → Continues whole after
continues_behind whole left after start c next h = record {
  ok = h.ok ∙ (ap is_ok next ∙ behind_is_ok start c after);
  fault = λ e here. h.fault e (next ∙ ap (behind_row start c) here);
}

-- the same columns have the same content
pub says_same : (arch : Arch) (start : ℕ) (d c : Columns) (answer : Result Content Reason) → d ≡ c → answer ≡ content_of arch (row_from start d) → answer ≡ content_of arch (row_from start c)
says_same arch start d c answer same h = subst (λ (x : Columns). answer ≡ content_of arch (row_from start x)) same h
