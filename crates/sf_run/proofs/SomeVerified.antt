-- Verifying a section against inputs comes to something: the first fault, or a verdict.
use Rattle.std.specs.Prelude.{IfOk, IfSome}
use Rattle.std.proofs.Common.{◌≡◌, ℕ, List, All, Result, Ok, Err, refl, subst}
use Rattle.std.proofs.lemmas.List.Elements.{All-weaker}
use Rattle.sf_model.specs.declared.content.Content.{Content}
use Rattle.sf_model.specs.declared.function.Func.{Func}
use Rattle.sf_model.specs.declared.machine.Arch.{Arch}
use Rattle.sf_model.specs.declared.omission.Reason.{Reason}
use Rattle.sf_model.specs.Content.{OffsetsInRange}
use Rattle.sf_model.specs.Section.{AreBytes, Section, functions_place}
use Rattle.sf_model.specs.Table.{Table}
use Rattle.sf_decode.specs.declared.fault.DecodeFault.{DecodeFault}
use Rattle.sf_decode.specs.Decoding.{section_check, table_in}
use Rattle.sf_decode.proofs.EntriesRead.{section_stands}
use Rattle.sf_slim.proofs.Ranges.{IsGood, functions_good}
use Rattle.frame_functions.specs.Functions.{Function}
use Rattle.sf_asm.specs.Functions.{Object}
use Rattle.frame_functions.specs.ContentAt.{content_in_function}
use Rattle.sf_verify.specs.Agreement.{IsFitting}
use Rattle.sf_verify.specs.SectionContent.{section_at}
use Rattle.sf_verify.proofs.Fitting.{RowFits, dwarf_fits, function_fits, section_fits}
use Rattle.sf_verify.proofs.SomeVerdict.{InputsFit, some_result}
use Rattle.section_commands.specs.Coming.{Coming}
use Rattle.section_commands.specs.SectionComes.{coming_of_decoding}
use Rattle.sf_run.specs.Verify.{VerifyComesFrom, coming_of_verdict}
use Rattle.sf_run.proofs.KeptFit.{ContentIn, IsRead, content_in, functions_read}

-- ---- what inputs say
if_in_range : (said : Result Content Reason) → ContentIn said → IfOk said OffsetsInRange
if_in_range (Ok content) h = h
if_in_range (Err reason) h = tt

read_fits : (arch : Arch) (f : Function) → IsRead arch f → (pc : ℕ) → IfSome (content_in_function pc f) (IsFitting arch)
read_fits arch f h pc =
    subst (λ (a : Arch). IfSome (content_in_function pc f) (IsFitting a)) h.machine (function_fits f h.runs (λ offset. if_in_range _ (content_in f.arch _)) pc)

inputs_fit : (arch : Arch) (objects : List Object) → InputsFit arch objects
inputs_fit arch objects functions are machines =
    dwarf_fits arch functions (All-weaker (IsRead arch) (λ (f : Function). (pc : ℕ) → IfSome (content_in_function pc f) (IsFitting arch)) (read_fits arch) functions (functions_read arch 1 objects functions machines are))

-- ---- what a section says
rows_fit : (arch : Arch) (f : Func) → All (IsGood arch) f.rows → All (RowFits arch) f.rows
rows_fit arch f h = All-weaker (IsGood arch) (RowFits arch) (λ r good. record { fits = good.fits; in_range = good.range }) f.rows h

table_fits : (bytes : List ℕ) (at : ℕ) (table : Table) → Section bytes at table → (pc : ℕ) → IfSome (section_at table.functions pc) (IsFitting table.arch)
table_fits bytes at table is =
    section_fits table.arch table.functions
    (All-weaker (λ (f : Func). All (IsGood table.arch) f.rows) (λ (f : Func). All (RowFits table.arch) f.rows) (rows_fit table.arch) table.functions
    (functions_good table.arch bytes table.flags at (functions_place bytes) table.functions is.functions))

-- ---- the verdict
pub some_verified : (at : ℕ) (bytes : List ℕ) (objects : List Object) → AreBytes bytes → (check : Result (Unit {0}) DecodeFault) → section_check bytes at ≡ check → (coming : Coming) × VerifyComesFrom at bytes objects check coming
some_verified at bytes objects are (Err fault) e = (coming_of_decoding 0 fault, refl)
some_verified at bytes objects are (Ok u) e =
    let table = table_in bytes at in
    let is = section_stands bytes at are e in
    let found = some_result bytes table objects (table_fits bytes at table is) (inputs_fit table.arch objects) in
    (coming_of_verdict found.0, record { table = table; of_bytes = is; result = found.0; verifies = found.1; is = refl })
