-- What is checked is what the standard says.
use Rattle.std.proofs.Common.{◌≡◌, ◌<◌, ◌≤◌, ℕ, ◌+◌, ◌^◌, IsTrue, length, get_or, arith, List, Ok, Err, ap, sym, ◌∙◌}
use Rattle.std.specs.Prelude.{is_ok}
use Rattle.sf_model.specs.declared.function.Func.{Func}
use Rattle.sf_model.specs.Table.{Table}
use Rattle.sf_model.specs.Section.{AreBytes, Section}
use Rattle.sf_model.proofs.TableSame.{table_same}
use Rattle.sf_decode.specs.declared.fault.DecodeFault.{DecodeFault}
use Rattle.sf_decode.specs.Entry.{entry_place, function_in}
use Rattle.sf_decode.specs.Header.{function_count_in, row_count_in}
use Rattle.sf_decode.specs.Decoding.{section_check, table_in}
use Rattle.sf_decode.proofs.EntriesFound.{section_passes}
use Rattle.sf_decode.proofs.EntriesRead.{section_stands, header_stands, function_at}
use Rattle.sf_decode.proofs.Checked.{functions_length}
use Rattle.sf_decode.proofs.Holds.{nothing_wrong}

-- a section is the table that its bytes describe
pub section_found : (bytes : List ℕ) (at : ℕ) (t : Table) → AreBytes bytes → Section bytes at t → table_in bytes at ≡ t
section_found bytes at t all s = table_same bytes at (table_in bytes at) t (section_stands bytes at all (section_passes bytes at t all s)) s

-- bytes in which a check fails are no section
pub no_section : (bytes : List ℕ) (at : ℕ) (t : Table) (e : DecodeFault) → AreBytes bytes → section_check bytes at ≡ Err e → Section bytes at t → ⊥
no_section bytes at t e all fault s = let both : Err e ≡ Ok tt = sym fault ∙ section_passes bytes at t all s in cc

-- a view's bytes
pub view_stands : (bytes : List ℕ) (at : ℕ) → AreBytes bytes → IsTrue (is_ok (section_check bytes at)) → Section bytes at (table_in bytes at)
view_stands bytes at all e = section_stands bytes at all (nothing_wrong (section_check bytes at) e)

-- a view's bytes are a section of its table
pub function_of_number : (bytes : List ℕ) (at i : ℕ) (d : Func) → i < length (table_in bytes at).functions
    → get_or (table_in bytes at).functions i d ≡ function_in bytes at (entry_place bytes i)
function_of_number bytes at i d lt =
    let n : ℕ = function_count_in bytes in
    let same : 0 + i ≡ i = omega arith in
    function_at bytes at 0 n i d (omega (functions_length bytes at 0 n, lt, arith)) ∙ ap (λ k. function_in bytes at (entry_place bytes k)) same

-- there are not too many functions, and not too many rows
pub function_limit_checked : (bytes : List ℕ) (at : ℕ) → IsTrue (is_ok (section_check bytes at)) → function_count_in bytes ≤ 2 ^ 21
function_limit_checked bytes at e =
    let header = header_stands bytes at (nothing_wrong (section_check bytes at) e) in
    omega (header.function_count, header.function_limit, arith)

pub row_limit_checked : (bytes : List ℕ) (at : ℕ) → IsTrue (is_ok (section_check bytes at)) → row_count_in bytes ≤ 2 ^ 24
row_limit_checked bytes at e =
    let header = header_stands bytes at (nothing_wrong (section_check bytes at) e) in
    omega (header.rows, header.row_limit, arith)
