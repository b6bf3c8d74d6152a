-- What holds where no check of a section fails.
use Rattle.std.proofs.Common.{◌≡◌, ◌<◌, ℕ, zero, suc, ◌+◌, IsTrue, List, ◌∷◌, length, Ok, refl, ap, sym, ◌∙◌, arith}
use Rattle.std.specs.Prelude.{is_ok}
use Rattle.std.proofs.lemmas.List.Sums.{sum_by-cons}
use Rattle.sf_model.specs.declared.machine.Arch.{Arch}
use Rattle.sf_model.specs.declared.function.Func.{Func}
use Rattle.sf_model.specs.Table.{row_count}
use Rattle.sf_decode.specs.declared.fault.DecodeFault.TheVariants.{Count}
use Rattle.sf_decode.specs.Checking.{Check, ◌>>◌, each_from, sum_from}
use Rattle.sf_decode.specs.Row.{rows_in, row_end, row_info}
use Rattle.sf_decode.specs.Header.{header_check, function_count_in, row_count_in}
use Rattle.sf_decode.specs.Entry.{entry_place, entry_check, entry_fields_check, follows_check, entry_rows_check, is_in_memory, function_in, functions_in}
use Rattle.sf_decode.specs.Decoding.{rows_of_entry, count_check, section_check}
use Rattle.sf_decode.proofs.Holds.{nothing_wrong, both_pass, unless_holds, eq_if}
use Rattle.sf_decode.proofs.Loops.{each_from-suc, sum_from-none, sum_from-suc}

-- each of the items
pub each_passes : (first n k : ℕ) (check : ℕ → Check) → each_from first n check ≡ Ok tt → k < n → check (first + k) ≡ Ok tt
each_passes first zero k check e lt = absurd (omega (lt, arith))
each_passes first (suc n) zero check e lt =
    let same : first + 0 ≡ first = omega arith in
    ap check same ∙ (both_pass (check first) (each_from (first + 1) n check) (sym (each_from-suc first n check) ∙ e)).0
each_passes first (suc n) (suc k) check e lt =
    let same : first + suc k ≡ first + 1 + k = omega arith in
    ap check same ∙ each_passes (first + 1) n k check (both_pass (check first) (each_from (first + 1) n check) (sym (each_from-suc first n check) ∙ e)).1 (omega (lt, arith))

-- the three parts of a section that was checked
pub record Passed (bytes : List ℕ) (at : ℕ) : Type 0 where
  pub header : header_check bytes ≡ Ok tt
  pub count : count_check bytes ≡ Ok tt
  pub entries : each_from 0 (function_count_in bytes) (entry_check bytes at) ≡ Ok tt

pub passed : (bytes : List ℕ) (at : ℕ) → section_check bytes at ≡ Ok tt → Passed bytes at
unfolding section_check
passed bytes at e =
    let outer = both_pass (header_check bytes >> count_check bytes) (each_from 0 (function_count_in bytes) (entry_check bytes at)) e in
    let inner = both_pass (header_check bytes) (count_check bytes) outer.0 in
    record { header = inner.0; count = inner.1; entries = outer.1 }

-- an entry of such a section
pub entry_passes : (bytes : List ℕ) (at i : ℕ) → section_check bytes at ≡ Ok tt → i < function_count_in bytes → entry_check bytes at i ≡ Ok tt
entry_passes bytes at i e lt =
    let same : 0 + i ≡ i = omega arith in
    ap (entry_check bytes at) (sym same) ∙ each_passes 0 (function_count_in bytes) i (entry_check bytes at) (passed bytes at e).entries lt

-- the parts of an entry's check
pub record EntryPassed (bytes : List ℕ) (at i : ℕ) : Type 0 where
  pub fields : entry_fields_check bytes at (entry_place bytes i) ≡ Ok tt
  pub follows : follows_check bytes at i ≡ Ok tt
  pub rows : entry_rows_check bytes (entry_place bytes i) ≡ Ok tt

pub entry_passed : (bytes : List ℕ) (at i : ℕ) → entry_check bytes at i ≡ Ok tt → EntryPassed bytes at i
unfolding entry_check
entry_passed bytes at i e =
    let outer = both_pass (entry_fields_check bytes at (entry_place bytes i) >> follows_check bytes at i) (entry_rows_check bytes (entry_place bytes i)) e in
    let inner = both_pass (entry_fields_check bytes at (entry_place bytes i)) (follows_check bytes at i) outer.0 in
    record { fields = inner.0; follows = inner.1; rows = outer.1 }

pub fields_in_memory : (bytes : List ℕ) (at place : ℕ) → entry_fields_check bytes at place ≡ Ok tt → IsTrue (is_in_memory bytes at place)
unfolding entry_fields_check
fields_in_memory bytes at place e = unless_holds (is_in_memory bytes at place) _ (both_pass _ _ e).1

-- there are as many rows and functions as were asked for
pub rows_length : (arch : Arch) (rows : List ℕ) (w place n : ℕ) → length (rows_in arch rows w place n) ≡ n
unfolding rows_in
rows_length arch rows w place zero = refl
rows_length arch rows w place (suc n) = let later = rows_length arch rows w (row_end w place (row_info rows w place)) n in omega (later, arith)

pub functions_length : (bytes : List ℕ) (at first n : ℕ) → length (functions_in bytes at first n) ≡ n
unfolding functions_in
functions_length bytes at first zero = refl
functions_length bytes at first (suc n) = let later = functions_length bytes at (first + 1) n in omega (later, arith)

rows_of_function : (bytes : List ℕ) (at i : ℕ) → length (function_in bytes at (entry_place bytes i)).rows ≡ rows_of_entry bytes i
unfolding function_in rows_of_entry
rows_of_function bytes at i = rows_length _ _ _ _ _

-- the functions have as many rows as their entries' numbers
pub rows_added : (bytes : List ℕ) (at first n : ℕ) → row_count (functions_in bytes at first n) ≡ sum_from first n (rows_of_entry bytes)
unfolding functions_in
rows_added bytes at first zero = sym (sum_from-none first (rows_of_entry bytes))
rows_added bytes at first (suc n) =
    let later = rows_added bytes at (first + 1) n in
    let here = rows_of_function bytes at first in
    let split = sum_from-suc first n (rows_of_entry bytes) in
    let sum : row_count (function_in bytes at (entry_place bytes first) ∷ functions_in bytes at (first + 1) n)
    ≡ length (function_in bytes at (entry_place bytes first)).rows + row_count (functions_in bytes at (first + 1) n) =
    sum_by-cons (λ (f : Func). length f.rows) (function_in bytes at (entry_place bytes first)) (functions_in bytes at (first + 1) n) in
    sum ∙ omega (later, here, split, arith)

count_holds : (bytes : List ℕ) → count_check bytes ≡ Ok tt → sum_from 0 (function_count_in bytes) (rows_of_entry bytes) ≡ row_count_in bytes
unfolding count_check
count_holds bytes e =
    eq_if _ _ (unless_holds _ (Count 12) e)

pub row_count_passed : (bytes : List ℕ) (at : ℕ) → section_check bytes at ≡ Ok tt → row_count (functions_in bytes at 0 (function_count_in bytes)) ≡ row_count_in bytes
row_count_passed bytes at e = rows_added bytes at 0 (function_count_in bytes) ∙ count_holds bytes (passed bytes at e).count

pub row_count_checked : (bytes : List ℕ) (at : ℕ) → IsTrue (is_ok (section_check bytes at)) → row_count (functions_in bytes at 0 (function_count_in bytes)) ≡ row_count_in bytes
row_count_checked bytes at e = row_count_passed bytes at (nothing_wrong (section_check bytes at) e)

-- a start is an address
pub in_memory_checked : (bytes : List ℕ) (at i : ℕ) → IsTrue (is_ok (section_check bytes at)) → i < length (functions_in bytes at 0 (function_count_in bytes))
    → IsTrue (is_in_memory bytes at (entry_place bytes i))
in_memory_checked bytes at i e lt =
    let within : i < function_count_in bytes = omega (functions_length bytes at 0 (function_count_in bytes), lt, arith) in
    fields_in_memory bytes at (entry_place bytes i) (entry_passed bytes at i (entry_passes bytes at i (nothing_wrong (section_check bytes at) e) within)).fields
