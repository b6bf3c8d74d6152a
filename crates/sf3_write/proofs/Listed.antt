-- A list of stored functions, from which one is read by its number.
use Rattle.std.specs.Prelude.{if◌then◌else◌}
use Rattle.std.specs.List.{flat_map}
use Rattle.std.proofs.Common.{◌≡◌, ◌≤◌, ◌<◌, ◌+◌, ℕ, Bool, true, false, Some, List, [], ◌∷◌, ◌++◌, All, append_assoc, ap, arith, drop, map, refl, subst, sym, take, ◌∙◌}
use Rattle.std.proofs.lemmas.List.Elements.{All-append, All-cons, All-nil}
use Rattle.sf_write.specs.declared.stored.StoredFunction.{StoredFunction}
use Rattle.sf_write.specs.declared.stored.StoredRows.{StoredRows}
use Rattle.sf_write.specs.Stored.{stored_in}
use Rattle.std.proofs.lemmas.Bool.{lt-ltb}
use Rattle.std.specs.Prelude.{nat_lt}
use Rattle.sf_model.proofs.RowNumbers.{below_if}
use Rattle.sf_write.proofs.Listed.{IsNumbered, left, so_far}
use Rattle.sf3_write.specs.Attributes.{data_bytes}
use Rattle.sf3_write.specs.Entry.{entry_bytes}
use Rattle.sf3_write.specs.Rows.{are_few}
use Rattle.sf3_write.specs.Stored.{first_stored_with_too_many_rows, stored_entries}

-- the function's entry, and those that are left
pub entry_more : (at i place : ℕ) (xs : List StoredFunction) (x : StoredFunction) (before after : List ℕ) → IsNumbered xs i x → after ≡ before ++ entry_bytes at i place x.head.start x.head.size
    → after ++ stored_entries at (i + 1) (place + (5 + x.len)) (drop (i + 1) xs) ≡ before ++ stored_entries at i place (drop i xs)
entry_more at i place xs x before after h is =
    let rest = stored_entries at (i + 1) (place + (5 + x.len)) (drop (i + 1) xs) in
    ap (λ (bytes : List ℕ). bytes ++ rest) is ∙ append_assoc before (entry_bytes at i place x.head.start x.head.size) rest ∙ ap (λ (fs : List StoredFunction). before ++ stored_entries at i place fs) (sym (left xs i x h))

-- the function's data, and those that are left
pub data_more : (rows : StoredRows) (xs : List StoredFunction) (i : ℕ) (x : StoredFunction) (before after : List ℕ) → IsNumbered xs i x → after ≡ before ++ data_bytes (stored_in rows x)
    → after ++ flat_map data_bytes (map (stored_in rows) (drop (i + 1) xs)) ≡ before ++ flat_map data_bytes (map (stored_in rows) (drop i xs))
data_more rows xs i x before after h is =
    let rest = flat_map data_bytes (map (stored_in rows) (drop (i + 1) xs)) in
    ap (λ (bytes : List ℕ). bytes ++ rest) is ∙ append_assoc before (data_bytes (stored_in rows x)) rest
    ∙ ap (λ (fs : List StoredFunction). before ++ flat_map data_bytes (map (stored_in rows) fs)) (sym (left xs i x h))

-- those so far have few rows, and the function has
pub each_more : (P : StoredFunction → Type 0) (xs : List StoredFunction) (i : ℕ) (x : StoredFunction) → IsNumbered xs i x → All P (take i xs) → P x → All P (take (i + 1) xs)
each_more P xs i x h before here = subst (All P) (sym (so_far xs i x h)) (All-append P (take i xs) (x ∷ []) before (All-cons P x [] here (All-nil P)))

few_step : (x : StoredFunction) (xs : List StoredFunction) (b : Bool) → are_few x.head.rows ≡ b → first_stored_with_too_many_rows (x ∷ xs) ≡ (if b then first_stored_with_too_many_rows xs else Some x.head.start)
few_step x xs b e = rw e refl

-- where the function has few rows, the first with too many is among those that are left
pub few_more : (xs : List StoredFunction) (i : ℕ) (x : StoredFunction) → IsNumbered xs i x → are_few x.head.rows ≡ true
    → first_stored_with_too_many_rows (drop (i + 1) xs) ≡ first_stored_with_too_many_rows (drop i xs)
few_more xs i x h is = sym (few_step x (drop (i + 1) xs) true is) ∙ ap first_stored_with_too_many_rows (sym (left xs i x h))

-- where it has too many, it's the first
pub many_here : (xs : List StoredFunction) (i : ℕ) (x : StoredFunction) → IsNumbered xs i x → are_few x.head.rows ≡ false
    → first_stored_with_too_many_rows (drop i xs) ≡ Some x.head.start
many_here xs i x h is = ap first_stored_with_too_many_rows (left xs i x h) ∙ few_step x (drop (i + 1) xs) false is

-- the test of a number of rows
not_few_by : (b : Bool) (n : ℕ) → nat_lt n 65536 ≡ b → 65536 ≤ n → b ≡ false
not_few_by true n e le = let lt : n < 65536 = below_if n 65536 e in absurd (omega (lt, le, arith))
not_few_by false n e le = refl

pub not_few : (n : ℕ) → 65536 ≤ n → are_few n ≡ false
not_few n le = not_few_by (nat_lt n 65536) n refl le

pub few : (n : ℕ) → n < 65536 → are_few n ≡ true
few n lt = lt-ltb n 65536 lt
