-- Entries that pass their checks are entries by the standard where they are read, and so is the
-- whole section.
use Rattle.std.proofs.Common.{◌≡◌, ◌≢◌, ◌<◌, ◌≤◌, ℕ, zero, suc, ◌+◌, ◌-◌, ◌*◌, ◌/◌, ◌%◌, ◌^◌, Bool, true, false, IsTrue, List, length, Ok, refl, ap, sym, subst, ◌∙◌, arith}
use Rattle.std.specs.Prelude.{◌||◌, not, if◌then◌else◌, ◌==◌, slice_index, get_or}
use Rattle.std.specs.List.{AllAdjacentBelow}
use Rattle.byteorder.specs.Numbers.{little_from-lt}
use Rattle.sf_model.specs.declared.machine.Arch.TheVariants.{Amd64, Aarch64}
use Rattle.sf_model.specs.declared.machine.Key.TheVariants.{A, B}
use Rattle.sf_model.specs.declared.function.Shape.TheVariants.{Plain, Repeat}
use Rattle.sf_model.specs.declared.function.Func.{Func}
use Rattle.sf_model.specs.Table.{row_count}
use Rattle.sf_model.specs.Section.{AreBytes, number_in, rows_len, rows_place, functions_place, row_bytes_of, abi_number, is_sorted, start_origin, start_width_at, row_offset_at, shape_number, key_number, IsRepeatSize, IsHeader, EntryStands, FunctionRowsStand, FunctionsStand, Section}
use Rattle.sf_decode.specs.Checking.{each_from}
use Rattle.sf_decode.specs.Entry.{flags_in, arch_in, entry_place, size_at, row_count_at, info_at, repeat_size_at, raised_start, is_repeated, key_in, is_known_info, has_repeat_size, is_in_memory, order_check, entry_rows_check, entry_fields_check, follows_check, entry_check, shape_in, start_in, function_in, functions_in}
use Rattle.sf_decode.specs.Header.{function_count_in, row_count_in, preamble_check, machine_check, layout_check, header_check}
use Rattle.sf_decode.specs.Decoding.{section_check, table_in}
use Rattle.sf_decode.proofs.Holds.{not_true, both_pass, unless_holds, where_holds, both_of, first_of, second_of, le_if, lt_if, eq_if, ne_if}
use Rattle.sf_decode.proofs.Checked.{passed, EntryPassed, entry_passed, entry_passes, functions_length, rows_length, row_count_passed}
use Rattle.sf_decode.proofs.Loops.{each_from-suc}
use Rattle.sf_decode.proofs.RowsRead.{rows_stand, rows_rise}
use Rattle.sf_decode.proofs.Standing.{part_are_bytes}
use Rattle.sf_decode.proofs.Starts.{signed_start}

-- what the checks of an entry's own fields give
pub record FieldsPassed (bytes : List ℕ) (at place : ℕ) : Type 0 where
  pub width : start_width_at bytes place ≤ 2
  pub info : IsTrue (is_known_info (arch_in bytes) (info_at bytes place))
  pub repeat : IsTrue (has_repeat_size (info_at bytes place) (repeat_size_at bytes place))
  pub low : 2147483648 ≤ raised_start bytes at place
  pub high : raised_start bytes at place < 2 ^ 64 + 2147483648
  pub end : raised_start bytes at place + size_at bytes place ≤ 2 ^ 64 + 2147483648

pub fields_passed : (bytes : List ℕ) (at place : ℕ) → entry_fields_check bytes at place ≡ Ok tt → FieldsPassed bytes at place
unfolding entry_fields_check is_in_memory
fields_passed bytes at place e =
    let three = both_pass _ _ e in
    let two = both_pass _ _ three.0 in
    let one = both_pass _ _ two.0 in
    let memory = unless_holds _ _ three.1 in
    let ends = second_of _ _ memory in
    let starts = first_of _ _ memory in
    record {
      width = le_if _ _ (unless_holds _ _ one.0);
      info = unless_holds _ _ one.1;
      repeat = unless_holds _ _ two.1;
      low = le_if _ _ (first_of _ _ starts);
      high = lt_if _ _ (second_of _ _ starts);
      end = le_if _ _ ends;
    }

-- the parts of an entry's info byte
pub shape_by : (size info : ℕ) (t : Bool) → (info / 16 % 2 == 1) ≡ t → shape_number (if t then Repeat size else Plain) ≡ info / 16 % 2
shape_by size info true e = sym (eq_if (info / 16 % 2) 1 e)
shape_by size info false e = let not_one : info / 16 % 2 ≢ 1 = ne_if (info / 16 % 2) 1 e in omega (not_one, arith)

pub key_by : (info : ℕ) (t : Bool) → (info / 32 % 2 == 0) ≡ t → key_number (if t then A else B) ≡ info / 32 % 2
key_by info true e = sym (eq_if (info / 32 % 2) 0 e)
key_by info false e = let not_none : info / 32 % 2 ≢ 0 = ne_if (info / 32 % 2) 0 e in omega (not_none, arith)

info_parts : (info s k : ℕ) → info < 64 → s ≡ info / 16 % 2 → k ≡ info / 32 % 2 → info / 16 ≡ s + 2 * k
info_parts info s k lt p q = omega (lt, p, q, arith)

pub positive : (size : ℕ) (t : Bool) → (size == 0) ≡ t → IsTrue (not t) → 0 < size
positive size true e p = absurd (not_true p)
positive size false e p = let some : size ≢ 0 = ne_if size 0 e in omega (some, arith)

pub repeat_by : (size : ℕ) (t : Bool) → IsTrue (not t || not (size == 0)) → IsRepeatSize (if t then Repeat size else Plain) size
repeat_by size true e = (refl, positive size (size == 0) refl e)
repeat_by size false e = tt

-- one entry
entry_stands : (bytes : List ℕ) (at place : ℕ) → AreBytes bytes → entry_fields_check bytes at place ≡ Ok tt → entry_rows_check bytes place ≡ Ok tt
    → EntryStands (arch_in bytes) bytes (start_origin (flags_in bytes) at place) place (function_in bytes at place)
unfolding function_in raised_start entry_rows_check
entry_stands bytes at place all e r =
    let ok : FieldsPassed bytes at place = fields_passed bytes at place e in
    let info : ℕ = info_at bytes place in
    let number : ℕ = number_in 4 place bytes in
    let small : number < 4294967296 = little_from-lt place 4 bytes all in
    let moved : start_in bytes at place + 2147483648 ≡ start_origin (flags_in bytes) at place + (number + 2147483648) % 4294967296 = omega (ok.low, arith) in
    record {
      start = signed_start (start_in bytes at place) (start_origin (flags_in bytes) at place) number small moved;
      end = omega (ok.low, ok.end, arith);
      start_below = omega (ok.low, ok.high, arith);
      size = refl;
      row_count = sym (rows_length (arch_in bytes) (row_bytes_of bytes) (start_width_at bytes place) (row_offset_at bytes place) (row_count_at bytes place));
      start_width = ok.width;
      info = info_parts info (shape_number (shape_in info (repeat_size_at bytes place))) (key_number (key_in info)) (lt_if info 64 (first_of _ _ ok.info))
          (shape_by (repeat_size_at bytes place) info (info / 16 % 2 == 1) refl) (key_by info (info / 32 % 2 == 0) refl);
      repeat_size = repeat_by (repeat_size_at bytes place) (is_repeated info) ok.repeat;
      key = second_of _ _ ok.info;
      rows_rise = rows_rise (arch_in bytes) (row_bytes_of bytes) (rows_place bytes) (start_width_at bytes place) (row_offset_at bytes place) 0 (row_count_at bytes place) r;
    }

function_rows_stand : (bytes : List ℕ) (at place : ℕ) → AreBytes bytes → entry_fields_check bytes at place ≡ Ok tt → entry_rows_check bytes place ≡ Ok tt
    → FunctionRowsStand (arch_in bytes) bytes place (function_in bytes at place)
unfolding function_in entry_rows_check
function_rows_stand bytes at place all e r =
    rows_stand (arch_in bytes) (row_bytes_of bytes) (rows_place bytes) (start_width_at bytes place) (row_offset_at bytes place) 0 (row_count_at bytes place)
    (part_are_bytes bytes (rows_place bytes) (rows_len bytes) all) (fields_passed bytes at place e).width r

-- `n` entries
functions_stand : (bytes : List ℕ) (at first n : ℕ) → AreBytes bytes → each_from first n (entry_check bytes at) ≡ Ok tt
    → FunctionsStand (arch_in bytes) bytes (flags_in bytes) at (entry_place bytes first) (functions_in bytes at first n)
unfolding functions_in
functions_stand bytes at first zero all e = tt
functions_stand bytes at first (suc n) all e =
    let both = both_pass (entry_check bytes at first) (each_from (first + 1) n (entry_check bytes at)) (sym (each_from-suc first n (entry_check bytes at)) ∙ e) in
    let here : EntryPassed bytes at first = entry_passed bytes at first both.0 in
    let next : entry_place bytes (first + 1) ≡ entry_place bytes first + 20 = omega arith in (
      entry_stands bytes at (entry_place bytes first) all here.fields here.rows,
      function_rows_stand bytes at (entry_place bytes first) all here.fields here.rows,
      subst (λ p. FunctionsStand (arch_in bytes) bytes (flags_in bytes) at p (functions_in bytes at (first + 1) n)) next (functions_stand bytes at (first + 1) n all both.1),
    )

-- the function with a number
pub function_at : (bytes : List ℕ) (at first n k : ℕ) (d : Func) → k < n → get_or (functions_in bytes at first n) k d ≡ function_in bytes at (entry_place bytes (first + k))
unfolding functions_in
function_at bytes at first zero k d lt = absurd (omega (lt, arith))
function_at bytes at first (suc n) zero d lt = let same : first ≡ first + 0 = omega arith in ap (λ i. function_in bytes at (entry_place bytes i)) same
function_at bytes at first (suc n) (suc k) d lt =
    let same : first + 1 + k ≡ first + suc k = omega arith in
    function_at bytes at (first + 1) n k d (omega (lt, arith)) ∙ ap (λ i. function_in bytes at (entry_place bytes i)) same

pub starts_at : (bytes : List ℕ) (at place : ℕ) → (function_in bytes at place).start ≡ raised_start bytes at place - 2147483648
unfolding function_in
starts_at bytes at place = refl

pub has_size : (bytes : List ℕ) (at place : ℕ) → (function_in bytes at place).size ≡ size_at bytes place
unfolding function_in
has_size bytes at place = refl

ends_before : (bytes : List ℕ) (at before place : ℕ) → order_check bytes at before place ≡ Ok tt → raised_start bytes at before + size_at bytes before ≤ raised_start bytes at place
unfolding order_check
ends_before bytes at before place e = le_if _ _ (unless_holds _ _ (both_pass _ _ e).1)

pub not_none : (i : ℕ) → 0 < i → IsTrue (not (i == 0))
not_none i some = search arith

follows : (bytes : List ℕ) (at i : ℕ) → IsTrue (is_sorted (flags_in bytes)) → 0 < i → follows_check bytes at i ≡ Ok tt
    → order_check bytes at (entry_place bytes (i - 1)) (entry_place bytes i) ≡ Ok tt
unfolding follows_check
follows bytes at i sorted some e = where_holds _ _ e (both_of _ _ sorted (not_none i some))

-- functions that are sorted
sorted_apart : (bytes : List ℕ) (at : ℕ) → section_check bytes at ≡ Ok tt → IsTrue (is_sorted (flags_in bytes))
    → AllAdjacentBelow (λ (f : Func) (g : Func). f.start + f.size ≤ g.start) (functions_in bytes at 0 (function_count_in bytes)) (length (functions_in bytes at 0 (function_count_in bytes)))
sorted_apart bytes at e sorted k d lt =
    let n : ℕ = function_count_in bytes in
    let len = functions_length bytes at 0 n in
    let within : k + 1 < n = omega (len, lt, arith) in
    let one = function_at bytes at 0 n k d (omega (within, arith)) in
    let two = function_at bytes at 0 n (k + 1) d within in
    let place : ℕ = entry_place bytes (0 + k) in
    let next : ℕ = entry_place bytes (0 + (k + 1)) in
    let here : EntryPassed bytes at (0 + (k + 1)) = entry_passed bytes at (0 + (k + 1)) (entry_passes bytes at (0 + (k + 1)) e (omega (within, arith))) in
    let before : EntryPassed bytes at (0 + k) = entry_passed bytes at (0 + k) (entry_passes bytes at (0 + k) e (omega (within, arith))) in
    let order = follows bytes at (0 + (k + 1)) sorted (omega arith) here.follows in
    let prior : 0 + (k + 1) - 1 ≡ 0 + k = omega arith in
    let apart = ends_before bytes at place next (ap (λ i. order_check bytes at (entry_place bytes i) next) (sym prior) ∙ order) in
    let low = (fields_passed bytes at place before.fields).low in
    rw (one, two)
    (let a = starts_at bytes at place in
    let b = starts_at bytes at next in
    let c = has_size bytes at place in
    omega (a, b, c, apart, low, arith))

-- the header
other_abi : (abi : ℕ) (t : Bool) → (abi == 2) ≡ t → IsTrue (t || false) → abi ≡ 2
other_abi abi true e p = eq_if abi 2 e
other_abi abi false e p = absurd (not_true p)

pub abi_by : (abi : ℕ) (t : Bool) → (abi == 3) ≡ t → IsTrue ((abi == 2) || t) → abi ≡ abi_number (if t then Amd64 else Aarch64)
abi_by abi true e p = eq_if abi 3 e
abi_by abi false e p = other_abi abi (abi == 2) refl p

pub at_most : (m n high : ℕ) → m ≡ n → n ≤ high → m ≤ high
at_most m n high e le = omega (e, le, arith)

within_by : (place m n high : ℕ) → m ≡ n → place + 20 * n ≤ high → place + 20 * m ≤ high
within_by place m n high e le = omega (e, le, arith)

pub header_stands : (bytes : List ℕ) (at : ℕ) → section_check bytes at ≡ Ok tt → IsHeader bytes (table_in bytes at)
unfolding header_check preamble_check machine_check layout_check
header_stands bytes at e =
    let n : ℕ = function_count_in bytes in
    let len : length (functions_in bytes at 0 n) ≡ n = functions_length bytes at 0 n in
    let rows : row_count (functions_in bytes at 0 n) ≡ row_count_in bytes = row_count_passed bytes at e in
    let outer = both_pass _ _ (passed bytes at e).header in
    let inner = both_pass _ _ outer.0 in
    let pre3 = both_pass _ _ inner.0 in
    let pre2 = both_pass _ _ pre3.0 in
    let pre1 = both_pass _ _ pre2.0 in
    let mac3 = both_pass _ _ inner.1 in
    let mac2 = both_pass _ _ mac3.0 in
    let mac1 = both_pass _ _ mac2.0 in
    let lay3 = both_pass _ _ outer.1 in
    let lay2 = both_pass _ _ lay3.0 in
    let lay1 = both_pass _ _ lay2.0 in
    let limit : function_count_in bytes ≤ 2 ^ 21 = le_if _ _ (unless_holds _ _ lay1.0) in
    let most : row_count_in bytes ≤ 2 ^ 24 = le_if _ _ (unless_holds _ _ lay1.1) in
    let functions : functions_place bytes + 20 * function_count_in bytes ≤ length bytes = le_if _ _ (unless_holds _ _ lay2.1) in
    record {
      magic = eq_if _ _ (unless_holds _ _ pre1.1);
      version = eq_if _ _ (unless_holds _ _ pre2.1);
      flags = refl;
      flags_known = lt_if _ _ (unless_holds _ _ pre3.1);
      abi = abi_by (slice_index bytes 4) (slice_index bytes 4 == 3) refl (unless_holds _ _ mac1.0);
      fixed_frame_pointer = eq_if _ _ (unless_holds _ _ mac1.1);
      fixed_return = eq_if _ _ (unless_holds _ _ mac2.1);
      function_count = sym len;
      function_limit = at_most _ _ _ len limit;
      rows = sym rows;
      row_limit = at_most _ _ _ rows most;
      header_within = le_if _ _ (unless_holds _ _ mac3.1);
      functions_within = within_by (functions_place bytes) _ _ (length bytes) len functions;
      rows_within = le_if _ _ (unless_holds _ _ lay3.1);
    }

-- bytes in which no check fails are a section of what they describe
pub section_stands : (bytes : List ℕ) (at : ℕ) → AreBytes bytes → section_check bytes at ≡ Ok tt → Section bytes at (table_in bytes at)
section_stands bytes at all e =
    let first : entry_place bytes 0 ≡ functions_place bytes = omega arith in
    record {
      header = header_stands bytes at e;
      functions = subst (λ p. FunctionsStand (arch_in bytes) bytes (flags_in bytes) at p (functions_in bytes at 0 (function_count_in bytes))) first
          (functions_stand bytes at 0 (function_count_in bytes) all (passed bytes at e).entries);
      sorted = sorted_apart bytes at e;
    }
