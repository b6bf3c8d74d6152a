-- No check of a section fails.
use Rattle.std.proofs.Common.{◌≡◌, ◌<◌, ◌≤◌, ℕ, zero, suc, ◌+◌, ◌-◌, ◌*◌, ◌/◌, ◌%◌, ◌^◌, Bool, true, false, IsTrue, List, [], ◌∷◌, length, Ok, ap, sym, subst, ◌∙◌, arith}
use Rattle.std.specs.Prelude.{◌||◌, not, if◌then◌else◌, ◌==◌, slice_index, get_or}
use Rattle.std.proofs.lemmas.List.Sums.{sum_by-cons}
use Rattle.byteorder.specs.Numbers.{little_from-lt}
use Rattle.sf_model.specs.declared.machine.Arch.{Arch}
use Rattle.sf_model.specs.declared.machine.Arch.TheVariants.{Amd64, Aarch64}
use Rattle.sf_model.specs.declared.machine.Key.{Key}
use Rattle.sf_model.specs.declared.machine.Key.TheVariants.{A, B}
use Rattle.sf_model.specs.declared.function.Shape.{Shape}
use Rattle.sf_model.specs.declared.function.Shape.TheVariants.{Plain, Repeat}
use Rattle.sf_model.specs.declared.function.Func.{Func}
use Rattle.sf_model.specs.declared.rows.Row.{Row}
use Rattle.sf_model.specs.Function.{key_fits}
use Rattle.sf_model.specs.Table.{Table, row_count}
use Rattle.sf_model.specs.Section.{AreBytes, number_in, rows_place, functions_place, row_bytes_of, fixed_return_byte, abi_number, is_sorted, start_origin, start_width_at, row_offset_at, shape_number, key_number, IsRepeatSize, IsHeader, EntryStands, FunctionRowsStand, FunctionsStand, Section}
use Rattle.sf_decode.specs.Checking.{Check, each_from, sum_from}
use Rattle.sf_decode.specs.Entry.{flags_in, arch_in, entry_place, size_at, info_at, repeat_size_at, raised_start, is_repeated, key_in, is_known_info, has_repeat_size, is_in_memory, order_check, entry_rows_check, entry_fields_check, follows_check, entry_check}
use Rattle.sf_decode.specs.Row.{rows_check}
use Rattle.sf_decode.specs.Header.{function_count_in, row_count_in, is_known_abi, preamble_check, machine_check, layout_check, header_check}
use Rattle.sf_decode.specs.Decoding.{rows_of_entry, count_check, section_check}
use Rattle.sf_decode.proofs.Holds.{behind, holds, where_passes, both_of, first_of, second_of, if_le, if_lt, if_eq, not_eq, or_right}
use Rattle.sf_decode.proofs.Loops.{each_from-none, each_from-suc, sum_from-none, sum_from-suc}
use Rattle.sf_decode.proofs.RowsFound.{BeginsFrom, rows_pass}
use Rattle.sf_decode.proofs.Starts.{raised_of_signed}

-- the entry with a number
stands_at : (arch : Arch) (bytes : List ℕ) (flags at place : ℕ) (fs : List Func) (k : ℕ) (d : Func) → FunctionsStand arch bytes flags at place fs → k < length fs
    → EntryStands arch bytes (start_origin flags at (place + 20 * k)) (place + 20 * k) (get_or fs k d) × FunctionRowsStand arch bytes (place + 20 * k) (get_or fs k d)
stands_at arch bytes flags at place [] k d s lt = absurd (omega (lt, arith))
stands_at arch bytes flags at place (f ∷ fs) zero d s lt =
    let same : place ≡ place + 20 * 0 = omega arith in
    subst (λ p. EntryStands arch bytes (start_origin flags at p) p f × FunctionRowsStand arch bytes p f) same (s.0, s.1)
stands_at arch bytes flags at place (f ∷ fs) (suc k) d s lt =
    let same : place + 20 + 20 * k ≡ place + 20 * suc k = omega arith in
    subst (λ p. EntryStands arch bytes (start_origin flags at p) p (get_or fs k d) × FunctionRowsStand arch bytes p (get_or fs k d)) same
    (stands_at arch bytes flags at (place + 20) fs k d s.2 (omega (lt, arith)))

-- the start of an entry by the standard
raised : (arch : Arch) (bytes : List ℕ) (at place : ℕ) (f : Func) → AreBytes bytes → EntryStands arch bytes (start_origin (flags_in bytes) at place) place f
    → raised_start bytes at place ≡ f.start + 2147483648
unfolding raised_start
raised arch bytes at place f all e =
    sym (raised_of_signed f.start (start_origin (flags_in bytes) at place) (number_in 4 place bytes) (little_from-lt place 4 bytes all) e.start)

-- the parts of an info byte
pub shape_small : (s : Shape) → shape_number s ≤ 1
shape_small Plain = omega arith
shape_small (Repeat size) = omega arith

pub key_small : (k : Key) → key_number k ≤ 1
key_small A = omega arith
key_small B = omega arith

pub key_told : (key : Key) (info s : ℕ) → s ≤ 1 → info / 16 ≡ s + 2 * key_number key → key_in info ≡ key
key_told A info s small e = let test : (info / 32 % 2 == 0) ≡ true = if_eq (info / 32 % 2) 0 (omega (small, e, arith)) in ap (λ t. if t then A else B) test
key_told B info s small e = let test : (info / 32 % 2 == 0) ≡ false = not_eq (info / 32 % 2) 0 (omega (small, e, arith)) in ap (λ t. if t then A else B) test

pub repeat_told : (shape : Shape) (info k byte : ℕ) → info / 16 ≡ shape_number shape + 2 * k → IsRepeatSize shape byte → IsTrue (has_repeat_size info byte)
repeat_told Plain info k byte e r =
    let test : (info / 16 % 2 == 1) ≡ false = not_eq (info / 16 % 2) 1 (omega (e, arith)) in
    ap (λ t. not t || not (byte == 0)) test
repeat_told (Repeat size) info k byte e r =
    let some : (byte == 0) ≡ false = not_eq byte 0 (omega (r.0, r.1, arith)) in
    or_right (not (is_repeated info)) (not (byte == 0)) (ap not some)

-- an entry by the standard passes its checks
fields_pass : (bytes : List ℕ) (at place : ℕ) (f : Func) → AreBytes bytes → EntryStands (arch_in bytes) bytes (start_origin (flags_in bytes) at place) place f
    → entry_fields_check bytes at place ≡ Ok tt
unfolding entry_fields_check is_in_memory
fields_pass bytes at place f all e =
    let info : ℕ = info_at bytes place in
    let shape = shape_small f.shape in
    let key = key_small f.key in
    let few : info < 64 = omega (shape, key, e.info, arith) in
    let key_is : key_in info ≡ f.key = key_told f.key info (shape_number f.shape) shape e.info in
    let known : IsTrue (is_known_info (arch_in bytes) info) = both_of _ _ (if_lt info 64 few) (subst (λ k. IsTrue (key_fits (arch_in bytes) k)) (sym key_is) e.key) in
    let start = raised (arch_in bytes) bytes at place f all e in
    let size : size_at bytes place ≡ f.size = e.size in
    let low : 2 ^ 31 ≤ raised_start bytes at place = omega (start, arith) in
    let high : raised_start bytes at place < 2 ^ 64 + 2 ^ 31 = omega (start, e.start_below, arith) in
    let end : raised_start bytes at place + size_at bytes place ≤ 2 ^ 64 + 2 ^ 31 = omega (start, size, e.end, arith) in
    behind _ _ (behind _ _ (behind _ _ (holds _ _ (if_le _ _ e.start_width)) (holds _ _ known)) (holds _ _ (repeat_told f.shape info (key_number f.key) (repeat_size_at bytes place) e.info e.repeat_size)))
    (holds _ _ (both_of _ _ (both_of _ _ (if_le _ _ low) (if_lt _ _ high)) (if_le _ _ end)))

pub begins_from_none : (rows : List Row) → BeginsFrom 0 rows
begins_from_none [] = tt
begins_from_none (row ∷ rows) = omega arith

abbrev rows_check_of : List ℕ → (place count : ℕ) → Check
rows_check_of bytes place count = rows_check (arch_in bytes) (row_bytes_of bytes) (rows_place bytes) (start_width_at bytes place) (row_offset_at bytes place) 0 count

entry_rows_pass : (bytes : List ℕ) (origin place : ℕ) (f : Func) → EntryStands (arch_in bytes) bytes origin place f → FunctionRowsStand (arch_in bytes) bytes place f
    → entry_rows_check bytes place ≡ Ok tt
unfolding entry_rows_check
entry_rows_pass bytes origin place f e r =
    ap (rows_check_of bytes place) e.row_count
    ∙ rows_pass (arch_in bytes) (row_bytes_of bytes) (rows_place bytes) (start_width_at bytes place) (row_offset_at bytes place) 0 r.0 f.rows r.1 e.rows_rise (begins_from_none f.rows)

order_passes : (bytes : List ℕ) (at before place : ℕ) (f g : Func) → AreBytes bytes → EntryStands (arch_in bytes) bytes (start_origin (flags_in bytes) at before) before f
    → EntryStands (arch_in bytes) bytes (start_origin (flags_in bytes) at place) place g → f.start + f.size ≤ g.start → order_check bytes at before place ≡ Ok tt
unfolding order_check
order_passes bytes at before place f g all x y apart =
    let first = raised (arch_in bytes) bytes at before f all x in
    let second = raised (arch_in bytes) bytes at place g all y in
    let size : size_at bytes before ≡ f.size = x.size in
    let starts : raised_start bytes at before ≤ raised_start bytes at place = omega (first, second, apart, arith) in
    let ends : raised_start bytes at before + size_at bytes before ≤ raised_start bytes at place = omega (first, second, size, apart, arith) in
    behind _ _ (holds _ _ (if_le _ _ starts)) (holds _ _ (if_le _ _ ends))

-- the same check of each of `n` items
each_of : (first n : ℕ) (check : ℕ → Check) → ((k : ℕ) → k < n → check (first + k) ≡ Ok tt) → each_from first n check ≡ Ok tt
each_of first zero check f = each_from-none first check
each_of first (suc n) check f =
    let same : first ≡ first + 0 = omega arith in
    let here : check first ≡ Ok tt = ap check same ∙ f 0 (omega arith) in
    let later = each_of (first + 1) n check (λ k lt. let moved : first + 1 + k ≡ first + suc k = omega arith in ap check moved ∙ f (suc k) (omega (lt, arith))) in
    each_from-suc first n check ∙ behind _ _ here later

-- the entries have as many rows as the functions
rows_summed : (arch : Arch) (bytes : List ℕ) (flags at first : ℕ) (fs : List Func) → FunctionsStand arch bytes flags at (entry_place bytes first) fs
    → sum_from first (length fs) (rows_of_entry bytes) ≡ row_count fs
unfolding rows_of_entry
rows_summed arch bytes flags at first [] s = sum_from-none first (rows_of_entry bytes)
rows_summed arch bytes flags at first (f ∷ fs) s =
    let next : entry_place bytes first + 20 ≡ entry_place bytes (first + 1) = omega arith in
    let later = rows_summed arch bytes flags at (first + 1) fs (subst (λ p. FunctionsStand arch bytes flags at p fs) next s.2) in
    let here : rows_of_entry bytes first ≡ length f.rows = s.0.row_count in
    let split = sum_from-suc first (length fs) (rows_of_entry bytes) in
    let sum : row_count (f ∷ fs) ≡ length f.rows + row_count fs = sum_by-cons (λ (g : Func). length g.rows) f fs in
    split ∙ (omega (here, later, arith) ∙ sym sum)

-- the header
pub arch_told : (bytes : List ℕ) (arch : Arch) → slice_index bytes 4 ≡ abi_number arch → arch_in bytes ≡ arch
arch_told bytes Amd64 e = ap (λ (t : Bool). if t then Amd64 else Aarch64) (if_eq (slice_index bytes 4) 3 e)
arch_told bytes Aarch64 e = ap (λ (t : Bool). if t then Amd64 else Aarch64) (not_eq (slice_index bytes 4) 3 (omega (e, arith)))

pub abi_known : (abi : ℕ) (arch : Arch) → abi ≡ abi_number arch → IsTrue (is_known_abi abi)
abi_known abi Amd64 e = or_right (abi == 2) (abi == 3) (if_eq abi 3 e)
abi_known abi Aarch64 e = ap (λ t. t || (abi == 3)) (if_eq abi 2 e)

header_passes : (bytes : List ℕ) (t : Table) → arch_in bytes ≡ t.arch → IsHeader bytes t → header_check bytes ≡ Ok tt
unfolding header_check preamble_check machine_check layout_check
header_passes bytes t arch h =
    let long : 28 ≤ length bytes = omega (h.header_within, arith) in
    let flags : slice_index bytes 3 < 8 = omega (h.flags, h.flags_known, arith) in
    let fixed : slice_index bytes 6 ≡ fixed_return_byte (arch_in bytes) = h.fixed_return ∙ ap fixed_return_byte (sym arch) in
    let count : function_count_in bytes ≤ 2 ^ 21 = omega (h.function_count, h.function_limit, arith) in
    let rows : row_count_in bytes ≤ 2 ^ 24 = omega (h.rows, h.row_limit, arith) in
    let functions : functions_place bytes + 20 * function_count_in bytes ≤ length bytes = omega (h.function_count, h.functions_within, arith) in
    let preamble : preamble_check bytes ≡ Ok tt = behind _ _ (behind _ _ (behind _ _ (holds _ _ (if_le _ _ long)) (holds _ _ (if_eq _ _ h.magic))) (holds _ _ (if_eq _ _ h.version))) (holds _ _ (if_lt _ _ flags)) in
    let machine : machine_check bytes ≡ Ok tt =
    behind _ _ (behind _ _ (behind _ _ (holds _ _ (abi_known (slice_index bytes 4) t.arch h.abi)) (holds _ _ (if_eq _ _ h.fixed_frame_pointer))) (holds _ _ (if_eq _ _ fixed))) (holds _ _ (if_le _ _ h.header_within)) in
    let layout : layout_check bytes ≡ Ok tt =
    behind _ _ (behind _ _ (behind _ _ (holds _ _ (if_le _ _ count)) (holds _ _ (if_le _ _ rows))) (holds _ _ (if_le _ _ functions))) (holds _ _ (if_le _ _ h.rows_within)) in
    behind _ _ (behind _ _ preamble machine) layout

-- a function, whichever
abbrev nothing : Func
nothing = record { start = 0; size = 0; shape = Plain; key = A; rows = [] }

pub some_if : (i : ℕ) → IsTrue (not (i == 0)) → 0 < i
some_if i e = search arith

-- the order of an entry after another one
order_of : (bytes : List ℕ) (at : ℕ) (t : Table) → AreBytes bytes → Section bytes at t → FunctionsStand (arch_in bytes) bytes (flags_in bytes) at (functions_place bytes) t.functions
    → (i : ℕ) → i < length t.functions → IsTrue (is_sorted (flags_in bytes)) → IsTrue (not (i == 0)) → order_check bytes at (entry_place bytes (i - 1)) (entry_place bytes i) ≡ Ok tt
order_of bytes at t all s stand i lt sorted follows =
    let some = some_if i follows in
    let here = stands_at (arch_in bytes) bytes (flags_in bytes) at (functions_place bytes) t.functions i nothing stand lt in
    let before = stands_at (arch_in bytes) bytes (flags_in bytes) at (functions_place bytes) t.functions (i - 1) nothing stand (omega (lt, arith)) in
    let next : i - 1 + 1 ≡ i = omega (some, arith) in
    let apart = s.sorted (subst (λ f. IsTrue (is_sorted f)) s.header.flags sorted) (i - 1) nothing (omega (some, lt, arith)) in
    let after = subst (λ k. (get_or t.functions (i - 1) nothing).start + (get_or t.functions (i - 1) nothing).size ≤ (get_or t.functions k nothing).start) next apart in
    order_passes bytes at (entry_place bytes (i - 1)) (entry_place bytes i) (get_or t.functions (i - 1) nothing) (get_or t.functions i nothing) all before.0 here.0 after

-- an entry of a section
entry_passes : (bytes : List ℕ) (at : ℕ) (t : Table) → AreBytes bytes → Section bytes at t → FunctionsStand (arch_in bytes) bytes (flags_in bytes) at (functions_place bytes) t.functions
    → (i : ℕ) → i < length t.functions → entry_check bytes at i ≡ Ok tt
unfolding entry_check follows_check
entry_passes bytes at t all s stand i lt =
    let here = stands_at (arch_in bytes) bytes (flags_in bytes) at (functions_place bytes) t.functions i nothing stand lt in
    behind _ _ (behind _ _ (fields_pass bytes at (entry_place bytes i) (get_or t.functions i nothing) all here.0)
    (where_passes _ _ (λ follows. order_of bytes at t all s stand i lt (first_of _ _ follows) (second_of _ _ follows))))
    (entry_rows_pass bytes (start_origin (flags_in bytes) at (entry_place bytes i)) (entry_place bytes i) (get_or t.functions i nothing) here.0 here.1)

-- every section passes every check
pub section_passes : (bytes : List ℕ) (at : ℕ) (t : Table) → AreBytes bytes → Section bytes at t → section_check bytes at ≡ Ok tt
unfolding section_check count_check
section_passes bytes at t all s =
    let arch : arch_in bytes ≡ t.arch = arch_told bytes t.arch s.header.abi in
    let flags : flags_in bytes ≡ t.flags = s.header.flags in
    let stand : FunctionsStand (arch_in bytes) bytes (flags_in bytes) at (functions_place bytes) t.functions =
    subst (λ a. FunctionsStand a bytes (flags_in bytes) at (functions_place bytes) t.functions) (sym arch)
    (subst (λ f. FunctionsStand t.arch bytes f at (functions_place bytes) t.functions) (sym flags) s.functions) in
    let first : functions_place bytes ≡ entry_place bytes 0 = omega arith in
    let summed = rows_summed (arch_in bytes) bytes (flags_in bytes) at 0 t.functions (subst (λ p. FunctionsStand (arch_in bytes) bytes (flags_in bytes) at p t.functions) first stand) in
    let count : sum_from 0 (function_count_in bytes) (rows_of_entry bytes) ≡ row_count_in bytes =
    ap (λ n. sum_from 0 n (rows_of_entry bytes)) s.header.function_count ∙ (summed ∙ sym s.header.rows) in
    let each : each_from 0 (function_count_in bytes) (entry_check bytes at) ≡ Ok tt =
    each_of 0 (function_count_in bytes) (entry_check bytes at)
    (λ k lt. let same : 0 + k ≡ k = omega arith in ap (entry_check bytes at) same ∙ entry_passes bytes at t all s stand k (omega (s.header.function_count, lt, arith))) in
    behind _ _ (behind _ _ (header_passes bytes t arch s.header) (holds _ _ (if_eq _ _ count))) each
