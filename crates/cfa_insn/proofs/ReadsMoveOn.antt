-- Each read leaves a cursor that is some bytes further on.
use Rattle.std.specs.Prelude.{◌==◌, nat_lt}
use Rattle.std.proofs.Common.{◌≡◌, ℕ, ℤ, ◌+◌, ◌%◌, Bool, true, false, cond, List, length, take, drop, ◌^◌, Some, None, Result, Ok, Err, refl, sym, ap, ◌∙◌, arith}
use Rattle.std.proofs.lemmas.List.{drop-drop}
use Rattle.sf_bytes.specs.declared.fault.ByteFault.{ByteFault}
use Rattle.sf_bytes.specs.declared.fault.ByteFault.TheVariants.{Short, Leb}
use Rattle.byteorder.specs.Endian.{little_number}
use Rattle.sf_bytes.specs.Cursor.{Cursor, Read, ◌>>=◌, past, number_at, part_at}
use Rattle.sf_bytes.specs.Leb.{uleb_at, sleb_at, run_length, leb_sum, leb_signed, fits_i64}
use Rattle.cfa_insn.specs.declared.fault.InsnFault.{InsnFault}
use Rattle.cfa_insn.specs.Instruction.{Instruction, advance_loc, offset, restore, nop, advance_loc_n, offset_extended, restore_extended, undefined, same_value, in_register, remember_state, restore_state, def_cfa, def_cfa_register, def_cfa_offset, def_cfa_expression, expression, offset_extended_sf, def_cfa_sf, def_cfa_offset_sf, val_offset, val_offset_sf, val_expression, negate_ra_state, args_size}
use Rattle.cfa_insn.specs.Table.{Found, block_at, plain, of_number, of_uleb, of_sleb, of_block, of_two_ulebs, of_uleb_and_sleb, of_uleb_and_block, extended_at, operands_at, or_fault, after_opcode, instruction_at}

-- `to` is some bytes after `from`
pub record IsBehind (from to : Cursor) : Type 0 where
  pub count : ℕ
  pub is : to ≡ past count from

past-past : (m n : ℕ) (at : Cursor) → past n (past m at) ≡ past (m + n) at
past-past m n at =
    let place : at.place + m + n ≡ at.place + (m + n) = omega arith in
    let left : drop n (drop m at.left) ≡ drop (m + n) at.left = drop-drop n m at.left in
    cc

further : (a b c : Cursor) → IsBehind a b → IsBehind b c → IsBehind a c
further a b c p q = record { count = p.count + q.count; is = q.is ∙ ap (past q.count) p.is ∙ past-past p.count q.count a }

here : (at : Cursor) → IsBehind at at
here at =
    let place : at.place + 0 ≡ at.place = omega arith in
    record { count = 0; is = ap (λ (p : ℕ). record { place = p; left = at.left }) (sym place) }

-- what a read leaves, if it read anything
abbrev pub Leaves : {X : Type 0} → Cursor → Read X → Type 0
Leaves at (Ok x) = IsBehind at x.1
Leaves at (Err e) = Unit {0}

leaves_unless : {X : Type 0} (n : ℕ) (at : Cursor) (b : Bool) (e : ByteFault) (x : X) → Leaves at (cond {A = Read X} b (Err e) (Ok (x, past n at)))
leaves_unless n at true e x = tt
leaves_unless n at false e x = record { count = n; is = refl }

leaves_if : {X : Type 0} (n : ℕ) (at : Cursor) (b : Bool) (e : ByteFault) (x : X) → Leaves at (cond {A = Read X} b (Ok (x, past n at)) (Err e))
leaves_if n at true e x = record { count = n; is = refl }
leaves_if n at false e x = tt

leaves_then : {X Y : Type 0} (at : Cursor) (read : Read X) (next : X × Cursor → Read Y) → Leaves at read → ((x : X × Cursor) → Leaves x.1 (next x)) → Leaves at (read >>= next)
leaves_then at (Ok x) next p q = leaves_after at x.1 (next x) p (q x)
  where
    leaves_after : {Y : Type 0} (at between : Cursor) (read : Read Y) → IsBehind at between → Leaves between read → Leaves at read
    leaves_after at between (Ok y) p q = further at between y.1 p q
    leaves_after at between (Err e) p q = tt
leaves_then at (Err e) next p q = tt

number_leaves : (n : ℕ) (at : Cursor) → Leaves at (number_at n at)
unfolding number_at
number_leaves n at = leaves_unless n at (nat_lt (length at.left) n) (Short at.place) (little_number n (take n at.left))

part_leaves : (n : ℕ) (at : Cursor) → Leaves at (part_at n at)
unfolding part_at
part_leaves n at = leaves_unless n at (nat_lt (length at.left) n) (Short at.place) (record { place = at.place; left = take n at.left })

length_leaves : {X : Type 0} (at : Cursor) (len : Result ℕ ByteFault) (next : ℕ → Read X) → ((n : ℕ) → Leaves at (next n)) → Leaves at (len >>= next)
length_leaves at (Ok n) next p = p n
length_leaves at (Err e) next p = tt

uleb_leaves : (at : Cursor) → Leaves at (uleb_at at)
unfolding uleb_at
uleb_leaves at = length_leaves at (run_length at.place 10 at.left) _ (λ n. leaves_if n at (nat_lt (leb_sum (take n at.left)) (2 ^ 64)) (Leb at.place) (leb_sum (take n at.left)))

sleb_leaves : (at : Cursor) → Leaves at (sleb_at at)
unfolding sleb_at
sleb_leaves at = length_leaves at (run_length at.place 10 at.left) _ (λ n. leaves_if n at (fits_i64 (leb_signed (take n at.left))) (Leb at.place) (leb_signed (take n at.left)))

block_leaves : (at : Cursor) → Leaves at (block_at at)
unfolding block_at
block_leaves at = leaves_then at (uleb_at at) _ (uleb_leaves at) (λ n. leaves_then n.1 (part_at n.0 n.1) _ (part_leaves n.0 n.1) (λ run. here run.1))

-- ---- the shapes of the table
record Moves (read : Cursor → Found) : Type 0 where
  leaves : (at : Cursor) → Leaves at (read at)

moves_or : (b : Bool) (f g : Cursor → Found) → Moves f → Moves g → Moves (cond b f g)
moves_or true f g p q = p
moves_or false f g p q = q

plain_moves : (i : Instruction) → Moves (plain i)
plain_moves i = record { leaves = λ at. here at }

number_moves : (n : ℕ) (make : ℕ → Instruction) → Moves (of_number n make)
number_moves n make = record { leaves = λ at. leaves_then at (number_at n at) _ (number_leaves n at) (λ x. here x.1) }

uleb_moves : (make : ℕ → Instruction) → Moves (of_uleb make)
uleb_moves make = record { leaves = λ at. leaves_then at (uleb_at at) _ (uleb_leaves at) (λ x. here x.1) }

sleb_moves : (make : ℤ → Instruction) → Moves (of_sleb make)
sleb_moves make = record { leaves = λ at. leaves_then at (sleb_at at) _ (sleb_leaves at) (λ x. here x.1) }

block_moves : (make : List ℕ → Instruction) → Moves (of_block make)
block_moves make = record { leaves = λ at. leaves_then at (block_at at) _ (block_leaves at) (λ x. here x.1) }

two_ulebs_move : (make : ℕ → ℕ → Instruction) → Moves (of_two_ulebs make)
two_ulebs_move make = record { leaves = λ at. leaves_then at (uleb_at at) _ (uleb_leaves at) (λ x. leaves_then x.1 (uleb_at x.1) _ (uleb_leaves x.1) (λ y. here y.1)) }

uleb_and_sleb_move : (make : ℕ → ℤ → Instruction) → Moves (of_uleb_and_sleb make)
uleb_and_sleb_move make = record { leaves = λ at. leaves_then at (uleb_at at) _ (uleb_leaves at) (λ x. leaves_then x.1 (sleb_at x.1) _ (sleb_leaves x.1) (λ y. here y.1)) }

uleb_and_block_move : (make : ℕ → List ℕ → Instruction) → Moves (of_uleb_and_block make)
uleb_and_block_move make = record { leaves = λ at. leaves_then at (uleb_at at) _ (uleb_leaves at) (λ x. leaves_then x.1 (block_at x.1) _ (block_leaves x.1) (λ y. here y.1)) }

none_moves : Moves (λ at. Ok (None, at))
none_moves = record { leaves = λ at. here at }

extended_moves : (op : ℕ) → Moves (extended_at op)
unfolding extended_at
extended_moves op =
    moves_or (op == 0x00) _ _ (plain_moves nop) (
    moves_or (op == 0x02) _ _ (number_moves 1 advance_loc_n) (
    moves_or (op == 0x03) _ _ (number_moves 2 advance_loc_n) (
    moves_or (op == 0x04) _ _ (number_moves 4 advance_loc_n) (
    moves_or (op == 0x05) _ _ (two_ulebs_move offset_extended) (
    moves_or (op == 0x06) _ _ (uleb_moves restore_extended) (
    moves_or (op == 0x07) _ _ (uleb_moves undefined) (
    moves_or (op == 0x08) _ _ (uleb_moves same_value) (
    moves_or (op == 0x09) _ _ (two_ulebs_move in_register) (
    moves_or (op == 0x0a) _ _ (plain_moves remember_state) (
    moves_or (op == 0x0b) _ _ (plain_moves restore_state) (
    moves_or (op == 0x0c) _ _ (two_ulebs_move def_cfa) (
    moves_or (op == 0x0d) _ _ (uleb_moves def_cfa_register) (
    moves_or (op == 0x0e) _ _ (uleb_moves def_cfa_offset) (
    moves_or (op == 0x0f) _ _ (block_moves def_cfa_expression) (
    moves_or (op == 0x10) _ _ (uleb_and_block_move expression) (
    moves_or (op == 0x11) _ _ (uleb_and_sleb_move offset_extended_sf) (
    moves_or (op == 0x12) _ _ (uleb_and_sleb_move def_cfa_sf) (
    moves_or (op == 0x13) _ _ (sleb_moves def_cfa_offset_sf) (
    moves_or (op == 0x14) _ _ (two_ulebs_move val_offset) (
    moves_or (op == 0x15) _ _ (uleb_and_sleb_move val_offset_sf) (
    moves_or (op == 0x16) _ _ (uleb_and_block_move val_expression) (
    moves_or (op == 0x2d) _ _ (plain_moves negate_ra_state) (
    moves_or (op == 0x2e) _ _ (uleb_moves args_size) (
    none_moves))))))))))))))))))))))))

operands_move : (op : ℕ) → Moves (operands_at op)
unfolding operands_at
operands_move op = moves_or (nat_lt op 0x40) _ _ (extended_moves op) (moves_or (nat_lt op 0x80) _ _ (plain_moves (advance_loc (op % 64))) (moves_or (nat_lt op 0xc0) _ _ (uleb_moves (offset (op % 64))) (plain_moves (restore (op % 64)))))

-- ---- a whole instruction
-- what was read is more than a byte
abbrev pub Passed : Cursor → Result (Instruction × Cursor) InsnFault → Type 0
Passed at (Ok x) = IsBehind (past 1 at) x.1
Passed at (Err e) = Unit {0}

or_fault_passes : (place op : ℕ) (at : Cursor) (found : Found) → Leaves (past 1 at) found → Passed at (or_fault place op found)
or_fault_passes place op at (Ok (Some i, after)) h = h
or_fault_passes place op at (Ok (None, after)) h = tt
or_fault_passes place op at (Err e) h = tt

opcode_passes : (place : ℕ) (at : Cursor) (b : Bool) (e : ByteFault) (op : ℕ) → Passed at (after_opcode place (cond b (Err e) (Ok (op, past 1 at))))
opcode_passes place at true e op = tt
opcode_passes place at false e op = or_fault_passes place op at (operands_at op (past 1 at)) ((operands_move op).leaves (past 1 at))

pub instruction_passes : (at : Cursor) → Passed at (instruction_at at)
unfolding instruction_at number_at
instruction_passes at = opcode_passes at.place at _ _ _
