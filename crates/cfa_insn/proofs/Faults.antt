-- The fault of an instruction that can't be read is the one that its bytes have, and they have at most one.
use Rattle.std.proofs.Common.{◌≡◌, ℕ, ℤ, ◌%◌, ◌<◌, Bool, true, false, cond, List, [], length, Option, Some, None, Result, Ok, Err, refl, sym, ap, subst, ◌∙◌, arith}
use Rattle.std.specs.Prelude.{◌==◌, nat_lt}
use Rattle.sf_bytes.specs.declared.fault.ByteFault.{ByteFault}
use Rattle.sf_bytes.specs.declared.fault.ByteFault.TheVariants as bytes
use Rattle.sf_bytes.specs.Cursor.{Cursor, Read, number_at, part_at}
use Rattle.sf_bytes.specs.Leb.{sleb_at, uleb_at}
use Rattle.sf_bytes.specs.Standing.{Stands, Number}
use Rattle.sf_bytes.proofs.Fields.{bind_ok, number_again, number_takes, ok_is}
use Rattle.cfa_insn.specs.declared.fault.InsnFault.{InsnFault}
use Rattle.cfa_insn.specs.declared.fault.InsnFault.TheVariants.{Opcode, Short, Leb}
use Rattle.cfa_insn.specs.Instruction.{Instruction, advance_loc, offset, restore, nop, advance_loc_n, offset_extended, restore_extended, undefined, same_value, in_register, remember_state, restore_state, def_cfa, def_cfa_register, def_cfa_offset, def_cfa_expression, expression, offset_extended_sf, def_cfa_sf, def_cfa_offset_sf, val_offset, val_offset_sf, val_expression, negate_ra_state, args_size}
use Rattle.cfa_insn.specs.Spelling.{CanGoOn, HasOpcode, IsFault, IsOpcode, with_more}
use Rattle.cfa_insn.specs.Table.{Found, after_opcode, block_at, extended_at, instruction_at, of_block, of_number, of_sleb, of_two_ulebs, of_uleb, of_uleb_and_block, of_uleb_and_sleb, operands_at, or_fault, plain}
use Rattle.cfa_insn.proofs.MoreBytes.{Reader, gives_some, got, in_turn, number_reads, number_there, part_reads, pure, pure_reads, sleb_reads, stopped, turn_reads, uleb_reads}
use Rattle.cfa_insn.proofs.Spelled.{operands_decode, operands_read}

-- ---- the rows of the table
-- a reader of operands, which gives an instruction
record Row (read : Cursor → Found) : Type 0 where
  reads : Reader read
  some : (at : Cursor) (x : Option Instruction) (to : Cursor) → read at ≡ got x to → (i : Instruction) × (x ≡ Some i)

data InTable (read : Cursor → Found) : Type 0 where
  row : Row read → InTable read
  no_row : ((at : Cursor) → read at ≡ got None at) → InTable read

plain_row : (i : Instruction) → Row (plain i)
plain_row i = record {
  reads = pure_reads (Some i);
  some = λ at x to e. let pair : (Some i, at) ≡ (x, to) = ok_is _ _ e in (i, sym (ap (λ (t : Option Instruction × Cursor). t.0) pair));
}

turn_row : {X : Type 0} (first : Cursor → Read X) (second : X → Cursor → Found) → Reader first → ((x : X) → Row (second x)) → Row (in_turn first second)
turn_row first second f s = record {
  reads = turn_reads first second f (λ x. (s x).reads);
  some = λ at x to e. let y = bind_ok (first at) (λ z. second z.0 z.1) (x, to) e in (s y.0.0).some y.0.1 x to y.2;
}

block_reads : Reader block_at
unfolding block_at
block_reads = turn_reads uleb_at (λ n. in_turn (part_at n) (λ run. pure run.left)) uleb_reads (λ n. turn_reads (part_at n) (λ run. pure run.left) (part_reads n) (λ run. pure_reads run.left))

number_row : (n : ℕ) (make : ℕ → Instruction) → Row (of_number n make)
number_row n make = turn_row (number_at n) (λ x. plain (make x)) (number_reads n) (λ x. plain_row (make x))

uleb_row : (make : ℕ → Instruction) → Row (of_uleb make)
uleb_row make = turn_row uleb_at (λ x. plain (make x)) uleb_reads (λ x. plain_row (make x))

sleb_row : (make : ℤ → Instruction) → Row (of_sleb make)
sleb_row make = turn_row sleb_at (λ z. plain (make z)) sleb_reads (λ z. plain_row (make z))

block_row : (make : List ℕ → Instruction) → Row (of_block make)
block_row make = turn_row block_at (λ b. plain (make b)) block_reads (λ b. plain_row (make b))

two_row : (make : ℕ → ℕ → Instruction) → Row (of_two_ulebs make)
two_row make = turn_row uleb_at (λ x. of_uleb (make x)) uleb_reads (λ x. uleb_row (make x))

signed_row : (make : ℕ → ℤ → Instruction) → Row (of_uleb_and_sleb make)
signed_row make = turn_row uleb_at (λ x. of_sleb (make x)) uleb_reads (λ x. sleb_row (make x))

with_block_row : (make : ℕ → List ℕ → Instruction) → Row (of_uleb_and_block make)
with_block_row make = turn_row uleb_at (λ x. of_block (make x)) uleb_reads (λ x. block_row (make x))

either : (b : Bool) (f g : Cursor → Found) → InTable f → InTable g → InTable (cond b f g)
either true f g p q = p
either false f g p q = q

or_else : (b : Bool) (f g : Cursor → Found) → Row f → InTable g → InTable (cond b f g)
or_else b f g p q = either b f g (row p) q

extended_row : (op : ℕ) → InTable (extended_at op)
unfolding extended_at
extended_row op =
    or_else (op == 0x00) _ _ (plain_row nop) (
    or_else (op == 0x02) _ _ (number_row 1 advance_loc_n) (
    or_else (op == 0x03) _ _ (number_row 2 advance_loc_n) (
    or_else (op == 0x04) _ _ (number_row 4 advance_loc_n) (
    or_else (op == 0x05) _ _ (two_row offset_extended) (
    or_else (op == 0x06) _ _ (uleb_row restore_extended) (
    or_else (op == 0x07) _ _ (uleb_row undefined) (
    or_else (op == 0x08) _ _ (uleb_row same_value) (
    or_else (op == 0x09) _ _ (two_row in_register) (
    or_else (op == 0x0a) _ _ (plain_row remember_state) (
    or_else (op == 0x0b) _ _ (plain_row restore_state) (
    or_else (op == 0x0c) _ _ (two_row def_cfa) (
    or_else (op == 0x0d) _ _ (uleb_row def_cfa_register) (
    or_else (op == 0x0e) _ _ (uleb_row def_cfa_offset) (
    or_else (op == 0x0f) _ _ (block_row def_cfa_expression) (
    or_else (op == 0x10) _ _ (with_block_row expression) (
    or_else (op == 0x11) _ _ (signed_row offset_extended_sf) (
    or_else (op == 0x12) _ _ (signed_row def_cfa_sf) (
    or_else (op == 0x13) _ _ (sleb_row def_cfa_offset_sf) (
    or_else (op == 0x14) _ _ (two_row val_offset) (
    or_else (op == 0x15) _ _ (signed_row val_offset_sf) (
    or_else (op == 0x16) _ _ (with_block_row val_expression) (
    or_else (op == 0x2d) _ _ (plain_row negate_ra_state) (
    or_else (op == 0x2e) _ _ (uleb_row args_size) (
    no_row (λ at. refl)))))))))))))))))))))))))

operands_row : (op : ℕ) → InTable (operands_at op)
unfolding operands_at
operands_row op =
    either (nat_lt op 0x40) _ _ (extended_row op) (
    or_else (nat_lt op 0x80) _ _ (plain_row (advance_loc (op % 64))) (
    or_else (nat_lt op 0xc0) _ _ (uleb_row (offset (op % 64))) (
    row (plain_row (restore (op % 64))))))

-- ---- the byte at the front
read_there : (opcode : ℕ) (at after : Cursor) → Stands (Number 1) opcode at after → number_at 1 at ≡ got opcode after
read_there opcode at after byte = number_again 1 at opcode after byte

read_more : (opcode : ℕ) (at after : Cursor) (more : List ℕ) → Stands (Number 1) opcode at after → number_at 1 (with_more at more) ≡ got opcode (with_more after more)
read_more opcode at after more byte = (number_reads 1).stays at more opcode after (read_there opcode at after byte)

record Same (one other : ℕ) (from to : Cursor) : Type 0 where
  opcode : one ≡ other
  cursor : from ≡ to

same_byte : (at : Cursor) (one other : ℕ) (from to : Cursor) → number_at 1 at ≡ got one from → number_at 1 at ≡ got other to → Same one other from to
same_byte at one other from to e f =
    let pair : (one, from) ≡ (other, to) = ok_is _ _ (sym e ∙ f) in
    record { opcode = ap (λ (t : ℕ × Cursor). t.0) pair; cursor = ap (λ (t : ℕ × Cursor). t.1) pair }

one_opcode : (at : Cursor) (one other : ℕ) → HasOpcode at one → HasOpcode at other → one ≡ other
one_opcode at one other (from, p) (to, q) = (same_byte at one other from to (read_there one at from p) (read_there other at to q)).opcode

-- bytes that more bytes can complete have an opcode of the table
has_row : (at : Cursor) (opcode : ℕ) → HasOpcode at opcode → CanGoOn at → IsOpcode opcode
has_row at opcode (after, byte) (more, i, to, (other, between, front, operands)) =
    let same = same_byte (with_more at more) other opcode between (with_more after more) (read_there other (with_more at more) between front) (read_more opcode at after more byte) in
    subst IsOpcode same.opcode (i, between, to, operands)

-- ---- the fault that is read is the one of the bytes
abbrev refused : InsnFault → Result (Instruction × Cursor) InsnFault
refused e = Err e

fault_same : (d e : InsnFault) → refused d ≡ refused e → d ≡ e
fault_same d e h = cc

not_in_table : (at : Cursor) (opcode : ℕ) (after : Cursor) → Stands (Number 1) opcode at after → ((from : Cursor) → operands_at opcode from ≡ got None from) → IsFault at (Opcode at.place opcode)
not_in_table at opcode after byte none = (refl, (after, byte), no)
  where
    gives : Found → Bool
    gives (Ok (Some i, to)) = true
    gives found = false

    clash : (i : Instruction) (from to : Cursor) → got None from ≡ got (Some i) to → ⊥
    clash i from to e = let other : false ≡ true = ap gives e in cc

    no : IsOpcode opcode → ⊥
    no (i, from, to, s) = clash i from to (sym (none from) ∙ operands_read opcode i from to s)

ends_inside : (at : Cursor) (opcode : ℕ) (after : Cursor) (p : ℕ) → Stands (Number 1) opcode at after → Row (operands_at opcode) → operands_at opcode after ≡ stopped (bytes.Short p) → IsFault at (Short at.place)
ends_inside at opcode after p byte r e =
    let t = r.reads.ends after p e in
    let i = r.some (with_more after t.more) t.value t.to t.is in
    let is = t.is ∙ ap (λ (x : Option Instruction). got x t.to) i.1 in
    let front = number_takes 1 (with_more at t.more) opcode (with_more after t.more) (read_more opcode at after t.more byte) in
    (refl, (t.more, i.0, t.to, (opcode, with_more after t.more, front, (operands_decode opcode).stands (with_more after t.more) i.0 t.to is)))

no_number : (at : Cursor) (opcode : ℕ) (after : Cursor) (p : ℕ) → Stands (Number 1) opcode at after → Row (operands_at opcode) → operands_at opcode after ≡ stopped (bytes.Leb p) → IsFault at (Leb at.place)
no_number at opcode after p byte r e =
    let t = gives_some (operands_at opcode) r.reads in
    let i = r.some (with_more (record { place = 0; left = [] }) t.more) t.value t.to t.is in
    let is = t.is ∙ ap (λ (x : Option Instruction). got x t.to) i.1 in
    (refl, (opcode, (after, byte), (i.0, with_more (record { place = 0; left = [] }) t.more, t.to, (operands_decode opcode).stands (with_more (record { place = 0; left = [] }) t.more) i.0 t.to is)), no)
  where
    clash : (j : Instruction) (to : Cursor) (d : ByteFault) → stopped d ≡ got (Some j) to → ⊥
    clash j to d h = cc

    no : CanGoOn at → ⊥
    no (more, j, to, (other, between, front, operands)) =
        let same = same_byte (with_more at more) other opcode between (with_more after more) (read_there other (with_more at more) between front) (read_more opcode at after more byte) in
        let read = operands_read other j between to operands in
        let here : operands_at opcode (with_more after more) ≡ got (Some j) to =
        subst (λ (c : Cursor). operands_at opcode c ≡ got (Some j) to) same.cursor (subst (λ (o : ℕ). operands_at o between ≡ got (Some j) to) same.opcode read) in
        clash j to (bytes.Leb p) (sym (r.reads.lasts after more p e) ∙ here)

by_row : (at : Cursor) (opcode : ℕ) (after : Cursor) (found : Found) (e : InsnFault) → Stands (Number 1) opcode at after → Row (operands_at opcode) → operands_at opcode after ≡ found → or_fault at.place opcode found ≡ Err e → IsFault at e
by_row at opcode after (Ok (Some i, to)) e byte r is h = absurd cc
by_row at opcode after (Ok (None, to)) e byte r is h = let i = r.some after None to is in absurd (let clash : None ≡ Some i.0 = i.1 in cc)
by_row at opcode after (Err (bytes.Short p)) e byte r is h = subst (IsFault at) (fault_same (Short at.place) e h) (ends_inside at opcode after p byte r is)
by_row at opcode after (Err (bytes.Leb p)) e byte r is h = subst (IsFault at) (fault_same (Leb at.place) e h) (no_number at opcode after p byte r is)

by_table : (at : Cursor) (opcode : ℕ) (after : Cursor) (e : InsnFault) → Stands (Number 1) opcode at after → InTable (operands_at opcode) → or_fault at.place opcode (operands_at opcode after) ≡ Err e → IsFault at e
by_table at opcode after e byte (row r) h = by_row at opcode after (operands_at opcode after) e byte r refl h
by_table at opcode after e byte (no_row none) h =
    subst (IsFault at) (fault_same (Opcode at.place opcode) e (sym (ap (or_fault at.place opcode) (none after)) ∙ h)) (not_in_table at opcode after byte none)

pub fault_stands : (at : Cursor) (e : InsnFault) → 0 < length at.left → instruction_at at ≡ Err e → IsFault at e
unfolding instruction_at
fault_stands at e some h =
    let front = number_there 1 at (omega (arith, some)) in
    by_table at _ _ e (number_takes 1 at _ _ front) (operands_row _) (sym (ap (after_opcode at.place) front) ∙ h)

-- ---- there is one
pub one_fault : (at : Cursor) (d e : InsnFault) → IsFault at d → IsFault at e → d ≡ e
one_fault at (Opcode p o) (Opcode q r) h k = ap (λ (n : ℕ). Opcode n o) (h.0 ∙ sym k.0) ∙ ap (λ (n : ℕ). Opcode q n) (one_opcode at o r h.1 k.1)
one_fault at (Opcode p o) (Short q) h k = absurd (h.2 (has_row at o h.1 k.1))
one_fault at (Opcode p o) (Leb q) h k = absurd (h.2 (subst IsOpcode (one_opcode at k.1.0 o k.1.1 h.1) k.1.2))
one_fault at (Short p) (Opcode q r) h k = absurd (k.2 (has_row at r k.1 h.1))
one_fault at (Short p) (Short q) h k = ap (λ (n : ℕ). Short n) (h.0 ∙ sym k.0)
one_fault at (Short p) (Leb q) h k = absurd (k.2 h.1)
one_fault at (Leb p) (Opcode q r) h k = absurd (k.2 (subst IsOpcode (one_opcode at h.1.0 r h.1.1 k.1) h.1.2))
one_fault at (Leb p) (Short q) h k = absurd (h.2 k.1)
one_fault at (Leb p) (Leb q) h k = ap (λ (n : ℕ). Leb n) (h.0 ∙ sym k.0)
