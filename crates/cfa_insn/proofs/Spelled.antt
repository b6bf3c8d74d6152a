-- An instruction is read exactly where it is.
use Rattle.std.specs.Prelude.{◌==◌, nat_lt}
use Rattle.std.proofs.Common.{◌≡◌, ℕ, ℤ, ◌%◌, ◌<◌, ◌≤◌, Bool, true, false, cond, List, length, Option, Some, None, Result, Ok, Err, refl, sym, ap, subst, ◌∙◌, arith, inl, inr}
use Rattle.std.proofs.lemmas.Bool.{eqb-true, lt-ltb, le-ltb, ltb-true, ltb-false}
use Rattle.sf_bytes.specs.Cursor.{Cursor, Read, ◌>>=◌, number_at, part_at}
use Rattle.sf_bytes.specs.Leb.{Uleb, Sleb, uleb_at, sleb_at}
use Rattle.sf_bytes.specs.Standing.{Stands, Number, Bytes}
use Rattle.sf_bytes.proofs.Fields.{bind_ok, ok_is, number_takes, number_again, part_takes, part_again}
use Rattle.sf_bytes.proofs.Lebs.{uleb_takes, uleb_again, sleb_takes, sleb_again}
use Rattle.cfa_insn.specs.declared.fault.InsnFault.{InsnFault}
use Rattle.cfa_insn.specs.Instruction.{Instruction, advance_loc, offset, restore, nop, advance_loc_n, offset_extended, restore_extended, undefined, same_value, in_register, remember_state, restore_state, def_cfa, def_cfa_register, def_cfa_offset, def_cfa_expression, expression, offset_extended_sf, def_cfa_sf, def_cfa_offset_sf, val_offset, val_offset_sf, val_expression, negate_ra_state, args_size}
use Rattle.cfa_insn.specs.Spelling.{Block, WithUleb, WithSleb, WithBlock, OperandsStand, InstructionStands}
use Rattle.cfa_insn.specs.Table.{Found, block_at, plain, of_number, of_uleb, of_sleb, of_block, of_two_ulebs, of_uleb_and_sleb, of_uleb_and_block, extended_at, operands_at, or_fault, after_opcode, instruction_at}

-- ---- what is there is read
block_read : (block : List ℕ) (at after : Cursor) → Block block at after → block_at at ≡ Ok (block, after)
unfolding block_at
block_read block at after (between, len, bytes) =
    ap (λ (r : Read ℕ). r >>= λ n. part_at n.0 n.1 >>= λ run. Ok (run.0.left, run.1)) (uleb_again at (length block) between len)
    ∙ ap (λ (r : Read Cursor). r >>= λ run. Ok (run.0.left, run.1)) (part_again (length block) between block after bytes)

number_op : (n x : ℕ) (make : ℕ → Instruction) (at after : Cursor) → Stands (Number n) x at after → of_number n make at ≡ Ok (Some (make x), after)
number_op n x make at after s = ap (λ (r : Read ℕ). r >>= λ y. Ok (Some (make y.0), y.1)) (number_again n at x after s)

uleb_op : (x : ℕ) (make : ℕ → Instruction) (at after : Cursor) → Stands Uleb x at after → of_uleb make at ≡ Ok (Some (make x), after)
uleb_op x make at after s = ap (λ (r : Read ℕ). r >>= λ y. Ok (Some (make y.0), y.1)) (uleb_again at x after s)

sleb_op : (z : ℤ) (make : ℤ → Instruction) (at after : Cursor) → Stands Sleb z at after → of_sleb make at ≡ Ok (Some (make z), after)
sleb_op z make at after s = ap (λ (r : Read ℤ). r >>= λ y. Ok (Some (make y.0), y.1)) (sleb_again at z after s)

block_op : (block : List ℕ) (make : List ℕ → Instruction) (at after : Cursor) → Block block at after → of_block make at ≡ Ok (Some (make block), after)
block_op block make at after s = ap (λ (r : Read (List ℕ)). r >>= λ y. Ok (Some (make y.0), y.1)) (block_read block at after s)

two_op : (x y : ℕ) (make : ℕ → ℕ → Instruction) (at after : Cursor) → WithUleb x y at after → of_two_ulebs make at ≡ Ok (Some (make x y), after)
two_op x y make at after (between, first, second) =
    ap (λ (r : Read ℕ). r >>= λ a. uleb_at a.1 >>= λ b. Ok (Some (make a.0 b.0), b.1)) (uleb_again at x between first)
    ∙ ap (λ (r : Read ℕ). r >>= λ b. Ok (Some (make x b.0), b.1)) (uleb_again between y after second)

sf_op : (x : ℕ) (z : ℤ) (make : ℕ → ℤ → Instruction) (at after : Cursor) → WithSleb x z at after → of_uleb_and_sleb make at ≡ Ok (Some (make x z), after)
sf_op x z make at after (between, first, second) =
    ap (λ (r : Read ℕ). r >>= λ a. sleb_at a.1 >>= λ b. Ok (Some (make a.0 b.0), b.1)) (uleb_again at x between first)
    ∙ ap (λ (r : Read ℤ). r >>= λ b. Ok (Some (make x b.0), b.1)) (sleb_again between z after second)

with_block_op : (x : ℕ) (block : List ℕ) (make : ℕ → List ℕ → Instruction) (at after : Cursor) → WithBlock x block at after → of_uleb_and_block make at ≡ Ok (Some (make x block), after)
with_block_op x block make at after (between, first, second) =
    ap (λ (r : Read ℕ). r >>= λ a. block_at a.1 >>= λ b. Ok (Some (make a.0 b.0), b.1)) (uleb_again at x between first)
    ∙ ap (λ (r : Read (List ℕ)). r >>= λ b. Ok (Some (make x b.0), b.1)) (block_read block between after second)

plain_op : (i : Instruction) (at after : Cursor) → after ≡ at → plain i at ≡ Ok (Some i, after)
plain_op i at after e = ap (λ (c : Cursor). Ok (Some i, c)) (sym e)

-- ---- an opcode from 0x40 on has its first operand in its low six bits
high_by : (op n : ℕ) (a b c : Bool) (at : Cursor) → nat_lt op 0x40 ≡ a → nat_lt op 0x80 ≡ b → nat_lt op 0xc0 ≡ c → op % 64 ≡ n
    → operands_at op at ≡ (cond a (extended_at op) (cond b (plain (advance_loc n)) (cond c (of_uleb (offset n)) (plain (restore n))))) at
unfolding operands_at
high_by op n a b c at ta tb tc low = rw (ta, tb, tc, low) refl

pub operands_read : (op : ℕ) (i : Instruction) (at after : Cursor) → OperandsStand op i at after → operands_at op at ≡ Ok (Some i, after)
unfolding operands_at extended_at
operands_read op (advance_loc delta) at after h =
    high_by op delta false true (nat_lt op 0xc0) at (le-ltb _ _ h.0) (lt-ltb _ _ h.1) refl (sym h.2) ∙ plain_op (advance_loc delta) at after h.3
operands_read op (offset register factored) at after h =
    high_by op register false false true at (le-ltb _ _ (omega (arith, h.0))) (le-ltb _ _ h.0) (lt-ltb _ _ h.1) (sym h.2) ∙ uleb_op factored (offset register) at after h.3
operands_read op (restore register) at after h =
    high_by op register false false false at (le-ltb _ _ (omega (arith, h.0))) (le-ltb _ _ (omega (arith, h.0))) (le-ltb _ _ h.0) (sym h.1) ∙ plain_op (restore register) at after h.2
operands_read op nop at after h = ap (λ (o : ℕ). operands_at o at) h.0 ∙ plain_op nop at after h.1
operands_read op (advance_loc_n delta) at after (inl h) = ap (λ (o : ℕ). operands_at o at) h.0 ∙ number_op 1 delta advance_loc_n at after h.1
operands_read op (advance_loc_n delta) at after (inr (inl h)) = ap (λ (o : ℕ). operands_at o at) h.0 ∙ number_op 2 delta advance_loc_n at after h.1
operands_read op (advance_loc_n delta) at after (inr (inr h)) = ap (λ (o : ℕ). operands_at o at) h.0 ∙ number_op 4 delta advance_loc_n at after h.1
operands_read op (offset_extended r n) at after h = ap (λ (o : ℕ). operands_at o at) h.0 ∙ two_op r n offset_extended at after h.1
operands_read op (restore_extended r) at after h = ap (λ (o : ℕ). operands_at o at) h.0 ∙ uleb_op r restore_extended at after h.1
operands_read op (undefined r) at after h = ap (λ (o : ℕ). operands_at o at) h.0 ∙ uleb_op r undefined at after h.1
operands_read op (same_value r) at after h = ap (λ (o : ℕ). operands_at o at) h.0 ∙ uleb_op r same_value at after h.1
operands_read op (in_register r q) at after h = ap (λ (o : ℕ). operands_at o at) h.0 ∙ two_op r q in_register at after h.1
operands_read op remember_state at after h = ap (λ (o : ℕ). operands_at o at) h.0 ∙ plain_op remember_state at after h.1
operands_read op restore_state at after h = ap (λ (o : ℕ). operands_at o at) h.0 ∙ plain_op restore_state at after h.1
operands_read op (def_cfa r n) at after h = ap (λ (o : ℕ). operands_at o at) h.0 ∙ two_op r n def_cfa at after h.1
operands_read op (def_cfa_register r) at after h = ap (λ (o : ℕ). operands_at o at) h.0 ∙ uleb_op r def_cfa_register at after h.1
operands_read op (def_cfa_offset n) at after h = ap (λ (o : ℕ). operands_at o at) h.0 ∙ uleb_op n def_cfa_offset at after h.1
operands_read op (def_cfa_expression b) at after h = ap (λ (o : ℕ). operands_at o at) h.0 ∙ block_op b def_cfa_expression at after h.1
operands_read op (expression r b) at after h = ap (λ (o : ℕ). operands_at o at) h.0 ∙ with_block_op r b expression at after h.1
operands_read op (offset_extended_sf r z) at after h = ap (λ (o : ℕ). operands_at o at) h.0 ∙ sf_op r z offset_extended_sf at after h.1
operands_read op (def_cfa_sf r z) at after h = ap (λ (o : ℕ). operands_at o at) h.0 ∙ sf_op r z def_cfa_sf at after h.1
operands_read op (def_cfa_offset_sf z) at after h = ap (λ (o : ℕ). operands_at o at) h.0 ∙ sleb_op z def_cfa_offset_sf at after h.1
operands_read op (val_offset r n) at after h = ap (λ (o : ℕ). operands_at o at) h.0 ∙ two_op r n val_offset at after h.1
operands_read op (val_offset_sf r z) at after h = ap (λ (o : ℕ). operands_at o at) h.0 ∙ sf_op r z val_offset_sf at after h.1
operands_read op (val_expression r b) at after h = ap (λ (o : ℕ). operands_at o at) h.0 ∙ with_block_op r b val_expression at after h.1
operands_read op negate_ra_state at after h = ap (λ (o : ℕ). operands_at o at) h.0 ∙ plain_op negate_ra_state at after h.1
operands_read op (args_size n) at after h = ap (λ (o : ℕ). operands_at o at) h.0 ∙ uleb_op n args_size at after h.1

pub instruction_read : (i : Instruction) (at after : Cursor) → InstructionStands i at after → instruction_at at ≡ Ok (i, after)
unfolding instruction_at
instruction_read i at after (op, between, byte, operands) =
    ap (after_opcode at.place) (number_again 1 at op between byte)
    ∙ ap (or_fault at.place op) (operands_read op i between after operands)

-- ---- what is read is there
abbrev given : Instruction → Cursor → Found
given i after = Ok (Some i, after)

record Same (i j : Instruction) (a b : Cursor) : Type 0 where
  instruction : i ≡ j
  after : a ≡ b

given_same : (i j : Instruction) (a b : Cursor) → given i a ≡ given j b → Same i j a b
given_same i j a b e =
    let pair : (Some i, a) ≡ (Some j, b) = ok_is _ _ e in
    let one : Some i ≡ Some j = ap (λ (t : Option Instruction × Cursor). t.0) pair in
    record { instruction = cc; after = ap (λ (t : Option Instruction × Cursor). t.1) pair }

-- what a reader of operands gives is there as the operands of this opcode
pub record Decodes (op : ℕ) (read : Cursor → Found) : Type 0 where
  pub stands : (at : Cursor) (i : Instruction) (after : Cursor) → read at ≡ given i after → OperandsStand op i at after

moved : (op : ℕ) (i j : Instruction) (at a b : Cursor) → given i a ≡ given j b → OperandsStand op i at a → OperandsStand op j at b
moved op i j at a b e s =
    let same = given_same i j a b e in
    subst (λ (c : Cursor). OperandsStand op j at c) same.after (subst (λ (k : Instruction). OperandsStand op k at a) same.instruction s)

decodes_or : (op n : ℕ) (b : Bool) (f g : Cursor → Found) → (op == n) ≡ b → (op ≡ n → Decodes op f) → Decodes op g → Decodes op (cond b f g)
decodes_or op n true f g t p q = p (eqb-true op n t)
decodes_or op n false f g t p q = q

plain_decodes : (op : ℕ) (i : Instruction) → ((at : Cursor) → OperandsStand op i at at) → Decodes op (plain i)
plain_decodes op i h = record { stands = λ at j after e. moved op i j at at after e (h at) }

number_decodes : (op n : ℕ) (make : ℕ → Instruction) → ((x : ℕ) (at after : Cursor) → Stands (Number n) x at after → OperandsStand op (make x) at after) → Decodes op (of_number n make)
number_decodes op n make h = record {
  stands = λ at j after e.
      let x = bind_ok (number_at n at) (λ y. given (make y.0) y.1) (Some j, after) e in
      moved op (make x.0.0) j at x.0.1 after x.2 (h x.0.0 at x.0.1 (number_takes n at x.0.0 x.0.1 x.1));
}

uleb_decodes : (op : ℕ) (make : ℕ → Instruction) → ((x : ℕ) (at after : Cursor) → Stands Uleb x at after → OperandsStand op (make x) at after) → Decodes op (of_uleb make)
uleb_decodes op make h = record {
  stands = λ at j after e.
      let x = bind_ok (uleb_at at) (λ y. given (make y.0) y.1) (Some j, after) e in
      moved op (make x.0.0) j at x.0.1 after x.2 (h x.0.0 at x.0.1 (uleb_takes at x.0.0 x.0.1 x.1));
}

sleb_decodes : (op : ℕ) (make : ℤ → Instruction) → ((x : ℤ) (at after : Cursor) → Stands Sleb x at after → OperandsStand op (make x) at after) → Decodes op (of_sleb make)
sleb_decodes op make h = record {
  stands = λ at j after e.
      let x = bind_ok (sleb_at at) (λ y. given (make y.0) y.1) (Some j, after) e in
      moved op (make x.0.0) j at x.0.1 after x.2 (h x.0.0 at x.0.1 (sleb_takes at x.0.0 x.0.1 x.1));
}

block_takes : (at : Cursor) (block : List ℕ) (after : Cursor) → block_at at ≡ Ok (block, after) → Block block at after
unfolding block_at
block_takes at block after e =
    let n = bind_ok (uleb_at at) _ (block, after) e in
    let run = bind_ok (part_at n.0.0 n.0.1) _ (block, after) n.2 in
    let same : (run.0.0.left, run.0.1) ≡ (block, after) = ok_is _ _ run.2 in
    let part = part_takes n.0.0 n.0.1 run.0.0 run.0.1 run.1 in
    let bytes : Stands (Bytes n.0.0) block n.0.1 after =
    subst (λ (t : List ℕ × Cursor). Stands (Bytes n.0.0) t.0 n.0.1 t.1) same part.0 in
    let len : n.0.0 ≡ length block = sym bytes.kind.width ∙ ap length (sym bytes.kind.value) in (
      n.0.1,
      subst (λ (k : ℕ). Stands Uleb k at n.0.1) len (uleb_takes at n.0.0 n.0.1 n.1),
      subst (λ (k : ℕ). Stands (Bytes k) block n.0.1 after) len bytes,
    )

block_decodes : (op : ℕ) (make : List ℕ → Instruction) → ((b : List ℕ) (at after : Cursor) → Block b at after → OperandsStand op (make b) at after) → Decodes op (of_block make)
block_decodes op make h = record {
  stands = λ at j after e.
      let x = bind_ok (block_at at) (λ y. given (make y.0) y.1) (Some j, after) e in
      moved op (make x.0.0) j at x.0.1 after x.2 (h x.0.0 at x.0.1 (block_takes at x.0.0 x.0.1 x.1));
}

two_decode : (op : ℕ) (make : ℕ → ℕ → Instruction) → ((x y : ℕ) (at after : Cursor) → WithUleb x y at after → OperandsStand op (make x y) at after) → Decodes op (of_two_ulebs make)
two_decode op make h = record {
  stands = λ at j after e.
      let x = bind_ok (uleb_at at) (λ a. uleb_at a.1 >>= λ b. given (make a.0 b.0) b.1) (Some j, after) e in
      let y = bind_ok (uleb_at x.0.1) (λ b. given (make x.0.0 b.0) b.1) (Some j, after) x.2 in
      moved op (make x.0.0 y.0.0) j at y.0.1 after y.2 (h x.0.0 y.0.0 at y.0.1 (x.0.1, uleb_takes at x.0.0 x.0.1 x.1, uleb_takes x.0.1 y.0.0 y.0.1 y.1));
}

sf_decode : (op : ℕ) (make : ℕ → ℤ → Instruction) → ((x : ℕ) (z : ℤ) (at after : Cursor) → WithSleb x z at after → OperandsStand op (make x z) at after) → Decodes op (of_uleb_and_sleb make)
sf_decode op make h = record {
  stands = λ at j after e.
      let x = bind_ok (uleb_at at) (λ a. sleb_at a.1 >>= λ b. given (make a.0 b.0) b.1) (Some j, after) e in
      let y = bind_ok (sleb_at x.0.1) (λ b. given (make x.0.0 b.0) b.1) (Some j, after) x.2 in
      moved op (make x.0.0 y.0.0) j at y.0.1 after y.2 (h x.0.0 y.0.0 at y.0.1 (x.0.1, uleb_takes at x.0.0 x.0.1 x.1, sleb_takes x.0.1 y.0.0 y.0.1 y.1));
}

with_block_decode : (op : ℕ) (make : ℕ → List ℕ → Instruction) → ((x : ℕ) (b : List ℕ) (at after : Cursor) → WithBlock x b at after → OperandsStand op (make x b) at after) → Decodes op (of_uleb_and_block make)
with_block_decode op make h = record {
  stands = λ at j after e.
      let x = bind_ok (uleb_at at) (λ a. block_at a.1 >>= λ b. given (make a.0 b.0) b.1) (Some j, after) e in
      let y = bind_ok (block_at x.0.1) (λ b. given (make x.0.0 b.0) b.1) (Some j, after) x.2 in
      moved op (make x.0.0 y.0.0) j at y.0.1 after y.2 (h x.0.0 y.0.0 at y.0.1 (x.0.1, uleb_takes at x.0.0 x.0.1 x.1, block_takes x.0.1 y.0.0 y.0.1 y.1));
}

abbrev nothing : Cursor → Found
nothing at = Ok (None, at)

none_decodes : (op : ℕ) → Decodes op nothing
none_decodes op = record {
  stands = λ at j after e.
      let pair : (None, at) ≡ (Some j, after) = ok_is _ _ e in
      let clash : None ≡ Some j = ap (λ (t : Option Instruction × Cursor). t.0) pair in
      absurd cc;
}

extended_decodes : (op : ℕ) → Decodes op (extended_at op)
unfolding extended_at
extended_decodes op =
    decodes_or op 0x00 (op == 0x00) _ _ refl (λ o. plain_decodes op nop (λ at. (o, refl))) (
    decodes_or op 0x02 (op == 0x02) _ _ refl (λ o. number_decodes op 1 advance_loc_n (λ x at after s. inl (o, s))) (
    decodes_or op 0x03 (op == 0x03) _ _ refl (λ o. number_decodes op 2 advance_loc_n (λ x at after s. inr (inl (o, s)))) (
    decodes_or op 0x04 (op == 0x04) _ _ refl (λ o. number_decodes op 4 advance_loc_n (λ x at after s. inr (inr (o, s)))) (
    decodes_or op 0x05 (op == 0x05) _ _ refl (λ o. two_decode op offset_extended (λ x y at after s. (o, s))) (
    decodes_or op 0x06 (op == 0x06) _ _ refl (λ o. uleb_decodes op restore_extended (λ x at after s. (o, s))) (
    decodes_or op 0x07 (op == 0x07) _ _ refl (λ o. uleb_decodes op undefined (λ x at after s. (o, s))) (
    decodes_or op 0x08 (op == 0x08) _ _ refl (λ o. uleb_decodes op same_value (λ x at after s. (o, s))) (
    decodes_or op 0x09 (op == 0x09) _ _ refl (λ o. two_decode op in_register (λ x y at after s. (o, s))) (
    decodes_or op 0x0a (op == 0x0a) _ _ refl (λ o. plain_decodes op remember_state (λ at. (o, refl))) (
    decodes_or op 0x0b (op == 0x0b) _ _ refl (λ o. plain_decodes op restore_state (λ at. (o, refl))) (
    decodes_or op 0x0c (op == 0x0c) _ _ refl (λ o. two_decode op def_cfa (λ x y at after s. (o, s))) (
    decodes_or op 0x0d (op == 0x0d) _ _ refl (λ o. uleb_decodes op def_cfa_register (λ x at after s. (o, s))) (
    decodes_or op 0x0e (op == 0x0e) _ _ refl (λ o. uleb_decodes op def_cfa_offset (λ x at after s. (o, s))) (
    decodes_or op 0x0f (op == 0x0f) _ _ refl (λ o. block_decodes op def_cfa_expression (λ x at after s. (o, s))) (
    decodes_or op 0x10 (op == 0x10) _ _ refl (λ o. with_block_decode op expression (λ x y at after s. (o, s))) (
    decodes_or op 0x11 (op == 0x11) _ _ refl (λ o. sf_decode op offset_extended_sf (λ x y at after s. (o, s))) (
    decodes_or op 0x12 (op == 0x12) _ _ refl (λ o. sf_decode op def_cfa_sf (λ x y at after s. (o, s))) (
    decodes_or op 0x13 (op == 0x13) _ _ refl (λ o. sleb_decodes op def_cfa_offset_sf (λ x at after s. (o, s))) (
    decodes_or op 0x14 (op == 0x14) _ _ refl (λ o. two_decode op val_offset (λ x y at after s. (o, s))) (
    decodes_or op 0x15 (op == 0x15) _ _ refl (λ o. sf_decode op val_offset_sf (λ x y at after s. (o, s))) (
    decodes_or op 0x16 (op == 0x16) _ _ refl (λ o. with_block_decode op val_expression (λ x y at after s. (o, s))) (
    decodes_or op 0x2d (op == 0x2d) _ _ refl (λ o. plain_decodes op negate_ra_state (λ at. (o, refl))) (
    decodes_or op 0x2e (op == 0x2e) _ _ refl (λ o. uleb_decodes op args_size (λ x at after s. (o, s))) (
    none_decodes op))))))))))))))))))))))))

below_or : (op n : ℕ) (b : Bool) (f g : Cursor → Found) → nat_lt op n ≡ b → (op < n → Decodes op f) → (n ≤ op → Decodes op g) → Decodes op (cond b f g)
below_or op n true f g t p q = p (ltb-true op n t)
below_or op n false f g t p q = q (ltb-false op n t)

pub operands_decode : (op : ℕ) → Decodes op (operands_at op)
unfolding operands_at
operands_decode op =
    below_or op 0x40 (nat_lt op 0x40) _ _ refl (λ l. extended_decodes op) (λ h.
    below_or op 0x80 (nat_lt op 0x80) _ _ refl (λ l. plain_decodes op (advance_loc (op % 64)) (λ at. (h, l, refl, refl))) (λ k.
    below_or op 0xc0 (nat_lt op 0xc0) _ _ refl (λ l. uleb_decodes op (offset (op % 64)) (λ x at after s. (k, l, refl, s))) (λ m.
    plain_decodes op (restore (op % 64)) (λ at. (m, refl, refl)))))

abbrev read_as : Instruction → Cursor → Result (Instruction × Cursor) InsnFault
read_as i after = Ok (i, after)

found_by : (place op : ℕ) (found : Found) (i : Instruction) (after : Cursor) → or_fault place op found ≡ read_as i after → found ≡ given i after
found_by place op (Ok (Some j, c)) i after e =
    let pair : (j, c) ≡ (i, after) = cc in
    let same : j ≡ i = ap (λ (t : Instruction × Cursor). t.0) pair in
    let end : c ≡ after = ap (λ (t : Instruction × Cursor). t.1) pair in
    ap (λ (k : Instruction). given k c) same ∙ ap (given i) end
found_by place op (Ok (None, c)) i after e = absurd cc
found_by place op (Err f) i after e = absurd cc

opcode_by : (at : Cursor) (r : Read ℕ) (i : Instruction) (after : Cursor) → number_at 1 at ≡ r → after_opcode at.place r ≡ read_as i after → InstructionStands i at after
opcode_by at (Ok (op, between)) i after byte e =
    (op, between, number_takes 1 at op between byte, (operands_decode op).stands between i after (found_by at.place op (operands_at op between) i after e))
opcode_by at (Err f) i after byte e = absurd cc

pub instruction_stands : (i : Instruction) (at after : Cursor) → instruction_at at ≡ Ok (i, after) → InstructionStands i at after
unfolding instruction_at
instruction_stands i at after e = opcode_by at (number_at 1 at) i after refl e
