-- A frequent instruction at the front is the first of the listing.
use Rattle.std.proofs.Common.{◌≡◌, ℕ, ◌%◌, ◌<◌, ◌≤◌, [], ◌∷◌, ◌++◌, length, Ok, refl, ap, arith}
use Rattle.sf_bytes.specs.Cursor.{Cursor}
use Rattle.sf_bytes.specs.Leb.{Uleb, leb_sum}
use Rattle.sf_bytes.specs.Standing.{Number, Passes, Stands}
use Rattle.cfa_insn.specs.Instruction.{Instruction, advance_loc, def_cfa_offset, nop, offset}
use Rattle.cfa_insn.specs.Listing.{listing}
use Rattle.cfa_insn.specs.Spelling.{OperandsStand}
use Rattle.cfa_insn.proofs.Listings.{starts_with_instruction}
use Rattle.cfa_insn.proofs.Spelled.{instruction_read}

byte_stands : (b : ℕ) (from to : Cursor) → Passes (b ∷ []) from to → Stands (Number 1) b from to
byte_stands b from to h = record { run = b ∷ []; kind = record { width = refl; value = omega arith }; passes = h }

short_stands : (b : ℕ) (from to : Cursor) → b < 128 → Passes (b ∷ []) from to → Stands Uleb b from to
unfolding leb_sum
short_stands b from to low h = record {
  run = b ∷ [];
  kind = record { ends = low; within = omega arith; value = omega (arith, low); fits = omega (arith, low) };
  passes = h;
}

-- an opcode byte and its operands are the first item
starts_with : (op : ℕ) (i : Instruction) (at between after : Cursor) → Passes (op ∷ []) at between → OperandsStand op i between after → listing at ≡ Ok (at.place, i) ∷ listing after
starts_with op i at between after byte operands =
    let some : length at.left ≡ length ((op ∷ []) ++ between.left) = ap length byte.bytes in
    starts_with_instruction at.place at.left i after (omega (arith, some)) (instruction_read i at after (op, between, byte_stands op at between byte, operands))

pub starts_with_advance : (op : ℕ) (at after : Cursor) → 0x40 ≤ op → op < 0x80 → Passes (op ∷ []) at after → listing at ≡ Ok (at.place, advance_loc (op % 64)) ∷ listing after
starts_with_advance op at after least below byte = starts_with op (advance_loc (op % 64)) at after after byte (least, below, refl, refl)

pub starts_with_offset : (op n : ℕ) (at between after : Cursor) → 0x80 ≤ op → op < 0xc0 → Passes (op ∷ []) at between → (n < 128) × Passes (n ∷ []) between after → listing at ≡ Ok (at.place, offset (op % 64) n) ∷ listing after
starts_with_offset op n at between after least below byte operand =
    starts_with op (offset (op % 64) n) at between after byte (least, below, refl, short_stands n between after operand.0 operand.1)

pub starts_with_cfa_offset : (op n : ℕ) (at between after : Cursor) → op ≡ 0x0e → Passes (op ∷ []) at between → (n < 128) × Passes (n ∷ []) between after → listing at ≡ Ok (at.place, def_cfa_offset n) ∷ listing after
starts_with_cfa_offset op n at between after is byte operand =
    starts_with op (def_cfa_offset n) at between after byte (is, short_stands n between after operand.0 operand.1)

pub starts_with_nop : (op : ℕ) (at after : Cursor) → op ≡ 0x00 → Passes (op ∷ []) at after → listing at ≡ Ok (at.place, nop) ∷ listing after
starts_with_nop op at after is byte = starts_with op nop at after after byte (is, refl)
