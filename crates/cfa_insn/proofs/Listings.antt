-- The first item of a listing, and the listing after it.
use Rattle.std.proofs.Common.{◌≡◌, ℕ, suc, ◌+◌, ◌<◌, List, [], ◌∷◌, length, Ok, Err, refl, ap, subst, arith}
use Rattle.sf_bytes.specs.Cursor.{Cursor, past}
use Rattle.sf_bytes.proofs.Skipped.{behind}
use Rattle.cfa_insn.specs.declared.fault.InsnFault.{InsnFault}
use Rattle.cfa_insn.specs.Instruction.{Instruction}
use Rattle.cfa_insn.specs.Table.{instruction_at}
use Rattle.cfa_insn.specs.Listing.{Item, listing, listing_after}
use Rattle.cfa_insn.proofs.ReadsMoveOn.{IsBehind, Passed, instruction_passes}

pub listing-nil : (skipped place : ℕ) → listing_after skipped place [] ≡ []
unfolding listing_after
listing-nil skipped place = refl

listing-suc : (n place b : ℕ) (bs : List ℕ) → listing_after (suc n) place (b ∷ bs) ≡ listing_after n (place + 1) bs
unfolding listing_after
listing-suc n place b bs = refl

pub starts_with_instruction : (place : ℕ) (bytes : List ℕ) (i : Instruction) (after : Cursor) → 0 < length bytes → instruction_at (record { place = place; left = bytes }) ≡ Ok (i, after)
    → listing_after 0 place bytes ≡ Ok (place, i) ∷ listing after
unfolding listing_after
starts_with_instruction place [] i after some e = absurd (omega arith)
starts_with_instruction place (b ∷ bs) i after some e =
    let at : Cursor = record { place = place; left = b ∷ bs } in
    let p : IsBehind (past 1 at) after = subst (Passed at) e (instruction_passes at) in
    rw e (ap (λ (items : List Item). Ok (place, i) ∷ items) (behind listing_after listing-nil listing-suc p.count (place + 1) bs after p.is))

pub starts_with_fault : (place : ℕ) (bytes : List ℕ) (f : InsnFault) → 0 < length bytes → instruction_at (record { place = place; left = bytes }) ≡ Err f → listing_after 0 place bytes ≡ Err f ∷ []
unfolding listing_after
starts_with_fault place [] f some e = absurd (omega arith)
starts_with_fault place (b ∷ bs) f some e = rw e refl

pub nothing_left : (place : ℕ) (bytes : List ℕ) → length bytes ≡ 0 → listing_after 0 place bytes ≡ []
nothing_left place [] e = listing-nil 0 place
nothing_left place (b ∷ bs) e = absurd (omega arith)
