-- The value of the expression: the stack pointer plus 8, or plus 16 where the program counter's last four bits are 11 or more.
use Rattle.std.specs.Prelude.{bit_and, int_le}
use Rattle.std.proofs.Common.{◌≡◌, ℕ, pos, negsuc, ◌+◌, ◌-◌, ◌*◌, ◌%◌, ◌^◌, ◌<◌, ◌≤◌, Bool, true, false, cond, leb, Option, Some, refl, ap, ◌∙◌, arith}
use Rattle.std.proofs.lemmas.Bool.{le-leb, lt-ltb}
use Rattle.std.proofs.lemmas.Bool.Decides.{nat_tests}
use Rattle.std.proofs.lemmas.Grind.{and_numeral}
use Rattle.sf_model.specs.Recovery.{moved}
use Rattle.sf_plt.specs.Expression.{as_signed, expression_value}

-- the last operations, on what the comparison pushed
abbrev by_bit : (stack_pointer bit : ℕ) → Option ℕ
by_bit stack_pointer bit = Some (((stack_pointer + 8) % 2 ^ 64 + (bit * 2 ^ 3) % 2 ^ 64) % 2 ^ 64)

ran : (sp pc : ℕ) → expression_value sp pc ≡ by_bit sp (cond (int_le (as_signed 11) (as_signed (bit_and ((pc + 0) % 2 ^ 64) 15))) 1 0)
unfolding expression_value moved
ran sp pc = refl

last_four : (pc : ℕ) → bit_and ((pc + 0) % 2 ^ 64) 15 ≡ pc % 16
last_four pc = and_numeral ((pc + 0) % 2 ^ 64) 14 refl ∙ omega arith

small_signed : (m : ℕ) → m < 16 → as_signed m ≡ pos m
small_signed m lt = ap (λ (b : Bool). cond b (pos m) (negsuc (2 ^ 64 - 1 - m))) (lt-ltb m (2 ^ 63) (omega (arith, lt)))

tested : (pc : ℕ) → int_le (as_signed 11) (as_signed (bit_and ((pc + 0) % 2 ^ 64) 15)) ≡ leb 11 (pc % 16)
tested pc =
    let lt : pc % 16 < 16 = omega arith in
    ap (λ (m : ℕ). int_le (as_signed 11) (as_signed m)) (last_four pc) ∙ ap (int_le (pos 11)) (small_signed (pc % 16) lt)

value_by : (sp pc : ℕ) (b : Bool) → leb 11 (pc % 16) ≡ b → expression_value sp pc ≡ by_bit sp (cond b 1 0)
value_by sp pc b t = ran sp pc ∙ ap (λ (x : Bool). by_bit sp (cond x 1 0)) (tested pc ∙ t)

pub value_low : (sp pc : ℕ) → pc % 16 < 11 → expression_value sp pc ≡ Some (moved sp (pos 8))
unfolding moved
value_low sp pc lt =
    let t : leb 11 (pc % 16) ≡ false = grind (arith, nat_tests) in
    let e : ((sp + 8) % 2 ^ 64 + 0) % 2 ^ 64 ≡ (sp + 8) % 2 ^ 64 = omega arith in
    value_by sp pc false t ∙ ap Some e

pub value_high : (sp pc : ℕ) → 11 ≤ pc % 16 → expression_value sp pc ≡ Some (moved sp (pos 16))
unfolding moved
value_high sp pc le =
    let e : ((sp + 8) % 2 ^ 64 + 8) % 2 ^ 64 ≡ (sp + 16) % 2 ^ 64 = omega arith in
    value_by sp pc true (le-leb 11 (pc % 16) le) ∙ ap Some e
