use Rattle.std.proofs.Common.{ℕ, List, ◌≡◌, ◌+◌, ◌-◌, length, min, max, take, drop, ap, ◌∙◌, arith}
use Rattle.std.proofs.lemmas.List.{length-drop, length-take}
use Rattle.elf_read.proofs.FirstZero.{before_zero}
use Rattle.elf_groups.proofs.Runs.{by_front, by_known}
use Rattle.elf_groups.proofs.string_ends.bytes_before_zero_past.Goals as goal

pub returns-then-before-first-clause-count : goal.returns-then-before-first-clause-count
returns-then-before-first-clause-count c = λ free.
    let is : c.bytes_before_zero-before.result ≡ before_zero (take c.args.first c.args.bytes.now) = c.bytes_before_zero-before.ensures.value ∙ ap before_zero c.front.ensures in
    is ∙ by_front c.args.bytes.now c.args.first (omega (arith, is, c.if-before-first.true))

pub returns-then-before-first-clause-within : goal.returns-then-before-first-clause-within
returns-then-before-first-clause-within c =
    let len : length c.front.result.now ≡ min c.args.first (length c.args.bytes.now) = ap (λ (xs : List ℕ). length xs) c.front.ensures ∙ length-take c.args.first c.args.bytes.now in
    omega (arith, len, c.bytes_before_zero-before.ensures.within)

pub returns-clause-count : goal.returns-clause-count
returns-clause-count c = λ free.
    let bytes = c.args.bytes.now in
    let before : c.bytes_before_zero-before.result ≡ before_zero (take c.args.first bytes) = c.bytes_before_zero-before.ensures.value ∙ ap before_zero c.front.ensures in
    let most : c.max.result ≡ max c.args.first c.args.end = c.max.ensures in
    let least : c.min-known.result ≡ min c.max.result (length bytes) = c.min-known.ensures in
    let len : length c.split_at.result.1.now ≡ length bytes - c.min-known.result = ap (λ (xs : List ℕ). length xs) c.split_at.ensures.back ∙ length-drop c.min-known.result bytes in
    let here : c.bytes_before_zero.result ≡ before_zero (drop c.min-known.result bytes) = c.bytes_before_zero.ensures.value ∙ ap before_zero c.split_at.ensures.back in
    let all : c.min-known.result + before_zero (drop c.min-known.result bytes) ≡ before_zero bytes =
    by_known bytes c.args.first c.args.end c.min-known.result (omega (arith, before, c.if-before-first.false)) free (omega (arith, most, least)) (omega (arith, least)) in
    omega (arith, len, least, here, all, c.bytes_before_zero.ensures.within)
