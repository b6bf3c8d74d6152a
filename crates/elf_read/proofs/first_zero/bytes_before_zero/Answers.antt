use Rattle.std.proofs.Common.{◌≡◌, ◌+◌, ◌≤◌, ℕ, Option, length, drop, ap, ◌∙◌, arith}
use Rattle.std.specs.Option.{unwrap_or}
use Rattle.elf_read.proofs.FirstZero.{before_zero, before_zero-drop, before_zero-is, before_zero-within}
use Rattle.elf_read.proofs.first_zero.bytes_before_zero.Goals as goal

pub split_at-requires : goal.split_at-requires
split_at-requires c =
    let upto : before_zero c.args.bytes.now ≤ length c.args.bytes.now = before_zero-within c.args.bytes.now in
    omega (arith, c.len_without_zero-len.ensures, upto)

pub returns-clause-value : goal.returns-clause-value
returns-clause-value c =
    let len = c.len_without_zero-len.result in
    let rest : c.unwrap_or.result ≡ before_zero (drop c.len_without_zero-len.result c.args.bytes.now) =
    c.unwrap_or.ensures ∙ ap (λ (o : Option ℕ). unwrap_or o (length c.split_at.result.1.now)) c.text_len.ensures ∙ before_zero-is c.split_at.result.1.now ∙ ap before_zero c.split_at.ensures.back in
    ap (λ (n : ℕ). c.len_without_zero-len.result + n) rest ∙ before_zero-drop c.len_without_zero-len.result c.args.bytes.now c.len_without_zero-len.ensures

pub returns-clause-within : goal.returns-clause-within
returns-clause-within c =
    let is : c.len_without_zero-len.result + c.unwrap_or.result ≡ before_zero c.args.bytes.now = returns-clause-value c in
    omega (arith, is, before_zero-within c.args.bytes.now)
