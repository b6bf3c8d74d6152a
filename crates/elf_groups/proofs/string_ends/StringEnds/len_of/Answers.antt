use Rattle.std.proofs.Common.{ℕ, ◌+◌, ◌≤◌, All, take, sym, subst, ap, ◌∙◌, arith}
use Rattle.std.specs.Ordering.{nat_cmp}
use Rattle.elf_read.proofs.Texts.{text_front}
use Rattle.elf_groups.specs.StringEnds.{AreNotZero, IsFreeRun}
use Rattle.elf_groups.proofs.Runs.{free_from, free_of_text, one_value_more}
use Rattle.elf_groups.proofs.string_ends.StringEnds.len_of.Goals as goal

pub returns-in_ok-insert-clause-len : goal.returns-in_ok-insert-clause-len
returns-in_ok-insert-clause-len c = λ file runs stands.
    let rest = c.args.text.now.rest.now in
    let free = free_from file rest c.args.text.now.place _ _ c.run_from-run.result stands (c.run_from-run.ensures file runs) c.saturating_sub-first.ensures c.saturating_sub-end.ensures in
    text_front 0 rest ∙ ap (λ (n : ℕ). take n rest) (sym (c.bytes_before_zero_past-len.ensures.count free))

pub returns-in_ok-insert-clause-runs : goal.returns-in_ok-insert-clause-runs
returns-in_ok-insert-clause-runs c = λ file runs stands.
    let rest = c.args.text.now.rest.now in
    let place = c.args.text.now.place in
    let free = free_from file rest place _ _ c.run_from-run.result stands (c.run_from-run.ensures file runs) c.saturating_sub-first.ensures c.saturating_sub-end.ensures in
    let upto : c.saturating_add-end.result ≤ place + c.bytes_before_zero_past-len.result = omega (arith, c.saturating_add-end.ensures) in
    let new : AreNotZero file place c.saturating_add-end.result = free_of_text file rest place _ _ stands (c.bytes_before_zero_past-len.ensures.count free) upto in
    subst (All (λ e. IsFreeRun file e.1)) (sym c.in_ok-insert.ensures.entries) (one_value_more nat_cmp (IsFreeRun file) c.args.self.now.runs.entries c.saturating_add-end.result _ runs new)

pub returns-else-text-run-clause-len : goal.returns-else-text-run-clause-len
returns-else-text-run-clause-len c = λ file runs stands.
    let rest = c.args.text.now.rest.now in
    let free = free_from file rest c.args.text.now.place _ _ c.run_from-run.result stands (c.run_from-run.ensures file runs) c.saturating_sub-first.ensures c.saturating_sub-end.ensures in
    text_front 0 rest ∙ ap (λ (n : ℕ). take n rest) (sym (c.bytes_before_zero_past-len.ensures.count free))
