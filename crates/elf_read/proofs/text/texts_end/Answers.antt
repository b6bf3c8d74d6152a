use Rattle.std.proofs.Common.{◌≡◌, ◌==◌, ◌≤◌, ◌+◌, ◌-◌, ℕ, get_or, sym, ap, ◌∙◌, arith, eq-eqb, ne_eqb, lt-ltb, le-ltb, inl, inr}
use Rattle.std.proofs.Math.Nat.{eq-or-lt_of_le}
use Rattle.std.proofs.lemmas.Bool.{cases_lt}
use Rattle.elf_read.proofs.Texts.{stands, none_stands}
use Rattle.elf_read.proofs.text.texts_end.Goals as goal
use Rattle.elf_read.proofs.text.texts_end.Goals.{then-table-i-eq0, else-table-i-eq0}

pub loop-i-init : goal.loop-i-init
loop-i-init c = (omega arith, λ h. absurd (omega (arith, h)), λ k low high. absurd (omega (arith, high)))

pub loop-i-preserved : goal.loop-i-preserved
loop-i-preserved c =
    let table = c.args.table.now in
    let i = c.loop-i.i in
    elim c.if-table-i-eq0.branch [
      | then-table-i-eq0 w ↦
          let end : c.if-table-i-eq0.end ≡ i + 1 = w.end-is in
          let last : c.if-table-i-eq0.end - 1 ≡ i = omega (arith, end) in (
            omega (arith, end),
            λ h. ap (λ (k : ℕ). get_or table k 0 == 0) last ∙ eq-eqb _ _ w.if-table-i-eq0.true,
            λ k low high. absurd (omega (arith, end, low, high)),
          )
      | else-table-i-eq0 w ↦
          let end : c.if-table-i-eq0.end ≡ c.loop-i.end = w.end-is in
          let upto : c.loop-i.end ≤ i = c.loop-i.invariant.0 in (
            omega (arith, end, upto),
            λ h. ap (λ (k : ℕ). get_or table (k - 1) 0 == 0) end ∙ c.loop-i.invariant.1 (omega (arith, h, end)),
            λ k low high.
                let behind : k ≤ i = omega (arith, high) in
                elim (eq-or-lt_of_le behind) [
                  | inl same ↦ ap (λ (j : ℕ). get_or table j 0 == 0) same ∙ ne_eqb _ _ w.if-table-i-eq0.false
                  | inr before ↦ c.loop-i.invariant.2 k (omega (arith, low, end)) before
                ],
          )
    ]

pub returns : goal.returns
returns c = λ place.
    let table = c.args.table.now in
    let end = c.loop-i.end in
    let upto : end ≤ c.loop-i.i = c.loop-i.invariant.0 in
    elim (cases_lt place end) [
      | inl before ↦
          stands place (end - 1) table (omega (arith, before)) (omega (arith, before, upto)) (c.loop-i.invariant.1 (omega (arith, before))) ∙ sym (lt-ltb _ _ before)
      | inr behind ↦
          none_stands place table (λ k low within. c.loop-i.invariant.2 k (omega (arith, low, behind)) (omega (arith, within))) ∙ sym (le-ltb _ _ behind)
    ]
