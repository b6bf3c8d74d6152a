-- Checks and sums of what a loop has left.
use Rattle.std.proofs.Common.{◌≡◌, ◌<◌, ℕ, suc, ◌+◌, ◌-◌, List, Ok, Err, refl, ap, sym, ◌∙◌, arith}
use Rattle.sf_model.specs.declared.machine.Arch.{Arch}
use Rattle.sf_decode.specs.declared.fault.DecodeFault.{DecodeFault}
use Rattle.sf_decode.specs.Checking.{Check, ◌>>◌, each_from, sum_from}
use Rattle.sf_decode.specs.Row.{row_check, rows_check, row_end, row_info, unsigned_in}

-- what is left has a first item
left_suc : (i count : ℕ) → i < count → count - i ≡ suc (count - (i + 1))
left_suc i count lt = omega (lt, arith)

pub rows_check-none : (arch : Arch) (rows : List ℕ) (o w p l : ℕ) → rows_check arch rows o w p l 0 ≡ Ok tt
unfolding rows_check
rows_check-none arch rows o w p l = refl

pub rows_check-suc : (arch : Arch) (rows : List ℕ) (o w p l n : ℕ)
    → rows_check arch rows o w p l (suc n) ≡ (row_check arch rows o w p l >> rows_check arch rows o w (row_end w p (row_info rows w p)) (unsigned_in w p rows + 1) n)
unfolding rows_check
rows_check-suc arch rows o w p l n = refl

pub rows_check-stop : (arch : Arch) (rows : List ℕ) (o w p l i count : ℕ) (e : DecodeFault) → i < count → row_check arch rows o w p l ≡ Err e
    → rows_check arch rows o w p l (count - i) ≡ Err e
rows_check-stop arch rows o w p l i count e lt here =
    ap (rows_check arch rows o w p l) (left_suc i count lt) ∙ (rows_check-suc arch rows o w p l (count - (i + 1))
    ∙ ap (λ (c : Check). c >> rows_check arch rows o w (row_end w p (row_info rows w p)) (unsigned_in w p rows + 1) (count - (i + 1))) here)

pub rows_check-more : (arch : Arch) (rows : List ℕ) (o w p l i count : ℕ) → i < count → row_check arch rows o w p l ≡ Ok tt
    → rows_check arch rows o w (row_end w p (row_info rows w p)) (unsigned_in w p rows + 1) (count - (i + 1)) ≡ rows_check arch rows o w p l (count - i)
rows_check-more arch rows o w p l i count lt here =
    sym (ap (rows_check arch rows o w p l) (left_suc i count lt) ∙ (rows_check-suc arch rows o w p l (count - (i + 1))
    ∙ ap (λ (c : Check). c >> rows_check arch rows o w (row_end w p (row_info rows w p)) (unsigned_in w p rows + 1) (count - (i + 1))) here))

pub each_from-none : (i : ℕ) (check : ℕ → Check) → each_from i 0 check ≡ Ok tt
unfolding each_from
each_from-none i check = refl

pub each_from-suc : (i n : ℕ) (check : ℕ → Check) → each_from i (suc n) check ≡ (check i >> each_from (i + 1) n check)
unfolding each_from
each_from-suc i n check = refl

pub each_from-stop : (i count : ℕ) (check : ℕ → Check) (e : DecodeFault) → i < count → check i ≡ Err e → each_from i (count - i) check ≡ Err e
each_from-stop i count check e lt here =
    ap (λ n. each_from i n check) (left_suc i count lt) ∙ (each_from-suc i (count - (i + 1)) check
    ∙ ap (λ (c : Check). c >> each_from (i + 1) (count - (i + 1)) check) here)

pub each_from-more : (i count : ℕ) (check : ℕ → Check) → i < count → check i ≡ Ok tt → each_from (i + 1) (count - (i + 1)) check ≡ each_from i (count - i) check
each_from-more i count check lt here =
    sym (ap (λ n. each_from i n check) (left_suc i count lt) ∙ (each_from-suc i (count - (i + 1)) check
    ∙ ap (λ (c : Check). c >> each_from (i + 1) (count - (i + 1)) check) here))

pub sum_from-none : (i : ℕ) (number : ℕ → ℕ) → sum_from i 0 number ≡ 0
unfolding sum_from
sum_from-none i number = refl

pub sum_from-suc : (i n : ℕ) (number : ℕ → ℕ) → sum_from i (suc n) number ≡ number i + sum_from (i + 1) n number
unfolding sum_from
sum_from-suc i n number = refl

pub sum_from-more : (i count : ℕ) (number : ℕ → ℕ) → i < count → sum_from i (count - i) number ≡ number i + sum_from (i + 1) (count - (i + 1)) number
sum_from-more i count number lt = ap (λ n. sum_from i n number) (left_suc i count lt) ∙ sum_from-suc i (count - (i + 1)) number
