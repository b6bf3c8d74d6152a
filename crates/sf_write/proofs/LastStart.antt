-- The start of the last row is that of the row before the end.
use Rattle.std.proofs.Common.{◌≡◌, ◌-◌, ℕ, suc, List, [], ◌∷◌, length, refl, ap, ◌∙◌, arith}
use Rattle.std.specs.Prelude.{slice_get}
use Rattle.std.specs.Option.{option_map_or}
use Rattle.sf_model.specs.declared.rows.Row.{Row}
use Rattle.sf_model.specs.Tight.{last_start}

last_start_is : (rows : List Row) → option_map_or (λ (row : Row). row.start) (slice_get rows (length rows - 1)) 0 ≡ last_start rows
last_start_is [] = refl
last_start_is (row ∷ []) = refl
last_start_is (row ∷ next ∷ rows) =
    let e : length (row ∷ next ∷ rows) - 1 ≡ suc (length (next ∷ rows) - 1) = omega arith in
    ap (λ k. option_map_or (λ (r : Row). r.start) (slice_get (row ∷ next ∷ rows) k) 0) e ∙ last_start_is (next ∷ rows)

pub last_start_by : (rows : List Row) (start : ℕ) → start ≡ option_map_or (λ (row : Row). row.start) (slice_get rows (length rows - 1)) 0 → start ≡ last_start rows
last_start_by rows start e = e ∙ last_start_is rows
