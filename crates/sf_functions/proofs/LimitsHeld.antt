-- The limits of functions and rows.
use Rattle.std.specs.Prelude.{nat_lt}
use Rattle.std.specs.Option.{option_map}
use Rattle.std.proofs.Common.{◌≡◌, ℕ, ◌^◌, ◌<◌, ◌≤◌, Bool, true, false, cond, Option, Some, None, refl, sym, ◌∙◌}
use Rattle.std.proofs.lemmas.Bool.{lt-ltb, le-ltb, ltb-false}
use Rattle.sf_functions.specs.declared.limits.Limit.{Limit}
use Rattle.sf_functions.specs.declared.limits.Limit.TheVariants.{Functions, Rows}
use Rattle.sf_functions.specs.Limits.{exceeded}

abbrev by_tests : (functions rows : Bool) → Option Limit
by_tests functions rows = cond functions (Some Functions) (cond rows (Some Rows) None)

tested : (functions rows : ℕ) (many more : Bool) → nat_lt (2 ^ 21) functions ≡ many → nat_lt (2 ^ 24) rows ≡ more → exceeded functions rows ≡ by_tests many more
tested functions rows many more p q = rw (p, q) refl

pub too_many_functions : (functions rows : ℕ) → 2 ^ 21 < functions → exceeded functions rows ≡ Some Functions
too_many_functions functions rows many = tested functions rows true (nat_lt (2 ^ 24) rows) (lt-ltb (2 ^ 21) functions many) refl

pub too_many_rows : (functions rows : ℕ) → functions ≤ 2 ^ 21 → 2 ^ 24 < rows → exceeded functions rows ≡ Some Rows
too_many_rows functions rows few many = tested functions rows false true (le-ltb (2 ^ 21) functions few) (lt-ltb (2 ^ 24) rows many)

pub none_exceeded : (functions rows : ℕ) → functions ≤ 2 ^ 21 → rows ≤ 2 ^ 24 → exceeded functions rows ≡ None
none_exceeded functions rows few small = tested functions rows false false (le-ltb (2 ^ 21) functions few) (le-ltb (2 ^ 24) rows small)

-- ---- and back
functions_within : (functions rows : ℕ) (many : Bool) → nat_lt (2 ^ 21) functions ≡ many → exceeded functions rows ≡ None → many ≡ false
functions_within functions rows false p h = refl
functions_within functions rows true p h = let is = sym (tested functions rows true (nat_lt (2 ^ 24) rows) p refl) ∙ h in cc

rows_within : (functions rows : ℕ) (more : Bool) → nat_lt (2 ^ 24) rows ≡ more → exceeded functions rows ≡ None → more ≡ false
rows_within functions rows false p h = refl
rows_within functions rows true p h =
    let is = sym (tested functions rows false true (functions_within functions rows (nat_lt (2 ^ 21) functions) refl h) p) ∙ h in cc

pub few_functions : (functions rows : ℕ) → exceeded functions rows ≡ None → functions ≤ 2 ^ 21
few_functions functions rows h = ltb-false (2 ^ 21) functions (functions_within functions rows (nat_lt (2 ^ 21) functions) refl h)

pub few_rows : (functions rows : ℕ) → exceeded functions rows ≡ None → rows ≤ 2 ^ 24
few_rows functions rows h = ltb-false (2 ^ 24) rows (rows_within functions rows (nat_lt (2 ^ 24) rows) refl h)

-- no fault, and so no limit
pub none_over : {F : Type 0} (fault : Limit → F) (limit : Option Limit) → option_map fault limit ≡ None → limit ≡ None
none_over fault None e = refl
none_over fault (Some limit) e = cc
