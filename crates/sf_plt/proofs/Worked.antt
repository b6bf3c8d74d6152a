-- The operations at numbers that tell signed from unsigned and one order from the other, the expression's value in an entry, and
-- the limits.
use Rattle.std.proofs.Common.{◌≡◌, ◌-◌, ◌^◌, [], ◌∷◌, Some, None, refl}
use Rattle.sf_model.specs.Recovery.{moved}
use Rattle.sf_asm.specs.declared.fault.GatherFault.TheVariants.{TooManyFunctions, TooManyRows}
use Rattle.sf_plt.specs.Expression.{done_alone, expression_value}
use Rattle.sf_plt.specs.Linking.{further_fault}

-- -1 is not 0 or more, and 0 is -1 or more
signed_below : done_alone 0x2a (0 ∷ (2 ^ 64 - 1) ∷ []) ≡ Some (0 ∷ [])
signed_below = refl

signed_above : done_alone 0x2a ((2 ^ 64 - 1) ∷ 0 ∷ []) ≡ Some (1 ∷ [])
signed_above = refl

-- the number below the topmost one is shifted
shifted : done_alone 0x24 (3 ∷ 1 ∷ []) ≡ Some (8 ∷ [])
shifted = refl

-- sums wrap
wrapped : done_alone 0x22 ((2 ^ 64 - 8) ∷ 24 ∷ []) ≡ Some (16 ∷ [])
wrapped = refl

-- an operation that has no value here
none : done_alone 0x96 [] ≡ None
none = refl

too_few : done_alone 0x1a (1 ∷ []) ≡ None
too_few = refl

-- before and after the push of an entry
before_push : expression_value 0x7ffe0000 0x101a ≡ Some 0x7ffe0008
unfolding expression_value moved
before_push = refl

after_push : expression_value 0x7ffe0000 0x101b ≡ Some 0x7ffe0010
unfolding expression_value moved
after_push = refl

-- a table counts as a function and as four rows more
within_limits : further_fault (2 ^ 21 - 2) (2 ^ 24 - 8) 2 ≡ None
within_limits = refl

functions_first : further_fault (2 ^ 21 - 1) (2 ^ 24 - 7) 2 ≡ Some TooManyFunctions
functions_first = refl

too_many_rows : further_fault (2 ^ 21 - 2) (2 ^ 24 - 7) 2 ≡ Some TooManyRows
too_many_rows = refl

without_tables : further_fault (2 ^ 21) (2 ^ 24) 0 ≡ None
without_tables = refl
