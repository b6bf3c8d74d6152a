-- Lists of functions that share no address, made into one.
use Rattle.std.specs.List.{AllAdjacentBelow, AllPairs}
use Rattle.std.specs.List.Sorted.{IsPermutation, IsNonDecreasingBy}
use Rattle.std.proofs.Common.{◌+◌, ◌<◌, ◌≤◌, List, All, length, get_or, arith, inl, inr}
use Rattle.std.proofs.lemmas.List.Sorted.{All-permutation}
use Rattle.sf_model.specs.declared.function.Func.{Func}
use Rattle.sf_model.specs.Union.{IsApart}
use Rattle.sf_merge.specs.Joining.{RisesStrictly}
use Rattle.sf_merge.proofs.Apart.{EndsBy, rises, turned}
use Rattle.sf_merge.proofs.Permutations.{pairs_permuted}

pub apart_by : (f g : Func) → 0 < f.size → 0 < g.size → f.start ≤ g.start → IsApart f g → EndsBy f g
apart_by f g some other le (inl none) = absurd (omega (none, some, arith))
apart_by f g some other le (inr (inl none)) = absurd (omega (none, other, arith))
apart_by f g some other le (inr (inr (inl ends))) = ends
apart_by f g some other le (inr (inr (inr ends))) = absurd (omega (ends, le, other, arith))

joined_apart : (joined : List Func) → All (λ (f : Func). 0 < f.size) joined → AllPairs IsApart joined → IsNonDecreasingBy (λ (f : Func). f.start) joined → AllAdjacentBelow EndsBy joined (length joined)
joined_apart joined sizes apart up = λ k d lt. apart_by (get_or joined k d) (get_or joined (k + 1) d) (sizes k d (omega (lt, arith))) (sizes (k + 1) d lt) (up k (k + 1) d (omega arith) lt) (apart k (k + 1) d (omega arith) lt)

-- what is joined, by the list in order
pub record AreJoined (fs joined : List Func) : Type 0 where
  pub moved : IsPermutation fs joined
  pub apart : AllAdjacentBelow EndsBy joined (length joined)
  pub rising : RisesStrictly joined

pub are_joined : (fs joined : List Func) → All (λ (f : Func). 0 < f.size) fs → AllPairs IsApart fs → IsPermutation fs joined → IsNonDecreasingBy (λ (f : Func). f.start) joined → AreJoined fs joined
are_joined fs joined sizes apart moved up =
    let sized = All-permutation (λ (f : Func). 0 < f.size) fs joined moved sizes in
    let ends = joined_apart joined sized (pairs_permuted IsApart turned fs joined moved apart) up in
    record { moved = moved; apart = ends; rising = rises joined sized ends }
