-- The greatest ends of lines, one stretch after the other, and what they say of a place.
use Rattle.std.specs.Prelude.{nat_lt, ◌||◌, slice_index}
use Rattle.std.specs.List.{list_any}
use Rattle.std.specs.List.Sorted.{IsNonDecreasingBy}
use Rattle.std.proofs.Common.{◌≡◌, ℕ, ◌+◌, ◌-◌, ◌<◌, ◌≤◌, Bool, List, [], ◌∷◌, ◌++◌, length, get_or, take, sym, ap, ◌∙◌, arith, inl, inr}
use Rattle.std.proofs.lemmas.Bool.{cases_lt, le-ltb}
use Rattle.std.proofs.lemmas.List.{get_or-append_right, get_or_append_left, get_or_default, length-append}
use Rattle.std.proofs.lemmas.List.Folds.{list_any_more}
use Rattle.sf_modules.specs.declared.stretch.Stretch.{Stretch}
use Rattle.sf_modules.specs.Stretch.{AreReached, end_point, ends_after, point, start_point}

-- those before the stretch of number k are reached; the last of them is on this line, and the greatest end there is this one
pub record Reaching (stretches : List Stretch) (k line end : ℕ) (reach : List ℕ) : Type 0 where
  pub count : length reach ≡ k
  pub each : (j at : ℕ) (d : Stretch) → j < k → nat_lt at (point (get_or stretches j d).line (slice_index reach j)) ≡ list_any (ends_after at) (take (j + 1) stretches)
  pub so_far : (at : ℕ) → nat_lt at (point line end) ≡ list_any (ends_after at) (take k stretches)
  pub later : (j : ℕ) (d : Stretch) → k ≤ j → j < length stretches → point line 0 ≤ start_point (get_or stretches j d)

pub none_reached : (stretches : List Stretch) (reach : List ℕ) → reach ≡ [] → Reaching stretches 0 0 0 reach
none_reached stretches reach e = record {
  count = ap length e;
  each = λ j at d lt. absurd (omega (lt, arith));
  so_far = λ at. le-ltb at (point 0 0) (omega arith);
  later = λ j d le lt. omega arith;
}

pub one_reached : (stretches : List Stretch) (k : ℕ) (s : Stretch) (line end new : ℕ) (reach grown : List ℕ) → k < length stretches → s ≡ get_or stretches k s → IsNonDecreasingBy start_point stretches
    → ((at : ℕ) → nat_lt at (point s.line new) ≡ (nat_lt at (point line end) || nat_lt at (end_point s))) → grown ≡ reach ++ new ∷ []
    → Reaching stretches k line end reach → Reaching stretches (k + 1) s.line new grown
one_reached stretches k s line end new reach grown lt is rise further is_grown h = record {
  count = let more = length-append reach (new ∷ []) in let same = h.count in let all = ap length is_grown in omega (all, more, same, arith);
  each = λ j at d within.
      elim (cases_lt j k) [
        | inl before ↦
            let count = h.count in
            let old : slice_index grown j ≡ slice_index reach j = ap (λ (xs : List ℕ). slice_index xs j) is_grown ∙ get_or_append_left reach (new ∷ []) 0 j (omega (before, count, arith)) in
            ap (λ (e : ℕ). nat_lt at (point (get_or stretches j d).line e)) old ∙ h.each j at d before
        | inr from ↦
            let same : j ≡ k = omega (from, within, arith) in
            let there : get_or stretches j d ≡ s = ap (λ (i : ℕ). get_or stretches i d) same ∙ get_or_default stretches k d s lt ∙ sym is in
            let none : j - k ≡ 0 = omega (same, arith) in
            let last : slice_index grown j ≡ new = ap (λ (xs : List ℕ). slice_index xs j) is_grown ∙ get_or-append_right reach (new ∷ []) k j 0 h.count (omega (same, arith)) ∙ ap (λ (i : ℕ). get_or (new ∷ []) i 0) none in
            ap (λ (x : Stretch). nat_lt at (point x.line (slice_index grown j))) there ∙ ap (λ (e : ℕ). nat_lt at (point s.line e)) last
            ∙ upto at ∙ ap (λ (i : ℕ). list_any (ends_after at) (take (i + 1) stretches)) (sym same)
      ];
  so_far = upto;
  later = λ j d from within.
      let after = rise k j d (omega (from, arith)) within in
      let same = ap start_point (get_or_default stretches k d s lt ∙ sym is) in
      omega (after, same, arith);
}
  where
    upto : (at : ℕ) → nat_lt at (point s.line new) ≡ list_any (ends_after at) (take (k + 1) stretches)
    upto at = further at ∙ ap (λ (b : Bool). b || nat_lt at (end_point s)) (h.so_far at) ∙ ap (λ (x : Stretch). list_any (ends_after at) (take k stretches) || nat_lt at (end_point x)) is
        ∙ sym (list_any_more (ends_after at) stretches k s lt)

pub all_reached : (stretches : List Stretch) (k line end : ℕ) (reach : List ℕ) → k ≡ length stretches → Reaching stretches k line end reach → AreReached stretches reach
all_reached stretches k line end reach all h = record {
  count = h.count ∙ all;
  each = λ j at d lt. h.each j at d (omega (lt, all, arith));
}
