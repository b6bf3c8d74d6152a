-- Segments whose addresses rise, and the search among them by halves.
use Rattle.std.specs.Prelude.{nat_le, ◌&&◌}
use Rattle.std.specs.List.{find}
use Rattle.std.proofs.Common.{◌≡◌, ℕ, zero, suc, ◌+◌, ◌-◌, ◌/◌, ◌<◌, ◌≤◌, Bool, true, false, cond, List, [], ◌∷◌, length, get_or, Option, Some, None, refl, sym, ap, subst, ◌∙◌, arith, inl, inr}
use Rattle.std.proofs.lemmas.Bool.{leb-true, le-leb, lt-leb, cases_lt}
use Rattle.core_notes.specs.Segment.{SegmentView, is_load}
use Rattle.core_notes.specs.Memory.{IsCountUpto, memory_end, rise_from}
use Rattle.core_notes.specs.MemoryBytes.{is_bytes_holder}

first_true : (a b : Bool) → (a && b) ≡ true → a ≡ true
first_true true b h = refl
first_true false b h = h

second_true : (a b : Bool) → (a && b) ≡ true → b ≡ true
second_true true b h = h
second_true false b h = absurd (let no : false ≡ true = h in cc)

second_false : (a b : Bool) → b ≡ false → (a && b) ≡ false
second_false true b h = h
second_false false b h = refl

pub rise-cons : (end : ℕ) (s : SegmentView) (ss : List SegmentView) → rise_from end (s ∷ ss) ≡ (nat_le end s.vaddr && rise_from (memory_end s) ss)
unfolding rise_from
rise-cons end s ss = refl

pub rise-nil : (end : ℕ) → rise_from end [] ≡ true
unfolding rise_from
rise-nil end = refl

-- one segment more, whose address is where the memory before it ends, or before that
pub rise_goes_on : (end : ℕ) (s : SegmentView) (ss : List SegmentView) → end ≤ s.vaddr → rise_from end (s ∷ ss) ≡ rise_from (memory_end s) ss
rise_goes_on end s ss h = rise-cons end s ss ∙ ap (λ (b : Bool). b && rise_from (memory_end s) ss) (le-leb end s.vaddr h)

pub rise_stops : (end : ℕ) (s : SegmentView) (ss : List SegmentView) → s.vaddr < end → rise_from end (s ∷ ss) ≡ false
rise_stops end s ss h = rise-cons end s ss ∙ ap (λ (b : Bool). b && rise_from (memory_end s) ss) (lt-leb end s.vaddr h)

-- ---- the order that it says
first_rises : (end : ℕ) (s : SegmentView) (ss : List SegmentView) → rise_from end (s ∷ ss) ≡ true → end ≤ s.vaddr
first_rises end s ss h = leb-true end s.vaddr (first_true (nat_le end s.vaddr) (rise_from (memory_end s) ss) (sym (rise-cons end s ss) ∙ h))

others_rise : (end : ℕ) (s : SegmentView) (ss : List SegmentView) → rise_from end (s ∷ ss) ≡ true → rise_from (memory_end s) ss ≡ true
others_rise end s ss h = second_true (nat_le end s.vaddr) (rise_from (memory_end s) ss) (sym (rise-cons end s ss) ∙ h)

end_if : (b : Bool) (start len : ℕ) → start ≤ cond b (start + len) start
end_if true start len = omega arith
end_if false start len = omega arith

starts_by_end : (s : SegmentView) → s.vaddr ≤ memory_end s
starts_by_end s = end_if (is_load s) s.vaddr (length s.bytes)

above_end : (end : ℕ) (ss : List SegmentView) → rise_from end ss ≡ true → (k : ℕ) (d : SegmentView) → k < length ss → end ≤ (get_or ss k d).vaddr
above_end end [] h k d lt = absurd (omega (lt, arith))
above_end end (s ∷ ss) h zero d lt = first_rises end s ss h
above_end end (s ∷ ss) h (suc k) d lt =
    let later = above_end (memory_end s) ss (others_rise end s ss h) k d (omega (lt, arith)) in
    omega (first_rises end s ss h, starts_by_end s, later, arith)

ordered : (end : ℕ) (ss : List SegmentView) → rise_from end ss ≡ true → (i j : ℕ) (d : SegmentView) → i < j → j < length ss → memory_end (get_or ss i d) ≤ (get_or ss j d).vaddr
ordered end [] h i j d lt within = absurd (omega (within, arith))
ordered end (s ∷ ss) h i zero d lt within = absurd (omega (lt, arith))
ordered end (s ∷ ss) h zero (suc j) d lt within = above_end (memory_end s) ss (others_rise end s ss h) j d (omega (within, arith))
ordered end (s ∷ ss) h (suc i) (suc j) d lt within = ordered (memory_end s) ss (others_rise end s ss h) i j d (omega (lt, arith)) (omega (within, arith))

starts_rise : (end : ℕ) (ss : List SegmentView) → rise_from end ss ≡ true → (i j : ℕ) (d : SegmentView) → i < j → j < length ss → (get_or ss i d).vaddr ≤ (get_or ss j d).vaddr
starts_rise end ss h i j d lt within = omega (starts_by_end (get_or ss i d), ordered end ss h i j d lt within, arith)

-- ---- halving: each address before `low` is reached, and none from `high` on
pub record Halving (ss : List SegmentView) (address low high : ℕ) : Type 0 where
  pub order : low ≤ high
  pub within : high ≤ length ss
  pub reached : (k : ℕ) (d : SegmentView) → k < low → (get_or ss k d).vaddr ≤ address
  pub above : (k : ℕ) (d : SegmentView) → high ≤ k → k < length ss → address < (get_or ss k d).vaddr

pub halving_starts : (ss : List SegmentView) (address count : ℕ) → count ≡ length ss → Halving ss address 0 count
halving_starts ss address count e = record {
  order = omega arith;
  within = omega (e, arith);
  reached = λ k d lt. absurd (omega (lt, arith));
  above = λ k d le lt. absurd (omega (e, le, lt, arith));
}

-- a member and those before it, or after it
upto_member : (ss : List SegmentView) (address m : ℕ) → rise_from 0 ss ≡ true → m < length ss → ((d : SegmentView) → (get_or ss m d).vaddr ≤ address)
    → (k : ℕ) (d : SegmentView) → k < m + 1 → (get_or ss k d).vaddr ≤ address
upto_member ss address m h within le k d lt =
    elim (cases_lt k m) [
      | inl before ↦ omega (starts_rise 0 ss h k m d before within, le d, arith)
      | inr same ↦ let e : m ≡ k = omega (same, lt, arith) in subst (λ (j : ℕ). (get_or ss j d).vaddr ≤ address) e (le d)
    ]

from_member : (ss : List SegmentView) (address m : ℕ) → rise_from 0 ss ≡ true → ((d : SegmentView) → address < (get_or ss m d).vaddr)
    → (k : ℕ) (d : SegmentView) → m ≤ k → k < length ss → address < (get_or ss k d).vaddr
from_member ss address m h gt k d le within =
    elim (cases_lt m k) [
      | inl before ↦ omega (starts_rise 0 ss h m k d before within, gt d, arith)
      | inr same ↦ let e : m ≡ k = omega (same, le, arith) in subst (λ (j : ℕ). address < (get_or ss j d).vaddr) e (gt d)
    ]

pub upper : (ss : List SegmentView) (address low high : ℕ) → rise_from 0 ss ≡ true → Halving ss address low high → low < high
    → ((d : SegmentView) → (get_or ss (low + (high - low) / 2) d).vaddr ≤ address) → Halving ss address (low + (high - low) / 2 + 1) high
upper ss address low high h v lt le = record {
  order = omega (lt, arith);
  within = v.within;
  reached = upto_member ss address (low + (high - low) / 2) h (omega (lt, v.within, arith)) le;
  above = v.above;
}

pub lower : (ss : List SegmentView) (address low high : ℕ) → rise_from 0 ss ≡ true → Halving ss address low high → low < high
    → ((d : SegmentView) → address < (get_or ss (low + (high - low) / 2) d).vaddr) → Halving ss address low (low + (high - low) / 2)
lower ss address low high h v lt gt = record {
  order = omega (lt, arith);
  within = omega (lt, v.within, arith);
  reached = v.reached;
  above = from_member ss address (low + (high - low) / 2) h gt;
}

pub halved : (ss : List SegmentView) (address low high : ℕ) → Halving ss address low high → high ≤ low → IsCountUpto address ss low
halved ss address low high v le = record {
  within = omega (v.order, v.within, le, arith);
  reached = v.reached;
  above = λ k d from within. v.above k d (omega (v.order, le, from, arith)) within;
}

-- ---- what holds bytes, of which there is one at least
ends_if : (b a : Bool) (start size address len : ℕ) → 0 < len → cond b (start + size) start ≤ address → (b && (a && nat_le (address + len) (start + size))) ≡ false
ends_if false a start size address len some le = refl
ends_if true a start size address len some le = second_false a (nat_le (address + len) (start + size)) (lt-leb (address + len) (start + size) (omega (some, le, arith)))

ends_before : (address len : ℕ) (s : SegmentView) → 0 < len → memory_end s ≤ address → is_bytes_holder address len s ≡ false
ends_before address len s some le = ends_if (is_load s) (nat_le s.vaddr address) s.vaddr (length s.bytes) address len some le

starts_after : (address len : ℕ) (s : SegmentView) → address < s.vaddr → is_bytes_holder address len s ≡ false
starts_after address len s lt =
    second_false (is_load s) (nat_le s.vaddr address && nat_le (address + len) (s.vaddr + length s.bytes))
    (ap (λ (b : Bool). b && nat_le (address + len) (s.vaddr + length s.bytes)) (lt-leb s.vaddr address lt))

none_passes : (p : SegmentView → Bool) (ss : List SegmentView) → ((k : ℕ) (d : SegmentView) → k < length ss → p (get_or ss k d) ≡ false) → find p ss ≡ None
none_passes p [] h = refl
none_passes p (s ∷ ss) h =
    let here : p s ≡ false = h 0 s (omega arith) in
    rw here (none_passes p ss (λ k d lt. h (suc k) d (omega (lt, arith))))

-- all others fail
only_one : (p : SegmentView → Bool) (ss : List SegmentView) (i : ℕ) (d : SegmentView) → i < length ss → ((k : ℕ) (e : SegmentView) → k < length ss → (k ≡ i → ⊥) → p (get_or ss k e) ≡ false)
    → find p ss ≡ cond (p (get_or ss i d)) (Some (get_or ss i d)) None
only_one p [] i d lt h = absurd (omega (lt, arith))
only_one p (s ∷ ss) zero d lt h =
    ap (λ (o : Option SegmentView). cond (p s) (Some s) o) (none_passes p ss (λ k e within. h (suc k) e (omega (within, arith)) (λ no. omega (no, arith))))
only_one p (s ∷ ss) (suc i) d lt h =
    let here : p s ≡ false = h 0 s (omega arith) (λ no. omega (no, arith)) in
    rw here (only_one p ss i d (omega (lt, arith)) (λ k e within other. h (suc k) e (omega (within, arith)) (λ same. other (omega (same, arith)))))

pub none_reached : (address len : ℕ) (ss : List SegmentView) → IsCountUpto address ss 0 → find (is_bytes_holder address len) ss ≡ None
none_reached address len ss c = none_passes (is_bytes_holder address len) ss (λ k d lt. starts_after address len (get_or ss k d) (c.above k d (omega arith) lt))

-- only the last segment that is reached can hold the bytes
pub last_reached : (address len : ℕ) (ss : List SegmentView) (n : ℕ) (d : SegmentView) → 0 < len → rise_from 0 ss ≡ true → IsCountUpto address ss (n + 1)
    → find (is_bytes_holder address len) ss ≡ cond (is_bytes_holder address len (get_or ss n d)) (Some (get_or ss n d)) None
last_reached address len ss n d some h c =
    only_one (is_bytes_holder address len) ss n d (omega (c.within, arith)) (λ k e within other.
    elim (cases_lt k n) [
      | inl before ↦ ends_before address len (get_or ss k e) some (omega (ordered 0 ss h k n e before (omega (c.within, arith)), c.reached n e (omega arith), arith))
      | inr from ↦ starts_after address len (get_or ss k e) (c.above k e (omega (from, other, arith)) within)
    ])
