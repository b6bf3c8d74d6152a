-- There is one order by rising place in which the fields of one place stay in their order, and it's the one that is defined.
use Rattle.std.specs.Prelude.{nat_le}
use Rattle.std.specs.List.{filter}
use Rattle.std.proofs.Common.{◌≡◌, ℕ, ◌<◌, ◌≤◌, Bool, true, false, cond, List, [], ◌∷◌, refl, sym, ap, ◌∙◌, arith, inl, inr}
use Rattle.std.proofs.lemmas.Bool.{cases_lt, leb-true, leb-false}
use Rattle.sf_model.proofs.StableOrder.{NoneBelow, Rises, one_order_of, rises_from_items, tied, tied_apart, tied_apart_back}
use Rattle.elf_reloc.specs.declared.fix.RelocatedField.{RelocatedField}
use Rattle.elf_reloc.specs.Order.{InOrder, place_of}
use Rattle.elf_reloc.specs.Applied.{placed_among, by_place}

abbrev tied_with : RelocatedField → RelocatedField → Bool
tied_with = tied place_of

abbrev Rising : List RelocatedField → Type 0
Rising = Rises place_of

lower : (low least : ℕ) (es : List RelocatedField) → low ≤ least → NoneBelow place_of least es → NoneBelow place_of low es
lower low least [] le h = tt
lower low least (e ∷ es) le h = (omega (arith, le, h.0), lower low least es le h.1)

-- ---- the defined order
by_le : (a b : ℕ) → nat_le a b ≡ true → a ≤ b
by_le a b h = leb-true a b h

placed_at : (f g : RelocatedField) (gs : List RelocatedField) (b : Bool) → nat_le f.place g.place ≡ b → placed_among f (g ∷ gs) ≡ cond b (f ∷ g ∷ gs) (g ∷ placed_among f gs)
placed_at f g gs b e = ap (λ (t : Bool). cond t (f ∷ g ∷ gs) (g ∷ placed_among f gs)) e

none_by : (least : ℕ) (f g : RelocatedField) (gs : List RelocatedField) (b : Bool) → least ≤ place_of f → NoneBelow place_of least (g ∷ gs) → NoneBelow place_of least (placed_among f gs) → NoneBelow place_of least (cond b (f ∷ g ∷ gs) (g ∷ placed_among f gs))
none_by least f g gs true le h rest = (le, h)
none_by least f g gs false le h rest = (h.0, rest)

among_none : (least : ℕ) (f : RelocatedField) (gs : List RelocatedField) → least ≤ place_of f → NoneBelow place_of least gs → NoneBelow place_of least (placed_among f gs)
among_none least f [] le h = (le, tt)
among_none least f (g ∷ gs) le h = none_by least f g gs (nat_le f.place g.place) le h (among_none least f gs le h.1)

rises_by : (f g : RelocatedField) (gs : List RelocatedField) (b : Bool) → nat_le f.place g.place ≡ b → Rising (g ∷ gs) → Rising (placed_among f gs) → Rising (cond b (f ∷ g ∷ gs) (g ∷ placed_among f gs))
rises_by f g gs true e h rest =
    let le : f.place ≤ g.place = leb-true f.place g.place e in
    ((le, lower f.place g.place gs le h.0), h)
rises_by f g gs false e h rest =
    let lt : g.place < f.place = leb-false f.place g.place e in
    (among_none g.place f gs (omega (arith, lt)) h.0, rest)

among_rises : (f : RelocatedField) (gs : List RelocatedField) → Rising gs → Rising (placed_among f gs)
among_rises f [] h = (tt, tt)
among_rises f (g ∷ gs) h = rises_by f g gs (nat_le f.place g.place) refl h (among_rises f gs h.1)

pub by_place_rises : (fs : List RelocatedField) → Rising (by_place fs)
by_place_rises [] = tt
by_place_rises (f ∷ fs) = among_rises f (by_place fs) (by_place_rises fs)

-- ---- ties stay in their order
passed : (x f : RelocatedField) (gs : List RelocatedField) → tied_with x f ≡ false → filter (tied_with x) (f ∷ gs) ≡ filter (tied_with x) gs
passed x f gs e = ap (λ (b : Bool). cond b (f ∷ filter (tied_with x) gs) (filter (tied_with x) gs)) e

swapped_before : (x f g : RelocatedField) (gs : List RelocatedField) → tied_with x f ≡ false → filter (tied_with x) (g ∷ f ∷ gs) ≡ filter (tied_with x) (f ∷ g ∷ gs)
swapped_before x f g gs e =
    ap (λ (xs : List RelocatedField). cond (tied_with x g) (g ∷ xs) xs) (passed x f gs e) ∙ sym (passed x f (g ∷ gs) e)

swapped_behind : (x f g : RelocatedField) (gs : List RelocatedField) → tied_with x g ≡ false → filter (tied_with x) (g ∷ f ∷ gs) ≡ filter (tied_with x) (f ∷ g ∷ gs)
swapped_behind x f g gs e =
    passed x g (f ∷ gs) e ∙ ap (λ (xs : List RelocatedField). cond (tied_with x f) (f ∷ xs) xs) (sym (passed x g gs e))

swapped : (x f g : RelocatedField) (gs : List RelocatedField) → g.place < f.place → filter (tied_with x) (g ∷ f ∷ gs) ≡ filter (tied_with x) (f ∷ g ∷ gs)
swapped x f g gs lt = elim (cases_lt (place_of x) (place_of f)) [
  | inl before ↦ swapped_before x f g gs (tied_apart place_of x f before)
  | inr behind ↦ swapped_behind x f g gs (tied_apart_back place_of x g (omega (arith, behind, lt)))
]

stable_by : (x f g : RelocatedField) (gs : List RelocatedField) (b : Bool) → nat_le f.place g.place ≡ b → filter (tied_with x) (placed_among f gs) ≡ filter (tied_with x) (f ∷ gs)
    → filter (tied_with x) (cond b (f ∷ g ∷ gs) (g ∷ placed_among f gs)) ≡ filter (tied_with x) (f ∷ g ∷ gs)
stable_by x f g gs true e rest = refl
stable_by x f g gs false e rest =
    let lt : g.place < f.place = leb-false f.place g.place e in
    ap (λ (xs : List RelocatedField). cond (tied_with x g) (g ∷ xs) xs) rest ∙ swapped x f g gs lt

among_stable : (x f : RelocatedField) (gs : List RelocatedField) → filter (tied_with x) (placed_among f gs) ≡ filter (tied_with x) (f ∷ gs)
among_stable x f [] = refl
among_stable x f (g ∷ gs) = stable_by x f g gs (nat_le f.place g.place) refl (among_stable x f gs)

by_place_stable : (x : RelocatedField) (fs : List RelocatedField) → filter (tied_with x) (by_place fs) ≡ filter (tied_with x) fs
by_place_stable x [] = refl
by_place_stable x (f ∷ fs) = among_stable x f (by_place fs) ∙ ap (λ (xs : List RelocatedField). cond (tied_with x f) (f ∷ xs) xs) (by_place_stable x fs)

-- ---- one order
pub is_by_place : (all sorted : List RelocatedField) → InOrder all sorted → by_place all ≡ sorted
is_by_place all sorted order = one_order_of place_of (by_place all) sorted (rises_from_items place_of (by_place all) (by_place_rises all)) order.rising (λ x. by_place_stable x all ∙ sym (order.stable x))
