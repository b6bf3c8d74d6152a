-- A list that goes over bytes one by one, and skips those that an item of the list has read: the items after an item
-- are those from the end of that item on.
use Rattle.std.proofs.Common.{◌≡◌, ℕ, zero, suc, ◌+◌, ◌-◌, List, [], ◌∷◌, length, drop, refl, sym, ap, ◌∙◌, arith, length-drop}
use Rattle.sf_bytes.specs.Cursor.{Cursor}

module _ {X : Type 0} (after : (skipped place : ℕ) → List ℕ → List X) (none : (skipped place : ℕ) → after skipped place [] ≡ [])
    (more : (n place b : ℕ) (bs : List ℕ) → after (suc n) place (b ∷ bs) ≡ after n (place + 1) bs) where
  -- m bytes that are skipped one by one are m bytes fewer
  pub skip : (m place : ℕ) (bytes : List ℕ) → after (length bytes - (length bytes - m)) place bytes ≡ after 0 (place + m) (drop m bytes)
  skip zero place [] = none 0 place ∙ sym (none 0 (place + 0))
  skip (suc m) place [] = none (0 - (0 - suc m)) place ∙ sym (none 0 (place + suc m))
  skip zero place (b ∷ bs) =
      let nothing : length (b ∷ bs) - (length (b ∷ bs) - 0) ≡ 0 = omega arith in
      let same : place + 0 ≡ place = omega arith in
      rw (nothing, same) refl
  skip (suc m) place (b ∷ bs) =
      let one : length (b ∷ bs) - (length (b ∷ bs) - suc m) ≡ suc (length bs - (length bs - m)) = omega arith in
      let on : place + 1 + m ≡ place + suc m = omega arith in
      rw one (more (length bs - (length bs - m)) place b bs ∙ skip m (place + 1) bs ∙ ap (λ (p : ℕ). after 0 p (drop m bs)) on)

  pub behind : (m place : ℕ) (bs : List ℕ) (end : Cursor) → end ≡ record { place = place + m; left = drop m bs } → after (length bs - length end.left) place bs ≡ after 0 end.place end.left
  behind m place bs end e =
      let len : length end.left ≡ length bs - m = ap (λ (c : Cursor). length c.left) e ∙ length-drop m bs in
      let on : after 0 end.place end.left ≡ after 0 (place + m) (drop m bs) = ap (λ (c : Cursor). after 0 c.place c.left) e in
      rw (len, on) (skip m place bs)
