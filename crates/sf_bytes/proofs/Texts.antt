-- Texts: what a read gives is there, and what is there is read.
use Rattle.std.proofs.Common.{◌≡◌, ◌≢◌, ℕ, zero, suc, ◌+◌, ◌<◌, ◌≤◌, true, false, eqb, List, [], ◌∷◌, ◌++◌, length, get_or, take, Option, Some, None, Ok, refl, sym, ap, subst, ◌∙◌, append_assoc, arith}
use Rattle.std.specs.Prelude.{◌==◌}
use Rattle.std.specs.List.{position, position_or_len}
use Rattle.std.proofs.lemmas.Bool.{lt-ltb, eqb-true}
use Rattle.std.proofs.lemmas.List.{length-append, length-take, take_at, get_or-take}
use Rattle.std.proofs.lemmas.Grind.{take_at_read}
use Rattle.std.proofs.Math.ListN.{get_or-append}
use Rattle.std.proofs.Math.Seq.{get_or-append_seam}
use Rattle.std.proofs.Math.Dec.{eqb-suc-zero}
use Rattle.std.proofs.lemmas.List.Quantifiers.{position-Some}
use Rattle.std.proofs.lemmas.List.Sums.{position_or_len_is}
use Rattle.sf_bytes.specs.Cursor.{Cursor, past}
use Rattle.sf_bytes.specs.Standing.{Passes, Stands, Text}
use Rattle.sf_bytes.specs.Text.{text_upto, text_at}
use Rattle.sf_bytes.proofs.Fields.{ok_is, past-passes, passes-past}

text_found : (o : Option ℕ) (at : Cursor) (text : List ℕ) (after : Cursor) → text_upto o at ≡ Ok (text, after) → (n : ℕ) × (o ≡ Some n) × (take n at.left ≡ text) × (past (n + 1) at ≡ after)
text_found None at text after e = absurd cc
text_found (Some n) at text after e =
    let p = ok_is (take n at.left, past (n + 1) at) (text, after) e in
    (n, refl, ap (λ (q : List ℕ × Cursor). q.0) p, ap (λ (q : List ℕ × Cursor). q.1) p)

-- the text and its zero byte
ending : (n : ℕ) (bytes : List ℕ) → n < length bytes → get_or bytes n 0 ≡ 0 → take (n + 1) bytes ≡ take n bytes ++ 0 ∷ []
ending n bytes within zero_at = (take_at_read bytes n 0 within).1 ∙ ap (λ (b : ℕ). take n bytes ++ b ∷ []) zero_at

is_text : (n : ℕ) (bytes : List ℕ) → n < length bytes → get_or bytes n 0 ≡ 0 → ((k : ℕ) → k < n → eqb (get_or bytes k 0) 0 ≡ false) → Text (take (n + 1) bytes) (take n bytes)
is_text n bytes within zero_at others = record {
  spelled = ending n bytes within zero_at;
  no_zero = λ k h e.
      let lt : k < n = omega (arith, length-take n bytes) in
      let same : get_or bytes k 0 ≡ 0 = sym (get_or-take n bytes k 0 lt) ∙ e in
      let no_test : eqb 0 0 ≡ false = rw same at (others k lt) in
      absurd cc;
}

pub text_takes : (at : Cursor) (text : List ℕ) (after : Cursor) → text_at at ≡ Ok (text, after) → Stands Text text at after
unfolding text_at
text_takes at text after e =
    let f = text_found (position (λ b. b == 0) at.left) at text after e in
    let n = f.0 in
    let p = position-Some (λ (b : ℕ). b == 0) at.left n 0 f.1 in
    let within : n + 1 ≤ length at.left = omega (arith, p.0) in
    record {
      run = take (n + 1) at.left;
      kind = subst (λ (t : List ℕ). Text (take (n + 1) at.left) t) f.2 (is_text n at.left p.0 (eqb-true _ _ p.1) p.2);
      passes = subst (λ (c : Cursor). Passes (take (n + 1) at.left) at c) f.3 (past-passes (n + 1) at within);
    }

not_zero : (b : ℕ) → b ≢ 0 → eqb b 0 ≡ false
not_zero zero h = absurd (h refl)
not_zero (suc b) h = eqb-suc-zero b

-- the zero byte after a text is the first
zero_position : (text rest : List ℕ) → ((k : ℕ) → k < length text → get_or text k 0 ≢ 0) → position (λ (b : ℕ). b == 0) (text ++ 0 ∷ rest) ≡ Some (length text)
zero_position text rest others =
    let long : length text < length (text ++ 0 ∷ rest) = omega (arith, length-append text (0 ∷ rest)) in
    let before : (k : ℕ) → k < length text → eqb (get_or (text ++ 0 ∷ rest) k 0) 0 ≡ false = λ k h. rw (get_or-append text (0 ∷ rest) 0 k h) (not_zero (get_or text k 0) (others k h)) in
    let here : eqb (get_or (text ++ 0 ∷ rest) (length text) 0) 0 ≡ true = rw (get_or-append_seam text 0 rest 0) refl in
    let first : position_or_len (λ (b : ℕ). b == 0) (text ++ 0 ∷ rest) ≡ length text = position_or_len_is (λ (b : ℕ). b == 0) (text ++ 0 ∷ rest) (length text) 0 (omega arith) before (λ _. here) in
    rw (first, lt-ltb _ _ long) refl

pub text_again : (at : Cursor) (text : List ℕ) (after : Cursor) → Stands Text text at after → text_at at ≡ Ok (text, after)
unfolding text_at
text_again at text after s =
    let spelled : at.left ≡ text ++ 0 ∷ after.left = s.passes.bytes ∙ ap (λ (xs : List ℕ). xs ++ after.left) s.kind.spelled ∙ append_assoc text (0 ∷ []) after.left in
    let where_is : position (λ (b : ℕ). b == 0) at.left ≡ Some (length text) = ap (position (λ (b : ℕ). b == 0)) spelled ∙ zero_position text after.left s.kind.no_zero in
    let whole : length s.run ≡ length text + 1 = ap length s.kind.spelled ∙ length-append text (0 ∷ []) in
    let text_is : take (length text) at.left ≡ text = rw spelled (take_at text (0 ∷ after.left) (length text) refl) in
    let after_is : past (length text + 1) at ≡ after = rw (← whole) (passes-past s.run at after s.passes) in
    ap (λ (o : Option ℕ). text_upto o at) where_is ∙ rw (text_is, after_is) refl
