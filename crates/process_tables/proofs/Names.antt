-- The last part of a name, by where its last slash is.
use Rattle.std.specs.Str.{NoCharPasses}
use Rattle.std.specs.Str.Pattern.{HasCharAt}
use Rattle.std.proofs.Common.{◌≡◌, ◌≢◌, ℕ, zero, suc, ◌+◌, ◌-◌, ◌<◌, ◌≤◌, eqb, List, ◌∷◌, drop, get_or, length, refl, sym, ap, ◌∙◌, arith}
use Rattle.std.proofs.lemmas.Bool.{eq-eqb, ne_eqb}
use Rattle.std.proofs.lemmas.List.{get_or-drop, length-drop}
use Rattle.std.proofs.lemmas.Str.{len_utf8_ascii}
use Rattle.std.proofs.lemmas.Str.Pattern.{NoCharPasses-char, drop_at_char}
use Rattle.sf_modules.specs.Name.{last_part}
use Rattle.sf_modules.proofs.Names.{last_after_slash, last_from, last_goes_on, last_is_all, last_of_all}

-- bytes that are no slashes are passed over
down : (name : List ℕ) (m k : ℕ) → ((i : ℕ) → i < k → get_or name (m + i) 0 ≢ 47) → m + k ≤ length name → last_from (m + k) name ≡ last_from m name
down name m zero h le = ap (λ (n : ℕ). last_from n name) (omega arith)
down name m (suc k) h le =
    last_goes_on name (m + suc k) (m + k) 0 (omega arith) (omega (le, arith)) (ne_eqb (get_or name (m + k) 0) 47 (h k (omega arith)))
    ∙ down name m k (λ i lt. h i (omega (lt, arith))) (omega (le, arith))

pub whole_name : (name : List ℕ) → NoCharPasses (λ d. eqb d 47) name → name ≡ last_part name
whole_name name none =
    let all = down name 0 (length name) (λ i lt. NoCharPasses-char 47 name (0 + i) none (omega arith) (omega (lt, arith))) (omega arith) in
    sym (last_is_all name 0 refl) ∙ sym all ∙ last_of_all name (0 + length name) (omega arith)

pub after_slash : (name : List ℕ) (i j : ℕ) → NoCharPasses (λ d. eqb d 47) (drop j name) → HasCharAt 47 name i j → drop j name ≡ last_part name
after_slash name i j none at =
    let low : 47 < 128 = omega arith in
    let cut : drop i name ≡ 47 ∷ drop j name = drop_at_char 47 name i j at low in
    let left : length (drop i name) ≡ suc (length (drop j name)) = ap length cut in
    let all : length (drop i name) ≡ length name - i = length-drop i name in
    let inside : i < length name = omega (left, all, arith) in
    let next : j ≡ i + 1 = omega (arith, at.ends, len_utf8_ascii 47 low) in
    let rest : length (drop j name) ≡ length name - j = length-drop j name in
    let there : j + (length name - j) ≡ length name = omega (inside, next, arith) in
    let passed = down name j (length name - j)
    (λ k lt e. NoCharPasses-char 47 (drop j name) k none low (omega (lt, rest, arith)) (get_or-drop j name k 0 ∙ e)) (omega (there, arith)) in
    sym (last_after_slash name j i 0 next inside (eq-eqb (get_or name i 0) 47 (at.byte low)))
    ∙ sym passed ∙ last_of_all name (j + (length name - j)) there
