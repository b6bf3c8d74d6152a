-- Numbered lines, in order.
use Rattle.std.specs.Prelude.{◌++◌}
use Rattle.std.proofs.Common.{◌≡◌, ℕ, ◌+◌, ◌<◌, ◌≤◌, List, [], ◌∷◌, length, drop, get_or, map, refl, sym, ap, ◌∙◌, append_assoc, append-nil}
use Rattle.std.proofs.lemmas.List.{drop_all, drop_more}
use Rattle.sf_text.specs.Frames.{numbered_lines}

lines-cons : {X : Type 0} (line : ℕ → X → List ℕ) (first : ℕ) (x : X) (items : List X) → numbered_lines line first (x ∷ items) ≡ line first x ++ numbered_lines line (first + 1) items
unfolding numbered_lines
lines-cons line first x items = refl

lines-nil : {X : Type 0} (line : ℕ → X → List ℕ) (first : ℕ) → numbered_lines line first [] ≡ []
unfolding numbered_lines
lines-nil line first = refl

-- what is there and the lines that are left are all that is to be there
pub next_line : {X : Type 0} (line : ℕ → X → List ℕ) (items : List X) (i : ℕ) (d : X) (before after whole : List ℕ) → i < length items → after ≡ before ++ line i (get_or items i d)
    → before ++ numbered_lines line i (drop i items) ≡ whole → after ++ numbered_lines line (i + 1) (drop (i + 1) items) ≡ whole
next_line line items i d before after whole lt e so_far =
    let here = line i (get_or items i d) in
    let later = numbered_lines line (i + 1) (drop (i + 1) items) in
    ap (λ (text : List ℕ). text ++ later) e ∙ append_assoc before here later
    ∙ ap (λ (text : List ℕ). before ++ text) (sym (ap (numbered_lines line i) (drop_more items i d lt) ∙ lines-cons line i (get_or items i d) (drop (i + 1) items))) ∙ so_far

pub no_line : {X : Type 0} (line : ℕ → X → List ℕ) (items : List X) (i : ℕ) (before whole : List ℕ) → length items ≤ i → before ++ numbered_lines line i (drop i items) ≡ whole → before ≡ whole
no_line line items i before whole le so_far = sym (ap (λ (text : List ℕ). before ++ text) (ap (numbered_lines line i) (drop_all i items le) ∙ lines-nil line i) ∙ append-nil before) ∙ so_far

-- the lines of items that are seen as others
pub lines_seen : {X Y : Type 0} (view : X → Y) (line : ℕ → Y → List ℕ) (first : ℕ) (items : List X) → numbered_lines line first (map view items) ≡ numbered_lines (λ n x. line n (view x)) first items
unfolding numbered_lines
lines_seen view line first [] = refl
lines_seen view line first (x ∷ items) = ap (λ (text : List ℕ). line first (view x) ++ text) (lines_seen view line (first + 1) items)
