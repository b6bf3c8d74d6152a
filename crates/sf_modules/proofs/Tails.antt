-- The most parts that entries' names have in common with a word, one entry after the other.
use Rattle.std.specs.Prelude.{max}
use Rattle.std.proofs.Common.{◌≡◌, ℕ, List, [], ◌∷◌, refl, sym, ap, ◌∙◌, arith}
use Rattle.sf_modules.specs.Entry.{EntryView}
use Rattle.sf_modules.specs.Match.{longest_tail}
use Rattle.sf_modules.specs.Name.{common_tail}

pub longest-cons : (word : List ℕ) (e : EntryView) (es : List EntryView) → longest_tail word (e ∷ es) ≡ max (common_tail word e.name) (longest_tail word es)
unfolding longest_tail
longest-cons word e es = refl

longest-nil : (word : List ℕ) → longest_tail word [] ≡ 0
unfolding longest_tail
longest-nil word = refl

three : (a b c : ℕ) → max (max b a) c ≡ max a (max b c)
three a b c = omega arith

pub starts : (word : List ℕ) (entries all : List EntryView) → longest_tail word entries ≡ longest_tail word all → max 0 (longest_tail word entries) ≡ longest_tail word all
starts word entries all same = omega (same, arith)

pub one_more : (word : List ℕ) (entries later : List EntryView) (e : EntryView) (longest new all : ℕ) → entries ≡ e ∷ later → new ≡ max (common_tail word e.name) longest
    → max longest (longest_tail word entries) ≡ all → max new (longest_tail word later) ≡ all
one_more word entries later e longest new all are grown h =
    let tail = common_tail word e.name in
    let here : longest_tail word entries ≡ max tail (longest_tail word later) = ap (longest_tail word) are ∙ longest-cons word e later in
    ap (λ (n : ℕ). max n (longest_tail word later)) grown ∙ three longest tail (longest_tail word later) ∙ ap (max longest) (sym here) ∙ h

pub none_more : (word : List ℕ) (entries : List EntryView) (longest all : ℕ) → entries ≡ [] → max longest (longest_tail word entries) ≡ all → longest ≡ all
none_more word entries longest all are h =
    let none : longest_tail word entries ≡ 0 = ap (longest_tail word) are ∙ longest-nil word in
    omega (none, h, arith)
