-- Where a text ends, by what was seen of the file's bytes.
use Rattle.std.proofs.Common.{◌≡◌, ℕ, ◌+◌, ◌-◌, ◌<◌, ◌≤◌, Bool, true, false, not, List, [], ◌∷◌, length, get_or, take, drop, min, max, All, refl, sym, ap, ◌∙◌, arith, inl, inr}
use Rattle.std.specs.Ordering.{match_ordering}
use Rattle.std.specs.declared.cmp.Ordering.{Ordering}
use Rattle.std.specs.declared.cmp.Ordering.TheVariants.{Less, Equal, Greater}
use Rattle.std.specs.BTreeMap.{insert_entry}
use Rattle.std.proofs.lemmas.Bool.{cases_lt}
use Rattle.std.proofs.lemmas.List.{get_or-drop, get_or-take, get_or_past, length-drop, length-take}
use Rattle.std.proofs.lemmas.List.Elements.{All-head, All-tail, All-cons}
use Rattle.std.proofs.lemmas.List.Sums.{position_or_len_is, prefix_len_passes, prefix_len_stops}
use Rattle.elf_read.specs.Number.{LiesAt}
use Rattle.elf_read.proofs.FirstZero.{is_zero, before_zero, before_zero-within}
use Rattle.elf_groups.specs.declared.string_ends.Run.{Run}
use Rattle.elf_groups.specs.StringEnds.{AreNotZero, IsFreeRun}

abbrev not_zero : ℕ → Bool
not_zero b = not (is_zero b)

is_false : (b : Bool) → not b ≡ true → b ≡ false
is_false false h = refl
is_false true h = absurd (cc h)

is_true : (b : Bool) → not b ≡ false → b ≡ true
is_true true h = refl
is_true false h = absurd (cc h)

passes : (xs : List ℕ) (k : ℕ) → k < before_zero xs → is_zero (get_or xs k 1) ≡ false
passes xs k below = is_false (is_zero (get_or xs k 1)) (prefix_len_passes not_zero xs k 1 below)

stops : (xs : List ℕ) → before_zero xs < length xs → is_zero (get_or xs (before_zero xs) 1) ≡ true
stops xs below = is_true (is_zero (get_or xs (before_zero xs) 1)) (prefix_len_stops not_zero xs 1 below)

-- ---- what is looked at of a text
-- a zero byte among the first bytes, or no more bytes
pub by_front : (rest : List ℕ) (first : ℕ) → before_zero (take first rest) < first → before_zero (take first rest) ≡ before_zero rest
by_front rest first below =
    let n = before_zero (take first rest) in
    let len : length (take first rest) ≡ min first (length rest) = length-take first rest in
    let upto : before_zero (take first rest) ≤ length (take first rest) = before_zero-within (take first rest) in
    sym (position_or_len_is is_zero rest n 1 (omega (arith, len, upto))
    (λ k low. ap is_zero (sym (get_or-take first rest k 1 (omega (arith, low, below)))) ∙ passes (take first rest) k low)
    (λ some. ap is_zero (sym (get_or-take first rest n 1 below)) ∙ stops (take first rest) (omega (arith, some, len, below))))

-- bytes that are known not to be zero, before and after a place
known_free : (rest : List ℕ) (first end known : ℕ) → first ≤ before_zero (take first rest) → AreNotZero rest first end → known ≤ max first end → (k : ℕ) → k < known → is_zero (get_or rest k 1) ≡ false
known_free rest first end known front free upto k low = elim (cases_lt k first) [
  | inl before ↦ ap is_zero (sym (get_or-take first rest k 1 before)) ∙ passes (take first rest) k (omega (arith, before, front))
  | inr behind ↦ free k (omega (arith, behind)) (omega (arith, behind, low, upto))
]

free_on : (rest : List ℕ) (known : ℕ) → ((k : ℕ) → k < known → is_zero (get_or rest k 1) ≡ false) → (k : ℕ) → k < known + before_zero (drop known rest) → is_zero (get_or rest k 1) ≡ false
free_on rest known free k low = elim (cases_lt k known) [
  | inl before ↦ free k before
  | inr behind ↦
      let at : known + (k - known) ≡ k = omega (arith, behind) in
      ap is_zero (sym (get_or-drop known rest (k - known) 1 ∙ ap (λ (j : ℕ). get_or rest j 1) at)) ∙ passes (drop known rest) (k - known) (omega (arith, behind, low))
]

pub by_known : (rest : List ℕ) (first end known : ℕ) → first ≤ before_zero (take first rest) → AreNotZero rest first end → known ≤ max first end → known ≤ length rest → known + before_zero (drop known rest) ≡ before_zero rest
by_known rest first end known front free upto short =
    let m = before_zero (drop known rest) in
    let len : length (drop known rest) ≡ length rest - known = length-drop known rest in
    let most : before_zero (drop known rest) ≤ length (drop known rest) = before_zero-within (drop known rest) in
    sym (position_or_len_is is_zero rest (known + m) 1 (omega (arith, len, most, short))
    (free_on rest known (known_free rest first end known front free upto))
    (λ some. ap is_zero (sym (get_or-drop known rest m 1)) ∙ stops (drop known rest) (omega (arith, some, len, short))))

-- ---- a text and its file
byte_at : (file rest : List ℕ) (place k : ℕ) → LiesAt place rest file → k < length rest → get_or rest k 1 ≡ get_or file (place + k) 1
byte_at file rest place k stands inside =
    ap (λ (r : List ℕ). get_or r k 1) stands ∙ get_or-take (length rest) (drop place file) k 1 inside ∙ get_or-drop place file k 1

-- the bytes of a run, from a text's place on
pub free_from : (file rest : List ℕ) (place first end : ℕ) (run : Run) → LiesAt place rest file → IsFreeRun file run → first ≡ run.first - place → end ≡ run.end - place → AreNotZero rest first end
free_from file rest place first end run stands free from upto k low high = elim (cases_lt k (length rest)) [
  | inl inside ↦ ap is_zero (byte_at file rest place k stands inside) ∙ free (place + k) (omega (arith, low, from)) (omega (arith, high, upto))
  | inr past ↦ ap is_zero (get_or_past rest k 1 (omega (arith, past)))
]

-- the bytes of a text
pub free_of_text : (file rest : List ℕ) (place end len : ℕ) → LiesAt place rest file → len ≡ before_zero rest → end ≤ place + len → AreNotZero file place end
free_of_text file rest place end len stands is upto k low high =
    let at : place + (k - place) ≡ k = omega (arith, low) in
    let short : before_zero rest ≤ length rest = before_zero-within rest in
    let inside : k - place < before_zero rest = omega (arith, is, upto, low, high) in
    ap is_zero (sym (byte_at file rest place (k - place) stands (omega (arith, inside, short)) ∙ ap (λ (j : ℕ). get_or file j 1) at)) ∙ passes rest (k - place) inside

-- ---- the values of a map
module _ {K X : Type 0} (cmp : K → K → Ordering) (P : X → Type 0) where
  abbrev Each : List (K × X) → Type 0
  Each es = All (λ e. P e.1) es

  by_order : (k : K) (v : X) (e : K × X) (es : List (K × X)) (o : Ordering) → Each (e ∷ es) → P v → Each (insert_entry cmp es k v) → Each (match_ordering o ((k, v) ∷ e ∷ es) ((e.0, v) ∷ es) (e ∷ insert_entry cmp es k v))
  by_order k v e es Less each new rest = All-cons (λ (x : K × X). P x.1) (k, v) (e ∷ es) new each
  by_order k v e es Equal each new rest = All-cons (λ (x : K × X). P x.1) (e.0, v) es new (All-tail (λ (x : K × X). P x.1) e es each)
  by_order k v e es Greater each new rest = All-cons (λ (x : K × X). P x.1) e (insert_entry cmp es k v) (All-head (λ (x : K × X). P x.1) e es each) rest

  -- what each has, each has with one more
  pub one_value_more : (es : List (K × X)) (k : K) (v : X) → Each es → P v → Each (insert_entry cmp es k v)
  one_value_more [] k v each new = All-cons (λ (x : K × X). P x.1) (k, v) [] new each
  one_value_more (e ∷ es) k v each new = by_order k v e es (cmp k e.0) each new (one_value_more es k v (All-tail (λ (x : K × X). P x.1) e es each) new)
