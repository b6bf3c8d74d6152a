-- Texts of whole blocks by their numbers: a numbered text is whole blocks, no two have one text, and one more keeps the others.
use Rattle.std.specs.Prelude.{◌&&◌, ◌==◌, bytes_eq, map, get_or}
use Rattle.std.specs.BTreeMap.{BTreeMap, Updates, get_by}
use Rattle.std.specs.Ordering.{nat_cmp, is_eq, ordering_then}
use Rattle.std.specs.Cmp.{tied_then, unsigned_ties}
use Rattle.std.specs.Cmp.Lexicographic.{slice_cmp}
use Rattle.std.specs.declared.cmp.Ordering.{Ordering}
use Rattle.std.proofs.Common.{◌≡◌, ◌≤◌, ◌<◌, ◌+◌, ◌-◌, ◌*◌, ℕ, zero, suc, Bool, true, false, cond, List, [], ◌∷◌, ◌++◌, length, take, drop, Some, None, Bor, refl, sym, ap, subst, ◌∙◌, ◌⊎◌, inl, inr, arith}
use Rattle.std.proofs.lemmas.Bool.{and_from, and_parts, eqb-true, eq-eqb}
use Rattle.std.proofs.lemmas.List.{get_or_append_left, length-append, length-map, length-drop, map-append, take-append-drop}
use Rattle.std.proofs.Math.Seq.{get_or-append_seam}
use Rattle.std.proofs.lemmas.Map.Text.{is_eq-slice_cmp}
use Rattle.std.proofs.lemmas.Slice.Eq.{bytes_eq-Decides}
use Rattle.std.proofs.lemmas.Option.{none-some, same_Some}
use Rattle.elf_groups.specs.declared.text_numbers.TextNumbers.{TextNumbers}
use Rattle.elf_groups.specs.declared.text_numbers.BlockText.{BlockText}
use Rattle.elf_groups.specs.TextNumbers.{AreBlocks, IsNumbered, IsNumberOf, Numbers, IsOfBlocks, block_cmp, count_of, number_kept, rest_of, text_of}

-- ---- lengths
one_block_more : (len rest count : ℕ) → 256 ≤ len → rest ≡ len - 256 → rest ≡ count * 256 → len ≡ suc count * 256
one_block_more len rest count some e whole = omega (arith, some, e, whole)

whole_by : (fuel n : ℕ) (b : TextNumbers) → AreBlocks b → n ≤ fuel → n ≤ count_of b → IsOfBlocks (text_of b n)
whole_by fuel zero b are upto below = (0, refl)
whole_by zero (suc k) b are upto below = absurd (omega (arith, upto))
whole_by (suc fuel) (suc k) b are upto below =
    let is : IsNumbered b k = are.each k (omega (arith, below)) in
    let rest : IsOfBlocks (text_of b (rest_of b k)) = whole_by fuel (rest_of b k) b are (omega (arith, upto, is.lower)) (omega (arith, below, is.lower)) in
    (suc rest.0, one_block_more (length (text_of b (suc k))) (length (text_of b (rest_of b k))) rest.0 is.some (sym (ap length is.follows) ∙ length-drop 256 (text_of b (suc k))) rest.1)

-- a text with a number is whole blocks
pub numbered_is_whole : (b : TextNumbers) (n : ℕ) (text : List ℕ) → AreBlocks b → Numbers b n text → IsOfBlocks text
numbered_is_whole b n text are is = subst IsOfBlocks is.text (whole_by n n b are (omega arith) is.below)

-- ---- one number for a text
not_empty : (text : List ℕ) → 256 ≤ length text → [] ≡ text → ⊥
not_empty text some e = let none : 0 ≡ length text = ap length e in omega (arith, some, none)

same_by : (fuel n m : ℕ) (b : TextNumbers) → AreBlocks b → n ≤ fuel → n ≤ count_of b → m ≤ count_of b → text_of b n ≡ text_of b m → n ≡ m
same_by fuel zero zero b are upto below also e = refl
same_by fuel zero (suc m) b are upto below also e = absurd (not_empty (text_of b (suc m)) (are.each m (omega (arith, also))).some e)
same_by fuel (suc n) zero b are upto below also e = absurd (not_empty (text_of b (suc n)) (are.each n (omega (arith, below))).some (sym e))
same_by zero (suc n) (suc m) b are upto below also e = absurd (omega (arith, upto))
same_by (suc fuel) (suc n) (suc m) b are upto below also e =
    let one : IsNumbered b n = are.each n (omega (arith, below)) in
    let other : IsNumbered b m = are.each m (omega (arith, also)) in
    let rests : rest_of b n ≡ rest_of b m = same_by fuel (rest_of b n) (rest_of b m) b are (omega (arith, upto, one.lower)) (omega (arith, below, one.lower)) (omega (arith, also, other.lower))
    (sym one.follows ∙ ap (drop 256) e ∙ other.follows) in
    same_Some (suc n) (suc m)
    (sym one.kept ∙ ap (λ (r : ℕ). number_kept b r (take 256 (text_of b (suc n)))) rests ∙ ap (λ (xs : List ℕ). number_kept b (rest_of b m) (take 256 xs)) e ∙ other.kept)

-- a text has one number
pub one_number : (b : TextNumbers) (n m : ℕ) (text : List ℕ) → AreBlocks b → Numbers b n text → Numbers b m text → n ≡ m
one_number b n m text are one other = same_by n n m b are (omega arith) one.below other.below (one.text ∙ sym other.text)

-- ---- a number that is kept
pub kept_number : (b : TextNumbers) (rest n : ℕ) (block text : List ℕ) → AreBlocks b → Numbers b rest (drop 256 text) → block ≡ take 256 text → number_kept b rest block ≡ Some n → Numbers b n text
kept_number b rest n block text are follows is found =
    let of : IsNumberOf b rest block n = are.kept rest block n found in
    record {
      below = of.below;
      text = of.text ∙ ap (λ (xs : List ℕ). xs ++ text_of b rest) is ∙ ap (λ (xs : List ℕ). take 256 text ++ xs) follows.text ∙ take-append-drop 256 text;
    }

-- ---- one text more
pub record IsOneMore (old new : TextNumbers) (rest : ℕ) (bytes : List ℕ) : Type 0 where
  pub texts : map (λ t. t.bytes.now) new.texts.items ≡ map (λ t. t.bytes.now) old.texts.items ++ bytes ∷ []
  pub rests : map (λ t. t.rest) new.texts.items ≡ map (λ t. t.rest) old.texts.items ++ rest ∷ []
  pub count : count_of new ≡ suc (count_of old)
  pub numbers : (r : ℕ) (b : List ℕ) → number_kept new r b ≡ cond ((rest == r) && bytes_eq (take 256 bytes) b) (Some (suc (count_of old))) (number_kept old r b)
  pub absent : number_kept old rest (take 256 bytes) ≡ None

-- by the keys of the map
abbrev pub Key : Type 0
Key = ℕ × Bor (List ℕ)

abbrev pub key_cmp : Key → Key → Ordering
key_cmp a b = ordering_then (nat_cmp a.0 b.0) (slice_cmp nat_cmp a.1.now b.1.now)

pub tied : (a b : Key) → is_eq (key_cmp a b) ≡ ((a.0 == b.0) && bytes_eq a.1.now b.1.now)
tied a b =
    sym (tied_then (nat_cmp a.0 b.0) (slice_cmp nat_cmp a.1.now b.1.now))
    ∙ ap (λ (c : Bool). c && is_eq (slice_cmp nat_cmp a.1.now b.1.now)) (sym (unsigned_ties a.0 b.0))
    ∙ ap (λ (c : Bool). (a.0 == b.0) && c) (is_eq-slice_cmp a.1.now b.1.now)

pub kept_more : (old new : BTreeMap Key ℕ) (key : Key) (n : ℕ) → Updates key_cmp old new key (Some n) → (r : ℕ) (b : List ℕ)
    → get_by (block_cmp r b) new ≡ cond ((key.0 == r) && bytes_eq key.1.now b) (Some n) (get_by (block_cmp r b) old)
kept_more old new key n updates r b =
    let asked : Key = (r, record { ref_ptr = (0, 0); now = b }) in
    updates.0 asked ∙ ap (λ (c : Bool). cond c (Some n) (get_by (block_cmp r b) old)) (tied key asked)

-- what is read of the old texts
text_still : (old new : TextNumbers) (rest n : ℕ) (bytes : List ℕ) → IsOneMore old new rest bytes → n ≤ count_of old → text_of new n ≡ text_of old n
text_still old new rest zero bytes more below = refl
text_still old new rest (suc k) bytes more below =
    let len : length (map (λ t. t.bytes.now) old.texts.items) ≡ count_of old = length-map old.texts.items (λ t. t.bytes.now) in
    ap (λ (xs : List (List ℕ)). get_or xs k []) more.texts
    ∙ get_or_append_left (map (λ t. t.bytes.now) old.texts.items) (bytes ∷ []) [] k (omega (arith, below, len))

rest_still : (old new : TextNumbers) (rest k : ℕ) (bytes : List ℕ) → IsOneMore old new rest bytes → k < count_of old → rest_of new k ≡ rest_of old k
rest_still old new rest k bytes more below =
    let len : length (map (λ t. t.rest) old.texts.items) ≡ count_of old = length-map old.texts.items (λ t. t.rest) in
    ap (λ (xs : List ℕ). get_or xs k 0) more.rests
    ∙ get_or_append_left (map (λ t. t.rest) old.texts.items) (rest ∷ []) 0 k (omega (arith, below, len))

-- and of the new one
text_last : (old new : TextNumbers) (rest : ℕ) (bytes : List ℕ) → IsOneMore old new rest bytes → text_of new (suc (count_of old)) ≡ bytes
text_last old new rest bytes more =
    let len : length (map (λ t. t.bytes.now) old.texts.items) ≡ count_of old = length-map old.texts.items (λ t. t.bytes.now) in
    ap (λ (xs : List (List ℕ)). get_or xs (count_of old) []) more.texts
    ∙ ap (λ (k : ℕ). get_or (map (λ t. t.bytes.now) old.texts.items ++ bytes ∷ []) k []) (sym len)
    ∙ get_or-append_seam (map (λ t. t.bytes.now) old.texts.items) bytes [] []

rest_last : (old new : TextNumbers) (rest : ℕ) (bytes : List ℕ) → IsOneMore old new rest bytes → rest_of new (count_of old) ≡ rest
rest_last old new rest bytes more =
    let len : length (map (λ t. t.rest) old.texts.items) ≡ count_of old = length-map old.texts.items (λ t. t.rest) in
    ap (λ (xs : List ℕ). get_or xs (count_of old) 0) more.rests
    ∙ ap (λ (k : ℕ). get_or (map (λ t. t.rest) old.texts.items ++ rest ∷ []) k 0) (sym len)
    ∙ get_or-append_seam (map (λ t. t.rest) old.texts.items) rest [] 0

-- what is kept, by whether the new text's key is asked for
same_rest : (rest r : ℕ) (block b : List ℕ) → ((rest == r) && bytes_eq block b) ≡ true → rest ≡ r
same_rest rest r block b e = eqb-true rest r (and_parts (rest == r) (bytes_eq block b) e).0

same_block : (rest r : ℕ) (block b : List ℕ) → ((rest == r) && bytes_eq block b) ≡ true → block ≡ b
same_block rest r block b e = (bytes_eq-Decides block b).0 (and_parts (rest == r) (bytes_eq block b) e).1

still_by : (old : TextNumbers) (rest r n last : ℕ) (block b : List ℕ) (c : Bool) → ((rest == r) && bytes_eq block b) ≡ c → number_kept old rest block ≡ None → number_kept old r b ≡ Some n
    → cond c (Some last) (number_kept old r b) ≡ Some n
still_by old rest r n last block b true e absent found =
    absurd (none-some n
    (sym absent ∙ ap (λ (k : ℕ). number_kept old k block) (same_rest rest r block b e) ∙ ap (λ (xs : List ℕ). number_kept old r xs) (same_block rest r block b e) ∙ found))
still_by old rest r n last block b false e absent found = found

number_still : (old new : TextNumbers) (rest r n : ℕ) (bytes b : List ℕ) → IsOneMore old new rest bytes → number_kept old r b ≡ Some n → number_kept new r b ≡ Some n
number_still old new rest r n bytes b more found =
    more.numbers r b ∙ still_by old rest r n (suc (count_of old)) (take 256 bytes) b ((rest == r) && bytes_eq (take 256 bytes) b) refl more.absent found

number_last : (old new : TextNumbers) (rest : ℕ) (bytes : List ℕ) → IsOneMore old new rest bytes → number_kept new rest (take 256 bytes) ≡ Some (suc (count_of old))
number_last old new rest bytes more =
    more.numbers rest (take 256 bytes)
    ∙ ap (λ (c : Bool). cond c (Some (suc (count_of old))) (number_kept old rest (take 256 bytes)))
    (and_from (rest == rest) (bytes_eq (take 256 bytes) (take 256 bytes)) (eq-eqb rest rest refl) ((bytes_eq-Decides (take 256 bytes) (take 256 bytes)).1 refl))

-- each text is its first block and one with a lower number
numbered_by : (b : TextNumbers) (k rest : ℕ) (text : List ℕ) → rest_of b k ≡ rest → text_of b (suc k) ≡ text → rest ≤ k → 256 ≤ length text → drop 256 text ≡ text_of b rest → number_kept b rest (take 256 text) ≡ Some (suc k) → IsNumbered b k
numbered_by b k rest text er et lower some follows kept = record {
  lower = subst (λ (r : ℕ). r ≤ k) (sym er) lower;
  some = subst (λ (xs : List ℕ). 256 ≤ length xs) (sym et) some;
  follows = ap (drop 256) et ∙ follows ∙ ap (text_of b) (sym er);
  kept = ap (λ (r : ℕ). number_kept b r (take 256 (text_of b (suc k)))) er ∙ ap (λ (xs : List ℕ). number_kept b rest (take 256 xs)) et ∙ kept;
}

numbered_still : (old new : TextNumbers) (rest k : ℕ) (bytes : List ℕ) → IsOneMore old new rest bytes → AreBlocks old → k < count_of old → IsNumbered new k
numbered_still old new rest k bytes more are below =
    let was : IsNumbered old k = are.each k below in
    numbered_by new k (rest_of old k) (text_of old (suc k)) (rest_still old new rest k bytes more below) (text_still old new rest (suc k) bytes more (omega (arith, below)))
    was.lower was.some (was.follows ∙ sym (text_still old new rest (rest_of old k) bytes more (omega (arith, below, was.lower))))
    (number_still old new rest (rest_of old k) (suc k) bytes (take 256 (text_of old (suc k))) more was.kept)

numbered_last : (old new : TextNumbers) (rest : ℕ) (bytes : List ℕ) → IsOneMore old new rest bytes → 256 ≤ length bytes → Numbers old rest (drop 256 bytes) → IsNumbered new (count_of old)
numbered_last old new rest bytes more some follows =
    numbered_by new (count_of old) rest bytes (rest_last old new rest bytes more) (text_last old new rest bytes more) follows.below some
    (sym follows.text ∙ sym (text_still old new rest rest bytes more follows.below)) (number_last old new rest bytes more)

each_by : (old new : TextNumbers) (rest k : ℕ) (bytes : List ℕ) → IsOneMore old new rest bytes → AreBlocks old → 256 ≤ length bytes → Numbers old rest (drop 256 bytes) → (k < count_of old) ⊎ (count_of old ≡ k) → IsNumbered new k
each_by old new rest k bytes more are some follows (inl below) = numbered_still old new rest k bytes more are below
each_by old new rest k bytes more are some follows (inr last) = subst (IsNumbered new) last (numbered_last old new rest bytes more some follows)

-- what is kept is the number of both together
number_of_by : (b : TextNumbers) (rest n : ℕ) (block text follows : List ℕ) → rest ≤ count_of b → n ≤ count_of b → text_of b n ≡ text → text_of b rest ≡ follows → text ≡ block ++ follows → IsNumberOf b rest block n
number_of_by b rest n block text follows low below et ef e = record {
  rest_below = low;
  below = below;
  text = et ∙ e ∙ ap (λ (xs : List ℕ). block ++ xs) (sym ef);
}

number_of_still : (old new : TextNumbers) (rest r n : ℕ) (bytes b : List ℕ) → IsOneMore old new rest bytes → IsNumberOf old r b n → IsNumberOf new r b n
number_of_still old new rest r n bytes b more was =
    number_of_by new r n b (text_of old n) (text_of old r) (omega (arith, more.count, was.rest_below)) (omega (arith, more.count, was.below))
    (text_still old new rest n bytes more was.below) (text_still old new rest r bytes more was.rest_below) was.text

number_of_last : (old new : TextNumbers) (rest : ℕ) (bytes : List ℕ) → IsOneMore old new rest bytes → Numbers old rest (drop 256 bytes) → IsNumberOf new rest (take 256 bytes) (suc (count_of old))
number_of_last old new rest bytes more follows =
    number_of_by new rest (suc (count_of old)) (take 256 bytes) bytes (drop 256 bytes) (omega (arith, more.count, follows.below)) (omega (arith, more.count))
    (text_last old new rest bytes more) (text_still old new rest rest bytes more follows.below ∙ follows.text) (sym (take-append-drop 256 bytes))

number_of_more : (old new : TextNumbers) (rest r n : ℕ) (bytes b : List ℕ) (c : Bool) → IsOneMore old new rest bytes → AreBlocks old → Numbers old rest (drop 256 bytes) → ((rest == r) && bytes_eq (take 256 bytes) b) ≡ c
    → cond c (Some (suc (count_of old))) (number_kept old r b) ≡ Some n → IsNumberOf new r b n
number_of_more old new rest r n bytes b true more are follows e found =
    subst (λ (k : ℕ). IsNumberOf new k b n) (same_rest rest r (take 256 bytes) b e)
    (subst (λ (xs : List ℕ). IsNumberOf new rest xs n) (same_block rest r (take 256 bytes) b e)
    (subst (λ (k : ℕ). IsNumberOf new rest (take 256 bytes) k) (same_Some (suc (count_of old)) n found) (number_of_last old new rest bytes more follows)))
number_of_more old new rest r n bytes b false more are follows e found = number_of_still old new rest r n bytes b more (are.kept r b n found)

last_or_before : (k count : ℕ) → k < suc count → (k < count) ⊎ (count ≡ k)
last_or_before k count below = grind (arith, below)

pub one_more : (old new : TextNumbers) (rest : ℕ) (bytes : List ℕ) → IsOneMore old new rest bytes → AreBlocks old → 256 ≤ length bytes → Numbers old rest (drop 256 bytes) → AreBlocks new
one_more old new rest bytes more are some follows = record {
  each = λ k below. each_by old new rest k bytes more are some follows (last_or_before k (count_of old) (omega (arith, below, more.count)));
  kept = λ r b n found. number_of_more old new rest r n bytes b ((rest == r) && bytes_eq (take 256 bytes) b) more are follows refl (sym (more.numbers r b) ∙ found);
}

-- from what the list and the map do
pub is_one_more : (old new : TextNumbers) (text : BlockText) (block : Bor (List ℕ)) (n : ℕ) → new.texts.items ≡ old.texts.items ++ text ∷ [] → Updates key_cmp old.numbers new.numbers (text.rest, block) (Some n)
    → n ≡ count_of new → block.now ≡ take 256 text.bytes.now → number_kept old text.rest block.now ≡ None → IsOneMore old new text.rest text.bytes.now
is_one_more old new text block n items updates last is absent =
    let count : count_of new ≡ suc (count_of old) = ap length items ∙ length-append old.texts.items (text ∷ []) ∙ plus_one (count_of old) in
    record {
      texts = ap (map (λ t. t.bytes.now)) items ∙ map-append (λ t. t.bytes.now) old.texts.items (text ∷ []);
      rests = ap (map (λ t. t.rest)) items ∙ map-append (λ t. t.rest) old.texts.items (text ∷ []);
      count = count;
      numbers = λ r b.
          kept_more old.numbers new.numbers (text.rest, block) n updates r b
          ∙ ap (λ (k : ℕ). cond ((text.rest == r) && bytes_eq block.now b) (Some k) (number_kept old r b)) (last ∙ count)
          ∙ ap (λ (xs : List ℕ). cond ((text.rest == r) && bytes_eq xs b) (Some (suc (count_of old))) (number_kept old r b)) is;
      absent = ap (λ (xs : List ℕ). number_kept old text.rest xs) (sym is) ∙ absent;
    }
  where
    plus_one : (n : ℕ) → n + 1 ≡ suc n
    plus_one n = omega arith
