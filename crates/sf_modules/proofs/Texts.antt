-- The texts of bytes, one after the other.
use Rattle.std.specs.Prelude.{is_some}
use Rattle.std.specs.Option.{option_and_then, option_map}
use Rattle.std.proofs.Common.{◌≡◌, ℕ, suc, ◌+◌, ◌-◌, ◌<◌, ◌≤◌, ◌++◌, List, [], ◌∷◌, Option, Some, None, refl, sym, ap, ◌∙◌, ◌*◌, drop, arith, append_assoc, append-nil}
use Rattle.sf_modules.specs.Entry.{EntryView}
use Rattle.sf_modules.specs.Note.{AreEntries, numbered_entries, numbered_entry, file_entry_count, names_part, page_size}
use Rattle.sf_modules.specs.TextsRead.{text_front, texts_in}
use Rattle.sf_modules.proofs.NamesRead.{texts_are}

abbrev Texts : Type 0
Texts = Option (List (List ℕ))

texts-zero : (bytes : List ℕ) → texts_in 0 bytes ≡ Some []
unfolding texts_in
texts-zero bytes = refl

texts-suc : (n : ℕ) (bytes : List ℕ) → texts_in (suc n) bytes ≡ option_and_then (λ (t : List ℕ × List ℕ). option_map (λ (texts : List (List ℕ)). t.0 ∷ texts) (texts_in n t.1)) (text_front bytes)
unfolding texts_in
texts-suc n bytes = refl

-- one text less is left
pub texts-next : (count k : ℕ) (bytes : List ℕ) (text rest : List ℕ) → k < count → Some (text, rest) ≡ text_front bytes
    → texts_in (count - k) bytes ≡ option_map (λ (texts : List (List ℕ)). text ∷ texts) (texts_in (count - (k + 1)) rest)
texts-next count k bytes text rest lt e =
    let left : count - k ≡ suc (count - (k + 1)) = omega (lt, arith) in
    ap (λ (n : ℕ). texts_in n bytes) left ∙ texts-suc (count - (k + 1)) bytes
    ∙ ap (option_and_then (λ (t : List ℕ × List ℕ). option_map (λ (texts : List (List ℕ)). t.0 ∷ texts) (texts_in (count - (k + 1)) t.1))) (sym e)

pub texts-stop : (count k : ℕ) (bytes : List ℕ) → k < count → None ≡ text_front bytes → texts_in (count - k) bytes ≡ None
texts-stop count k bytes lt e =
    let left : count - k ≡ suc (count - (k + 1)) = omega (lt, arith) in
    ap (λ (n : ℕ). texts_in n bytes) left ∙ texts-suc (count - (k + 1)) bytes
    ∙ ap (option_and_then (λ (t : List ℕ × List ℕ). option_map (λ (texts : List (List ℕ)). t.0 ∷ texts) (texts_in (count - (k + 1)) t.1))) (sym e)

pub texts-end : (count k : ℕ) (bytes : List ℕ) → count ≤ k → texts_in (count - k) bytes ≡ Some []
texts-end count k bytes le = let none : count - k ≡ 0 = omega (le, arith) in ap (λ (n : ℕ). texts_in n bytes) none ∙ texts-zero bytes

some-mapped : {X Y : Type 0} (f : X → Y) (o : Option X) → is_some (option_map f o) ≡ is_some o
some-mapped f None = refl
some-mapped f (Some x) = refl

pub has-next : (count k : ℕ) (bytes : List ℕ) (text rest : List ℕ) → k < count → Some (text, rest) ≡ text_front bytes
    → is_some (texts_in (count - k) bytes) ≡ is_some (texts_in (count - (k + 1)) rest)
has-next count k bytes text rest lt e = ap (λ (o : Texts). is_some o) (texts-next count k bytes text rest lt e) ∙ some-mapped (λ (texts : List (List ℕ)). text ∷ texts) (texts_in (count - (k + 1)) rest)

-- ---- the entries so far, and those of the texts that are left
abbrev pub with_left : List ℕ → List EntryView → (k : ℕ) → Texts → Option (List EntryView)
with_left note entries k left = option_map (λ (names : List (List ℕ)). entries ++ numbered_entries note k names) left

abbrev pub all_entries : List ℕ → Option (List EntryView)
all_entries note = option_map (numbered_entries note 0) (texts_in (file_entry_count note) (names_part note))

one_more : (note : List ℕ) (entries : List EntryView) (k : ℕ) (text : List ℕ) (left : Texts)
    → with_left note entries k (option_map (λ (texts : List (List ℕ)). text ∷ texts) left) ≡ with_left note (entries ++ numbered_entry note k text ∷ []) (k + 1) left
one_more note entries k text None = refl
one_more note entries k text (Some names) = ap Some (sym (append_assoc entries (numbered_entry note k text ∷ []) (numbered_entries note (k + 1) names)))

pub entries-next : (note : List ℕ) (entries more : List EntryView) (count k : ℕ) (bytes text rest : List ℕ) → k < count → Some (text, rest) ≡ text_front bytes
    → more ≡ entries ++ numbered_entry note k text ∷ [] → with_left note entries k (texts_in (count - k) bytes) ≡ all_entries note → with_left note more (k + 1) (texts_in (count - (k + 1)) rest) ≡ all_entries note
entries-next note entries more count k bytes text rest lt e grown h =
    ap (λ (es : List EntryView). with_left note es (k + 1) (texts_in (count - (k + 1)) rest)) grown
    ∙ sym (one_more note entries k text (texts_in (count - (k + 1)) rest))
    ∙ ap (with_left note entries k) (sym (texts-next count k bytes text rest lt e)) ∙ h

from_all : (note : List ℕ) (entries : List EntryView) (o : Texts) → texts_in (file_entry_count note) (names_part note) ≡ o → Some entries ≡ option_map (numbered_entries note 0) o → AreEntries note (page_size note) entries
from_all note entries None e h = absurd (let differ : Some entries ≡ None = h in cc)
from_all note entries (Some names) e h = let are : entries ≡ numbered_entries note 0 names = cc in record { size = refl; names = names; names_are = texts_are (file_entry_count note) (names_part note) names e; are = are }

pub entries-all : (note : List ℕ) (entries : List EntryView) (count k : ℕ) (bytes : List ℕ) → count ≤ k → with_left note entries k (texts_in (count - k) bytes) ≡ all_entries note → AreEntries note (page_size note) entries
entries-all note entries count k bytes le h =
    from_all note entries (texts_in (file_entry_count note) (names_part note)) refl
    (ap Some (sym (append-nil entries)) ∙ ap (with_left note entries k) (sym (texts-end count k bytes le)) ∙ h)

pub texts-start : (note rest : List ℕ) (count : ℕ) → count ≡ file_entry_count note → rest ≡ drop (24 * count + 16) note → texts_in (count - 0) rest ≡ texts_in (file_entry_count note) (names_part note)
texts-start note rest count e is =
    let all : count - 0 ≡ file_entry_count note = omega (e, arith) in
    ap (λ (n : ℕ). texts_in n rest) all ∙ ap (texts_in (file_entry_count note)) (is ∙ ap (λ (n : ℕ). drop (24 * n + 16) note) e)
