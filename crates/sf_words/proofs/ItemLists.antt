-- Lists of items, one item after the other.
use Rattle.std.proofs.Common.{◌≡◌, ℕ, ◌+◌, ◌<◌, List, [], ◌∷◌, ◌++◌, map, length, take, get_or, ap, sym, append_assoc, ◌∙◌}
use Rattle.std.proofs.lemmas.List.{map_push, take_more}
use Rattle.sf_words.specs.declared.item.Item.{Item}
use Rattle.sf_words.specs.Items.{ItemWords, item_of}

-- one item more, of those that words name
pub item_more : {A : Type 0} (view : A → ItemWords) (words : List A) (i : ℕ) (d : A) (first before after : List Item) (item : Item) → i < length words → item_of item ≡ view (get_or words i d) → after ≡ before ++ item ∷ []
    → map item_of before ≡ map item_of first ++ map view (take i words) → map item_of after ≡ map item_of first ++ map view (take (i + 1) words)
item_more {A} view words i d first before after item lt is grown h =
    ap (map item_of) grown
    ∙ map_push item_of before item
    ∙ ap (λ (items : List ItemWords). items ++ item_of item ∷ []) h
    ∙ append_assoc (map item_of first) (map view (take i words)) (item_of item ∷ [])
    ∙ ap (λ (one : ItemWords). map item_of first ++ (map view (take i words) ++ one ∷ [])) is
    ∙ ap (λ (items : List ItemWords). map item_of first ++ items) (sym (ap (map view) (take_more words i d lt) ∙ map_push view (take i words) (get_or words i d)))
