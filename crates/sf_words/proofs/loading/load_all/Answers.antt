use Rattle.std.proofs.Common.{ℕ, All, IsTrue, List, map, sym, subst}
use Rattle.sf_words.specs.declared.item.Item.{Item}
use Rattle.sf_words.specs.Items.{ItemWords, item_of, name_of}
use Rattle.sf_words.proofs.NamedWords.{all_seen}
use Rattle.sf_words.proofs.loading.load_all.Goals as goal

pub load_items-requires-clause-open : goal.load_items-requires-clause-open
load_items-requires-clause-open g c =
    let may_open : List ℕ → Type 0 = λ name. IsTrue (g.F.Files.may_open c.args.files.now name) in
    let items = c.in_ok-items.items.items in
    let of_words = all_seen name_of may_open (map item_of items) (subst (λ (is : List ItemWords). All may_open (map name_of is)) (sym c.in_ok-items.ensures) c.requires.open) in
    subst (All (λ (item : Item). may_open (name_of (item_of item)))) (sym c.deref.ensures.value) (all_seen item_of (λ (item : ItemWords). may_open (name_of item)) items of_words)
