use Rattle.std.proofs.Common.{◌≡◌, ℕ, ◌<◌, Bool, true, IsTrue, Err, Vec, Global, List, length, ap, subst, sym, ◌∙◌, arith}
use Rattle.std.proofs.lemmas.List.{take_all}
use Rattle.sf_base.specs.Seen.{FilesSeen}
use Rattle.sf_words.specs.declared.loaded.Loaded.{Loaded}
use Rattle.sf_words.specs.Items.{ItemWords, is_core, item_of, name_of}
use Rattle.sf_words.specs.Loading.{AreReadWhole, loaded_items}
use Rattle.sf_words.proofs.LoadedAgain.{as_many_files, of_item_at, refuses_again, items_again, core_again, whole_again, whole_on}
use Rattle.sf_words.proofs.loading_again.load_cores_again.Goals as goal
use Rattle.sf_words.proofs.loading_again.load_cores_again.Goals.{then-is_core+in-Ok, else-is_core}

pub load_item-requires : goal.load_item-requires
load_item-requires g c =
    let file = c.index.result.now in
    let count = as_many_files c.args.loaded.now.items c.loop-k.loaded.items c.loop-k.invariant.items in
    subst (λ (may : List ℕ → Bool). IsTrue (may (name_of (item_of file.item)))) (sym c.loop-k.invariant.may_open)
    (of_item_at (λ (item : ItemWords). is_core item ≡ true → IsTrue (g.F.Files.may_open c.args.files.now (name_of item))) (loaded_items c.args.loaded.now.items) c.loop-k.loaded.items c.loop-k.k file c.loop-k.invariant.items
    (omega (arith, count)) c.index.ensures c.requires.open (sym c.is_core.ensures ∙ c.if-is_core.true))

pub returns-in-Err-clause-refused : goal.returns-in-Err-clause-refused
returns-in-Err-clause-refused g c =
    let count = as_many_files c.args.loaded.now.items c.loop-k.loaded.items c.loop-k.invariant.items in
    refuses_again _ _ (loaded_items c.args.loaded.now.items) c.loop-k.loaded.items c.loop-k.k c.index.result.now c.in-Err.fault c.not_loaded.result (ap (λ (f : FilesSeen). f.contents) c.loop-k.invariant.same)
    c.loop-k.invariant.items c.loop-k.invariant.loaded (omega (arith, count)) c.index.ensures c.not_loaded.ensures (λ limit e. c.load_item.ensures.longer limit (c.in-Err.is ∙ ap Err e))

pub loop-k-preserved : goal.loop-k-preserved
loop-k-preserved g c =
    let count = as_many_files c.args.loaded.now.items c.loop-k.loaded.items c.loop-k.invariant.items in
    let items = loaded_items c.args.loaded.now.items in
    let now = c.loop-k.loaded.items in
    let after = c.if-is_core.loaded.items in
    let file = c.index.result.now in
    let lt : c.loop-k.k < length now = omega (arith, count) in
    elim c.if-is_core.branch [
      | then-is_core+in-Ok w ↦
          let put = ap (λ (v : Vec Loaded Global). v.items) w.loaded-is in
          let named = ap (λ (l : Loaded). l.item) w.replace.ensures in
          let read_is = ap (λ (l : Loaded). l.read) w.replace.ensures in
          record {
            items = items_again items now after c.loop-k.k file w.replace.new.place c.loop-k.invariant.items c.index.ensures named put;
            loaded = core_again _ _ items now after c.loop-k.k file w.replace.new.place w.in-Ok.read (ap (λ (f : FilesSeen). f.contents) c.loop-k.invariant.same) c.loop-k.invariant.items c.loop-k.invariant.loaded lt
                c.index.ensures read_is put (sym c.is_core.ensures ∙ w.if-is_core.true) w.in-Ok.ensures.within w.in-Ok.ensures.file;
            whole = λ wanted. whole_again now after c.loop-k.k w.replace.new.place w.in-Ok.read lt read_is put (c.loop-k.invariant.whole wanted) (w.in-Ok.ensures.whole wanted);
            same = ap g.F.Files.seen w.files-is ∙ w.in-Ok.ensures.same ∙ c.loop-k.invariant.same;
            may_open = ap g.F.Files.may_open w.files-is ∙ w.in-Ok.ensures.may_open ∙ c.loop-k.invariant.may_open;
            may_create = ap g.F.Files.may_create w.files-is ∙ w.in-Ok.ensures.may_create ∙ c.loop-k.invariant.may_create;
          }
      | else-is_core w ↦
          let put = ap (λ (v : Vec Loaded Global). v.items) w.loaded-is in
          record {
            items = ap loaded_items put ∙ c.loop-k.invariant.items;
            loaded = rw put c.loop-k.invariant.loaded;
            whole = λ wanted. whole_on now after c.loop-k.k file lt c.index.ensures put (c.loop-k.invariant.whole wanted) (sym c.is_core.ensures ∙ w.if-is_core.false);
            same = ap g.F.Files.seen w.files-is ∙ c.loop-k.invariant.same;
            may_open = ap g.F.Files.may_open w.files-is ∙ c.loop-k.invariant.may_open;
            may_create = ap g.F.Files.may_create w.files-is ∙ c.loop-k.invariant.may_create;
          }
    ]

pub returns-clause-whole : goal.returns-clause-whole
returns-clause-whole g c wanted =
    let count = as_many_files c.args.loaded.now.items c.loop-k.loaded.items c.loop-k.invariant.items in
    subst AreReadWhole (take_all c.loop-k.k c.loop-k.loaded.items (omega (arith, count))) (c.loop-k.invariant.whole wanted)
