use Rattle.std.proofs.Common.{◌≡◌, inl, ◌≤◌, ◌<◌, ◌^◌, ◌+◌, ℕ, rules, List, Err, map, length, take, get_or, refl, ap, sym, subst, ◌∙◌, arith}
use Rattle.std.proofs.lemmas.List.{length-map}
use lib.Seq.{take-length}
use Rattle.sf_base.specs.Seen.{FilesSeen}
use Rattle.sf_words.specs.declared.loaded.Loaded.{Loaded}
use Rattle.sf_words.specs.ItemRead.{read_bytes}
use Rattle.sf_words.specs.Items.{item_of}
use Rattle.sf_words.specs.Loading.{loaded_bytes, loaded_items}
use Rattle.sf_words.proofs.Loads.{Begun, begin, counted_few, go_on_at, all_loaded, long_in_all_at, load_refuses_at, items_on, loaded_push, whole_push, names_failed}
use Rattle.sf_words.proofs.loading.load_items.Goals as goal

pub loop-item-init : goal.loop-item-init
loop-item-init g c = record {
  begun = subst (λ (loaded : List Loaded). Begun (g.F.Files.seen c.args.files.now).contents (map item_of c.args.items.now) 0 (loaded_bytes loaded) 0) (sym c.new-loaded.ensures.items)
      (begin (g.F.Files.seen c.args.files.now).contents (map item_of c.args.items.now));
  are = ap loaded_items c.new-loaded.ensures.items;
  whole = λ _. search rules;
  most = omega arith;
  same = refl;
  may_open = refl;
  may_create = refl;
}

pub overflow_add-total : goal.overflow_add-total
overflow_add-total g c =
    let few = counted_few (item_of (get_or c.args.items.now c.loop-item.item-index _)) (read_bytes c.in-Ok.read) c.len.result c.counted-total.result c.in-Ok.ensures.within c.len.ensures c.counted-total.ensures in
    omega (arith, few)

pub returns-in-Err-clause-refused : goal.returns-in-Err-clause-refused
returns-in-Err-clause-refused g c =
    let lt : c.loop-item.item-index < length (map item_of c.args.items.now) = subst (λ (n : ℕ). c.loop-item.item-index < n) (sym (length-map c.args.items.now item_of)) (omega arith) in
    let count = length-map c.loop-item.loaded.items (λ (l : Loaded). read_bytes l.read) in
    let number : c.len-number.result ≡ c.loop-item.item-index = omega (arith, c.len-number.ensures, c.loop-item.loaded.ok.0, count, c.loop-item.invariant.begun.count) in
    load_refuses_at _ _ c.args.items.now c.loop-item.item-index c.len-number.result _ (loaded_bytes c.loop-item.loaded.items) c.loop-item.total c.in-Err.fault c.not_loaded.result
    (ap (λ (f : FilesSeen). f.contents) c.loop-item.invariant.same) c.loop-item.invariant.begun lt number c.not_loaded.ensures
    (λ limit e. c.load_item.ensures.longer limit (c.in-Err.is ∙ ap Err e))

pub returns-in-Err-clause-failed_name : goal.returns-in-Err-clause-failed_name
returns-in-Err-clause-failed_name g c =
    names_failed _ c.in-Err.fault c.len-number.result _ c.not_loaded.result c.not_loaded.ensures (λ e. c.load_item.ensures.failed_name (c.in-Err.is ∙ ap Err e))

pub returns-then-total-gt-TOTAL_LIMIT-clause-refused : goal.returns-then-total-gt-TOTAL_LIMIT-clause-refused
returns-then-total-gt-TOTAL_LIMIT-clause-refused g c =
    let lt : c.loop-item.item-index < length (map item_of c.args.items.now) = subst (λ (n : ℕ). c.loop-item.item-index < n) (sym (length-map c.args.items.now item_of)) (omega arith) in
    inl (long_in_all_at _ _ c.args.items.now c.loop-item.item-index _ (loaded_bytes c.loop-item.loaded.items) c.loop-item.total (read_bytes c.in-Ok.read) c.len.result c.counted-total.result
    (ap (λ (f : FilesSeen). f.contents) c.loop-item.invariant.same) c.loop-item.invariant.begun lt c.in-Ok.ensures.within c.len.ensures c.counted-total.ensures c.if-total-gt-TOTAL_LIMIT.true c.in-Ok.ensures.file)

pub loop-item-preserved : goal.loop-item-preserved
loop-item-preserved g c =
    let lt : c.loop-item.item-index < length (map item_of c.args.items.now) = subst (λ (n : ℕ). c.loop-item.item-index < n) (sym (length-map c.args.items.now item_of)) (omega arith) in
    let few : c.loop-item.total + c.counted-total.result ≤ 2 ^ 30 = omega (arith, c.if-total-gt-TOTAL_LIMIT.false) in
    let grown = loaded_push c.loop-item.loaded.items c.push.new.self.items _ c.in_ok-push.ensures.items in
    let on = go_on_at _ _ c.args.items.now c.loop-item.item-index _ (loaded_bytes c.loop-item.loaded.items) c.loop-item.total (read_bytes c.in-Ok.read) c.len.result c.counted-total.result
    (ap (λ (f : FilesSeen). f.contents) c.loop-item.invariant.same) c.loop-item.invariant.begun lt c.in-Ok.ensures.within c.len.ensures c.counted-total.ensures few c.in-Ok.ensures.file in
    record {
      begun = subst (λ (loaded : List (List ℕ)). Begun (g.F.Files.seen c.args.files.now).contents (map item_of c.args.items.now) (c.loop-item.item-index + 1) loaded (c.loop-item.total + c.counted-total.result))
          (sym grown) on;
      are = items_on c.args.items.now c.loop-item.item-index _ c.loop-item.loaded.items c.push.new.self.items _ (omega arith) refl c.in_ok-push.ensures.items c.loop-item.invariant.are;
      whole = λ wanted. whole_push c.loop-item.loaded.items c.push.new.self.items _ c.in_ok-push.ensures.items (c.loop-item.invariant.whole wanted) (c.in-Ok.ensures.whole wanted);
      most = few;
      same = c.in-Ok.ensures.same ∙ c.loop-item.invariant.same;
      may_open = c.in-Ok.ensures.may_open ∙ c.loop-item.invariant.may_open;
      may_create = c.in-Ok.ensures.may_create ∙ c.loop-item.invariant.may_create;
    }

pub returns-clause-loaded : goal.returns-clause-loaded
returns-clause-loaded g c =
    let end : c.loop-item.item-index ≡ length (map item_of c.args.items.now) = subst (λ (n : ℕ). c.loop-item.item-index ≡ n) (sym (length-map c.args.items.now item_of)) (omega arith) in
    all_loaded (g.F.Files.seen c.args.files.now).contents (map item_of c.args.items.now) c.loop-item.item-index (loaded_bytes c.loop-item.loaded.items) c.loop-item.total c.loop-item.invariant.begun end

pub returns-clause-items : goal.returns-clause-items
returns-clause-items g c =
    let end : c.loop-item.item-index ≡ length c.args.items.now = omega arith in
    c.loop-item.invariant.are ∙ ap (map item_of) (ap (λ (n : ℕ). take n c.args.items.now) end ∙ take-length c.args.items.now)
