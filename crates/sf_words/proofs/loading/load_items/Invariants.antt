use Rattle.std.proofs.Common.{◌≡◌, ◌≤◌, ◌^◌, map, take}
use Rattle.core_parts.specs.declared.loading.Wanted.TheVariants.{Whole}
use Rattle.sf_words.specs.Items.{item_of}
use Rattle.sf_words.specs.Loading.{AreReadWhole, loaded_bytes, loaded_items}
use Rattle.sf_words.proofs.Loads.{Begun}
use Rattle.sf_words.proofs.loading.load_items.Given as goal

abbrev pub invariant-loop-item : goal.invariant-loop-item
invariant-loop-item g l =
    let files = g.F.Files in
    record {
      begun : Begun (files.seen l.fn.files).contents (map item_of l.items) l.item-index (loaded_bytes l.loaded.items) l.total;
      are : loaded_items l.loaded.items ≡ map item_of (take l.item-index l.items);
      whole : l.wanted ≡ Whole → AreReadWhole l.loaded.items;
      most : l.total ≤ 2 ^ 30;
      same : files.seen l.files ≡ files.seen l.fn.files;
      may_open : files.may_open l.files ≡ files.may_open l.fn.files;
      may_create : files.may_create l.files ≡ files.may_create l.fn.files;
    }
