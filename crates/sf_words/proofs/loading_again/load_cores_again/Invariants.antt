use Rattle.std.proofs.Common.{◌≡◌, take}
use Rattle.core_parts.specs.declared.loading.Wanted.TheVariants.{Whole}
use Rattle.sf_words.specs.Loading.{AreLoaded, AreReadWhole, loaded_bytes, loaded_items}
use Rattle.sf_words.proofs.loading_again.load_cores_again.Given as goal

abbrev pub invariant-loop-k : goal.invariant-loop-k
invariant-loop-k g l =
    let files = g.F.Files in
    record {
      items : loaded_items l.loaded.items ≡ loaded_items l.fn.loaded.items;
      loaded : AreLoaded (files.seen l.fn.files).contents (loaded_items l.fn.loaded.items) (loaded_bytes l.loaded.items);
      whole : l.wanted ≡ Whole → AreReadWhole (take l.k l.loaded.items);
      same : files.seen l.files ≡ files.seen l.fn.files;
      may_open : files.may_open l.files ≡ files.may_open l.fn.files;
      may_create : files.may_create l.files ≡ files.may_create l.fn.files;
    }
