use Rattle.std.proofs.Common.{◌≡◌, ◌++◌, All, map, take}
use Rattle.std.specs.List.{filter, flat_map}
use Rattle.sf_model.specs.Function.{IsWritable}
use Rattle.sf_write.specs.Stored.{IsStored, stored_in}
use Rattle.frame_functions.specs.ReadFunction.{omitted_of}
use Rattle.frame_functions.specs.Kept.{read_of}
use Rattle.sf_plt.specs.Answers.{others_in, plt_span}
use Rattle.sf_plt.specs.Plt.{is_plt}
use Rattle.sf_plt.specs.Written.{plt_pair}
use Rattle.sf_plt.proofs.sorting.sort_out.Given as goal

abbrev pub invariant-loop-number : goal.invariant-loop-number
invariant-loop-number l = record {
  stored : All (IsStored l.sorted.rows) l.sorted.written.items;
  written : map (stored_in l.sorted.rows) l.sorted.written.items ≡ map (stored_in l.fn.rows) l.fn.kept ++ flat_map plt_pair (filter is_plt (take l.number l.descriptions.functions));
  plts : l.sorted.plts.items ≡ map plt_span (filter is_plt (take l.number l.descriptions.functions));
  omitted : l.sorted.omitted.items ≡ omitted_of (map read_of (others_in (take l.number l.descriptions.functions)));
  sound : All (IsWritable l.arch) (map (stored_in l.sorted.rows) l.sorted.written.items);
}
