use Rattle.std.proofs.Common.{◌≡◌, take, map, All}
use Rattle.sf_write.specs.Stored.{IsStored, stored_in}
use Rattle.sf_write.proofs.section.stored.Given as goal

-- the functions so far are stored
abbrev pub invariant-loop-func : goal.invariant-loop-func
invariant-loop-func l = record {
  stored : All (IsStored l.rows) l.functions.items;
  functions : map (stored_in l.rows) l.functions.items ≡ take l.func-index l.funcs;
}
