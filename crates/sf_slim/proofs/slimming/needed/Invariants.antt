use Rattle.std.proofs.Common.{◌≡◌, All, map, take}
use Rattle.sf_write.specs.Stored.{IsStored, stored_in}
use Rattle.sf_merge.proofs.Apart.{function_of}
use Rattle.sf_slim.proofs.Needed.{needed}
use Rattle.sf_slim.proofs.slimming.needed.Given as goal

-- the functions so far are stored
abbrev pub invariant-loop-place : goal.invariant-loop-place
invariant-loop-place l = record {
  stored : All (IsStored l.rows) l.functions.items;
  functions : map (stored_in l.rows) l.functions.items ≡ needed (map function_of (take l.place l.ordered));
}
