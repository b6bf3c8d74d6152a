use Rattle.std.proofs.Common.{◌≡◌, All, Vec, Global, [], length}
use Rattle.sf_model.specs.declared.function.Func.{Func}
use Rattle.sf_asm.proofs.list_forms.empty_lists.Given as goal

abbrev pub invariant-loop : goal.invariant-loop
invariant-loop l = record {
  count : length l.lists.items ≡ l.counter;
  empty : All (λ (list : Vec Func Global). list.items ≡ []) l.lists.items;
}
