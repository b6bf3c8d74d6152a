use Rattle.std.proofs.Common.{◌≡◌, ℕ, List, length, take, drop, sym, subst, ◌∙◌}
use Rattle.elf_mapped.proofs.building.copy_of.Goals as goal

pub returns : goal.returns
returns c = λ file part.
    let place = c.args.part.now.place in
    subst (λ (xs : List ℕ). xs ≡ take (length xs) (drop place file)) (sym (c.in_ok-from_slice.ensures.items ∙ c.deref.ensures.value)) part
