-- Whether letters were read doesn't depend on how they are seen.
use Rattle.std.proofs.Common.{◌≡◌, ℕ, List, Option, Some, None, refl}
use Rattle.std.specs.Prelude.{is_some}
use Rattle.std.specs.Borrow.{Bor}
use Rattle.std.specs.Option.{option_map}

pub some_same : (letters : Option (Bor (List ℕ))) → is_some (option_map (λ text. text.now) letters) ≡ is_some letters
some_same None = refl
some_same (Some x) = refl
