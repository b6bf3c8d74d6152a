-- Inside the crate. What a call returned, compared with what a definition gives.
use Rattle.std.specs.Prelude.{◌≡◌, Result, Ok, Err}

-- the result, seen through `view`, is what the definition gives
abbrev pub Is : {X Y F : Type 0} → (X → Y) → Result X F → Result Y F → Type 0
Is view (Ok x) given = given ≡ Ok (view x)
Is view (Err fault) given = given ≡ Err fault
