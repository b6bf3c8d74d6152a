-- What a call returned, compared with what a definition gives. A call may run out of memory, a definition never does:
-- `refusal_of` gives the definition's fault for a call's fault, or none for out of memory.
use Rattle.std.specs.Prelude.{◌≡◌, Option, Some, None, Result, Ok, Err}
use Rattle.std.specs.Option.{IfSome}

-- the definition gives this fault, or memory ran out
abbrev pub Fails : {Y F G : Type 0} → (refusal_of : F → Option G) → F → Result Y G → Type 0
Fails refusal_of fault given = IfSome (refusal_of fault) (λ refusal. given ≡ Err refusal)

-- the result, seen through `view`, is what the definition gives, unless memory ran out
abbrev pub Gives : {X Y F G : Type 0} → (refusal_of : F → Option G) → (X → Y) → Result X F → Result Y G → Type 0
Gives refusal_of view (Ok x) given = given ≡ Ok (view x)
Gives refusal_of view (Err fault) given = Fails refusal_of fault given

-- the first fault is the call's fault, or none if the call succeeded, unless memory ran out
abbrev pub FailsFirst : {X F G : Type 0} → (refusal_of : F → Option G) → Result X F → Option G → Type 0
FailsFirst refusal_of (Ok x) first = first ≡ None
FailsFirst refusal_of (Err fault) first = IfSome (refusal_of fault) (λ refusal. first ≡ Some refusal)
