-- The inputs of a command, with the bytes of their files.
use Rattle.std.specs.Prelude.{ℕ, List, map}
use Rattle.std.specs.List.{zip}
use Rattle.sf_asm.specs.Functions.{Object}
use Rattle.sf_words.specs.Words.{InputWords}

-- an input that a word names, with these bytes
abbrev pub object_in : InputWords × List ℕ → Object
object_in input = record { form = input.0.form; bytes = input.1; base = input.0.base }

-- the inputs that words name, with these bytes
abbrev pub objects_in : List InputWords → (items : List (List ℕ)) → List Object
objects_in inputs items = map object_in (zip inputs items)
