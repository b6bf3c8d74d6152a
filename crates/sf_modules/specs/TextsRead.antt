-- Inside the crate. How the names of the note on mapped files are read (Linux core files, NT_FILE). `Note.antt` says what the names are.
use Rattle.std.specs.Prelude.{ℕ, zero, suc, ◌+◌, List, [], ◌∷◌, take, drop, Option, Some}
use Rattle.std.specs.List.{position}
use Rattle.std.specs.Option.{option_and_then, option_map}
use Rattle.sf_modules.specs.Note.{is_zero_byte}

-- the bytes up to the first zero byte, and those after it, if there is one
unfoldable pub text_front : List ℕ → Option (List ℕ × List ℕ)
text_front bytes = option_map (λ (k : ℕ). (take k bytes, drop (k + 1) bytes)) (position is_zero_byte bytes)

-- the first n texts of bytes, each up to its zero byte, if there are n
unfoldable pub texts_in : (n : ℕ) → List ℕ → Option (List (List ℕ))
texts_in zero bytes = Some []
texts_in (suc n) bytes = option_and_then (λ (t : List ℕ × List ℕ). option_map (λ (texts : List (List ℕ)). t.0 ∷ texts) (texts_in n t.1)) (text_front bytes)
