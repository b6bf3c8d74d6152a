-- The limits of loading of items that exceed none.
use Rattle.std.specs.Prelude.{nat_lt}
use Rattle.std.proofs.Common.{◌≡◌, ℕ, ◌<◌, ◌≤◌, Bool, true, false, cond, List, Some, None, refl, ap, sym, ◌∙◌, arith}
use Rattle.std.proofs.lemmas.Bool.{lt-ltb}
use Rattle.std.proofs.lemmas.Bool.Decides.{nat_tests}
use Rattle.sf_words.specs.declared.refusal.Limit.TheVariants.{Inputs}
use Rattle.sf_words.specs.Files.{FilesWords, counted_items, items_of}
use Rattle.sf_words.specs.Loading.{files_limit, items_limit}

by_count : (command : FilesWords) (files : List (List ℕ)) (many : Bool) → nat_lt 512 (counted_items command) ≡ many → files_limit command files ≡ cond many (Some Inputs) (items_limit (items_of command) files)
unfolding files_limit
by_count command files many e = ap (λ (b : Bool). cond b (Some Inputs) (items_limit (items_of command) files)) e

not_many : (n : ℕ) → nat_lt 512 n ≡ false → n ≤ 512
not_many n h = grind (arith, nat_tests)

few : (n : ℕ) → n ≤ 512 → nat_lt 512 n ≡ false
few n h = grind (arith, nat_tests)

pub within_limits : (command : FilesWords) (files : List (List ℕ)) → files_limit command files ≡ None → (counted_items command ≤ 512) × (items_limit (items_of command) files ≡ None)
within_limits command files h = by_test (nat_lt 512 (counted_items command)) refl
  where
    by_test : (many : Bool) → nat_lt 512 (counted_items command) ≡ many → (counted_items command ≤ 512) × (items_limit (items_of command) files ≡ None)
    by_test true e = let some : Some Inputs ≡ None = sym (by_count command files true e) ∙ h in absurd cc
    by_test false e = (not_many (counted_items command) e, sym (by_count command files false e) ∙ h)

pub few_limit : (command : FilesWords) (files : List (List ℕ)) → counted_items command ≤ 512 → files_limit command files ≡ items_limit (items_of command) files
few_limit command files h = by_count command files false (few (counted_items command) h)

pub many_limit : (command : FilesWords) (files : List (List ℕ)) → 512 < counted_items command → files_limit command files ≡ Some Inputs
many_limit command files h = by_count command files true (lt-ltb 512 (counted_items command) h)
