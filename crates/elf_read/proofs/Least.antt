-- The least compressed section, one section after the other.
use Rattle.std.proofs.Common.{◌≡◌, ℕ, suc, ◌+◌, List, None, refl, ap, ◌∙◌, arith}
use Rattle.elf_read.specs.Used.{least, compressed_by, least_compressed}

pub least_compressed_none : (file : List ℕ) → least_compressed file 0 ≡ None
unfolding least_compressed
least_compressed_none file = refl

after_suc : (file : List ℕ) (i : ℕ) → least_compressed file (suc i) ≡ least (least_compressed file i) (compressed_by file i)
unfolding least_compressed
after_suc file i = refl

pub least_compressed_more : (file : List ℕ) (i : ℕ) → least_compressed file (i + 1) ≡ least (least_compressed file i) (compressed_by file i)
least_compressed_more file i = let next : i + 1 ≡ suc i = omega arith in ap (least_compressed file) next ∙ after_suc file i
