-- The least compressed section that is found is the least of the used sections that are compressed.
use Rattle.std.specs.Prelude.{◌||◌}
use Rattle.std.proofs.Common.{◌≡◌, ◌⊎◌, ℕ, zero, suc, ◌<◌, ◌≤◌, Bool, true, false, cond, List, Option, Some, None, min, refl, sym, ap, subst, ◌∙◌, inl, inr, arith}
use Rattle.std.proofs.lemmas.Bool.{cases_lt}
use Rattle.elf_read.specs.Compressed.{IsUsedBy, IsUsed, NoneIsCompressed}
use Rattle.elf_read.specs.Sections.{section_count, section_fields, is_compressed, is_eh_frame}
use Rattle.elf_read.specs.Used.{compressed_by, compressed_check, if_compressed, is_group, is_used_rela, least, least_compressed, refused_compressed}

-- the least number of which P holds, or that it holds of none
abbrev LeastOf : (ℕ → Type 0) → Option ℕ → Type 0
LeastOf P None = (k : ℕ) → P k → ⊥
LeastOf P (Some i) = P i × ((k : ℕ) → P k → i ≤ k)

either : (P Q : ℕ → Type 0) (a b : Option ℕ) → LeastOf P a → LeastOf Q b → LeastOf (λ k. P k ⊎ Q k) (least a b)
either P Q None None p q = λ k h. elim h [ inl x ↦ p k x | inr y ↦ q k y ]
either P Q None (Some b) p q = (inr q.0, λ k h. elim h [ inl x ↦ absurd (p k x) | inr y ↦ q.1 k y ])
either P Q (Some a) None p q = (inl p.0, λ k h. elim h [ inl x ↦ p.1 k x | inr y ↦ absurd (q k y) ])
either P Q (Some a) (Some b) p q = elim (cases_lt a b) [
  | inl below ↦
      let is : min a b ≡ a = omega (arith, below) in
      subst (λ (n : ℕ). LeastOf (λ k. P k ⊎ Q k) (Some n)) (sym is) (inl p.0, λ k h. elim h [ inl x ↦ p.1 k x | inr y ↦ let low : b ≤ k = q.1 k y in omega (arith, below, low) ])
  | inr not_below ↦
      let is : min a b ≡ b = omega (arith, not_below) in
      subst (λ (n : ℕ). LeastOf (λ k. P k ⊎ Q k) (Some n)) (sym is) (inr q.0, λ k h. elim h [ inl x ↦ let low : a ≤ k = p.1 k x in omega (arith, not_below, low) | inr y ↦ q.1 k y ])
]

same_of : (P Q : ℕ → Type 0) (found : Option ℕ) → ((k : ℕ) → P k → Q k) → ((k : ℕ) → Q k → P k) → LeastOf P found → LeastOf Q found
same_of P Q None to from h = λ k q. h k (from k q)
same_of P Q (Some i) to from h = (to i h.0, λ k q. h.1 k (from k q))

-- one number, where it is used and names a compressed section
abbrev IsOne : List ℕ → Bool → ℕ → ℕ → Type 0
IsOne file used i k = ((k ≡ i) × (used ≡ true)) × (is_compressed file k ≡ true)

one : (file : List ℕ) (used : Bool) (i : ℕ) → LeastOf (IsOne file used i) (if_compressed file used i)
unfolding if_compressed
one file false i = λ k h. absurd cc
one file true i = at_test (is_compressed file i) refl
  where
    at_test : (b : Bool) → is_compressed file i ≡ b → LeastOf (IsOne file true i) (cond b (Some i) None)
    at_test true e = (((refl, refl), e), λ k h. omega (arith, h.0.0))
    at_test false e = λ k h. let there : is_compressed file i ≡ true = ap (is_compressed file) (sym h.0.0) ∙ h.1 in absurd cc

-- because of one section
abbrev IsBy : List ℕ → (j k : ℕ) → Type 0
IsBy file j k = IsUsedBy file j k × (is_compressed file k ≡ true)

by_one : (file : List ℕ) (j : ℕ) → LeastOf (IsBy file j) (compressed_by file j)
unfolding compressed_by
by_one file j =
    let group = is_group file j in
    let linking = is_used_rela file j || group in
    let itself = IsOne file (is_eh_frame file j || linking) j in
    let table = IsOne file linking (section_fields file j).sh_link in
    let strings = IsOne file group (section_fields file (section_fields file j).sh_link).sh_link in
    same_of (λ k. itself k ⊎ (table k ⊎ strings k)) (IsBy file j) (compressed_by file j)
    (λ k h. elim h [ inl x ↦ (inl x.0, x.1) | inr y ↦ elim y [ inl t ↦ (inr (inl t.0), t.1) | inr s ↦ (inr (inr s.0), s.1) ] ])
    (λ k h. elim h.0 [ inl x ↦ inl (x, h.1) | inr y ↦ elim y [ inl t ↦ inr (inl (t, h.1)) | inr s ↦ inr (inr (s, h.1)) ] ])
    (either itself (λ k. table k ⊎ strings k) (if_compressed file (is_eh_frame file j || linking) j) (least (if_compressed file linking (section_fields file j).sh_link) (if_compressed file group (section_fields file (section_fields file j).sh_link).sh_link))
    (one file (is_eh_frame file j || linking) j)
    (either table strings (if_compressed file linking (section_fields file j).sh_link) (if_compressed file group (section_fields file (section_fields file j).sh_link).sh_link) (one file linking (section_fields file j).sh_link) (one file group (section_fields file (section_fields file j).sh_link).sh_link)))

-- because of one of the first n
record IsBelow (file : List ℕ) (n k : ℕ) : Type 0 where
  by : ℕ
  within : by < n
  is : IsBy file by k

next : (file : List ℕ) (n k : ℕ) → IsBelow file (suc n) k → IsBelow file n k ⊎ IsBy file n k
next file n k h = elim (cases_lt h.by n) [
  | inl below ↦ inl (record { by = h.by; within = below; is = h.is })
  | inr not_below ↦ let same : h.by ≡ n = omega (arith, not_below, h.within) in inr (subst (λ (j : ℕ). IsBy file j k) same h.is)
]

below : (file : List ℕ) (n k : ℕ) → IsBelow file n k ⊎ IsBy file n k → IsBelow file (suc n) k
below file n k (inl h) = record { by = h.by; within = omega (arith, h.within); is = h.is }
below file n k (inr h) = record { by = n; within = omega arith; is = h }

least_of : (file : List ℕ) (n : ℕ) → LeastOf (IsBelow file n) (least_compressed file n)
unfolding least_compressed
least_of file zero = λ k h. absurd (omega (arith, h.within))
least_of file (suc n) =
    same_of (λ k. IsBelow file n k ⊎ IsBy file n k) (IsBelow file (suc n)) (least (least_compressed file n) (compressed_by file n)) (below file n) (next file n)
    (either (IsBelow file n) (IsBy file n) (least_compressed file n) (compressed_by file n) (least_of file n) (by_one file n))

is_below : (file : List ℕ) (k : ℕ) → IsUsed file k → is_compressed file k ≡ true → IsBelow file (section_count file) k
is_below file k h e = record { by = h.by; within = h.within; is = (h.used, e) }

not_true : (b : Bool) → (b ≡ true → ⊥) → b ≡ false
not_true true h = absurd (h refl)
not_true false h = refl

of_least : (file : List ℕ) (found : Option ℕ) → LeastOf (IsBelow file (section_count file)) found → NoneIsCompressed file (refused_compressed file found)
of_least file None h = λ k used. not_true (is_compressed file k) (λ e. h k (is_below file k used e))
of_least file (Some i) h = (
  i,
  refl,
  record {
    used = record { by = h.0.by; within = h.0.within; used = h.0.is.0 };
    compressed = h.0.is.1;
    least = λ k used e. h.1 k (is_below file k used e);
  },
)

pub none_is_compressed : (file : List ℕ) → NoneIsCompressed file (compressed_check file)
unfolding compressed_check
none_is_compressed file = of_least file (least_compressed file (section_count file)) (least_of file (section_count file))
