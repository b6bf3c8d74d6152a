-- Load segments as spans of their addresses: the first span that has an address is that of the first segment that does.
use Rattle.std.specs.Prelude.{nat_le, nat_lt, ◌==◌, ◌&&◌}
use Rattle.std.specs.List.{find, range_with_len}
use Rattle.std.specs.Option.{option_map}
use Rattle.std.proofs.Common.{◌≡◌, ℕ, ◌+◌, Bool, true, false, cond, List, [], ◌∷◌, map, Some, refl, ap, ◌∙◌, arith, inl, inr}
use Rattle.std.proofs.lemmas.Bool.{cases_lt, le-ltb, lt-leb}
use Rattle.elf_read.specs.Header.{p_type, p_vaddr}
use Rattle.elf_read.specs.Sections.{segment_count}
use Rattle.elf_read.specs.SegmentFields.{is_executable, p_memsz}
use Rattle.sf_lookup.specs.declared.span.Span.{Span}
use Rattle.sf_lookup.specs.Span.{answer_of, covers}
use Rattle.core_notes.specs.MemoryBytes.{executable_at, segment_contains, load_span, load_spans}

pub none_covered : (start address : ℕ) → (nat_le start address && nat_lt address (start + 0)) ≡ false
none_covered start address =
    elim (cases_lt address start) [
      | inl before ↦ ap (λ (b : Bool). b && nat_lt address (start + 0)) (lt-leb start address before)
      | inr from ↦ ap (λ (b : Bool). nat_le start address && b) (le-ltb address (start + 0) (omega (from, arith))) ∙ never (nat_le start address)
    ]
  where
    never : (b : Bool) → (b && false) ≡ false
    never true = refl
    never false = refl

covers-load : (file : List ℕ) (address i : ℕ) → covers address (load_span file i) ≡ segment_contains file address i
covers-load file address i = by_kind (p_type file i == 1)
  where
    by_kind : (b : Bool) → (nat_le (p_vaddr file i) address && nat_lt address (p_vaddr file i + cond b (p_memsz file i) 0))
        ≡ (b && nat_le (p_vaddr file i) address && nat_lt address (p_vaddr file i + p_memsz file i))
    by_kind true = refl
    by_kind false = none_covered (p_vaddr file i) address

first_load : (file : List ℕ) (address : ℕ) (numbers : List ℕ) → answer_of (map (load_span file) numbers) address ≡ option_map (is_executable file) (find (segment_contains file address) numbers)
first_load file address [] = refl
first_load file address (i ∷ numbers) =
    ap (λ (b : Bool). option_map (λ (s : Span Bool). s.leads_to) (cond b (Some (load_span file i)) (find (covers address) (map (load_span file) numbers)))) (covers-load file address i)
    ∙ at_test (segment_contains file address i) (first_load file address numbers)
  where
    at_test : (b : Bool) → answer_of (map (load_span file) numbers) address ≡ option_map (is_executable file) (find (segment_contains file address) numbers)
        → option_map (λ (s : Span Bool). s.leads_to) (cond b (Some (load_span file i)) (find (covers address) (map (load_span file) numbers))) ≡ option_map (is_executable file) (cond b (Some i) (find (segment_contains file address) numbers))
    at_test true later = refl
    at_test false later = later

pub answers_executable : (file : List ℕ) (address : ℕ) → answer_of (load_spans file) address ≡ executable_at file address
unfolding executable_at
answers_executable file address = first_load file address (range_with_len 0 (segment_count file))
