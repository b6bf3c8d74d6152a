-- Sections that were placed lie in memory.
use Rattle.std.specs.Prelude.{◌&&◌, nat_lt, nat_le}
use Rattle.std.proofs.Common.{◌≡◌, ℕ, zero, suc, ◌+◌, ◌<◌, ◌≤◌, ◌^◌, Bool, true, false, List, get_or, length, Option, Some, None, Result, Ok, Err, refl, sym, ap, subst, ◌∙◌, arith, inl, inr, if◌then◌else◌, ltb-true}
use Rattle.std.proofs.Math.Nat.{eq-or-lt_of_le}
use Rattle.std.proofs.lemmas.Bool.{cases_lt, leb-true}
use Rattle.std.proofs.lemmas.List.{get_or_past}
use Rattle.elf_read.specs.Checking.{unless, where_so, ◌>>◌, each_below}
use Rattle.elf_read.specs.Sections.{section_fields}
use Rattle.elf_place.specs.declared.fault.PlaceFault.{PlaceFault}
use Rattle.elf_place.specs.declared.fault.PlaceFault.TheVariants.{AddressOverflow}
use Rattle.elf_place.specs.Place.{is_placed, has_addresses, section_start, address_of, overflow_check, LiesInMemory}
use Rattle.elf_place.proofs.Values.{values_below, length-values_below, get_or-values_below}

abbrev okay : Result (Unit {0}) PlaceFault
okay = Ok tt

both_ok : (a b : Result (Unit {0}) PlaceFault) → (a >> b) ≡ okay → (a ≡ okay) × (b ≡ okay)
both_ok (Ok x) b h = (refl, h)
both_ok (Err e) b h = absurd cc

each_below-suc : (n : ℕ) (check : ℕ → Result (Unit {0}) PlaceFault) → each_below (suc n) check ≡ (each_below n check >> check n)
unfolding each_below
each_below-suc n check = refl

each_ok : (n i : ℕ) (check : ℕ → Result (Unit {0}) PlaceFault) → i < n → each_below n check ≡ okay → check i ≡ okay
each_ok zero i check within h = absurd (omega arith)
each_ok (suc n) i check within h =
    let p = both_ok (each_below n check) (check n) (sym (each_below-suc n check) ∙ h) in
    let upto : i ≤ n = omega arith in
    elim (eq-or-lt_of_le upto) [
      | inl same ↦ ap check same ∙ p.1
      | inr below ↦ each_ok n i check below p.0
    ]

both_true : (a b : Bool) → (a && b) ≡ true → (a ≡ true) × (b ≡ true)
both_true true b h = (refl, h)
both_true false b h = absurd cc

in_memory_by : (b : Bool) (start size i : ℕ) → has_addresses start size ≡ b → unless b (AddressOverflow i) ≡ okay → (start < 2 ^ 64) × (start + size ≤ 2 ^ 64)
in_memory_by true start size i t h =
    let p = both_true (nat_lt start (2 ^ 64)) (nat_le (start + size) (2 ^ 64)) t in
    (ltb-true _ _ p.0, leb-true _ _ p.1)
in_memory_by false start size i t h = absurd cc

placed_by : (b : Bool) (start size i : ℕ) → where_so b (unless (has_addresses start size) (AddressOverflow i)) ≡ okay → LiesInMemory (if b then Some start else None) size
placed_by true start size i h = in_memory_by (has_addresses start size) start size i refl h
placed_by false start size i h = tt

address_lies : (file : List ℕ) (dropped : List Bool) (base i : ℕ) → overflow_check file dropped base i ≡ okay → LiesInMemory (address_of file dropped base i) (section_fields file i).sh_size
unfolding overflow_check address_of
address_lies file dropped base i h = placed_by (is_placed file dropped i) (section_start file dropped base i) (section_fields file i).sh_size i h

pub addresses_lie : (file : List ℕ) (dropped : List Bool) (base count : ℕ) (addresses : List (Option ℕ)) → addresses ≡ values_below count (address_of file dropped base) → each_below count (overflow_check file dropped base) ≡ okay
    → (i : ℕ) → LiesInMemory (get_or addresses i None) (section_fields file i).sh_size
addresses_lie file dropped base count addresses is h i = elim (cases_lt i count) [
  | inl within ↦
      let at : get_or addresses i None ≡ address_of file dropped base i = ap (λ (xs : List (Option ℕ)). get_or xs i None) is ∙ get_or-values_below count (address_of file dropped base) i None within in
      subst (λ (o : Option ℕ). LiesInMemory o (section_fields file i).sh_size) (sym at) (address_lies file dropped base i (each_ok count i (overflow_check file dropped base) within h))
  | inr past ↦
      let len : length addresses ≡ count = ap (λ (xs : List (Option ℕ)). length xs) is ∙ length-values_below count (address_of file dropped base) in
      let none : get_or addresses i None ≡ None = get_or_past addresses i None (omega (arith, len, past)) in
      subst (λ (o : Option ℕ). LiesInMemory o (section_fields file i).sh_size) (sym none) tt
]
