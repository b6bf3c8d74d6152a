-- Placing one section after the other.
use Rattle.std.proofs.Common.{◌≡◌, ℕ, suc, ◌+◌, Bool, true, List, [], ◌∷◌, ◌++◌, Some, None, Result, Err, refl, sym, ap, ◌∙◌, arith, inl, inr, if◌then◌else◌}
use Rattle.std.proofs.lemmas.Bool.{cases_Bool}
use Rattle.elf_read.specs.Checking.{unless, where_so, numbers_below}
use Rattle.elf_read.specs.Header.{is_rel}
use Rattle.elf_read.specs.Sections.{section_fields}
use Rattle.elf_place.specs.declared.fault.PlaceFault.{PlaceFault}
use Rattle.elf_place.specs.declared.fault.PlaceFault.TheVariants.{Align, AddressOverflow, NoBits, NoMemory}
use Rattle.elf_place.specs.Cursor.{start_from, cursor_from, address_from, overflow_from, IsCursor, placed_below}
use Rattle.elf_place.specs.Place.{is_placed, aligned, has_addresses, end_of, section_start, address_of, overflow_check, Fails, is_kept_eh_frame, eh_frames_below}
use Rattle.elf_place.proofs.Numbers.{with_one, filter_none, filter_suc}

-- the cursor starts at the base
pub is_cursor-start : (file : List ℕ) (dropped : List Bool) (base : ℕ) → IsCursor file dropped base 0 base
unfolding numbers_below end_of
is_cursor-start file dropped base object = refl

end_of-one : (file : List ℕ) (from i : ℕ) → end_of file from (i ∷ []) ≡ aligned from (section_fields file i).sh_addralign + (section_fields file i).sh_size
unfolding end_of
end_of-one file from i = refl

end_of-more : (file : List ℕ) (from i j : ℕ) (others : List ℕ) → end_of file from ((i ∷ others) ++ j ∷ []) ≡ end_of file (aligned from (section_fields file i).sh_addralign + (section_fields file i).sh_size) (others ++ j ∷ [])
unfolding end_of
end_of-more file from i j others = refl

end_of-behind : (file : List ℕ) (from i : ℕ) (others : List ℕ) → end_of file from (i ∷ others) ≡ end_of file (aligned from (section_fields file i).sh_addralign + (section_fields file i).sh_size) others
unfolding end_of
end_of-behind file from i others = refl

end_of-none : (file : List ℕ) (from : ℕ) → end_of file from [] ≡ from
unfolding end_of
end_of-none file from = refl

-- one section more
end_of-append : (file : List ℕ) (from : ℕ) (sections : List ℕ) (j : ℕ) → end_of file from (sections ++ j ∷ []) ≡ aligned (end_of file from sections) (section_fields file j).sh_addralign + (section_fields file j).sh_size
end_of-append file from [] j =
    end_of-one file from j ∙ ap (λ (e : ℕ). aligned e (section_fields file j).sh_addralign + (section_fields file j).sh_size) (sym (end_of-none file from))
end_of-append file from (i ∷ others) j =
    end_of-more file from i j others
    ∙ end_of-append file (aligned from (section_fields file i).sh_addralign + (section_fields file i).sh_size) others j
    ∙ ap (λ (e : ℕ). aligned e (section_fields file j).sh_addralign + (section_fields file j).sh_size) (sym (end_of-behind file from i others))

placed_below-suc : (file : List ℕ) (dropped : List Bool) (i : ℕ) → placed_below file dropped (suc i) ≡ with_one (is_placed file dropped i) i (placed_below file dropped i)
placed_below-suc file dropped i = filter_suc (is_placed file dropped) i

placed_below-more : (file : List ℕ) (dropped : List Bool) (i : ℕ) → placed_below file dropped (i + 1) ≡ with_one (is_placed file dropped i) i (placed_below file dropped i)
placed_below-more file dropped i =
    let next : i + 1 ≡ suc i = omega arith in
    ap (placed_below file dropped) next ∙ placed_below-suc file dropped i

start_from-object : (file : List ℕ) (base cursor i : ℕ) → is_rel file ≡ true → start_from file base cursor i ≡ aligned cursor (section_fields file i).sh_addralign
unfolding start_from
start_from-object file base cursor i object = rw object refl

-- where a section starts by the cursor is where it starts
pub start_from-is : (file : List ℕ) (dropped : List Bool) (base i cursor : ℕ) → IsCursor file dropped base i cursor → start_from file base cursor i ≡ section_start file dropped base i
unfolding start_from section_start
start_from-is file dropped base i cursor is =
    elim (cases_Bool (is_rel file)) [
      | inl object ↦ rw object (ap (λ (e : ℕ). aligned e (section_fields file i).sh_addralign) (is object))
      | inr other ↦ rw other refl
    ]

pub address_from-is : (file : List ℕ) (dropped : List Bool) (base i cursor : ℕ) → IsCursor file dropped base i cursor → address_from file dropped base cursor i ≡ address_of file dropped base i
unfolding address_from address_of
address_from-is file dropped base i cursor is =
    ap (λ (start : ℕ). if is_placed file dropped i then Some start else None) (start_from-is file dropped base i cursor is)

pub overflow_from-is : (file : List ℕ) (dropped : List Bool) (base i cursor : ℕ) → IsCursor file dropped base i cursor → overflow_from file dropped base cursor i ≡ overflow_check file dropped base i
unfolding overflow_from overflow_check
overflow_from-is file dropped base i cursor is =
    ap (λ (start : ℕ). where_so (is_placed file dropped i) (unless (has_addresses start (section_fields file i).sh_size) (AddressOverflow i))) (start_from-is file dropped base i cursor is)

-- the cursor after a section is where the sections up to it end
pub is_cursor-next : (file : List ℕ) (dropped : List Bool) (base i cursor : ℕ) → IsCursor file dropped base i cursor → IsCursor file dropped base (i + 1) (cursor_from file dropped base cursor i)
unfolding cursor_from
is_cursor-next file dropped base i cursor is object =
    elim (cases_Bool (is_placed file dropped i)) [
      | inl placed ↦
          rw (placed_below-more file dropped i, placed)
          (ap (λ (start : ℕ). start + (section_fields file i).sh_size) (start_from-object file base cursor i object)
          ∙ ap (λ (e : ℕ). aligned e (section_fields file i).sh_addralign + (section_fields file i).sh_size) (is object)
          ∙ sym (end_of-append file base (placed_below file dropped i) i))
      | inr other ↦ rw (placed_below-more file dropped i, other) (is object)
    ]

-- a fault that the check has is an answer to it
pub fails : (e : PlaceFault) (check : Result (Unit {0}) PlaceFault) → check ≡ Err e → Fails e check
fails (Align i) check h = h
fails (AddressOverflow i) check h = h
fails (NoBits i) check h = h
fails NoMemory check h = tt

pub eh_frames_below-none : (file : List ℕ) (dropped : List Bool) → eh_frames_below file dropped 0 ≡ []
unfolding eh_frames_below
eh_frames_below-none file dropped = filter_none (is_kept_eh_frame file dropped)

pub one_more : (file : List ℕ) (dropped : List Bool) (i : ℕ) → eh_frames_below file dropped (suc i) ≡ with_one (is_kept_eh_frame file dropped i) i (eh_frames_below file dropped i)
unfolding eh_frames_below
one_more file dropped i = filter_suc (is_kept_eh_frame file dropped) i

pub eh_frames_below-more : (file : List ℕ) (dropped : List Bool) (i : ℕ) → eh_frames_below file dropped (i + 1) ≡ with_one (is_kept_eh_frame file dropped i) i (eh_frames_below file dropped i)
eh_frames_below-more file dropped i =
    let next : i + 1 ≡ suc i = omega arith in
    ap (eh_frames_below file dropped) next ∙ one_more file dropped i
