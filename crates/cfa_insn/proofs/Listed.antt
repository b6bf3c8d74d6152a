-- What is listed of bytes are the instructions that spell them, up to the first place at which there is none.
use Rattle.std.specs.Prelude.{◌≢◌}
use Rattle.std.proofs.Common.{◌≡◌, ◌⊎◌, ℕ, ◌<◌, ◌≤◌, List, [], ◌∷◌, length, Result, Ok, Err, refl, sym, ap, subst, ◌∙◌, arith, inl, inr}
use Rattle.sf_bytes.specs.Cursor.{Cursor}
use Rattle.sf_bytes.proofs.Fields.{passes-within}
use Rattle.cfa_insn.specs.declared.fault.InsnFault.{InsnFault}
use Rattle.cfa_insn.specs.Instruction.{Instruction}
use Rattle.cfa_insn.specs.Listing.{Item, listing}
use Rattle.cfa_insn.specs.Spelling.{InstructionStands, NoInstruction, AreInstructions}
use Rattle.cfa_insn.specs.Table.{instruction_at}
use Rattle.cfa_insn.proofs.Listings.{starts_with_instruction, starts_with_fault, nothing_left}
use Rattle.cfa_insn.proofs.Faults.{fault_stands, one_fault}
use Rattle.cfa_insn.proofs.Spelled.{instruction_read, instruction_stands}

abbrev refused : InsnFault → Result (Instruction × Cursor) InsnFault
refused e = Err e

abbrev fine : Instruction × Cursor → Result (Instruction × Cursor) InsnFault
fine x = Ok x

fine_not : (x : Instruction × Cursor) (e : InsnFault) → fine x ≡ Err e → ⊥
fine_not x e h = cc

pub none_stands : (at : Cursor) (e : InsnFault) → instruction_at at ≡ Err e → (i : Instruction) (to : Cursor) → InstructionStands i at to → ⊥
none_stands at e refused i to s = fine_not (i, to) e (sym (instruction_read i at to s) ∙ refused)

abbrev item_of : ℕ × Instruction → Item
item_of x = Ok x

abbrev fault_item : InsnFault → Item
fault_item e = Err e

some : (i : Instruction) (at to : Cursor) → InstructionStands i at to → 0 < length at.left
some i at to (op, between, byte, operands) =
    let within : length byte.run ≤ length at.left = passes-within byte.run at between byte.passes in
    let one : length byte.run ≡ 1 = byte.kind.width in
    omega (arith, within, one)

positive : (bytes : List ℕ) → bytes ≢ [] → 0 < length bytes
positive [] h = absurd (h refl)
positive (b ∷ bs) h = omega arith

-- if no instruction is at the front, the fault is the one that is read
refused_by : (at : Cursor) (e : InsnFault) (r : Result (Instruction × Cursor) InsnFault) → instruction_at at ≡ r → NoInstruction at e → r ≡ Err e
refused_by at e (Ok x) read none = absurd (none.none x.0 x.1 (instruction_stands x.0 at x.1 read))
refused_by at e (Err f) read none = ap (λ (d : InsnFault). refused d) (one_fault at f e (fault_stands at f (positive at.left none.more) read) none.fault)

pub listed : (items : List Item) (at : Cursor) → AreInstructions items at → listing at ≡ items
listed [] at h = nothing_left at.place at.left (ap length h)
listed (Ok x ∷ items) at (place, (to, stands, rest)) =
    starts_with_instruction at.place at.left x.1 to (some x.1 at to stands) (instruction_read x.1 at to stands)
    ∙ ap (λ (xs : List Item). item_of (at.place, x.1) ∷ xs) (listed items to rest)
    ∙ ap (λ (n : ℕ). item_of (n, x.1) ∷ items) (sym place)
listed (Err e ∷ items) at (end, none) =
    starts_with_fault at.place at.left e (positive at.left none.more) (refused_by at e (instruction_at at) refl none) ∙ ap (λ (xs : List Item). fault_item e ∷ xs) (sym end)

-- ---- what is listed is there
abbrev no_items : List Item
no_items = []

abbrev then_items : Item → List Item → List Item
then_items x xs = x ∷ xs

no_first : (x : Item) (xs : List Item) → then_items x xs ≡ no_items → ⊥
no_first x xs e = cc

first_same : (x y : Item) (xs ys : List Item) → then_items x xs ≡ then_items y ys → x ≡ y
first_same x y xs ys e = cc

rest_same : (x y : Item) (xs ys : List Item) → then_items x xs ≡ then_items y ys → xs ≡ ys
rest_same x y xs ys e = cc

item_same : (x y : ℕ × Instruction) → item_of x ≡ item_of y → x ≡ y
item_same x y e = cc

fault_same : (e f : InsnFault) → fault_item e ≡ fault_item f → e ≡ f
fault_same e f h = cc

item_not_fault : (x : ℕ × Instruction) (e : InsnFault) → item_of x ≡ fault_item e → ⊥
item_not_fault x e h = cc

empty_or : (bytes : List ℕ) → (bytes ≡ []) ⊎ (0 < length bytes)
empty_or [] = inl refl
empty_or (b ∷ bs) = inr (omega arith)

not_empty : (bytes : List ℕ) → 0 < length bytes → bytes ≢ []
not_empty bytes h e = let none : length bytes ≡ 0 = ap length e in omega (arith, h, none)

ends_by : (at : Cursor) (r : Result (Instruction × Cursor) InsnFault) → instruction_at at ≡ r → 0 < length at.left → listing at ≡ [] → ⊥
ends_by at (Ok x) read more e = no_first (item_of (at.place, x.0)) (listing x.1) (sym (starts_with_instruction at.place at.left x.0 x.1 more read) ∙ e)
ends_by at (Err f) read more e = no_first (fault_item f) [] (sym (starts_with_fault at.place at.left f more read) ∙ e)

-- the first item, by what is read
record Next (at : Cursor) (item : Item) (items : List Item) : Type 0 where
  instruction : Instruction
  after : Cursor
  stands : InstructionStands instruction at after
  is : item ≡ item_of (at.place, instruction)
  rest : listing after ≡ items

record Last (at : Cursor) (item : Item) (items : List Item) : Type 0 where
  fault : InsnFault
  none : NoInstruction at fault
  is : item ≡ fault_item fault
  end : items ≡ []

next_by : (at : Cursor) (r : Result (Instruction × Cursor) InsnFault) (item : Item) (items : List Item) → instruction_at at ≡ r → 0 < length at.left → listing at ≡ item ∷ items → Next at item items ⊎ Last at item items
next_by at (Ok x) item items read more e =
    let both : then_items (item_of (at.place, x.0)) (listing x.1) ≡ then_items item items = sym (starts_with_instruction at.place at.left x.0 x.1 more read) ∙ e in
    inl (record {
      instruction = x.0;
      after = x.1;
      stands = instruction_stands x.0 at x.1 read;
      is = sym (first_same (item_of (at.place, x.0)) item (listing x.1) items both);
      rest = rest_same (item_of (at.place, x.0)) item (listing x.1) items both;
    })
next_by at (Err f) item items read more e =
    let both : then_items (fault_item f) [] ≡ then_items item items = sym (starts_with_fault at.place at.left f more read) ∙ e in
    inr (record {
      fault = f;
      none = record { more = not_empty at.left more; none = none_stands at f read; fault = fault_stands at f more read };
      is = sym (first_same (fault_item f) item [] items both);
      end = sym (rest_same (fault_item f) item [] items both);
    })

no_bytes : (at : Cursor) (item : Item) (items : List Item) → at.left ≡ [] → listing at ≡ item ∷ items → ⊥
no_bytes at item items none e = no_first item items (sym e ∙ nothing_left at.place at.left (ap length none))

next : (at : Cursor) (item : Item) (items : List Item) → listing at ≡ item ∷ items → Next at item items ⊎ Last at item items
next at item items e = elim (empty_or at.left) [
  | inl none ↦ absurd (no_bytes at item items none e)
  | inr more ↦ next_by at (instruction_at at) item items refl more e
]

pub stand_as_listed : (items : List Item) (at : Cursor) → listing at ≡ items → AreInstructions items at
stand_as_listed [] at e = elim (empty_or at.left) [
  | inl none ↦ none
  | inr more ↦ absurd (ends_by at (instruction_at at) refl more e)
]
stand_as_listed (Ok x ∷ items) at e = elim (next at (Ok x) items e) [
  | inl n ↦
      let same : x ≡ (at.place, n.instruction) = item_same x (at.place, n.instruction) n.is in
      let rest : AreInstructions items n.after = stand_as_listed items n.after n.rest in
      (ap (λ (y : ℕ × Instruction). y.0) same, (n.after, subst (λ (i : Instruction). InstructionStands i at n.after) (sym (ap (λ (y : ℕ × Instruction). y.1) same)) n.stands, rest))
  | inr l ↦ absurd (item_not_fault x l.fault l.is)
]
stand_as_listed (Err f ∷ items) at e = elim (next at (Err f) items e) [
  | inl n ↦ absurd (item_not_fault (at.place, n.instruction) f (sym n.is))
  | inr l ↦ (l.end, subst (NoInstruction at) (sym (fault_same f l.fault l.is)) l.none)
]

-- there is one listing
pub one_listing : (one other : List Item) (at : Cursor) → AreInstructions one at → AreInstructions other at → one ≡ other
one_listing one other at h k = sym (listed one at h) ∙ listed other at k
