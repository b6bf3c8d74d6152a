-- Whether a function has a signal frame is decided by its instructions, and it has one at most.
use Rattle.std.proofs.Common.{◌≡◌, ◌⊎◌, inl, inr, ℕ, ℤ, ◌+◌, ◌==◌, Bool, true, false, List, [], ◌∷◌, ◌++◌, length, Option, Some, None, Ok, Err, IfSome, refl, sym, ap, subst, ◌∙◌, eqb-true, eq-eqb, int_eq}
use Rattle.std.proofs.lemmas.Bool.Decides.{Decides-int_eq, not_from_Decides}
use Rattle.sf_bytes.specs.Cursor.{Cursor, Read}
use Rattle.sf_bytes.specs.Leb.{sleb_at}
use Rattle.sf_bytes.proofs.Lebs.{sleb_again, sleb_takes}
use Rattle.sf_model.specs.declared.facts.FdeFacts.{FdeFacts}
use Rattle.sf_model.specs.declared.machine.Arch.{Arch}
use Rattle.sf_model.specs.declared.machine.Arch.TheVariants.{Amd64, Aarch64}
use Rattle.cfa_insn.specs.Listing.{Item}
use Rattle.cfa_machine.specs.Registers.{return_address}
use Rattle.signal_frames.specs.declared.frame.SignalFrame.{SignalFrame}
use Rattle.signal_frames.specs.Expression.{BeginsAtStack, DW_OP_breg7, DW_OP_deref}
use Rattle.signal_frames.specs.Rules.{Expression, Other, Rule, RulesView}
use Rattle.signal_frames.specs.Run.{no_rules, rules_by}
use Rattle.signal_frames.specs.SignalFrame.{HaveConstants, IsFrameAddress, IsSavedAt, IsSignal, IsSignalFrame, IsValueAt, latest_rules}
use Rattle.signal_frames.proofs.Expressions.{constant_stands}
use Rattle.signal_frames.proofs.Frames.{found, has_constants, has_rules}

-- ---- one value, or none
data OneOrNone {X : Type 0} (P : X → Type 0) : Type 0 where
  one : (x : X) → P x → ((y : X) → P y → x ≡ y) → OneOrNone P
  none : ((x : X) → P x → ⊥) → OneOrNone P

-- it holds, or it doesn't
abbrev IsOrNot : Type 0 → Type 0
IsOrNot P = P ⊎ (P → ⊥)

-- ---- an expression
-- it begins with the stack pointer plus a constant, and these bytes come after that
abbrev Begins : List ℕ → ℤ × List ℕ → Type 0
Begins expression x = BeginsAtStack expression x.0 x.1

module _ (opcode : ℕ) (operand : List ℕ) (is : opcode ≡ DW_OP_breg7) where
  abbrev start : Cursor
  start = record { place = 0; left = operand }

  begins : (constant : ℤ) (after : Cursor) → sleb_at start ≡ Ok (constant, after) → Begins (opcode ∷ operand) (constant, after.left)
  begins constant after e =
      let stands = sleb_takes start constant after e in
      record { run = stands.run; is_constant = stands.kind; bytes = ap (λ (o : ℕ). o ∷ operand) is ∙ ap (λ (bytes : List ℕ). DW_OP_breg7 ∷ bytes) stands.passes.bytes }

  read_again : (x : ℤ × List ℕ) → Begins (opcode ∷ operand) x → (after : Cursor) × (sleb_at start ≡ Ok (x.0, after)) × (after.left ≡ x.1)
  read_again x h =
      let after : Cursor = record { place = 0 + length h.run; left = x.1 } in
      (after, sleb_again start x.0 after (constant_stands (opcode ∷ operand) operand opcode start x.0 x.1 refl refl h), refl)

  by_read : (read : Read ℤ) → sleb_at start ≡ read → OneOrNone (Begins (opcode ∷ operand))
  by_read (Ok (constant, after)) e = one (constant, after.left) (begins constant after e) (λ y h.
      let again = read_again y h in
      let same : Ok (constant, after) ≡ Ok (y.0, again.0) = sym e ∙ again.1 in
      let both : (constant, after) ≡ (y.0, again.0) = cc in
      let rests : after.left ≡ y.1 = ap (λ (x : ℤ × Cursor). x.1.left) both ∙ again.2 in
      ap (λ (z : ℤ). (z, after.left)) (ap (λ (x : ℤ × Cursor). x.0) both) ∙ ap (λ (rest : List ℕ). (y.0, rest)) rests)
  by_read (Err fault) e = none (λ y h. let again = read_again y h in let no : Err fault ≡ Ok (y.0, again.0) = sym e ∙ again.1 in cc)

beginning : (expression : List ℕ) → OneOrNone (Begins expression)
beginning [] = none (λ x h. let no : [] ≡ DW_OP_breg7 ∷ (h.run ++ x.1) = h.bytes in cc)
beginning (opcode ∷ operand) = by_opcode (opcode == DW_OP_breg7) refl
  where
    by_opcode : (b : Bool) → (opcode == DW_OP_breg7) ≡ b → OneOrNone (Begins (opcode ∷ operand))
    by_opcode true e = by_read opcode operand (eqb-true opcode DW_OP_breg7 e) (sleb_at (record { place = 0; left = operand })) refl
    by_opcode false e = none (λ x h.
        let bytes : opcode ∷ operand ≡ DW_OP_breg7 ∷ (h.run ++ x.1) = h.bytes in
        let is : opcode ≡ DW_OP_breg7 = cc in
        let no : false ≡ true = sym e ∙ eq-eqb opcode DW_OP_breg7 is in cc)

-- these bytes are all that comes after the constant
ends_with : (expression end : List ℕ) → ((rest : List ℕ) → IsOrNot (rest ≡ end)) → OneOrNone (λ (constant : ℤ). BeginsAtStack expression constant end)
ends_with expression end decided = by_beginning (beginning expression)
  where
    by_rest : (x : ℤ × List ℕ) → Begins expression x → ((y : ℤ × List ℕ) → Begins expression y → x ≡ y) → IsOrNot (x.1 ≡ end) → OneOrNone (λ (constant : ℤ). BeginsAtStack expression constant end)
    by_rest x is only (inl same) = one x.0 (subst (BeginsAtStack expression x.0) same is) (λ y h. ap (λ (z : ℤ × List ℕ). z.0) (only (y, end) h))
    by_rest x is only (inr other) = none (λ y h. other (ap (λ (z : ℤ × List ℕ). z.1) (only (y, end) h)))

    by_beginning : OneOrNone (Begins expression) → OneOrNone (λ (constant : ℤ). BeginsAtStack expression constant end)
    by_beginning (one x is only) = by_rest x is only (decided x.1)
    by_beginning (none never) = none (λ y h. never (y, end) h)

is_empty : (rest : List ℕ) → IsOrNot (rest ≡ [])
is_empty [] = inl refl
is_empty (b ∷ rest) = inr (λ e. cc)

is_deref : (rest : List ℕ) → IsOrNot (rest ≡ DW_OP_deref ∷ [])
is_deref [] = inr (λ e. cc)
is_deref (b ∷ c ∷ rest) = inr (λ e. cc)
is_deref (b ∷ []) = by_opcode (b == DW_OP_deref) refl
  where
    by_opcode : (t : Bool) → (b == DW_OP_deref) ≡ t → IsOrNot (b ∷ [] ≡ DW_OP_deref ∷ [])
    by_opcode true e = inl (ap (λ (o : ℕ). o ∷ []) (eqb-true b DW_OP_deref e))
    by_opcode false e = inr (λ same. let is : b ≡ DW_OP_deref = cc in let no : false ≡ true = sym e ∙ eq-eqb b DW_OP_deref is in cc)

-- ---- a rule
value_at : (rule : Option Rule) → OneOrNone (λ (constant : ℤ). IsValueAt constant rule)
value_at (Some (Expression bytes)) = ends_with bytes (DW_OP_deref ∷ []) is_deref
value_at (Some Other) = none (λ constant h. h)
value_at None = none (λ constant h. h)

saved_at : (rule : Option Rule) → OneOrNone (λ (constant : ℤ). IsSavedAt constant rule)
saved_at (Some (Expression bytes)) = ends_with bytes [] is_empty
saved_at (Some Other) = none (λ constant h. h)
saved_at None = none (λ constant h. h)

is_number : (x y : ℤ) → IsOrNot (x ≡ y)
is_number x y = by_test (int_eq x y) refl
  where
    by_test : (t : Bool) → int_eq x y ≡ t → IsOrNot (x ≡ y)
    by_test true e = inl ((Decides-int_eq x y).0 e)
    by_test false e = inr (not_from_Decides (int_eq x y) (Decides-int_eq x y) e)

is_frame_address : (constant : ℤ) (rule : Option Rule) → IsOrNot (IsFrameAddress constant rule)
is_frame_address constant None = inl tt
is_frame_address constant (Some rule) = by_saved (saved_at (Some rule))
  where
    by_number : (x : ℤ) → IsSavedAt x (Some rule) → ((y : ℤ) → IsSavedAt y (Some rule) → x ≡ y) → IsOrNot (x ≡ constant) → IsOrNot (IsSavedAt constant (Some rule))
    by_number x is only (inl same) = inl (subst (λ (y : ℤ). IsSavedAt y (Some rule)) same is)
    by_number x is only (inr other) = inr (λ h. other (only constant h))

    by_saved : OneOrNone (λ (x : ℤ). IsSavedAt x (Some rule)) → IsOrNot (IsSavedAt constant (Some rule))
    by_saved (one x is only) = by_number x is only (is_number x constant)
    by_saved (none never) = inr (never constant)

-- ---- four rules
same_frame : (a b : SignalFrame) → a.frame_address ≡ b.frame_address → a.return_address ≡ b.return_address → a.frame_pointer ≡ b.frame_pointer → a ≡ b
same_frame a b e f g =
    ap (λ (x : ℤ). record { frame_address = x; return_address = a.return_address; frame_pointer = a.frame_pointer }) e
    ∙ ap (λ (x : ℤ). record { frame_address = b.frame_address; return_address = x; frame_pointer = a.frame_pointer }) f
    ∙ ap (λ (x : ℤ). record { frame_address = b.frame_address; return_address = b.return_address; frame_pointer = x }) g

constants_of : (rules : RulesView) → OneOrNone (HaveConstants rules)
constants_of rules = by_three (value_at rules.cfa) (saved_at rules.return_address) (saved_at rules.frame_pointer)
  where
    by_address : (f : SignalFrame) → IsValueAt f.frame_address rules.cfa → IsSavedAt f.return_address rules.return_address → IsSavedAt f.frame_pointer rules.frame_pointer
        → ((g : SignalFrame) → HaveConstants rules g → f ≡ g) → IsOrNot (IsFrameAddress f.frame_address rules.stack_pointer) → OneOrNone (HaveConstants rules)
    by_address f cfa ra fp only (inl is) = one f (record { frame_address = cfa; return_address = ra; frame_pointer = fp; stack_pointer = is }) only
    by_address f cfa ra fp only (inr never) = none (λ g h. never (subst (λ (k : SignalFrame). IsFrameAddress k.frame_address rules.stack_pointer) (sym (only g h)) h.stack_pointer))

    by_three : OneOrNone (λ (c : ℤ). IsValueAt c rules.cfa) → OneOrNone (λ (c : ℤ). IsSavedAt c rules.return_address) → OneOrNone (λ (c : ℤ). IsSavedAt c rules.frame_pointer) → OneOrNone (HaveConstants rules)
    by_three (none never) ra fp = none (λ g h. never g.frame_address h.frame_address)
    by_three (one x is only) (none never) fp = none (λ g h. never g.return_address h.return_address)
    by_three (one x is only) (one y is_y only_y) (none never) = none (λ g h. never g.frame_pointer h.frame_pointer)
    by_three (one x is only) (one y is_y only_y) (one z is_z only_z) =
        let f : SignalFrame = record { frame_address = x; return_address = y; frame_pointer = z } in
        by_address f is is_y is_z (λ g h. same_frame f g (only g.frame_address h.frame_address) (only_y g.return_address h.return_address) (only_z g.frame_pointer h.frame_pointer))
        (is_frame_address x rules.stack_pointer)

-- ---- a function
is_signal : (arch : Arch) (facts : FdeFacts) → IsOrNot (IsSignal arch facts)
is_signal Aarch64 facts = inr (λ h. let no : Aarch64 ≡ Amd64 = h.machine in cc)
is_signal Amd64 facts = by_tests (facts.column == return_address Amd64) refl facts.signal refl
  where
    by_tests : (column : Bool) → (facts.column == return_address Amd64) ≡ column → (signal : Bool) → facts.signal ≡ signal → IsOrNot (IsSignal Amd64 facts)
    by_tests true e true g = inl (record { machine = refl; column = eqb-true facts.column (return_address Amd64) e; augmentation = g })
    by_tests false e signal g = inr (λ h. let no : false ≡ true = sym e ∙ eq-eqb facts.column (return_address Amd64) h.column in cc)
    by_tests true e false g = inr (λ h. let no : false ≡ true = sym g ∙ h.augmentation in cc)

module _ (arch : Arch) (facts : FdeFacts) (initial own : List Item) where
  by_constants : (rules : RulesView) → Some rules ≡ rules_by (initial ++ own) no_rules → IsSignal arch facts → OneOrNone (HaveConstants rules) → OneOrNone (IsSignalFrame arch facts initial own)
  by_constants rules e signal (one f has only) = one f (found arch facts initial own rules f signal e has) (λ g h. only g (has_constants arch facts initial own rules g e h))
  by_constants rules e signal (none never) = none (λ g h. never g (has_constants arch facts initial own rules g e h))

  by_rules : (rules : Option RulesView) → rules ≡ rules_by (initial ++ own) no_rules → IsSignal arch facts → OneOrNone (IsSignalFrame arch facts initial own)
  by_rules (Some rules) e signal = by_constants rules e signal (constants_of rules)
  by_rules None e signal = none (λ g h. let no : None ≡ Some (latest_rules h.instructions) = e ∙ has_rules arch facts initial own g h in cc)

  by_signal : IsOrNot (IsSignal arch facts) → OneOrNone (IsSignalFrame arch facts initial own)
  by_signal (inl signal) = by_rules (rules_by (initial ++ own) no_rules) refl signal
  by_signal (inr never) = none (λ g h. never h.signal)

-- the signal frame that the function has, if it has one
pub record Decided (arch : Arch) (facts : FdeFacts) (initial own : List Item) : Type 0 where
  pub found : Option SignalFrame
  pub is : IfSome found (λ (f : SignalFrame). IsSignalFrame arch facts initial own f)
  pub only : (f : SignalFrame) → IsSignalFrame arch facts initial own f → found ≡ Some f

pub decide : (arch : Arch) (facts : FdeFacts) (initial own : List Item) → Decided arch facts initial own
decide arch facts initial own = decided (by_signal arch facts initial own (is_signal arch facts))
  where
    decided : OneOrNone (IsSignalFrame arch facts initial own) → Decided arch facts initial own
    decided (one f is only) = record { found = Some f; is = is; only = λ g h. ap (λ (x : SignalFrame). Some x) (only g h) }
    decided (none never) = record { found = None; is = tt; only = λ g h. absurd (never g h) }
