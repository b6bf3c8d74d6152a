-- The rules by one pass over instructions are the latest that were given.
use Rattle.std.specs.Option.{option_and_then, option_or}
use Rattle.std.proofs.Common.{◌≡◌, ℕ, Bool, true, false, List, [], ◌∷◌, ◌++◌, Option, Some, None, Ok, Err, refl, sym, ap, ◌∙◌, cond}
use Rattle.sf_model.specs.declared.machine.Arch.TheVariants.{Amd64}
use Rattle.cfa_insn.specs.Instruction.{Instruction}
use Rattle.cfa_insn.specs.Listing.{Item}
use Rattle.cfa_machine.specs.Registers.{frame_pointer, return_address, stack_pointer}
use Rattle.signal_frames.specs.declared.change.Column.TheVariants.{Cfa, Register}
use Rattle.signal_frames.specs.Rules.{HaveOneRow, Rule, RulesView, change_by, given_to, keeps_row, latest}
use Rattle.signal_frames.specs.Run.{after_item, given_by, no_rules, rules_by}
use Rattle.signal_frames.specs.SignalFrame.{AreRead, latest_rules}

or_assoc : (a b c : Option Rule) → option_or a (option_or b c) ≡ option_or (option_or a b) c
or_assoc None b c = refl
or_assoc (Some x) b c = refl

or-none : (a : Option Rule) → option_or a None ≡ a
or-none None = refl
or-none (Some x) = refl

-- four rules that are the same
alike : (a b : RulesView) → a.cfa ≡ b.cfa → a.return_address ≡ b.return_address → a.frame_pointer ≡ b.frame_pointer → a.stack_pointer ≡ b.stack_pointer → a ≡ b
alike a b e f g h =
    ap (λ (x : Option Rule). record { cfa = x; return_address = a.return_address; frame_pointer = a.frame_pointer; stack_pointer = a.stack_pointer }) e
    ∙ ap (λ (x : Option Rule). record { cfa = b.cfa; return_address = x; frame_pointer = a.frame_pointer; stack_pointer = a.stack_pointer }) f
    ∙ ap (λ (x : Option Rule). record { cfa = b.cfa; return_address = b.return_address; frame_pointer = x; stack_pointer = a.stack_pointer }) g
    ∙ ap (λ (x : Option Rule). record { cfa = b.cfa; return_address = b.return_address; frame_pointer = b.frame_pointer; stack_pointer = x }) h

-- rules, after the latest that instructions give
abbrev pub after : List (ℕ × Instruction) → RulesView → RulesView
after is r = record {
  cfa = option_or (latest_rules is).cfa r.cfa;
  return_address = option_or (latest_rules is).return_address r.return_address;
  frame_pointer = option_or (latest_rules is).frame_pointer r.frame_pointer;
  stack_pointer = option_or (latest_rules is).stack_pointer r.stack_pointer;
}

pub after-none : (is : List (ℕ × Instruction)) → after is no_rules ≡ latest_rules is
after-none is =
    let l = latest_rules is in alike (after is no_rules) l (or-none l.cfa) (or-none l.return_address) (or-none l.frame_pointer) (or-none l.stack_pointer)

joined : (x : ℕ × Instruction) (is : List (ℕ × Instruction)) (r : RulesView) → after is (given_by (change_by x.1) r) ≡ after (x ∷ is) r
joined x is r =
    let c = change_by x.1 in
    alike (after is (given_by c r)) (after (x ∷ is) r) (or_assoc (latest Cfa is) (given_to Cfa c) r.cfa)
    (or_assoc (latest (Register (return_address Amd64)) is) (given_to (Register (return_address Amd64)) c) r.return_address)
    (or_assoc (latest (Register (frame_pointer Amd64)) is) (given_to (Register (frame_pointer Amd64)) c) r.frame_pointer)
    (or_assoc (latest (Register (stack_pointer Amd64)) is) (given_to (Register (stack_pointer Amd64)) c) r.stack_pointer)

-- ---- one item
first_keeps : (y : ℕ × Instruction) (items : List Item) (r : RulesView) → keeps_row (change_by y.1) ≡ true → rules_by (Ok y ∷ items) r ≡ rules_by items (given_by (change_by y.1) r)
unfolding rules_by
first_keeps y items r keeps =
    ap (λ (b : Bool). option_and_then (λ (s : RulesView). rules_by items s) (cond b (Some (given_by (change_by y.1) r)) None)) keeps

first_ends : (y : ℕ × Instruction) (items : List Item) (r : RulesView) → keeps_row (change_by y.1) ≡ false → rules_by (Ok y ∷ items) r ≡ None
unfolding rules_by
first_ends y items r ends =
    ap (λ (b : Bool). option_and_then (λ (s : RulesView). rules_by items s) (cond b (Some (given_by (change_by y.1) r)) None)) ends

-- ---- all items
pub complete : (items : List Item) (is : List (ℕ × Instruction)) (r : RulesView) → AreRead items is → HaveOneRow is → rules_by items r ≡ Some (after is r)
unfolding rules_by
complete [] [] r are one = refl
complete [] (x ∷ is) r are one = absurd are
complete (item ∷ items) [] r are one = absurd are
complete (Err e ∷ items) (x ∷ is) r are one = absurd (let no : Err e ≡ Ok x = are.0 in cc)
complete (Ok y ∷ items) (x ∷ is) r are one =
    ap (λ (item : Item). rules_by (item ∷ items) r) are.0 ∙ first_keeps x items r one.0 ∙ complete items is (given_by (change_by x.1) r) are.1 one.1
    ∙ ap (λ (s : RulesView). Some s) (joined x is r)

-- instructions that were run
pub record Ran (items : List Item) (r result : RulesView) : Type 0 where
  pub instructions : List (ℕ × Instruction)
  pub are : AreRead items instructions
  pub one_row : HaveOneRow instructions
  pub result_is : result ≡ after instructions r

pub sound : (items : List Item) (r result : RulesView) → rules_by items r ≡ Some result → Ran items r result
unfolding rules_by
sound [] r result e = record { instructions = []; are = tt; one_row = tt; result_is = let same : r ≡ result = cc in sym same }
sound (Err x ∷ items) r result e = absurd (let no : None ≡ Some result = e in cc)
sound (Ok y ∷ items) r result e = by_test (keeps_row (change_by y.1)) refl (sound items (given_by (change_by y.1) r) result)
  where
    by_test : (b : Bool) → keeps_row (change_by y.1) ≡ b → (rules_by items (given_by (change_by y.1) r) ≡ Some result → Ran items (given_by (change_by y.1) r) result) → Ran (Ok y ∷ items) r result
    by_test true t later =
        let ran = later (sym (first_keeps y items r t) ∙ e) in
        record { instructions = y ∷ ran.instructions; are = (refl, ran.are); one_row = (t, ran.one_row); result_is = ran.result_is ∙ joined y ran.instructions r }
    by_test false t later = absurd (let no : None ≡ Some result = sym (first_ends y items r t) ∙ e in cc)

-- ---- the instructions of the common information entry, and then the function's own
pub appended : (first second : List Item) (r : RulesView) → rules_by (first ++ second) r ≡ option_and_then (λ (s : RulesView). rules_by second s) (rules_by first r)
unfolding rules_by
appended [] second r = refl
appended (x ∷ first) second r = by_item (after_item x r) (appended first second)
  where
    by_item : (o : Option RulesView) → ((s : RulesView) → rules_by (first ++ second) s ≡ option_and_then (λ (t : RulesView). rules_by second t) (rules_by first s))
        → option_and_then (λ (s : RulesView). rules_by (first ++ second) s) o ≡ option_and_then (λ (s : RulesView). rules_by second s) (option_and_then (λ (s : RulesView). rules_by first s) o)
    by_item None later = refl
    by_item (Some s) later = later s

-- ---- the loop
pub goes_on : (x : Item) (items rest : List Item) (r s : RulesView) (whole : Option RulesView) → items ≡ x ∷ rest → Some s ≡ after_item x r → rules_by items r ≡ whole → rules_by rest s ≡ whole
unfolding rules_by
goes_on x items rest r s whole next one so_far =
    ap (option_and_then (λ (t : RulesView). rules_by rest t)) one ∙ sym (ap (λ (xs : List Item). rules_by xs r) next) ∙ so_far

pub ends : (x : Item) (items rest : List Item) (r : RulesView) (whole : Option RulesView) → items ≡ x ∷ rest → None ≡ after_item x r → rules_by items r ≡ whole → None ≡ whole
unfolding rules_by
ends x items rest r whole next one so_far =
    ap (option_and_then (λ (t : RulesView). rules_by rest t)) one ∙ sym (ap (λ (xs : List Item). rules_by xs r) next) ∙ so_far

pub done : (items : List Item) (r : RulesView) (whole : Option RulesView) → items ≡ [] → rules_by items r ≡ whole → Some r ≡ whole
unfolding rules_by
done items r whole none so_far = sym (ap (λ (xs : List Item). rules_by xs r) none) ∙ so_far
