-- The rows of a procedure linkage table, by its instructions.
use Rattle.std.specs.Prelude.{not, nat_lt}
use Rattle.std.proofs.Common.{◌≡◌, ℕ, suc, ℤ, pos, ◌<◌, ◌≤◌, Bool, true, false, cond, eqb, List, [], ◌∷◌, Ok, Err, refl, sym, ap, ◌∙◌, arith}
use Rattle.std.proofs.lemmas.Bool.{eqb-true, le-ltb, lt-ltb, ltb-false}
use Rattle.cfa_insn.specs.Instruction.{Instruction, advance_loc, nop, def_cfa_offset, def_cfa_expression}
use Rattle.cfa_insn.specs.Listing.{Item}
use Rattle.cfa_machine.specs.declared.effect.Effect.{Effect}
use Rattle.cfa_machine.specs.declared.effect.Effect.TheVariants.{Row, Advance}
use Rattle.cfa_machine.specs.declared.effect.RowEffect.TheVariants.{Nothing, SetCfa, SetCfaOffset}
use Rattle.cfa_machine.specs.declared.rule.CfaRule.{CfaRule}
use Rattle.cfa_machine.specs.declared.rule.CfaRule.TheVariants as cfa
use Rattle.cfa_machine.specs.RowAtOffset.{UnwindState, after_instruction, state_before, initial_by, offset_behind, row_at_offset}
use Rattle.cfa_machine.specs.Effects.{effect_by}
use Rattle.cfa_machine.specs.FullRow.{FullRow, no_row, cfa_offset}
use Rattle.frame_functions.specs.Functions.{Function}
use Rattle.frame_functions.specs.Kept.{full_row}
use Rattle.sf_plt.specs.Plt.{is_nop, is_plt_text, without_nops}
use Rattle.sf_plt.specs.Text.{follows, is_advance, is_text_at, is_cfa_offset, is_expression}
use Rattle.sf_plt.proofs.Form.{both}
use Rattle.sf_plt.proofs.TextFollows.{text_follows}

-- ---- the text
cfa_offset_means : (n : ℕ) (i : Instruction) → is_cfa_offset n i ≡ true → i ≡ def_cfa_offset n
cfa_offset_means n (def_cfa_offset m) e = ap def_cfa_offset (eqb-true m n e)
cfa_offset_means n other e = cc

advance_means : (n : ℕ) (i : Instruction) → is_advance n i ≡ true → i ≡ advance_loc n
advance_means n (advance_loc m) e = ap advance_loc (eqb-true m n e)
advance_means n other e = cc

record IsExpression (i : Instruction) : Type 0 where
  block : List ℕ
  is : i ≡ def_cfa_expression block

expression_means : (i : Instruction) → is_expression i ≡ true → IsExpression i
expression_means (def_cfa_expression b) e = record { block = b; is = refl }
expression_means other e = cc

-- the items begin with an instruction, and the others go on from the next place
record Begins (place : ℕ) (items : List Item) : Type 0 where
  at : ℕ
  first : Instruction
  others : List Item
  is : items ≡ Ok (at, first) ∷ others
  here : is_text_at place first ≡ true
  go_on : follows (suc place) others ≡ true

begins : (place : ℕ) (items : List Item) → eqb place 5 ≡ false → follows place items ≡ true → Begins place items
begins place [] other e = let is = sym other ∙ e in cc
begins place (Ok (p, i) ∷ items) other e =
    let two = both (is_text_at place i) (follows (suc place) items) e in
    record { at = p; first = i; others = items; is = refl; here = two.0; go_on = two.1 }
begins place (Err fault ∷ items) other e = cc

ends : (items : List Item) → follows 5 items ≡ true → items ≡ []
ends [] e = refl
ends (Ok x ∷ items) e = cc
ends (Err fault ∷ items) e = cc

abbrev text_of : (p q r s t : ℕ) (block : List ℕ) → List Item
text_of p q r s t block =
    Ok (p, def_cfa_offset 16) ∷ Ok (q, advance_loc 6) ∷ Ok (r, def_cfa_offset 24) ∷ Ok (s, advance_loc 10) ∷ Ok (t, def_cfa_expression block) ∷ []

pub record HasText (items : List Item) : Type 0 where
  pub p : ℕ
  pub q : ℕ
  pub r : ℕ
  pub s : ℕ
  pub t : ℕ
  pub block : List ℕ
  pub is : items ≡ text_of p q r s t block

with_first : (items others others' : List Item) (p : ℕ) (i j : Instruction) → items ≡ Ok (p, i) ∷ others → i ≡ j → others ≡ others' → items ≡ Ok (p, j) ∷ others'
with_first items others others' p i j e f g = e ∙ ap (λ (x : Instruction). Ok (p, x) ∷ others) f ∙ ap (λ (l : List Item). Ok (p, j) ∷ l) g

has_text : (items : List Item) → is_plt_text items ≡ true → HasText items
has_text items e =
    let one = begins 0 items refl (sym (text_follows items) ∙ e) in
    let two = begins 1 one.others refl one.go_on in
    let three = begins 2 two.others refl two.go_on in
    let four = begins 3 three.others refl three.go_on in
    let five = begins 4 four.others refl four.go_on in
    let last = expression_means five.first five.here in
    record {
      p = one.at;
      q = two.at;
      r = three.at;
      s = four.at;
      t = five.at;
      block = last.block;
      is = with_first items one.others _ one.at one.first (def_cfa_offset 16) one.is (cfa_offset_means 16 one.first one.here)
          (with_first one.others two.others _ two.at two.first (advance_loc 6) two.is (advance_means 6 two.first two.here)
          (with_first two.others three.others _ three.at three.first (def_cfa_offset 24) three.is (cfa_offset_means 24 three.first three.here)
          (with_first three.others four.others _ four.at four.first (advance_loc 10) four.is (advance_means 10 four.first four.here)
          (with_first four.others five.others [] five.at five.first (def_cfa_expression last.block) five.is last.is (ends five.others five.go_on)))));
    }

-- ---- instructions that do nothing
nop_effect : (f : ℤ) (p : ℕ) (i : Instruction) → is_nop (Ok (p, i)) ≡ true → effect_by f i ≡ Row Nothing
unfolding effect_by
nop_effect f p nop e = refl
nop_effect f p other e = cc

module _ (initial : FullRow) (code : ℕ) (f : ℤ) (o : ℕ) where
  -- one instruction
  goes : (offset : ℕ) (s : UnwindState) (p : ℕ) (i : Instruction) (items : List Item) (effect : Effect) → effect_by f i ≡ effect → offset_behind code effect offset ≤ o
      → state_before initial code f o offset s (Ok (p, i) ∷ items) ≡ state_before initial code f o (offset_behind code effect offset) (after_instruction initial effect s) items
  unfolding state_before
  goes offset s p i items effect e le =
      ap (λ (x : Effect). cond (nat_lt o (offset_behind code x offset)) s (state_before initial code f o (offset_behind code x offset) (after_instruction initial x s) items)) e
      ∙ ap (λ (b : Bool). cond b s (state_before initial code f o (offset_behind code effect offset) (after_instruction initial effect s) items)) (le-ltb o (offset_behind code effect offset) le)

  stops : (offset : ℕ) (s : UnwindState) (p : ℕ) (i : Instruction) (items : List Item) (effect : Effect) → effect_by f i ≡ effect → o < offset_behind code effect offset
      → state_before initial code f o offset s (Ok (p, i) ∷ items) ≡ s
  unfolding state_before
  stops offset s p i items effect e lt =
      ap (λ (x : Effect). cond (nat_lt o (offset_behind code x offset)) s (state_before initial code f o (offset_behind code x offset) (after_instruction initial x s) items)) e
      ∙ ap (λ (b : Bool). cond b s (state_before initial code f o (offset_behind code effect offset) (after_instruction initial effect s) items)) (lt-ltb o (offset_behind code effect offset) lt)

  at_end : (offset : ℕ) (s : UnwindState) → state_before initial code f o offset s [] ≡ s
  unfolding state_before
  at_end offset s = refl

  -- the same without those that do nothing
  skips_nops : (offset : ℕ) (s : UnwindState) (items : List Item) → offset ≤ o → state_before initial code f o offset s items ≡ state_before initial code f o offset s (without_nops items)
  unfolding state_before
  skips_nops offset s [] le = refl
  skips_nops offset s (Err fault ∷ items) le = refl
  skips_nops offset s (Ok (p, i) ∷ items) le =
      at_nop (is_nop (Ok (p, i))) refl (skips_nops offset s items le) (λ below. skips_nops (offset_behind code (effect_by f i) offset) (after_instruction initial (effect_by f i) s) items below)
    where
      at_test : (b : Bool) → nat_lt o (offset_behind code (effect_by f i) offset) ≡ b
          → (offset_behind code (effect_by f i) offset ≤ o → state_before initial code f o (offset_behind code (effect_by f i) offset) (after_instruction initial (effect_by f i) s) items ≡ state_before initial code f o (offset_behind code (effect_by f i) offset) (after_instruction initial (effect_by f i) s) (without_nops items))
          → cond b s (state_before initial code f o (offset_behind code (effect_by f i) offset) (after_instruction initial (effect_by f i) s) items) ≡ cond b s (state_before initial code f o (offset_behind code (effect_by f i) offset) (after_instruction initial (effect_by f i) s) (without_nops items))
      at_test true t later = refl
      at_test false t later = later (ltb-false o (offset_behind code (effect_by f i) offset) t)

      at_nop : (b : Bool) → is_nop (Ok (p, i)) ≡ b → state_before initial code f o offset s items ≡ state_before initial code f o offset s (without_nops items)
          → (offset_behind code (effect_by f i) offset ≤ o → state_before initial code f o (offset_behind code (effect_by f i) offset) (after_instruction initial (effect_by f i) s) items ≡ state_before initial code f o (offset_behind code (effect_by f i) offset) (after_instruction initial (effect_by f i) s) (without_nops items))
          → state_before initial code f o offset s (Ok (p, i) ∷ items) ≡ state_before initial code f o offset s (cond (not b) (Ok (p, i) ∷ without_nops items) (without_nops items))
      at_nop true e skipped later = goes offset s p i items (Row Nothing) (nop_effect f p i e) le ∙ skipped
      at_nop false e skipped later = at_test (nat_lt o (offset_behind code (effect_by f i) offset)) refl later

-- ---- the rows
abbrev pub with_cfa : CfaRule → FullRow → FullRow
with_cfa rule row = record row { cfa = rule }

-- the states after the rules
abbrev first_state : FullRow → UnwindState
first_state row = record { row = row; remembered = [] }

module _ (f : ℤ) (initial : FullRow) (p q r s t : ℕ) (block : List ℕ) where
  abbrev one : UnwindState
  one = first_state (with_cfa (cfa_offset (pos 16) initial.cfa) initial)

  abbrev two : UnwindState
  two = first_state (with_cfa (cfa_offset (pos 24) (cfa_offset (pos 16) initial.cfa)) initial)

  abbrev three : UnwindState
  three = first_state (with_cfa cfa.Expression initial)

  at_first : (o : ℕ) → o < 6 → state_before initial 1 f o 0 (first_state initial) (text_of p q r s t block) ≡ one
  unfolding effect_by
  at_first o lt =
      goes initial 1 f o 0 (first_state initial) p (def_cfa_offset 16) (Ok (q, advance_loc 6) ∷ Ok (r, def_cfa_offset 24) ∷ Ok (s, advance_loc 10) ∷ Ok (t, def_cfa_expression block) ∷ []) (Row (SetCfaOffset (pos 16))) refl (omega arith)
      ∙ stops initial 1 f o 0 one q (advance_loc 6) (Ok (r, def_cfa_offset 24) ∷ Ok (s, advance_loc 10) ∷ Ok (t, def_cfa_expression block) ∷ []) (Advance 6) refl (omega (arith, lt))

  at_second : (o : ℕ) → 6 ≤ o → o < 16 → state_before initial 1 f o 0 (first_state initial) (text_of p q r s t block) ≡ two
  unfolding effect_by
  at_second o le lt =
      goes initial 1 f o 0 (first_state initial) p (def_cfa_offset 16) (Ok (q, advance_loc 6) ∷ Ok (r, def_cfa_offset 24) ∷ Ok (s, advance_loc 10) ∷ Ok (t, def_cfa_expression block) ∷ []) (Row (SetCfaOffset (pos 16))) refl (omega arith)
      ∙ goes initial 1 f o 0 one q (advance_loc 6) (Ok (r, def_cfa_offset 24) ∷ Ok (s, advance_loc 10) ∷ Ok (t, def_cfa_expression block) ∷ []) (Advance 6) refl (omega (arith, le))
      ∙ goes initial 1 f o 6 one r (def_cfa_offset 24) (Ok (s, advance_loc 10) ∷ Ok (t, def_cfa_expression block) ∷ []) (Row (SetCfaOffset (pos 24))) refl (omega (arith, le))
      ∙ stops initial 1 f o 6 two s (advance_loc 10) (Ok (t, def_cfa_expression block) ∷ []) (Advance 10) refl (omega (arith, lt))

  at_third : (o : ℕ) → 16 ≤ o → state_before initial 1 f o 0 (first_state initial) (text_of p q r s t block) ≡ three
  unfolding effect_by
  at_third o le =
      goes initial 1 f o 0 (first_state initial) p (def_cfa_offset 16) (Ok (q, advance_loc 6) ∷ Ok (r, def_cfa_offset 24) ∷ Ok (s, advance_loc 10) ∷ Ok (t, def_cfa_expression block) ∷ []) (Row (SetCfaOffset (pos 16))) refl (omega arith)
      ∙ goes initial 1 f o 0 one q (advance_loc 6) (Ok (r, def_cfa_offset 24) ∷ Ok (s, advance_loc 10) ∷ Ok (t, def_cfa_expression block) ∷ []) (Advance 6) refl (omega (arith, le))
      ∙ goes initial 1 f o 6 one r (def_cfa_offset 24) (Ok (s, advance_loc 10) ∷ Ok (t, def_cfa_expression block) ∷ []) (Row (SetCfaOffset (pos 24))) refl (omega (arith, le))
      ∙ goes initial 1 f o 6 two s (advance_loc 10) (Ok (t, def_cfa_expression block) ∷ []) (Advance 10) refl (omega (arith, le))
      ∙ goes initial 1 f o 16 two t (def_cfa_expression block) [] (Row (SetCfa cfa.Expression)) refl (omega (arith, le))
      ∙ at_end initial 1 f o 16 three

-- the row of a function with this text before its own instructions, and its rows from there
abbrev pub initial_row : Function → FullRow
initial_row f = initial_by f.factor no_row f.initial

pub row_is : (f : Function) (o : ℕ) (state : UnwindState) → f.code ≡ 1 → is_plt_text (without_nops f.own) ≡ true
    → ((p q r s t : ℕ) (block : List ℕ) → state_before (initial_row f) 1 f.factor o 0 (first_state (initial_row f)) (text_of p q r s t block) ≡ state) → full_row f o ≡ state.row
row_is f o state code text h =
    let has = has_text (without_nops f.own) text in
    ap (λ (c : ℕ). (state_before (initial_row f) c f.factor o 0 (first_state (initial_row f)) f.own).row) code
    ∙ ap (λ (x : UnwindState). x.row)
    (skips_nops (initial_row f) 1 f.factor o 0 (first_state (initial_row f)) f.own (omega arith)
    ∙ ap (state_before (initial_row f) 1 f.factor o 0 (first_state (initial_row f))) has.is ∙ h has.p has.q has.r has.s has.t has.block)

pub row_first : (f : Function) (o : ℕ) → f.code ≡ 1 → is_plt_text (without_nops f.own) ≡ true → o < 6 → full_row f o ≡ with_cfa (cfa_offset (pos 16) (initial_row f).cfa) (initial_row f)
row_first f o code text lt = row_is f o (one f.factor (initial_row f) 0 0 0 0 0 []) code text (λ p q r s t block. at_first f.factor (initial_row f) p q r s t block o lt)

pub row_second : (f : Function) (o : ℕ) → f.code ≡ 1 → is_plt_text (without_nops f.own) ≡ true → 6 ≤ o → o < 16
    → full_row f o ≡ with_cfa (cfa_offset (pos 24) (cfa_offset (pos 16) (initial_row f).cfa)) (initial_row f)
row_second f o code text le lt = row_is f o (two f.factor (initial_row f) 0 0 0 0 0 []) code text (λ p q r s t block. at_second f.factor (initial_row f) p q r s t block o le lt)

pub row_third : (f : Function) (o : ℕ) → f.code ≡ 1 → is_plt_text (without_nops f.own) ≡ true → 16 ≤ o → full_row f o ≡ with_cfa cfa.Expression (initial_row f)
row_third f o code text le = row_is f o (three f.factor (initial_row f) 0 0 0 0 0 []) code text (λ p q r s t block. at_third f.factor (initial_row f) p q r s t block o le)

-- before its own instructions
pub row_before : (f : Function) → row_at_offset f.code f.factor f.initial [] 0 ≡ initial_row f
row_before f = ap (λ (x : UnwindState). x.row) (at_end (initial_row f) f.code f.factor 0 0 (first_state (initial_row f)))
