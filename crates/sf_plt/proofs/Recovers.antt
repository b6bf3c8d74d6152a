-- The two functions that are made of a procedure linkage table recover what its rules and the expression recover.
use Rattle.std.specs.Prelude.{nat_le, nat_lt}
use Rattle.std.specs.Option.{option_map}
use Rattle.std.specs.List.{find}
use Rattle.std.proofs.Common.{◌≡◌, ℕ, ℤ, pos, ◌+◌, ◌-◌, ◌%◌, ◌^◌, ◌<◌, ◌≤◌, Bool, true, false, cond, ◌&&◌, eqb, List, [], ◌∷◌, Option, Some, None, Result, Ok, Err, refl, sym, ap, ◌∙◌, arith, inl, inr}
use Rattle.std.proofs.lemmas.Bool.{cases_lt, le-leb, leb-true, lt-ltb, ltb-true, le-ltb}
use Rattle.std.proofs.lemmas.Bool.Decides.{nat_tests}
use Rattle.sf_model.specs.declared.content.Content.{Content}
use Rattle.sf_model.specs.declared.content.Ra.{Ra}
use Rattle.sf_model.specs.declared.function.Func.{Func}
use Rattle.sf_model.specs.declared.machine.Arch.{Arch}
use Rattle.sf_model.specs.declared.machine.Base.{Base}
use Rattle.sf_model.specs.declared.machine.Base.TheVariants.{Fp, Sp}
use Rattle.sf_model.specs.declared.omission.Reason.{Reason}
use Rattle.sf_model.specs.declared.recovery.Regs.{Regs}
use Rattle.sf_model.specs.declared.rows.Row.{Row}
use Rattle.sf_model.specs.Lookup.{FoundRow, begins_last, contains, found_at, row_at, row_in, row_in_first}
use Rattle.sf_model.specs.Memory.{Region}
use Rattle.sf_model.specs.Recovery.{moved, recovery}
use Rattle.sf_model.specs.Walk.{recover_by_rows}
use Rattle.cfa_machine.specs.declared.columns.Columns.{Columns}
use Rattle.cfa_machine.specs.declared.fault.MachineFault.{MachineFault}
use Rattle.cfa_machine.specs.declared.rule.CfaRule.{CfaRule}
use Rattle.cfa_machine.specs.declared.rule.CfaRule.TheVariants as cfa
use Rattle.cfa_machine.specs.RowAtOffset.{row_at_offset}
use Rattle.cfa_machine.specs.Columns.{row_from}
use Rattle.cfa_machine.specs.FirstFault.{first_fault}
use Rattle.cfa_machine.specs.FullRow.{FullRow, cfa_offset, columns_of}
use Rattle.cfa_machine.specs.Recovery.{RuleRecovery, recovery_from, recovery_by_rules, register_value}
use Rattle.cfa_machine.specs.Registers.{frame_pointer, return_address, stack_pointer}
use Rattle.sf_express.specs.Alike.{defined}
use Rattle.sf_express.specs.Rules.{◌>>=◌, base_of, cfa_at, cfa_from, cfa_content, content_of, frame_pointer_content, narrowed, frame_pointer_needs_return_address, return_address_content, sign_state_check, stack_pointer_check}
use Rattle.sf_express.proofs.Alike.{recovers_alike}
use Rattle.sf_express.proofs.Column.{own_column}
use Rattle.sf_express.proofs.Writable.{made}
use Rattle.frame_functions.specs.Functions.{holds_address, Function}
use Rattle.frame_functions.specs.Kept.{facts_of, full_row}
use Rattle.sf_plt.specs.Plt.{content_unless, initial_content, is_plt, plt_frame_address, recovered_in_plt}
use Rattle.sf_plt.specs.Written.{first_entry, later_entries, pair_by, plt_pair, row_saying}
use Rattle.sf_plt.specs.Expression.{expression_value}
use Rattle.sf_plt.proofs.Form.{PltForm, both, plt_form}
use Rattle.sf_plt.proofs.Rows.{initial_row, row_before, row_first, row_second, row_third, with_cfa}
use Rattle.sf_plt.proofs.Values.{value_low, value_high}

-- ---- a content with another canonical frame address
abbrev pub by_parts : Result (Base × ℤ) Reason → Result (Unit {0}) Reason → Result Ra Reason → Result (Option ℤ) Reason → Result (Unit {0}) Reason → Bool → Result Content Reason
by_parts cfa sp ra fp sign signed = cfa >>= λ x. (sp >>= λ _. (ra >>= λ ra. (fp >>= λ fp. (frame_pointer_needs_return_address ra fp >>= λ _. (sign >>= λ _. Ok (made x ra fp signed))))))

-- the canonical frame address of a content, and the same content with any other one
pub record OtherCfa (cfa : Result (Base × ℤ) Reason) (sp : Result (Unit {0}) Reason) (ra : Result Ra Reason) (fp : Result (Option ℤ) Reason) (sign : Result (Unit {0}) Reason) (signed : Bool) (content : Content) : Type 0 where
  pub is : cfa ≡ Ok (content.base, content.cfa)
  pub ra_is : ra ≡ Ok content.ra
  pub signed_is : signed ≡ content.signed
  pub other : (x : Base × ℤ) → by_parts (Ok x) sp ra fp sign signed ≡ Ok (record content { base = x.0; cfa = x.1 })

abbrev seen_cfa : Base × ℤ → Result (Base × ℤ) Reason
seen_cfa x = Ok x

other_pair : (x : Base × ℤ) (ra : Ra) (fp : Option ℤ) (pair sign : Result (Unit {0}) Reason) (signed : Bool) (content : Content) → (pair >>= λ _. (sign >>= λ _. Ok (made x ra fp signed))) ≡ Ok content
    → (seen_cfa x ≡ Ok (content.base, content.cfa)) × (ra ≡ content.ra) × (signed ≡ content.signed) × ((y : Base × ℤ) → (pair >>= λ _. (sign >>= λ _. Ok (made y ra fp signed))) ≡ Ok (record content { base = y.0; cfa = y.1 }))
other_pair x ra fp (Ok u) (Ok v) signed content e =
    let is : made x ra fp signed ≡ content = cc in
    (ap (λ (c : Content). Ok (c.base, c.cfa)) is, ap (λ (c : Content). c.ra) is, ap (λ (c : Content). c.signed) is, λ y. ap (λ (c : Content). Ok (record c { base = y.0; cfa = y.1 })) is)
other_pair x ra fp (Ok u) (Err reason) signed content e = cc
other_pair x ra fp (Err reason) sign signed content e = cc

pub other_cfa : (cfa : Result (Base × ℤ) Reason) (sp : Result (Unit {0}) Reason) (ra : Result Ra Reason) (fp : Result (Option ℤ) Reason) (sign : Result (Unit {0}) Reason) (signed : Bool) (content : Content) → by_parts cfa sp ra fp sign signed ≡ Ok content
    → OtherCfa cfa sp ra fp sign signed content
other_cfa (Err reason) sp ra fp sign signed content e = absurd cc
other_cfa (Ok x) (Err reason) ra fp sign signed content e = absurd cc
other_cfa (Ok x) (Ok u) (Err reason) fp sign signed content e = absurd cc
other_cfa (Ok x) (Ok u) (Ok ra) (Err reason) sign signed content e = absurd cc
other_cfa (Ok x) (Ok u) (Ok ra) (Ok fp) sign signed content e =
    let two = other_pair x ra fp (frame_pointer_needs_return_address ra fp) sign signed content e in
    record { is = two.0; ra_is = ap Ok two.1; signed_is = two.2; other = two.3 }

-- ---- the row before the own instructions
-- the register of its canonical frame address is the stack pointer
record OfRegister (arch : Arch) (rule : CfaRule) : Type 0 where
  register : ℕ
  offset : ℤ
  rule_is : rule ≡ cfa.Reg register offset
  base : base_of arch register ≡ Some Sp

base_is : (base : Option Base) (n : ℤ) (other : Base) (m : ℤ) → cfa_from base n ≡ Ok (other, m) → other ≡ Sp → base ≡ Some Sp
base_is None n other m e is = cc
base_is (Some base) n other m e is = at_number (narrowed n) e
  where
    at_number : (given : Option ℤ) → cfa_at base given ≡ Ok (other, m) → Some base ≡ Some Sp
    at_number None e = cc
    at_number (Some k) e = let same : (base, k) ≡ (other, m) = cc in ap Some (ap (λ (p : Base × ℤ). p.0) same ∙ is)

of_register : (arch : Arch) (rule : CfaRule) (base : Base) (m : ℤ) → cfa_content arch rule ≡ Ok (base, m) → base ≡ Sp → OfRegister arch rule
of_register arch cfa.Missing base m e is = absurd cc
of_register arch cfa.Expression base m e is = absurd cc
of_register arch (cfa.Reg r n) base m e is = record { register = r; offset = n; rule_is = refl; base = base_is (base_of arch r) n base m e is }

register_is : (arch : Arch) (r : ℕ) (regs : Regs) → base_of arch r ≡ Some Sp → register_value arch r regs ≡ Some regs.sp
register_is arch r regs e = at_tests (eqb r (stack_pointer arch)) (eqb r (frame_pointer arch)) e
  where
    at_tests : (a b : Bool) → cond a (Some Sp) (cond b (Some Fp) None) ≡ Some Sp → cond a (Some regs.sp) (cond b (Some regs.fp) None) ≡ Some regs.sp
    at_tests true b e = refl
    at_tests false true e = cc
    at_tests false false e = cc

content_is : (first : Option MachineFault) (said : Result Content Reason) (content : Content) → content_unless first said ≡ Some content → said ≡ Ok content
content_is None (Ok other) content e = ap Ok (let is : other ≡ content = cc in is)
content_is None (Err reason) content e = cc
content_is (Some fault) said content e = cc

abbrev pub columns : Function → Columns
columns f = columns_of f.arch (initial_row f)

abbrev with_rule : CfaRule → Columns → Columns
with_rule rule c = record c { cfa = rule }

pub said_before : (f : Function) (content : Content) → initial_content f ≡ Some content → content_of f.arch (row_from 0 (columns f)) ≡ Ok content
unfolding initial_content
said_before f content e =
    ap (λ (row : FullRow). content_of f.arch (row_from 0 (columns_of f.arch row))) (sym (row_before f))
    ∙ content_is (first_fault f.arch f.factor f.initial []) (content_of f.arch (row_from 0 (columns_of f.arch (row_at_offset f.code f.factor f.initial [] 0)))) content e

-- the contents of all rows, and how the canonical frame address is computed
record Says (f : Function) (content : Content) : Type 0 where
  register : ℕ
  offset : ℤ
  rule_is : (columns f).cfa ≡ cfa.Reg register offset
  value : (regs : Regs) → register_value f.arch register regs ≡ Some regs.sp
  at : (n : ℕ) → nat_lt n (2 ^ 31) ≡ true → content_of f.arch (row_from 0 (with_rule (cfa.Reg register (pos n)) (columns f))) ≡ Ok (record content { cfa = pos n })

says : (f : Function) (content : Content) → initial_content f ≡ Some content → content.base ≡ Sp → Says f content
unfolding content_of
says f content e base =
    let c = columns f in
    let two = other_cfa (cfa_content f.arch c.cfa) (stack_pointer_check c.sp) (return_address_content f.arch c.ra) (frame_pointer_content c.fp) (sign_state_check f.arch c.sign) c.signed content (said_before f content e) in
    let of = of_register f.arch c.cfa content.base content.cfa two.is base in
    record {
      register = of.register;
      offset = of.offset;
      rule_is = of.rule_is;
      value = λ regs. register_is f.arch of.register regs of.base;
      at = λ n small.
          let part : cfa_content f.arch (cfa.Reg of.register (pos n)) ≡ Ok (content.base, pos n) =
          ap (λ (b : Option Base). cfa_from b (pos n)) of.base ∙ ap (λ (t : Bool). cfa_at Sp (cond t (Some (pos n)) None)) small ∙ ap (λ (b : Base). Ok (b, pos n)) (sym base) in
          ap (λ (x : Result (Base × ℤ) Reason). by_parts x (stack_pointer_check c.sp) (return_address_content f.arch c.ra) (frame_pointer_content c.fp) (sign_state_check f.arch c.sign) c.signed) part ∙ two.other (content.base, pos n);
    }

-- ---- what is recovered at an offset
-- with the canonical frame address so far from the stack pointer
abbrev distant : ℕ → Content → Content
distant n content = record content { cfa = pos n }

abbrev as_written : Function → Content → (n : ℕ) → Regs → List Region → RuleRecovery
as_written f content n regs memory = defined (recovery (distant n content) f.key regs memory)

by_distance : (f : Function) (content : Content) → f.column ≡ return_address f.arch → Says f content → (n : ℕ) → nat_lt n (2 ^ 31) ≡ true → (regs : Regs) (memory : List Region)
    → recovery_from f.arch f.column (initial_row f) f.key regs memory (Some (moved regs.sp (pos n))) ≡ as_written f content n regs memory
unfolding recovery_by_rules
by_distance f content own h n small regs memory =
    let alike = recovers_alike f.arch 0 (with_cfa (cfa.Reg h.register (pos n)) (initial_row f)) (distant n content) (h.at n small) in
    ap (λ (column : ℕ). recovery_from f.arch column (initial_row f) f.key regs memory (Some (moved regs.sp (pos n)))) own
    ∙ ap (λ (base : Option ℕ). recovery_from f.arch (return_address f.arch) (initial_row f) f.key regs memory (option_map (λ (x : ℕ). moved x (pos n)) base)) (sym (h.value regs))
    ∙ alike.alike f.key regs memory

-- by the row there
abbrev plt_recovery : Function → (offset : ℕ) → Regs → List Region → RuleRecovery
plt_recovery f offset regs memory = recovery_from f.arch f.column (full_row f offset) f.key regs memory (plt_frame_address f offset regs (full_row f offset).cfa)

at_row : (f : Function) (o : ℕ) (rule : CfaRule) (regs : Regs) (memory : List Region) → full_row f o ≡ with_cfa rule (initial_row f) → plt_recovery f o regs memory ≡ recovery_from f.arch f.column (initial_row f) f.key regs memory (plt_frame_address f o regs rule)
at_row f o rule regs memory e = ap (λ (row : FullRow). recovery_from f.arch f.column row f.key regs memory (plt_frame_address f o regs row.cfa)) e

by_register : (f : Function) (content : Content) (h : Says f content) (o n : ℕ) (regs : Regs) → plt_frame_address f o regs (cfa.Reg h.register (pos n)) ≡ Some (moved regs.sp (pos n))
by_register f content h o n regs = ap (option_map (λ (x : ℕ). moved x (pos n))) (h.value regs)

at_first : (f : Function) (content : Content) → PltForm f → Says f content → (o : ℕ) → o < 6 → (regs : Regs) (memory : List Region) → plt_recovery f o regs memory ≡ as_written f content 16 regs memory
at_first f content form h o lt regs memory =
    at_row f o (cfa_offset (pos 16) (columns f).cfa) regs memory (row_first f o form.code form.text lt)
    ∙ ap (λ (rule : CfaRule). recovery_from f.arch f.column (initial_row f) f.key regs memory (plt_frame_address f o regs (cfa_offset (pos 16) rule))) h.rule_is
    ∙ ap (recovery_from f.arch f.column (initial_row f) f.key regs memory) (by_register f content h o 16 regs)
    ∙ by_distance f content (own_column f.arch (facts_of f) form.whole) h 16 refl regs memory

at_second : (f : Function) (content : Content) → PltForm f → Says f content → (o : ℕ) → 6 ≤ o → o < 16 → (regs : Regs) (memory : List Region) → plt_recovery f o regs memory ≡ as_written f content 24 regs memory
at_second f content form h o le lt regs memory =
    at_row f o (cfa_offset (pos 24) (cfa_offset (pos 16) (columns f).cfa)) regs memory (row_second f o form.code form.text le lt)
    ∙ ap (λ (rule : CfaRule). recovery_from f.arch f.column (initial_row f) f.key regs memory (plt_frame_address f o regs (cfa_offset (pos 24) (cfa_offset (pos 16) rule)))) h.rule_is
    ∙ ap (recovery_from f.arch f.column (initial_row f) f.key regs memory) (by_register f content h o 24 regs)
    ∙ by_distance f content (own_column f.arch (facts_of f) form.whole) h 24 refl regs memory

at_later : (f : Function) (content : Content) → PltForm f → Says f content → (o n : ℕ) → 16 ≤ o → nat_lt n (2 ^ 31) ≡ true → (regs : Regs) (memory : List Region) → expression_value regs.sp (f.start + o) ≡ Some (moved regs.sp (pos n))
    → plt_recovery f o regs memory ≡ as_written f content n regs memory
at_later f content form h o n le small regs memory value =
    at_row f o cfa.Expression regs memory (row_third f o form.code form.text le)
    ∙ ap (recovery_from f.arch f.column (initial_row f) f.key regs memory) value
    ∙ by_distance f content (own_column f.arch (facts_of f) form.whole) h n small regs memory

-- ---- the rows of the two functions
abbrev pub recovered_by : Regs → List Region → Option FoundRow → Option RuleRecovery
recovered_by regs memory found = option_map defined (option_map (λ (x : FoundRow). recovery x.row.content x.func.key regs memory) found)

abbrev row_by : (first second : Row) → (a b : Bool) → Option Row
row_by first second a b = let begun = cond a (first ∷ cond b (second ∷ []) []) (cond b (second ∷ []) []) in find (begins_last begun) begun

row_tested : (k : ℕ) (first second : Row) → row_at k (first ∷ second ∷ []) ≡ row_by first second (nat_le first.start k) (nat_le second.start k)
unfolding row_at
row_tested k first second = refl

begun_first : (k : ℕ) → nat_le 0 k ≡ true
begun_first k = le-leb 0 k (omega arith)

row_low : (a b m k : ℕ) (content : Content) → k < m → row_at k (row_saying 0 a content ∷ row_saying m b content ∷ []) ≡ Some (row_saying 0 a content)
row_low a b m k content lt =
    let t : nat_le m k ≡ false = grind (arith, nat_tests) in
    let first = row_saying 0 a content in
    let second = row_saying m b content in
    row_tested k first second ∙ ap (λ (x : Bool). row_by first second x (nat_le m k)) (begun_first k) ∙ ap (row_by first second true) t

row_high : (a b m k : ℕ) (content : Content) → nat_le m 0 ≡ false → nat_le m m ≡ true → m ≤ k → row_at k (row_saying 0 a content ∷ row_saying m b content ∷ []) ≡ Some (row_saying m b content)
row_high a b m k content above same le =
    let first = row_saying 0 a content in
    let second = row_saying m b content in
    row_tested k first second ∙ ap (λ (x : Bool). row_by first second x (nat_le m k)) (begun_first k) ∙ ap (row_by first second true) (le-leb m k le)
    ∙ ap (λ (x : Bool). cond (true && (x && true)) (Some first) (cond ((nat_le 0 m) && (nat_le m m && true)) (Some second) None)) above
    ∙ ap (λ (x : Bool). cond (x && (nat_le m m && true)) (Some second) None) (begun_first m)
    ∙ ap (λ (x : Bool). cond (x && true) (Some second) None) same

-- ---- the two functions
in_first : (f : Function) (content : Content) (pc : ℕ) → f.start ≤ pc → pc < f.start + 16 → contains pc (first_entry f content) ≡ true
in_first f content pc le lt = both_true (nat_le f.start pc) (nat_lt pc (f.start + 16)) (le-leb f.start pc le) (lt-ltb pc (f.start + 16) lt)
  where
    both_true : (a b : Bool) → a ≡ true → b ≡ true → (a && b) ≡ true
    both_true true b e f = f
    both_true false b e f = cc

after_first : (f : Function) (content : Content) (pc : ℕ) → f.start + 16 ≤ pc → contains pc (first_entry f content) ≡ false
after_first f content pc le = second_false (nat_le f.start pc) (nat_lt pc (f.start + 16)) (le-ltb pc (f.start + 16) le)
  where
    second_false : (a b : Bool) → b ≡ false → (a && b) ≡ false
    second_false true b e = e
    second_false false b e = refl

in_later : (f : Function) (content : Content) (pc : ℕ) → 16 < f.size → f.start + 16 ≤ pc → pc < f.start + f.size → contains pc (later_entries f content) ≡ true
in_later f content pc above le lt = both_true (nat_le (f.start + 16) pc) (nat_lt pc (f.start + 16 + (f.size - 16))) (le-leb (f.start + 16) pc le) (lt-ltb pc (f.start + 16 + (f.size - 16)) (omega (arith, above, lt)))
  where
    both_true : (a b : Bool) → a ≡ true → b ≡ true → (a && b) ≡ true
    both_true true b e f = f
    both_true false b e f = cc

abbrev found_in : Function → Content → (pc : ℕ) → Regs → List Region → Option RuleRecovery
found_in f content pc regs memory = recovered_by regs memory (row_in_first pc (find (contains pc) (pair_by f (Some content))))

first_found : (f : Function) (content : Content) (pc : ℕ) (regs : Regs) (memory : List Region) → contains pc (first_entry f content) ≡ true → found_in f content pc regs memory ≡ recovered_by regs memory (row_in pc (first_entry f content))
first_found f content pc regs memory t =
    ap (λ (b : Bool). recovered_by regs memory (row_in_first pc (cond b (Some (first_entry f content)) (find (contains pc) (later_entries f content ∷ []))))) t

later_found : (f : Function) (content : Content) (pc : ℕ) (regs : Regs) (memory : List Region) → contains pc (first_entry f content) ≡ false → contains pc (later_entries f content) ≡ true
    → found_in f content pc regs memory ≡ recovered_by regs memory (row_in pc (later_entries f content))
later_found f content pc regs memory t u =
    ap (λ (b : Bool). recovered_by regs memory (row_in_first pc (cond b (Some (first_entry f content)) (find (contains pc) (later_entries f content ∷ []))))) t
    ∙ ap (λ (b : Bool). recovered_by regs memory (row_in_first pc (cond b (Some (later_entries f content)) None))) u

abbrev row_recovered : Func → Regs → List Region → Option Row → Option RuleRecovery
row_recovered g regs memory found = recovered_by regs memory (option_map (λ (row : Row). record { func = g; row = row }) found)

-- at an address of the function
by_entry : (f : Function) (content : Content) → PltForm f → Says f content → (pc : ℕ) (regs : Regs) (memory : List Region) → f.start ≤ pc → pc < f.start + f.size → found_in f content pc regs memory ≡ Some (recovered_in_plt memory pc regs f)
unfolding recovered_in_plt
by_entry f content form h pc regs memory le lt =
    let o = pc - f.start in
    elim (cases_lt o 16) [
      | inl below ↦
          let there = in_first f content pc le (omega (arith, below, le)) in
          elim (cases_lt o 6) [
            | inl first ↦ first_found f content pc regs memory there ∙ ap (row_recovered (first_entry f content) regs memory) (row_low 16 24 6 o content first) ∙ ap Some (sym (at_first f content form h o first regs memory))
            | inr second ↦ first_found f content pc regs memory there ∙ ap (row_recovered (first_entry f content) regs memory) (row_high 16 24 6 o content refl refl (omega (arith, second)))
                ∙ ap Some (sym (at_second f content form h o (omega (arith, second)) below regs memory))
          ]
      | inr above ↦
          let out = after_first f content pc (omega (arith, above, le)) in
          let there = in_later f content pc form.above (omega (arith, above, le)) lt in
          let k = (pc - (f.start + 16)) % 16 in
          let same : k ≡ pc % 16 = omega (arith, above, le, form.aligned) in
          let address : f.start + o ≡ pc = omega (arith, le) in
          elim (cases_lt k 11) [
            | inl low ↦ later_found f content pc regs memory out there ∙ ap (row_recovered (later_entries f content) regs memory) (row_low 8 16 11 k content low)
                ∙ ap Some (sym (at_later f content form h o 8 (omega (arith, above)) refl regs memory (ap (expression_value regs.sp) address ∙ value_low regs.sp pc (omega (arith, low, same)))))
            | inr high ↦ later_found f content pc regs memory out there ∙ ap (row_recovered (later_entries f content) regs memory) (row_high 8 16 11 k content refl refl (omega (arith, high)))
                ∙ ap Some (sym (at_later f content form h o 16 (omega (arith, above)) refl regs memory (ap (expression_value regs.sp) address ∙ value_high regs.sp pc (omega (arith, high, same)))))
          ]
    ]

-- ---- the law
pub within : (pc start size : ℕ) → (nat_le start pc && nat_lt pc (start + size)) ≡ true → (start ≤ pc) × (pc < start + size)
within pc start size e =
    let two = both (nat_le start pc) (nat_lt pc (start + size)) e in
    (leb-true start pc two.0, ltb-true pc (start + size) two.1)

pub table_recovers : (f : Function) (pc : ℕ) (regs : Regs) (memory : List Region) → is_plt f ≡ true → holds_address pc f ≡ true
    → recovered_by regs memory (row_in_first pc (find (contains pc) (plt_pair f))) ≡ Some (recovered_in_plt memory pc regs f)
table_recovers f pc regs memory table holds =
    let form = plt_form f table in
    let content = form.initial.content in
    let w = within pc f.start f.size holds in
    ap (λ (x : Option Content). recovered_by regs memory (row_in_first pc (find (contains pc) (pair_by f x)))) form.initial.is
    ∙ by_entry f content form (says f content form.initial.is form.initial.base) pc regs memory w.0 w.1

pub tables_recover : (f : Function) (pc : ℕ) (regs : Regs) (memory : List Region) → is_plt f ≡ true → holds_address pc f ≡ true → option_map defined (recover_by_rows (plt_pair f) memory pc regs) ≡ Some (recovered_in_plt memory pc regs f)
unfolding recover_by_rows found_at
tables_recover f pc regs memory table holds = table_recovers f pc regs memory table holds
