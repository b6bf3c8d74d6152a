-- A section can hold the two functions that are made of a procedure linkage table.
use Rattle.std.specs.Prelude.{All, IsTrue}
use Rattle.std.proofs.Common.{◌≡◌, ℕ, zero, suc, ℤ, pos, ◌+◌, ◌^◌, ◌<◌, ◌≤◌, Bool, true, false, cond, List, [], ◌∷◌, ◌++◌, get_or, Option, Some, None, Result, Ok, Err, refl, sym, ap, subst, ◌∙◌, arith}
use Rattle.std.proofs.lemmas.List.Elements.{All-append, All-from_recursion}
use Rattle.sf_model.specs.declared.content.Content.{Content}
use Rattle.sf_model.specs.declared.content.Ra.{Ra}
use Rattle.sf_model.specs.declared.content.Ra.TheVariants.{Fixed}
use Rattle.sf_model.specs.declared.function.Func.{Func}
use Rattle.sf_model.specs.declared.machine.Arch.{Arch}
use Rattle.sf_model.specs.declared.machine.Arch.TheVariants.{Amd64}
use Rattle.sf_model.specs.declared.omission.Reason.{Reason}
use Rattle.sf_model.specs.declared.rows.Row.{Row}
use Rattle.sf_model.specs.Content.{content_fits}
use Rattle.sf_model.specs.Function.{IsWritable, RowsRise, key_fits}
use Rattle.cfa_insn.specs.Listing.{Item}
use Rattle.cfa_machine.specs.declared.effect.Effect.{Effect}
use Rattle.cfa_machine.specs.declared.effect.Effect.TheVariants as effects
use Rattle.cfa_machine.specs.declared.effect.RowEffect.TheVariants.{Nothing, SetRule, SetCfa, SetCfaRegister, SetCfaOffset, NegateSign}
use Rattle.cfa_machine.specs.declared.fault.MachineFault.{MachineFault}
use Rattle.cfa_machine.specs.declared.rule.Rule.{Rule}
use Rattle.cfa_machine.specs.declared.rule.Rule.TheVariants as rule
use Rattle.cfa_machine.specs.RowAtOffset.{initial_by, row_defined}
use Rattle.cfa_machine.specs.Effects.{effect_by}
use Rattle.cfa_machine.specs.FirstFault.{define_fault, first_fault, initial_fault, or_later}
use Rattle.cfa_machine.specs.FullRow.{FullRow, no_row}
use Rattle.sf_express.specs.Rules.{cfa_content, content_of, frame_pointer_content, is_minus_8, return_address_content, sign_state_check, stack_pointer_check}
use Rattle.frame_functions.specs.Functions.{Function}
use Rattle.sf_plt.specs.Plt.{content_unless, initial_content, is_plt}
use Rattle.sf_plt.specs.Written.{first_entry, later_entries, row_saying}
use Rattle.sf_plt.proofs.Form.{plt_form}
use Rattle.sf_plt.proofs.Recovers.{columns, other_cfa, said_before}
use Rattle.sf_plt.proofs.Rows.{initial_row}

-- ---- the content
fixed_by : (b : Bool) (reason : Reason) (ra : Ra) → cond {A = Result Ra Reason} b (Ok Fixed) (Err reason) ≡ Ok ra → ra ≡ Fixed
fixed_by true reason ra e = let is : Fixed ≡ ra = cc in sym is
fixed_by false reason ra e = cc

fixed : (r : Rule) (ra : Ra) → return_address_content Amd64 r ≡ Ok ra → ra ≡ Fixed
fixed (rule.Offset n) ra e = fixed_by (is_minus_8 n) _ ra e
fixed rule.Missing ra e = cc
fixed rule.Undefined ra e = cc
fixed rule.Same ra e = cc
fixed (rule.ValOffset n) ra e = cc
fixed (rule.Register r) ra e = cc
fixed rule.Expression ra e = cc
fixed rule.ValExpression ra e = cc

-- AMD64 signs no return addresses
stays_unsigned : (place : ℕ) (effect : Effect) (row : FullRow) → define_fault Amd64 place effect row.cfa ≡ None → (row_defined effect row).signed ≡ row.signed
stays_unsigned place (effects.Row Nothing) row e = refl
stays_unsigned place (effects.Row (SetRule r new)) row e = refl
stays_unsigned place (effects.Row (SetCfa new)) row e = refl
stays_unsigned place (effects.Row (SetCfaRegister r)) row e = refl
stays_unsigned place (effects.Row (SetCfaOffset n)) row e = refl
stays_unsigned place (effects.Row NegateSign) row e = cc
stays_unsigned place (effects.Advance n) row e = refl
stays_unsigned place (effects.Restore r) row e = refl
stays_unsigned place effects.Remember row e = refl
stays_unsigned place effects.Recall row e = refl

neither : (a b : Option MachineFault) → or_later a b ≡ None → (a ≡ None) × (b ≡ None)
neither None b e = (refl, e)
neither (Some fault) b e = cc

unsigned_by : (f : ℤ) (row : FullRow) (items : List Item) → initial_fault Amd64 f row items ≡ None → (initial_by f row items).signed ≡ row.signed
unfolding initial_fault initial_by
unsigned_by f row [] e = refl
unsigned_by f row (Err fault ∷ items) e = refl
unsigned_by f row (Ok (place, i) ∷ items) e =
    let two = neither (define_fault Amd64 place (effect_by f i) row.cfa) (initial_fault Amd64 f (row_defined (effect_by f i) row) items) e in
    unsigned_by f (row_defined (effect_by f i) row) items two.1 ∙ stays_unsigned place (effect_by f i) row two.0

no_fault : (first : Option MachineFault) (said : Result Content Reason) (content : Content) → content_unless first said ≡ Some content → first ≡ None
no_fault None said content e = refl
no_fault (Some fault) said content e = cc

row_unsigned : (f : Function) (content : Content) → f.arch ≡ Amd64 → initial_content f ≡ Some content → (initial_row f).signed ≡ false
unfolding initial_content
row_unsigned f content arch e =
    let none = no_fault (first_fault f.arch f.factor f.initial []) _ content e in
    let on_amd64 : first_fault Amd64 f.factor f.initial [] ≡ None = ap (λ (a : Arch). first_fault a f.factor f.initial []) (sym arch) ∙ none in
    unsigned_by f.factor no_row f.initial (neither (initial_fault Amd64 f.factor no_row f.initial) _ on_amd64).0

-- what the rows say can be said on the machine, whatever the canonical frame address
fits : (f : Function) (content : Content) → f.arch ≡ Amd64 → initial_content f ≡ Some content → (n : ℕ) → IsTrue (content_fits f.arch (record content { cfa = pos n }))
unfolding content_of
fits f content arch e n =
    let c = columns f in
    let parts = other_cfa (cfa_content f.arch c.cfa) (stack_pointer_check c.sp) (return_address_content f.arch c.ra) (frame_pointer_content c.fp) (sign_state_check f.arch c.sign) c.signed content (said_before f content e) in
    let ra : content.ra ≡ Fixed = fixed c.ra content.ra (ap (λ (a : Arch). return_address_content a c.ra) (sym arch) ∙ parts.ra_is) in
    let signed : content.signed ≡ false = sym parts.signed_is ∙ row_unsigned f content arch e in
    rw (arch, ra, signed) refl

-- ---- the rows
two_rise : (first second : Row) → first.start < second.start → RowsRise (first ∷ second ∷ [])
two_rise first second lt = λ k d high. at k d high
  where
    at : (k : ℕ) (d : Row) → k + 1 < 2 → (get_or (first ∷ second ∷ []) k d).start < (get_or (first ∷ second ∷ []) (k + 1) d).start
    at zero d high = lt
    at (suc k) d high = absurd (omega (arith, high))

-- ---- the functions
pub first_writable : (f : Function) (content : Content) → is_plt f ≡ true → initial_content f ≡ Some content → f.start + f.size ≤ 2 ^ 64 → IsTrue (key_fits f.arch f.key) → IsWritable f.arch (first_entry f content)
first_writable f content table is end key =
    let form = plt_form f table in
    let above = form.above in
    record {
      size = omega arith;
      end = omega (arith, end, above);
      has_rows = omega arith;
      rows_rise = two_rise (row_saying 0 16 content) (row_saying 6 24 content) (omega arith);
      contents = All-from_recursion (λ (r : Row). IsTrue (content_fits f.arch r.content)) (row_saying 0 16 content ∷ row_saying 6 24 content ∷ []) (fits f content form.arch is 16, (fits f content form.arch is 24, tt));
      key = key;
      shape = refl;
    }

pub later_writable : (f : Function) (content : Content) → is_plt f ≡ true → initial_content f ≡ Some content → f.start + f.size ≤ 2 ^ 64 → IsTrue (key_fits f.arch f.key) → IsWritable f.arch (later_entries f content)
later_writable f content table is end key =
    let form = plt_form f table in
    let above = form.above in
    record {
      size = omega (arith, above);
      end = omega (arith, end, above);
      has_rows = omega arith;
      rows_rise = two_rise (row_saying 0 8 content) (row_saying 11 16 content) (omega arith);
      contents = All-from_recursion (λ (r : Row). IsTrue (content_fits f.arch r.content)) (row_saying 0 8 content ∷ row_saying 11 16 content ∷ []) (fits f content form.arch is 8, (fits f content form.arch is 16, tt));
      key = key;
      shape = refl;
    }

-- both, on this machine
pub first_on : (arch : Arch) (f : Function) (content : Content) (a : Func) → is_plt f ≡ true → initial_content f ≡ Some content → f.start + f.size ≤ 2 ^ 64 → IsTrue (key_fits f.arch f.key) → f.arch ≡ arch → a ≡ first_entry f content → IsWritable arch a
first_on arch f content a table is end key machine first =
    subst (IsWritable arch) (sym first) (subst (λ (m : Arch). IsWritable m (first_entry f content)) machine (first_writable f content table is end key))

pub later_on : (arch : Arch) (f : Function) (content : Content) (b : Func) → is_plt f ≡ true → initial_content f ≡ Some content → f.start + f.size ≤ 2 ^ 64 → IsTrue (key_fits f.arch f.key) → f.arch ≡ arch → b ≡ later_entries f content → IsWritable arch b
later_on arch f content b table is end key machine later =
    subst (IsWritable arch) (sym later) (subst (λ (m : Arch). IsWritable m (later_entries f content)) machine (later_writable f content table is end key))

-- both, after functions that can be written
pub pair_writable : (arch : Arch) (old : List Func) (a b : Func) → All (IsWritable arch) old → IsWritable arch a → IsWritable arch b → All (IsWritable arch) ((old ++ a ∷ []) ++ b ∷ [])
pair_writable arch old a b each one two =
    All-append (IsWritable arch) (old ++ a ∷ []) (b ∷ []) (All-append (IsWritable arch) old (a ∷ []) each (All-from_recursion (IsWritable arch) (a ∷ []) (one, tt))) (All-from_recursion (IsWritable arch) (b ∷ []) (two, tt))
