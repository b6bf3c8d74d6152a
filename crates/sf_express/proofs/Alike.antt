-- What a row recovers by its rules is what its content recovers.
use Rattle.std.proofs.Common.{◌≡◌, ℕ, ℤ, pos, ◌+◌, ◌-◌, ◌%◌, ◌^◌, Bool, true, false, cond, List, Option, Some, None, Result, Ok, Err, refl, sym, ap, subst, ◌∙◌, arith}
use Rattle.std.proofs.Math.Nat.{mod-mod}
use Rattle.std.proofs.lemmas.Bool.Decides.{nat_tests}
use Rattle.std.specs.Prelude.{negsuc, ◌==◌}
use Rattle.std.specs.Option.{option_map}
use Rattle.sf_model.specs.declared.machine.Arch.{Arch}
use Rattle.sf_model.specs.declared.machine.Arch.TheVariants.{Amd64, Aarch64}
use Rattle.sf_model.specs.declared.machine.Base.{Base}
use Rattle.sf_model.specs.declared.machine.Base.TheVariants.{Fp, Sp}
use Rattle.sf_model.specs.declared.machine.Key.{Key}
use Rattle.sf_model.specs.declared.content.Ra.{Ra}
use Rattle.sf_model.specs.declared.content.Ra.TheVariants.{Fixed, Link, At}
use Rattle.sf_model.specs.declared.content.Content.{Content}
use Rattle.sf_model.specs.declared.omission.Reason.{Reason}
use Rattle.sf_model.specs.declared.omission.Reason.TheVariants.{SpRule, RaOffset}
use Rattle.sf_model.specs.declared.recovery.Regs.{Regs}
use Rattle.sf_model.specs.declared.rows.Row.{Row}
use Rattle.sf_model.specs.Memory.{Region}
use Rattle.sf_model.specs.Recovery.{Value, Known, moved, base_value, return_place, pointer_place, saved_or_kept, key_if_signed, recovery}
use Rattle.cfa_machine.specs.declared.rule.CfaRule.{CfaRule}
use Rattle.cfa_machine.specs.declared.rule.CfaRule.TheVariants as cfa
use Rattle.cfa_machine.specs.declared.rule.Rule.{Rule}
use Rattle.cfa_machine.specs.declared.rule.Rule.TheVariants as rule
use Rattle.cfa_machine.specs.declared.columns.Columns.{Columns}
use Rattle.cfa_machine.specs.declared.row.DwRow.{DwRow}
use Rattle.cfa_machine.specs.Registers.{stack_pointer, frame_pointer}
use Rattle.cfa_machine.specs.Columns.{row_from}
use Rattle.cfa_machine.specs.FullRow.{FullRow, columns_of}
use Rattle.cfa_machine.specs.RowAtOffset.{latest_at, HasColumns}
use Rattle.cfa_machine.specs.ColumnRecovery.{columns_recover, columns_recover_from, return_register}
use Rattle.cfa_machine.specs.Recovery.{RuleRecovery, register_value, frame_address_by, value_by}
use Rattle.cfa_machine.proofs.ColumnRecovery.{recovery_of_columns}
use Rattle.sf_express.specs.Rules.{◌>>=◌, fits_i32, narrowed, base_of, cfa_at, cfa_from, cfa_content, is_zero, stack_pointer_check, is_minus_8, return_address_at, return_address_content, frame_pointer_at, frame_pointer_content, frame_pointer_needs_return_address, sign_state_check, content_of}
use Rattle.sf_express.specs.Offsets.{content_or_reason, without_reason, latest_content}
use Rattle.sf_express.specs.Alike.{defined, RecoverAlike, ColumnsRecoverAlike, FoundAlike}
use Rattle.sf_express.proofs.Writable.{made}

-- ---- numbers
narrowed_is : (n m : ℤ) → narrowed n ≡ Some m → n ≡ m
narrowed_is n m e = at_test (fits_i32 n) e
  where
    at_test : (b : Bool) → cond b (Some n) None ≡ Some m → n ≡ m
    at_test true e = cc
    at_test false e = cc

zero_is : (n : ℤ) → is_zero n ≡ true → n ≡ pos 0
zero_is (pos n) e = let z : n ≡ 0 = grind (arith, nat_tests) in ap (λ (k : ℕ). pos k) z
zero_is (negsuc n) e = cc

minus_8_is : (n : ℤ) → is_minus_8 n ≡ true → n ≡ negsuc 7
minus_8_is (pos n) e = cc
minus_8_is (negsuc n) e = let z : n ≡ 7 = grind (arith, nat_tests) in ap (λ (k : ℕ). negsuc k) z

-- an address that was moved to is unchanged if moved by 0
remainder_stays : (n : ℕ) → (n % 2 ^ 64 + 0) % 2 ^ 64 ≡ n % 2 ^ 64
remainder_stays n = ap (λ (k : ℕ). k % 2 ^ 64) (plus_zero (n % 2 ^ 64)) ∙ mod-mod n (2 ^ 64)
  where
    plus_zero : (k : ℕ) → k + 0 ≡ k
    plus_zero k = omega arith

moved_by_zero : (address : ℕ) (by : ℤ) → moved (moved address by) (pos 0) ≡ moved address by
unfolding moved
moved_by_zero address (pos n) = remainder_stays (address + n)
moved_by_zero address (negsuc n) = remainder_stays (address + (2 ^ 64 - 1 - n % 2 ^ 64))

-- ---- the canonical frame address
base_is : (sp fp : Bool) (base : Base) (regs : Regs) → cond sp (Some Sp) (cond fp (Some Fp) None) ≡ Some base → cond sp (Some regs.sp) (cond fp (Some regs.fp) None) ≡ Some (base_value base regs)
base_is true fp Sp regs e = refl
base_is true fp Fp regs e = cc
base_is false true Sp regs e = cc
base_is false true Fp regs e = refl
base_is false false base regs e = cc

register_is : (arch : Arch) (r : ℕ) (base : Base) (regs : Regs) → base_of arch r ≡ Some base → register_value arch r regs ≡ Some (base_value base regs)
register_is arch r base regs e = base_is (r == stack_pointer arch) (r == frame_pointer arch) base regs e

offset_is : (base : Base) (n : ℤ) (found : Option ℤ) (x : Base × ℤ) (regs : Regs) → narrowed n ≡ found → cfa_at base found ≡ Ok x → moved (base_value base regs) n ≡ moved (base_value x.0 regs) x.1
offset_is base n (Some m) x regs narrow e =
    let parts : (base, m) ≡ x = cc in
    ap (λ (k : ℤ). moved (base_value base regs) k) (narrowed_is n m narrow) ∙ ap (λ (y : Base × ℤ). moved (base_value y.0 regs) y.1) parts
offset_is base n None x regs narrow e = cc

cfa_from_is : (arch : Arch) (r : ℕ) (found : Option Base) (n : ℤ) (x : Base × ℤ) (regs : Regs) → base_of arch r ≡ found → cfa_from found n ≡ Ok x → option_map (λ (base : ℕ). moved base n) (register_value arch r regs) ≡ Some (moved (base_value x.0 regs) x.1)
cfa_from_is arch r (Some base) n x regs is e =
    ap (option_map (λ (base : ℕ). moved base n)) (register_is arch r base regs is) ∙ ap (λ (k : ℕ). Some k) (offset_is base n (narrowed n) x regs refl e)
cfa_from_is arch r None n x regs is e = cc

frame_address_is : (arch : Arch) (r : CfaRule) (x : Base × ℤ) (regs : Regs) → cfa_content arch r ≡ Ok x → frame_address_by arch r regs ≡ Some (moved (base_value x.0 regs) x.1)
frame_address_is arch cfa.Missing x regs e = cc
frame_address_is arch cfa.Expression x regs e = cc
frame_address_is arch (cfa.Reg r n) x regs e = cfa_from_is arch r (base_of arch r) n x regs refl e

-- ---- the stack pointer
sp_zero_is : (n : ℤ) (zero : Bool) (u : Unit {0}) (address : ℕ) → is_zero n ≡ zero → cond zero (Ok tt) (Err SpRule) ≡ Ok u → moved address (pos 0) ≡ address → moved address n ≡ address
sp_zero_is n true u address test e stays = ap (moved address) (zero_is n test) ∙ stays
sp_zero_is n false u address test e stays = cc

sp_is : (r : Rule) (u : Unit {0}) (address : ℕ) (present : Option Value) (memory : List Region) → moved address (pos 0) ≡ address → stack_pointer_check r ≡ Ok u → value_by memory (Some address) (Some (Known address)) present r ≡ Some (Known address)
sp_is rule.Missing u address present memory stays e = refl
sp_is (rule.ValOffset n) u address present memory stays e = ap (λ (k : ℕ). Some (Known k)) (sp_zero_is n (is_zero n) u address refl e stays)
sp_is rule.Undefined u address present memory stays e = cc
sp_is rule.Same u address present memory stays e = cc
sp_is (rule.Offset n) u address present memory stays e = cc
sp_is (rule.Register r) u address present memory stays e = cc
sp_is rule.Expression u address present memory stays e = cc
sp_is rule.ValExpression u address present memory stays e = cc

-- ---- the return address
fixed_is : (n : ℤ) (at_minus_8 : Bool) (ra : Ra) (address : ℕ) → is_minus_8 n ≡ at_minus_8 → cond at_minus_8 (Ok Fixed) (Err RaOffset) ≡ Ok ra → Some (moved address n) ≡ return_place ra address
fixed_is n true ra address test e =
    let is : Fixed ≡ ra = cc in
    ap (λ (k : ℤ). Some (moved address k)) (minus_8_is n test) ∙ ap (λ (r : Ra). return_place r address) is
fixed_is n false ra address test e = cc

at_is : (n : ℤ) (found : Option ℤ) (ra : Ra) (address : ℕ) → narrowed n ≡ found → return_address_at found ≡ Ok ra → Some (moved address n) ≡ return_place ra address
at_is n (Some m) ra address narrow e =
    let is : At m ≡ ra = cc in
    ap (λ (k : ℤ). Some (moved address k)) (narrowed_is n m narrow) ∙ ap (λ (r : Ra). return_place r address) is
at_is n None ra address narrow e = cc

link_is : (ra : Ra) (address : ℕ) → return_address_content Aarch64 rule.Missing ≡ Ok ra → None ≡ return_place ra address
link_is ra address e = let is : Link ≡ ra = cc in ap (λ (r : Ra). return_place r address) is

abbrev place_value : List Region → (present : ℕ) → (place : Option ℕ) → Option Value
place_value memory present place = Some (saved_or_kept memory present place)

ra_is : (arch : Arch) (r : Rule) (ra : Ra) (address : ℕ) (regs : Regs) (memory : List Region) → return_address_content arch r ≡ Ok ra
    → value_by memory (Some address) (return_register arch regs) (return_register arch regs) r ≡ Some (saved_or_kept memory regs.lr (return_place ra address))
ra_is Amd64 (rule.Offset n) ra address regs memory e = ap (place_value memory regs.lr) (fixed_is n (is_minus_8 n) ra address refl e)
ra_is Amd64 rule.Missing ra address regs memory e = cc
ra_is Amd64 rule.Undefined ra address regs memory e = cc
ra_is Amd64 rule.Same ra address regs memory e = cc
ra_is Amd64 (rule.ValOffset n) ra address regs memory e = cc
ra_is Amd64 (rule.Register r) ra address regs memory e = cc
ra_is Amd64 rule.Expression ra address regs memory e = cc
ra_is Amd64 rule.ValExpression ra address regs memory e = cc
ra_is Aarch64 rule.Missing ra address regs memory e = ap (place_value memory regs.lr) (link_is ra address e)
ra_is Aarch64 rule.Same ra address regs memory e = ap (place_value memory regs.lr) (link_is ra address e)
ra_is Aarch64 (rule.Offset n) ra address regs memory e = ap (place_value memory regs.lr) (at_is n (narrowed n) ra address refl e)
ra_is Aarch64 rule.Undefined ra address regs memory e = cc
ra_is Aarch64 (rule.ValOffset n) ra address regs memory e = cc
ra_is Aarch64 (rule.Register r) ra address regs memory e = cc
ra_is Aarch64 rule.Expression ra address regs memory e = cc
ra_is Aarch64 rule.ValExpression ra address regs memory e = cc

-- ---- the frame pointer
fp_saved_is : (n : ℤ) (found fp : Option ℤ) (address : ℕ) → narrowed n ≡ found → frame_pointer_at found ≡ Ok fp → Some (moved address n) ≡ pointer_place fp address
fp_saved_is n (Some m) fp address narrow e =
    let is : Some m ≡ fp = cc in
    ap (λ (k : ℤ). Some (moved address k)) (narrowed_is n m narrow) ∙ ap (λ (x : Option ℤ). pointer_place x address) is
fp_saved_is n None fp address narrow e = cc

fp_kept_is : (fp : Option ℤ) (address : ℕ) → frame_pointer_content rule.Missing ≡ Ok fp → None ≡ pointer_place fp address
fp_kept_is fp address e = let is : None ≡ fp = cc in ap (λ (x : Option ℤ). pointer_place x address) is

fp_is : (r : Rule) (fp : Option ℤ) (address present : ℕ) (memory : List Region) → frame_pointer_content r ≡ Ok fp
    → value_by memory (Some address) (Some (Known present)) (Some (Known present)) r ≡ Some (saved_or_kept memory present (pointer_place fp address))
fp_is rule.Missing fp address present memory e = ap (place_value memory present) (fp_kept_is fp address e)
fp_is rule.Same fp address present memory e = ap (place_value memory present) (fp_kept_is fp address e)
fp_is (rule.Offset n) fp address present memory e = ap (place_value memory present) (fp_saved_is n (narrowed n) fp address refl e)
fp_is rule.Undefined fp address present memory e = cc
fp_is (rule.ValOffset n) fp address present memory e = cc
fp_is (rule.Register r) fp address present memory e = cc
fp_is rule.Expression fp address present memory e = cc
fp_is rule.ValExpression fp address present memory e = cc

-- ---- the row
abbrev recovery_of_parts : (frame_address : Option ℕ) → (return_address frame_pointer stack_pointer : Option Value) → (signed : Option Key) → RuleRecovery
recovery_of_parts f ra fp sp signed = record { frame_address = f; return_address = ra; frame_pointer = fp; stack_pointer = sp; signed = signed }

parts_are : (f : Option ℕ) (ra ra' fp fp' sp sp' : Option Value) (signed : Option Key) → ra ≡ ra' → fp ≡ fp' → sp ≡ sp' → recovery_of_parts f ra fp sp signed ≡ recovery_of_parts f ra' fp' sp' signed
parts_are f ra ra' fp fp' sp sp' signed p q r = rw (p, q, r) refl

-- what the parts of a row determine of it
record AreParts (arch : Arch) (columns : Columns) (x : Base × ℤ) (u : Unit {0}) (ra : Ra) (fp : Option ℤ) : Type 0 where
  said_cfa : cfa_content arch columns.cfa ≡ Ok x
  said_sp : stack_pointer_check columns.sp ≡ Ok u
  said_ra : return_address_content arch columns.ra ≡ Ok ra
  said_fp : frame_pointer_content columns.fp ≡ Ok fp

made_alike : (arch : Arch) (columns : Columns) (key : Key) (regs : Regs) (memory : List Region) (x : Base × ℤ) (u : Unit {0}) (ra : Ra) (fp : Option ℤ) → AreParts arch columns x u ra fp
    → columns_recover arch columns key regs memory ≡ defined (recovery (made x ra fp columns.signed) key regs memory)
unfolding columns_recover recovery
made_alike arch columns key regs memory x u ra fp h =
    let address : ℕ = moved (base_value x.0 regs) x.1 in
    ap (columns_recover_from arch columns key regs memory) (frame_address_is arch columns.cfa x regs h.said_cfa)
    ∙ parts_are (Some address) _ _ _ _ _ _ (key_if_signed columns.signed key)
    (ra_is arch columns.ra ra address regs memory h.said_ra)
    (fp_is columns.fp fp address regs.fp memory h.said_fp)
    (sp_is columns.sp u address (Some (Known regs.sp)) memory (moved_by_zero (base_value x.0 regs) x.1) h.said_sp)

made_is : (pair sign : Result (Unit {0}) Reason) (made content : Content) → (pair >>= λ _. (sign >>= λ _. Ok made)) ≡ Ok content → made ≡ content
made_is (Ok u) (Ok v) made content e = cc
made_is (Ok u) (Err reason) made content e = cc
made_is (Err reason) sign made content e = cc

parts_alike : (arch : Arch) (columns : Columns) (content : Content) (cfa : Result (Base × ℤ) Reason) (sp : Result (Unit {0}) Reason) (ra : Result Ra Reason) (fp : Result (Option ℤ) Reason) (sign : Result (Unit {0}) Reason)
    → cfa_content arch columns.cfa ≡ cfa → stack_pointer_check columns.sp ≡ sp → return_address_content arch columns.ra ≡ ra → frame_pointer_content columns.fp ≡ fp
    → (cfa >>= λ x. (sp >>= λ _. (ra >>= λ ra. (fp >>= λ fp. (frame_pointer_needs_return_address ra fp >>= λ _. (sign >>= λ _. Ok (made x ra fp columns.signed))))))) ≡ Ok content
    → (key : Key) (regs : Regs) (memory : List Region) → columns_recover arch columns key regs memory ≡ defined (recovery content key regs memory)
parts_alike arch columns content (Err reason) sp ra fp sign p q r s e = λ key regs memory. cc
parts_alike arch columns content (Ok x) (Err reason) ra fp sign p q r s e = λ key regs memory. cc
parts_alike arch columns content (Ok x) (Ok u) (Err reason) fp sign p q r s e = λ key regs memory. cc
parts_alike arch columns content (Ok x) (Ok u) (Ok ra) (Err reason) sign p q r s e = λ key regs memory. cc
parts_alike arch columns content (Ok x) (Ok u) (Ok ra) (Ok fp) sign p q r s e = λ key regs memory.
    made_alike arch columns key regs memory x u ra fp (record { said_cfa = p; said_sp = q; said_ra = r; said_fp = s })
    ∙ ap (λ (c : Content). defined (recovery c key regs memory)) (made_is (frame_pointer_needs_return_address ra fp) sign (made x ra fp columns.signed) content e)

all_alike : (arch : Arch) (start : ℕ) (columns : Columns) (content : Content) → content_of arch (row_from start columns) ≡ Ok content
    → (key : Key) (regs : Regs) (memory : List Region) → columns_recover arch columns key regs memory ≡ defined (recovery content key regs memory)
unfolding content_of
all_alike arch start columns content e =
    parts_alike arch columns content (cfa_content arch columns.cfa) (stack_pointer_check columns.sp) (return_address_content arch columns.ra) (frame_pointer_content columns.fp) (sign_state_check arch columns.sign) refl refl refl refl e

-- the stack pointer of a recovery is its canonical frame address
pointer_is : (content : Content) (key : Key) (regs : Regs) (memory : List Region) → (defined (recovery content key regs memory)).stack_pointer ≡ option_map Known (defined (recovery content key regs memory)).frame_address
unfolding recovery
pointer_is content key regs memory = refl

pub columns_alike : (arch : Arch) (start : ℕ) (columns : Columns) (content : Content) → content_of arch (row_from start columns) ≡ Ok content → ColumnsRecoverAlike arch columns content
columns_alike arch start columns content e = record {
  alike = all_alike arch start columns content e;
  stack_pointer = λ key regs memory. subst (λ (r : RuleRecovery). r.stack_pointer ≡ option_map Known r.frame_address) (sym (all_alike arch start columns content e key regs memory)) (pointer_is content key regs memory);
}

pub recovers_alike : (arch : Arch) (start : ℕ) (row : FullRow) (content : Content) → content_of arch (row_from start (columns_of arch row)) ≡ Ok content → RecoverAlike arch row content
recovers_alike arch start row content e =
    let columns = columns_alike arch start (columns_of arch row) content e in
    record {
      alike = λ key regs memory. recovery_of_columns arch row key regs memory ∙ columns.alike key regs memory;
      stack_pointer = λ key regs memory.
          subst (λ (r : RuleRecovery). r.stack_pointer ≡ option_map Known r.frame_address) (sym (recovery_of_columns arch row key regs memory)) (columns.stack_pointer key regs memory);
    }

-- ---- at an offset
found_alike : (arch : Arch) (row : FullRow) (start : ℕ) (said_there : Option DwRow) (found : Option Content) → said_there ≡ Some (row_from start (columns_of arch row)) → content_or_reason arch said_there ≡ without_reason found → FoundAlike arch row found
found_alike arch row start said_there (Some content) is e =
    let said_is : Some (content_of arch (row_from start (columns_of arch row))) ≡ Some (Ok content) = sym (ap (content_or_reason arch) is) ∙ e in
    record { content = content; is = refl; alike = recovers_alike arch start row content cc }
found_alike arch row start said_there None is e =
    let said_is : Some (content_of arch (row_from start (columns_of arch row))) ≡ None = sym (ap (content_or_reason arch) is) ∙ e in
    cc

pub found_at_offset : (arch : Arch) (row : FullRow) (rows : List DwRow) (kept : List Row) (o : ℕ) → HasColumns arch row (latest_at o None rows) → content_or_reason arch (latest_at o None rows) ≡ without_reason (latest_content o None kept) → FoundAlike arch row (latest_content o None kept)
found_at_offset arch row rows kept o h e = found_alike arch row h.start (latest_at o None rows) (latest_content o None kept) h.is e
