-- What a plain lazy procedure linkage table is, fact by fact.
use Rattle.std.specs.Prelude.{is_none, nat_le, nat_lt}
use Rattle.std.proofs.Common.{◌≡◌, ℕ, ◌%◌, ◌^◌, ◌<◌, Bool, true, false, cond, ◌&&◌, eqb, Option, Some, None, refl, arith}
use Rattle.std.proofs.lemmas.Bool.{eqb-true, ltb-true}
use Rattle.std.proofs.lemmas.Bool.Decides.{nat_tests}
use Rattle.sf_model.specs.declared.content.Content.{Content}
use Rattle.sf_model.specs.declared.facts.FdeFacts.{FdeFacts}
use Rattle.sf_model.specs.declared.machine.Arch.{Arch}
use Rattle.sf_model.specs.declared.machine.Arch.TheVariants.{Amd64, Aarch64}
use Rattle.sf_model.specs.declared.machine.Base.{Base}
use Rattle.sf_model.specs.declared.machine.Base.TheVariants.{Fp, Sp}
use Rattle.sf_model.specs.declared.omission.Reason.TheVariants.{EmptyRange, SizeTooLarge, ReturnColumn, SignalFrame}
use Rattle.cfa_machine.specs.Registers.{return_address}
use Rattle.sf_express.specs.Expressed.{reason_of, same_base}
use Rattle.frame_functions.specs.Functions.{Function}
use Rattle.frame_functions.specs.Kept.{facts_of}
use Rattle.sf_plt.specs.Plt.{counts_from_stack, initial_content, is_amd64, is_plt, is_plt_text, without_nops}

pub both : (a b : Bool) → (a && b) ≡ true → (a ≡ true) × (b ≡ true)
both true b e = (refl, e)
both false b e = cc

is_none_means : {A : Type 0} (x : Option A) → is_none x ≡ true → x ≡ None
is_none_means None e = refl
is_none_means (Some x) e = cc

is_amd64_means : (arch : Arch) → is_amd64 arch ≡ true → arch ≡ Amd64
is_amd64_means Amd64 e = refl
is_amd64_means Aarch64 e = cc

same_base_means : (base : Base) → same_base base Sp ≡ true → base ≡ Sp
same_base_means Sp e = refl
same_base_means Fp e = cc

pub record OfStack (given : Option Content) : Type 0 where
  pub content : Content
  pub is : given ≡ Some content
  pub base : content.base ≡ Sp

of_stack : (given : Option Content) → counts_from_stack given ≡ true → OfStack given
of_stack None e = cc
of_stack (Some content) e = record { content = content; is = refl; base = same_base_means content.base e }

pub record PltForm (f : Function) : Type 0 where
  pub arch : f.arch ≡ Amd64
  pub whole : reason_of f.arch (facts_of f) ≡ None
  pub aligned : f.start % 16 ≡ 0
  pub above : 16 < f.size
  pub code : f.code ≡ 1
  pub text : is_plt_text (without_nops f.own) ≡ true
  pub initial : OfStack (initial_content f)

pub plt_form : (f : Function) → is_plt f ≡ true → PltForm f
unfolding is_plt
plt_form f e =
    let seven = both (is_amd64 f.arch && is_none (reason_of f.arch (facts_of f)) && eqb (f.start % 16) 0 && nat_lt 16 f.size && eqb f.code 1 && is_plt_text (without_nops f.own)) (counts_from_stack (initial_content f)) e in
    let six = both (is_amd64 f.arch && is_none (reason_of f.arch (facts_of f)) && eqb (f.start % 16) 0 && nat_lt 16 f.size && eqb f.code 1) (is_plt_text (without_nops f.own)) seven.0 in
    let five = both (is_amd64 f.arch && is_none (reason_of f.arch (facts_of f)) && eqb (f.start % 16) 0 && nat_lt 16 f.size) (eqb f.code 1) six.0 in
    let four = both (is_amd64 f.arch && is_none (reason_of f.arch (facts_of f)) && eqb (f.start % 16) 0) (nat_lt 16 f.size) five.0 in
    let three = both (is_amd64 f.arch && is_none (reason_of f.arch (facts_of f))) (eqb (f.start % 16) 0) four.0 in
    let two = both (is_amd64 f.arch) (is_none (reason_of f.arch (facts_of f))) three.0 in
    record {
      arch = is_amd64_means f.arch two.0;
      whole = is_none_means (reason_of f.arch (facts_of f)) two.1;
      aligned = eqb-true (f.start % 16) 0 three.1;
      above = ltb-true 16 f.size four.1;
      code = eqb-true f.code 1 five.1;
      text = six.1;
      initial = of_stack (initial_content f) seven.1;
    }

-- its size is in four bytes
size_by : (empty large column signal : Bool) → cond empty (Some EmptyRange) (cond large (Some SizeTooLarge) (cond column (cond signal (Some SignalFrame) None) (Some ReturnColumn))) ≡ None → large ≡ false
size_by true large column signal e = cc
size_by false true column signal e = cc
size_by false false column signal e = refl

pub size_small : (arch : Arch) (facts : FdeFacts) → reason_of arch facts ≡ None → facts.size < 2 ^ 32
size_small arch facts e =
    let is : nat_le (2 ^ 32) facts.size ≡ false = size_by (eqb facts.size 0) (nat_le (2 ^ 32) facts.size) (eqb facts.column (return_address arch)) facts.signal e in
    below (2 ^ 32) facts.size is
  where
    below : (a b : ℕ) → nat_le a b ≡ false → b < a
    below a b t = grind (arith, nat_tests)
