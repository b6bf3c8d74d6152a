use Rattle.std.proofs.Common.{◌≡◌, ℕ, List, [], ◌∷◌, length, None, ap, sym, subst, ◌∙◌, arith}
use Rattle.sf_model.specs.declared.form.Form.TheVariants.{Elf}
use Rattle.sf_asm.specs.Answers.{IsFirstLinked, IsLinked}
use Rattle.sf_text.specs.Summary.{summary_text}
use Rattle.section_commands.specs.declared.made.Outcome.TheVariants.{Done}
use Rattle.section_commands.specs.Coming.{Makes}
use Rattle.sf_run.specs.Object.{GenComes, made_object, summary_alone}
use Rattle.sf_run.proofs.LinkedComes.{linked_comes, unlinked_comes}
use Rattle.sf_run.proofs.object.Gen.make.Goals as goal

pub object-requires : goal.object-requires
object-requires c = c.requires.1.within.most

pub returns-in-Ok : goal.returns-in-Ok
returns-in-Ok c =
    let n = c.args.self.now.functions in
    let kept = c.in-Ok.linked.kept in
    let omitted = c.in-Ok.linked.omitted.items in
    let section = c.in-Ok.linked.section.items in
    let linked = subst (λ (b : List ℕ). IsLinked None (record { form = Elf; bytes = b; base = 0x400000 } ∷ []) 0x4000000 section kept omitted)
    (c.deref.ensures.value ∙ c.in_ok-bytes.ensures.bytes) c.in-Ok.ensures.linked in
    let count : c.len.result ≡ length omitted = omega (arith, c.len.ensures, c.in-Ok.linked.omitted.ok.0) in
    let text : c.in_ok-text-in-Ok.text.items ≡ summary_text n kept (length omitted) section =
    c.in_ok-text-in-Ok.ensures ∙ ap (λ (m : ℕ). summary_text n kept m c.deref-in-Ok.result.now) count
    ∙ ap (summary_text n kept (length omitted)) c.deref-in-Ok.ensures.value in
    subst (λ (t : List ℕ). GenComes n (Makes Done None t)) (sym text)
    (linked_comes None (made_object n ∷ []) 0x4000000 (summary_alone n) section kept omitted linked c.in-Ok.ensures.are_bytes)

pub returns : goal.returns
returns c =
    let n = c.args.self.now.functions in
    let first = subst (λ (b : List ℕ). IsFirstLinked None (record { form = Elf; bytes = b; base = 0x400000 } ∷ []) 0x4000000 c.in-Err.fault) (c.deref.ensures.value ∙ c.in_ok-bytes.ensures.bytes) c.in-Err.ensures.fault in
    unlinked_comes None (made_object n ∷ []) 0x4000000 (summary_alone n) c.in-Err.fault c.unlinked.result first c.unlinked.ensures.memory c.unlinked.ensures.is
