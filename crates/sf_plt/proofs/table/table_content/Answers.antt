use Rattle.std.proofs.Common.{ap, sym, ◌∙◌}
use Rattle.frame_functions.specs.Descriptions.{described_function}
use Rattle.sf_plt.specs.Plt.{counts_from_stack}
use Rattle.sf_plt.proofs.Initial.{from_frame, from_stack, is_table, no_form, no_stack, no_text, taken}
use Rattle.sf_plt.proofs.table.table_content.Goals as goal
use Rattle.sf_plt.proofs.table.table_content.Goals.{then-not-has_form-via-then-not-has_form, then-not-has_form-via-else-not-has_form+then-not-is_plt_text}

pub returns-then-not-has_form : goal.returns-then-not-has_form
returns-then-not-has_form c = elim c.then-not-has_form.branch [
  | then-not-has_form-via-then-not-has_form w ↦ no_form (described_function c.args.description.now) (sym c.has_form.ensures ∙ w.if-not-has_form.true)
  | then-not-has_form-via-else-not-has_form+then-not-is_plt_text w ↦ no_text (described_function c.args.description.now) (sym w.is_plt_text.ensures ∙ w.if-not-is_plt_text.true)
]

pub returns-in-Sp : goal.returns-in-Sp
returns-in-Sp c =
    let f = described_function c.args.description.now in
    let given = sym c.in_ok-content.was ∙ c.initial_content.ensures in
    given ∙ taken f (is_table f (sym c.has_form.ensures ∙ c.if-not-has_form.false) (sym c.is_plt_text.ensures ∙ c.if-not-is_plt_text.false) (ap counts_from_stack (sym given) ∙ from_stack c.in_ok-content.content c.in-Sp.is))

pub returns-in-Fp : goal.returns-in-Fp
returns-in-Fp c =
    let f = described_function c.args.description.now in
    let given = sym c.in_ok-content.was ∙ c.initial_content.ensures in
    no_stack f (ap counts_from_stack (sym given) ∙ from_frame c.in_ok-content.content c.in-Fp.is)
