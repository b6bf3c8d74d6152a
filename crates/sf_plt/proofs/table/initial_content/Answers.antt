use Rattle.std.proofs.Common.{◌∙◌}
use Rattle.sf_bytes.specs.Cursor.{cursor}
use Rattle.cfa_insn.specs.Listing.{listing}
use Rattle.sf_plt.specs.Plt.{initial_content}
use Rattle.sf_plt.proofs.Initial.{initial_said}
use Rattle.sf_plt.proofs.table.initial_content.Goals as goal

pub returns : goal.returns
unfolding initial_content
returns c =
    let description = c.args.description.now in
    c.ok.ensures.value
    ∙ initial_said description.arch description.code description.factor (listing (cursor description.initial)) description.row c.content_at.result description.given (c.content_at.ensures.exact 0)
