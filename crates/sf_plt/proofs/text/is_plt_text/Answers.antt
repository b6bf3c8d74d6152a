use Rattle.std.proofs.Common.{sym, ◌∙◌}
use Rattle.sf_bytes.specs.Cursor.{cursor}
use Rattle.cfa_insn.specs.Listing.{listing}
use Rattle.sf_plt.specs.Plt.{without_nops}
use Rattle.sf_plt.proofs.TextFollows.{text_follows}
use Rattle.sf_plt.proofs.text.is_plt_text.Goals as goal

pub returns : goal.returns
returns c = c.follows.ensures ∙ sym (text_follows (without_nops (listing (cursor c.args.own))))
