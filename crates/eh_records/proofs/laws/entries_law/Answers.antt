use Rattle.eh_records.specs.Records.{start}
use Rattle.eh_records.proofs.EntriesFail.{is_refused}
use Rattle.eh_records.proofs.EntriesRefused.{as_read, read_as}
use Rattle.eh_records.proofs.OfRecords.{of_records}
use Rattle.eh_records.proofs.RecordsStand.{split_read, one_split, read_split}
use Rattle.eh_records.proofs.laws.entries_law.Goals as goal

pub returns : goal.returns
returns c = record {
  records = λ ps. (split_read ps (start c.args.section.now), read_split ps (start c.args.section.now));
  one = λ ps qs. one_split ps qs (start c.args.section.now);
  exact = λ r. (read_as c.args.arch c.args.section.now r, as_read c.args.arch c.args.section.now r);
  named = λ e h. of_records c.args.arch c.args.section.now e (is_refused c.args.arch c.args.section.now e h);
}
