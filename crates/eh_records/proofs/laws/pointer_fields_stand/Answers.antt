use Rattle.eh_records.proofs.Rising.{fields_raw, fields_apart}
use Rattle.eh_records.proofs.laws.pointer_fields_stand.Goals as goal

pub returns : goal.returns
returns c = record {
  raw = fields_raw c.args.arch c.args.section.now;
  apart = fields_apart c.args.arch c.args.section.now;
}
