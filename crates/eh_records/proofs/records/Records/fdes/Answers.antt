use Rattle.eh_records.specs.Section.{records_of}
use Rattle.eh_records.proofs.Faults.{read_again}
use Rattle.eh_records.proofs.Keys.{keys_fit}
use Rattle.eh_records.proofs.Named.{all_named}
use Rattle.eh_records.proofs.records.Records.fdes.Goals as goal

pub returns-clause-keys : goal.returns-clause-keys
returns-clause-keys c = keys_fit c.args.self.now.arch c.args.self.now.bytes.now (records_of c.args.self.now.bytes.now)

pub returns-clause-named : goal.returns-clause-named
returns-clause-named c = all_named c.args.self.now.arch c.args.self.now.bytes.now (records_of c.args.self.now.bytes.now)

pub returns-clause-whole : goal.returns-clause-whole
returns-clause-whole c = read_again c.args.self.now.arch c.args.self.now.bytes.now c.args.self.now.whole
