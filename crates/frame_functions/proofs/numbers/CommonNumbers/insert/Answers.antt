use Rattle.std.specs.Option.{option_map}
use Rattle.eh_records.specs.Named.{standing_cie}
use Rattle.frame_functions.specs.Numbers.{IsNumberOf}
use Rattle.frame_functions.specs.Descriptions.{common_of}
use Rattle.frame_functions.proofs.CommonParts.{with_number}
use Rattle.frame_functions.proofs.numbers.CommonNumbers.insert.Goals as goal

pub returns : goal.returns
returns c = λ arch section commons are own.
    with_number (λ place n. IsNumberOf commons (option_map (common_of arch) (standing_cie arch section place)) n) c.args.place c.args.number c.args.self.now.by_place c.insert.new.self are c.in_ok-insert.ensures.updates own
