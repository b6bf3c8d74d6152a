use Rattle.sf_model.specs.Content.{OffsetsInRange}
use Rattle.sf_model.proofs.Recoveries.{same_contents}
use Rattle.sf_model.proofs.laws.equal_recoveries_mean_equal_contents.Goals as goal

pub returns-clause-content : goal.returns-clause-content
returns-clause-content c =
    let first : OffsetsInRange c.args.first = record { frame_address = c.frame_offset_in_range.ensures; return_address = c.return_in_range.ensures; frame_pointer = c.pointer_in_range.ensures } in
    let second : OffsetsInRange c.args.second = record { frame_address = c.frame_offset_in_range-2.ensures; return_address = c.return_in_range-2.ensures; frame_pointer = c.pointer_in_range-2.ensures } in
    (same_contents c.args.arch c.args.first c.args.second c.args.first_key c.args.second_key first second c.requires.first_fits c.requires.second_fits c.requires.alike).0

pub returns-clause-key : goal.returns-clause-key
returns-clause-key c =
    let first : OffsetsInRange c.args.first = record { frame_address = c.frame_offset_in_range.ensures; return_address = c.return_in_range.ensures; frame_pointer = c.pointer_in_range.ensures } in
    let second : OffsetsInRange c.args.second = record { frame_address = c.frame_offset_in_range-2.ensures; return_address = c.return_in_range-2.ensures; frame_pointer = c.pointer_in_range-2.ensures } in
    (same_contents c.args.arch c.args.first c.args.second c.args.first_key c.args.second_key first second c.requires.first_fits c.requires.second_fits c.requires.alike).1
