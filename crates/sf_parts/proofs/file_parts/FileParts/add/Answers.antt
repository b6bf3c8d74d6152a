use Rattle.std.proofs.Common.{◌+◌, ◌≤◌, All, length, is_ok, rules}
use Rattle.sf_bytes.specs.declared.file_part.FilePart.{FilePart}
use Rattle.sf_parts.proofs.Images.{IsApart, either}
use Rattle.sf_parts.proofs.file_parts.FileParts.add.Goals as goal

pub invariant_of-self : goal.invariant_of-self
invariant_of-self c =
    let part : FilePart = record { place = c.args.place; bytes = c.args.bytes } in
    let apart : All (IsApart part) c.args.self.now.parts.items = search rules in
    let within : c.args.place + length c.args.bytes.items ≤ c.args.self.now.len = search rules in
    let imaged = either (is_ok c.push.result) c.args.self.now.len c.push.new.self.items c.args.self.now.parts.items part c.push.ensures.items c.args.self.now.sized within apart c.args.self.now.slices in
    record { sized = imaged.sized; slices = imaged.slices }
