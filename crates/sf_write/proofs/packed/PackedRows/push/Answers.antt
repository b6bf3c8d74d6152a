use Rattle.std.proofs.Common.{◌≡◌, ◌+◌, refl, rules}
use Rattle.sf_write.proofs.RowsPacked.{one_more_packed}
use Rattle.sf_write.proofs.packed.PackedRows.push.Goals as goal

pub returns-clause-pushed : goal.returns-clause-pushed
returns-clause-pushed c =
    let count : c.in_ok-self.field-0 ≡ c.args.self.now.count + 1 = search rules in
    λ rows packed.
    one_more_packed c.args.self.now c.push_row.new.bytes.items (record { bytes = c.push_row.new.bytes; width = c.args.self.now.width; count = c.in_ok-self.field-0; last = c.args.row.start }) rows c.args.row packed c.requires c.in_ok-push_row.ensures.fits
    c.in_ok-push_row.ensures.ok refl refl count refl
