use Rattle.eh_records.proofs.Widths.{fits_format}
use Rattle.eh_records.proofs.fde.Fde.span.Goals as goal

pub size-len-requires : goal.size-len-requires
size-len-requires g c =
    let fits = rw c.in-Some-Some.is-1 at c.bits-2.ensures.fits in
    record { fits = λ x e. fits_format c.args.self.now.cie.encoding c.args.self.now.range.width x c.in-Some-Some.range c.args.self.now.range_usable e fits }
