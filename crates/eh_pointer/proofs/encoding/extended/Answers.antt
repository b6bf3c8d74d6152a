use Rattle.eh_pointer.proofs.Widths.{width-sdata2, width-sdata4}
use Rattle.eh_pointer.proofs.encoding.extended.Goals as goal

pub extended_16-requires : goal.extended_16-requires
extended_16-requires c = c.requires.fits 2 (width-sdata2 c.args.encoding c.in-10.is)

pub extended_32-requires : goal.extended_32-requires
extended_32-requires c = c.requires.fits 4 (width-sdata4 c.args.encoding c.in-11.is)
