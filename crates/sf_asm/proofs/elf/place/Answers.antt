use Rattle.std.proofs.Common.{◌∙◌}
use Rattle.sf_asm.proofs.Files.{is_placing}
use Rattle.sf_asm.proofs.elf.place.Goals as goal

pub returns-in-Ok-clause-placed : goal.returns-in-Ok-clause-placed
returns-in-Ok-clause-placed c = λ signatures h.
    let dropped = c.deref.ensures.value ∙ c.in_ok-dropped.ensures.dropped signatures h in
    is_placing signatures _ _ _ _ dropped c.in-Ok.ensures.file c.in-Ok.ensures.shift c.in-Ok.ensures.dropped c.in-Ok.ensures.addresses c.in-Ok.ensures.eh_frames
