-- What no functions recover, and the walk by one section.
use Rattle.std.proofs.Common.{◌≡◌, ℕ, List, [], None, refl, sym, ap}
use Rattle.sf_model.specs.declared.recovery.Regs.{Regs}
use Rattle.sf_model.specs.declared.function.Func.{Func}
use Rattle.sf_model.specs.Lookup.{found_at}
use Rattle.sf_model.specs.Memory.{Region}
use Rattle.sf_model.specs.Walk.{recover_by_rows, section_walk}
use Rattle.sf_decode.specs.declared.kept.LentSection.{LentSection}
use Rattle.sf_decode.specs.Kept.{functions_lent}
use Rattle.sf_c.specs.declared.sample.KiblawenSample.{KiblawenSample}
use Rattle.sf_c.specs.Sample.{stack_memory, sample_thread}
use Rattle.sf_c.specs.Section.{section_row}
use Rattle.sf_c.specs.Walk.{sample_walk}

pub nothing_recovered : (functions : List Func) (memory : List Region) (asked : ℕ) (regs : Regs) → [] ≡ functions → recover_by_rows functions memory asked regs ≡ None
unfolding recover_by_rows found_at
nothing_recovered functions memory asked regs e = ap (λ (fs : List Func). recover_by_rows fs memory asked regs) (sym e)

-- the walk by the rows of one section
pub section_walked : (section : LentSection) (sample : KiblawenSample) (room : ℕ)
    → sample_walk (section_row section) sample room ≡ section_walk (functions_lent section) (sample_thread sample) (stack_memory sample) room
unfolding section_walk
section_walked section sample room = refl
