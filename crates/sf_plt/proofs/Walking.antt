-- Walks over what is written are walks by what is recovered with procedure linkage tables.
use Rattle.std.specs.Option.{option_and_then}
use Rattle.std.proofs.Common.{List, sym, ap, ◌∙◌}
use Rattle.sf_model.specs.declared.function.Func.{Func}
use Rattle.sf_model.specs.Walk.{recover_by_rows, section_walk, walk_by}
use Rattle.sf_asm.specs.Faithful.{if_whole}
use Rattle.frame_functions.specs.Functions.{Function}
use Rattle.sf_asm.proofs.Walking.{frames_alike, undone}
use Rattle.sf_plt.specs.Answers.{RecoversWithPlts, WalksWithPlts}
use Rattle.sf_plt.specs.Written.{recover_with_plts, walk_with_plts}

pub walks_with_plts : (written : List Func) (functions : List Function) → RecoversWithPlts written functions → WalksWithPlts written functions
unfolding section_walk walk_with_plts walk_by recover_by_rows
walks_with_plts written functions h thread memory depth =
    frames_alike (recover_by_rows written memory) (recover_with_plts functions memory)
    (λ asked regs. sym (undone (recover_by_rows written memory asked regs)) ∙ ap (option_and_then if_whole) (h asked regs memory))
    thread.mask depth thread.pc thread.pc thread.regs
