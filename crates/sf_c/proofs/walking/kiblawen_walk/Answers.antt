use Rattle.std.proofs.Common.{length, ap, ◌∙◌}
use Rattle.sf_model.specs.Walk.{Listing}
use Rattle.sf_c.specs.Walk.{frames_listed, stop_shown}
use Rattle.sf_c.proofs.Empty.{section_walked}
use Rattle.sf_c.proofs.walking.kiblawen_walk.Goals as goal

pub returns-clause-frames : goal.returns-clause-frames
returns-clause-frames c =
    c.walk_into.ensures.frames
    ∙ ap (λ (l : Listing). frames_listed l.frames c.args.frames.now) (section_walked c.args.section.now c.args.sample.now (length c.args.frames.now))

pub returns-clause-count : goal.returns-clause-count
returns-clause-count c =
    c.walk_into.ensures.count ∙ ap (λ (l : Listing). length l.frames) (section_walked c.args.section.now c.args.sample.now (length c.args.frames.now))

pub returns-clause-stop : goal.returns-clause-stop
returns-clause-stop c =
    c.walk_into.ensures.stop ∙ ap (λ (l : Listing). stop_shown l.stop) (section_walked c.args.section.now c.args.sample.now (length c.args.frames.now))
