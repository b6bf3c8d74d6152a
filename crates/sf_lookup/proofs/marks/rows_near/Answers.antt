use Rattle.std.proofs.Common.{◌-◌, ◌<◌, Some, None, length, refl, ap, ◌∙◌, arith}
use Rattle.std.proofs.lemmas.List.{length-map}
use Rattle.sf_decode.specs.View.{rows_left}
use Rattle.sf_lookup.specs.declared.marks.Mark.{Mark}
use Rattle.sf_lookup.specs.Mark.{start_seen}
use Rattle.sf_lookup.proofs.Nearing.{from_first, mark_near, near_cost, never_fall_seen}
use Rattle.sf_lookup.proofs.marks.rows_near.Goals as goal
use Rattle.sf_lookup.proofs.marks.rows_near.Goals.{in-Some+else-mark-i, in_default}

pub last_start-requires : goal.last_start-requires
last_start-requires g c = never_fall_seen c.args.view.now c.args.i c.args.marks.now c.requires.marks c.function_is_sound.ensures.rise

pub returns-then-mark-i : goal.returns-then-mark-i
returns-then-mark-i g c =
    let near =
    mark_near c.args.view.now c.args.marks.now c.args.i c.args.offset (c.last_start.new.steps - c.args.steps.now) c.in-Some.last c.index-marks-last.result c.requires.marks c.requires.within c.function_is_sound.ensures.rise
    c.requires.below c.in-Some.ensures.last c.index-marks-last.is c.if-mark-i.true c.last_start.ensures.cost in
    record { same = near.serves.same; rise = near.serves.rise; counted = c.last_start.ensures.counted; cost = near.cost }

pub returns-clause-cost : goal.returns-clause-cost
returns-clause-cost g c =
    let view = c.args.view.now in
    let marks = c.args.marks.now in
    let steps = c.last_start.new.steps - c.args.steps.now in
    elim c.match-last_start.branch [
      | in-Some+else-mark-i w ↦
          let m = w.index-marks-last.result in
          let within : w.in-Some.last < length marks = omega (w.in-Some.ensures.last.0, length-map marks (start_seen c.args.i), arith) in
          near_cost view c.args.i c.args.offset 0 steps marks (Some w.in-Some.last) (rows_left c.rows.result) c.requires.marks c.requires.within (omega (c.requires.below, arith)) (omega arith) w.in-Some.ensures.last
          (from_first marks c.args.i w.in-Some.last m within (λ e. w.if-mark-i.false (ap (λ (x : Mark). x.function) w.index-marks-last.is ∙ e))) c.rows.ensures c.last_start.ensures.cost
      | in_default w ↦
          near_cost view c.args.i c.args.offset 0 steps marks None (rows_left c.rows.result) c.requires.marks c.requires.within (omega (c.requires.below, arith)) (omega arith) w.in_default.ensures.last refl c.rows.ensures
          c.last_start.ensures.cost
    ]
