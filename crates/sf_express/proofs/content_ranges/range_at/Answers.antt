use Rattle.std.proofs.Common.{◌≡◌, ◌+◌, ◌-◌, get_or, None, Some, sym, ◌∙◌, arith}
use Rattle.sf_express.specs.declared.content_ranges.ContentRange.{ContentRange}
use Rattle.sf_express.specs.ContentRanges.{content_by}
use Rattle.sf_express.proofs.RangesOfRows.{next_after, next_differs, said_at_place}
use Rattle.sf_express.proofs.content_ranges.range_at.Goals as goal
use Rattle.sf_express.proofs.content_ranges.range_at.Goals.{then-place-ranges, else-place-ranges}

pub returns-clause-says : goal.returns-clause-says
returns-clause-says c =
    let ranges = c.args.ranges.now in
    let place = c.last_begun-place.result in
    let d : ContentRange = record { start = 0; content = None } in
    let begun = c.last_begun-place.ensures.begun d in
    λ o low high. said_at_place o 0 place None ranges d c.requires.ranges.rise c.last_begun-place.ensures.within (omega (arith, begun, low))
    (λ more. elim c.if-place-ranges.branch [
      | then-place-ranges w ↦
          let next = next_after ranges place d c.requires.ranges.rise more in
          omega (arith, high, w.end-is, next)
      | else-place-ranges w ↦ absurd (omega (arith, more, w.if-place-ranges.false))
    ])

pub returns-clause-after : goal.returns-clause-after
returns-clause-after c =
    let ranges = c.args.ranges.now in
    let place = c.last_begun-place.result in
    let d : ContentRange = record { start = 0; content = None } in
    λ differ below same. elim c.if-place-ranges.branch [
      | then-place-ranges w ↦
          let rise = c.requires.ranges.rise in
          let next = next_after ranges place d rise w.if-place-ranges.true in
          let begins : c.if-place-ranges.end - 1 + 1 ≡ (get_or ranges (place + 1) d).start = omega (arith, w.end-is, next) in
          let there : content_by (c.if-place-ranges.end - 1 + 1) None ranges ≡ Some (get_or ranges (place + 1) d).content =
          said_at_place (c.if-place-ranges.end - 1 + 1) 0 (place + 1) None ranges d rise w.if-place-ranges.true (omega (arith, begins)) (λ more. let later = next_after ranges (place + 1) d rise more in omega (arith, later, begins)) in
          let both : Some (get_or ranges place d).content ≡ Some (get_or ranges (place + 1) d).content = sym same ∙ there in
          let is : (get_or ranges place d).content ≡ (get_or ranges (place + 1) d).content = cc in
          next_differs None ranges place d differ w.if-place-ranges.true is
      | else-place-ranges w ↦ let whole = c.requires.below in omega (arith, below, w.end-is, whole)
    ]
