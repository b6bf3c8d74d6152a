use Rattle.std.proofs.Common.{◌≡◌, ◌++◌, ◌∷◌, [], ℕ, List, Option, ◌+◌, Ok, Err, sym, ap, ◌∙◌, subst, rules}
use Rattle.std.proofs.lemmas.Result.{err_from_is_err_and}
use Rattle.elf_read.specs.Input.{file}
use Rattle.elf_read.proofs.Each.{each_below-none, each_below-more, each_below-stop}
use Rattle.elf_place.specs.Cursor.{IsCursor}
use Rattle.elf_place.specs.Place.{address_of, overflow_check}
use Rattle.elf_place.proofs.Values.{values_below, values_below-none, values_below-more}
use Rattle.elf_place.proofs.Cursor.{is_cursor-start, is_cursor-next, address_from-is, overflow_from-is, fails}
use Rattle.elf_place.proofs.addresses.addresses_of.Goals as goal

pub loop-i-init : goal.loop-i-init
loop-i-init c =
    let f = file c.args.elf.now in (
      subst (λ (k : ℕ). IsCursor f c.args.dropped.now c.args.base 0 k) (sym c.from-cursor.ensures) (is_cursor-start f c.args.dropped.now c.args.base),
      search rules,
      c.new-addresses.ensures.items ∙ sym (values_below-none (address_of f c.args.dropped.now c.args.base)),
      each_below-none (overflow_check f c.args.dropped.now c.args.base),
    )

pub returns-in_err-spot-clause-exact : goal.returns-in_err-spot-clause-exact
returns-in_err-spot-clause-exact c =
    let f = file c.args.elf.now in
    let p = err_from_is_err_and c.from_residual.result c.from_residual.ensures.1 in
    let here : overflow_check f c.args.dropped.now c.args.base c.loop-i.i ≡ Err c.in_err-spot.field-0.0 =
    sym (overflow_from-is f c.args.dropped.now c.args.base c.loop-i.i c.loop-i.cursor c.loop-i.invariant.0) ∙ sym c.in_err-spot.ensures.exact in
    rw (p.1, p.2)
    (fails c.in_err-spot.field-0.0 _
    (each_below-stop c.args.count c.loop-i.i (overflow_check f c.args.dropped.now c.args.base) c.in_err-spot.field-0.0 c.loop-i-test.true c.loop-i.invariant.3 here))

pub loop-i-preserved : goal.loop-i-preserved
loop-i-preserved c =
    let f = file c.args.elf.now in
    let here : overflow_check f c.args.dropped.now c.args.base c.loop-i.i ≡ Ok tt =
    sym (overflow_from-is f c.args.dropped.now c.args.base c.loop-i.i c.loop-i.cursor c.loop-i.invariant.0) ∙ sym c.in_ok-spot.ensures.exact in
    let address : c.in_ok-spot.spot.address ≡ address_of f c.args.dropped.now c.args.base c.loop-i.i =
    c.in_ok-spot.ensures.address ∙ address_from-is f c.args.dropped.now c.args.base c.loop-i.i c.loop-i.cursor c.loop-i.invariant.0 in (
      subst (λ (k : ℕ). IsCursor f c.args.dropped.now c.args.base (c.loop-i.i + 1) k) (sym c.in_ok-spot.ensures.cursor)
          (is_cursor-next f c.args.dropped.now c.args.base c.loop-i.i c.loop-i.cursor c.loop-i.invariant.0),
      c.in_ok-spot.ensures.end,
      c.in_ok-push.ensures.items
          ∙ ap (λ (xs : List (Option ℕ)). xs ++ c.in_ok-spot.spot.address ∷ []) c.loop-i.invariant.2
          ∙ ap (λ (o : Option ℕ). values_below c.loop-i.i (address_of f c.args.dropped.now c.args.base) ++ o ∷ []) address
          ∙ sym (values_below-more c.loop-i.i (address_of f c.args.dropped.now c.args.base)),
      each_below-more c.loop-i.i (overflow_check f c.args.dropped.now c.args.base) c.loop-i.invariant.3 here,
    )
