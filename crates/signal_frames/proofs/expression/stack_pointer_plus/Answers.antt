use Rattle.std.proofs.Common.{◌≡◌, ◌+◌, length, w64, FitsSigned, Ok, Err, refl, ap}
use Rattle.std.proofs.lemmas.Int.{to_z-of_z}
use Rattle.sf_bytes.specs.Cursor.{Cursor, cursor}
use Rattle.signal_frames.proofs.Expressions.{constant_stands}
use Rattle.signal_frames.proofs.expression.stack_pointer_plus.Goals as goal

pub returns-in-Ok-clause-only : goal.returns-in-Ok-clause-only
returns-in-Ok-clause-only c = λ constant rest h.
    let at = cursor c.new-part.result in
    let after : Cursor = record { place = at.place + length h.run; left = rest } in
    let got = c.in-Ok.ensures.only constant after (constant_stands c.args.expression.now c.in_ok-opcode.operand.now c.in_ok-opcode.opcode.now at constant rest c.in_ok-opcode.ensures.cases.0 c.new-part.ensures.bytes h) in
    let read : Ok c.in-Ok.constant ≡ Ok constant = got.0 in
    let same : c.in-Ok.constant ≡ constant = cc in
    let fits : FitsSigned w64 constant = h.is_constant.fits in
    (rw same (simp to_z-of_z refl), ap (λ (x : Cursor). x.left) got.1)

pub returns-in-Err-clause-only : goal.returns-in-Err-clause-only
returns-in-Err-clause-only c = λ constant rest h.
    let at = cursor c.new-part.result in
    let after : Cursor = record { place = at.place + length h.run; left = rest } in
    let got = c.in-Err.ensures.only constant after (constant_stands c.args.expression.now c.in_ok-opcode.operand.now c.in_ok-opcode.opcode.now at constant rest c.in_ok-opcode.ensures.cases.0 c.new-part.ensures.bytes h) in
    let no : Err c.in-Err.field-0 ≡ Ok constant = got.0 in cc
