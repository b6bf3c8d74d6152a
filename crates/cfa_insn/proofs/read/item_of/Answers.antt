use Rattle.std.proofs.Common.{◌≡◌, ◌<◌, length, [], Err, ◌∷◌, ◌∙◌, sym, ap, rules}
use Rattle.sf_bytes.specs.Cursor.{cursor}
use Rattle.cfa_insn.specs.Listing.{listing}
use Rattle.cfa_insn.proofs.Listings.{starts_with_instruction, starts_with_fault, nothing_left}
use Rattle.cfa_insn.proofs.read.item_of.Goals as goal

pub returns-in-Ok : goal.returns-in-Ok
returns-in-Ok c =
    let some : 0 < length c.args.part.bytes.now = search rules in
    starts_with_instruction c.args.part.place c.args.part.bytes.now _ _ some c.in-Ok.ensures

pub returns-in-Err : goal.returns-in-Err
returns-in-Err c =
    let some : 0 < length c.args.part.bytes.now = search rules in
    let none : listing (cursor c.new.result) ≡ [] = nothing_left c.new.result.place c.new.result.bytes.now (search rules) in
    starts_with_fault c.args.part.place c.args.part.bytes.now _ some c.in-Err.ensures ∙ ap (λ (items : _). Err c.in-Err.fault ∷ items) (sym none)
