use Rattle.std.proofs.Common.{◌<◌, length, refl}
use Rattle.sf_model.specs.declared.function.Func.{Func}
use Rattle.sf_asm.proofs.RowAt.{some_of}
use Rattle.sf_verify.specs.Asking.{contents_of}
use Rattle.sf_verify.proofs.HolderContent.{kept_alike}
use Rattle.sf_verify.proofs.dwarf_cursor.DwarfCursor.keeps.Goals as goal

pub returns-clause-kept : goal.returns-clause-kept
returns-clause-kept c = λ yes pc from to.
    let kept = c.args.self.now.kept in
    let place = c.pass_kept-self.result in
    let low : place < length kept = c.if-not-has_head.ensures.within refl in
    let d : Func = some_of kept place low in
    kept_alike c.args.self.now.arch (contents_of c.args.self.now) kept c.args.self.now.omitted.now.functions place d c.args.head.now c.args.rows.now c.requires.holders low (c.if-not-has_head.ensures.is d refl) (c.are_spelled.ensures d yes) pc from to
