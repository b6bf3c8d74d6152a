use Rattle.std.proofs.Common.{subst}
use Rattle.sf_model.specs.declared.machine.Arch.{Arch}
use Rattle.sf_verify.specs.Asking.{Knows, contents_of}
use Rattle.frame_functions.specs.ContentAt.{Answers}
use Rattle.sf_verify.proofs.dwarf_cursor.DwarfCursor.ask.Goals as goal

pub returns-clause-known : goal.returns-clause-known
returns-clause-known c =
    let same = c.in_ok-find.ensures.same in
    let known = c.known.ensures c.find.new.self.arch (contents_of c.find.new.self) c.in_ok-find.ensures.ready.held in
    subst (λ (a : Arch). Knows a (contents_of c.args.self.now) c.args.pc c.known.result) same.arch
    (subst (λ (q : Answers). Knows c.find.new.self.arch q c.args.pc c.known.result) same.says known)
