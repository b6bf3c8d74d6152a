use Rattle.elf_mapped.proofs.part.take_linked.Goals as goal

pub returns-in_err-names-clause-rest : goal.returns-in_err-names-clause-rest
returns-in_err-names-clause-rest c = λ file are. c.take_at-3.ensures.rest file (c.take_at-2.ensures.rest file (c.take_at.ensures.rest file are))

pub returns-in_err-eh_frame-clause-rest : goal.returns-in_err-eh_frame-clause-rest
returns-in_err-eh_frame-clause-rest c = λ file are. c.take_at-4.ensures.rest file (c.take_at-3.ensures.rest file (c.take_at-2.ensures.rest file (c.take_at.ensures.rest file are)))

pub returns-clause-rest : goal.returns-clause-rest
returns-clause-rest c = λ file are. c.take_at-4.ensures.rest file (c.take_at-3.ensures.rest file (c.take_at-2.ensures.rest file (c.take_at.ensures.rest file are)))
