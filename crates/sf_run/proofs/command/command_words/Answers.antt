use Rattle.sf_run.specs.Commands.{Link, LinkPlt, Merge, Slim, Upgrade, Dump, Lookup, Verify, Walk, Backtrace, Procwalk, Procbacktrace, Gen}
use Rattle.sf_run.proofs.command.command_words.Goals as goal

pub returns-in_err-object-clause-only : goal.returns-in_err-object-clause-only
returns-in_err-object-clause-only c (Link link) h = absurd (c.in_default.ensures.only link h)
returns-in_err-object-clause-only c (LinkPlt link) h = absurd (c.in_default-section_and_inputs.ensures.only link h)
returns-in_err-object-clause-only c (Merge merge) h = absurd (c.in_default-read.ensures.only merge h)
returns-in_err-object-clause-only c (Slim slim) h = absurd (c.in_default-read-2.ensures.only slim h)
returns-in_err-object-clause-only c (Upgrade upgrade) h = absurd (c.in_default-read-3.ensures.only upgrade h)
returns-in_err-object-clause-only c (Dump section) h = absurd (c.in_default-read-4.ensures.only section h)
returns-in_err-object-clause-only c (Lookup lookup) h = absurd (c.in_default-read-5.ensures.only lookup h)
returns-in_err-object-clause-only c (Verify verify) h = absurd (c.in_default-section_and_inputs-2.ensures.only verify h)
returns-in_err-object-clause-only c (Walk walk) h = absurd (c.in_default-read-6.ensures.only walk h)
returns-in_err-object-clause-only c (Backtrace backtrace) h = absurd (c.in_default-read-7.ensures.only backtrace h)
returns-in_err-object-clause-only c (Procwalk procwalk) h = absurd (c.in_default-read-8.ensures.only procwalk h)
returns-in_err-object-clause-only c (Procbacktrace procbacktrace) h = absurd (c.in_default-read-9.ensures.only procbacktrace h)
returns-in_err-object-clause-only c (Gen n) h = absurd (c.in_err-object.ensures.only n h)
