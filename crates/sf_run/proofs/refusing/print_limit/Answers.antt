use Rattle.std.proofs.Common.{sym, subst}
use Rattle.sf_words.specs.declared.refusal.Limit.{Limit}
use Rattle.sf_run.specs.Lines.{Says, limit_line}
use Rattle.sf_run.proofs.refusing.print_limit.Goals as goal

pub returns-in-Inputs : goal.returns-in-Inputs
returns-in-Inputs g c = subst (λ (limit : Limit). Says (g.E.Sink.seen c.args.err.now) (g.E.Sink.seen c.print_line.new.sink) (limit_line limit)) (sym c.in-Inputs.is) c.print_line.ensures

pub returns-in-Total : goal.returns-in-Total
returns-in-Total g c = subst (λ (limit : Limit). Says (g.E.Sink.seen c.args.err.now) (g.E.Sink.seen c.print_line-in-Total.new.sink) (limit_line limit)) (sym c.in-Total.is) c.print_line-in-Total.ensures

pub returns-in-Functions : goal.returns-in-Functions
returns-in-Functions g c = subst (λ (limit : Limit). Says (g.E.Sink.seen c.args.err.now) (g.E.Sink.seen c.print_line-in-Functions.new.sink) (limit_line limit)) (sym c.in-Functions.is) c.print_line-in-Functions.ensures

pub returns-in-Rows : goal.returns-in-Rows
returns-in-Rows g c = subst (λ (limit : Limit). Says (g.E.Sink.seen c.args.err.now) (g.E.Sink.seen c.print_line-in-Rows.new.sink) (limit_line limit)) (sym c.in-Rows.is) c.print_line-in-Rows.ensures

pub returns-in-Threads : goal.returns-in-Threads
returns-in-Threads g c = subst (λ (limit : Limit). Says (g.E.Sink.seen c.args.err.now) (g.E.Sink.seen c.print_line-in-Threads.new.sink) (limit_line limit)) (sym c.in-Threads.is) c.print_line-in-Threads.ensures
