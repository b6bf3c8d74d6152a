-- What `procbacktrace` comes to: one thing.
use Rattle.std.specs.List.{zip}
use Rattle.std.proofs.Common.{[], drop, get_or}
use Rattle.core_notes.specs.Checks.{core_check}
use Rattle.section_commands.specs.Procwalk.{ProcwalkWords, procwalk_files}
use Rattle.section_commands.proofs.ComesToOne.{ComesToOne}
use Rattle.section_commands.proofs.Processes.{one_process, some_process}
use Rattle.sf_run.specs.Procbacktrace.{IsProcbacktrace, ProcbacktraceComes, ProcbacktraceComesIn}
use Rattle.sf_run.proofs.OneProcbacktrace.{one_in_process}
use Rattle.sf_run.proofs.SomeProcbacktrace.{some_in_process}

pub procbacktrace_comes_to_one : (procbacktrace : ProcwalkWords) → ComesToOne (λ words. IsProcbacktrace words procbacktrace) (procwalk_files procbacktrace) (λ items coming. ProcbacktraceComes procbacktrace items coming)
procbacktrace_comes_to_one procbacktrace = record {
  one = λ asked items count c d p q.
      let files = zip procbacktrace.files (drop 1 items) in
      one_process (get_or items 0 []) (ProcbacktraceComesIn procbacktrace.depth files) (one_in_process procbacktrace.depth files) (core_check (get_or items 0 [])) c d p q;
  some = λ asked items count bytes.
      let files = zip procbacktrace.files (drop 1 items) in
      some_process (get_or items 0 []) (ProcbacktraceComesIn procbacktrace.depth files) (some_in_process procbacktrace.depth files) (core_check (get_or items 0 []));
}
