-- What `procwalk` comes to: one thing.
use Rattle.std.specs.List.{zip}
use Rattle.std.proofs.Common.{[], drop, get_or}
use Rattle.core_notes.specs.Checks.{core_check}
use Rattle.section_commands.specs.Procwalk.{IsProcwalk, ProcwalkComes, ProcwalkWords, procwalk_files}
use Rattle.section_commands.proofs.ComesToOne.{ComesToOne}
use Rattle.section_commands.proofs.OneProcwalk.{one_procwalk}
use Rattle.section_commands.proofs.SomeProcwalk.{files_have_bytes, later_bytes, some_procwalk}

pub procwalk_comes_to_one : (procwalk : ProcwalkWords) → ComesToOne (λ words. IsProcwalk words procwalk) (procwalk_files procwalk) (λ items coming. ProcwalkComes procwalk items coming)
procwalk_comes_to_one procwalk = record {
  one = λ asked items count c d p q. one_procwalk (get_or items 0 []) procwalk.depth (zip procwalk.files (drop 1 items)) (core_check (get_or items 0 [])) c d p q;
  some = λ asked items count bytes.
      some_procwalk (get_or items 0 []) procwalk.depth (zip procwalk.files (drop 1 items)) (files_have_bytes procwalk.files (drop 1 items) (later_bytes items bytes)) (core_check (get_or items 0 []));
}
