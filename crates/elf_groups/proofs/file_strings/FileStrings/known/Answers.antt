use Rattle.elf_groups.proofs.NumberedText.{none_known}
use Rattle.elf_groups.proofs.file_strings.FileStrings.known.Goals as goal

pub returns-in_default-clause-known : goal.returns-in_default-clause-known
returns-in_default-clause-known c = λ file blocks known. none_known file blocks c.args.end

pub returns-in_default-2-clause-known : goal.returns-in_default-2-clause-known
returns-in_default-2-clause-known c = λ file blocks known. none_known file blocks c.args.end

pub returns-in_default-3-clause-known : goal.returns-in_default-3-clause-known
returns-in_default-3-clause-known c = λ file blocks known. none_known file blocks c.args.end

pub returns-in_default-4-clause-known : goal.returns-in_default-4-clause-known
returns-in_default-4-clause-known c = λ file blocks known. none_known file blocks c.args.end
