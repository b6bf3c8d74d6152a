use Rattle.elf_reloc.proofs.Checked.{reads_hold, reads_drop, reads_unknown, reads_written, reads_free}
use Rattle.elf_reloc.proofs.laws.fields_hold_what_is_patched.Goals as goal

pub returns-clause-checked : goal.returns-clause-checked
returns-clause-checked c = λ p section fixes fields reads apart raw checked. reads_hold p section fixes fields reads apart raw checked

pub returns-clause-dropped : goal.returns-clause-dropped
returns-clause-dropped c = λ p section fixes fields reads apart checked. reads_drop p section fixes fields reads apart checked

pub returns-clause-unknown : goal.returns-clause-unknown
returns-clause-unknown c = λ p section fixes g reads dropped. reads_unknown p section fixes g reads dropped

pub returns-clause-written : goal.returns-clause-written
returns-clause-written c = λ p section fixes place f bits reads found known. reads_written p section fixes place f bits reads found known

pub returns-clause-free : goal.returns-clause-free
returns-clause-free c = λ p section fixes place width reads free. reads_free p section fixes place width reads free
