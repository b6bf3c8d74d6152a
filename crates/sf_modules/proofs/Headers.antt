-- Program headers that pass their check lie in the file.
use Rattle.std.specs.Prelude.{◌==◌}
use Rattle.std.proofs.Common.{◌≡◌, ℕ, ◌+◌, ◌*◌, Bool, List, length, Err, Ok, true, false, refl, arith}
use Rattle.std.proofs.lemmas.Bool.{leb-true}
use Rattle.elf_read.specs.declared.fault.ElfFault.{ElfFault}
use Rattle.elf_read.specs.declared.fault.ElfFault.TheVariants.{Short, NotElf, Class, Order, Version, Machine, Kind, EntrySize, Strings, OutOfFile, Compressed, SymbolIndex}
use Rattle.elf_read.specs.Checking.{unless}
use Rattle.elf_read.specs.Checks.{ElfCheck, program_headers_check}
use Rattle.elf_read.specs.Header.{header_fields}
use Rattle.elf_read.specs.Number.{lies_in}
use Rattle.elf_read.specs.Sections.{segment_total}
use Rattle.elf_read.proofs.Each.{both_fine}
use Rattle.core_notes.specs.TotalSize.{HeadersLie}
use Rattle.sf_modules.specs.Reading.{headers_part}

no_fault : (check : ElfCheck) → headers_part check ≡ Ok tt → check ≡ Ok tt
no_fault (Ok u) h = refl
no_fault (Err (Short p)) h = cc
no_fault (Err (NotElf p)) h = cc
no_fault (Err (Class p)) h = cc
no_fault (Err (Order p)) h = cc
no_fault (Err (Version p)) h = cc
no_fault (Err (Machine p)) h = cc
no_fault (Err (Kind p)) h = cc
no_fault (Err (EntrySize p)) h = cc
no_fault (Err (Strings p)) h = cc
no_fault (Err (OutOfFile p)) h = cc
no_fault (Err (Compressed p)) h = cc
no_fault (Err (SymbolIndex p)) h = cc

passes : (test : Bool) (e : ElfFault) → unless test e ≡ Ok tt → test ≡ true
passes true e h = refl
passes false e h = cc

lies : (file : List ℕ) → program_headers_check file ≡ Ok tt → lies_in (length file) (header_fields file).e_phoff (segment_total file) 56 ≡ true
unfolding program_headers_check
lies file h = passes _ (OutOfFile 32) (both_fine (unless ((header_fields file).e_phentsize == 56) (EntrySize 54)) (unless (lies_in (length file) (header_fields file).e_phoff (segment_total file) 56) (OutOfFile 32)) h).1

pub headers_lie : (file : List ℕ) (count : ℕ) → headers_part (program_headers_check file) ≡ Ok tt → count ≡ segment_total file → HeadersLie file count
headers_lie file count h is = λ i lt.
    let within = leb-true ((header_fields file).e_phoff + 56 * segment_total file) (length file) (lies file (no_fault (program_headers_check file) h)) in
    omega (within, is, lt, arith)
