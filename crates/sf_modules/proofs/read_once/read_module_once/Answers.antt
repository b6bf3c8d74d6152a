use Rattle.std.specs.Prelude.{bytes_eq, ◌&&◌}
use Rattle.std.proofs.Common.{◌≡◌, ℕ, List, true, Ok, sym, subst}
use Rattle.std.proofs.lemmas.Slice.Eq.{bytes_eq-Decides}
use Rattle.elf_mapped.specs.Program.{all_bytes}
use Rattle.sf_modules.specs.declared.read_once.ReadFile.{ReadFile}
use Rattle.sf_modules.specs.Module.{IsModule, module_view}
use Rattle.sf_modules.specs.Process.{ProcessView, process_view}
use Rattle.sf_modules.specs.Reading.{module_check}
use Rattle.sf_modules.specs.ReadFile.{IsRead}
use Rattle.sf_modules.proofs.Lines.{both}
use Rattle.sf_modules.proofs.read_once.read_module_once.Goals as goal

-- what was read of a word and bytes is so of the same word and bytes
record IsReadOf (p : ProcessView) (word bytes : List ℕ) (file : ReadFile) : Type 0 where
  fine : module_check p word bytes ≡ Ok tt
  is : IsModule p word bytes (module_view file.module)

read_of_same : (p : ProcessView) (word bytes : List ℕ) (file : ReadFile) → IsRead p file → (bytes_eq file.word.now word && bytes_eq (all_bytes file.bytes) bytes) ≡ true → IsReadOf p word bytes file
read_of_same p word bytes file read same =
    let tests = both (bytes_eq file.word.now word) (bytes_eq (all_bytes file.bytes) bytes) same in
    let own : IsReadOf p file.word.now (all_bytes file.bytes) file = record { fine = read.fine; is = read.is } in
    let named : IsReadOf p word (all_bytes file.bytes) file = subst (λ (w : List ℕ). IsReadOf p w (all_bytes file.bytes) file) ((bytes_eq-Decides file.word.now word).0 tests.0) own in
    subst (λ (b : List ℕ). IsReadOf p word b file) ((bytes_eq-Decides (all_bytes file.bytes) bytes).0 tests.1) named

pub returns-then-is_same-clause-sound : goal.returns-then-is_same-clause-sound
returns-then-is_same-clause-sound c =
    let p = process_view c.args.process.now in
    let file = c.file-item.result in
    let read : IsRead p file = subst (λ (f : ReadFile). IsRead p f) (sym c.file-item.is) (c.requires.before c.loop-file.file-index file c.loop-file-test.true) in
    (read_of_same p c.args.word.now (all_bytes c.args.bytes) file read (c.is_same.ensures c.if-is_same.true)).is

pub returns-then-is_same-clause-exact : goal.returns-then-is_same-clause-exact
returns-then-is_same-clause-exact c =
    let p = process_view c.args.process.now in
    let file = c.file-item.result in
    let read : IsRead p file = subst (λ (f : ReadFile). IsRead p f) (sym c.file-item.is) (c.requires.before c.loop-file.file-index file c.loop-file-test.true) in
    (read_of_same p c.args.word.now (all_bytes c.args.bytes) file read (c.is_same.ensures c.if-is_same.true)).fine
