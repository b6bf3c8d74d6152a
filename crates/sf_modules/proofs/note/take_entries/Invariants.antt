use Rattle.std.specs.Prelude.{is_some, map, Ok}
use Rattle.std.proofs.Common.{◌≡◌, ◌-◌, true}
use Rattle.sf_bytes.specs.Cursor.{cursor}
use Rattle.elf_read.specs.Checking.{each_below}
use Rattle.sf_modules.specs.Entry.{mapping_view}
use Rattle.sf_modules.specs.Note.{file_entry_check}
use Rattle.sf_modules.specs.TextsRead.{texts_in}
use Rattle.sf_modules.proofs.Texts.{all_entries, with_left}
use Rattle.sf_modules.proofs.note.take_entries.Given as goal

abbrev pub invariant-loop-k : goal.invariant-loop-k
invariant-loop-k l = record {
  left : is_some (texts_in (l.header.count - l.k) l.rest) ≡ true;
  passed : each_below l.k (file_entry_check (cursor l.note)) ≡ Ok tt;
  so_far : with_left l.note.bytes.now (map mapping_view l.entries.items) l.k (texts_in (l.header.count - l.k) l.rest) ≡ all_entries l.note.bytes.now;
}
