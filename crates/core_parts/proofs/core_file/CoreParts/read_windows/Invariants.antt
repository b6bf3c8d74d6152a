use Rattle.std.proofs.Common.{◌≡◌, ◌+◌, IsTrue}
use Rattle.std.specs.Option.{IfSome}
use Rattle.core_parts.specs.Loaded.{parts_count}
use Rattle.core_parts.specs.Whole.{IsWholeOf}
use Rattle.core_parts.proofs.core_file.CoreParts.read_windows.Given as goal

-- the same file is open, and the parts that were read are of it
abbrev pub invariant-loop-window : goal.invariant-loop-window
invariant-loop-window g l =
    let files = g.F.Files in
    record {
      whole : IfSome ((files.seen l.fn.files).contents) (λ _. IsWholeOf l.self.file (files.whole l.fn.files));
      counted : parts_count l.self.file.parts.items + l.left ≡ parts_count l.fn.self.file.parts.items + l.fn.left;
      len : l.self.file.len ≡ l.fn.self.file.len;
      same_file : files.whole l.files ≡ files.whole l.fn.files;
      opened : IsTrue (files.opened l.files);
      opened_name : files.opened_name l.files ≡ files.opened_name l.fn.files;
      same : files.seen l.files ≡ files.seen l.fn.files;
      may_open : files.may_open l.files ≡ files.may_open l.fn.files;
      may_create : files.may_create l.files ≡ files.may_create l.fn.files;
    }
