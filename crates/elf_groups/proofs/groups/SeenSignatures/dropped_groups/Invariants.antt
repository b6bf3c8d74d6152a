use Rattle.std.proofs.Common.{◌≡◌, ℕ, List}
use Rattle.elf_read.specs.Input.{file}
use Rattle.elf_groups.specs.Groups.{dropped_below, seen_below}
use Rattle.elf_groups.specs.SeenSignatures.{HasSeen, HasTexts}
use Rattle.elf_groups.proofs.groups.SeenSignatures.dropped_groups.Given as goal

abbrev pub invariant-loop-i : goal.invariant-loop-i
invariant-loop-i l = record {
  dropped : (seen : List (List ℕ)) → HasSeen l.fn.self seen → l.dropped.items ≡ dropped_below seen (file l.elf) l.i;
  seen : (seen : List (List ℕ)) → HasSeen l.fn.self seen → HasSeen l.self (seen_below seen (file l.elf) l.i);
  texts : (seen : List (List ℕ)) → HasSeen l.fn.self seen → HasTexts (file l.elf) l.self.blocks l.texts;
}
