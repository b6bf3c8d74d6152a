use Rattle.std.proofs.Common.{◌≡◌, ◌≤◌, ◌^◌, Ok}
use Rattle.elf_read.specs.Checking.{each_below}
use Rattle.elf_read.specs.Input.{file}
use Rattle.elf_place.specs.Cursor.{IsCursor}
use Rattle.elf_place.specs.Place.{address_of, overflow_check}
use Rattle.elf_place.proofs.Values.{values_below}
use Rattle.elf_place.proofs.addresses.addresses_of.Given as goal

abbrev pub invariant-loop-i : goal.invariant-loop-i
invariant-loop-i l = IsCursor (file l.elf) l.dropped l.base l.i l.cursor
    × (l.cursor ≤ 2 ^ 64)
    × (l.addresses.items ≡ values_below l.i (address_of (file l.elf) l.dropped l.base))
    × (each_below l.i (overflow_check (file l.elf) l.dropped l.base) ≡ Ok tt)
