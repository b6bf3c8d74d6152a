-- Relocation types (System V psABI for AMD64, "Relocation Types"; ELF for the Arm 64-bit Architecture,
-- "Relocation types"): what is written, and in which range it must lie.
use Rattle.std.specs.Prelude.{ℕ, ◌-◌, ◌%◌, ◌^◌, ◌==◌, Bool, true, ◌||◌, Option, Some, None, nat_lt, nat_le, if◌then◌else◌}
use Rattle.sf_model.specs.declared.machine.Arch.{Arch}
use Rattle.sf_model.specs.declared.machine.Arch.TheVariants.{Amd64, Aarch64}
use Rattle.elf_reloc.specs.declared.table.Effect.{Effect}
use Rattle.elf_reloc.specs.declared.table.Effect.TheVariants.{Nothing, Absolute, Relative}
use Rattle.elf_reloc.specs.declared.table.Range.{Range}
use Rattle.elf_reloc.specs.declared.table.Range.TheVariants.{Any, Unsigned, Signed, Either}

-- What a type of relocation does. AMD64: R_X86_64_NONE 0, R_X86_64_64 1, R_X86_64_PC32 2, R_X86_64_32 10, R_X86_64_32S 11, R_X86_64_PC64 24.
-- AArch64: R_AARCH64_NONE 0, R_AARCH64_ABS64 257, R_AARCH64_ABS32 258, R_AARCH64_PREL64 260, R_AARCH64_PREL32 261.
unfoldable pub effect_of : Arch → ℕ → Option Effect
effect_of Amd64 kind =
    if kind == 0 then Some Nothing
    else (if kind == 1 then Some (Absolute Any)
    else (if kind == 2 then Some (Relative Signed)
    else (if kind == 10 then Some (Absolute Unsigned)
    else (if kind == 11 then Some (Absolute Signed)
    else (if kind == 24 then Some (Relative Any) else None)))))
effect_of Aarch64 kind =
    if kind == 0 then Some Nothing
    else (if kind == 257 then Some (Absolute Any)
    else (if kind == 258 then Some (Absolute Either)
    else (if kind == 260 then Some (Relative Any)
    else (if kind == 261 then Some (Relative Signed) else None))))

-- how many bytes the field has
abbrev pub width_of : Range → ℕ
width_of Any = 8
width_of Unsigned = 4
width_of Signed = 4
width_of Either = 4

-- whether a value lies in a range: a number below 2^32, one from -2^31 to 2^31-1 as two's complement of 64 bits, or either
unfoldable pub fits : Range → ℕ → Bool
fits Any value = true
fits Unsigned value = nat_lt value (2 ^ 32)
fits Signed value = nat_lt value (2 ^ 31) || nat_le (2 ^ 64 - 2 ^ 31) value
fits Either value = nat_lt value (2 ^ 32) || nat_le (2 ^ 64 - 2 ^ 31) value

-- the low bits that the field holds
unfoldable pub low_bits : Range → ℕ → ℕ
low_bits Any value = value
low_bits Unsigned value = value % 2 ^ 32
low_bits Signed value = value % 2 ^ 32
low_bits Either value = value % 2 ^ 32
