-- The DWARF numbers of the registers that a row keeps (System V AMD64 psABI, figure 3.36; DWARF for the Arm
-- 64-bit Architecture, section 4.1).
use Rattle.std.specs.Prelude.{ℕ, Bool, false, ◌==◌}
use Rattle.sf_model.specs.declared.machine.Arch.{Arch}
use Rattle.sf_model.specs.declared.machine.Arch.TheVariants.{Amd64, Aarch64}

-- rsp, or sp
abbrev pub stack_pointer : Arch → ℕ
stack_pointer Amd64 = 7
stack_pointer Aarch64 = 31

-- rbp, or x29
abbrev pub frame_pointer : Arch → ℕ
frame_pointer Amd64 = 6
frame_pointer Aarch64 = 29

-- the return address column 16, or x30
abbrev pub return_address : Arch → ℕ
return_address Amd64 = 16
return_address Aarch64 = 30

-- AArch64 alone has a register for the sign state
abbrev pub is_sign_state : Arch → ℕ → Bool
is_sign_state Amd64 r = false
is_sign_state Aarch64 r = r == 34

-- AArch64 alone has a link register, x30
abbrev pub is_link_register : Arch → ℕ → Bool
is_link_register Amd64 r = false
is_link_register Aarch64 r = r == 30
