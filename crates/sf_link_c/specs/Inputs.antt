-- Inputs of call frame information, as C has them.
use Rattle.std.specs.Prelude.{ℕ, ◌<◌, ◌≤◌, ◌^◌, ◌==◌, List, length, All, if◌then◌else◌}
use Rattle.sf_model.specs.declared.machine.Arch.TheVariants.{Amd64, Aarch64}
use Rattle.sf_model.specs.declared.form.Form.{Form}
use Rattle.sf_model.specs.declared.form.Form.TheVariants.{Elf, Bare}
use Rattle.sf_asm.specs.Functions.{Object}
use Rattle.sf_link_c.specs.declared.inputs.KiblawenInput.{KiblawenInput}

-- what the bytes of an input are, by the header's number: an ELF file, or a bare call frame section of a machine
abbrev pub form_by : (kind : ℕ) → Form
form_by kind = if kind == 0 then Elf else (if kind == 1 then Bare Amd64 else Bare Aarch64)

-- an input as it is linked
abbrev pub object_of_input : KiblawenInput → Object
object_of_input input = record { form = form_by input.kind; bytes = input.bytes.now; base = input.base }

-- the kind is one of the header's, and there are fewer than 2^32 bytes
abbrev pub IsFit : KiblawenInput → Type 0
IsFit input = (input.kind ≤ 2) × (length input.bytes.now < 2 ^ 32)

-- there are 1 to 512 inputs, and each is fit
abbrev pub AreFit : List KiblawenInput → Type 0
AreFit inputs = (0 < length inputs) × (length inputs ≤ 512) × All IsFit inputs
