-- Worked cases of what becomes of an input's functions, by computation.
use Rattle.std.proofs.Common.{refl, ◌≡◌, ℕ, pos, Bool, true, false, List, [], ◌∷◌, map, Option, Some, None, Result, Ok, Err}
use Rattle.std.specs.Prelude.{negsuc}
use Rattle.sf_model.specs.declared.machine.Arch.{Arch}
use Rattle.sf_model.specs.declared.machine.Arch.TheVariants.{Amd64, Aarch64}
use Rattle.sf_model.specs.declared.machine.Base.TheVariants.{Fp, Sp}
use Rattle.sf_model.specs.declared.machine.Key.TheVariants.{A, B}
use Rattle.sf_model.specs.declared.content.Ra.TheVariants.{Fixed, Link, At}
use Rattle.sf_model.specs.declared.function.Shape.TheVariants.{Plain}
use Rattle.sf_model.specs.declared.omission.Reason.TheVariants.{RaRule, CfaRegister}
use Rattle.eh_records.specs.declared.fault.RecordFault.TheVariants as record_faults
use Rattle.frame_functions.specs.declared.read_function.ReadFunction.{ReadFunction}
use Rattle.frame_functions.specs.declared.read_function.Expressed.TheVariants as outcome
use Rattle.frame_functions.specs.declared.fault.AsmFault.{AsmFault}
use Rattle.frame_functions.specs.declared.fault.AsmFault.TheVariants as asm
use Rattle.sf_asm.specs.declared.fault.GatherFault.{GatherFault}
use Rattle.sf_asm.specs.declared.fault.GatherFault.TheVariants as gather
use Rattle.sf_model.specs.declared.form.Form.TheVariants.{Bare}
use Rattle.frame_functions.specs.Answers.{seen_as}
use Rattle.frame_functions.specs.Kept.{read_of}
use Rattle.sf_bytes.specs.Cursor.{number_at, part_at, signed_at}
use Rattle.sf_bytes.specs.Leb.{is_negative, leb_signed, leb_sum, run_length, sleb_at, uleb_at}
use Rattle.sf_bytes.specs.Text.{text_at}
use Rattle.eh_pointer.specs.Pointer.{pointer_bits, pointer_value, pointer_width, usable_width}
use Rattle.eh_records.specs.Augmentation.{are_letters, data_at, form_at, letter_at, letters_at, personality_at, augmentation_by}
use Rattle.eh_records.specs.Cie.{cie_of, version_at, return_address_register_at, augmentation_at}
use Rattle.eh_records.specs.RawRecord.{named_place, raw_record_at, record_of_length}
use Rattle.eh_records.specs.Fde.{cie_at_place, entry_of as fde_entry_of, fde_of, lsda_at}
use Rattle.eh_records.specs.Section.{records_after, entries_in, entries_of, entry_at, entry_here, entry_cie_place}
use Rattle.eh_records.specs.Step.{number_field, part_field, pointer_field, sleb_field, text_field, uleb_field}
use Rattle.cfa_insn.specs.Listing.{listing_after}
use Rattle.cfa_insn.specs.Table.{block_at, extended_at, instruction_at, operands_at}
use Rattle.cfa_machine.specs.RowAtOffset.{state_before, initial_by}
use Rattle.cfa_machine.specs.Effects.{effect_by}
use Rattle.cfa_machine.specs.FirstFault.{function_fault, initial_fault}
use Rattle.sf_express.specs.Rules.{content_of}
use Rattle.sf_express.specs.Runs.{function_of, omission_of, rows_of}
use Rattle.elf_reloc.specs.declared.table.Range.TheVariants.{Signed}
use Rattle.elf_reloc.specs.Order.{first_at}
use Rattle.elf_reloc.specs.Patched.{overwritten, patched}
use Rattle.elf_reloc.specs.Table.{low_bits}
use Rattle.frame_functions.specs.Functions.{function_in, section_functions}
use Rattle.sf_asm.specs.Functions.{functions_after, functions_of}
use Rattle.elf_reloc.specs.Applied.{slot_check}

-- what becomes of the functions of a bare section whose first byte lies at 0x2000
abbrev becomes : Arch → List ℕ → Result (List ReadFunction) GatherFault
becomes arch bytes = seen_as (map read_of) (functions_of 0 (record { form = Bare arch; bytes = bytes; base = 0x2000 } ∷ []))

-- a function that pushes its frame pointer
abbrev a_function_that_pushes_bytes : List ℕ
a_function_that_pushes_bytes =
    0x14 ∷ 0x00 ∷ 0x00 ∷ 0x00 ∷ 0x00 ∷ 0x00 ∷ 0x00 ∷ 0x00 ∷ 0x01 ∷ 0x7a ∷ 0x52 ∷ 0x00 ∷ 0x01 ∷ 0x78 ∷ 0x10 ∷ 0x01 ∷ 0x1b ∷ 0x0c ∷ 0x07 ∷ 0x08 ∷ 0x90 ∷ 0x01 ∷ 0x00 ∷ 0x00 ∷ 0x1c ∷ 0x00 ∷ 0x00 ∷ 0x00 ∷ 0x1c ∷ 0x00 ∷ 0x00 ∷ 0x00 ∷ 0xe0 ∷ 0xef ∷ 0xff ∷ 0xff ∷ 0x06 ∷ 0x00 ∷ 0x00 ∷ 0x00 ∷ 0x00 ∷ 0x41 ∷ 0x0e ∷ 0x10 ∷ 0x86 ∷ 0x02 ∷ 0x43 ∷ 0x0d ∷ 0x06 ∷ 0x41 ∷ 0x0c ∷ 0x07 ∷ 0x08 ∷ 0x00 ∷ 0x00 ∷ 0x00 ∷ 0x00 ∷ 0x00 ∷ 0x00 ∷ 0x00 ∷ []

a_function_that_pushes : becomes Amd64 a_function_that_pushes_bytes ≡ Ok (record {
  span = record { start = 4096; size = 6; origin = record { item = 0; section = 0; place = 24 } };
  outcome = outcome.Kept (record {
    start = 4096;
    size = 6;
    shape = Plain;
    key = A;
    rows = record { start = 0; content = record { base = Sp; cfa = pos 8; ra = Fixed; fp = None; signed = false } }
        ∷ record { start = 1; content = record { base = Sp; cfa = pos 16; ra = Fixed; fp = Some (negsuc 15); signed = false } }
        ∷ record { start = 4; content = record { base = Fp; cfa = pos 16; ra = Fixed; fp = Some (negsuc 15); signed = false } }
        ∷ record { start = 5; content = record { base = Sp; cfa = pos 8; ra = Fixed; fp = Some (negsuc 15); signed = false } } ∷ [];
  });
} ∷ [])
unfolding number_at part_at signed_at is_negative leb_signed leb_sum run_length sleb_at uleb_at text_at pointer_bits pointer_value pointer_width usable_width are_letters data_at form_at letter_at letters_at personality_at augmentation_by cie_of version_at return_address_register_at augmentation_at named_place raw_record_at record_of_length cie_at_place fde_entry_of fde_of lsda_at records_after entries_in entries_of entry_at entry_here entry_cie_place number_field part_field pointer_field sleb_field text_field uleb_field listing_after block_at extended_at instruction_at operands_at state_before initial_by effect_by function_fault initial_fault content_of function_of omission_of rows_of function_in functions_after section_functions first_at patched slot_check
a_function_that_pushes = refl

-- the outermost function has no return address
abbrev an_undefined_return_address_bytes : List ℕ
an_undefined_return_address_bytes =
    0x14 ∷ 0x00 ∷ 0x00 ∷ 0x00 ∷ 0x00 ∷ 0x00 ∷ 0x00 ∷ 0x00 ∷ 0x01 ∷ 0x7a ∷ 0x52 ∷ 0x00 ∷ 0x01 ∷ 0x78 ∷ 0x10 ∷ 0x01 ∷ 0x1b ∷ 0x0c ∷ 0x07 ∷ 0x08 ∷ 0x90 ∷ 0x01 ∷ 0x00 ∷ 0x00 ∷ 0x10 ∷ 0x00 ∷ 0x00 ∷ 0x00 ∷ 0x1c ∷ 0x00 ∷ 0x00 ∷ 0x00 ∷ 0xe0 ∷ 0xef ∷ 0xff ∷ 0xff ∷ 0x06 ∷ 0x00 ∷ 0x00 ∷ 0x00 ∷ 0x00 ∷ 0x07 ∷ 0x10 ∷ 0x00 ∷ 0x00 ∷ 0x00 ∷ 0x00 ∷ 0x00 ∷ []

an_undefined_return_address : becomes Amd64 an_undefined_return_address_bytes ≡ Ok (record { span = record { start = 4096; size = 6; origin = record { item = 0; section = 0; place = 24 } }; outcome = outcome.LeftOut (record { reason = RaRule; offset = Some 0 }) } ∷ [])
unfolding number_at part_at signed_at is_negative leb_signed leb_sum run_length sleb_at uleb_at text_at pointer_bits pointer_value pointer_width usable_width are_letters data_at form_at letter_at letters_at personality_at augmentation_by cie_of version_at return_address_register_at augmentation_at named_place raw_record_at record_of_length cie_at_place fde_entry_of fde_of lsda_at records_after entries_in entries_of entry_at entry_here entry_cie_place number_field part_field pointer_field sleb_field text_field uleb_field listing_after block_at extended_at instruction_at operands_at state_before initial_by effect_by function_fault initial_fault content_of function_of omission_of rows_of function_in functions_after section_functions first_at patched slot_check
an_undefined_return_address = refl

-- advances of zero bytes, and to the function's end
abbrev advances_of_zero_bytes : List ℕ
advances_of_zero_bytes =
    0x14 ∷ 0x00 ∷ 0x00 ∷ 0x00 ∷ 0x00 ∷ 0x00 ∷ 0x00 ∷ 0x00 ∷ 0x01 ∷ 0x7a ∷ 0x52 ∷ 0x00 ∷ 0x01 ∷ 0x78 ∷ 0x10 ∷ 0x01 ∷ 0x1b ∷ 0x0c ∷ 0x07 ∷ 0x08 ∷ 0x90 ∷ 0x01 ∷ 0x00 ∷ 0x00 ∷ 0x18 ∷ 0x00 ∷ 0x00 ∷ 0x00 ∷ 0x1c ∷ 0x00 ∷ 0x00 ∷ 0x00 ∷ 0xe0 ∷ 0xef ∷ 0xff ∷ 0xff ∷ 0x06 ∷ 0x00 ∷ 0x00 ∷ 0x00 ∷ 0x00 ∷ 0x0e ∷ 0x10 ∷ 0x40 ∷ 0x0e ∷ 0x18 ∷ 0x46 ∷ 0x0e ∷ 0x08 ∷ 0x00 ∷ 0x00 ∷ 0x00 ∷ 0x00 ∷ 0x00 ∷ 0x00 ∷ 0x00 ∷ []

advances_of_zero : becomes Amd64 advances_of_zero_bytes ≡ Ok (record { span = record { start = 4096; size = 6; origin = record { item = 0; section = 0; place = 24 } }; outcome = outcome.Kept (record { start = 4096; size = 6; shape = Plain; key = A; rows = record { start = 0; content = record { base = Sp; cfa = pos 24; ra = Fixed; fp = None; signed = false } } ∷ [] }) } ∷ [])
unfolding number_at part_at signed_at is_negative leb_signed leb_sum run_length sleb_at uleb_at text_at pointer_bits pointer_value pointer_width usable_width are_letters data_at form_at letter_at letters_at personality_at augmentation_by cie_of version_at return_address_register_at augmentation_at named_place raw_record_at record_of_length cie_at_place fde_entry_of fde_of lsda_at records_after entries_in entries_of entry_at entry_here entry_cie_place number_field part_field pointer_field sleb_field text_field uleb_field listing_after block_at extended_at instruction_at operands_at state_before initial_by effect_by function_fault initial_fault content_of function_of omission_of rows_of function_in functions_after section_functions first_at patched slot_check
advances_of_zero = refl

-- a reason at a later row
abbrev a_late_reason_bytes : List ℕ
a_late_reason_bytes =
    0x14 ∷ 0x00 ∷ 0x00 ∷ 0x00 ∷ 0x00 ∷ 0x00 ∷ 0x00 ∷ 0x00 ∷ 0x01 ∷ 0x7a ∷ 0x52 ∷ 0x00 ∷ 0x01 ∷ 0x78 ∷ 0x10 ∷ 0x01 ∷ 0x1b ∷ 0x0c ∷ 0x07 ∷ 0x08 ∷ 0x90 ∷ 0x01 ∷ 0x00 ∷ 0x00 ∷ 0x18 ∷ 0x00 ∷ 0x00 ∷ 0x00 ∷ 0x1c ∷ 0x00 ∷ 0x00 ∷ 0x00 ∷ 0xe0 ∷ 0xef ∷ 0xff ∷ 0xff ∷ 0x1b ∷ 0x00 ∷ 0x00 ∷ 0x00 ∷ 0x00 ∷ 0x41 ∷ 0x0e ∷ 0x10 ∷ 0x86 ∷ 0x02 ∷ 0x48 ∷ 0x0c ∷ 0x0a ∷ 0x00 ∷ 0x00 ∷ 0x00 ∷ 0x00 ∷ 0x00 ∷ 0x00 ∷ 0x00 ∷ []

a_late_reason : becomes Amd64 a_late_reason_bytes ≡ Ok (record { span = record { start = 4096; size = 27; origin = record { item = 0; section = 0; place = 24 } }; outcome = outcome.LeftOut (record { reason = CfaRegister; offset = Some 9 }) } ∷ [])
unfolding number_at part_at signed_at is_negative leb_signed leb_sum run_length sleb_at uleb_at text_at pointer_bits pointer_value pointer_width usable_width are_letters data_at form_at letter_at letters_at personality_at augmentation_by cie_of version_at return_address_register_at augmentation_at named_place raw_record_at record_of_length cie_at_place fde_entry_of fde_of lsda_at records_after entries_in entries_of entry_at entry_here entry_cie_place number_field part_field pointer_field sleb_field text_field uleb_field listing_after block_at extended_at instruction_at operands_at state_before initial_by effect_by function_fault initial_fault content_of function_of omission_of rows_of function_in functions_after section_functions first_at patched slot_check
a_late_reason = refl

-- a function that signs its return address
abbrev a_signing_function_bytes : List ℕ
a_signing_function_bytes =
    0x14 ∷ 0x00 ∷ 0x00 ∷ 0x00 ∷ 0x00 ∷ 0x00 ∷ 0x00 ∷ 0x00 ∷ 0x01 ∷ 0x7a ∷ 0x52 ∷ 0x42 ∷ 0x00 ∷ 0x04 ∷ 0x78 ∷ 0x1e ∷ 0x01 ∷ 0x1b ∷ 0x0c ∷ 0x1f ∷ 0x00 ∷ 0x00 ∷ 0x00 ∷ 0x00 ∷ 0x20 ∷ 0x00 ∷ 0x00 ∷ 0x00 ∷ 0x1c ∷ 0x00 ∷ 0x00 ∷ 0x00 ∷ 0xe0 ∷ 0xef ∷ 0xff ∷ 0xff ∷ 0x1c ∷ 0x00 ∷ 0x00 ∷ 0x00 ∷ 0x00 ∷ 0x41 ∷ 0x2d ∷ 0x41 ∷ 0x0e ∷ 0x20 ∷ 0x9d ∷ 0x04 ∷ 0x9e ∷ 0x03 ∷ 0x43 ∷ 0xdd ∷ 0xde ∷ 0x0e ∷ 0x00 ∷ 0x41 ∷ 0x2d ∷ 0x00 ∷ 0x00 ∷ 0x00 ∷ []

a_signing_function : becomes Aarch64 a_signing_function_bytes ≡ Ok (record {
  span = record { start = 4096; size = 28; origin = record { item = 0; section = 0; place = 24 } };
  outcome = outcome.Kept (record {
    start = 4096;
    size = 28;
    shape = Plain;
    key = B;
    rows = record { start = 0; content = record { base = Sp; cfa = pos 0; ra = Link; fp = None; signed = false } }
        ∷ record { start = 4; content = record { base = Sp; cfa = pos 0; ra = Link; fp = None; signed = true } }
        ∷ record { start = 8; content = record { base = Sp; cfa = pos 32; ra = At (negsuc 23); fp = Some (negsuc 31); signed = true } }
        ∷ record { start = 20; content = record { base = Sp; cfa = pos 0; ra = Link; fp = None; signed = true } }
        ∷ record { start = 24; content = record { base = Sp; cfa = pos 0; ra = Link; fp = None; signed = false } } ∷ [];
  });
} ∷ [])
unfolding number_at part_at signed_at is_negative leb_signed leb_sum run_length sleb_at uleb_at text_at pointer_bits pointer_value pointer_width usable_width are_letters data_at form_at letter_at letters_at personality_at augmentation_by cie_of version_at return_address_register_at augmentation_at named_place raw_record_at record_of_length cie_at_place fde_entry_of fde_of lsda_at records_after entries_in entries_of entry_at entry_here entry_cie_place number_field part_field pointer_field sleb_field text_field uleb_field listing_after block_at extended_at instruction_at operands_at state_before initial_by effect_by function_fault initial_fault content_of function_of omission_of rows_of function_in functions_after section_functions first_at patched slot_check
a_signing_function = refl

-- a function that ends above 2^64
abbrev a_function_past_all_addresses_bytes : List ℕ
a_function_past_all_addresses_bytes =
    0x14 ∷ 0x00 ∷ 0x00 ∷ 0x00 ∷ 0x00 ∷ 0x00 ∷ 0x00 ∷ 0x00 ∷ 0x01 ∷ 0x7a ∷ 0x52 ∷ 0x00 ∷ 0x01 ∷ 0x78 ∷ 0x10 ∷ 0x01 ∷ 0x1b ∷ 0x0c ∷ 0x07 ∷ 0x08 ∷ 0x90 ∷ 0x01 ∷ 0x00 ∷ 0x00 ∷ 0x1c ∷ 0x00 ∷ 0x00 ∷ 0x00 ∷ 0x1c ∷ 0x00 ∷ 0x00 ∷ 0x00 ∷ 0xe0 ∷ 0xef ∷ 0xff ∷ 0xff ∷ 0xff ∷ 0xff ∷ 0xff ∷ 0xff ∷ 0x00 ∷ 0x41 ∷ 0x0e ∷ 0x10 ∷ 0x86 ∷ 0x02 ∷ 0x43 ∷ 0x0d ∷ 0x06 ∷ 0x41 ∷ 0x0c ∷ 0x07 ∷ 0x08 ∷ 0x00 ∷ 0x00 ∷ 0x00 ∷ 0x00 ∷ 0x00 ∷ 0x00 ∷ 0x00 ∷ []

a_function_past_all_addresses : becomes Amd64 a_function_past_all_addresses_bytes ≡ Err (gather.Input 0 (asm.Record 0 (record_faults.FunctionEnd 32)))
unfolding number_at part_at signed_at is_negative leb_signed leb_sum run_length sleb_at uleb_at text_at pointer_bits pointer_value pointer_width usable_width are_letters data_at form_at letter_at letters_at personality_at augmentation_by cie_of version_at return_address_register_at augmentation_at named_place raw_record_at record_of_length cie_at_place fde_entry_of fde_of lsda_at records_after entries_in entries_of entry_at entry_here entry_cie_place number_field part_field pointer_field sleb_field text_field uleb_field listing_after block_at extended_at instruction_at operands_at state_before initial_by effect_by function_fault initial_fault content_of function_of omission_of rows_of function_in functions_after section_functions first_at patched slot_check
a_function_past_all_addresses = refl

-- a record that passes the section's end
abbrev a_record_that_is_cut_bytes : List ℕ
a_record_that_is_cut_bytes =
    0x14 ∷ 0x00 ∷ 0x00 ∷ 0x00 ∷ 0x00 ∷ 0x00 ∷ 0x00 ∷ 0x00 ∷ 0x01 ∷ 0x7a ∷ 0x52 ∷ 0x00 ∷ 0x01 ∷ 0x78 ∷ 0x10 ∷ 0x01 ∷ 0x1b ∷ 0x0c ∷ 0x07 ∷ 0x08 ∷ 0x90 ∷ 0x01 ∷ 0x00 ∷ 0x00 ∷ 0x1c ∷ 0x00 ∷ 0x00 ∷ 0x00 ∷ 0x1c ∷ 0x00 ∷ 0x00 ∷ 0x00 ∷ 0xe0 ∷ 0xef ∷ 0xff ∷ 0xff ∷ 0x06 ∷ 0x00 ∷ 0x00 ∷ 0x00 ∷ []

a_record_that_is_cut : becomes Amd64 a_record_that_is_cut_bytes ≡ Err (gather.Input 0 (asm.Record 0 (record_faults.Short 24)))
unfolding number_at part_at signed_at is_negative leb_signed leb_sum run_length sleb_at uleb_at text_at pointer_bits pointer_value pointer_width usable_width are_letters data_at form_at letter_at letters_at personality_at augmentation_by cie_of version_at return_address_register_at augmentation_at named_place raw_record_at record_of_length cie_at_place fde_entry_of fde_of lsda_at records_after entries_in entries_of entry_at entry_here entry_cie_place number_field part_field pointer_field sleb_field text_field uleb_field listing_after block_at extended_at instruction_at operands_at state_before initial_by effect_by function_fault initial_fault content_of function_of omission_of rows_of function_in functions_after section_functions first_at patched slot_check
a_record_that_is_cut = refl

-- ---- a section of an object, one relocation of which lies on a start
-- what becomes of its function, by the value that is written there, and whether its symbol lies in a dropped section
abbrev becomes_with : Option ℕ → Bool → Result (List ReadFunction) AsmFault
becomes_with value dropped = seen_as (map read_of) (section_functions Amd64 0 (record {
  number = 3;
  bytes = an_undefined_return_address_bytes;
  address = 0x2000;
  shift = 0;
  relocations = Ok (record { place = 32; index = 0; range = Signed; value = value; dropped = dropped } ∷ []);
}))

-- the start is counted from the field's own address, 0x2020
a_start_that_is_relocated : becomes_with (Some 0x2fe0) false ≡ Ok (record { span = record { start = 0x5000; size = 6; origin = record { item = 0; section = 3; place = 24 } }; outcome = outcome.LeftOut (record { reason = RaRule; offset = Some 0 }) } ∷ [])
unfolding number_at part_at signed_at is_negative leb_signed leb_sum run_length sleb_at uleb_at text_at pointer_bits pointer_value pointer_width usable_width are_letters data_at form_at letter_at letters_at personality_at augmentation_by cie_of version_at return_address_register_at augmentation_at named_place raw_record_at record_of_length cie_at_place fde_entry_of fde_of lsda_at records_after entries_in entries_of entry_at entry_here entry_cie_place number_field part_field pointer_field sleb_field text_field uleb_field listing_after block_at extended_at instruction_at operands_at state_before initial_by effect_by function_fault initial_fault content_of function_of omission_of rows_of function_in section_functions first_at low_bits overwritten patched slot_check
a_start_that_is_relocated = refl

a_start_that_is_below_its_field : becomes_with (Some 0xfffffffffffffff0) false ≡ Ok (record { span = record { start = 0x2010; size = 6; origin = record { item = 0; section = 3; place = 24 } }; outcome = outcome.LeftOut (record { reason = RaRule; offset = Some 0 }) } ∷ [])
unfolding number_at part_at signed_at is_negative leb_signed leb_sum run_length sleb_at uleb_at text_at pointer_bits pointer_value pointer_width usable_width are_letters data_at form_at letter_at letters_at personality_at augmentation_by cie_of version_at return_address_register_at augmentation_at named_place raw_record_at record_of_length cie_at_place fde_entry_of fde_of lsda_at records_after entries_in entries_of entry_at entry_here entry_cie_place number_field part_field pointer_field sleb_field text_field uleb_field listing_after block_at extended_at instruction_at operands_at state_before initial_by effect_by function_fault initial_fault content_of function_of omission_of rows_of function_in section_functions first_at low_bits overwritten patched slot_check
a_start_that_is_below_its_field = refl

a_start_without_value : becomes_with None false ≡ Err (asm.Record 3 (record_faults.Unresolved 32))
unfolding number_at part_at signed_at is_negative leb_signed leb_sum run_length sleb_at uleb_at text_at pointer_bits pointer_value pointer_width usable_width are_letters data_at form_at letter_at letters_at personality_at augmentation_by cie_of version_at return_address_register_at augmentation_at named_place raw_record_at record_of_length cie_at_place fde_entry_of fde_of lsda_at records_after entries_in entries_of entry_at entry_here entry_cie_place number_field part_field pointer_field sleb_field text_field uleb_field listing_after block_at extended_at instruction_at operands_at state_before initial_by effect_by function_fault initial_fault content_of function_of omission_of rows_of function_in section_functions first_at low_bits overwritten patched slot_check
a_start_without_value = refl

a_start_in_a_dropped_section : becomes_with None true ≡ Ok []
unfolding number_at part_at signed_at is_negative leb_signed leb_sum run_length sleb_at uleb_at text_at pointer_bits pointer_value pointer_width usable_width are_letters data_at form_at letter_at letters_at personality_at augmentation_by cie_of version_at return_address_register_at augmentation_at named_place raw_record_at record_of_length cie_at_place fde_entry_of fde_of lsda_at records_after entries_in entries_of entry_at entry_here entry_cie_place number_field part_field pointer_field sleb_field text_field uleb_field listing_after block_at extended_at instruction_at operands_at state_before initial_by effect_by function_fault initial_fault content_of function_of omission_of rows_of function_in section_functions first_at low_bits overwritten patched slot_check
a_start_in_a_dropped_section = refl
