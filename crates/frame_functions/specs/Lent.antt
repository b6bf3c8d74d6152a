-- Inside the crate. Functions that can be lent as their records describe them (LSB Core, "The .eh_frame section"; DWARF 5, section 6.4).
use Rattle.std.specs.Prelude.{◌≡◌, ◌≤◌, ◌+◌, ◌^◌, IsTrue, is_ok, true}
use Rattle.sf_bytes.specs.Cursor.{cursor}
use Rattle.sf_model.specs.declared.omission.Span.{Span}
use Rattle.sf_model.specs.Function.{key_fits}
use Rattle.cfa_insn.specs.Listing.{listing}
use Rattle.cfa_machine.specs.Pass.{rows_by}
use Rattle.eh_records.specs.declared.fde.Fde.{Fde}
use Rattle.eh_records.specs.Fde.{fde_view}
use Rattle.eh_records.specs.Named.{HasNamed}
use Rattle.frame_functions.specs.declared.call_frame_section.CallFrameSection.{CallFrameSection}
use Rattle.frame_functions.specs.declared.initial_rows.InitialRows.{InitialRows}
use Rattle.frame_functions.specs.InitialRows.{AreInitial}

-- a frame description entry of a section, whose function has these addresses, where these initial rows of the section are kept
pub record CanBeLent (section : CallFrameSection) (fde : Fde) (span : Span) (initials : InitialRows) : Type 0 where
  -- its key is one of the machine's
  pub key : IsTrue (key_fits section.arch fde.cie.key)
  pub rows : AreInitial section.arch section.bytes.now initials
  -- its common information entry is the one that it names
  pub named : HasNamed section.arch section.bytes.now (fde_view fde)
  pub end : span.start + span.size ≤ 2 ^ 64
  -- each instruction was run
  pub ran : is_ok (rows_by section.arch fde.cie.code_alignment_factor fde.cie.data_alignment_factor span.size (listing (cursor fde.cie.insns)) (listing (cursor fde.insns))) ≡ true
