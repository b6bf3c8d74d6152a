use Rattle.std.proofs.Common.{◌≡◌, ◌+◌, ◌-◌, ◌%◌, ◌^◌, ℕ, Some, get_or, refl, sym}
use Rattle.elf_place.specs.Views.{Placing, placing, shift_in}
use Rattle.elf_read.specs.Sections.{section_bytes}
use Rattle.elf_reloc.specs.Reading.{placed_address}
use Rattle.frame_functions.specs.declared.call_frame_section.CallFrameSection.{CallFrameSection}
use Rattle.sf_asm.specs.Sections.{placed_section}
use Rattle.frame_functions.specs.Views.{relocations_by, seen_section}
use Rattle.frame_functions.proofs.FunctionsOfSection.{section_more}
use Rattle.sf_asm.proofs.elf.read_sections.Goals as goal

-- a section of a placed file, as it is read
is_placed : (s : CallFrameSection) (p : Placing) (shift number : ℕ) → s.number ≡ number → s.bytes.now ≡ section_bytes p.file number → s.address ≡ (placed_address p number + (2 ^ 64 - shift)) % 2 ^ 64 → s.shift ≡ shift
    → seen_section s (relocations_by (Some p) s.number) ≡ placed_section p shift number
is_placed s p shift number numbered bytes address shifted = rw (numbered, bytes, address, shifted) refl

pub loop-number-preserved : goal.loop-number-preserved
loop-number-preserved c =
    let k = c.loop-number.number-index in
    let numbers = c.eh_frames-numbers.result.now in
    let frames = c.frames_at-section.result in
    let at = c.frames_at-section.ensures in
    let p = placing c.args.placed.now in
    let section = placed_section p (shift_in c.args.placed.now) in
    let same : seen_section frames (relocations_by (Some p) frames.number) ≡ section (get_or numbers k 0) = is_placed frames p (shift_in c.args.placed.now) (get_or numbers k 0) at.number at.bytes at.address at.shift in
    record {
      sound = λ h. rw at.arch at c.in_ok-read_section.ensures.sound (c.loop-number.invariant.sound h);
      reads = section_more c.args.lending c.args.read.now c.loop-number.read c.read_section.new.read c.args.arch c.args.item section numbers k 0 _ c.loop-number-test.true c.loop-number.invariant.reads
          (rw (sym same, sym at.arch, sym at.item) c.in_ok-read_section.ensures.exact);
    }
