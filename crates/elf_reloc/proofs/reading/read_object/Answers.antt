use Rattle.std.proofs.Common.{◌≡◌, ℕ, List, length, Ok, sym, ap, subst, ◌∙◌, arith}
use Rattle.std.proofs.lemmas.Result.{err_from_is_err_and}
use Rattle.elf_read.specs.TotalSize.{HasRoom}
use Rattle.elf_place.specs.Relocations.{numbers_of, relocation_sections}
use Rattle.elf_place.specs.Views.{placed_file, placing}
use Rattle.elf_reloc.specs.Reading.{rel_check, relocations_in}
use Rattle.elf_reloc.proofs.Few.{few}
use Rattle.elf_reloc.proofs.Short.{is_short}
use Rattle.elf_reloc.proofs.GoingOn.{object_is, object_refused, object_read}
use Rattle.elf_reloc.proofs.reading.read_object.Goals as goal

pub returns-in_err-check_rels : goal.returns-in_err-check_rels
returns-in_err-check_rels c =
    let p = err_from_is_err_and c.from_residual.result c.from_residual.ensures.1 in
    rw (p.1, p.2)
    (object_refused (placing c.args.placed.now) c.args.section (numbers_of c.relocation_sections-sections.result.now) _ c.relocation_sections-sections.ensures c.in_err-check_rels.ensures)

pub returns : goal.returns
returns c =
    object_read (placing c.args.placed.now) c.args.section c.read_sections.result c.read_sections.new.read _ _
    (object_is (placing c.args.placed.now) c.args.section c.args.read.now (numbers_of c.relocation_sections-sections.result.now) c.requires.none c.requires.first c.relocation_sections-sections.ensures (sym c.in_ok-check_rels.ensures))
    c.read_sections.ensures

pub read_sections-requires-clause-few : goal.read_sections-requires-clause-few
read_sections-requires-clause-few c =
    let file = placed_file c.args.placed.now in
    let sections : numbers_of c.relocation_sections-sections.result.now ≡ relocation_sections file c.args.section = c.relocation_sections-sections.ensures in
    let checked : rel_check file (relocation_sections file c.args.section) ≡ Ok tt = sym (c.in_ok-check_rels.ensures ∙ ap (rel_check file) sections) in
    let count : length (relocations_in file (numbers_of c.relocation_sections-sections.result.now)) ≡ length (relocations_in file (relocation_sections file c.args.section)) = ap (λ (ns : List ℕ). length (relocations_in file ns)) sections in
    let room : HasRoom file = subst (λ (bytes : List ℕ). HasRoom bytes) c.elf.ensures c.room_law.ensures in
    let below = few file c.args.section c.requires.object (is_short c.args.placed.now.elf) room checked in
    omega (arith, c.requires.first, count, below)
