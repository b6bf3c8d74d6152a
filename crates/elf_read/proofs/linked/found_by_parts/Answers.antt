use Rattle.std.proofs.Common.{◌≡◌, ◌-◌, ◌*◌, min, length, drop, rules, List, ℕ, ap, sym, subst, ◌∙◌, arith}
use Rattle.std.proofs.lemmas.List.{length-drop, length-take}
use Rattle.elf_read.specs.Header.{header_fields}
use Rattle.elf_read.specs.Linked.{whole_of, IsOnlyEhFrame, HasLinkedParts}
use Rattle.elf_read.specs.Sections.{is_compressed}
use Rattle.elf_read.proofs.LinkedSound.{PassesByParts, file_passes}
use Rattle.elf_read.proofs.linked.found_by_parts.Goals as goal

pub returns : goal.returns
unfolding is_compressed
returns c =
    let headers = c.in_ok-headers.headers in
    let only : IsOnlyEhFrame (whole_of c.in_ok-headers.headers) c.in_ok-eh_frame.eh_frame = c.in_ok-eh_frame.ensures in
    let count = c.in_ok-headers.headers.counted in
    let some = only.within in
    let there = c.in_ok-headers.ensures.headers in
    let len : length c.in_ok-headers.headers.sections.now ≡ min (64 * c.in_ok-headers.headers.count) (length (whole_of c.in_ok-headers.headers) - (header_fields (whole_of c.in_ok-headers.headers)).e_shoff) =
    ap length c.in_ok-headers.headers.sections_are
    ∙ length-take (64 * c.in_ok-headers.headers.count) (drop (header_fields (whole_of c.in_ok-headers.headers)).e_shoff (whole_of c.in_ok-headers.headers))
    ∙ ap (min (64 * c.in_ok-headers.headers.count)) (length-drop (header_fields (whole_of c.in_ok-headers.headers)).e_shoff (whole_of c.in_ok-headers.headers))
    in
    let passes : PassesByParts (whole_of c.in_ok-headers.headers) c.in_ok-eh_frame.eh_frame = record {
      head = c.in_ok-headers.ensures.head;
      headers = omega (arith, len, there, count, some);
      some = omega (arith, some);
      bytes = search rules;
      table = c.in_ok-names.ensures.kind;
      names = search rules;
      only = only;
      plain = search rules;
    } in
    let all : HasLinkedParts (whole_of c.in_ok-headers.headers) c.args.parts.now c.in_ok-headers.headers.count c.in_ok-eh_frame.eh_frame = record {
      header = sym c.in_ok-headers.ensures.header ∙ c.in_ok-headers.headers.header_is;
      sections = sym c.in_ok-headers.ensures.sections ∙ c.in_ok-headers.headers.sections_are;
      counted = c.in_ok-headers.headers.counted;
      bytes = sym c.in_ok-section_bytes.ensures.part ∙ c.in_ok-section_bytes.ensures.bytes;
      checked = file_passes (whole_of c.in_ok-headers.headers) c.in_ok-eh_frame.eh_frame passes;
      head = passes.head;
      only = only;
    } in
    subst (λ (file : List ℕ). HasLinkedParts file c.args.parts.now c.in_ok-headers.headers.count c.in_ok-eh_frame.eh_frame) c.in_ok-headers.ensures.file all
