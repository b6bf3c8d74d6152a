use Rattle.elf_read.proofs.linked.linked_of.Goals as goal

pub invariant_of-result : goal.invariant_of-result
invariant_of-result c =
    let found = c.in_ok-found.ensures in
    record {
      sized = c.requires.len;
      small = c.requires.small;
      header_is = found.header;
      sections_are = found.sections;
      counted = found.counted;
      bytes_are = found.bytes;
      checked = found.checked;
      no_object = found.head.no_object;
      no_core = found.head.no_core;
      within = found.only.within;
      is = found.only.is;
      only = found.only.only;
    }
