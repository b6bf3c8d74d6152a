use Rattle.sf_parts.proofs.in_order.linked_parts.Goals as goal

pub returns : goal.returns
returns c = λ file are.
    let fewer = c.last_part.ensures.rest file are in
    let two = c.last_part-2.ensures.rest file fewer in
    let one = c.last_part-3.ensures.rest file two in
    record {
      header = c.in_ok-header.ensures.last file one;
      sections = c.in_ok-sections.ensures.last file two;
      names = c.in_ok-names.ensures.last file fewer;
      eh_frame = c.in_ok-eh_frame.ensures.last file are;
    }
