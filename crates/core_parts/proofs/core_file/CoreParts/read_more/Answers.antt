use Rattle.core_parts.proofs.core_file.CoreParts.read_more.Goals as goal

-- what was said of each file with the earlier parts is said of each with one more
pub invariant_of-self : goal.invariant_of-self
invariant_of-self g c =
    let before = c.args.self.now in
    let kept = c.read_window.ensures.kept in
    record {
      checked = λ whole is. before.checked whole (kept whole is);
      machine = λ whole is. before.machine whole (kept whole is);
      segments_are = λ whole is. before.segments_are whole (kept whole is);
      threads_are = λ whole is. before.threads_are whole (kept whole is);
      loads_are = λ whole is. before.loads_are whole (kept whole is);
      note_is = λ whole is. before.note_is whole (kept whole is);
      fits = before.fits;
      few = before.few;
      lie = rw c.read_window.ensures.len before.lie;
      rise = before.rise;
    }
