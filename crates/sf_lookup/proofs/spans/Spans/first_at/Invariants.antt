use Rattle.sf_lookup.proofs.spans.Spans.first_at.Given as goal

abbrev pub ghosts-first_uncounted : goal.ghosts-first_uncounted
ghosts-first_uncounted g a = record { name = a.blank.name; parts = a.blank.parts }
