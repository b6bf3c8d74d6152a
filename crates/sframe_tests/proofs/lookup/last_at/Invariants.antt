use Rattle.sframe_tests.proofs.lookup.last_at.Given as goal

abbrev pub ghosts-last_function : goal.ghosts-last_function
ghosts-last_function a = record { name = a.blank.name; parts = a.blank.parts }
