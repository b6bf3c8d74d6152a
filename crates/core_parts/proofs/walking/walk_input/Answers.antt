use Rattle.core_parts.proofs.InputWalks.{is_walked}
use Rattle.core_parts.proofs.walking.walk_input.Goals as goal

pub returns-in-None : goal.returns-in-None
returns-in-None g c =
    is_walked (g.L.LookUp.found_at c.args.rows.now) c.args.thread.now c.args.memory.now c.in_ok-walk.walk c.args.depth c.is_of_file.ensures c.in_ok-walk.ensures c.in-None.ensures
