use Rattle.core_walk.specs.Walk.{thread_state}
use Rattle.process_tables.proofs.PartWalks.{is_whole_walk}
use Rattle.process_tables.proofs.walks.thread_walk.Goals as goal

pub returns-in-None : goal.returns-in-None
returns-in-None c =
    is_whole_walk c.args.process.now (thread_state c.args.thread.now) c.args.memory.now c.in_ok-walk.walk c.args.depth c.is_of_file.ensures c.in_ok-walk.ensures c.in-None.ensures
