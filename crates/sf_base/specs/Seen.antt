-- What is observable of the outside, and what calls that only read leave of it.
use Rattle.std.specs.Prelude.{◌≡◌, ◌≤◌, ℕ, Bool, List, Option}

-- What is observable of files.
pub record FilesSeen : Type 0 where
  -- what all names hold, if it is known: pairs of a name's bytes and a file's bytes. The first pair of a name counts, and a name that is
  -- not in the list counts as an empty file
  pub contents : Option (List (List ℕ × List ℕ))
  -- whether a file is created, and its name, which counts only if contents are known and a file is created
  pub created : Bool
  pub created_name : List ℕ
  -- how many opens and reads have failed, and how many creates and writes
  pub read_faults : ℕ
  pub write_faults : ℕ
  -- the name of the file whose open or read failed last, if it is known
  pub failed_name : Option (List ℕ)

-- What is observable of a sink: all the bytes that were written, if they are known, and how many writes have failed.
pub record SinkSeen : Type 0 where
  pub written : Option (List ℕ)
  pub faults : ℕ

-- at most the count of failed reads changed, and the name of the file that failed last
pub record OnlyReads (before after : FilesSeen) : Type 0 where
  pub later : before.read_faults ≤ after.read_faults
  pub rest : after ≡ record before { read_faults = after.read_faults; failed_name = after.failed_name }
