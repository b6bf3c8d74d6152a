-- What calls that read an open file leave of the files.
use Rattle.std.specs.Prelude.{◌≡◌, ◌≢◌, ℕ, Some, IsTrue, IfSome}
use Rattle.sf_base.specs.declared.files.Files.{Ghosts}
use Rattle.sf_base.specs.declared.loading.LoadFault.{LoadFault}
use Rattle.sf_base.specs.declared.loading.LoadFault.TheVariants.{Read, TooLong}
use Rattle.sf_base.specs.Faults.{Rose}
use Rattle.sf_base.specs.Seen.{OnlyReads}

-- the same file is open, and nothing else changed but the place that is read next
pub record StaysOpen {S : Type 0} (files : Ghosts S) (before after : S) : Type 0 where
  pub opened : IsTrue (files.opened after)
  pub whole : files.whole after ≡ files.whole before
  pub opened_name : files.opened_name after ≡ files.opened_name before
  pub same : files.seen after ≡ files.seen before
  pub may_open : files.may_open after ≡ files.may_open before
  pub may_create : files.may_create after ≡ files.may_create before

-- the open file was read in vain: a read failed, which the count of faults and the name of the file tell, or memory ran out
pub record StopsReading {S : Type 0} (files : Ghosts S) (before after : S) (fault : LoadFault) : Type 0 where
  pub may_open : files.may_open after ≡ files.may_open before
  pub may_create : files.may_create after ≡ files.may_create before
  pub reads : OnlyReads (files.seen before) (files.seen after)
  pub rose : fault ≡ Read → Rose ((files.seen before).read_faults) ((files.seen after).read_faults)
  pub failed_name : fault ≡ Read → IfSome ((files.seen after).failed_name) (λ failed. files.opened_name before ≡ Some failed)
  pub not_long : (n : ℕ) → fault ≢ TooLong n
