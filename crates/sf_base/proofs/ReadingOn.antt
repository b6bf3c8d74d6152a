-- One read of an open file after another.
use Rattle.std.proofs.Common.{◌≡◌, ℕ, List, Option, Some, IsTrue, refl, subst, ◌∙◌}
use Rattle.std.specs.Option.{IfSome}
use Rattle.sf_base.specs.declared.files.Files.{Ghosts}
use Rattle.sf_base.specs.declared.loading.LoadFault.{LoadFault}
use Rattle.sf_base.specs.Faults.{Rose}
use Rattle.sf_base.specs.Reading.{StaysOpen, StopsReading}
use Rattle.sf_base.specs.Seen.{FilesSeen, OnlyReads}

pub stays_still : {S : Type 0} {files : Ghosts S} (a : S) → IsTrue (files.opened a) → StaysOpen files a a
stays_still a opened = record { opened = opened; whole = refl; opened_name = refl; same = refl; may_open = refl; may_create = refl }

pub stays_on : {S : Type 0} {files : Ghosts S} {a b c : S} → StaysOpen files a b → StaysOpen files b c → StaysOpen files a c
stays_on s t = record {
  opened = t.opened;
  whole = t.whole ∙ s.whole;
  opened_name = t.opened_name ∙ s.opened_name;
  same = t.same ∙ s.same;
  may_open = t.may_open ∙ s.may_open;
  may_create = t.may_create ∙ s.may_create;
}

pub stops_later : {S : Type 0} {files : Ghosts S} {a b c : S} {fault : LoadFault} → StaysOpen files a b → StopsReading files b c fault → StopsReading files a c fault
stops_later {S} {files} {a} {b} {c} s t = record {
  may_open = t.may_open ∙ s.may_open;
  may_create = t.may_create ∙ s.may_create;
  reads = subst (λ (x : FilesSeen). OnlyReads x (files.seen c)) s.same t.reads;
  rose = λ is. subst (λ (x : FilesSeen). Rose x.read_faults (files.seen c).read_faults) s.same (t.rose is);
  failed_name = λ is. subst (λ (name : Option (List ℕ)). IfSome (files.seen c).failed_name (λ failed. name ≡ Some failed)) s.opened_name (t.failed_name is);
  not_long = t.not_long;
}
