-- Inside the crate. The rules of common information entries, kept by the numbers of what their functions share (LSB Core, "The .eh_frame section").
use Rattle.std.specs.Prelude.{ℕ, List, get_or}
use Rattle.std.specs.BTreeMap.{get}
use Rattle.std.specs.Option.{ForSome}
use Rattle.std.specs.Ordering.{nat_cmp}
use Rattle.frame_functions.specs.Descriptions.{Common, no_common}
use Rattle.signal_frames.specs.declared.rules.InitialRules.{InitialRules}
use Rattle.signal_frames.specs.InitialRules.{AreInitialRules}
use Rattle.module_tables.specs.declared.rules.KeptRules.{KeptRules}

-- they are the rules of the initial instructions that have this number
abbrev pub AreRulesAt : List Common → (number : ℕ) → InitialRules → Type 0
AreRulesAt commons number rules = AreInitialRules (get_or commons number no_common).initial rules

-- all rules that are kept are
abbrev pub AreKept : List Common → KeptRules → Type 0
AreKept commons kept = (number : ℕ) → ForSome (get nat_cmp kept.long number) (AreRulesAt commons number)
