-- The rules that the instructions of a common information entry give, kept for all functions that name it (DWARF 5, section 6.4.3).
use Rattle.std.specs.Prelude.{◌≡◌, List}
use Rattle.std.specs.Option.{option_map}
use Rattle.cfa_insn.specs.Listing.{Item}
use Rattle.signal_frames.specs.declared.rules.InitialRules.{InitialRules}
use Rattle.signal_frames.specs.Rules.{rules_view}
use Rattle.signal_frames.specs.Run.{no_rules, rules_by}

-- these instructions give the rules, or none where one can't be read or another row begins
abbrev pub AreInitialRules : (initial : List Item) → InitialRules → Type 0
AreInitialRules initial kept = option_map rules_view kept.rules ≡ rules_by initial no_rules
