use Rattle.std.specs.Option.{option_and_then, option_map}
use Rattle.std.proofs.Common.{◌≡◌, List, ◌++◌, Option, ap, sym, ◌∙◌}
use Rattle.sf_bytes.specs.Cursor.{cursor}
use Rattle.cfa_insn.specs.Listing.{Item, listing}
use Rattle.signal_frames.specs.Rules.{RulesView, rules_view}
use Rattle.signal_frames.specs.Run.{no_rules, rules_by}
use Rattle.signal_frames.proofs.Running.{appended}
use Rattle.signal_frames.proofs.rules.rules_of.Goals as goal

-- the rules after the instructions of both
joined : (kept : Option RulesView) (common own : List Item) → kept ≡ rules_by common no_rules → option_and_then (λ (s : RulesView). rules_by own s) kept ≡ rules_by (common ++ own) no_rules
joined kept common own are = ap (option_and_then (λ (s : RulesView). rules_by own s)) are ∙ sym (appended common own no_rules)

pub returns-in_default : goal.returns-in_default
returns-in_default c = λ common are. joined _ common (listing (cursor c.args.own)) (sym (ap (option_map rules_view) c.in_default.is) ∙ are)

pub returns : goal.returns
returns c = λ common are. c.run.ensures ∙ joined _ common (listing (cursor c.args.own)) (sym (ap (option_map rules_view) c.in-Some.is) ∙ are)
