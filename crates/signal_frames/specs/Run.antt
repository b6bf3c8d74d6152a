-- The four rules of a function, by one pass over its instructions.
use Rattle.std.specs.Prelude.{List, [], ◌∷◌, Option, Some, None, Ok, Err, if◌then◌else◌}
use Rattle.std.specs.Option.{option_and_then, option_or}
use Rattle.cfa_insn.specs.Listing.{Item}
use Rattle.sf_model.specs.declared.machine.Arch.TheVariants.{Amd64}
use Rattle.cfa_machine.specs.Registers.{frame_pointer, return_address, stack_pointer}
use Rattle.signal_frames.specs.declared.change.Column.TheVariants.{Cfa, Register}
use Rattle.signal_frames.specs.Rules.{Change, RulesView, change_by, given_to, keeps_row}

-- without any rule
abbrev pub no_rules : RulesView
no_rules = record { cfa = None; return_address = None; frame_pointer = None; stack_pointer = None }

-- after what a change gives
abbrev pub given_by : Change → RulesView → RulesView
given_by change rules = record {
  cfa = option_or (given_to Cfa change) rules.cfa;
  return_address = option_or (given_to (Register (return_address Amd64)) change) rules.return_address;
  frame_pointer = option_or (given_to (Register (frame_pointer Amd64)) change) rules.frame_pointer;
  stack_pointer = option_or (given_to (Register (stack_pointer Amd64)) change) rules.stack_pointer;
}

-- after a change; none if the function has another row
abbrev pub changed : Change → RulesView → Option RulesView
changed change rules = if keeps_row change then Some (given_by change rules) else None

-- after an item; none if it can't be read
abbrev pub after_item : Item → RulesView → Option RulesView
after_item (Ok x) rules = changed (change_by x.1) rules
after_item (Err e) rules = None

-- after all items
unfoldable pub rules_by : List Item → RulesView → Option RulesView
rules_by [] rules = Some rules
rules_by (x ∷ items) rules = option_and_then (λ (r : RulesView). rules_by items r) (after_item x rules)
