use Rattle.std.proofs.Common.{◌≡◌, ◌&&◌, ◌∷◌, ◌++◌, ◌^◌, ◌+◌, ℕ, [], ap, length, subst, sym, ◌∙◌}
use Rattle.std.specs.Prelude.{min, nat_le, nat_lt}
use Rattle.frame_functions.specs.declared.read_function.ReadFunction.{ReadFunction}
use Rattle.frame_functions.specs.declared.read.ReadFunctions.{ReadFunctions}
use Rattle.frame_functions.specs.declared.read.ReadFunctions.TheVariants.{Past}
use Rattle.frame_functions.specs.Numbers.{AreNumbered}
use Rattle.frame_functions.specs.Order.{read_rows}
use Rattle.frame_functions.specs.ReadSoFar.{AreCounted, AreHeld, AreReadSoFar, counted_in}
use Rattle.frame_functions.specs.Descriptions.{DescriptionsView, function_by_span}
use Rattle.frame_functions.proofs.ReadSoFar.{one_counted, one_held, one_too_many, has_room}
use Rattle.frame_functions.proofs.section.add_function.Goals as goal
use Rattle.frame_functions.proofs.section.add_function.Goals.{in-Within+else-has_room, in_default}

pub returns-then-has_room-clause-reads : goal.returns-then-has_room-clause-reads
returns-then-has_room-clause-reads c = λ before h.
    let f = function_by_span c.args.section.now.arch c.args.fde.now c.args.entry.span in
    let held : AreHeld c.args.lending c.in-Within.held before = subst (λ (r : ReadFunctions). AreReadSoFar c.args.lending r before) c.in-Within.is h in
    let room = has_room c.in-Within.held.entries (read_rows c.args.entry) c.in-Within.held.rows_left (sym c.has_room.ensures ∙ c.if-has_room.true) in
    one_held c.args.lending c.in-Within.held c.add.new.self before f c.args.entry held c.requires.function room c.in_ok-add.ensures.entries c.in_ok-add.ensures.rows
    (λ asked. ap (λ (v : DescriptionsView). v.functions) c.in_ok-add.ensures.descriptions ∙ c.in_ok-lend.ensures.lent asked)

pub returns-clause-reads : goal.returns-clause-reads
returns-clause-reads c = λ before h.
    let f = function_by_span c.args.section.now.arch c.args.fde.now c.args.entry.span in
    elim c.match-read.branch [
      | in-Within+else-has_room w ↦
          let held : AreHeld c.args.lending w.in-Within.held before = subst (λ (r : ReadFunctions). AreReadSoFar c.args.lending r before) w.in-Within.is h in
          let same : counted_in c.match-read.read ≡ length w.in-Within.held.entries = ap counted_in w.read-is in
          let full = ap (λ (e : ReadFunction). nat_lt (length w.in-Within.held.entries) (2 ^ 21) && nat_le (read_rows e) w.in-Within.held.rows_left) c.requires.function ∙ sym w.has_room.ensures ∙ w.if-has_room.false in
          subst (λ (r : ReadFunctions). AreReadSoFar c.args.lending r (before ++ f ∷ [])) (sym (c.count.ensures ∙ ap (λ (n : ℕ). Past (min n (2 ^ 21) + 1)) same))
          (one_too_many c.args.lending w.in-Within.held before f held full)
      | in_default w ↦
          let counted : AreCounted w.in_default.field-0 before = subst (λ (r : ReadFunctions). AreReadSoFar c.args.lending r before) w.in_default.is h in
          let same : counted_in c.match-read.read ≡ w.in_default.field-0 = ap counted_in w.read-is ∙ ap counted_in w.in_default.is in
          subst (λ (r : ReadFunctions). AreReadSoFar c.args.lending r (before ++ f ∷ [])) (sym (c.count.ensures ∙ ap (λ (n : ℕ). Past (min n (2 ^ 21) + 1)) same))
          (one_counted w.in_default.field-0 before f counted)
    ]

pub returns-then-has_room-clause-numbered : goal.returns-then-has_room-clause-numbered
returns-then-has_room-clause-numbered c =
    subst (λ (v : DescriptionsView). AreNumbered c.args.section.now.arch c.args.section.now.bytes.now c.lend.new.numbers v.common) (sym c.in_ok-add.ensures.descriptions) c.in_ok-lend.ensures.numbered
