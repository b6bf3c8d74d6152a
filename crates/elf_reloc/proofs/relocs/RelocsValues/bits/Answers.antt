use Rattle.std.proofs.Common.{◌≡◌, ℕ, ◌==◌, Bool, true, false, List, Option, Some, None, ap, sym, ◌∙◌, if◌then◌else◌, eq-eqb, ne_eqb}
use Rattle.elf_reloc.specs.declared.fix.RelocatedField.{RelocatedField}
use Rattle.elf_reloc.specs.Fields.{bits_by, bits_in, fix_bits}
use Rattle.elf_reloc.specs.Order.{first_at, place_of}
use Rattle.elf_reloc.specs.Table.{width_of}
use Rattle.elf_reloc.specs.Views.{fixes_in}
use Rattle.elf_reloc.proofs.Checked.{one_holds}
use Rattle.elf_reloc.proofs.relocs.RelocsValues.bits.Goals as goal

by_found : (fixes list : List RelocatedField) (place width raw : ℕ) (found given : Option RelocatedField) → list ≡ fixes → found ≡ first_at place_of place list → found ≡ given → bits_by given width raw ≡ bits_in fixes place width raw
by_found fixes list place width raw found given same at is = ap (λ (o : Option RelocatedField). bits_by o width raw) (sym is ∙ at ∙ ap (first_at place_of place) same)

by_width : (f : RelocatedField) (width raw : ℕ) (b : Bool) → (width_of f.range == width) ≡ b → (if b then fix_bits f else Some raw) ≡ bits_by (Some f) width raw
by_width f width raw b is = ap (λ (c : Bool). if c then fix_bits f else Some raw) (sym is)

pub returns-in-Some-clause-holds : goal.returns-in-Some-clause-holds
returns-in-Some-clause-holds c = λ p section fields reads apart raw lie among.
    let f = c.in-Some.fix in
    let g = c.args.field in
    let by = by_found (fixes_in c.args.self.now) c.deref.result.now g.place g.width g.raw c.find_at.result (Some f) c.deref.ensures.value c.find_at.ensures c.in-Some.is in
    let width = by_width f g.width g.raw true (eq-eqb (width_of f.range) g.width (sym c.width_of.ensures ∙ c.if-width_of-field.true)) in
    one_holds p section (fixes_in c.args.self.now) fields g c.fix_bits.result (c.fix_bits.ensures.value ∙ width ∙ by) reads apart raw lie among

pub returns-in_default-clause-holds : goal.returns-in_default-clause-holds
returns-in_default-clause-holds c = λ p section fields reads apart raw lie among.
    let f = c.in-Some.fix in
    let g = c.args.field in
    let by = by_found (fixes_in c.args.self.now) c.deref.result.now g.place g.width g.raw c.find_at.result (Some f) c.deref.ensures.value c.find_at.ensures c.in-Some.is in
    let width = by_width f g.width g.raw false (ne_eqb (width_of f.range) g.width (λ same. c.if-width_of-field.false (c.width_of.ensures ∙ same))) in
    one_holds p section (fixes_in c.args.self.now) fields g (Some g.raw) (width ∙ by) reads apart raw lie among

pub returns-in_default-2-clause-holds : goal.returns-in_default-2-clause-holds
returns-in_default-2-clause-holds c = λ p section fields reads apart raw lie among.
    let g = c.args.field in
    let by = by_found (fixes_in c.args.self.now) c.deref.result.now g.place g.width g.raw c.find_at.result None c.deref.ensures.value c.find_at.ensures c.in_default.is in
    one_holds p section (fixes_in c.args.self.now) fields g (Some g.raw) by reads apart raw lie among
