-- What was linked is what linking comes to.
use Rattle.std.proofs.Common.{◌≡◌, ℕ, List, Option, Some, None, Result, Ok, Err, refl, ap, sym, subst, inl, inr}
use Rattle.sf_model.specs.declared.machine.Arch.{Arch}
use Rattle.sf_model.specs.declared.omission.Omitted.{Omitted}
use Rattle.sf_model.specs.declared.omission.Span.{Span}
use Rattle.sf_model.specs.Section.{AreBytes}
use Rattle.sf_asm.specs.declared.fault.LinkFault.{LinkFault}
use Rattle.sf_asm.specs.declared.fault.LinkFault.TheVariants as link_fault
use Rattle.sf_asm.specs.Answers.{IsFirstLinked, IsLinked}
use Rattle.sf_asm.specs.Linking.{Links, LinksFrom}
use Rattle.sf_asm.specs.declared.fault.GatherFault.{GatherFault}
use Rattle.frame_functions.specs.Functions.{Function}
use Rattle.sf_asm.specs.Functions.{Object, functions_of}
use Rattle.sf_asm.specs.Inputs.{machines_of, mixed_fault, first_item}
use Rattle.sf_asm.specs.Linking.{unless_fault}
use Rattle.sf_asm.proofs.Described.{described, to_links}
use Rattle.sf_asm.proofs.GatheredInputs.{by_parts}
use Rattle.sf_asm.proofs.Machines.{one_is_unmixed}
use Rattle.sf_plt.specs.Answers.{IsFirstPltLinked, IsPltLinked}
use Rattle.sf_plt.specs.Linking.{LinksPlts, LinksPltsFrom, unless_fault as unless_plt_fault}
use Rattle.sf_plt.proofs.Described.{to_links as to_plt_links}
use Rattle.sf_text.specs.PltReport.{plt_report_text}
use Rattle.sf_words.specs.declared.refusal.Refusal.{Refusal}
use Rattle.sf_words.specs.declared.refusal.Refusal.TheVariants as refusal
use Rattle.section_commands.specs.declared.made.Outcome.TheVariants.{Done}
use Rattle.section_commands.specs.Coming.{Coming, Makes}
use Rattle.section_commands.specs.Making.{ComesAs}
use Rattle.section_commands.proofs.Making.{comes_as, memory_comes}
use Rattle.sf_run.specs.LinkPlt.{ObjectsCome}
use Rattle.sf_run.specs.Linked.{LinkedComes, Makings, coming_of_linking}

-- ---- link
by_parts_are : (given : Result (List Function) GatherFault) (mixed : Option GatherFault) (functions : List Function) → given ≡ Ok functions → mixed ≡ None → by_parts given mixed ≡ Ok functions
by_parts_are (Ok others) None functions e f = e
by_parts_are (Ok others) (Some fault) functions e f = cc
by_parts_are (Err fault) mixed functions e f = cc

links_of : (before : Option Arch) (objects : List Object) (at : ℕ) (section : List ℕ) (kept : ℕ) (omitted : List Omitted) → (h : IsLinked before objects at section kept omitted) → Links before objects at (Ok h.ordered)
links_of before objects at section kept omitted h =
    let given = by_parts_are (functions_of (first_item before) objects) (mixed_fault before objects) h.functions (described (first_item before) objects (Ok h.functions) h.are) (one_is_unmixed h.arch (machines_of before objects) h.machine) in
    to_links before objects at (Ok h.ordered) (subst (λ (g : Result (List Function) GatherFault). LinksFrom at g (Ok h.ordered)) (sym given)
    (h.ordered, h.in_order, sym (ap (λ (fault : Option LinkFault). unless_fault fault h.ordered) h.accepted)))

pub linked_comes : (before : Option Arch) (objects : List Object) (at : ℕ) (made : Makings) (section : List ℕ) (kept : ℕ) (omitted : List Omitted) → (h : IsLinked before objects at section kept omitted) → AreBytes section
    → LinkedComes before objects at made (made h.functions section kept omitted)
linked_comes before objects at made section kept omitted h bytes = record {
  result = Ok h.ordered;
  links = links_of before objects at section kept omitted h;
  comes = record { section = section; kept = kept; omitted = omitted; are_bytes = bytes; linked = h; is = refl };
}

-- a fault of linking is what it comes to, unless memory ran out
pub unlinked_comes : (before : Option Arch) (objects : List Object) (at : ℕ) (made : Makings) (fault : LinkFault) (refused : Refusal) → IsFirstLinked before objects at fault
    → (fault ≡ link_fault.NoMemory → refused ≡ refusal.Memory) → ComesAs (λ (c : Coming). c ≡ coming_of_linking fault) refused → ComesAs (LinkedComes before objects at made) refused
unlinked_comes before objects at made fault refused (inl none) memory tells = memory_comes (LinkedComes before objects at made) refused (memory none)
unlinked_comes before objects at made fault refused (inr first) memory tells =
    comes_as (λ (c : Coming). c ≡ coming_of_linking fault) (LinkedComes before objects at made) (λ c e. record { result = Err fault; links = first; comes = e }) refused tells

-- ---- linkplt
pub plt_links_of : (objects : List Object) (at : ℕ) (section : List ℕ) (kept : ℕ) (omitted : List Omitted) (plts : List Span) → (h : IsPltLinked None objects at section kept omitted plts) → LinksPlts None objects at (Ok h.sorted)
plt_links_of objects at section kept omitted plts h =
    let given = by_parts_are (functions_of (first_item None) objects) (mixed_fault None objects) h.functions (described (first_item None) objects (Ok h.functions) h.are) (one_is_unmixed h.arch (machines_of None objects) h.machine) in
    to_plt_links None objects at (Ok h.sorted) (subst (λ (g : Result (List Function) GatherFault). LinksPltsFrom at g (Ok h.sorted)) (sym given)
    (h.sorted, h.by_start, sym (ap (λ (fault : Option LinkFault). unless_plt_fault fault h.sorted) h.accepted)))

pub plt_linked_comes : (objects : List Object) (at : ℕ) (section : List ℕ) (kept : ℕ) (omitted : List Omitted) (plts : List Span) → IsPltLinked None objects at section kept omitted plts → AreBytes section
    → ObjectsCome objects at (Makes Done (Some section) (plt_report_text kept omitted plts))
plt_linked_comes objects at section kept omitted plts h bytes = record {
  result = Ok h.sorted;
  links = plt_links_of objects at section kept omitted plts h;
  comes = record { section = section; kept = kept; omitted = omitted; plts = plts; are_bytes = bytes; linked = h; is = refl };
}

pub plt_unlinked_comes : (objects : List Object) (at : ℕ) (fault : LinkFault) (refused : Refusal) → IsFirstPltLinked None objects at fault
    → (fault ≡ link_fault.NoMemory → refused ≡ refusal.Memory) → ComesAs (λ (c : Coming). c ≡ coming_of_linking fault) refused → ComesAs (ObjectsCome objects at) refused
plt_unlinked_comes objects at fault refused (inl none) memory tells = memory_comes (ObjectsCome objects at) refused (memory none)
plt_unlinked_comes objects at fault refused (inr first) memory tells =
    comes_as (λ (c : Coming). c ≡ coming_of_linking fault) (ObjectsCome objects at) (λ c e. record { result = Err fault; links = first; comes = e }) refused tells
