use Rattle.std.proofs.Common.{◌≡◌, ℕ, List, ◌∷◌, Ok, [], ap, sym, subst, ◌∙◌}
use Rattle.std.specs.List.{All}
use Rattle.std.proofs.lemmas.List.Elements.{All-tail}
use Rattle.std.specs.Prelude.{IsTrue}
use Rattle.sf_model.specs.Function.{key_fits}
use Rattle.sf_model.specs.declared.machine.Arch.{Arch}
use Rattle.eh_records.specs.Fde.{FdeView, fde_view}
use Rattle.eh_records.specs.Named.{HasNamed}
use Rattle.eh_records.specs.Section.{frames}
use Rattle.eh_records.specs.View.{bytes_of, entries, frames_left}
use Rattle.frame_functions.specs.Functions.{functions_in}
use Rattle.frame_functions.specs.Descriptions.{function_by_span}
use Rattle.frame_functions.specs.Views.{overlaid, seen_section, written_by}
use Rattle.frame_functions.proofs.CommonParts.{none_numbered}
use Rattle.frame_functions.proofs.Lending.{one_entry}
use Rattle.frame_functions.proofs.FunctionsOfSection.{kept_on, passed_on}
use Rattle.frame_functions.proofs.ReadSoFar.{begins, goes_on, is_done, passes_on, then_more}
use Rattle.frame_functions.proofs.section.read_frames.Goals as goal

pub loop-fde-init : goal.loop-fde-init
loop-fde-init c =
    let left : frames_left c.into_iter-fde-iterator.result ≡ frames (entries c.args.records.now) = ap frames_left c.into_iter-fde-iterator.ensures.into_iter_gives ∙ c.fdes-fde-items.ensures.gives in
    let keys : All (λ (f : FdeView). IsTrue (key_fits c.args.section.now.arch f.cie.key)) (frames (entries c.args.records.now)) =
    subst (λ (arch : Arch). All (λ (f : FdeView). IsTrue (key_fits arch f.cie.key)) (frames (entries c.args.records.now))) c.requires.machine c.fdes-fde-items.ensures.keys in
    let named : All (HasNamed c.args.section.now.arch c.args.section.now.bytes.now) (frames (entries c.args.records.now)) =
    subst (λ (section : List ℕ). All (HasNamed c.args.section.now.arch section) (frames (entries c.args.records.now))) c.requires.bytes
    (subst (λ (arch : Arch). All (HasNamed arch (bytes_of c.args.records.now)) (frames (entries c.args.records.now))) c.requires.machine c.fdes-fde-items.ensures.named) in
    record {
      sound = λ h. h;
      keys = subst (λ (fs : List FdeView). All (λ (f : FdeView). IsTrue (key_fits c.args.section.now.arch f.cie.key)) fs) (sym left) keys;
      named = subst (λ (fs : List FdeView). All (HasNamed c.args.section.now.arch c.args.section.now.bytes.now) fs) (sym left) named;
      initials = c.new-initials.ensures c.args.section.now.arch c.args.section.now.bytes.now;
      numbered = none_numbered c.args.section.now.arch c.args.section.now.bytes.now c.new-numbers.result c.args.read.now (c.new-numbers.ensures c.args.section.now.arch c.args.section.now.bytes.now);
      reads = λ relocations. begins c.args.lending c.args.read.now _ _ (ap (functions_in c.args.section.now.arch c.args.section.now.item (seen_section c.args.section.now relocations) (overlaid (written_by c.args.overlay.now))) left);
    }

pub loop-fde-preserved-then-dropped : goal.loop-fde-preserved-then-dropped
loop-fde-preserved-then-dropped c =
    let left : frames_left c.loop-fde.fde-iterator ≡ fde_view c.in-Some.fde ∷ frames_left c.next.new.self = c.in-Some.ensures.steps in
    let keys : All (λ (f : FdeView). IsTrue (key_fits c.args.section.now.arch f.cie.key)) (fde_view c.in-Some.fde ∷ frames_left c.next.new.self) = rw left at c.loop-fde.invariant.keys in
    let named : All (HasNamed c.args.section.now.arch c.args.section.now.bytes.now) (fde_view c.in-Some.fde ∷ frames_left c.next.new.self) = rw left at c.loop-fde.invariant.named in
    record {
      sound = c.loop-fde.invariant.sound;
      keys = All-tail (λ (f : FdeView). IsTrue (key_fits c.args.section.now.arch f.cie.key)) (fde_view c.in-Some.fde) (frames_left c.next.new.self) keys;
      named = All-tail (HasNamed c.args.section.now.arch c.args.section.now.bytes.now) (fde_view c.in-Some.fde) (frames_left c.next.new.self) named;
      initials = c.loop-fde.invariant.initials;
      numbered = c.loop-fde.invariant.numbered;
      reads = λ relocations.
          let section = seen_section c.args.section.now relocations in
          let values = overlaid (written_by c.args.overlay.now) in
          passes_on c.args.lending c.args.read.now c.loop-fde.read _ _ _ (c.loop-fde.invariant.reads relocations)
          (ap (functions_in c.args.section.now.arch c.args.section.now.item section values) left
          ∙ passed_on c.args.section.now.arch c.args.section.now.item section values (fde_view c.in-Some.fde) (frames_left c.next.new.self) (sym c.dropped.ensures ∙ c.if-dropped.true));
    }

pub add_function-requires-clause-function : goal.add_function-requires-clause-function
add_function-requires-clause-function c = one_entry _ c.in_ok-entry.entry _ (c.in_ok-entry.ensures.exact (Ok [])) (c.in_ok-entry.ensures.function (Ok []))

pub loop-fde-preserved : goal.loop-fde-preserved
loop-fde-preserved c =
    let left : frames_left c.loop-fde.fde-iterator ≡ fde_view c.in-Some.fde ∷ frames_left c.next.new.self = c.in-Some.ensures.steps in
    let keys : All (λ (f : FdeView). IsTrue (key_fits c.args.section.now.arch f.cie.key)) (fde_view c.in-Some.fde ∷ frames_left c.next.new.self) = rw left at c.loop-fde.invariant.keys in
    let named : All (HasNamed c.args.section.now.arch c.args.section.now.bytes.now) (fde_view c.in-Some.fde ∷ frames_left c.next.new.self) = rw left at c.loop-fde.invariant.named in
    let f = function_by_span c.args.section.now.arch c.in-Some.fde c.in_ok-entry.entry.span in
    record {
      sound = λ h. c.in_ok-add_function.ensures.sound (c.loop-fde.invariant.sound h);
      keys = All-tail (λ (f : FdeView). IsTrue (key_fits c.args.section.now.arch f.cie.key)) (fde_view c.in-Some.fde) (frames_left c.next.new.self) keys;
      named = All-tail (HasNamed c.args.section.now.arch c.args.section.now.bytes.now) (fde_view c.in-Some.fde) (frames_left c.next.new.self) named;
      initials = c.in_ok-add_function.ensures.initials;
      numbered = c.in_ok-add_function.ensures.numbered;
      reads = λ relocations.
          let section = seen_section c.args.section.now relocations in
          let values = overlaid (written_by c.args.overlay.now) in
          goes_on c.args.lending c.args.read.now c.loop-fde.read c.add_function.new.read (f ∷ []) _ _ _ (c.loop-fde.invariant.reads relocations)
          (ap (functions_in c.args.section.now.arch c.args.section.now.item section values) left
          ∙ kept_on c.args.section.now.arch c.args.section.now.item section values (fde_view c.in-Some.fde) (frames_left c.next.new.self) (sym c.dropped.ensures ∙ c.if-dropped.false)
          ∙ then_more _ f (functions_in c.args.section.now.arch c.args.section.now.item section values (frames_left c.next.new.self)) (c.in_ok-entry.ensures.function relocations))
          c.in_ok-add_function.ensures.reads;
    }

pub returns-clause-exact : goal.returns-clause-exact
returns-clause-exact c = λ relocations.
    is_done c.args.lending c.args.read.now c.loop-fde.read _ _ (c.loop-fde.invariant.reads relocations)
    (ap (functions_in c.args.section.now.arch c.args.section.now.item (seen_section c.args.section.now relocations) (overlaid (written_by c.args.overlay.now))) c.in-None.ensures.steps.0)
