-- Inputs that can be linked are those of which a run of `link` refuses nothing.
use Rattle.std.proofs.Common.{◌≡◌, ℕ, List, Option, Some, None, Result, Ok, Err, refl, sym, subst}
use Rattle.sf_asm.specs.Accepted.{IsAccepted}
use Rattle.frame_functions.specs.declared.read_function.ReadFunction.{ReadFunction}
use Rattle.sf_asm.specs.declared.fault.GatherFault.TheVariants as gather
use Rattle.sf_asm.specs.declared.fault.LinkFault.{LinkFault}
use Rattle.sf_asm.specs.declared.fault.LinkFault.TheVariants as link
use Rattle.sf_asm.specs.Linking.{Links}
use Rattle.sf_asm.proofs.Accepting.{accepted_links, links_accepted}
use Rattle.sf_asm.proofs.OneOrder.{one_result}
use Rattle.sf_words.specs.declared.refusal.Limit.{Limit}
use Rattle.sf_words.specs.Forms.{SectionAndInputs}
use Rattle.section_commands.specs.Coming.{Coming, ComesWithin, Exceeded, MakesNoting, Refused}
use Rattle.sf_run.specs.Comes.{Comes, RefusesNothing, command_limit}
use Rattle.sf_run.specs.Commands.{CommandComes, CommandWords, Link}
use Rattle.sf_run.specs.Inputs.{objects_in}
use Rattle.sf_run.specs.Link.{LinkComes, section_and_report}
use Rattle.sf_run.specs.Linked.{LinkedComesFrom, MakesLinked, coming_of_link_fault, coming_of_linking}
use Rattle.sf_run.proofs.SomeLinked.{links_some}

-- it is a refusal, or a limit
abbrev pub Refuses : Coming → Type 0
Refuses (Refused shown) = Unit {0}
Refuses (Exceeded limit) = Unit {0}
Refuses (MakesNoting outcome section text notes) = ⊥

refuted : (command : CommandWords) (items : List (List ℕ)) → RefusesNothing command items → (coming : Coming) → Refuses coming → Comes command items coming → ⊥
refuted command items nothing (Refused shown) is h = nothing.accepted shown h
refuted command items nothing (Exceeded limit) is h = nothing.within limit h
refuted command items nothing (MakesNoting outcome section text notes) is h = is

-- no limit of loading is exceeded where nothing is refused
no_limit : (command : CommandWords) (items : List (List ℕ)) → RefusesNothing command items → command_limit command items ≡ None
no_limit command items nothing = at_limit (command_limit command items) refl
  where
    at_limit : (limit : Option Limit) → command_limit command items ≡ limit → command_limit command items ≡ None
    at_limit None e = e
    at_limit (Some limit) e = absurd (nothing.within limit (subst (λ (l : Option Limit). ComesWithin l (CommandComes command items) (Exceeded limit)) (sym e) refl))

pub linking_refuses : (item : Option ℕ) (fault : LinkFault) → Refuses (coming_of_link_fault item fault)
linking_refuses item link.NoMemory = tt
linking_refuses item (link.OutOfReach start) = tt
linking_refuses item (link.Gather gather.NoMemory) = tt
linking_refuses item (link.Gather gather.TooManyFunctions) = tt
linking_refuses item (link.Gather gather.TooManyRows) = tt
linking_refuses item (link.Gather (gather.Input number fault)) = tt
linking_refuses item (link.Gather (gather.MixedArch first number)) = tt
linking_refuses item (link.Gather (gather.Overlap s i t j)) = tt

makes_of : (link : SectionAndInputs) (items : List (List ℕ)) (ordered : List ReadFunction) → Links None (objects_in link.inputs items) link.section.at (Ok ordered) → (coming : Coming) → LinkComes link items coming
    → MakesLinked None (objects_in link.inputs items) link.section.at section_and_report coming
makes_of link items ordered links coming h =
    let objects = objects_in link.inputs items in
    subst (λ (r : Result (List ReadFunction) LinkFault). LinkedComesFrom None objects link.section.at section_and_report r coming) (one_result None objects link.section.at h.result (Ok ordered) h.links links) h.comes

no_refusal : (link : SectionAndInputs) (items : List (List ℕ)) (coming : Coming) → Refuses coming → MakesLinked None (objects_in link.inputs items) link.section.at section_and_report coming → ⊥
no_refusal link items coming is made = subst Refuses made.is is

pub accepted_refuse_nothing : (link : SectionAndInputs) (items : List (List ℕ)) → command_limit (Link link) items ≡ None → IsAccepted None (objects_in link.inputs items) link.section.at → RefusesNothing (Link link) items
accepted_refuse_nothing link items within h = record {
  within = λ limit comes. no_refusal link items (Exceeded limit) tt (made (Exceeded limit) comes);
  accepted = λ shown comes. no_refusal link items (Refused shown) tt (made (Refused shown) comes);
}
  where
    made : (coming : Coming) → Comes (Link link) items coming → MakesLinked None (objects_in link.inputs items) link.section.at section_and_report coming
    made coming comes =
        makes_of link items h.ordered (accepted_links None (objects_in link.inputs items) link.section.at h) coming
        (subst (λ (l : Option Limit). ComesWithin l (CommandComes (Link link) items) coming) within comes)

pub nothing_refused_is_accepted : (link : SectionAndInputs) (items : List (List ℕ)) → RefusesNothing (Link link) items → (command_limit (Link link) items ≡ None) × IsAccepted None (objects_in link.inputs items) link.section.at
nothing_refused_is_accepted link items nothing = (within, accepted (links_some (objects_in link.inputs items) link.section.at))
  where
    within : command_limit (Link link) items ≡ None
    within = no_limit (Link link) items nothing

    accepted : (result : Result (List ReadFunction) LinkFault) × Links None (objects_in link.inputs items) link.section.at result → IsAccepted None (objects_in link.inputs items) link.section.at
    accepted (Ok ordered, links) = links_accepted None (objects_in link.inputs items) link.section.at ordered links
    accepted (Err fault, links) =
        absurd (refuted (Link link) items nothing (coming_of_linking fault) (linking_refuses None fault)
        (subst (λ (l : Option Limit). ComesWithin l (CommandComes (Link link) items) (coming_of_linking fault)) (sym within) record { result = Err fault; links = links; comes = refl }))
