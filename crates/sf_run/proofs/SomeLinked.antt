-- Linking comes to something.
use Rattle.std.specs.Cmp.{nat_cmp_total}
use Rattle.std.specs.Ordering.{is_lt, nat_cmp}
use Rattle.std.specs.Option.{option_map}
use Rattle.std.proofs.Common.{◌≡◌, ℕ, Bool, List, All, length, map, get_or, Option, Some, None, Result, Ok, Err, refl, subst}
use Rattle.std.proofs.lemmas.List.Elements.{All-map, All-tail}
use Rattle.std.proofs.lemmas.List.Sorted.{All-permutation, IsNonDecreasingBy-from_sort, ranks_by}
use Rattle.sf_model.specs.declared.machine.Arch.{Arch}
use Rattle.sf_model.specs.Section.{AreBytes}
use Rattle.sf_write.specs.Reach.{first_out_of_reach}
use Rattle.sf_write.specs.Section.{section_bytes}
use Rattle.sf_write.proofs.NumbersFit.{some_section}
use Rattle.elf_read.specs.Header.{arch_of}
use Rattle.core_notes.specs.declared.fault.CoreFault.{CoreFault}
use Rattle.sf_merge.proofs.Insertion.{moved, ordered, sorted, stable}
use Rattle.frame_functions.specs.declared.read_function.ReadFunction.{ReadFunction}
use Rattle.sf_asm.specs.declared.fault.GatherFault.{GatherFault}
use Rattle.sf_asm.specs.declared.fault.LinkFault.{LinkFault}
use Rattle.sf_asm.specs.declared.fault.LinkFault.TheVariants.{Gather, OutOfReach}
use Rattle.sf_asm.specs.Answers.{IsLinked}
use Rattle.frame_functions.specs.ReadFunction.{IsSound, kept_of, omitted_of}
use Rattle.frame_functions.specs.Functions.{Function}
use Rattle.sf_asm.specs.Functions.{Object, machine_of}
use Rattle.sf_asm.specs.Inputs.{HaveMachine, all_functions, first_item}
use Rattle.frame_functions.specs.Kept.{read_of}
use Rattle.frame_functions.specs.Order.{InOrder, start_of}
use Rattle.sf_asm.specs.Linking.{GathersFrom, Links, LinksFrom, functions_fault, link_fault, or_later, unless_fault}
use Rattle.sf_asm.proofs.Accepting.{links_accepted}
use Rattle.sf_asm.proofs.Described.{from_links, to_gathers, to_links}
use Rattle.sf_asm.proofs.FaithfulSections.{linked}
use Rattle.sf_asm.proofs.GatheredInputs.{are_read}
use Rattle.sf_asm.proofs.Kept.{kept_of_checked}
use Rattle.section_commands.specs.Coming.{Coming}
use Rattle.section_commands.specs.Walks.{coming_of_core}
use Rattle.sf_run.specs.Backtrace.{BacktraceComesFrom, section_and_walks}
use Rattle.sf_run.specs.Linked.{LinkedComes, LinkedComesFrom, Makings, coming_of_linking}
use Rattle.sf_run.proofs.KeptFit.{OutcomeFits, all_kept_fit, entry_fits, entry_sound, functions_read}

-- ---- linking
in_order : (functions : List Function) → (es : List ReadFunction) × InOrder (map read_of functions) es
in_order functions =
    let before : ReadFunction → ReadFunction → Bool = λ a b. is_lt (nat_cmp (start_of a) (start_of b)) in
    let ranked = ranks_by nat_cmp_total start_of in
    let all = map read_of functions in (
      ordered before ranked all,
      record {
        moved = moved before ranked all;
        rising = IsNonDecreasingBy-from_sort start_of (ordered before ranked all) (sorted before ranked all);
        stable = stable before ranked all;
      },
    )

some_from : (at : ℕ) (given : Result (List Function) GatherFault) → (result : Result (List ReadFunction) LinkFault) × LinksFrom at given result
some_from at (Ok functions) = let o = in_order functions in (unless_fault (link_fault at o.0) o.0, (o.0, o.1, refl))
some_from at (Err fault) = (Err (Gather fault), refl)

-- linking inputs comes to a result
pub some_links : (before : Option Arch) (objects : List Object) (at : ℕ) → (result : Result (List ReadFunction) LinkFault) × Links before objects at result
some_links before objects at = let some = some_from at (all_functions before objects) in (some.0, to_links before objects at some.0 some.1)

pub links_some : (objects : List Object) (at : ℕ) → (result : Result (List ReadFunction) LinkFault) × Links None objects at result
links_some objects at = some_links None objects at

-- what was linked was gathered, and each start is in reach
record WereGathered (at : ℕ) (given : Result (List Function) GatherFault) (entries : List ReadFunction) : Type 0 where
  gathered : GathersFrom given (Ok entries)
  near : first_out_of_reach at 0 (kept_of entries) ≡ None

by_faults : (at : ℕ) (functions : List Function) (entries others : List ReadFunction) (gather : Option GatherFault) (far : Option ℕ) → InOrder (map read_of functions) others → functions_fault others ≡ gather → first_out_of_reach at 0 (kept_of others) ≡ far
    → Ok entries ≡ unless_fault (or_later (option_map Gather gather) (option_map OutOfReach far)) others → WereGathered at (Ok functions) entries
by_faults at functions entries others None None order p q e =
    let is : others ≡ entries = cc in
    let clear : functions_fault entries ≡ None = subst (λ (es : List ReadFunction). functions_fault es ≡ None) is p in
    let same : Ok entries ≡ unless_fault (functions_fault entries) entries = rw clear refl in
    record {
      gathered = (entries, subst (InOrder (map read_of functions)) is order, same);
      near = subst (λ (es : List ReadFunction). first_out_of_reach at 0 (kept_of es) ≡ None) is q;
    }
by_faults at functions entries others None (Some start) order p q e = cc
by_faults at functions entries others (Some fault) far order p q e = cc

were_gathered : (at : ℕ) (given : Result (List Function) GatherFault) (entries : List ReadFunction) → LinksFrom at given (Ok entries) → WereGathered at given entries
were_gathered at (Ok functions) entries (others, order, e) =
    by_faults at functions entries others (functions_fault others) (first_out_of_reach at 0 (kept_of others)) order refl refl e
were_gathered at (Err fault) entries e = cc

inputs_have : (before : Option Arch) (objects : List Object) (arch : Arch) → HaveMachine before objects arch → All (λ (machine : Arch). machine ≡ arch) (map machine_of objects)
inputs_have None objects arch h = h
inputs_have (Some first) objects arch h = All-tail (λ (machine : Arch). machine ≡ arch) first (map machine_of objects) h

-- inputs that can be linked have a section
record LinkedSection (before : Option Arch) (objects : List Object) (at : ℕ) : Type 0 where
  section : List ℕ
  kept : ℕ
  entries : List ReadFunction
  are_bytes : AreBytes section
  linked : IsLinked before objects at section kept (omitted_of entries)

some_linked_section : (before : Option Arch) (objects : List Object) (at : ℕ) (entries : List ReadFunction) → Links before objects at (Ok entries) → LinkedSection before objects at
some_linked_section before objects at entries h =
    let were = were_gathered at (all_functions before objects) entries (from_links before objects at (Ok entries) h) in
    let read = are_read before objects entries (to_gathers before objects (Ok entries) were.gathered) in
    let accepted = (links_accepted before objects at entries h).gathered in
    let arch = accepted.arch in
    let functions = functions_read arch (first_item before) objects read.functions (inputs_have before objects arch accepted.machine) read.are in
    let sound = All-permutation (IsSound arch) (map read_of read.functions) entries read.in_order.moved
    (All-map (IsSound arch) read_of read.functions (λ k d lt. entry_sound arch (get_or read.functions k d) (functions k d lt))) in
    let fits = All-permutation (λ (e : ReadFunction). OutcomeFits e.outcome) (map read_of read.functions) entries read.in_order.moved
    (All-map (λ (e : ReadFunction). OutcomeFits e.outcome) read_of read.functions (λ k d lt. entry_fits (get_or read.functions k d))) in
    let made = some_section arch at (kept_of entries) (kept_of_checked arch entries sound read.checked) (all_kept_fit entries fits) were.near in
    record {
      section = section_bytes arch at (kept_of entries);
      kept = length (kept_of entries);
      entries = entries;
      are_bytes = made.0;
      linked = linked before objects at (section_bytes arch at (kept_of entries)) (length (kept_of entries)) arch (kept_of entries) (omitted_of entries) entries (to_gathers before objects (Ok entries) were.gathered) accepted.machine
          refl refl made.1.section made.1 made.2 were.near refl;
    }

some_linking : (before : Option Arch) (objects : List Object) (at : ℕ) (made : Makings) (result : Result (List ReadFunction) LinkFault) → Links before objects at result → (coming : Coming) × LinkedComesFrom before objects at made result coming
some_linking before objects at made (Err fault) h = (coming_of_linking fault, refl)
some_linking before objects at made (Ok entries) h =
    let s = some_linked_section before objects at entries h in
    (_, record { section = s.section; kept = s.kept; omitted = omitted_of s.entries; are_bytes = s.are_bytes; linked = s.linked; is = refl })

pub some_linked : (before : Option Arch) (objects : List Object) (at : ℕ) (made : Makings) → (coming : Coming) × LinkedComes before objects at made coming
some_linked before objects at made =
    let links = some_links before objects at in
    let comes = some_linking before objects at made links.0 links.1 in
    (comes.0, record { result = links.0; links = links.1; comes = comes.1 })

pub some_backtrace : (objects : List Object) (at : ℕ) (core : List ℕ) (depth : ℕ) (check : Result (Unit {0}) CoreFault) → (coming : Coming) × BacktraceComesFrom objects at core depth check coming
some_backtrace objects at core depth (Err fault) = (coming_of_core 0 fault, refl)
some_backtrace objects at core depth (Ok u) = some_linked (Some (arch_of core)) objects at (section_and_walks core depth)
