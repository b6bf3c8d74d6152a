-- A walk by the section that a backtrace leaves prints the text of the backtrace.
use Rattle.std.proofs.Common.{◌≡◌, ℕ, Bool, true, List, [], ◌∷◌, Some, None, Result, Ok, Err, refl, ap, sym, subst, ◌∙◌, arith}
use Rattle.sf_model.specs.declared.machine.Arch.{Arch}
use Rattle.sf_model.specs.declared.machine.Arch.TheVariants.{Amd64, Aarch64}
use Rattle.sf_decode.specs.declared.fault.DecodeFault.{DecodeFault}
use Rattle.sf_decode.specs.Decoding.{section_check}
use Rattle.sf_decode.proofs.EntriesFound.{section_passes}
use Rattle.elf_read.specs.Header.{arch_of}
use Rattle.core_notes.specs.declared.fault.CoreFault.{CoreFault}
use Rattle.core_notes.specs.declared.fault.CoreFault.TheVariants as core_fault
use Rattle.core_notes.specs.Checks.{core_check}
use Rattle.frame_functions.specs.declared.read_function.ReadFunction.{ReadFunction}
use Rattle.sf_asm.specs.declared.fault.LinkFault.{LinkFault}
use Rattle.sf_asm.specs.Functions.{Object}
use Rattle.sf_merge.specs.Merging.{same_arch}
use Rattle.section_commands.specs.declared.made.Outcome.TheVariants.{Done}
use Rattle.section_commands.specs.Coming.{Makes}
use Rattle.section_commands.specs.Walk.{WalkComes, WalkComesFrom, coming_of_walks}
use Rattle.section_commands.specs.Walks.{coming_of_core, table_walks}
use Rattle.sf_run.specs.Backtrace.{BacktraceComes, BacktraceComesFrom, BacktraceWords, dwarf_walks, section_and_walks, walk_by_section}
use Rattle.sf_run.specs.Inputs.{objects_in}
use Rattle.sf_run.specs.Linked.{LinkedComesFrom, MakesLinked}
use Rattle.sf_run.proofs.Accepted.{Refuses, linking_refuses}
use Rattle.sf_run.proofs.Backtraces.{linked_walks}

core_refuses : (fault : CoreFault) → Refuses (coming_of_core 0 fault)
core_refuses (core_fault.Elf fault) = tt
core_refuses core_fault.NotCore = tt
core_refuses (core_fault.Note place) = tt
core_refuses (core_fault.StatusSize place) = tt
core_refuses core_fault.NoThread = tt
core_refuses core_fault.TooManyThreads = tt

same_as_itself : (arch : Arch) → same_arch arch arch ≡ true
same_as_itself Amd64 = refl
same_as_itself Aarch64 = refl

from_made : (objects : List Object) (at : ℕ) (core : List ℕ) (depth : ℕ) (section text : List ℕ) → core_check core ≡ Ok tt
    → MakesLinked (Some (arch_of core)) objects at (section_and_walks core depth) (Makes Done (Some section) text)
    → WalkComesFrom at section core depth (section_check section at) (core_check core) (Makes Done None text)
from_made objects at core depth section text e h =
    let f = h.linked.faithful in
    let walks = dwarf_walks h.linked.functions core depth in
    let is : Makes Done (Some section) text ≡ Makes Done (Some h.section) walks = h.is in
    let sections : h.section ≡ section = cc in
    let texts : walks ≡ text = cc in
    let machine : f.table.arch ≡ arch_of core = f.holds.machine ∙ sym (h.linked.machine 0 f.table.arch (omega arith)) in
    let same : same_arch f.table.arch (arch_of core) ≡ true = ap (λ (a : Arch). same_arch a (arch_of core)) machine ∙ same_as_itself (arch_of core) in
    let table_text : table_walks f.table core depth ≡ walks = linked_walks (arch_of core) objects at h.section h.kept h.omitted h.linked core depth in
    let comes : WalkComesFrom at h.section core depth (Ok tt) (Ok tt) (Makes Done None walks) = record {
      table = f.table;
      of_bytes = f.is;
      is = ap (λ (t : List ℕ). Makes Done None t) (sym table_text) ∙ sym (ap (λ (b : Bool). coming_of_walks b (table_walks f.table core depth)) same);
    } in
    let passes : section_check h.section at ≡ Ok tt = section_passes h.section at f.table h.are_bytes f.is in
    subst (λ (t : List ℕ). WalkComesFrom at section core depth (section_check section at) (core_check core) (Makes Done None t)) texts
    (subst (λ (s : List ℕ). WalkComesFrom at s core depth (section_check s at) (core_check core) (Makes Done None walks)) sections
    (subst (λ (check : Result (Unit {0}) CoreFault). WalkComesFrom at h.section core depth (section_check h.section at) check (Makes Done None walks)) (sym e)
    (subst (λ (check : Result (Unit {0}) DecodeFault). WalkComesFrom at h.section core depth check (Ok tt) (Makes Done None walks)) (sym passes) comes)))

from_result : (objects : List Object) (at : ℕ) (core : List ℕ) (depth : ℕ) (section text : List ℕ) → core_check core ≡ Ok tt → (result : Result (List ReadFunction) LinkFault)
    → LinkedComesFrom (Some (arch_of core)) objects at (section_and_walks core depth) result (Makes Done (Some section) text)
    → WalkComesFrom at section core depth (section_check section at) (core_check core) (Makes Done None text)
from_result objects at core depth section text e (Err fault) h = absurd (subst Refuses (sym h) (linking_refuses None fault))
from_result objects at core depth section text e (Ok ordered) h = from_made objects at core depth section text e h

from_check : (objects : List Object) (at : ℕ) (core : List ℕ) (depth : ℕ) (section text : List ℕ) → (check : Result (Unit {0}) CoreFault) → core_check core ≡ check
    → BacktraceComesFrom objects at core depth check (Makes Done (Some section) text)
    → WalkComesFrom at section core depth (section_check section at) (core_check core) (Makes Done None text)
from_check objects at core depth section text (Err fault) e h = absurd (subst Refuses (sym h) (core_refuses fault))
from_check objects at core depth section text (Ok tt) e h = from_result objects at core depth section text e h.result h.comes

pub walked_again : (backtrace : BacktraceWords) (core : List ℕ) (items : List (List ℕ)) (section text : List ℕ)
    → BacktraceComes backtrace (core ∷ items) (Makes Done (Some section) text) → WalkComes (walk_by_section backtrace) (section ∷ core ∷ []) (Makes Done None text)
walked_again backtrace core items section text h = from_check (objects_in backtrace.inputs items) backtrace.out.at core backtrace.depth section text (core_check core) refl h
