-- Walks by a linked section are walks by DWARF, and what `backtrace` comes to where it makes none.
use Rattle.std.proofs.Common.{◌≡◌, ◌+◌, ◌++◌, ℕ, List, [], ◌∷◌, Some, Result, Ok, Err, ap, sym, subst, ◌∙◌}
use Rattle.sf_model.specs.declared.machine.Arch.{Arch}
use Rattle.sf_model.specs.declared.omission.Omitted.{Omitted}
use Rattle.sf_model.specs.Walk.{Listing, ThreadState, section_walk}
use Rattle.elf_read.specs.Header.{arch_of}
use Rattle.core_notes.specs.declared.fault.CoreFault.{CoreFault}
use Rattle.core_notes.specs.declared.status.Thread.{Thread}
use Rattle.core_notes.specs.Checks.{core_check, file_threads}
use Rattle.core_notes.specs.Memory.{file_regions}
use Rattle.core_walk.specs.Walk.{thread_state}
use Rattle.sf_asm.specs.declared.fault.LinkFault.{LinkFault}
use Rattle.sf_asm.specs.declared.fault.LinkFault.TheVariants as link_fault
use Rattle.sf_asm.specs.Answers.{IsFirstLinked, IsLinked}
use Rattle.sf_asm.specs.Faithful.{dwarf_walk}
use Rattle.sf_asm.specs.Functions.{Object}
use Rattle.sf_words.specs.declared.refusal.Refusal.{Refusal}
use Rattle.sf_words.specs.declared.refusal.Refusal.TheVariants as refusal
use Rattle.section_commands.specs.Coming.{Coming}
use Rattle.section_commands.specs.Making.{ComesAs}
use Rattle.section_commands.specs.Walks.{coming_of_core, listing_text, walks_text}
use Rattle.section_commands.proofs.WalkTexts.{no_walk, walks_on}
use Rattle.sf_run.specs.Backtrace.{BacktraceComesFrom, dwarf_walks, section_and_walks}
use Rattle.sf_run.specs.Linked.{coming_of_linking}
use Rattle.sf_run.proofs.LinkedComes.{unlinked_comes}

-- walks that agree on every thread have one text
pub same_walks : (walk other : ThreadState → Listing) → ((thread : ThreadState) → walk thread ≡ other thread) → (number : ℕ) (threads : List Thread)
    → walks_text walk number threads ≡ walks_text other number threads
same_walks walk other same number [] = no_walk walk number ∙ sym (no_walk other number)
same_walks walk other same number (thread ∷ later) =
    walks_on walk number thread later
    ∙ ap (λ (l : Listing). listing_text number thread l ++ walks_text walk (number + 1) later) (same (thread_state thread))
    ∙ ap (λ (t : List ℕ). listing_text number thread (other (thread_state thread)) ++ t) (same_walks walk other same (number + 1) later)
    ∙ sym (walks_on other number thread later)

-- the walks by the section of inputs behind a core file are those by DWARF
pub linked_walks : (arch : Arch) (objects : List Object) (at : ℕ) (section : List ℕ) (kept : ℕ) (omitted : List Omitted) → (h : IsLinked (Some arch) objects at section kept omitted)
    → (core : List ℕ) (depth : ℕ)
    → walks_text (λ thread. section_walk h.faithful.table.functions thread (file_regions core) depth) 0 (file_threads core) ≡ dwarf_walks h.functions core depth
linked_walks arch objects at section kept omitted h core depth =
    same_walks (λ thread. section_walk h.faithful.table.functions thread (file_regions core) depth) (λ thread. dwarf_walk h.functions thread (file_regions core) depth)
    (λ thread. h.faithful.walks thread (file_regions core) depth) 0 (file_threads core)

-- ---- refusals
pub unread_comes : (objects : List Object) (at : ℕ) (core : List ℕ) (depth : ℕ) (fault : CoreFault) (refused : Refusal) → core_check core ≡ Err fault → ComesAs (λ (c : Coming). c ≡ coming_of_core 0 fault) refused
    → ComesAs (BacktraceComesFrom objects at core depth (core_check core)) refused
unread_comes objects at core depth fault refused checked tells =
    subst (λ (check : Result (Unit {0}) CoreFault). ComesAs (BacktraceComesFrom objects at core depth check) refused) (sym checked) tells

pub unlinked_walks : (objects : List Object) (at : ℕ) (core : List ℕ) (depth : ℕ) (fault : LinkFault) (refused : Refusal) → core_check core ≡ Ok tt → IsFirstLinked (Some (arch_of core)) objects at fault
    → (fault ≡ link_fault.NoMemory → refused ≡ refusal.Memory) → ComesAs (λ (c : Coming). c ≡ coming_of_linking fault) refused → ComesAs (BacktraceComesFrom objects at core depth (core_check core)) refused
unlinked_walks objects at core depth fault refused checked first memory tells =
    subst (λ (check : Result (Unit {0}) CoreFault). ComesAs (BacktraceComesFrom objects at core depth check) refused) (sym checked)
    (unlinked_comes (Some (arch_of core)) objects at (section_and_walks core depth) fault refused first memory tells)
