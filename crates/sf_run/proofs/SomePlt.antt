-- Linking inputs with their procedure linkage tables comes to something: the first fault, or what is made of the section.
use Rattle.std.proofs.Common.{ℕ, List, All, None, Result, Ok, Err, refl, subst}
use Rattle.std.proofs.lemmas.List.Elements.{All-weaker}
use Rattle.std.proofs.lemmas.List.Sorted.{All-permutation}
use Rattle.sf_model.specs.declared.machine.Arch.{Arch}
use Rattle.sf_model.specs.Content.{OffsetsInRange}
use Rattle.sf_model.specs.Function.{IsWritable}
use Rattle.sf_write.specs.Numbers.{NumbersFit}
use Rattle.cfa_machine.specs.Columns.{row_from}
use Rattle.sf_asm.specs.declared.fault.LinkFault.{LinkFault}
use Rattle.frame_functions.specs.ReadFunction.{IsSoundOutcome}
use Rattle.frame_functions.specs.Functions.{Function}
use Rattle.sf_asm.specs.Functions.{Object}
use Rattle.sf_asm.specs.Inputs.{machines_of}
use Rattle.sf_asm.proofs.Machines.{is_one}
use Rattle.sf_plt.specs.Linking.{LinksPlts}
use Rattle.sf_plt.specs.Written.{first_entry, later_entries, written_of}
use Rattle.sf_plt.proofs.Cases.{IsTable}
use Rattle.sf_plt.proofs.Recovers.{columns, said_before}
use Rattle.sf_plt.proofs.SomeLinked.{AreLinked, SomeSection, all_of, all_written, are_linked, first_fits, later_fit, some_plt_section, some_result}
use Rattle.sf_plt.proofs.Writable.{first_writable, later_writable}
use Rattle.section_commands.specs.Coming.{Coming}
use Rattle.sf_run.specs.LinkPlt.{ObjectsCome, PltLinkedComes}
use Rattle.sf_run.specs.Linked.{coming_of_linking}
use Rattle.sf_run.proofs.KeptFit.{ContentIn, IsRead, OutcomeFits, content_in, entry_fits, entry_sound, functions_read}

-- ---- what is written of a function that was read
writable : (arch : Arch) (f : Function) → IsRead arch f → All (IsWritable arch) (written_of f)
writable arch f h =
    all_of (IsWritable arch) f (λ k. (subst (IsSoundOutcome arch f.start f.size) k.outcome_is (entry_sound arch f h)).0)
    (λ t. (
      subst (λ (a : Arch). IsWritable a (first_entry f t.content)) h.machine (first_writable f t.content t.table t.content_is h.end h.key),
      subst (λ (a : Arch). IsWritable a (later_entries f t.content)) h.machine (later_writable f t.content t.table t.content_is h.end h.key),
    ))

-- the content before a table's own instructions
table_in_range : (f : Function) (t : IsTable f) → OffsetsInRange t.content
table_in_range f t = subst ContentIn (said_before f t.content t.content_is) (content_in f.arch (row_from 0 (columns f)))

numbers_fit : (f : Function) → All NumbersFit (written_of f)
numbers_fit f =
    all_of NumbersFit f (λ k. subst OutcomeFits k.outcome_is (entry_fits f)) (λ t. (first_fits f t.content (table_in_range f t), later_fit f t.content t.table (table_in_range f t)))

-- ---- the section
pub some_linked_plts : (objects : List Object) (at : ℕ) (sorted : List Function) → AreLinked None objects at sorted → SomeSection None objects at
some_linked_plts objects at sorted h =
    let one = is_one (machines_of None objects) h.unmixed in
    let read = All-permutation (IsRead one.arch) h.functions sorted h.by_start.moved (functions_read one.arch 0 objects h.functions one.all h.are) in
    let can_be = all_written (IsWritable one.arch) sorted (All-weaker (IsRead one.arch) (λ (f : Function). All (IsWritable one.arch) (written_of f)) (writable one.arch) sorted read) in
    let fit = all_written NumbersFit sorted (All-weaker (IsRead one.arch) (λ (f : Function). All NumbersFit (written_of f)) (λ f is. numbers_fit f) sorted read) in
    some_plt_section None objects at sorted one.arch h one.all can_be fit

some_comes : (objects : List Object) (at : ℕ) (result : Result (List Function) LinkFault) → LinksPlts None objects at result → (coming : Coming) × PltLinkedComes objects at result coming
some_comes objects at (Err fault) h = (coming_of_linking fault, refl)
some_comes objects at (Ok sorted) h =
    let s = some_linked_plts objects at sorted (are_linked None objects at sorted h) in
    (_, record { section = s.section; kept = s.kept; omitted = s.omitted; plts = s.plts; are_bytes = s.are_bytes; linked = s.linked; is = refl })

pub some_plt : (objects : List Object) (at : ℕ) → (coming : Coming) × ObjectsCome objects at coming
some_plt objects at =
    let result = some_result None objects at in
    let comes = some_comes objects at result.0 result.1 in
    (comes.0, record { result = result.0; links = result.1; comes = comes.1 })
