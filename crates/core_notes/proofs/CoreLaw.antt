-- No check of a core file fails exactly where it is a core file, and its notes are those that are read.
use Rattle.std.specs.Prelude.{◌&&◌, ◌||◌, ◌==◌, not, nat_le}
use Rattle.std.specs.List.{list_all}
use Rattle.std.proofs.Common.{◌≡◌, ℕ, zero, suc, ◌<◌, ◌≤◌, Bool, true, false, cond, IsTrue, List, [], ◌∷◌, length, Result, Ok, Err, is_ok, refl, sym, ap, ◌∙◌, arith}
use Rattle.std.proofs.lemmas.Bool.{leb-true, le-leb, ne_eqb}
use Rattle.sf_model.specs.declared.machine.Arch.{Arch}
use Rattle.elf_read.specs.declared.fault.ElfFault.{ElfFault}
use Rattle.elf_read.specs.declared.kind.Kind.{Kind}
use Rattle.elf_read.specs.declared.kind.Kind.TheVariants.{Rel, Exec, Dyn, Core}
use Rattle.elf_read.specs.Checking.{unless, where_so, each_below, ◌>>◌}
use Rattle.elf_read.specs.Header.{arch_of, kind_of}
use Rattle.elf_read.specs.Parsing.{file_check}
use Rattle.elf_read.specs.Sections.{segment_count}
use Rattle.core_notes.specs.declared.fault.CoreFault.{CoreFault}
use Rattle.core_notes.specs.declared.fault.CoreFault.TheVariants.{NotCore, Note, NoThread, StatusSize, TooManyThreads}
use Rattle.core_notes.specs.Checks.{Check, core_check, core_part, thread_count_check, elf_part, file_threads, is_core_kind, items_check, note_check, through_status}
use Rattle.core_notes.specs.Core.{IsCore, after_first_status, mask_fits, status_fits}
use Rattle.core_notes.specs.Listing.{NoteItem, notes_in, whole_notes}
use Rattle.core_notes.specs.Note.{NoteView}
use Rattle.core_notes.specs.TotalSize.{note_room_check}
use Rattle.core_notes.specs.Segment.{segments}
use Rattle.core_notes.specs.Thread.{is_mask_note, is_status, status_size, threads_in}
use Rattle.core_notes.proofs.Checked.{all_through}
use Rattle.core_notes.proofs.Rooms.{checked_has_room, room_is_checked}
use Rattle.core_notes.proofs.Spelled.{NoneCut, all_whole, notes_are_read, read_are_notes, whole-all}

-- ---- tests that must hold
fine : Check
fine = Ok tt

both_fine : (x y : Check) → (x >> y) ≡ Ok tt → (x ≡ Ok tt) × (y ≡ Ok tt)
both_fine (Ok u) y h = (refl, h)
both_fine (Err f) y h = absurd (let differ : Err f ≡ Ok tt = h in cc)

fine_then : (x y : Check) → x ≡ Ok tt → y ≡ Ok tt → (x >> y) ≡ Ok tt
fine_then x y p q = ap (λ (c : Check). c >> y) p ∙ q

guard_holds : (s c : Bool) (f : CoreFault) → where_so s (unless c f) ≡ Ok tt → (not s || c) ≡ true
guard_holds true true f h = refl
guard_holds true false f h = absurd (let differ : Err f ≡ Ok tt = h in cc)
guard_holds false c f h = refl

guard_fine : (s c : Bool) (f : CoreFault) → (not s || c) ≡ true → where_so s (unless c f) ≡ Ok tt
guard_fine true true f h = refl
guard_fine true false f h = absurd (let differ : false ≡ true = h in cc)
guard_fine false c f h = refl

and_true : (a b : Bool) → a ≡ true → b ≡ true → (a && b) ≡ true
and_true true b p q = q
and_true false b p q = p

parts_true : (a b : Bool) → (a && b) ≡ true → (a ≡ true) × (b ≡ true)
parts_true true b h = (refl, h)
parts_true false b h = absurd (let differ : false ≡ true = h in cc)

-- ---- one note
record Sized (arch : Arch) (after_thread : Bool) (n : NoteView) : Type 0 where
  status : status_fits arch n ≡ true
  mask : after_thread ≡ true → mask_fits arch n ≡ true

mask_after : (b m c : Bool) → (not (b && m) || c) ≡ true → b ≡ true → (not m || c) ≡ true
mask_after true m c h e = h
mask_after false m c h e = absurd (let differ : false ≡ true = e in cc)

mask_if_after : (b m c : Bool) → (b ≡ true → (not m || c) ≡ true) → (not (b && m) || c) ≡ true
mask_if_after true m c h = h refl
mask_if_after false m c h = refl

note_sized : (arch : Arch) (b : Bool) (n : NoteView) → note_check arch b n ≡ Ok tt → Sized arch b n
unfolding note_check
note_sized arch b n h =
    let size = length n.descriptor.left in
    let p = both_fine (where_so (is_status n) (unless (size == status_size arch) (StatusSize n.place))) (where_so (b && is_mask_note arch n) (unless (size == 16) (Note n.place))) h in
    record {
      status = guard_holds (is_status n) (size == status_size arch) (StatusSize n.place) p.0;
      mask = mask_after b (is_mask_note arch n) (size == 16) (guard_holds (b && is_mask_note arch n) (size == 16) (Note n.place) p.1);
    }

sized_note : (arch : Arch) (b : Bool) (n : NoteView) → Sized arch b n → note_check arch b n ≡ Ok tt
unfolding note_check
sized_note arch b n s =
    let size = length n.descriptor.left in
    fine_then (where_so (is_status n) (unless (size == status_size arch) (StatusSize n.place))) (where_so (b && is_mask_note arch n) (unless (size == 16) (Note n.place)))
    (guard_fine (is_status n) (size == status_size arch) (StatusSize n.place) s.status)
    (guard_fine (b && is_mask_note arch n) (size == 16) (Note n.place) (mask_if_after b (is_mask_note arch n) (size == 16) s.mask))

-- ---- all notes
-- the notes whose masks count, where a thread was before them or not
abbrev counting : Bool → List NoteView → List NoteView
counting after_thread ns = cond after_thread ns (after_first_status ns)

record AllSized (arch : Arch) (after_thread : Bool) (ns : List NoteView) : Type 0 where
  statuses : list_all (status_fits arch) ns ≡ true
  masks : list_all (mask_fits arch) (counting after_thread ns) ≡ true

none_counting : (arch : Arch) (b : Bool) → list_all (mask_fits arch) (counting b []) ≡ true
none_counting arch true = refl
none_counting arch false = refl

one_more : (arch : Arch) (b : Bool) (n : NoteView) (ns : List NoteView) → Sized arch b n → AllSized arch (b || is_status n) ns → AllSized arch b (n ∷ ns)
one_more arch true n ns s all = record { statuses = and_true (status_fits arch n) (list_all (status_fits arch) ns) s.status all.statuses; masks = and_true (mask_fits arch n) (list_all (mask_fits arch) ns) (s.mask refl) all.masks }
one_more arch false n ns s all = record { statuses = and_true (status_fits arch n) (list_all (status_fits arch) ns) s.status all.statuses; masks = all.masks }

one_less : (arch : Arch) (b : Bool) (n : NoteView) (ns : List NoteView) → AllSized arch b (n ∷ ns) → Sized arch b n × AllSized arch (b || is_status n) ns
one_less arch true n ns all =
    let statuses = parts_true (status_fits arch n) (list_all (status_fits arch) ns) all.statuses in
    let masks = parts_true (mask_fits arch n) (list_all (mask_fits arch) ns) all.masks in
    (record { status = statuses.0; mask = λ e. masks.0 }, record { statuses = statuses.1; masks = masks.1 })
one_less arch false n ns all =
    let statuses = parts_true (status_fits arch n) (list_all (status_fits arch) ns) all.statuses in
    (record { status = statuses.0; mask = λ e. absurd (let differ : false ≡ true = e in cc) }, record { statuses = statuses.1; masks = all.masks })

items_sized : (arch : Arch) (b : Bool) (items : List NoteItem) → items_check arch b items ≡ Ok tt → NoneCut items × AllSized arch b (whole_notes items)
unfolding items_check whole_notes
items_sized arch b [] h = (tt, record { statuses = refl; masks = none_counting arch b })
items_sized arch b (Ok n ∷ items) h =
    let p = both_fine (note_check arch b n) (items_check arch (b || is_status n) items) h in
    let rest = items_sized arch (b || is_status n) items p.1 in
    (rest.0, one_more arch b n (whole_notes items) (note_sized arch b n p.0) rest.1)
items_sized arch b (Err place ∷ items) h = absurd (let differ : Err (Note place) ≡ Ok tt = h in cc)

sized_items : (arch : Arch) (b : Bool) (ns : List NoteView) → AllSized arch b ns → items_check arch b (all_whole ns) ≡ Ok tt
unfolding items_check
sized_items arch b [] all = refl
sized_items arch b (n ∷ ns) all =
    let p = one_less arch b n ns all in
    fine_then (note_check arch b n) (items_check arch (b || is_status n) (all_whole ns)) (sized_note arch b n p.0) (sized_items arch (b || is_status n) ns p.1)

-- ---- the file
unless_true : (b : Bool) (f : CoreFault) → unless b f ≡ Ok tt → b ≡ true
unless_true true f h = refl
unless_true false f h = absurd (let differ : Err f ≡ Ok tt = h in cc)

true_unless : (b : Bool) (f : CoreFault) → b ≡ true → unless b f ≡ Ok tt
true_unless true f h = refl
true_unless false f h = absurd (let differ : false ≡ true = h in cc)

elf_fine : (r : Result (Unit {0}) ElfFault) → elf_part r ≡ Ok tt → r ≡ Ok tt
elf_fine (Ok u) h = refl
elf_fine (Err f) h = absurd cc

kind_is : (k : Kind) → is_core_kind k ≡ true → k ≡ Core
kind_is Rel h = absurd (let differ : false ≡ true = h in cc)
kind_is Exec h = absurd (let differ : false ≡ true = h in cc)
kind_is Dyn h = absurd (let differ : false ≡ true = h in cc)
kind_is Core h = refl

is_zero_false : (n : ℕ) → not (n == 0) ≡ true → 1 ≤ n
is_zero_false zero h = absurd (let differ : false ≡ true = h in cc)
is_zero_false (suc n) h = omega arith

count_fits : (n : ℕ) → thread_count_check n ≡ Ok tt → (1 ≤ n) × (n ≤ 4096)
count_fits n h =
    let p = both_fine (unless (not (n == 0)) NoThread) (unless (nat_le n 4096) TooManyThreads) h in
    (is_zero_false n (unless_true (not (n == 0)) NoThread p.0), leb-true n 4096 (unless_true (nat_le n 4096) TooManyThreads p.1))

fits_count : (n : ℕ) → 1 ≤ n → n ≤ 4096 → thread_count_check n ≡ Ok tt
fits_count n some most =
    fine_then (unless (not (n == 0)) NoThread) (unless (nat_le n 4096) TooManyThreads)
    (true_unless (not (n == 0)) NoThread (ap not (ne_eqb n 0 (λ e. omega (e, some, arith))))) (true_unless (nat_le n 4096) TooManyThreads (le-leb n 4096 most))

pub checked_is_core : (file : List ℕ) → core_check file ≡ Ok tt → IsCore file (whole_notes (notes_in file))
unfolding core_part
checked_is_core file h =
    let arch = arch_of file in
    let elf = both_fine (elf_part (file_check file)) (core_part file) h in
    let kind = unless (is_core_kind (kind_of file)) NotCore in
    let room = elf_part (each_below (segment_count file) (note_room_check file)) in
    let notes = items_check arch false (through_status 4097 (notes_in file)) in
    let counted = both_fine (kind >> room >> notes) (thread_count_check (length (file_threads file))) elf.1 in
    let parts = both_fine (kind >> room) notes counted.0 in
    let first = both_fine kind room parts.0 in
    let count = count_fits (length (file_threads file)) counted.1 in
    let all : through_status 4097 (notes_in file) ≡ notes_in file = all_through arch 4097 (notes_in file) (omega (count.1, arith)) in
    let sized = items_sized arch false (notes_in file) (ap (items_check arch false) (sym all) ∙ parts.1) in
    record {
      elf = elf_fine (file_check file) elf.0;
      kind = kind_is (kind_of file) (unless_true (is_core_kind (kind_of file)) NotCore first.0);
      room = checked_has_room file (elf_fine (each_below (segment_count file) (note_room_check file)) first.1);
      notes_are = read_are_notes (segments file) sized.0;
      statuses = sized.1.statuses;
      masks = sized.1.masks;
      some = count.0;
      most = count.1;
    }

pub core_is_checked : (file : List ℕ) (notes : List NoteView) → IsCore file notes → (core_check file ≡ Ok tt) × (whole_notes (notes_in file) ≡ notes)
unfolding core_part
core_is_checked file notes c =
    let arch = arch_of file in
    let items : notes_in file ≡ all_whole notes = notes_are_read (segments file) notes c.notes_are in
    let read : whole_notes (notes_in file) ≡ notes = ap whole_notes items ∙ whole-all notes in
    let sized : AllSized arch false notes = record { statuses = c.statuses; masks = c.masks } in
    let few : length (file_threads file) < 4097 = let same = ap (λ (ns : List NoteView). length (threads_in arch ns)) read in omega (same, c.most, arith) in
    let checked : items_check arch false (through_status 4097 (notes_in file)) ≡ Ok tt =
    ap (items_check arch false) (all_through arch 4097 (notes_in file) few ∙ items) ∙ sized_items arch false notes sized in
    let room : elf_part (each_below (segment_count file) (note_room_check file)) ≡ Ok tt = ap elf_part (room_is_checked file c.room) in
    let count : thread_count_check (length (file_threads file)) ≡ Ok tt = ap (λ (ns : List NoteView). thread_count_check (length (threads_in arch ns))) read ∙ fits_count (length (threads_in arch notes)) c.some c.most in
    let kind : unless (is_core_kind (kind_of file)) NotCore ≡ Ok tt = ap (λ (k : Kind). unless (is_core_kind k) NotCore) c.kind in (
      fine_then (elf_part (file_check file)) (core_part file) (ap elf_part c.elf)
          (fine_then (unless (is_core_kind (kind_of file)) NotCore >> elf_part (each_below (segment_count file) (note_room_check file)) >> items_check arch false (through_status 4097 (notes_in file)))
          (thread_count_check (length (file_threads file)))
          (fine_then (unless (is_core_kind (kind_of file)) NotCore >> elf_part (each_below (segment_count file) (note_room_check file))) (items_check arch false (through_status 4097 (notes_in file)))
          (fine_then (unless (is_core_kind (kind_of file)) NotCore) (elf_part (each_below (segment_count file) (note_room_check file))) kind room) checked) count),
      read,
    )

is_fine : (r : Check) → IsTrue (is_ok r) → r ≡ Ok tt
is_fine (Ok u) h = refl
is_fine (Err f) h = absurd (let differ : false ≡ true = h in cc)

-- a core that was made
pub made_is_core : (file : List ℕ) → IsTrue (is_ok (core_check file)) → IsCore file (whole_notes (notes_in file))
made_is_core file h = checked_is_core file (is_fine (core_check file) h)
