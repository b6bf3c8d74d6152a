-- The threads of notes, one note after the other.
use Rattle.std.specs.List.{find}
use Rattle.std.proofs.Common.{◌≡◌, ℕ, Bool, true, false, cond, List, [], ◌∷◌, Option, Some, None, Result, Ok, Err, refl, ap, ◌∙◌}
use Rattle.sf_model.specs.declared.machine.Arch.{Arch}
use Rattle.core_notes.specs.declared.note.Note.{Note}
use Rattle.core_notes.specs.Listing.{NoteItem, note_item, whole_notes}
use Rattle.core_notes.specs.Note.{NoteView, note_view}
use Rattle.core_notes.specs.Thread.{is_mask_note, is_status, mask_in, mask_or, own_mask, thread_of, threads_in}

-- ---- the notes without those that are cut
whole : (n : NoteView) (items : List NoteItem) → whole_notes (Ok n ∷ items) ≡ n ∷ whole_notes items
unfolding whole_notes
whole n items = refl

cut : (place : ℕ) (items : List NoteItem) → whole_notes (Err place ∷ items) ≡ whole_notes items
unfolding whole_notes
cut place items = refl

pub no_notes : whole_notes [] ≡ []
unfolding whole_notes
no_notes = refl

-- any function of the notes, one item on
pub at_note : {X : Type 0} (F : List NoteView → X) (items rest : List NoteItem) (n : NoteView) → items ≡ Ok n ∷ rest → F (whole_notes items) ≡ F (n ∷ whole_notes rest)
at_note F items rest n e = ap (λ (x : List NoteItem). F (whole_notes x)) e ∙ ap F (whole n rest)

pub at_cut : {X : Type 0} (F : List NoteView → X) (items rest : List NoteItem) (place : ℕ) → items ≡ Err place ∷ rest → F (whole_notes items) ≡ F (whole_notes rest)
at_cut F items rest place e = ap (λ (x : List NoteItem). F (whole_notes x)) e ∙ ap F (cut place rest)

pub at_end : {X : Type 0} (F : List NoteView → X) (items : List NoteItem) → items ≡ [] → F (whole_notes items) ≡ F []
at_end F items e = ap (λ (x : List NoteItem). F (whole_notes x)) e ∙ ap F no_notes

-- ---- threads
threads-cons : (arch : Arch) (n : NoteView) (ns : List NoteView) (b : Bool) → is_status n ≡ b
    → threads_in arch (n ∷ ns) ≡ cond b (thread_of arch n.descriptor.left (own_mask arch ns) ∷ threads_in arch ns) (threads_in arch ns)
unfolding threads_in
threads-cons arch n ns b e = ap (λ (c : Bool). cond c (thread_of arch n.descriptor.left (own_mask arch ns) ∷ threads_in arch ns) (threads_in arch ns)) e

pub no_threads : (arch : Arch) → threads_in arch [] ≡ []
unfolding threads_in
no_threads arch = refl

pub status_is_thread : (arch : Arch) (items rest : List NoteItem) (n : NoteView) → items ≡ Ok n ∷ rest → is_status n ≡ true
    → threads_in arch (whole_notes items) ≡ thread_of arch n.descriptor.left (own_mask arch (whole_notes rest)) ∷ threads_in arch (whole_notes rest)
status_is_thread arch items rest n e s = at_note (threads_in arch) items rest n e ∙ threads-cons arch n (whole_notes rest) true s

pub other_is_none : (arch : Arch) (items rest : List NoteItem) (n : NoteView) → items ≡ Ok n ∷ rest → is_status n ≡ false → threads_in arch (whole_notes items) ≡ threads_in arch (whole_notes rest)
other_is_none arch items rest n e s = at_note (threads_in arch) items rest n e ∙ threads-cons arch n (whole_notes rest) false s

pub threads_end : (arch : Arch) (items : List NoteItem) → items ≡ [] → threads_in arch (whole_notes items) ≡ []
threads_end arch items e = at_end (threads_in arch) items e ∙ no_threads arch

-- ---- masks
-- a later mask, or else the one found so far
abbrev pub mask_with : (later found : Option ℕ) → Option ℕ
mask_with (Some mask) found = Some mask
mask_with None found = found

mask-cons : (arch : Arch) (n : NoteView) (ns : List NoteView) (b : Bool) → is_status n ≡ b → own_mask arch (n ∷ ns) ≡ cond b None (mask_or arch n (own_mask arch ns))
unfolding own_mask
mask-cons arch n ns b e = ap (λ (c : Bool). cond c None (mask_or arch n (own_mask arch ns))) e

no_mask : (arch : Arch) → own_mask arch [] ≡ None
unfolding own_mask
no_mask arch = refl

pub mask_ends : (arch : Arch) (items rest : List NoteItem) (n : NoteView) (found : Option ℕ) → items ≡ Ok n ∷ rest → is_status n ≡ true → mask_with (own_mask arch (whole_notes items)) found ≡ found
mask_ends arch items rest n found e s = ap (λ (later : Option ℕ). mask_with later found) (at_note (own_mask arch) items rest n e ∙ mask-cons arch n (whole_notes rest) true s)

mask_if : (arch : Arch) (n : NoteView) (later found : Option ℕ) (b : Bool) → is_mask_note arch n ≡ b → mask_with (mask_or arch n later) found ≡ mask_with later (cond b (Some (mask_in n)) found)
mask_if arch n (Some mask) found b e = refl
mask_if arch n None found true e = ap (λ (c : Bool). mask_with (cond c (Some (mask_in n)) None) found) e
mask_if arch n None found false e = ap (λ (c : Bool). mask_with (cond c (Some (mask_in n)) None) found) e

pub mask_goes_on : (arch : Arch) (items rest : List NoteItem) (n : NoteView) (found : Option ℕ) (b : Bool) → items ≡ Ok n ∷ rest → is_status n ≡ false → is_mask_note arch n ≡ b
    → mask_with (own_mask arch (whole_notes items)) found ≡ mask_with (own_mask arch (whole_notes rest)) (cond b (Some (mask_in n)) found)
mask_goes_on arch items rest n found b e s m =
    ap (λ (later : Option ℕ). mask_with later found) (at_note (own_mask arch) items rest n e ∙ mask-cons arch n (whole_notes rest) false s)
    ∙ mask_if arch n (own_mask arch (whole_notes rest)) found b m

pub mask_is_found : (arch : Arch) (items : List NoteItem) (found : Option ℕ) → items ≡ [] → mask_with (own_mask arch (whole_notes items)) found ≡ found
mask_is_found arch items found e = ap (λ (later : Option ℕ). mask_with later found) (at_end (own_mask arch) items e ∙ no_mask arch)

-- ---- the first note that passes a test
pub found_note : (p : NoteView → Bool) (items rest : List NoteItem) (n : NoteView) (b : Bool) → items ≡ Ok n ∷ rest → p n ≡ b → find p (whole_notes items) ≡ cond b (Some n) (find p (whole_notes rest))
found_note p items rest n b e t = at_note (find p) items rest n e ∙ ap (λ (c : Bool). cond c (Some n) (find p (whole_notes rest))) t

-- ---- what an iterator gave, as an item of the list
pub to_note : (items rest : List NoteItem) (x : Result Note ℕ) (n : Note) → items ≡ note_item x ∷ rest → x ≡ Ok n → items ≡ Ok (note_view n) ∷ rest
to_note items rest x n e is = e ∙ ap (λ (y : Result Note ℕ). note_item y ∷ rest) is

pub to_cut : (items rest : List NoteItem) (x : Result Note ℕ) (place : ℕ) → items ≡ note_item x ∷ rest → x ≡ Err place → items ≡ Err place ∷ rest
to_cut items rest x place e is = e ∙ ap (λ (y : Result Note ℕ). note_item y ∷ rest) is

pub at_no_note : {X : Type 0} (F : List NoteView → X) (items rest : List NoteItem) (x : Result Note ℕ) → items ≡ note_item x ∷ rest → ((n : Note) → x ≡ Ok n → ⊥) → F (whole_notes items) ≡ F (whole_notes rest)
at_no_note F items rest (Ok n) e other = absurd (other n refl)
at_no_note F items rest (Err place) e other = at_cut F items rest place e
