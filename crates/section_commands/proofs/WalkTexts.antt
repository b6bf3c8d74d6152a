-- The texts of walks, one thread after the other.
use Rattle.std.proofs.Common.{◌≡◌, ◌+◌, ◌++◌, ◌<◌, ℕ, Bool, List, [], ◌∷◌, length, drop, get_or, refl, ap, sym, ◌∙◌, append_assoc}
use Rattle.std.proofs.lemmas.List.{drop_more}
use Rattle.sf_model.specs.Walk.{Listing, LookUp, ThreadState, look_up_walk}
use Rattle.core_notes.specs.declared.status.Thread.{Thread}
use Rattle.core_notes.specs.Memory.{file_regions}
use Rattle.core_walk.specs.Walk.{thread_state}
use Rattle.section_commands.specs.Walks.{HasOneMore, TextsView, listing_text, walks_text}

pub walks_on : (walk_of : ThreadState → Listing) (number : ℕ) (thread : Thread) (later : List Thread)
    → walks_text walk_of number (thread ∷ later) ≡ listing_text number thread (walk_of (thread_state thread)) ++ walks_text walk_of (number + 1) later
unfolding walks_text
walks_on walk_of number thread later = refl

pub no_walk : (walk_of : ThreadState → Listing) (number : ℕ) → walks_text walk_of number [] ≡ []
unfolding walks_text
no_walk walk_of number = refl

-- the text of one walk more
pub next_walk : (walk_of : ThreadState → Listing) (before after piece : List ℕ) (number : ℕ) (thread : Thread) (left later : List Thread) (all : List ℕ)
    → left ≡ thread ∷ later → piece ≡ listing_text number thread (walk_of (thread_state thread)) → after ≡ before ++ piece
    → before ++ walks_text walk_of number left ≡ all → after ++ walks_text walk_of (number + 1) later ≡ all
next_walk walk_of before after piece number thread left later all are is grown h =
    ap (λ (t : List ℕ). t ++ walks_text walk_of (number + 1) later) (grown ∙ ap (λ (p : List ℕ). before ++ p) is)
    ∙ append_assoc before (listing_text number thread (walk_of (thread_state thread))) (walks_text walk_of (number + 1) later)
    ∙ ap (λ (t : List ℕ). before ++ t) (sym (walks_on walk_of number thread later)) ∙ ap (λ (ts : List Thread). before ++ walks_text walk_of number ts) (sym are) ∙ h

-- ---- while threads are walked by what was read of a core file
pub one_more_text : (rows : LookUp) (depth : ℕ) (read file : List ℕ) (is_part : Bool) (number k : ℕ) (threads : List Thread) (d : Thread) (before after : TextsView) (all : List ℕ) → k < length threads → read ≡ file
    → HasOneMore is_part (listing_text number (get_or threads k d) (look_up_walk rows (thread_state (get_or threads k d)) (file_regions read) depth)) before after
    → (length before.missed ≡ 0 → before.text ++ walks_text (λ (t : ThreadState). look_up_walk rows t (file_regions file) depth) number (drop k threads) ≡ all)
    → length after.missed ≡ 0 → after.text ++ walks_text (λ (t : ThreadState). look_up_walk rows t (file_regions file) depth) (number + 1) (drop (k + 1) threads) ≡ all
one_more_text rows depth read file is_part number k threads d before after all lt same one so_far none =
    let grown = one.grown none in
    next_walk (λ (t : ThreadState). look_up_walk rows t (file_regions file) depth) before.text after.text _ number (get_or threads k d) (drop k threads) (drop (k + 1) threads) all (drop_more threads k d lt)
    (ap (λ (bytes : List ℕ). listing_text number (get_or threads k d) (look_up_walk rows (thread_state (get_or threads k d)) (file_regions bytes) depth)) same) grown.1 (so_far grown.0)
