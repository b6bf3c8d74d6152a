-- The checks of notes, one note after the other, and the count of their threads.
use Rattle.std.specs.Prelude.{◌||◌, min, nat_lt}
use Rattle.std.proofs.Common.{◌≡◌, ℕ, zero, suc, ◌+◌, ◌-◌, ◌<◌, ◌≤◌, Bool, true, false, cond, List, [], ◌∷◌, length, Ok, Err, refl, sym, ap, ◌∙◌, arith}
use Rattle.std.proofs.lemmas.Bool.{lt-ltb}
use Rattle.sf_model.specs.declared.machine.Arch.{Arch}
use Rattle.elf_read.specs.Checking.{◌>>◌}
use Rattle.core_notes.specs.declared.fault.CoreFault.{CoreFault}
use Rattle.core_notes.specs.declared.fault.CoreFault.TheVariants.{Note}
use Rattle.core_notes.specs.declared.status.Thread.{Thread}
use Rattle.core_notes.specs.Checks.{Check, items_check, note_check, through_status}
use Rattle.core_notes.specs.Listing.{NoteItem, whole_notes}
use Rattle.core_notes.specs.Note.{NoteView}
use Rattle.core_notes.specs.Thread.{is_status, threads_in}
use Rattle.core_notes.proofs.Threaded.{at_cut, other_is_none, status_is_thread, threads_end}

check-note : (arch : Arch) (b : Bool) (n : NoteView) (items : List NoteItem) → items_check arch b (Ok n ∷ items) ≡ (note_check arch b n >> items_check arch (b || is_status n) items)
unfolding items_check
check-note arch b n items = refl

check-cut : (arch : Arch) (b : Bool) (place : ℕ) (items : List NoteItem) → items_check arch b (Err place ∷ items) ≡ Err (Note place)
unfolding items_check
check-cut arch b place items = refl

check-nil : (arch : Arch) (b : Bool) → items_check arch b [] ≡ Ok tt
unfolding items_check
check-nil arch b = refl

check_ends : (arch : Arch) (b : Bool) (items : List NoteItem) → items ≡ [] → items_check arch b items ≡ Ok tt
check_ends arch b items e = ap (items_check arch b) e ∙ check-nil arch b

cut_is_fault : (arch : Arch) (b : Bool) (items rest : List NoteItem) (place : ℕ) → items ≡ Err place ∷ rest → items_check arch b items ≡ Err (Note place)
cut_is_fault arch b items rest place e = ap (items_check arch b) e ∙ check-cut arch b place rest

note_is_fault : (arch : Arch) (b : Bool) (items rest : List NoteItem) (n : NoteView) (f : CoreFault) → items ≡ Ok n ∷ rest → note_check arch b n ≡ Err f → items_check arch b items ≡ Err f
note_is_fault arch b items rest n f e h =
    ap (items_check arch b) e ∙ check-note arch b n rest ∙ ap (λ (c : Check). c >> items_check arch (b || is_status n) rest) h

note_is_fine : (arch : Arch) (b : Bool) (items rest : List NoteItem) (n : NoteView) → items ≡ Ok n ∷ rest → note_check arch b n ≡ Ok tt
    → items_check arch b items ≡ items_check arch (b || is_status n) rest
note_is_fine arch b items rest n e h =
    ap (items_check arch b) e ∙ check-note arch b n rest ∙ ap (λ (c : Check). c >> items_check arch (b || is_status n) rest) h

-- ---- up to a status
through-end : (n : ℕ) → through_status n [] ≡ []
unfolding through_status
through-end zero = refl
through-end (suc n) = refl

through_ends : (n : ℕ) (items : List NoteItem) → items ≡ [] → through_status n items ≡ []
through_ends n items e = ap (through_status n) e ∙ through-end n

through-cut : (n : ℕ) (place : ℕ) (items : List NoteItem) → through_status (suc n) (Err place ∷ items) ≡ Err place ∷ through_status (suc n) items
unfolding through_status
through-cut n place items = refl

through_cut : (n : ℕ) (items rest : List NoteItem) (place : ℕ) → 0 < n → items ≡ Err place ∷ rest → through_status n items ≡ Err place ∷ through_status n rest
through_cut zero items rest place some e = absurd (omega (some, arith))
through_cut (suc n) items rest place some e = ap (through_status (suc n)) e ∙ through-cut n place rest

through-note : (n : ℕ) (x : NoteView) (items : List NoteItem) (b : Bool) → is_status x ≡ b → through_status (suc n) (Ok x ∷ items) ≡ Ok x ∷ through_status (cond b n (suc n)) items
unfolding through_status
through-note n x items b e = ap (λ (c : Bool). Ok x ∷ through_status (cond c n (suc n)) items) e

through_thread : (n : ℕ) (items rest : List NoteItem) (x : NoteView) → 0 < n → items ≡ Ok x ∷ rest → is_status x ≡ true → through_status n items ≡ Ok x ∷ through_status (n - 1) rest
through_thread zero items rest x some e s = absurd (omega (some, arith))
through_thread (suc n) items rest x some e s =
    let less : n ≡ suc n - 1 = omega arith in
    ap (through_status (suc n)) e ∙ through-note n x rest true s ∙ ap (λ (k : ℕ). Ok x ∷ through_status k rest) less

through_other : (n : ℕ) (items rest : List NoteItem) (x : NoteView) → 0 < n → items ≡ Ok x ∷ rest → is_status x ≡ false → through_status n items ≡ Ok x ∷ through_status n rest
through_other zero items rest x some e s = absurd (omega (some, arith))
through_other (suc n) items rest x some e s = ap (through_status (suc n)) e ∙ through-note n x rest false s

through_any : (n : ℕ) (items rest : List NoteItem) (x : NoteView) → 0 < n → items ≡ Ok x ∷ rest → (k : ℕ) × (through_status n items ≡ Ok x ∷ through_status k rest)
through_any zero items rest x some e = absurd (omega (some, arith))
through_any (suc n) items rest x some e = (cond (is_status x) n (suc n), ap (through_status (suc n)) e ∙ through-note n x rest (is_status x) refl)

through-none : (items : List NoteItem) → through_status 0 items ≡ []
unfolding through_status
through-none items = refl

-- where there are fewer threads, all notes are looked at
pub all_through : (arch : Arch) (n : ℕ) (items : List NoteItem) → length (threads_in arch (whole_notes items)) < n → through_status n items ≡ items
all_through arch n [] few = through-end n
all_through arch n (Err place ∷ items) few =
    let same = at_cut (λ (ns : List NoteView). length (threads_in arch ns)) (Err place ∷ items) items place refl in
    through_cut n (Err place ∷ items) items place (omega (few, arith)) refl ∙ ap (λ (xs : List NoteItem). Err place ∷ xs) (all_through arch n items (omega (few, same, arith)))
all_through arch n (Ok x ∷ items) few = by_status (is_status x) refl (all_through arch (n - 1) items) (all_through arch n items)
  where
    by_status : (b : Bool) → is_status x ≡ b → (length (threads_in arch (whole_notes items)) < n - 1 → through_status (n - 1) items ≡ items) → (length (threads_in arch (whole_notes items)) < n → through_status n items ≡ items)
        → through_status n (Ok x ∷ items) ≡ Ok x ∷ items
    by_status true e fewer same =
        let more : length (threads_in arch (whole_notes (Ok x ∷ items))) ≡ length (threads_in arch (whole_notes items)) + 1 = ap length (status_is_thread arch (Ok x ∷ items) items x refl e) ∙ omega arith in
        through_thread n (Ok x ∷ items) items x (omega (few, arith)) refl e ∙ ap (λ (xs : List NoteItem). Ok x ∷ xs) (fewer (omega (few, more, arith)))
    by_status false e fewer same =
        let alike = ap length (other_is_none arch (Ok x ∷ items) items x refl e) in
        through_other n (Ok x ∷ items) items x (omega (few, arith)) refl e ∙ ap (λ (xs : List NoteItem). Ok x ∷ xs) (same (omega (few, alike, arith)))

-- ---- the count
-- what was checked and counted so far, and what is left, are what all is
pub record Counted (arch : Arch) (threads : ℕ) (left all : List NoteItem) : Type 0 where
  pub fits : threads ≤ 4096
  pub check : items_check arch (nat_lt 0 threads) (through_status (4097 - threads) left) ≡ items_check arch false (through_status 4097 all)
  pub count : min (threads + length (threads_in arch (whole_notes left))) 4097 ≡ min (length (threads_in arch (whole_notes all))) 4097

pub nothing_counted : (arch : Arch) (all : List NoteItem) → Counted arch 0 all all
nothing_counted arch all = record { fits = omega arith; check = refl; count = ap (λ (n : ℕ). min n 4097) (omega arith) }

or_true : (b : Bool) → (b || true) ≡ true
or_true true = refl
or_true false = refl

or_false : (b : Bool) → (b || false) ≡ b
or_false true = refl
or_false false = refl

-- the check after a status
after_status : (arch : Arch) (threads : ℕ) (items rest : List NoteItem) (n : NoteView) → threads ≤ 4096 → items ≡ Ok n ∷ rest → is_status n ≡ true → note_check arch (nat_lt 0 threads) n ≡ Ok tt
    → items_check arch (nat_lt 0 threads) (through_status (4097 - threads) items) ≡ items_check arch (nat_lt 0 (threads + 1)) (through_status (4097 - (threads + 1)) rest)
after_status arch threads items rest n fits e s h =
    let left : 4097 - threads - 1 ≡ 4097 - (threads + 1) = omega arith in
    let first = through_thread (4097 - threads) items rest n (omega (fits, arith)) e s in
    let after : (nat_lt 0 threads || is_status n) ≡ nat_lt 0 (threads + 1) = ap (λ (b : Bool). nat_lt 0 threads || b) s ∙ or_true (nat_lt 0 threads) ∙ sym (lt-ltb 0 (threads + 1) (omega arith)) in
    note_is_fine arch (nat_lt 0 threads) (through_status (4097 - threads) items) (through_status (4097 - threads - 1) rest) n first h
    ∙ ap (λ (b : Bool). items_check arch b (through_status (4097 - threads - 1) rest)) after
    ∙ ap (λ (k : ℕ). items_check arch (nat_lt 0 (threads + 1)) (through_status k rest)) left

one_thread : (arch : Arch) (items rest : List NoteItem) (n : NoteView) → items ≡ Ok n ∷ rest → is_status n ≡ true → length (threads_in arch (whole_notes items)) ≡ length (threads_in arch (whole_notes rest)) + 1
one_thread arch items rest n e s = ap length (status_is_thread arch items rest n e s) ∙ omega arith

pub status_counted : (arch : Arch) (threads : ℕ) (items rest all : List NoteItem) (n : NoteView) → Counted arch threads items all → items ≡ Ok n ∷ rest → is_status n ≡ true
    → note_check arch (nat_lt 0 threads) n ≡ Ok tt → threads + 1 ≤ 4096 → Counted arch (threads + 1) rest all
status_counted arch threads items rest all n c e s h fits =
    let len = one_thread arch items rest n e s in
    record {
      fits = fits;
      check = sym (after_status arch threads items rest n c.fits e s h) ∙ c.check;
      count = omega (c.count, len, arith);
    }

-- the status of thread 4097 is the last note that is looked at
pub record AllCounted (arch : Arch) (threads : ℕ) (all : List NoteItem) : Type 0 where
  pub check : Ok tt ≡ items_check arch false (through_status 4097 all)
  pub count : threads ≡ min (length (threads_in arch (whole_notes all))) 4097

pub last_counted : (arch : Arch) (threads : ℕ) (items rest all : List NoteItem) (n : NoteView) → Counted arch threads items all → items ≡ Ok n ∷ rest → is_status n ≡ true
    → note_check arch (nat_lt 0 threads) n ≡ Ok tt → 4096 < threads + 1 → AllCounted arch (threads + 1) all
last_counted arch threads items rest all n c e s h over =
    let len = one_thread arch items rest n e s in
    let none : 4097 - (threads + 1) ≡ 0 = omega (over, arith) in
    record {
      check = sym (check_ends arch (nat_lt 0 (threads + 1)) (through_status (4097 - (threads + 1)) rest) (ap (λ (k : ℕ). through_status k rest) none ∙ through-none rest))
          ∙ sym (after_status arch threads items rest n c.fits e s h) ∙ c.check;
      count = omega (c.count, c.fits, over, len, arith);
    }

pub all_counted : (arch : Arch) (threads : ℕ) (items all : List NoteItem) → Counted arch threads items all → items ≡ [] → AllCounted arch threads all
all_counted arch threads items all c e =
    let none = ap length (threads_end arch items e) in
    record {
      check = sym (check_ends arch (nat_lt 0 threads) (through_status (4097 - threads) items) (through_ends (4097 - threads) items e)) ∙ c.check;
      count = omega (c.fits, c.count, none, arith);
    }

pub other_counted : (arch : Arch) (threads : ℕ) (items rest all : List NoteItem) (n : NoteView) → Counted arch threads items all → items ≡ Ok n ∷ rest → is_status n ≡ false
    → note_check arch (nat_lt 0 threads) n ≡ Ok tt → Counted arch threads rest all
other_counted arch threads items rest all n c e s h =
    let after : (nat_lt 0 threads || is_status n) ≡ nat_lt 0 threads = ap (λ (b : Bool). nat_lt 0 threads || b) s ∙ or_false (nat_lt 0 threads) in
    let first = through_other (4097 - threads) items rest n (omega (c.fits, arith)) e s in
    record {
      fits = c.fits;
      check = sym (note_is_fine arch (nat_lt 0 threads) (through_status (4097 - threads) items) (through_status (4097 - threads) rest) n first h ∙ ap (λ (b : Bool). items_check arch b (through_status (4097 - threads) rest)) after) ∙ c.check;
      count = ap (λ (ts : List Thread). min (threads + length ts) 4097) (sym (other_is_none arch items rest n e s)) ∙ c.count;
    }

-- a note that is cut, and one that is wrong
pub cut_counted : (arch : Arch) (threads : ℕ) (items rest all : List NoteItem) (place : ℕ) → Counted arch threads items all → items ≡ Err place ∷ rest → Err (Note place) ≡ items_check arch false (through_status 4097 all)
cut_counted arch threads items rest all place c e =
    sym (cut_is_fault arch (nat_lt 0 threads) (through_status (4097 - threads) items) (through_status (4097 - threads) rest) place (through_cut (4097 - threads) items rest place (omega (c.fits, arith)) e)) ∙ c.check

pub wrong_counted : (arch : Arch) (threads : ℕ) (items rest all : List NoteItem) (n : NoteView) (f : CoreFault) → Counted arch threads items all → items ≡ Ok n ∷ rest → note_check arch (nat_lt 0 threads) n ≡ Err f
    → Err f ≡ items_check arch false (through_status 4097 all)
wrong_counted arch threads items rest all n f c e h =
    let first = through_any (4097 - threads) items rest n (omega (c.fits, arith)) e in
    sym (note_is_fault arch (nat_lt 0 threads) (through_status (4097 - threads) items) (through_status first.0 rest) n f first.1 h) ∙ c.check
