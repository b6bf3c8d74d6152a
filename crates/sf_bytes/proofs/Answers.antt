-- From what a read gives to what a call returns.
use Rattle.std.proofs.Common.{◌≡◌, ℕ, ap, sym, ◌∙◌, Result, Ok, Err}
use Rattle.std.specs.Prelude.{IfOk, IsOkAnd, List}
use Rattle.sf_bytes.specs.declared.fault.ByteFault.{ByteFault}
use Rattle.sf_bytes.specs.declared.part.Part.{Part}
use Rattle.sf_bytes.specs.Cursor.{Cursor, Read, cursor, Gives}
use Rattle.sf_bytes.specs.Standing.{Stands}
use Rattle.sf_bytes.proofs.Fields.{ok_is}

-- what is returned is there, if what the read gives is
pub answer_stands : {X Y : Type 0} (Kind : List ℕ → Y → Type 0) (view : X → Y) (old new : Part) (r : Result X ByteFault) (read : Read Y)
    → Gives view old new r read → ((y : Y) (after : Cursor) → read ≡ Ok (y, after) → Stands Kind y (cursor old) after)
    → IfOk r (λ x. Stands Kind (view x) (cursor old) (cursor new))
answer_stands Kind view old new (Ok x) read gives takes = takes (view x) (cursor new) gives
answer_stands Kind view old new (Err e) read gives takes = tt

abbrev refused : {A : Type 0} → ByteFault → Result A ByteFault
refused f = Err f

two_answers : {A B : Type 0} (f : ByteFault) (a : A) → refused {A = A} f ≡ Ok a → B
two_answers f a e = absurd cc

-- what the read gives is returned, seen through `view`
pub answer_given : {X Y : Type 0} (view : X → Y) (old new : Part) (r : Result X ByteFault) (read : Read Y) (y : Y) (after : Cursor)
    → Gives view old new r read → read ≡ Ok (y, after) → IsOkAnd r (λ x. view x ≡ y) × (cursor new ≡ after)
answer_given {Y = Y} view old new (Ok x) read y after gives e =
    let p = ok_is (view x, cursor new) (y, after) (sym gives ∙ e) in
    (ap (λ (q : Y × Cursor). q.0) p, ap (λ (q : Y × Cursor). q.1) p)
answer_given view old new (Err f) read y after gives e = two_answers f (y, after) (sym gives.0 ∙ e)

pub answer_is : {X : Type 0} (r : Result X ByteFault) (y : X) → IsOkAnd r (λ x. x ≡ y) → r ≡ Ok y
answer_is {X = X} (Ok x) y h = ap (λ (z : X). Ok z) h
answer_is (Err f) y h = absurd h
