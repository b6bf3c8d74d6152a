-- What is stored stays as it is where bytes are appended.
use Rattle.std.proofs.Common.{◌≡◌, ◌≤◌, ◌<◌, ◌+◌, ℕ, Bool, true, false, zero, suc, List, [], ◌∷◌, ◌++◌, length, take, drop, get_or, refl, sym, ap, subst, ◌∙◌, arith}
use Rattle.std.proofs.Math.Seq.{take-append_seam, take-length, take-suc}
use Rattle.std.proofs.lemmas.List.{drop-take, length-take, map-append}
use Rattle.std.proofs.lemmas.List.Elements.{All-append, All-head, All-tail}
use Rattle.std.specs.Prelude.{All, map, if◌then◌else◌}
use Rattle.sf_model.specs.declared.function.Func.{Func}
use Rattle.sf_model.specs.RowBytes.{StandsAt}
use Rattle.sf_write.specs.declared.stored.StoredRows.{StoredRows}
use Rattle.sf_write.specs.declared.stored.StoredFunction.{StoredFunction}
use Rattle.sf_write.specs.Row.{BeginWith}
use Rattle.sf_write.specs.Stored.{IsSpelled, IsStored, function_by, range_of, stored_in}

take_less : (n m : ℕ) (xs : List ℕ) → n ≤ m → take n (take m xs) ≡ take n xs
take_less zero m xs le = refl
take_less (suc n) zero xs le = absurd (omega (arith, le))
take_less (suc n) (suc m) [] le = refl
take_less (suc n) (suc m) (x ∷ xs) le = ap (λ (ys : List ℕ). x ∷ ys) (take_less n m xs (omega (arith, le)))

-- a front is not longer than the whole
front_short : (a b : List ℕ) → StandsAt b 0 a → length a ≤ length b
front_short a b p =
    let cut = ap length p in
    let short = length-take (length a) b in omega (cut, short, arith)

-- bytes begin with themselves, and after an append with the bytes before it; a front's front is a
-- front of the whole
pub begin_same : (a : List ℕ) → BeginWith a a
unfolding BeginWith
begin_same a = take-length a

pub begin_front : (ok : Bool) (a b run : List ℕ) → b ≡ (if ok then a ++ run else a) → BeginWith b a
unfolding BeginWith
begin_front true a b run e = ap (take (length a)) e ∙ take-append_seam a run
begin_front false a b run e = ap (take (length a)) e ∙ take-length a

pub begin_on : (a b c : List ℕ) → BeginWith b a → BeginWith c b → BeginWith c a
unfolding BeginWith
begin_on a b c p q = sym (take_less (length a) (length b) c (front_short a b p)) ∙ (ap (take (length a)) q ∙ p)

-- a range of the front is the same in the whole
range_same : (place len : ℕ) (a b : List ℕ) → place + len ≤ length a → StandsAt b 0 a → take len (drop place b) ≡ take len (drop place a)
range_same place len a b le front =
    sym (drop-take place len b)
    ∙ (ap (drop place) (sym (take_less (place + len) (length a) b le) ∙ ap (take (place + len)) front) ∙ drop-take place len a)

pub stays : (old new : StoredRows) (f : StoredFunction) → BeginWith new.bytes.items old.bytes.items → IsStored old f → IsStored new f × (stored_in new f ≡ stored_in old f)
unfolding stored_in BeginWith
stays old new f front h =
    let same : range_of new f ≡ range_of old f = range_same f.place f.len old.bytes.items new.bytes.items h.within front in
    let more = front_short old.bytes.items new.bytes.items front in
    let within = h.within in (
      record { within = omega (more, within, arith); spelled = subst (IsSpelled f) (sym same) h.spelled },
      ap (function_by f) same,
    )

-- what a call keeps of one function, it keeps of all
abbrev pub Keeps : (old new : StoredRows) → Type 0
Keeps old new = (f : StoredFunction) → IsStored old f → IsStored new f × (stored_in new f ≡ stored_in old f)

maps_same : (old new : StoredRows) (fs : List StoredFunction) → Keeps old new → All (IsStored old) fs → map (stored_in new) fs ≡ map (stored_in old) fs
maps_same old new [] keeps h = refl
maps_same old new (f ∷ fs) keeps h =
    ap (λ (g : Func). g ∷ map (stored_in new) fs) (keeps f (All-head (IsStored old) f fs h)).1
    ∙ ap (λ (gs : List Func). stored_in old f ∷ gs) (maps_same old new fs keeps (All-tail (IsStored old) f fs h))

pub all_stay : (old new : StoredRows) (fs : List StoredFunction) → Keeps old new → All (IsStored old) fs → All (IsStored new) fs × (map (stored_in new) fs ≡ map (stored_in old) fs)
all_stay old new fs keeps h = (λ k d lt. (keeps _ (h k d lt)).0, maps_same old new fs keeps h)

All-one : {X : Type 0} (P : X → Type 0) (x : X) → P x → All P (x ∷ [])
All-one P x p zero d lt = p
All-one P x p (suc k) d lt = absurd (omega (lt, arith))

-- one more function is stored, after the first of a list
pub one_more : (old new : StoredRows) (fs more : List StoredFunction) (f : StoredFunction) (functions : List Func) (i : ℕ) (d : Func) → Keeps old new → All (IsStored old) fs → map (stored_in old) fs ≡ take i functions
    → i < length functions → IsStored new f × (stored_in new f ≡ get_or functions i d) → more ≡ fs ++ f ∷ [] → All (IsStored new) more × (map (stored_in new) more ≡ take (i + 1) functions)
one_more old new fs more f functions i d keeps stored same within one e =
    let still : All (IsStored new) fs × (map (stored_in new) fs ≡ map (stored_in old) fs) = all_stay old new fs keeps stored in
    let next : i + 1 ≡ suc i = omega arith in (
      subst (All (IsStored new)) (sym e) (All-append (IsStored new) fs (f ∷ []) still.0 (All-one (IsStored new) f one.0)),
      ap (map (stored_in new)) e
          ∙ (map-append (stored_in new) fs (f ∷ [])
          ∙ (ap (λ (gs : List Func). gs ++ stored_in new f ∷ []) (still.1 ∙ same)
          ∙ (ap (λ (g : Func). take i functions ++ g ∷ []) one.1 ∙ (sym (take-suc functions i d within) ∙ ap (λ (k : ℕ). take k functions) (sym next))))),
    )
