-- Core files that are loaded again, in the places of what was loaded of them before.
use Rattle.std.specs.Prelude.{IfSome}
use Rattle.std.proofs.Common.{◌≡◌, ◌⊎◌, inl, inr, ◌^◌, ℕ, zero, suc, ◌+◌, ◌<◌, ◌≤◌, true, false, All, List, [], ◌∷◌, length, set, take, get_or, Some, None, IsTrue, refl, ap, sym, subst, ◌∙◌, arith}
use Rattle.std.proofs.lemmas.List.{length-map, length-set, map-set, set-get_or, take_more_set}
use Rattle.std.proofs.lemmas.List.Elements.{All-more, All-push}
use Rattle.std.proofs.Math.ListN.{get_or-map}
use Rattle.std.proofs.Math.Seq.{map-set_same}
use Rattle.std.specs.List.{zip}
use Rattle.sf_base.specs.Contents.{contents_of}
use Rattle.sf_words.specs.declared.loaded.Loaded.{Loaded}
use Rattle.sf_words.specs.declared.item_read.ItemRead.{ItemRead}
use Rattle.sf_words.specs.declared.item_read.ItemRead.TheVariants as read
use Rattle.sf_words.specs.declared.refusal.Limit.TheVariants.{File}
use Rattle.sf_words.specs.declared.refusal.Refusal.{Refusal}
use Rattle.sf_base.specs.declared.loading.LoadFault.{LoadFault}
use Rattle.sf_base.specs.declared.loading.LoadFault.TheVariants as load
use Rattle.sf_words.specs.ItemRead.{is_read_whole, read_bytes}
use Rattle.sf_words.specs.Items.{ItemWords, Input, Section, Core, Mapped, counted_bytes, is_core, item_of, limit_of, most_read, name_of, suits}
use Rattle.sf_words.specs.Loading.{Contents, bytes_limit, bytes_known, loaded_bytes, loaded_items, AreBytesOf, AreLoaded, AreReadWhole, Exceeds, IsLoadRefusal, IsLoadingRefusal, NeedsTooMuch}
use Rattle.sf_words.proofs.Loads.{core_or_not, goes_on, longer, needs_too_much, refuses_by, too_long, within_both}

-- of a core file no bytes count
none_counted : (kind : ItemWords) (n : ℕ) → is_core kind ≡ true → counted_bytes kind n ≡ 0
none_counted (Input input) n is = absurd cc
none_counted (Section section) n is = absurd cc
none_counted (Core name) n is = refl
none_counted (Mapped name) n is = absurd cc

-- other bytes of a core file, within its limit, leave all within the limits
still_within : (item total : ℕ) (items : List ItemWords) (files : List (List ℕ)) (k : ℕ) (d : ItemWords) (bytes : List ℕ) → is_core (get_or items k d) ≡ true → length bytes ≤ limit_of (get_or items k d)
    → bytes_limit item total (zip items files) ≡ None → bytes_limit item total (zip items (set files k bytes)) ≡ None
still_within item total [] files k d bytes core short h = h
still_within item total (i ∷ is) [] k d bytes core short h = h
still_within item total (i ∷ is) (f ∷ fs) zero d bytes core short h =
    let both = within_both item total i f (zip is fs) h in
    let before = none_counted i (length f) core in
    let after = none_counted i (length bytes) core in
    goes_on item total i bytes (zip is fs) short (omega (arith, both.1, before, after))
    ∙ ap (λ (n : ℕ). bytes_limit (item + 1) (total + n) (zip is fs)) (after ∙ sym before)
    ∙ sym (goes_on item total i f (zip is fs) both.0 both.1) ∙ h
still_within item total (i ∷ is) (f ∷ fs) (suc k) d bytes core short h =
    let both = within_both item total i f (zip is fs) h in
    goes_on item total i f (zip is (set fs k bytes)) both.0 both.1
    ∙ still_within (item + 1) (total + counted_bytes i (length f)) is fs k d bytes core short (sym (goes_on item total i f (zip is fs) both.0 both.1) ∙ h)

-- longer bytes of a file exceed the limit of its kind, as the first
then_too_long : (item total : ℕ) (items : List ItemWords) (files : List (List ℕ)) (k : ℕ) (d : ItemWords) (bytes : List ℕ) → k < length items → length files ≡ length items
    → limit_of (get_or items k d) < length bytes → bytes_limit item total (zip items files) ≡ None → bytes_limit item total (zip items (set files k bytes)) ≡ Some (File (item + k))
then_too_long item total [] files k d bytes lt count long h = let none : ⊥ = omega arith in absurd none
then_too_long item total (i ∷ is) [] k d bytes lt count long h = let none : ⊥ = omega arith in absurd none
then_too_long item total (i ∷ is) (f ∷ fs) zero d bytes lt count long h = too_long item total i bytes (zip is fs) long ∙ ap (λ (n : ℕ). Some (File n)) (omega arith)
then_too_long item total (i ∷ is) (f ∷ fs) (suc k) d bytes lt count long h =
    let both = within_both item total i f (zip is fs) h in
    goes_on item total i f (zip is (set fs k bytes)) both.0 both.1
    ∙ then_too_long (item + 1) (total + counted_bytes i (length f)) is fs k d bytes (omega arith) (omega arith) long (sym (goes_on item total i f (zip is fs) both.0 both.1) ∙ h)
    ∙ ap (λ (n : ℕ). Some (File n)) (omega arith)

at_set : (files : List (List ℕ)) (k : ℕ) (bytes : List ℕ) → k < length files → get_or (set files k bytes) k [] ≡ bytes
at_set [] k bytes lt = let none : ⊥ = omega arith in absurd none
at_set (f ∷ fs) zero bytes lt = refl
at_set (f ∷ fs) (suc k) bytes lt = at_set fs k bytes (omega arith)

-- what a file's name holds, in the place of the file's bytes
again : (contents : Contents) (items : List ItemWords) (files : List (List ℕ)) (k : ℕ) (d : ItemWords) (bytes : List ℕ) → k < length items → AreBytesOf contents items files
    → IfSome contents (λ known. bytes ≡ contents_of known (name_of (get_or items k d))) → AreBytesOf contents items (set files k bytes)
again None items files k d bytes lt h is = record { are = tt; count = length-set files k bytes ∙ h.count }
again (Some known) items files k d bytes lt h is =
    let one : ItemWords → List ℕ = λ item. contents_of known (name_of item) in
    let at : get_or (bytes_known known items) k (one d) ≡ bytes = get_or-map one items k d ∙ sym is in
    record {
      are = ap (λ (all : List (List ℕ)). set all k bytes) h.are ∙ ap (λ (b : List ℕ). set (bytes_known known items) k b) (sym at) ∙ set-get_or (bytes_known known items) k (one d);
      count = length-set files k bytes ∙ h.count;
    }

-- a core file that is loaded again
loaded_again : (contents : Contents) (items : List ItemWords) (files : List (List ℕ)) (k : ℕ) (d : ItemWords) (bytes : List ℕ) → k < length items → AreLoaded contents items files
    → is_core (get_or items k d) ≡ true → length bytes ≤ limit_of (get_or items k d) → IfSome contents (λ known. bytes ≡ contents_of known (name_of (get_or items k d)))
    → AreLoaded contents items (set files k bytes)
loaded_again contents items files k d bytes lt h core short is = record {
  bytes = again contents items files k d bytes lt h.bytes is;
  within = still_within 0 0 items files k d bytes core short h.within;
}

-- a file that is too long when it is loaded again, or a core file of which too much would have to be read
long_again : (contents : Contents) (items : List ItemWords) (files : List (List ℕ)) (k : ℕ) (d : ItemWords) → k < length items → AreLoaded contents items files
    → IfSome contents (λ known. most_read (get_or items k d) < length (contents_of known (name_of (get_or items k d)))) → Exceeds contents items (File k) ⊎ NeedsTooMuch contents items (File k)
long_again contents items files k d lt h long = by_contents contents h long
  where
    with_bytes : (contents : Contents) (bytes : List ℕ) → AreLoaded contents items files → most_read (get_or items k d) < length bytes
        → IfSome contents (λ known. bytes ≡ contents_of known (name_of (get_or items k d))) → Exceeds contents items (File k) ⊎ NeedsTooMuch contents items (File k)
    with_bytes contents bytes h long is = by_kind (core_or_not (get_or items k d))
      where
        are : AreBytesOf contents items (set files k bytes)
        are = again contents items files k d bytes lt h.bytes is

        by_kind : ((is_core (get_or items k d) ≡ true) × (most_read (get_or items k d) ≡ 2 ^ 30)) ⊎ (most_read (get_or items k d) ≡ limit_of (get_or items k d))
            → Exceeds contents items (File k) ⊎ NeedsTooMuch contents items (File k)
        by_kind (inl core) =
            inr (needs_too_much contents items (set files k bytes) k d bytes are lt (at_set files k bytes (omega (arith, lt, h.bytes.count))) core.0 (subst (λ (n : ℕ). n < length bytes) core.1 long))
        by_kind (inr other) = inl record {
          files = set files k bytes;
          bytes = are;
          first = then_too_long 0 0 items files k d bytes lt h.bytes.count (subst (λ (n : ℕ). n < length bytes) other long) h.within ∙ ap (λ (n : ℕ). Some (File n)) (omega arith);
        }

    by_contents : (contents : Contents) → AreLoaded contents items files → IfSome contents (λ known. most_read (get_or items k d) < length (contents_of known (name_of (get_or items k d))))
        → Exceeds contents items (File k) ⊎ NeedsTooMuch contents items (File k)
    by_contents None h long = let l = longer (most_read (get_or items k d)) in with_bytes None l.0 h l.1 tt
    by_contents (Some known) h long = with_bytes (Some known) (contents_of known (name_of (get_or items k d))) h long refl

-- ---- the file at a place of what was loaded
-- the item at that place is the file's
at_place : (items : List ItemWords) (now : List Loaded) (k : ℕ) (file : Loaded) → loaded_items now ≡ items → file ≡ get_or now k file → get_or items k (item_of file.item) ≡ item_of file.item
at_place items now k file are is =
    ap (λ (all : List ItemWords). get_or all k (item_of file.item)) (sym are) ∙ get_or-map (λ (l : Loaded). item_of l.item) now k file ∙ ap (λ (l : Loaded). item_of l.item) (sym is)

is_place : (items : List ItemWords) (now : List Loaded) (k : ℕ) → loaded_items now ≡ items → k < length now → k < length items
is_place items now k are lt = subst (λ (all : List ItemWords). k < length all) are (omega (arith, length-map now (λ (l : Loaded). item_of l.item), lt))

-- there are as many files as before
pub as_many_files : (before now : List Loaded) → loaded_items now ≡ loaded_items before → length now ≡ length before
as_many_files before now are =
    let item : Loaded → ItemWords = λ l. item_of l.item in
    sym (length-map now item) ∙ ap (λ (items : List ItemWords). length items) are ∙ length-map before item

-- what holds of all names holds of the file's
pub of_item_at : (P : ItemWords → Type 0) (items : List ItemWords) (now : List Loaded) (k : ℕ) (file : Loaded) → loaded_items now ≡ items → k < length now → file ≡ get_or now k file → All P items → P (item_of file.item)
of_item_at P items now k file are lt is all =
    let own = item_of file.item in
    let place = is_place items now k are lt in
    subst P (at_place items now k file are is) (all k own (omega (arith, place)))

-- why the file is not loaded again
pub refuses_again : (contents before : Contents) (items : List ItemWords) (now : List Loaded) (k : ℕ) (file : Loaded) (fault : LoadFault) (refused : Refusal) → before ≡ contents → loaded_items now ≡ items
    → AreLoaded contents items (loaded_bytes now) → k < length now → file ≡ get_or now k file → IsLoadRefusal fault k (name_of (item_of file.item)) refused
    → ((limit : ℕ) → fault ≡ load.TooLong limit → IfSome before (λ known. most_read (item_of file.item) < length (contents_of known (name_of (item_of file.item))))) → IsLoadingRefusal contents items refused
refuses_again contents before items now k file fault refused same are h lt is refuses long =
    let own = item_of file.item in
    let at = at_place items now k file are is in
    let place = is_place items now k are lt in
    refuses_by contents items k k own fault refused place refl (subst (λ (i : ItemWords). IsLoadRefusal fault k (name_of i) refused) (sym at) refuses)
    (λ limit e.
    long_again contents items (loaded_bytes now) k own place h
    (subst (λ (i : ItemWords). IfSome contents (λ known. most_read i < length (contents_of known (name_of i)))) (sym at)
    (subst (λ (o : Contents). IfSome o (λ known. most_read own < length (contents_of known (name_of own)))) same (long limit e))))

-- the file is loaded again: the items are as they were
pub items_again : (items : List ItemWords) (now after : List Loaded) (k : ℕ) (file new : Loaded) → loaded_items now ≡ items → file ≡ get_or now k file → new.item ≡ file.item → after ≡ set now k new
    → loaded_items after ≡ items
items_again items now after k file new are is named h =
    let item : Loaded → ItemWords = λ l. item_of l.item in
    ap loaded_items h ∙ map-set_same item now k new file (ap item_of named ∙ ap item is) ∙ are

-- the bytes are still those of the items, within the limits
pub core_again : (contents before : Contents) (items : List ItemWords) (now after : List Loaded) (k : ℕ) (file new : Loaded) (it : ItemRead) → before ≡ contents → loaded_items now ≡ items
    → AreLoaded contents items (loaded_bytes now) → k < length now → file ≡ get_or now k file → new.read ≡ it → after ≡ set now k new → is_core (item_of file.item) ≡ true
    → length (read_bytes it) ≤ limit_of (item_of file.item) → IfSome before (λ known. read_bytes it ≡ contents_of known (name_of (item_of file.item))) → AreLoaded contents items (loaded_bytes after)
core_again contents before items now after k file new it same are h lt is read_is put core short known =
    let own = item_of file.item in
    let bytes = read_bytes it in
    let at = sym (at_place items now k file are is) in
    subst (AreLoaded contents items)
    (sym (ap loaded_bytes put ∙ map-set (λ (l : Loaded). read_bytes l.read) now k new ∙ ap (λ (r : ItemRead). set (loaded_bytes now) k (read_bytes r)) read_is))
    (loaded_again contents items (loaded_bytes now) k own bytes (is_place items now k are lt) h (subst (λ (i : ItemWords). is_core i ≡ true) at core)
    (subst (λ (i : ItemWords). length bytes ≤ limit_of i) at short)
    (subst (λ (i : ItemWords). IfSome contents (λ known. bytes ≡ contents_of known (name_of i))) at
    (subst (λ (o : Contents). IfSome o (λ known. bytes ≡ contents_of known (name_of own))) same known)))

-- one file more is read whole
pub whole_again : (now after : List Loaded) (k : ℕ) (new : Loaded) (it : ItemRead) → k < length now → new.read ≡ it → after ≡ set now k new → AreReadWhole (take k now) → is_read_whole it ≡ true
    → AreReadWhole (take (k + 1) after)
whole_again now after k new it lt read_is put all whole =
    let read_whole : Loaded → Type 0 = λ l. is_read_whole l.read ≡ true in
    subst (All read_whole) (sym (ap (take (k + 1)) put ∙ take_more_set now k new lt)) (All-push read_whole (take k now) new all (ap is_read_whole read_is ∙ whole))

-- a file that is no core file is read whole
not_core_whole : (item : ItemWords) (it : ItemRead) → IsTrue (suits item it) → is_core item ≡ false → is_read_whole it ≡ true
not_core_whole item (read.File file) suited other = refl
not_core_whole item (read.Mapped mapped) suited other = refl
not_core_whole item (read.Core core) suited other = let e : true ≡ false = sym suited ∙ other in absurd cc

pub whole_on : (now after : List Loaded) (k : ℕ) (file : Loaded) → k < length now → file ≡ get_or now k file → after ≡ now → AreReadWhole (take k now) → is_core (item_of file.item) ≡ false
    → AreReadWhole (take (k + 1) after)
whole_on now after k file lt is same all other =
    let read_whole : Loaded → Type 0 = λ l. is_read_whole l.read ≡ true in
    subst (λ (l : List Loaded). All read_whole (take (k + 1) l)) (sym same)
    (All-more read_whole now k file lt all (subst read_whole is (not_core_whole (item_of file.item) file.read file.suited other)))
