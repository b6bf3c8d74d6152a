-- Files that are loaded one after the other, and the first limit that they exceed.
use Rattle.std.specs.Prelude.{nat_lt, IfSome}
use Rattle.std.proofs.Common.{◌≡◌, ◌⊎◌, inl, inr, ℕ, zero, suc, ◌+◌, ◌<◌, ◌≤◌, ◌^◌, Bool, true, false, cond, All, List, [], ◌∷◌, ◌++◌, map, length, take, drop, get_or, Option, Some, None, refl, ap, sym, subst, append_assoc, ◌∙◌, arith}
use Rattle.std.proofs.lemmas.Bool.{lt-ltb, le-ltb}
use Rattle.std.proofs.lemmas.Bool.Decides.{nat_tests}
use Rattle.std.proofs.lemmas.List.Elements.{All-push}
use Rattle.std.proofs.lemmas.List.{length-map, length-append, take_more, drop_more, append-nil}
use lib.Seq.{take-length}
use Rattle.sf_base.specs.Contents.{contents_of}
use Rattle.sf_base.specs.declared.loading.LoadFault.{LoadFault}
use Rattle.sf_base.specs.declared.loading.LoadFault.TheVariants as load
use Rattle.sf_words.specs.declared.item.Item.{Item}
use Rattle.std.specs.List.{zip}
use Rattle.sf_words.specs.declared.loaded.Loaded.{Loaded}
use Rattle.sf_words.specs.ItemRead.{is_read_whole, read_bytes}
use Rattle.sf_words.specs.Items.{ItemWords, Input, Section, Core, Mapped, counted_bytes, is_core, item_of, limit_of, most_read, name_of, names_of}
use Rattle.std.proofs.Math.ListN.{get_or-map}
use Rattle.sf_words.specs.declared.refusal.Limit.{Limit}
use Rattle.sf_words.specs.declared.refusal.Limit.TheVariants.{File, Total}
use Rattle.sf_words.specs.declared.refusal.Refusal.{Refusal}
use Rattle.sf_words.specs.declared.refusal.Refusal.TheVariants as refusal
use Rattle.sf_words.specs.Loading.{Contents, bytes_limit, items_limit, bytes_known, loaded_bytes, loaded_items, AreBytesOf, AreLoaded, Exceeds, IsReadOf, IsLoadRefusal, IsLoadingRefusal, NamesFailed, NeedsTooMuch}

one_step : (item total : ℕ) (kind : ItemWords) (bytes : List ℕ) (rest : List (ItemWords × List ℕ)) (long much : Bool) → nat_lt (limit_of kind) (length bytes) ≡ long
    → nat_lt (2 ^ 30) (total + counted_bytes kind (length bytes)) ≡ much
    → bytes_limit item total ((kind, bytes) ∷ rest) ≡ cond long (Some (File item)) (cond much (Some Total) (bytes_limit (item + 1) (total + counted_bytes kind (length bytes)) rest))
unfolding bytes_limit
one_step item total kind bytes rest long much p q = rw (p, q) refl

-- a file that is longer than the limit of its kind
pub too_long : (item total : ℕ) (kind : ItemWords) (bytes : List ℕ) (rest : List (ItemWords × List ℕ)) → limit_of kind < length bytes → bytes_limit item total ((kind, bytes) ∷ rest) ≡ Some (File item)
too_long item total kind bytes rest long =
    one_step item total kind bytes rest true (nat_lt (2 ^ 30) (total + counted_bytes kind (length bytes))) (lt-ltb (limit_of kind) (length bytes) long) refl

-- a file with which all are too long
too_much : (item total : ℕ) (kind : ItemWords) (bytes : List ℕ) (rest : List (ItemWords × List ℕ)) → length bytes ≤ limit_of kind → 2 ^ 30 < total + counted_bytes kind (length bytes)
    → bytes_limit item total ((kind, bytes) ∷ rest) ≡ Some Total
too_much item total kind bytes rest short much =
    one_step item total kind bytes rest false true (le-ltb (limit_of kind) (length bytes) short) (lt-ltb (2 ^ 30) (total + counted_bytes kind (length bytes)) much)

-- a file within both limits
pub goes_on : (item total : ℕ) (kind : ItemWords) (bytes : List ℕ) (rest : List (ItemWords × List ℕ)) → length bytes ≤ limit_of kind → total + counted_bytes kind (length bytes) ≤ 2 ^ 30
    → bytes_limit item total ((kind, bytes) ∷ rest) ≡ bytes_limit (item + 1) (total + counted_bytes kind (length bytes)) rest
goes_on item total kind bytes rest short few =
    one_step item total kind bytes rest false false (le-ltb (limit_of kind) (length bytes) short) (le-ltb (2 ^ 30) (total + counted_bytes kind (length bytes)) few)

tests_of : {A : Type 0} (long much : Bool) (first second rest : A) (none : A) → (first ≡ none → ⊥) → (second ≡ none → ⊥) → cond long first (cond much second rest) ≡ none → (long ≡ false) × (much ≡ false)
tests_of true much first second rest none p q h = absurd (p h)
tests_of false true first second rest none p q h = absurd (q h)
tests_of false false first second rest none p q h = (refl, refl)

not_less : (a b : ℕ) → nat_lt a b ≡ false → b ≤ a
not_less a b h = grind (arith, nat_tests)

pub within_both : (item total : ℕ) (kind : ItemWords) (bytes : List ℕ) (rest : List (ItemWords × List ℕ)) → bytes_limit item total ((kind, bytes) ∷ rest) ≡ None
    → (length bytes ≤ limit_of kind) × (total + counted_bytes kind (length bytes) ≤ 2 ^ 30)
within_both item total kind bytes rest h =
    let all = total + counted_bytes kind (length bytes) in
    let step = one_step item total kind bytes rest (nat_lt (limit_of kind) (length bytes)) (nat_lt (2 ^ 30) all) refl refl in
    let tests = tests_of (nat_lt (limit_of kind) (length bytes)) (nat_lt (2 ^ 30) all) (Some (File item)) (Some Total) (bytes_limit (item + 1) all rest) None
    (λ e. cc) (λ e. cc) (sym step ∙ h) in
    (not_less (limit_of kind) (length bytes) tests.0, not_less (2 ^ 30) all tests.1)

no_limit : (item total : ℕ) → bytes_limit item total [] ≡ None
unfolding bytes_limit
no_limit item total = refl

-- of one file within the limit of its kind at most 2^30 bytes count
pub counted_few : (kind : ItemWords) (bytes : List ℕ) (n counted : ℕ) → length bytes ≤ limit_of kind → n ≡ length bytes → counted ≡ counted_bytes kind n → counted ≤ 2 ^ 30
counted_few (Input input) bytes n counted short length_is counted_is = omega arith
counted_few (Section section) bytes n counted short length_is counted_is = omega arith
counted_few (Core name) bytes n counted short length_is counted_is = omega arith
counted_few (Mapped name) bytes n counted short length_is counted_is = omega arith

-- ---- while files are loaded
-- these are the bytes of the first items, and the limit of all is that of the files from here on, whatever they hold
pub record Begun (contents : Contents) (items : List ItemWords) (k : ℕ) (loaded : List (List ℕ)) (total : ℕ) : Type 0 where
  pub count : length loaded ≡ k
  pub known : IfSome contents (λ known. loaded ≡ bytes_known known (take k items))
  pub so_far : (later : List (List ℕ)) → items_limit items (loaded ++ later) ≡ bytes_limit k total (zip (drop k items) later)

pub begin : (contents : Contents) (items : List ItemWords) → Begun contents items 0 [] 0
begin contents items = record { count = refl; known = none contents; so_far = λ later. refl }
  where
    none : (contents : Contents) → IfSome contents (λ known. [] ≡ bytes_known known (take 0 items))
    none None = tt
    none (Some known) = refl

if_both : {A : Type 0} (P Q R : A → Type 0) (o : Option A) → ((x : A) → P x → Q x → R x) → IfSome o P → IfSome o Q → IfSome o R
if_both P Q R None f h i = tt
if_both P Q R (Some x) f h i = f x h i

if_some : {A : Type 0} (P Q : A → Type 0) (o : Option A) → ((x : A) → P x → Q x) → IfSome o P → IfSome o Q
if_some P Q None f h = tt
if_some P Q (Some x) f h = f x h

pub map_push : {A B : Type 0} (f : A → B) (xs : List A) (x : A) → map f (xs ++ x ∷ []) ≡ map f xs ++ f x ∷ []
map_push f [] x = refl
map_push {A} {B} f (y ∷ ys) x = ap (λ (r : List B). f y ∷ r) (map_push f ys x)

-- the file at hand, before any later ones
at_hand : (contents : Contents) (items : List ItemWords) (k : ℕ) (d : ItemWords) (loaded : List (List ℕ)) (total : ℕ) → Begun contents items k loaded total → k < length items → (bytes : List ℕ) (later : List (List ℕ))
    → items_limit items (loaded ++ bytes ∷ later) ≡ bytes_limit k total (((get_or items k d), bytes) ∷ zip (drop (k + 1) items) later)
at_hand contents items k d loaded total h lt bytes later =
    h.so_far (bytes ∷ later) ∙ ap (λ (is : List ItemWords). bytes_limit k total (zip is (bytes ∷ later))) (drop_more items k d lt)

go_on : (contents : Contents) (items : List ItemWords) (k : ℕ) (d : ItemWords) (loaded : List (List ℕ)) (total : ℕ) (bytes : List ℕ) → Begun contents items k loaded total → k < length items
    → length bytes ≤ limit_of (get_or items k d) → total + counted_bytes (get_or items k d) (length bytes) ≤ 2 ^ 30 → IfSome contents (λ known. bytes ≡ contents_of known (name_of (get_or items k d)))
    → Begun contents items (k + 1) (loaded ++ bytes ∷ []) (total + counted_bytes (get_or items k d) (length bytes))
go_on contents items k d loaded total bytes h lt short few are = record {
  count = length-append loaded (bytes ∷ []) ∙ ap (λ (n : ℕ). n + 1) h.count;
  known = if_both _ _ _ contents
      (λ known e is. ap (λ (i : List (List ℕ)). i ++ bytes ∷ []) e ∙ ap (λ (b : List ℕ). bytes_known known (take k items) ++ b ∷ []) is ∙ one_more known)
      h.known are;
  so_far = λ later.
      ap (items_limit items) (append_assoc loaded (bytes ∷ []) later) ∙ at_hand contents items k d loaded total h lt bytes later
      ∙ goes_on k total (get_or items k d) bytes (zip (drop (k + 1) items) later) short few;
}
  where
    one_more : (known : List (List ℕ × List ℕ)) → bytes_known known (take k items) ++ contents_of known (name_of (get_or items k d)) ∷ [] ≡ bytes_known known (take (k + 1) items)
    one_more known =
        sym (ap (bytes_known known) (take_more items k d lt) ∙ map_push (λ (item : ItemWords). contents_of known (name_of item)) (take k items) (get_or items k d))

-- all files are loaded
pub all_loaded : (contents : Contents) (items : List ItemWords) (k : ℕ) (loaded : List (List ℕ)) (total : ℕ) → Begun contents items k loaded total → k ≡ length items → AreLoaded contents items loaded
all_loaded contents items k loaded total h end = record {
  bytes = record {
    are = if_some _ _ contents (λ known e. e ∙ ap (bytes_known known) (ap (λ (n : ℕ). take n items) end ∙ take-length items)) h.known;
    count = h.count ∙ end;
  };
  within = ap (items_limit items) (sym (append-nil loaded)) ∙ h.so_far [] ∙ none (drop k items);
}
  where
    none : (left : List ItemWords) → bytes_limit k total (zip left []) ≡ None
    none [] = no_limit k total
    none (i ∷ is) = no_limit k total

-- ---- why loading refuses
-- the bytes of all items, where those of the first are known
parts : (known : List (List ℕ × List ℕ)) (items : List ItemWords) (k : ℕ) (d : ItemWords) → k < length items
    → bytes_known known items ≡ bytes_known known (take k items) ++ contents_of known (name_of (get_or items k d)) ∷ bytes_known known (drop (k + 1) items)
parts known [] k d lt = let none : ⊥ = omega arith in absurd none
parts known (i ∷ is) zero d lt = refl
parts known (i ∷ is) (suc k) d lt =
    let on : suc k + 1 ≡ suc (k + 1) = omega arith in
    ap (λ (files : List (List ℕ)). contents_of known (name_of i) ∷ files) (parts known is k d (omega arith))
    ∙ ap (λ (m : ℕ). contents_of known (name_of i) ∷ bytes_known known (take k is) ++ contents_of known (name_of (get_or is k d)) ∷ bytes_known known (drop m (i ∷ is))) (sym on)

as_many : {A : Type 0} (f : ItemWords → A) (items : List ItemWords) (k : ℕ) → k < length items → length (map f (drop (k + 1) items)) + k + 1 ≡ length items
as_many f [] k lt = let none : ⊥ = omega arith in absurd none
as_many f (i ∷ is) zero lt = let n = length-map is f in omega (arith, n)
as_many f (i ∷ is) (suc k) lt =
    let on : suc k + 1 ≡ suc (k + 1) = omega arith in
    let n = as_many f is k (omega arith) in
    let same : length (map f (drop (suc k + 1) (i ∷ is))) ≡ length (map f (drop (k + 1) is)) = ap (λ (m : ℕ). length (map f (drop m (i ∷ is)))) on in
    omega (arith, n, same)

-- with the file at hand a limit is exceeded, whatever the later ones hold
exceeded : (contents : Contents) (items : List ItemWords) (k : ℕ) (d : ItemWords) (loaded : List (List ℕ)) (total : ℕ) (bytes : List ℕ) (limit : Limit) → Begun contents items k loaded total → k < length items
    → IfSome contents (λ known. bytes ≡ contents_of known (name_of (get_or items k d))) → ((rest : List (ItemWords × List ℕ)) → bytes_limit k total (((get_or items k d), bytes) ∷ rest) ≡ Some limit)
    → Exceeds contents items limit
exceeded None items k d loaded total bytes limit h lt is over =
    let later : List (List ℕ) = map (λ (item : ItemWords). []) (drop (k + 1) items) in
    let n : length later + k + 1 ≡ length items = as_many (λ (item : ItemWords). []) items k lt in
    let m = length-append loaded (bytes ∷ later) in
    record {
      files = loaded ++ bytes ∷ later;
      bytes = record { are = tt; count = omega (arith, m, n, h.count) };
      first = at_hand None items k d loaded total h lt bytes later ∙ over (zip (drop (k + 1) items) later);
    }
exceeded (Some known) items k d loaded total bytes limit h lt is over =
    let later = bytes_known known (drop (k + 1) items) in
    let all : bytes_known known items ≡ loaded ++ bytes ∷ later =
    parts known items k d lt ∙ ap (λ (files : List (List ℕ)). files ++ contents_of known (name_of (get_or items k d)) ∷ later) (sym h.known) ∙ ap (λ (b : List ℕ). loaded ++ b ∷ later) (sym is) in
    record {
      files = bytes_known known items;
      bytes = record { are = refl; count = length-map items (λ (item : ItemWords). contents_of known (name_of item)) };
      first = ap (items_limit items) all ∙ at_hand (Some known) items k d loaded total h lt bytes later ∙ over (zip (drop (k + 1) items) later);
    }

-- there are lists of more elements
pub longer : (n : ℕ) → (xs : List ℕ) × (n < length xs)
longer zero = (0 ∷ [], omega arith)
longer (suc n) = let l = longer n in (0 ∷ l.0, omega (arith, l.1))

long_file : (contents : Contents) (items : List ItemWords) (k : ℕ) (d : ItemWords) (loaded : List (List ℕ)) (total : ℕ) → Begun contents items k loaded total → k < length items
    → IfSome contents (λ known. limit_of (get_or items k d) < length (contents_of known (name_of (get_or items k d)))) → Exceeds contents items (File k)
long_file None items k d loaded total h lt long =
    let l = longer (limit_of (get_or items k d)) in
    exceeded None items k d loaded total l.0 (File k) h lt tt (λ rest. too_long k total (get_or items k d) l.0 rest l.1)
long_file (Some known) items k d loaded total h lt long =
    exceeded (Some known) items k d loaded total (contents_of known (name_of (get_or items k d))) (File k) h lt refl (λ rest. too_long k total (get_or items k d) _ rest long)

-- ---- core files that have more bytes than are read of one
-- an element is the one at its place, whatever is taken past the end
same_element : {A : Type 0} (xs : List A) (k : ℕ) (d e : A) → k < length xs → get_or xs k d ≡ get_or xs k e
same_element [] k d e lt = let none : ⊥ = omega arith in absurd none
same_element (x ∷ xs) zero d e lt = refl
same_element (x ∷ xs) (suc k) d e lt = same_element xs k d e (omega arith)

element_after : {A : Type 0} (before after : List A) (x d : A) (k : ℕ) → length before ≡ k → get_or (before ++ x ∷ after) k d ≡ x
element_after [] after x d zero e = refl
element_after [] after x d (suc k) e = let none : ⊥ = omega (arith, e) in absurd none
element_after (b ∷ before) after x d zero e = let none : ⊥ = omega (arith, e) in absurd none
element_after (b ∷ before) after x d (suc k) e = element_after before after x d k (omega (arith, e))

-- the item at a place is a core file of these bytes, of which too much would have to be read
pub needs_too_much : (contents : Contents) (items : List ItemWords) (files : List (List ℕ)) (k : ℕ) (d : ItemWords) (bytes : List ℕ) → AreBytesOf contents items files → k < length items
    → get_or files k [] ≡ bytes → is_core (get_or items k d) ≡ true → 2 ^ 30 < length bytes → NeedsTooMuch contents items (File k)
needs_too_much contents items files k d bytes are lt at core long = record {
  files = files;
  bytes = are;
  long = record {
    item = k;
    within = lt;
    core = ap is_core (same_element items k (Core []) d lt) ∙ core;
    long = subst (λ (b : List ℕ). 2 ^ 30 < length b) (sym at) long;
    limit_is = refl;
  };
}

-- of a file of any kind but a core file as many bytes are read as it may have
pub core_or_not : (kind : ItemWords) → ((is_core kind ≡ true) × (most_read kind ≡ 2 ^ 30)) ⊎ (most_read kind ≡ limit_of kind)
core_or_not (Input input) = inr refl
core_or_not (Section section) = inr refl
core_or_not (Core name) = inl (refl, refl)
core_or_not (Mapped name) = inr refl

-- the core file at hand has more bytes than are read of one
long_core : (contents : Contents) (items : List ItemWords) (k : ℕ) (d : ItemWords) (loaded : List (List ℕ)) (total : ℕ) → Begun contents items k loaded total → k < length items
    → is_core (get_or items k d) ≡ true → most_read (get_or items k d) ≡ 2 ^ 30 → IfSome contents (λ known. most_read (get_or items k d) < length (contents_of known (name_of (get_or items k d))))
    → NeedsTooMuch contents items (File k)
long_core None items k d loaded total h lt core most long =
    let l = longer (most_read (get_or items k d)) in
    let later : List (List ℕ) = map (λ (item : ItemWords). []) (drop (k + 1) items) in
    let n : length later + k + 1 ≡ length items = as_many (λ (item : ItemWords). []) items k lt in
    let m = length-append loaded (l.0 ∷ later) in
    needs_too_much None items (loaded ++ l.0 ∷ later) k d l.0 record { are = tt; count = omega (arith, m, n, h.count) } lt (element_after loaded later l.0 [] k h.count) core
    (subst (λ (n : ℕ). n < length l.0) most l.1)
long_core (Some known) items k d loaded total h lt core most long =
    let one : ItemWords → List ℕ = λ item. contents_of known (name_of item) in
    let count = length-map items one in
    needs_too_much (Some known) items (bytes_known known items) k d (one (get_or items k d)) record { are = refl; count = count } lt
    (same_element (bytes_known known items) k [] (one d) (omega (arith, count, lt)) ∙ get_or-map one items k d) core (subst (λ (n : ℕ). n < length (one (get_or items k d))) most long)

-- with the file at hand all are too long
long_in_all : (contents : Contents) (items : List ItemWords) (k : ℕ) (d : ItemWords) (loaded : List (List ℕ)) (total : ℕ) (bytes : List ℕ) → Begun contents items k loaded total → k < length items
    → length bytes ≤ limit_of (get_or items k d) → 2 ^ 30 < total + counted_bytes (get_or items k d) (length bytes) → IfSome contents (λ known. bytes ≡ contents_of known (name_of (get_or items k d)))
    → Exceeds contents items Total
long_in_all contents items k d loaded total bytes h lt short much are =
    exceeded contents items k d loaded total bytes Total h lt are (λ rest. too_much k total (get_or items k d) bytes rest short much)

-- the name of an item is among those of all
named : (items : List ItemWords) (k : ℕ) (d : ItemWords) → k < length items → (name : List ℕ) → name ≡ name_of (get_or items k d) → IsLoadingRefusal None items (refusal.Read record { ref_ptr = (0, 0); now = name })
named items k d lt name e = (k, omega (arith, length-map items name_of, lt), by_place items k d lt ∙ sym e)
  where
    by_place : (items : List ItemWords) (k : ℕ) (d : ItemWords) → k < length items → get_or (names_of items) k name ≡ name_of (get_or items k d)
    by_place [] k d lt = let none : ⊥ = omega arith in absurd none
    by_place (i ∷ is) zero d lt = refl
    by_place (i ∷ is) (suc k) d lt = by_place is k d (omega arith)

-- a fault of loading makes a refusal, if a file that is too long exceeds the limit of its kind
pub refuses_by : (contents : Contents) (items : List ItemWords) (k item : ℕ) (d : ItemWords) (fault : LoadFault) (refused : Refusal) → k < length items → item ≡ k
    → IsLoadRefusal fault item (name_of (get_or items k d)) refused → ((limit : ℕ) → fault ≡ load.TooLong limit → Exceeds contents items (File k) ⊎ NeedsTooMuch contents items (File k)) → IsLoadingRefusal contents items refused
refuses_by contents items k item d load.Read refused lt is refuses long = read refused refuses
  where
    read : (refused : Refusal) → IsReadOf (name_of (get_or items k d)) refused → IsLoadingRefusal contents items refused
    read (refusal.Read name) e = named items k d lt name.now e
    read refusal.Memory e = tt
    read (refusal.Limit limit) e = absurd e
    read (refusal.Input notice) e = absurd e
refuses_by contents items k item d (load.TooLong limit) refused lt is refuses long =
    subst (IsLoadingRefusal contents items) (ap (λ (n : ℕ). refusal.Limit (File n)) (sym is) ∙ sym refuses) (long limit refl)
refuses_by contents items k item d load.NoMemory refused lt is refuses long = subst (IsLoadingRefusal contents items) (sym refuses) tt

load_refuses : (contents : Contents) (items : List ItemWords) (k item : ℕ) (d : ItemWords) (loaded : List (List ℕ)) (total : ℕ) (fault : LoadFault) (refused : Refusal)
    → Begun contents items k loaded total → k < length items → item ≡ k → IsLoadRefusal fault item (name_of (get_or items k d)) refused
    → ((limit : ℕ) → fault ≡ load.TooLong limit → IfSome contents (λ known. most_read (get_or items k d) < length (contents_of known (name_of (get_or items k d))))) → IsLoadingRefusal contents items refused
load_refuses contents items k item d loaded total fault refused h lt is refuses long =
    refuses_by contents items k item d fault refused lt is refuses (λ limit e. by_kind (core_or_not (get_or items k d)) (long limit e))
  where
    by_kind : ((is_core (get_or items k d) ≡ true) × (most_read (get_or items k d) ≡ 2 ^ 30)) ⊎ (most_read (get_or items k d) ≡ limit_of (get_or items k d))
        → IfSome contents (λ known. most_read (get_or items k d) < length (contents_of known (name_of (get_or items k d)))) → Exceeds contents items (File k) ⊎ NeedsTooMuch contents items (File k)
    by_kind (inl core) l = inr (long_core contents items k d loaded total h lt core.0 core.1 l)
    by_kind (inr other) l =
        inl (long_file contents items k d loaded total h lt (subst (λ (n : ℕ). IfSome contents (λ known. n < length (contents_of known (name_of (get_or items k d))))) other l))

-- the refusal of an item that could not be read names the file that failed
pub names_failed : (failed : Option (List ℕ)) (fault : LoadFault) (item : ℕ) (name : List ℕ) (refused : Refusal) → IsLoadRefusal fault item name refused → (fault ≡ load.Read → IfSome failed (λ known. known ≡ name))
    → NamesFailed failed refused
names_failed failed load.Read item name (refusal.Read unread) is named = subst (λ (n : List ℕ). IfSome failed (λ known. known ≡ n)) (sym is) (named refl)
names_failed failed load.Read item name refusal.Memory is named = tt
names_failed failed load.Read item name (refusal.Limit limit) is named = tt
names_failed failed load.Read item name (refusal.Input notice) is named = tt
names_failed failed (load.TooLong limit) item name refused is named = subst (NamesFailed failed) (sym is) tt
names_failed failed load.NoMemory item name refused is named = subst (NamesFailed failed) (sym is) tt

-- one file more
pub loaded_push : (before after : List Loaded) (file : Loaded) → after ≡ before ++ file ∷ [] → loaded_bytes after ≡ loaded_bytes before ++ read_bytes file.read ∷ []
loaded_push before after file h = ap loaded_bytes h ∙ map_push (λ (l : Loaded). read_bytes l.read) before file

pub whole_push : (before after : List Loaded) (file : Loaded) → after ≡ before ++ file ∷ [] → All (λ (l : Loaded). is_read_whole l.read ≡ true) before → is_read_whole file.read ≡ true
    → All (λ (l : Loaded). is_read_whole l.read ≡ true) after
whole_push before after file h all whole =
    let read_whole : Loaded → Type 0 = λ l. is_read_whole l.read ≡ true in
    subst (All read_whole) (sym h) (All-push read_whole before file all whole)

items_push : (before after : List Loaded) (file : Loaded) → after ≡ before ++ file ∷ [] → loaded_items after ≡ loaded_items before ++ item_of file.item ∷ []
items_push before after file h = ap loaded_items h ∙ map_push (λ (l : Loaded). item_of l.item) before file

pub items_on : (items : List Item) (k : ℕ) (d : Item) (before after : List Loaded) (file : Loaded) → k < length items → file.item ≡ get_or items k d → after ≡ before ++ file ∷ []
    → loaded_items before ≡ map item_of (take k items) → loaded_items after ≡ map item_of (take (k + 1) items)
items_on items k d before after file lt is grown h =
    items_push before after file grown
    ∙ ap (λ (i : Item). loaded_items before ++ item_of i ∷ []) is
    ∙ ap (λ (b : List ItemWords). b ++ item_of (get_or items k d) ∷ []) h
    ∙ sym (ap (map item_of) (take_more items k d lt) ∙ map_push item_of (take k items) (get_or items k d))

-- ---- items as the code has them
item_at : (items : List Item) (k : ℕ) (d : Item) → get_or (map item_of items) k (item_of d) ≡ item_of (get_or items k d)
item_at items k d = get_or-map item_of items k d

-- a file within the limit of its item
short_at : (items : List Item) (k : ℕ) (d : Item) (bytes : List ℕ) → length bytes ≤ limit_of (item_of (get_or items k d)) → length bytes ≤ limit_of (get_or (map item_of items) k (item_of d))
short_at items k d bytes short = subst (λ (i : ItemWords). length bytes ≤ limit_of i) (sym (item_at items k d)) short

counted_at : (items : List Item) (k : ℕ) (d : Item) (bytes : List ℕ) (n counted : ℕ) → n ≡ length bytes → counted ≡ counted_bytes (item_of (get_or items k d)) n
    → counted ≡ counted_bytes (get_or (map item_of items) k (item_of d)) (length bytes)
counted_at items k d bytes n counted length_is e =
    e ∙ ap (λ (m : ℕ). counted_bytes (item_of (get_or items k d)) m) length_is ∙ ap (λ (i : ItemWords). counted_bytes i (length bytes)) (sym (item_at items k d))

known_at : (contents before : Contents) (items : List Item) (k : ℕ) (d : Item) (bytes : List ℕ) → before ≡ contents → IfSome before (λ known. bytes ≡ contents_of known (name_of (item_of (get_or items k d))))
    → IfSome contents (λ known. bytes ≡ contents_of known (name_of (get_or (map item_of items) k (item_of d))))
known_at contents before items k d bytes same are =
    subst (λ (i : ItemWords). IfSome contents (λ known. bytes ≡ contents_of known (name_of i))) (sym (item_at items k d))
    (subst (λ (o : Contents). IfSome o (λ known. bytes ≡ contents_of known (name_of (item_of (get_or items k d))))) same are)

pub go_on_at : (contents before : Contents) (items : List Item) (k : ℕ) (d : Item) (loaded : List (List ℕ)) (total : ℕ) (bytes : List ℕ) (n counted : ℕ) → before ≡ contents
    → Begun contents (map item_of items) k loaded total → k < length (map item_of items) → length bytes ≤ limit_of (item_of (get_or items k d)) → n ≡ length bytes
    → counted ≡ counted_bytes (item_of (get_or items k d)) n → total + counted ≤ 2 ^ 30 → IfSome before (λ known. bytes ≡ contents_of known (name_of (item_of (get_or items k d))))
    → Begun contents (map item_of items) (k + 1) (loaded ++ bytes ∷ []) (total + counted)
go_on_at contents before items k d loaded total bytes n counted same h lt short length_is counted_is few are =
    let all = counted_at items k d bytes n counted length_is counted_is in
    subst (λ (m : ℕ). Begun contents (map item_of items) (k + 1) (loaded ++ bytes ∷ []) (total + m)) (sym all)
    (go_on contents (map item_of items) k (item_of d) loaded total bytes h lt (short_at items k d bytes short)
    (subst (λ (m : ℕ). total + m ≤ 2 ^ 30) all few) (known_at contents before items k d bytes same are))

pub long_in_all_at : (contents before : Contents) (items : List Item) (k : ℕ) (d : Item) (loaded : List (List ℕ)) (total : ℕ) (bytes : List ℕ) (n counted : ℕ) → before ≡ contents
    → Begun contents (map item_of items) k loaded total → k < length (map item_of items) → length bytes ≤ limit_of (item_of (get_or items k d)) → n ≡ length bytes
    → counted ≡ counted_bytes (item_of (get_or items k d)) n → 2 ^ 30 < total + counted → IfSome before (λ known. bytes ≡ contents_of known (name_of (item_of (get_or items k d))))
    → Exceeds contents (map item_of items) Total
long_in_all_at contents before items k d loaded total bytes n counted same h lt short length_is counted_is much are =
    long_in_all contents (map item_of items) k (item_of d) loaded total bytes h lt (short_at items k d bytes short)
    (subst (λ (m : ℕ). 2 ^ 30 < total + m) (counted_at items k d bytes n counted length_is counted_is) much) (known_at contents before items k d bytes same are)

pub load_refuses_at : (contents before : Contents) (items : List Item) (k number : ℕ) (d : Item) (loaded : List (List ℕ)) (total : ℕ) (fault : LoadFault) (refused : Refusal) → before ≡ contents
    → Begun contents (map item_of items) k loaded total → k < length (map item_of items) → number ≡ k → IsLoadRefusal fault number (name_of (item_of (get_or items k d))) refused
    → ((limit : ℕ) → fault ≡ load.TooLong limit → IfSome before (λ known. most_read (item_of (get_or items k d)) < length (contents_of known (name_of (item_of (get_or items k d))))))
    → IsLoadingRefusal contents (map item_of items) refused
load_refuses_at contents before items k number d loaded total fault refused same h lt is refuses long =
    let own = item_of (get_or items k d) in
    load_refuses contents (map item_of items) k number (item_of d) loaded total fault refused h lt is
    (subst (λ (i : ItemWords). IsLoadRefusal fault number (name_of i) refused) (sym (item_at items k d)) refuses)
    (λ limit e.
    subst (λ (i : ItemWords). IfSome contents (λ known. most_read i < length (contents_of known (name_of i)))) (sym (item_at items k d))
    (subst (λ (o : Contents). IfSome o (λ known. most_read own < length (contents_of known (name_of own)))) same (long limit e)))
