-- Functions that are lent: what they share is held once and found again, and they are put together of it.
use Rattle.std.specs.BTreeMap.{BTreeMap, Updates, get}
use Rattle.std.specs.List.{AllByRecursion}
use Rattle.std.specs.Option.{ForSome, option_map}
use Rattle.std.specs.Ordering.{is_eq, nat_cmp}
use Rattle.std.proofs.Common.{◌≡◌, ◌<◌, ℕ, All, Bool, true, false, cond, List, [], ◌∷◌, ◌++◌, get_or, length, map, Option, Some, refl, sym, ap, subst, ◌∙◌, arith}
use Rattle.std.proofs.lemmas.Bool.Decides.{nat_tests}
use Rattle.std.proofs.lemmas.List.{get_or-map, get_or_append_left, get_or_push, length-append, length-map, map-append}
use Rattle.std.proofs.lemmas.List.Elements.{All-from_recursion, recursion_from_All}
use Rattle.sf_model.specs.declared.machine.Arch.{Arch}
use Rattle.eh_records.specs.Cie.{CieView}
use Rattle.eh_records.specs.Named.{standing_cie}
use Rattle.frame_functions.specs.declared.numbers.CommonNumbers.{CommonNumbers}
use Rattle.frame_functions.specs.declared.read.ReadFunctions.{ReadFunctions}
use Rattle.frame_functions.specs.declared.read.ReadFunctions.TheVariants.{Within, Past}
use Rattle.frame_functions.specs.declared.description.CommonPart.{CommonPart}
use Rattle.frame_functions.specs.declared.description.DescriptionItem.{DescriptionItem}
use Rattle.frame_functions.specs.Functions.{Function}
use Rattle.frame_functions.specs.Numbers.{AreNumbered, IsNumberOf}
use Rattle.frame_functions.specs.ReadSoFar.{AreNumberedIn}
use Rattle.frame_functions.specs.Descriptions.{Common, HasInitial, IsItemIn, CanBeRun, common_of, common_view, commons_of, function_by_item, item_function, no_common}

-- ---- one more common part
pub commons_more : (parts : List CommonPart) (p : CommonPart) → commons_of (parts ++ p ∷ []) ≡ commons_of parts ++ common_view p ∷ []
commons_more parts p = map-append common_view parts (p ∷ [])

-- each number is that of the same one
pub numbered_still : (arch : Arch) (section : List ℕ) (numbers : CommonNumbers) (commons : List Common) (c : Common) → AreNumbered arch section numbers commons → AreNumbered arch section numbers (commons ++ c ∷ [])
numbered_still arch section numbers commons c h = λ place n e.
    let there = h place n e in
    (omega (arith, there.0, length-append commons (c ∷ [])), ap Some (get_or_append_left commons (c ∷ []) no_common n there.0) ∙ there.1)

pub number_added : (commons : List Common) (c : Common) → IsNumberOf (commons ++ c ∷ []) (Some c) (length commons)
number_added commons c = (omega (arith, length-append commons (c ∷ [])), ap Some (get_or_push commons c no_common (length commons) refl))

-- each function is put together of the same
common_still : (commons : List Common) (c : Common) (i : DescriptionItem) → IsItemIn commons i → get_or (commons ++ c ∷ []) i.common no_common ≡ get_or commons i.common no_common
common_still commons c i h = get_or_append_left commons (c ∷ []) no_common i.common h.0

in_still : (commons : List Common) (c : Common) (items : List DescriptionItem) → AllByRecursion (IsItemIn commons) items → AllByRecursion (IsItemIn (commons ++ c ∷ [])) items
in_still commons c [] h = tt
in_still commons c (i ∷ is) h =
    ((omega (arith, h.0.0, length-append commons (c ∷ [])), subst (λ (x : Common). CanBeRun (function_by_item x i)) (sym (common_still commons c i h.0)) h.0.1), in_still commons c is h.1)

same_still : (commons : List Common) (c : Common) (items : List DescriptionItem) → AllByRecursion (IsItemIn commons) items → map (item_function (commons ++ c ∷ [])) items ≡ map (item_function commons) items
same_still commons c [] h = refl
same_still commons c (i ∷ is) h =
    ap (λ (f : Function). f ∷ map (item_function (commons ++ c ∷ [])) is) (ap (λ (x : Common). function_by_item x i) (common_still commons c i h.0))
    ∙ ap (λ (fs : List Function). item_function commons i ∷ fs) (same_still commons c is h.1)

pub items_still : (parts : List CommonPart) (p : CommonPart) (items : List DescriptionItem) → All (IsItemIn (commons_of parts)) items → All (IsItemIn (commons_of (parts ++ p ∷ []))) items
items_still parts p items h =
    subst (λ (cs : List Common). All (IsItemIn cs) items) (sym (commons_more parts p))
    (All-from_recursion (IsItemIn (commons_of parts ++ common_view p ∷ [])) items (in_still (commons_of parts) (common_view p) items (recursion_from_All (IsItemIn (commons_of parts)) items h)))

pub functions_still : (parts : List CommonPart) (p : CommonPart) (items : List DescriptionItem) → All (IsItemIn (commons_of parts)) items → map (item_function (commons_of (parts ++ p ∷ []))) items ≡ map (item_function (commons_of parts)) items
functions_still parts p items h =
    ap (λ (cs : List Common). map (item_function cs) items) (commons_more parts p)
    ∙ same_still (commons_of parts) (common_view p) items (recursion_from_All (IsItemIn (commons_of parts)) items h)

-- ---- one function
pub within_items : (commons : List Common) (items : List DescriptionItem) (functions : List Function) (k : ℕ) → map (item_function commons) items ≡ functions → k < length functions → k < length items
within_items commons items functions k view lt = let long = length-map items (item_function commons) in let same = ap length view in omega (arith, lt, long, same)

pub item_there : (commons : List Common) (items : List DescriptionItem) (functions : List Function) (k : ℕ) (i : DescriptionItem) (d : Function) → map (item_function commons) items ≡ functions → k < length functions → i ≡ get_or items k i → item_function commons i ≡ get_or functions k d
item_there commons items functions k i d view lt is =
    ap (item_function commons) is ∙ sym (get_or-map (item_function commons) items k i d (within_items commons items functions k view lt)) ∙ ap (λ (fs : List Function). get_or fs k d) view

pub initial_there : (commons held : List Common) (items : List DescriptionItem) (functions : List Function) (k : ℕ) (i : DescriptionItem) (d : Function) → commons ≡ held → map (item_function commons) items ≡ functions → k < length functions → i ≡ get_or items k i
    → HasInitial held i.common (get_or functions k d).initial
initial_there commons held items functions k i d same view lt is =
    sym (ap (λ (f : Function). f.initial) (item_there commons items functions k i d view lt is)) ∙ ap (λ (cs : List Common). (get_or cs i.common no_common).initial) same

pub held_there : (commons : List Common) (items : List DescriptionItem) (functions : List Function) (k : ℕ) (i : DescriptionItem) → map (item_function commons) items ≡ functions → k < length functions → All (IsItemIn commons) items → i ≡ get_or items k i → IsItemIn commons i
held_there commons items functions k i view lt all is = subst (IsItemIn commons) (sym is) (all k i (within_items commons items functions k view lt))

pub common_there : (parts : List CommonPart) (n : ℕ) (p : CommonPart) → n < length (commons_of parts) → p ≡ get_or parts n p → get_or (commons_of parts) n no_common ≡ common_view p
common_there parts n p lt is = let long = length-map parts common_view in get_or-map common_view parts n p no_common (omega (arith, lt, long)) ∙ ap common_view (sym is)

-- ---- numbers by place
same_place : (p q : ℕ) → is_eq (nat_cmp p q) ≡ true → p ≡ q
same_place p q h = grind (arith, nat_tests)

with_one : (P : ℕ → ℕ → Type 0) (p q n : ℕ) (before : Option ℕ) (b : Bool) → (b ≡ true → p ≡ q) → P p n → ForSome before (P q) → ForSome (cond b (Some n) before) (P q)
with_one P p q n before true is own others = λ x e. let same : n ≡ x = cc in subst (P q) same (subst (λ (k : ℕ). P k n) (is refl) own)
with_one P p q n before false is own others = others

pub with_number : (P : ℕ → ℕ → Type 0) (p n : ℕ) (old new : BTreeMap ℕ ℕ) → ((place : ℕ) → ForSome (get nat_cmp old place) (P place)) → Updates nat_cmp old new p (Some n) → P p n → (place : ℕ) → ForSome (get nat_cmp new place) (P place)
with_number P p n old new are updates own = λ q.
    subst (λ (o : Option ℕ). ForSome o (P q)) (sym (updates.0 q)) (with_one P p q n (get nat_cmp old q) (is_eq (nat_cmp p q)) (same_place p q) own (are q))

-- it is the number of what the functions of this entry share
pub number_of_named : (arch : Arch) (section : List ℕ) (cie : CieView) (commons : List Common) (n : ℕ) → standing_cie arch section cie.place ≡ Some cie → IsNumberOf commons (Some (common_of arch cie)) n → IsNumberOf commons (option_map (common_of arch) (standing_cie arch section cie.place)) n
number_of_named arch section cie commons n named h = (h.0, h.1 ∙ sym (ap (option_map (common_of arch)) named))

pub named_number : (arch : Arch) (section : List ℕ) (cie : CieView) (commons : List Common) (n : ℕ) → standing_cie arch section cie.place ≡ Some cie → IsNumberOf commons (option_map (common_of arch) (standing_cie arch section cie.place)) n → IsNumberOf commons (Some (common_of arch cie)) n
named_number arch section cie commons n named h = (h.0, h.1 ∙ ap (option_map (common_of arch)) named)

pub is_common : (commons : List Common) (c : Common) (n : ℕ) → IsNumberOf commons (Some c) n → get_or commons n no_common ≡ c
is_common commons c n h = let is : Some (get_or commons n no_common) ≡ Some c = h.1 in cc

-- ---- while functions are read
pub none_numbered : (arch : Arch) (section : List ℕ) (numbers : CommonNumbers) (read : ReadFunctions) → ((commons : List Common) → AreNumbered arch section numbers commons) → AreNumberedIn arch section numbers read
none_numbered arch section numbers (Within held) h = h held.descriptions.common
none_numbered arch section numbers (Past count) h = tt
