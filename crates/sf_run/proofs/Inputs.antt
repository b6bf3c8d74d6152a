-- Inputs that were loaded, one after the other: what is made of them, how many they are, and how long.
use Rattle.std.specs.List.{All, zip}
use Rattle.std.proofs.Math.ListN.{get_or-map}
use Rattle.std.proofs.Common.{◌≡◌, ℕ, zero, suc, ◌+◌, ◌<◌, ◌≤◌, ◌^◌, ◌-◌, List, [], ◌∷◌, map, length, take, drop, get_or, Option, Some, None, refl, ap, sym, subst, ◌∙◌, arith}
use lib.Seq.{take-length}
use Rattle.std.proofs.lemmas.List.{length-map}
use Rattle.std.proofs.lemmas.List.Elements.{All-nil, All-cons}
use Rattle.sf_model.specs.declared.form.Form.TheVariants.{Elf}
use Rattle.sf_asm.specs.declared.input.Input.{Input}
use Rattle.sf_asm.specs.Functions.{Object, object_of}
use Rattle.sf_words.specs.ItemRead.{read_bytes}
use Rattle.sf_words.specs.declared.item.Item.{Item}
use Rattle.sf_words.specs.declared.item.Item.TheVariants as item
use Rattle.sf_words.specs.declared.loaded.Loaded.{Loaded}
use Rattle.sf_words.specs.Files.{FilesWords, items_of}
use Rattle.sf_words.specs.Forms.{NameInputs, SectionAndInputs}
use Rattle.sf_words.specs.Items.{ItemWords, Input as InputItem, item_of, limit_of}
use Rattle.sf_words.specs.Loading.{bytes_limit, files_limit, loaded_bytes, loaded_items}
use Rattle.sf_words.specs.declared.words.InputFile.{InputFile}
use Rattle.sf_words.specs.Words.{InputWords, input_of}
use Rattle.sf_words.proofs.Limits.{within_limits}
use Rattle.sf_words.proofs.Loads.{goes_on, within_both}
use Rattle.sf_run.specs.Inputs.{object_in, objects_in}
use Rattle.sf_run.specs.Link.{link_files}
use Rattle.sf_run.proofs.Asked.{named_inputs}

-- ---- the inputs of items
-- an item as an input with these bytes; of another item the bytes alone
abbrev pub object_by : Item → List ℕ → Object
object_by (item.Input input) bytes = object_in (input_of input, bytes)
object_by (item.Section section) bytes = record { form = Elf; bytes = bytes; base = 0 }
object_by (item.Core name) bytes = record { form = Elf; bytes = bytes; base = 0 }
object_by (item.Mapped name) bytes = record { form = Elf; bytes = bytes; base = 0 }

abbrev pub loaded_object : Loaded → Object
loaded_object file = object_by file.item (read_bytes file.read)

one_object : (i : Item) (bytes : List ℕ) (input : InputWords) → item_of i ≡ InputItem input → object_by i bytes ≡ object_in (input, bytes)
one_object (item.Input j) bytes input e = let same : input_of j ≡ input = cc in ap (λ (w : InputWords). object_in (w, bytes)) same
one_object (item.Section section) bytes input e = cc
one_object (item.Core name) bytes input e = cc
one_object (item.Mapped name) bytes input e = cc

pub loaded_objects : (loaded : List Loaded) (inputs : List InputWords) → loaded_items loaded ≡ map InputItem inputs → map loaded_object loaded ≡ objects_in inputs (loaded_bytes loaded)
loaded_objects [] [] e = refl
loaded_objects [] (i ∷ is) e = cc
loaded_objects (l ∷ ls) [] e = cc
loaded_objects (l ∷ ls) (i ∷ is) e =
    let first : item_of l.item ≡ InputItem i = cc in
    let rest : loaded_items ls ≡ map InputItem is = cc in
    ap (λ (o : Object). o ∷ map loaded_object ls) (one_object l.item (read_bytes l.read) i first) ∙ ap (λ (os : List Object). object_in (i, read_bytes l.read) ∷ os) (loaded_objects ls is rest)

-- each of these items is an input
pub input_at : (loaded : List Loaded) (inputs : List InputWords) (k : ℕ) (d : Loaded) → loaded_items loaded ≡ map InputItem inputs → k < length loaded → (input : InputWords) × (item_of (get_or loaded k d).item ≡ InputItem input)
input_at [] inputs k d e lt = let none : ⊥ = omega (arith, lt) in absurd none
input_at (l ∷ ls) [] k d e lt = cc
input_at (l ∷ ls) (i ∷ is) zero d e lt = (i, cc)
input_at (l ∷ ls) (i ∷ is) (suc k) d e lt = let rest : loaded_items ls ≡ map InputItem is = cc in input_at ls is k d rest (omega (arith, lt))

pub not_input : (i : Item) (input : InputWords) → item_of i ≡ InputItem input → ((x : InputFile) → i ≡ item.Input x → ⊥) → ⊥
not_input (item.Input x) input e other = other x refl
not_input (item.Section section) input e other = cc
not_input (item.Core name) input e other = cc
not_input (item.Mapped name) input e other = cc

-- ---- what linking asks of inputs
-- there are 1 to 512 of them, and each is short
pub record CanBeLinked (inputs : List Input) : Type 0 where
  pub some : 0 < length inputs
  pub few : length inputs ≤ 512
  pub small : All (λ (input : Input). length (object_of input).bytes < 2 ^ 32) inputs

-- what holds of each that is made of an item, holds of each item as it is made
unmapped : {A B : Type 0} (f : A → B) (P : B → Type 0) (xs : List A) → All P (map f xs) → All (λ (x : A). P (f x)) xs
unmapped f P xs h k d lt = subst P (get_or-map f xs k d) (h k (f d) (subst (λ (n : ℕ). k < n) (sym (length-map xs f)) lt))

abbrev IsShort : Object → Type 0
IsShort o = length o.bytes ≤ 2 ^ 28

objects_short : (number total : ℕ) (inputs : List InputWords) (items : List (List ℕ)) → bytes_limit number total (zip (map InputItem inputs) items) ≡ None → All IsShort (objects_in inputs items)
objects_short number total [] items h = All-nil IsShort
objects_short number total (i ∷ is) [] h = All-nil IsShort
objects_short number total (i ∷ is) (bytes ∷ items) h =
    let rest = zip (map InputItem is) items in
    let here = within_both number total (InputItem i) bytes rest h in
    let on = sym (goes_on number total (InputItem i) bytes rest here.0 here.1) ∙ h in
    All-cons IsShort (object_in (i, bytes)) (objects_in is items) here.0 (objects_short (number + 1) (total + length bytes) is items on)

-- each input is short, of items that are numbered from this number on and come after `total` bytes that count
inputs_short : (number total : ℕ) (inputs : List Input) (named : List InputWords) (items : List (List ℕ)) → map object_of inputs ≡ objects_in named items → bytes_limit number total (zip (map InputItem named) items) ≡ None
    → All (λ (input : Input). length (object_of input).bytes < 2 ^ 32) inputs
inputs_short number total inputs named items are within =
    let objects = subst (All IsShort) (sym are) (objects_short number total named items within) in
    let each = unmapped object_of IsShort inputs objects in
    λ k d lt. let one = each k d lt in omega (arith, one)

-- there are as many inputs as items that name them
as_many : (inputs : List Input) (named : List InputWords) (loaded : List Loaded) → loaded_items loaded ≡ map InputItem named → map object_of inputs ≡ objects_in named (loaded_bytes loaded) → length inputs ≡ length named
as_many inputs named loaded items are =
    sym (length-map inputs object_of) ∙ ap length (are ∙ sym (loaded_objects loaded named items)) ∙ length-map loaded loaded_object
    ∙ sym (length-map loaded (λ (file : Loaded). item_of file.item)) ∙ ap length items ∙ length-map named InputItem

fit : (number total : ℕ) (inputs : List Input) (named : List InputWords) (loaded : List Loaded) → loaded_items loaded ≡ map InputItem named → map object_of inputs ≡ objects_in named (loaded_bytes loaded)
    → 0 < length named → length (map InputItem named) ≤ 512 → bytes_limit number total (zip (map InputItem named) (loaded_bytes loaded)) ≡ None → CanBeLinked inputs
fit number total inputs named loaded items are some few within =
    let n = as_many inputs named loaded items are in
    let m = length-map named InputItem in
    record { some = omega (arith, n, some); few = omega (arith, n, m, few); small = inputs_short number total inputs named (loaded_bytes loaded) are within }

-- the inputs of a command that reads nothing before them
pub inputs_fit : (out : Option (List ℕ)) (inputs : List Input) (named : List InputWords) (loaded : List Loaded) → loaded_items loaded ≡ map InputItem named → map object_of inputs ≡ objects_in named (loaded_bytes loaded)
    → 0 < length named → files_limit (record { out = out; first = []; list = map InputItem named }) (loaded_bytes loaded) ≡ None → CanBeLinked inputs
inputs_fit out inputs named loaded items are some h =
    let files : FilesWords = record { out = out; first = []; list = map InputItem named } in
    let within = within_limits files (loaded_bytes loaded) h in
    fit 0 0 inputs named loaded items are some within.0 within.1

-- the inputs of `link` and of `linkplt`
pub link_fits : (command : List ℕ) (link : SectionAndInputs) → ((words : List (List ℕ)) × NameInputs command words link) → (loaded : List Loaded) → loaded_items loaded ≡ items_of (link_files link)
    → files_limit (link_files link) (loaded_bytes loaded) ≡ None → (inputs lent : List Input) → map object_of inputs ≡ objects_in link.inputs (loaded_bytes loaded) → lent ≡ inputs → CanBeLinked lent
link_fits command link asked loaded items within inputs lent are same =
    subst CanBeLinked (sym same) (inputs_fit (Some link.section.name) inputs link.inputs loaded items are (named_inputs command asked.0 link asked.1) within)

-- ---- inputs after one other file
-- what was loaded is a first file, and later ones that are these inputs
pub record Later (loaded : List Loaded) (first : Loaded) (named : List InputWords) (later : List Loaded) : Type 0 where
  pub are : loaded ≡ first ∷ later
  pub items : loaded_items later ≡ map InputItem named

all_later : {A : Type 0} (item : A) (later : List A) → take (length (item ∷ later) - 1) later ≡ later
all_later item later =
    let count : length (item ∷ later) - 1 ≡ length later = omega arith in
    ap (λ (n : ℕ). take n later) count ∙ take-length later

split : (loaded : List Loaded) (first : Loaded) → 1 ≤ length loaded → first ≡ get_or loaded 0 first → loaded ≡ first ∷ take (length loaded - 1) (drop 1 loaded)
split [] first some is = let none : ⊥ = omega (arith, some) in absurd none
split (l ∷ ls) first some is = ap (λ (f : Loaded). f ∷ ls) (sym is) ∙ ap (λ (fs : List Loaded). first ∷ fs) (sym (all_later l ls))

pub later_of : (loaded : List Loaded) (first : Loaded) (file : ItemWords) (named : List InputWords) → 1 ≤ length loaded → first ≡ get_or loaded 0 first → loaded_items loaded ≡ file ∷ map InputItem named
    → Later loaded first named (take (length loaded - 1) (drop 1 loaded))
later_of loaded first file named some is items =
    let later = take (length loaded - 1) (drop 1 loaded) in
    let are = split loaded first some is in
    let both : loaded_items (first ∷ later) ≡ file ∷ map InputItem named = subst (λ (ls : List Loaded). loaded_items ls ≡ file ∷ map InputItem named) are items in
    let rest : loaded_items later ≡ map InputItem named = cc in
    record { are = are; items = rest }

-- the bytes of all, from those of the first
pub with_first : {loaded later : List Loaded} {first : Loaded} {named : List InputWords} → Later loaded first named later → (bytes : List ℕ) → bytes ≡ read_bytes first.read → bytes ∷ loaded_bytes later ≡ loaded_bytes loaded
with_first {loaded} {later} h bytes is = ap (λ (b : List ℕ). b ∷ loaded_bytes later) is ∙ sym (ap (λ (ls : List Loaded). loaded_bytes ls) h.are)

limit_split : {loaded later : List Loaded} {first : Loaded} {named : List InputWords} (out : Option (List ℕ)) (file : ItemWords) → Later loaded first named later
    → files_limit (record { out = out; first = file ∷ []; list = map InputItem named }) (loaded_bytes loaded) ≡ None
    → (length (map InputItem named) ≤ 512) × (bytes_limit 0 0 ((file, read_bytes first.read) ∷ zip (map InputItem named) (loaded_bytes later)) ≡ None)
limit_split {loaded} {later} {first} {named} out file h limit =
    let files : FilesWords = record { out = out; first = file ∷ []; list = map InputItem named } in
    within_limits files (read_bytes first.read ∷ loaded_bytes later) (subst (λ (ls : List Loaded). files_limit files (loaded_bytes ls) ≡ None) h.are limit)

-- the inputs of a command that reads one file before them
pub later_fit : {loaded later : List Loaded} {first : Loaded} {named : List InputWords} (out : Option (List ℕ)) (file : ItemWords) (inputs : List Input) → Later loaded first named later
    → map object_of inputs ≡ objects_in named (loaded_bytes later) → 0 < length named
    → files_limit (record { out = out; first = file ∷ []; list = map InputItem named }) (loaded_bytes loaded) ≡ None → CanBeLinked inputs
later_fit {loaded} {later} {first} {named} out file inputs h are some limit =
    let within = limit_split out file h limit in
    let rest = zip (map InputItem named) (loaded_bytes later) in
    let here = within_both 0 0 file (read_bytes first.read) rest within.1 in
    fit _ _ inputs named later h.items are some within.0 (sym (goes_on 0 0 file (read_bytes first.read) rest here.0 here.1) ∙ within.1)

-- how long that file is
pub first_fits : {loaded later : List Loaded} {first : Loaded} {named : List InputWords} (out : Option (List ℕ)) (file : ItemWords) → Later loaded first named later
    → files_limit (record { out = out; first = file ∷ []; list = map InputItem named }) (loaded_bytes loaded) ≡ None → length (read_bytes first.read) ≤ limit_of file
first_fits {loaded} {later} {first} {named} out file h limit =
    let within = limit_split out file h limit in
    (within_both 0 0 file (read_bytes first.read) (zip (map InputItem named) (loaded_bytes later)) within.1).0
