-- Loading the files that a command reads in order, and the limits of their bytes: of one file, by its kind, and 2^30 bytes of all. Of a
-- core file at most 2^30 bytes are read, and it may have more.
use Rattle.std.specs.Prelude.{◌≡◌, ◌⊎◌, ◌+◌, ◌<◌, ◌^◌, ℕ, true, nat_lt, All, List, [], ◌∷◌, get_or, map, length, Contains, Option, Some, None, IfSome, if◌then◌else◌}
use Rattle.std.specs.List.{zip}
use Rattle.sf_base.specs.Contents.{contents_of}
use Rattle.sf_base.specs.declared.loading.LoadFault.{LoadFault}
use Rattle.sf_base.specs.declared.loading.LoadFault.TheVariants as load
use Rattle.sf_words.specs.declared.loaded.Loaded.{Loaded}
use Rattle.sf_words.specs.Files.{FilesWords, counted_items, items_of}
use Rattle.sf_words.specs.ItemRead.{is_read_whole, read_bytes}
use Rattle.sf_words.specs.Items.{ItemWords, Core, counted_bytes, is_core, item_of, limit_of, name_of, names_of}
use Rattle.sf_words.specs.declared.refusal.Limit.{Limit}
use Rattle.sf_words.specs.declared.refusal.Limit.TheVariants.{File, Inputs, Total}
use Rattle.sf_words.specs.declared.refusal.Refusal.{Refusal}
use Rattle.sf_words.specs.declared.refusal.Refusal.TheVariants as refusal

-- the contents of all names, where they are known
abbrev pub Contents : Type 0
Contents = Option (List (List ℕ × List ℕ))

-- the first limit that the bytes of files exceed, which are numbered from `item` on and come after `total` bytes that count: the limit of
-- one file, and then the limit of all files up to it
unfoldable pub bytes_limit : (item total : ℕ) → List (ItemWords × List ℕ) → Option Limit
bytes_limit item total [] = None
bytes_limit item total (file ∷ files) =
    if nat_lt (limit_of file.0) (length file.1) then Some (File item)
    else (if nat_lt (2 ^ 30) (total + counted_bytes file.0 (length file.1)) then Some Total
    else bytes_limit (item + 1) (total + counted_bytes file.0 (length file.1)) files)

-- the first limit that the bytes of all items exceed
abbrev pub items_limit : List ItemWords → (files : List (List ℕ)) → Option Limit
items_limit items files = bytes_limit 0 0 (zip items files)

-- the first limit of loading: the list names more than 512 files, or the bytes exceed one
unfoldable pub files_limit : FilesWords → (files : List (List ℕ)) → Option Limit
files_limit command files = if nat_lt 512 (counted_items command) then Some Inputs else items_limit (items_of command) files

-- the bytes of the files that items name
abbrev pub bytes_known : List (List ℕ × List ℕ) → List ItemWords → List (List ℕ)
bytes_known known items = map (λ (item : ItemWords). contents_of known (name_of item)) items

-- these are the bytes of the items: one file each, and what its name holds, where that is known
pub record AreBytesOf (contents : Contents) (items : List ItemWords) (files : List (List ℕ)) : Type 0 where
  pub are : IfSome contents (λ known. files ≡ bytes_known known items)
  pub count : length files ≡ length items

-- these are the bytes of the items, and they are within the limits
pub record AreLoaded (contents : Contents) (items : List ItemWords) (files : List (List ℕ)) : Type 0 where
  pub bytes : AreBytesOf contents items files
  pub within : items_limit items files ≡ None

-- the bytes of the items exceed this limit, as the first
pub record Exceeds (contents : Contents) (items : List ItemWords) (limit : Limit) : Type 0 where
  pub files : List (List ℕ)
  pub bytes : AreBytesOf contents items files
  pub first : items_limit items files ≡ Some limit

-- the item of this limit is a core file that has more bytes than may be read of one
pub record IsLongCore (items : List ItemWords) (files : List (List ℕ)) (limit : Limit) : Type 0 where
  pub item : ℕ
  pub within : item < length items
  pub core : is_core (get_or items item (Core [])) ≡ true
  pub long : 2 ^ 30 < length (get_or files item [])
  pub limit_is : limit ≡ File item

-- more may have to be read of a core file among the items than is read of one
pub record NeedsTooMuch (contents : Contents) (items : List ItemWords) (limit : Limit) : Type 0 where
  pub files : List (List ℕ)
  pub bytes : AreBytesOf contents items files
  pub long : IsLongCore items files limit

-- what was loaded: the items, and all bytes of the file of each
abbrev pub loaded_items : List Loaded → List ItemWords
loaded_items loaded = map (λ (file : Loaded). item_of file.item) loaded

abbrev pub loaded_bytes : List Loaded → List (List ℕ)
loaded_bytes loaded = map (λ (file : Loaded). read_bytes file.read) loaded

-- of each core file all was read, and no parts alone
abbrev pub AreReadWhole : List Loaded → Type 0
AreReadWhole loaded = All (λ (file : Loaded). is_read_whole file.read ≡ true) loaded

-- ---- refusals
-- Inside the crate: an item of this name could not be read
abbrev pub IsReadOf : (name : List ℕ) → Refusal → Type 0
IsReadOf name (refusal.Read unread) = unread.now ≡ name
IsReadOf name refused = ⊥

-- Inside the crate: the refusal that a fault of loading the item of this number and name makes
abbrev pub IsLoadRefusal : LoadFault → (item : ℕ) → (name : List ℕ) → Refusal → Type 0
IsLoadRefusal load.Read item name refused = IsReadOf name refused
IsLoadRefusal (load.TooLong limit) item name refused = refused ≡ refusal.Limit (File item)
IsLoadRefusal load.NoMemory item name refused = refused ≡ refusal.Memory

-- loading refuses these items: one could not be read, their bytes exceed a limit, too much would have to be read of a core file, or
-- memory ran out
abbrev pub IsLoadingRefusal : Contents → (items : List ItemWords) → Refusal → Type 0
IsLoadingRefusal contents items (refusal.Read name) = Contains (names_of items) name.now
IsLoadingRefusal contents items refusal.Memory = Unit {0}
IsLoadingRefusal contents items (refusal.Limit limit) = Exceeds contents items limit ⊎ NeedsTooMuch contents items limit
IsLoadingRefusal contents items (refusal.Input notice) = ⊥

-- the item that could not be read is the file whose open or read failed last, where its name is known
abbrev pub NamesFailed : (failed : Option (List ℕ)) → Refusal → Type 0
NamesFailed failed (refusal.Read name) = IfSome failed (λ known. known ≡ name.now)
NamesFailed failed refused = Unit {0}

-- an item could not be read
abbrev pub IsRead : Refusal → Type 0
IsRead (refusal.Read name) = Unit {0}
IsRead refused = ⊥
