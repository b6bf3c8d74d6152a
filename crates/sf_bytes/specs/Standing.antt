-- Which bytes a field of a value is, and that the field is at a place: the grammar of fields, apart from how they are
-- read. The grammars of records, instructions and sections use these words for their fields.
use Rattle.std.specs.Prelude.{◌≡◌, ◌≢◌, ◌<◌, ℕ, ℤ, ◌+◌, List, [], ◌∷◌, ◌++◌, length, slice_index}
use Rattle.byteorder.specs.Endian.{little_number, twos_complement}
use Rattle.sf_bytes.specs.Cursor.{Cursor}

-- these bytes are between two cursors
pub record Passes (run : List ℕ) (from to : Cursor) : Type 0 where
  pub bytes : from.left ≡ run ++ to.left
  pub moved : to.place ≡ from.place + length run

-- a field of this kind with this value is between two cursors
pub record Stands {X : Type 0} (Kind : List ℕ → X → Type 0) (x : X) (from to : Cursor) : Type 0 where
  pub run : List ℕ
  pub kind : Kind run x
  pub passes : Passes run from to

-- a little-endian number of n bytes
pub record Number (n : ℕ) (run : List ℕ) (x : ℕ) : Type 0 where
  pub width : length run ≡ n
  pub value : x ≡ little_number n run

-- Inside the crate: a signed little-endian number of n bytes
pub record Signed (n : ℕ) (run : List ℕ) (z : ℤ) : Type 0 where
  pub width : length run ≡ n
  pub value : z ≡ twos_complement n (little_number n run)

-- n bytes as they are
pub record Bytes (n : ℕ) (run : List ℕ) (bytes : List ℕ) : Type 0 where
  pub width : length run ≡ n
  pub value : bytes ≡ run

-- a text without a zero byte, and the zero byte that ends it
pub record Text (run : List ℕ) (text : List ℕ) : Type 0 where
  pub spelled : run ≡ text ++ 0 ∷ []
  pub no_zero : (k : ℕ) → k < length text → slice_index text k ≢ 0
