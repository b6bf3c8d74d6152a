-- What the standard's definition of a section says about its functions.
use Rattle.std.proofs.Common.{◌≡◌, ℕ, ◌+◌, ◌^◌, ◌<◌, ◌≤◌, IsTrue, List, [], ◌∷◌, All, length, map, get_or, refl, sym, subst, arith}
use Rattle.std.proofs.lemmas.List.Elements.{All-nil, All-cons, All-head, All-tail, All-append}
use Rattle.sf_model.specs.declared.machine.Arch.{Arch}
use Rattle.sf_model.specs.declared.rows.Row.{Row}
use Rattle.sf_model.specs.declared.function.Shape.{Shape}
use Rattle.sf_model.specs.declared.function.Shape.TheVariants.{Plain, Repeat}
use Rattle.sf_model.specs.declared.function.Func.{Func}
use Rattle.sf_model.specs.Content.{content_fits}
use Rattle.sf_model.specs.Function.{IsWritable, RowsRise, key_fits, shape_fits}
use Rattle.sf_model.specs.RowBytes.{spelled_row}
use Rattle.sf_model.specs.Section.{AnyWidth, EntryStands, FunctionRowsStand, FunctionsStand, IsRepeatSize, RowsStand}
use Rattle.sf_model.specs.Table.{Table}
use Rattle.sf_model.specs.Union.{all_functions}
use Rattle.sf_decode.specs.declared.view.View.{View}
use Rattle.sf_decode.specs.View.{table_of}
use Rattle.sf_decode.proofs.Holds.{not_eq}
use Rattle.sf_merge.specs.Heads.{IsStorable}
use Rattle.sf_merge.specs.Views.{IsViewOfSection}

-- the contents of a function's rows are those of its machine
abbrev pub RowsFit : Arch → List Row → Type 0
RowsFit arch rows = All (λ (r : Row). IsTrue (content_fits arch r.content)) rows

-- a function that can be written, if it has bytes and rows
pub record IsSound (arch : Arch) (f : Func) : Type 0 where
  pub end : f.start + f.size ≤ 2 ^ 64
  pub rise : RowsRise f.rows
  pub fits : RowsFit arch f.rows
  pub key : IsTrue (key_fits arch f.key)
  pub shape : IsTrue (shape_fits f.shape)

shape_is : (shape : Shape) (byte : ℕ) → IsRepeatSize shape byte → IsTrue (shape_fits shape)
shape_is Plain byte h = refl
shape_is (Repeat size) byte h = rw (not_eq size 0 (λ e. absurd (omega (e, h.1, arith)))) refl

rows_are : (arch : Arch) (bytes : List ℕ) (width place end : ℕ) (rows : List Row) → RowsStand AnyWidth arch bytes width place end rows → RowsFit arch rows
rows_are arch bytes width place end [] h = All-nil (λ (r : Row). IsTrue (content_fits arch r.content))
rows_are arch bytes width place end (r ∷ rows) (own, may, stands, later) =
    All-cons (λ (r : Row). IsTrue (content_fits arch r.content)) r rows stands.fits (rows_are arch bytes width (place + length (spelled_row width own r)) end rows later)

entry_sound : (arch : Arch) (bytes : List ℕ) (origin place : ℕ) (f : Func) → EntryStands arch bytes origin place f → FunctionRowsStand arch bytes place f → IsSound arch f
entry_sound arch bytes origin place f entry (end, rows) = record {
  end = entry.end;
  rise = entry.rows_rise;
  fits = rows_are arch _ _ _ end f.rows rows;
  key = entry.key;
  shape = shape_is f.shape _ entry.repeat_size;
}

pub functions_sound : (arch : Arch) (bytes : List ℕ) (flags at place : ℕ) (functions : List Func) → FunctionsStand arch bytes flags at place functions → All (IsSound arch) functions
functions_sound arch bytes flags at place [] h = All-nil (IsSound arch)
functions_sound arch bytes flags at place (f ∷ functions) (entry, rows, later) =
    All-cons (IsSound arch) f functions (entry_sound arch bytes _ place f entry rows) (functions_sound arch bytes flags at (place + 20) functions later)

pub view_sound : (view : View) → IsViewOfSection view → All (IsSound (table_of view).arch) (table_of view).functions
view_sound view h = functions_sound (table_of view).arch _ (table_of view).flags _ _ (table_of view).functions h.functions

-- the functions of all sections of one machine
pub all_sound : (arch : Arch) (views : List View) → All IsViewOfSection views → All (λ (table : Table). table.arch ≡ arch) (map table_of views) → All (IsSound arch) (all_functions (map table_of views))
all_sound arch [] read machines = All-nil (IsSound arch)
all_sound arch (v ∷ views) read machines =
    let machine = All-head (λ (table : Table). table.arch ≡ arch) (table_of v) (map table_of views) machines in
    All-append (IsSound arch) (table_of v).functions (all_functions (map table_of views))
    (subst (λ (a : Arch). All (IsSound a) (table_of v).functions) machine (view_sound v (All-head IsViewOfSection v views read)))
    (all_sound arch views (All-tail IsViewOfSection v views read) (All-tail (λ (table : Table). table.arch ≡ arch) (table_of v) (map table_of views) machines))

-- a function of a section can be stored
pub storable : (view : View) (number : ℕ) (arch : Arch) (f : Func) → IsViewOfSection view → arch ≡ (table_of view).arch → number < length (table_of view).functions → get_or (table_of view).functions number f ≡ f → 0 < f.size
    → IsStorable arch f
storable view number arch f read machine lt is size rows =
    let sound = subst (IsSound (table_of view).arch) is (view_sound view read number f lt) in
    subst (λ (a : Arch). IsWritable a f) (sym machine) record { size = size; end = sound.end; has_rows = rows; rows_rise = sound.rise; contents = sound.fits; key = sound.key; shape = sound.shape }
