-- What the standard's definition of a section says about a function by its number.
use Rattle.std.proofs.Common.{◌≡◌, ℕ, zero, suc, ◌+◌, ◌<◌, IsTrue, List, [], ◌∷◌, length, get_or, All, refl, subst, arith}
use Rattle.std.proofs.lemmas.List.Elements.{All-cons}
use Rattle.sf_model.specs.declared.machine.Arch.{Arch}
use Rattle.sf_model.specs.declared.rows.Row.{Row}
use Rattle.sf_model.specs.declared.function.Shape.{Shape}
use Rattle.sf_model.specs.declared.function.Shape.TheVariants.{Plain, Repeat}
use Rattle.sf_model.specs.declared.function.Func.{Func}
use Rattle.sf_model.specs.Content.{content_fits}
use Rattle.sf_model.specs.Function.{RowsRise, shape_fits}
use Rattle.sf_model.specs.Section.{AnyWidth, EntryStands, FunctionRowsStand, FunctionsStand, IsRepeatSize, RowsStand, Section}
use Rattle.sf_model.specs.RowBytes.{spelled_row}
use Rattle.sf_model.specs.Table.{Table}
use Rattle.sf_decode.proofs.Holds.{not_eq}

-- the contents of a function's rows are those of its machine
abbrev pub RowsFit : Arch → List Row → Type 0
RowsFit arch rows = All (λ (r : Row). IsTrue (content_fits arch r.content)) rows

-- a function whose rows rise, whose repeat size isn't 0, and whose contents are those of its machine
pub record IsSound (arch : Arch) (f : Func) : Type 0 where
  pub rise : RowsRise f.rows
  pub shape : IsTrue (shape_fits f.shape)
  pub fits : RowsFit arch f.rows

shape_is : (shape : Shape) (byte : ℕ) → IsRepeatSize shape byte → IsTrue (shape_fits shape)
shape_is Plain byte h = refl
shape_is (Repeat size) byte h = rw (not_eq size 0 (λ e. absurd (omega (e, h.1, arith)))) refl

rows_are : (arch : Arch) (bytes : List ℕ) (width place end : ℕ) (rows : List Row) → RowsStand AnyWidth arch bytes width place end rows → RowsFit arch rows
rows_are arch bytes width place end [] h = λ k d lt. absurd (omega (lt, arith))
rows_are arch bytes width place end (r ∷ rows) (own, may, stands, later) =
    All-cons (λ (r : Row). IsTrue (content_fits arch r.content)) r rows stands.fits (rows_are arch bytes width (place + length (spelled_row width own r)) end rows later)

entry_sound : (arch : Arch) (bytes : List ℕ) (origin place : ℕ) (f : Func) → EntryStands arch bytes origin place f → FunctionRowsStand arch bytes place f → IsSound arch f
entry_sound arch bytes origin place f entry (end, rows) =
    record { rise = entry.rows_rise; shape = shape_is f.shape _ entry.repeat_size; fits = rows_are arch _ _ _ end f.rows rows }

sound_at : (arch : Arch) (bytes : List ℕ) (flags at place : ℕ) (functions : List Func) (i : ℕ) (d : Func) → FunctionsStand arch bytes flags at place functions → i < length functions
    → IsSound arch (get_or functions i d)
sound_at arch bytes flags at place [] i d h lt = absurd (omega (lt, arith))
sound_at arch bytes flags at place (f ∷ functions) zero d (entry, rows, later) lt = entry_sound arch bytes _ place f entry rows
sound_at arch bytes flags at place (f ∷ functions) (suc i) d (entry, rows, later) lt = sound_at arch bytes flags at (place + 20) functions i d later (omega (lt, arith))

-- a function of a section, by its number
pub sound_numbered : (bytes : List ℕ) (at : ℕ) (table : Table) (i : ℕ) (f : Func) → Section bytes at table → i < length table.functions → get_or table.functions i f ≡ f → IsSound table.arch f
sound_numbered bytes at table i f s lt e = subst (IsSound table.arch) e (sound_at table.arch bytes table.flags at _ table.functions i f s.functions lt)
