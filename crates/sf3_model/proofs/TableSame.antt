-- The bytes of a section determine its table.
use Rattle.std.proofs.Common.{◌≡◌, ◌<◌, ℕ, ◌+◌, ◌*◌, Bool, true, false, List, [], ◌∷◌, length, refl, ap, sym, subst, ◌∙◌, arith}
use Rattle.std.specs.Prelude.{slice_index}
use Rattle.sf_model.specs.declared.machine.Arch.{Arch}
use Rattle.sf_model.specs.declared.machine.Arch.TheVariants.{Amd64, Aarch64}
use Rattle.sf_model.specs.declared.machine.Key.{Key}
use Rattle.sf_model.specs.declared.machine.Key.TheVariants.{A, B}
use Rattle.sf_model.specs.declared.rows.Row.{Row}
use Rattle.sf_model.specs.declared.function.Shape.{Shape}
use Rattle.sf_model.specs.declared.function.Shape.TheVariants.{Plain, Repeat}
use Rattle.sf_model.specs.declared.function.Func.{Func}
use Rattle.sf_model.specs.Section.{abi_number, shape_number, key_number, start_origin, functions_place, row_bytes_of, IsRepeatSize}
use Rattle.sf_model.proofs.RowsSame.{rows_same}
use Rattle.sf3_model.specs.Described.{Described, Table}
use Rattle.sf3_model.specs.Section.{Section, FunctionStands, FunctionsStand, data_offset_at, signal_number, start_width_in}

arch_told : (a b : Arch) → abi_number a ≡ abi_number b → a ≡ b
arch_told Amd64 Amd64 e = refl
arch_told Amd64 Aarch64 e = absurd (omega (e, arith))
arch_told Aarch64 Amd64 e = absurd (omega (e, arith))
arch_told Aarch64 Aarch64 e = refl

key_told : (j k : Key) → key_number j ≡ key_number k → j ≡ k
key_told A A e = refl
key_told A B e = absurd (omega (e, arith))
key_told B A e = absurd (omega (e, arith))
key_told B B e = refl

signal_told : (s t : Bool) → signal_number s ≡ signal_number t → s ≡ t
signal_told true true e = refl
signal_told true false e = absurd (omega (e, arith))
signal_told false true e = absurd (omega (e, arith))
signal_told false false e = refl

pub key_small : (k : Key) → key_number k < 2
key_small A = omega arith
key_small B = omega arith

shape_told : (s t : Shape) (byte : ℕ) → IsRepeatSize s byte → IsRepeatSize t byte → shape_number s ≡ shape_number t → s ≡ t
shape_told Plain Plain byte p q e = refl
shape_told Plain (Repeat n) byte p q e = absurd (omega (e, arith))
shape_told (Repeat m) Plain byte p q e = absurd (omega (e, arith))
shape_told (Repeat m) (Repeat n) byte p q e = ap Repeat (sym p.0 ∙ q.0)

pub shape_small : (s : Shape) → shape_number s < 2
shape_small Plain = omega arith
shape_small (Repeat n) = omega arith

record SameParts (s t j k x y : ℕ) : Type 0 where
  low : s ≡ t
  middle : j ≡ k
  high : x ≡ y

parts_told : (s t j k x y : ℕ) → s < 2 → t < 2 → j < 2 → k < 2 → s + 2 * j + 8 * x ≡ t + 2 * k + 8 * y → SameParts s t j k x y
parts_told s t j k x y a b c d e = record { low = omega (a, b, c, d, e, arith); middle = omega (a, b, c, d, e, arith); high = omega (a, b, c, d, e, arith) }

abbrev described_of : (start size : ℕ) → Shape → Key → List Row → Bool → Described
described_of start size shape key rows is_signal = record { func = record { start = start; size = size; shape = shape; key = key; rows = rows }; is_signal = is_signal }

described_by_fields : (d e : Described) → d.func.start ≡ e.func.start → d.func.size ≡ e.func.size → d.func.shape ≡ e.func.shape → d.func.key ≡ e.func.key → d.func.rows ≡ e.func.rows → d.is_signal ≡ e.is_signal → d ≡ e
described_by_fields d e p q r s t u =
    let f : Func = d.func in
    let g : Func = e.func in
    ap (λ x. described_of x f.size f.shape f.key f.rows d.is_signal) p ∙ (ap (λ x. described_of g.start x f.shape f.key f.rows d.is_signal) q
    ∙ (ap (λ x. described_of g.start g.size x f.key f.rows d.is_signal) r ∙ (ap (λ x. described_of g.start g.size g.shape x f.rows d.is_signal) s
    ∙ (ap (λ x. described_of g.start g.size g.shape g.key x d.is_signal) t ∙ ap (λ x. described_of g.start g.size g.shape g.key g.rows x) u))))

-- one entry, its attributes and its rows
function_same : (arch : Arch) (bytes : List ℕ) (origin place : ℕ) (d e : Described) → FunctionStands arch bytes origin place d → FunctionStands arch bytes origin place e → d ≡ e
function_same arch bytes origin place d e a b =
    let rows : List ℕ = row_bytes_of bytes in
    let offset : ℕ = data_offset_at bytes place in
    let parts = parts_told (shape_number d.func.shape) (shape_number e.func.shape) (key_number d.func.key) (key_number e.func.key) (signal_number d.is_signal) (signal_number e.is_signal)
    (shape_small d.func.shape) (shape_small e.func.shape) (key_small d.func.key) (key_small e.func.key) (sym a.attributes.info ∙ b.attributes.info) in
    let same : d.func.rows ≡ e.func.rows = rows_same arch rows (start_width_in rows offset) (offset + 5) (offset + 5) a.rows.0 b.rows.0 d.func.rows e.func.rows refl
    (sym a.attributes.row_count ∙ b.attributes.row_count) a.rows.1 b.rows.1 in
    described_by_fields d e (a.entry.start ∙ sym b.entry.start) (sym a.entry.size ∙ b.entry.size)
    (shape_told d.func.shape e.func.shape (slice_index rows (offset + 4)) a.attributes.repeat_size b.attributes.repeat_size parts.low)
    (key_told d.func.key e.func.key parts.middle) same (signal_told d.is_signal e.is_signal parts.high)

-- equally many entries from one place on
functions_same : (arch : Arch) (bytes : List ℕ) (flags at place : ℕ) (ds es : List Described) → length ds ≡ length es
    → FunctionsStand arch bytes flags at place ds → FunctionsStand arch bytes flags at place es → ds ≡ es
functions_same arch bytes flags at place [] [] n a b = refl
functions_same arch bytes flags at place [] (e ∷ es) n a b = absurd (omega (n, arith))
functions_same arch bytes flags at place (d ∷ ds) [] n a b = absurd (omega (n, arith))
functions_same arch bytes flags at place (d ∷ ds) (e ∷ es) n a b =
    let here : d ≡ e = function_same arch bytes (start_origin flags at place) place d e a.0 b.0 in
    let n' : length ds ≡ length es = omega (n, arith) in
    ap (λ x. x ∷ ds) here ∙ ap (λ xs. e ∷ xs) (functions_same arch bytes flags at (place + 16) ds es n' a.1 b.1)

abbrev table_of : Arch → (flags : ℕ) → List Described → Table
table_of arch flags functions = record { arch = arch; flags = flags; functions = functions }

-- bytes at an address are a section of at most one table
pub table_same : (bytes : List ℕ) (at : ℕ) (s t : Table) → Section bytes at s → Section bytes at t → s ≡ t
table_same bytes at s t a b =
    let arch : s.arch ≡ t.arch = arch_told s.arch t.arch (sym a.header.abi ∙ b.header.abi) in
    let flags : s.flags ≡ t.flags = sym a.header.flags ∙ b.header.flags in
    let moved : FunctionsStand s.arch bytes s.flags at (functions_place bytes) t.functions =
    subst (λ x. FunctionsStand x bytes s.flags at (functions_place bytes) t.functions) (sym arch)
    (subst (λ x. FunctionsStand t.arch bytes x at (functions_place bytes) t.functions) (sym flags) b.functions) in
    let functions : s.functions ≡ t.functions = functions_same s.arch bytes s.flags at (functions_place bytes) s.functions t.functions
    (sym a.header.function_count ∙ b.header.function_count) a.functions moved in
    ap (λ x. table_of x s.flags s.functions) arch ∙ (ap (λ x. table_of t.arch x s.functions) flags ∙ ap (λ x. table_of t.arch t.flags x) functions)
