-- The bytes of a section determine its table.
use Rattle.std.proofs.Common.{◌≡◌, ℕ, ◌+◌, ◌*◌, pos, List, [], ◌∷◌, length, refl, ap, sym, subst, ◌∙◌, arith}
use Rattle.std.specs.Prelude.{slice_index}
use Rattle.sf_model.specs.declared.machine.Arch.{Arch}
use Rattle.sf_model.specs.declared.machine.Arch.TheVariants.{Amd64, Aarch64}
use Rattle.sf_model.specs.declared.machine.Key.{Key}
use Rattle.sf_model.specs.declared.machine.Key.TheVariants.{A, B}
use Rattle.sf_model.specs.declared.rows.Row.{Row}
use Rattle.sf_model.specs.declared.function.Shape.{Shape}
use Rattle.sf_model.specs.declared.function.Shape.TheVariants.{Plain, Repeat}
use Rattle.sf_model.specs.declared.function.Func.{Func}
use Rattle.sf_model.specs.Table.{Table}
use Rattle.sf_model.specs.Section.{Section, abi_number, shape_number, key_number, start_origin, functions_place, row_bytes_of, start_width_at, row_offset_at, IsRepeatSize, EntryStands, FunctionRowsStand, FunctionsStand}
use Rattle.sf_model.proofs.RowsSame.{rows_same}

same_number : (m n : ℕ) → pos m ≡ pos n → m ≡ n
same_number m n e = cc

arch_told : (a b : Arch) → abi_number a ≡ abi_number b → a ≡ b
arch_told Amd64 Amd64 e = refl
arch_told Amd64 Aarch64 e = absurd (omega (e, arith))
arch_told Aarch64 Amd64 e = absurd (omega (e, arith))
arch_told Aarch64 Aarch64 e = refl

key_told : (j k : Key) → key_number j ≡ key_number k → j ≡ k
key_told A A e = refl
key_told A B e = absurd (omega (e, arith))
key_told B A e = absurd (omega (e, arith))
key_told B B e = refl

shape_told : (s t : Shape) (j k : ℕ) (byte : ℕ) → IsRepeatSize s byte → IsRepeatSize t byte → shape_number s + 2 * j ≡ shape_number t + 2 * k → (s ≡ t) × (j ≡ k)
shape_told Plain Plain j k byte p q e = (refl, omega (e, arith))
shape_told Plain (Repeat n) j k byte p q e = absurd (omega (e, arith))
shape_told (Repeat m) Plain j k byte p q e = absurd (omega (e, arith))
shape_told (Repeat m) (Repeat n) j k byte p q e = (ap Repeat (sym p.0 ∙ q.0), omega (e, arith))

abbrev func_of : (start size : ℕ) → Shape → Key → List Row → Func
func_of start size shape key rows = record { start = start; size = size; shape = shape; key = key; rows = rows }

func_by_fields : (f g : Func) → f.start ≡ g.start → f.size ≡ g.size → f.shape ≡ g.shape → f.key ≡ g.key → f.rows ≡ g.rows → f ≡ g
func_by_fields f g p q r s t =
    ap (λ x. func_of x f.size f.shape f.key f.rows) p ∙ (ap (λ x. func_of g.start x f.shape f.key f.rows) q
    ∙ (ap (λ x. func_of g.start g.size x f.key f.rows) r ∙ (ap (λ x. func_of g.start g.size g.shape x f.rows) s
    ∙ ap (λ x. func_of g.start g.size g.shape g.key x) t)))

-- one entry and its rows
function_same : (arch : Arch) (bytes : List ℕ) (origin place : ℕ) (f g : Func) → EntryStands arch bytes origin place f → EntryStands arch bytes origin place g
    → FunctionRowsStand arch bytes place f → FunctionRowsStand arch bytes place g → f ≡ g
function_same arch bytes origin place f g a b p q =
    let info : (f.shape ≡ g.shape) × (key_number f.key ≡ key_number g.key) =
    shape_told f.shape g.shape (key_number f.key) (key_number g.key) (slice_index bytes (place + 17)) a.repeat_size b.repeat_size (sym a.info ∙ b.info) in
    let rows : f.rows ≡ g.rows = rows_same arch (row_bytes_of bytes) (start_width_at bytes place) (row_offset_at bytes place) (row_offset_at bytes place) p.0 q.0 f.rows g.rows refl
    (sym a.row_count ∙ b.row_count) p.1 q.1 in
    func_by_fields f g (same_number f.start g.start (a.start ∙ sym b.start)) (sym a.size ∙ b.size) info.0 (key_told f.key g.key info.1) rows

-- equally many entries from one place on
functions_same : (arch : Arch) (bytes : List ℕ) (flags at place : ℕ) (fs gs : List Func) → length fs ≡ length gs
    → FunctionsStand arch bytes flags at place fs → FunctionsStand arch bytes flags at place gs → fs ≡ gs
functions_same arch bytes flags at place [] [] n a b = refl
functions_same arch bytes flags at place [] (g ∷ gs) n a b = absurd (omega (n, arith))
functions_same arch bytes flags at place (f ∷ fs) [] n a b = absurd (omega (n, arith))
functions_same arch bytes flags at place (f ∷ fs) (g ∷ gs) n a b =
    let here : f ≡ g = function_same arch bytes (start_origin flags at place) place f g a.0 b.0 a.1 b.1 in
    let n' : length fs ≡ length gs = omega (n, arith) in
    ap (λ x. x ∷ fs) here ∙ ap (λ xs. g ∷ xs) (functions_same arch bytes flags at (place + 20) fs gs n' a.2 b.2)

abbrev table_of : Arch → (flags : ℕ) → List Func → Table
table_of arch flags functions = record { arch = arch; flags = flags; functions = functions }

-- bytes at an address are a section of at most one table
pub table_same : (bytes : List ℕ) (at : ℕ) (s t : Table) → Section bytes at s → Section bytes at t → s ≡ t
table_same bytes at s t a b =
    let arch : s.arch ≡ t.arch = arch_told s.arch t.arch (sym a.header.abi ∙ b.header.abi) in
    let flags : s.flags ≡ t.flags = sym a.header.flags ∙ b.header.flags in
    let moved : FunctionsStand s.arch bytes s.flags at (functions_place bytes) t.functions =
    subst (λ x. FunctionsStand x bytes s.flags at (functions_place bytes) t.functions) (sym arch)
    (subst (λ x. FunctionsStand t.arch bytes x at (functions_place bytes) t.functions) (sym flags) b.functions) in
    let functions : s.functions ≡ t.functions = functions_same s.arch bytes s.flags at (functions_place bytes) s.functions t.functions
    (sym a.header.function_count ∙ b.header.function_count) a.functions moved in
    ap (λ x. table_of x s.flags s.functions) arch ∙ (ap (λ x. table_of t.arch x s.functions) flags ∙ ap (λ x. table_of t.arch t.flags x) functions)
