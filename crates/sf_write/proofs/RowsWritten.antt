-- The rows of a function, as they are written, are rows by the standard, with the least widths.
use Rattle.std.proofs.Common.{◌≡◌, ◌≤◌, ◌<◌, ℕ, zero, suc, ◌+◌, ◌*◌, ◌^◌, Bool, true, false, ◌&&◌, IsTrue, List, [], ◌∷◌, ◌++◌, length, take, drop, get_or, refl, ap, subst, ◌∙◌, arith, add-one, nat_lt, length-append}
use Rattle.std.specs.Prelude.{All, if◌then◌else◌}
use Rattle.std.specs.List.{flat_map, list_all}
use Rattle.std.proofs.lemmas.List.{append_assoc}
use Rattle.std.proofs.lemmas.List.Concat.{flat_map-cons}
use Rattle.std.proofs.lemmas.List.Elements.{All-tail}
use Rattle.std.proofs.Math.Seq.{take-append_seam}
use Rattle.sf_model.specs.declared.machine.Arch.{Arch}
use Rattle.sf_model.specs.declared.content.Content.{Content}
use Rattle.sf_model.specs.declared.rows.Row.{Row}
use Rattle.sf_model.specs.Content.{content_fits}
use Rattle.sf_model.specs.Function.{RowsRise}
use Rattle.sf_model.specs.Width.{width_len, holds_unsigned, IsWidth, NoneLess}
use Rattle.sf_model.specs.RowBytes.{holds_row_offsets, StandsAt}
use Rattle.sf_model.specs.Section.{RowStands, RowsStand}
use Rattle.sf_model.specs.Tight.{last_start, LeastWidth}
use Rattle.sf_model.proofs.RowNumbers.{below_if}
use Rattle.sf_model.proofs.TightOne.{zero_held}
use Rattle.sf_sizes.specs.Width.{least_width}
use Rattle.sf_sizes.specs.RowLength.{offset_width}
use Rattle.sf_write.specs.Row.{narrow_row}
use Rattle.sf_write.specs.Room.{offsets_fit}
use Rattle.sf_write.proofs.Places.{after}

-- both parts of a test
pub first_of : (a b : Bool) → IsTrue (a && b) → IsTrue a
first_of true b e = refl
first_of false b e = absurd (cc)

pub second_of : (a b : Bool) → IsTrue (a && b) → IsTrue b
second_of true b e = e
second_of false b e = absurd (cc)

-- the least width is valid, and none below it holds
there_by : (zero_holds one_holds : Bool) → (if zero_holds then 0 else (if one_holds then 1 else 2)) ≤ 2
there_by true one_holds = omega arith
there_by false true = omega arith
there_by false false = omega arith

pub least_is_there : (holds : ℕ → Bool) → least_width holds ≤ 2
least_is_there holds = there_by (holds 0) (holds 1)

none_by : (holds : ℕ → Bool) (zero_holds one_holds : Bool) → holds 0 ≡ zero_holds → holds 1 ≡ one_holds → NoneLess holds (if zero_holds then 0 else (if one_holds then 1 else 2))
none_by holds true one_holds e f smaller lt = absurd (omega (lt, arith))
none_by holds false true e f zero lt = e
none_by holds false true e f (suc smaller) lt = absurd (omega (lt, arith))
none_by holds false false e f zero lt = e
none_by holds false false e f (suc zero) lt = f
none_by holds false false e f (suc (suc smaller)) lt = absurd (omega (lt, arith))

pub least_is_least : (holds : ℕ → Bool) → NoneLess holds (least_width holds)
least_is_least holds = none_by holds (holds 0) (holds 1) refl refl

-- a width that holds a number holds all below
holds_below : (m n power : ℕ) → m ≤ n → nat_lt n power ≡ true → nat_lt m power ≡ true
holds_below m n power le h = let lt : n < power = below_if n power h in let u : m < power = omega (le, lt, arith) in search (arith, u)

-- the rows after the first rise, and the first starts no later than the last
pub rise_tail : (row : Row) (rows : List Row) → RowsRise (row ∷ rows) → RowsRise rows
rise_tail row rows h k d lt =
    let e : k + 1 ≡ suc k = add-one k in
    let f : suc k + 1 ≡ suc (k + 1) = omega arith in
    let g : suc k + 1 < length (row ∷ rows) = omega (lt, arith) in
    subst (λ m. (get_or rows k d).start < (get_or (row ∷ rows) m d).start) f (h (suc k) d g)

below_last : (row : Row) (rows : List Row) → RowsRise (row ∷ rows) → row.start ≤ last_start (row ∷ rows)
below_last row [] h = omega arith
below_last row (next ∷ rows) h =
    let first : row.start < next.start = h 0 row (omega arith) in
    let later : next.start ≤ last_start (next ∷ rows) = below_last next rows (rise_tail row (next ∷ rows) h) in
    omega (first, later, arith)

last_held_tail : (width : ℕ) (row : Row) (rows : List Row) → width ≤ 2 → IsTrue (holds_unsigned (last_start (row ∷ rows)) width) → IsTrue (holds_unsigned (last_start rows) width)
last_held_tail width row [] le h = zero_held width le
last_held_tail width row (next ∷ rows) le h = h

-- a run in front of what is left at a place is at that place
pub stands : (bytes : List ℕ) (place : ℕ) (run tail : List ℕ) → drop place bytes ≡ run ++ tail → StandsAt bytes place run
stands bytes place run tail h = ap (take (length run)) h ∙ take-append_seam run tail

-- the offsets of a row have room
row_is_held : (row : Row) → IsTrue (offsets_fit row) → IsWidth (holds_row_offsets row.content) (offset_width row.content)
unfolding offsets_fit
row_is_held row h = record { there_is = least_is_there (holds_row_offsets row.content); held = h }

-- consecutive rows are rows by the standard, by any condition on the widths that the least meet
pub rows_stand : (MayHave : Content → ℕ → Type 0) → ((content : Content) → MayHave content (offset_width content)) → (arch : Arch) (bytes : List ℕ) (width place : ℕ) (rows : List Row) (tail : List ℕ)
    → width ≤ 2 → IsTrue (holds_unsigned (last_start rows) width) → RowsRise rows → All (λ (row : Row). IsTrue (content_fits arch row.content)) rows → IsTrue (list_all offsets_fit rows)
    → drop place bytes ≡ flat_map (narrow_row width) rows ++ tail
    → RowsStand MayHave arch bytes width place (place + length (flat_map (narrow_row width) rows)) rows
rows_stand MayHave may arch bytes width place [] tail le held rise fits room h = omega arith
rows_stand MayHave may arch bytes width place (row ∷ rows) tail le held rise fits room h =
    let run : List ℕ = narrow_row width row in
    let later : List ℕ = flat_map (narrow_row width) rows in
    let front : flat_map (narrow_row width) (row ∷ rows) ≡ run ++ later = flat_map-cons (narrow_row width) row rows in
    let here : drop place bytes ≡ run ++ (later ++ tail) = h ∙ (ap (λ l. l ++ tail) front ∙ append_assoc run later tail) in
    let next : drop (place + length run) bytes ≡ later ++ tail = after bytes place (length run) run (later ++ tail) here refl in
    let end : place + length run + length later ≡ place + length (flat_map (narrow_row width) (row ∷ rows)) =
    let e : length (flat_map (narrow_row width) (row ∷ rows)) ≡ length run + length later = ap length front ∙ length-append run later in omega (e, arith) in
    let starts : IsTrue (holds_unsigned row.start width) = holds_below row.start (last_start (row ∷ rows)) (2 ^ (8 * width_len width)) (below_last row rows rise) held in
    let row_stands : RowStands arch bytes width (offset_width row.content) place row = record {
      fits = fits 0 row (omega arith);
      start_width_fits = record { there_is = le; held = starts };
      offset_width_fits = row_is_held row (first_of (offsets_fit row) (list_all offsets_fit rows) room);
      spelled = stands bytes place run (later ++ tail) here;
    } in
    let rest : RowsStand MayHave arch bytes width (place + length run) (place + length run + length later) rows =
    rows_stand MayHave may arch bytes width (place + length run) rows tail le (last_held_tail width row rows le held) (rise_tail row rows rise)
    (All-tail (λ (r : Row). IsTrue (content_fits arch r.content)) row rows fits) (second_of (offsets_fit row) (list_all offsets_fit rows) room) next in
    (offset_width row.content, may row.content, row_stands, subst (λ k. RowsStand MayHave arch bytes width (place + length run) k rows) end rest)

-- the least width meets the condition of the least
pub least_may : (content : Content) → LeastWidth content (offset_width content)
least_may content = least_is_least (holds_row_offsets content)
