-- A worked section of AArch64: the bytes at 0x3000 that describe one function of five rows, without gaps and with the least
-- widths. It signs its return address with key B.
use Rattle.std.proofs.Common.{refl, ◌≡◌, ◌≤◌, ◌+◌, ℕ, Bool, true, List, [], ◌∷◌, arith}
use Rattle.std.specs.Prelude.{zero, suc}
use Rattle.std.specs.List.{AllAdjacentBelow}
use Rattle.sf_model.specs.declared.machine.Arch.TheVariants.{Aarch64}
use Rattle.sf_model.specs.declared.function.Func.{Func}
use Rattle.sf_model.specs.declared.content.Content.{Content}
use Rattle.sf_model.specs.Function.{RowsRise}
use Rattle.sf_model.specs.RowBytes.{holds_row_offsets, spelled_row}
use Rattle.sf_model.specs.Width.{holds_unsigned, IsWidth, NoneLess}
use Rattle.sf_model.specs.Table.{Table}
use Rattle.sf_model.specs.Section.{Section, IsHeader, EntryStands, RowsStand, AnyWidth, row_bytes_of}
use Rattle.sf_model.specs.Tight.{Tight, Narrow, LeastWidth}
use Rattle.sf_model.proofs.Worked.{signing, signing_rows}

abbrev bytes : List ℕ
bytes =
    0xe2 ∷ 0xde ∷ 2 ∷ 5 ∷ 2 ∷ 0 ∷ 0 ∷ 0 ∷ 1 ∷ 0 ∷ 0 ∷ 0 ∷ 5 ∷ 0 ∷ 0 ∷ 0 ∷ 17 ∷ 0 ∷ 0 ∷ 0 ∷ 0 ∷ 0 ∷ 0 ∷ 0 ∷ 20 ∷ 0 ∷ 0 ∷ 0
    ∷ 0xe4 ∷ 0xdf ∷ 0xff ∷ 0xff ∷ 28 ∷ 0 ∷ 0 ∷ 0 ∷ 0 ∷ 0 ∷ 0 ∷ 0 ∷ 5 ∷ 0 ∷ 0 ∷ 0 ∷ 0x20 ∷ 0 ∷ 0 ∷ 0
    ∷ 0 ∷ 3 ∷ 0 ∷ 4 ∷ 0x83 ∷ 0 ∷ 8 ∷ 0x87 ∷ 0x20 ∷ 0xe8 ∷ 0xe0 ∷ 0x14 ∷ 0x83 ∷ 0 ∷ 0x18 ∷ 3 ∷ 0 ∷ []

abbrev table : Table
table = record { arch = Aarch64; flags = 5; functions = signing ∷ [] }

header : IsHeader bytes table
header = record {
  magic = refl;
  version = refl;
  flags = refl;
  flags_known = omega arith;
  abi = refl;
  fixed_frame_pointer = refl;
  fixed_return = refl;
  function_count = refl;
  function_limit = omega arith;
  rows = refl;
  row_limit = omega arith;
  header_within = omega arith;
  functions_within = omega arith;
  rows_within = omega arith;
}

least_zero : (holds : ℕ → Bool) → NoneLess holds 0
least_zero holds smaller lt = absurd (omega arith)

zero_is_width : (holds : ℕ → Bool) → holds 0 ≡ true → IsWidth holds 0
zero_is_width holds held = record { there_is = omega arith; held = held }

-- the five rows are in place, under any condition on the widths that 0 meets
rows_stand : (MayHave : Content → ℕ → Type 0) → ((content : Content) → MayHave content 0)
    → RowsStand MayHave Aarch64 (row_bytes_of bytes) 0 0 17 signing_rows
unfolding spelled_row
rows_stand MayHave may =
    (0, may _, record { fits = refl; start_width_fits = zero_is_width _ refl; offset_width_fits = zero_is_width _ refl; spelled = refl }, (0, may _, record { fits = refl; start_width_fits = zero_is_width _ refl; offset_width_fits = zero_is_width _ refl; spelled = refl }, (0, may _, record { fits = refl; start_width_fits = zero_is_width _ refl; offset_width_fits = zero_is_width _ refl; spelled = refl }, (0, may _, record { fits = refl; start_width_fits = zero_is_width _ refl; offset_width_fits = zero_is_width _ refl; spelled = refl }, (0, may _, record { fits = refl; start_width_fits = zero_is_width _ refl; offset_width_fits = zero_is_width _ refl; spelled = refl }, refl)))))

any_rows_stand : RowsStand AnyWidth Aarch64 (row_bytes_of bytes) 0 0 17 signing_rows
any_rows_stand = rows_stand AnyWidth (λ content. tt)

rows_rise : RowsRise signing_rows
rows_rise zero d lt = omega arith
rows_rise (suc zero) d lt = omega arith
rows_rise (suc (suc zero)) d lt = omega arith
rows_rise (suc (suc (suc zero))) d lt = omega arith
rows_rise (suc (suc (suc (suc k)))) d lt = absurd (omega arith)

entry : EntryStands Aarch64 bytes (0x3000 + 28) 28 signing
entry = record {
  start = refl;
  end = omega arith;
  start_below = omega arith;
  size = refl;
  row_count = refl;
  start_width = omega arith;
  info = refl;
  repeat_size = tt;
  key = refl;
  rows_rise = rows_rise;
}

alone : AllAdjacentBelow (λ (f : Func) (g : Func). f.start + f.size ≤ g.start) (signing ∷ []) 1
alone k d lt = absurd (omega arith)

is_section : Section bytes 0x3000 table
is_section = record { header = header; functions = (entry, (17, any_rows_stand), tt); sorted = λ sorted. alone }

is_tight : Tight bytes 0x3000 table
is_tight = record {
  section = is_section;
  flags = refl;
  no_auxiliary_header = refl;
  functions_first = refl;
  rows_next = refl;
  without_gaps = (refl, refl, refl, (17, any_rows_stand, refl));
  nothing_besides = refl;
}

is_narrow : Narrow bytes table
is_narrow = (least_zero (holds_unsigned 24), (17, rows_stand LeastWidth (λ content. least_zero (holds_row_offsets content))), tt)
