-- What is left after a pointer that was passed comes after a run of bytes.
use Rattle.std.proofs.Common.{◌≡◌, ℕ, ◌%◌, Bool, true, false, cond, List, Option, Some, None, Result, Ok, Err, refl, subst}
use Rattle.std.specs.Prelude.{◌==◌}
use Rattle.sf_bytes.specs.Cursor.{Cursor, Read, part_at}
use Rattle.sf_bytes.specs.Leb.{uleb_at, sleb_at}
use Rattle.sf_bytes.specs.Standing.{Passes}
use Rattle.sf_bytes.proofs.Fields.{part_takes}
use Rattle.sf_bytes.proofs.Lebs.{uleb_takes, sleb_takes}
use Rattle.eh_pointer.specs.declared.fault.PointerFault.{PointerFault}
use Rattle.eh_pointer.specs.declared.fault.PointerFault.TheVariants.{Encoding}
use Rattle.eh_pointer.specs.Pointer.{pointer_width, format_of, above_format}
use Rattle.eh_pointer.specs.Skipping.{passed, passed_width, pointer_passed}

abbrev behind : Cursor → Result Cursor PointerFault
behind c = Ok c

same : (a b : Cursor) → behind a ≡ behind b → a ≡ b
same a b e = cc

-- a run of bytes is between two cursors
abbrev pub IsBehind : Cursor → Cursor → Type 0
IsBehind from to = (run : List ℕ) × Passes run from to

read_behind : {X : Type 0} (r : Read X) (at after : Cursor) → ((x : X) (c : Cursor) → r ≡ Ok (x, c) → IsBehind at c) → passed r ≡ Ok after → IsBehind at after
read_behind (Ok (x, c)) at after h e = subst (λ (b : Cursor). IsBehind at b) (same c after e) (h x c refl)
read_behind (Err f) at after h e = absurd cc

leb_behind : (at after : Cursor) (u s : Bool) → cond u (passed (uleb_at at)) (cond s (passed (sleb_at at)) (Err Encoding)) ≡ Ok after → IsBehind at after
leb_behind at after true s e = read_behind (uleb_at at) at after (λ x c r. let t = uleb_takes at x c r in (t.run, t.passes)) e
leb_behind at after false true e = read_behind (sleb_at at) at after (λ x c r. let t = sleb_takes at x c r in (t.run, t.passes)) e
leb_behind at after false false e = absurd cc

width_behind : (o : Option ℕ) (encoding : ℕ) (at after : Cursor) → passed_width o encoding at ≡ Ok after → IsBehind at after
width_behind (Some width) encoding at after e = read_behind (part_at width at) at after (λ part c r. let t = part_takes width at part c r in (t.0.run, t.0.passes)) e
width_behind None encoding at after e = leb_behind at after (format_of encoding == 1) (format_of encoding == 9) e

unaligned_behind : (encoding : ℕ) (at after : Cursor) (aligned : Bool) → cond aligned (Err Encoding) (passed_width (pointer_width encoding) encoding at) ≡ Ok after → IsBehind at after
unaligned_behind encoding at after true e = absurd cc
unaligned_behind encoding at after false e = width_behind (pointer_width encoding) encoding at after e

pub pointer_behind : (encoding : ℕ) (at after : Cursor) → pointer_passed encoding at ≡ Ok after → IsBehind at after
unfolding pointer_passed
pointer_behind encoding at after e = unaligned_behind encoding at after (above_format encoding % 8 == 5) e
