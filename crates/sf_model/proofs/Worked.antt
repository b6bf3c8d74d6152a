-- Worked cases of look-up, recovery and walks, by computation.
use Rattle.std.proofs.Common.{refl, ◌≡◌, ℕ, Bool, true, false, List, [], ◌∷◌, ℤ, pos}
use Rattle.std.specs.Prelude.{negsuc, Option, Some, None}
use Rattle.sf_model.specs.declared.machine.Base.{Base}
use Rattle.sf_model.specs.declared.machine.Base.TheVariants.{Fp, Sp}
use Rattle.sf_model.specs.declared.machine.Key.TheVariants.{A, B}
use Rattle.sf_model.specs.declared.content.Ra.{Ra}
use Rattle.sf_model.specs.declared.content.Ra.TheVariants.{Fixed, Link, At}
use Rattle.sf_model.specs.declared.rows.Row.{Row}
use Rattle.sf_model.specs.declared.function.Shape.TheVariants.{Plain, Repeat}
use Rattle.sf_model.specs.declared.function.Func.{Func}
use Rattle.sf_model.specs.declared.walk.Stop.TheVariants.{Depth, Outside, Signed}
use Rattle.sf_model.specs.declared.walk.Stop.TheVariants as Stop
use Rattle.sf_model.specs.declared.walk.Frame.{Frame}
use Rattle.sf_model.specs.declared.recovery.Regs.{Regs}
use Rattle.sf_model.specs.Memory.{Region, read_eight}
use Rattle.sf_model.specs.Recovery.{moved, recovery}
use Rattle.sf_model.specs.Lookup.{FoundRow, row_at, found_at}
use Rattle.sf_model.specs.Walk.{ThreadState, frames_from, walk_by, recover_by_rows, section_walk}

-- a row of AMD64
abbrev pub row : (start : ℕ) → Base → (cfa : ℤ) → (fp : Option ℤ) → Row
row start base cfa fp = record { start = start; content = record { base = base; cfa = cfa; ra = Fixed; fp = fp; signed = false } }

-- a row of AArch64
abbrev signed_row : (start : ℕ) → (cfa : ℤ) → Ra → (fp : Option ℤ) → Bool → Row
signed_row start cfa ra fp signed = record { start = start; content = record { base = Sp; cfa = cfa; ra = ra; fp = fp; signed = signed } }

-- a function that pushes its frame pointer: six bytes at 0x1000
abbrev pub pushing_rows : List Row
pushing_rows = row 0 Sp (pos 8) None ∷ row 1 Sp (pos 16) (Some (negsuc 15)) ∷ row 4 Fp (pos 16) (Some (negsuc 15)) ∷ row 5 Sp (pos 8) (Some (negsuc 15)) ∷ []

abbrev pub pushing : Func
pushing = record { start = 0x1000; size = 6; shape = Plain; key = A; rows = pushing_rows }

-- two functions of 16 bytes, not sorted, of one row each
abbrev unsorted : List Func
unsorted =
    record { start = 0x3100; size = 16; shape = Plain; key = A; rows = row 0 Sp (pos 8) None ∷ [] }
    ∷ record { start = 0x3000; size = 16; shape = Plain; key = A; rows = row 0 Sp (pos 8) None ∷ [] } ∷ []

-- four blocks of 16 bytes
abbrev blocks : List Func
blocks = record { start = 0x1000; size = 64; shape = Repeat 16; key = A; rows = row 0 Sp (pos 8) None ∷ row 11 Sp (pos 16) None ∷ [] } ∷ []

-- a function that signs its return address with key B: 28 bytes at 0x1000
abbrev pub signing_rows : List Row
signing_rows = signed_row 0 (pos 0) Link None false ∷ signed_row 4 (pos 0) Link None true
    ∷ signed_row 8 (pos 32) (At (negsuc 23)) (Some (negsuc 31)) true ∷ signed_row 20 (pos 0) Link None true
    ∷ signed_row 24 (pos 0) Link None false ∷ []

abbrev pub signing : Func
signing = record { start = 0x1000; size = 28; shape = Plain; key = B; rows = signing_rows }

-- the start of the found function, and that of its row
abbrev place_found : Option FoundRow → Option (ℕ × ℕ)
place_found (Some found) = Some (found.func.start, found.row.start)
place_found None = None

found_last : place_found (found_at (pushing ∷ []) 0x1005) ≡ Some (0x1000, 5)
unfolding found_at row_at
found_last = refl

found_nothing_behind : place_found (found_at (pushing ∷ []) 0x1006) ≡ None
unfolding found_at row_at
found_nothing_behind = refl

found_in_first : place_found (found_at unsorted 0x3105) ≡ Some (0x3100, 0)
unfolding found_at row_at
found_in_first = refl

found_in_second : place_found (found_at unsorted 0x300f) ≡ Some (0x3000, 0)
unfolding found_at row_at
found_in_second = refl

found_in_block : place_found (found_at blocks 0x101b) ≡ Some (0x1000, 11)
unfolding found_at row_at
found_in_block = refl

-- 32 bytes of stack at 0x7000: the return address 0x1005 at 0x7008, and 0 at 0x7018
abbrev stack : List Region
stack = record {
  start = 0x7000;
  bytes = 0x10 ∷ 0x70 ∷ 0 ∷ 0 ∷ 0 ∷ 0 ∷ 0 ∷ 0 ∷ 5 ∷ 0x10 ∷ 0 ∷ 0 ∷ 0 ∷ 0 ∷ 0 ∷ 0 ∷ 0 ∷ 0 ∷ 0 ∷ 0 ∷ 0 ∷ 0 ∷ 0 ∷ 0 ∷ 0 ∷ 0 ∷ 0 ∷ 0 ∷ 0 ∷ 0 ∷ 0 ∷ 0 ∷ [];
} ∷ []

abbrev amd64_registers : (sp fp : ℕ) → Regs
amd64_registers sp fp = record { sp = sp; fp = fp; lr = 0 }

abbrev frame : ℕ → Option ℕ → Frame
frame pc cfa = record { pc = pc; cfa = cfa }

-- a caller is looked up at the address before its return address
walked_outside : section_walk (pushing ∷ []) (record { pc = 0x1004; regs = amd64_registers 0x6ff0 0x7000; mask = None }) stack 64
    ≡ record { frames = frame 0x1004 (Some 0x7010) ∷ frame 0x1005 (Some 0x7020) ∷ frame 0 None ∷ []; stop = Outside 0xffffffffffffffff }
unfolding section_walk walk_by frames_from recover_by_rows recovery moved read_eight found_at row_at
walked_outside = refl

walked_to_depth : section_walk (pushing ∷ []) (record { pc = 0x1004; regs = amd64_registers 0x6ff0 0x7000; mask = None }) stack 2
    ≡ record { frames = frame 0x1004 (Some 0x7010) ∷ frame 0x1005 (Some 0x7020) ∷ []; stop = Depth }
unfolding section_walk walk_by frames_from recover_by_rows recovery moved read_eight found_at row_at
walked_to_depth = refl

walked_unreadable : section_walk (pushing ∷ []) (record { pc = 0x1000; regs = amd64_registers 0x9000 0; mask = None }) stack 64
    ≡ record { frames = frame 0x1000 (Some 0x9008) ∷ []; stop = Stop.Unreadable 0x9000 }
unfolding section_walk walk_by frames_from recover_by_rows recovery moved read_eight found_at row_at
walked_unreadable = refl

-- 16 bytes of stack at 0x7000: a frame pointer, and a return address whose signature is 0x2a in bits 48 to 54
abbrev signed_stack : List Region
signed_stack = record { start = 0x7000; bytes = 0x11 ∷ 0x11 ∷ 0 ∷ 0 ∷ 0 ∷ 0 ∷ 0 ∷ 0 ∷ 0x14 ∷ 0x10 ∷ 0 ∷ 0 ∷ 0 ∷ 0 ∷ 0x2a ∷ 0 ∷ [] } ∷ []

abbrev signing_thread : (mask : Option ℕ) → ThreadState
signing_thread mask = record { pc = 0x1008; regs = record { sp = 0x7000; fp = 0; lr = 0 }; mask = mask }

walked_signed : section_walk (signing ∷ []) (signing_thread (Some 0x7f000000000000)) signed_stack 64
    ≡ record { frames = frame 0x1008 (Some 0x7020) ∷ frame 0x1014 (Some 0x7040) ∷ []; stop = Stop.Unreadable 0x7028 }
unfolding section_walk walk_by frames_from recover_by_rows recovery moved read_eight found_at row_at
walked_signed = refl

walked_without_mask : section_walk (signing ∷ []) (signing_thread None) signed_stack 64
    ≡ record { frames = frame 0x1008 (Some 0x7020) ∷ []; stop = Signed 0x2a000000001014 }
unfolding section_walk walk_by frames_from recover_by_rows recovery moved read_eight found_at row_at
walked_without_mask = refl
