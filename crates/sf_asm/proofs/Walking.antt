-- Walks by what is recovered at each address: where that is the same, the walks are.
use Rattle.std.specs.Option.{option_map, option_and_then}
use Rattle.std.proofs.Common.{◌≡◌, ℕ, zero, suc, List, map, Option, Some, None, refl, sym, ap, ◌∙◌}
use Rattle.sf_model.specs.declared.recovery.Regs.{Regs}
use Rattle.sf_model.specs.Memory.{Region}
use Rattle.sf_model.specs.Recovery.{Recovery, Value, Known, Unreadable}
use Rattle.sf_model.specs.Walk.{ThreadState, behind, unsigned_address, Going, on_by_address, on_by_pointer, on_by, frame_by, Recovering, address_before, frames_from, walk_by, recover_by_rows, section_walk}
use Rattle.sf_express.specs.Alike.{defined}
use Rattle.frame_functions.specs.declared.read_function.ReadFunction.{ReadFunction}
use Rattle.frame_functions.specs.ReadFunction.{kept_of, spans_of}
use Rattle.frame_functions.specs.Functions.{Function}
use Rattle.frame_functions.specs.Kept.{read_of}
use Rattle.frame_functions.specs.Order.{InOrder}
use Rattle.sf_asm.specs.Linking.{overlap_in}
use Rattle.sf_asm.specs.Faithful.{if_whole, recover_by_dwarf, dwarf_walk}
use Rattle.sf_asm.proofs.Agreeing.{recovers_by_dwarf}

abbrev GoAlike : Going → Going → Type 0
GoAlike go go' = (pc : ℕ) (regs : Regs) → go pc regs ≡ go' pc regs

by_address : (go go' : Going) → GoAlike go go' → (stack_pointer frame_pointer return_address : ℕ) (unsigned : Option ℕ)
    → on_by_address go stack_pointer frame_pointer return_address unsigned ≡ on_by_address go' stack_pointer frame_pointer return_address unsigned
by_address go go' h stack_pointer frame_pointer return_address (Some pc) = h pc (record { sp = stack_pointer; fp = frame_pointer; lr = return_address })
by_address go go' h stack_pointer frame_pointer return_address None = refl

by_pointer : (go go' : Going) → GoAlike go go' → (mask : Option ℕ) (r : Recovery) (return_address : ℕ) (frame_pointer : Value) → on_by_pointer go mask r return_address frame_pointer ≡ on_by_pointer go' mask r return_address frame_pointer
by_pointer go go' h mask r return_address (Known frame_pointer) = by_address go go' h r.stack_pointer frame_pointer return_address (unsigned_address r.signed mask return_address)
by_pointer go go' h mask r return_address (Unreadable address) = refl

by_return : (go go' : Going) → GoAlike go go' → (mask : Option ℕ) (r : Recovery) (return_address : Value) → on_by go mask r return_address ≡ on_by go' mask r return_address
by_return go go' h mask r (Known return_address) = by_pointer go go' h mask r return_address r.frame_pointer
by_return go go' h mask r (Unreadable address) = refl

by_recovery : (go go' : Going) → GoAlike go go' → (mask : Option ℕ) (asked pc : ℕ) (recovered : Option Recovery) → frame_by go mask asked pc recovered ≡ frame_by go' mask asked pc recovered
by_recovery go go' h mask asked pc (Some r) = ap (behind (record { pc = pc; cfa = Some r.frame_address })) (by_return go go' h mask r r.return_address)
by_recovery go go' h mask asked pc None = refl

pub frames_alike : (one other : Recovering) → ((asked : ℕ) (regs : Regs) → one asked regs ≡ other asked regs) → (mask : Option ℕ) (depth asked pc : ℕ) (regs : Regs) → frames_from one mask depth asked pc regs ≡ frames_from other mask depth asked pc regs
unfolding frames_from
frames_alike one other h mask zero asked pc regs = refl
frames_alike one other h mask (suc depth) asked pc regs =
    by_recovery (λ next. frames_from one mask depth (address_before next) next) (λ next. frames_from other mask depth (address_before next) next)
    (λ next caller. frames_alike one other h mask depth (address_before next) next caller) mask asked pc (one asked regs)
    ∙ ap (frame_by (λ next. frames_from other mask depth (address_before next) next) mask asked pc) (h asked regs)

-- what is recovered whole is recovered by the rules
pub undone : (r : Option Recovery) → option_and_then if_whole (option_map defined r) ≡ r
undone None = refl
undone (Some r) = refl

recover_alike : (fs : List Function) (ordered : List ReadFunction) → InOrder (map read_of fs) ordered → overlap_in (spans_of ordered) ≡ None → (memory : List Region) (asked : ℕ) (regs : Regs)
    → recover_by_rows (kept_of ordered) memory asked regs ≡ recover_by_dwarf fs memory asked regs
recover_alike fs ordered order apart memory asked regs =
    sym (undone (recover_by_rows (kept_of ordered) memory asked regs)) ∙ ap (option_and_then if_whole) (recovers_by_dwarf fs ordered order apart asked regs memory)

pub walks_by_dwarf : (fs : List Function) (ordered : List ReadFunction) → InOrder (map read_of fs) ordered → overlap_in (spans_of ordered) ≡ None → (thread : ThreadState) (memory : List Region) (depth : ℕ)
    → section_walk (kept_of ordered) thread memory depth ≡ dwarf_walk fs thread memory depth
unfolding section_walk dwarf_walk walk_by recover_by_rows
walks_by_dwarf fs ordered order apart thread memory depth =
    frames_alike (recover_by_rows (kept_of ordered) memory) (recover_by_dwarf fs memory) (recover_alike fs ordered order apart memory) thread.mask depth thread.pc thread.pc thread.regs
