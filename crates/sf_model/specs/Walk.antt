-- The walk of a thread's stack by the rows of a section (GNU SFrame specification, Version 2: what an SFrame section is for).
-- A walk is a recursion on its depth over the program counter, the stack pointer, the frame pointer and the link register.
use Rattle.std.specs.Prelude.{ℕ, zero, suc, negsuc, List, [], ◌∷◌, Option, Some, None, bit_and}
use Rattle.std.specs.Option.{option_map}
use Rattle.std.specs.Int.{w64, bit_not}
use Rattle.sf_model.specs.declared.machine.Key.{Key}
use Rattle.sf_model.specs.declared.recovery.Regs.{Regs}
use Rattle.sf_model.specs.declared.function.Func.{Func}
use Rattle.sf_model.specs.declared.walk.Frame.{Frame}
use Rattle.sf_model.specs.declared.walk.Stop.{Stop}
use Rattle.sf_model.specs.declared.walk.Stop.TheVariants.{Depth, Outside, Unreadable, Signed}
use Rattle.sf_model.specs.Memory.{Region}
use Rattle.sf_model.specs.Recovery.{Recovery, Value, Known, moved, recovery}
use Rattle.sf_model.specs.Lookup.{FoundRow, found_at}

-- a stopped thread; the mask has the bits of a return address that hold its signature, if they are known
pub record ThreadState : Type 0 where
  pub pc : ℕ
  pub regs : Regs
  pub mask : Option ℕ

-- the frames that a walk lists, and why it stops
pub record Listing : Type 0 where
  pub frames : List Frame
  pub stop : Stop

-- a listing with one more frame in front
abbrev pub behind : Frame → Listing → Listing
behind frame listing = record { frames = frame ∷ listing.frames; stop = listing.stop }

-- a listing that stops, with no more frames
abbrev pub stopped : Stop → Listing
stopped stop = record { frames = []; stop = stop }

-- a return address without its signature: unchanged if it is unsigned, and with the bits of the thread's mask cleared if it
-- is signed; none if it is signed and the thread has no mask
abbrev pub unsigned_address : (signed : Option Key) → (mask : Option ℕ) → ℕ → Option ℕ
unsigned_address None mask address = Some address
unsigned_address (Some key) None address = None
unsigned_address (Some key) (Some mask) address = Some (bit_and address (bit_not w64 mask))

-- how a walk continues from a program counter and registers
abbrev pub Going : Type 0
Going = (pc : ℕ) → Regs → Listing

-- continues at the caller, whose return address is known with its signature and without it
abbrev pub on_by_address : Going → (stack_pointer frame_pointer return_address : ℕ) → (unsigned : Option ℕ) → Listing
on_by_address go stack_pointer frame_pointer return_address (Some pc) = go pc (record { sp = stack_pointer; fp = frame_pointer; lr = return_address })
on_by_address go stack_pointer frame_pointer return_address None = stopped (Signed return_address)

-- continues at the caller, whose return address is known; the frame pointer is read next
abbrev pub on_by_pointer : Going → (mask : Option ℕ) → Recovery → (return_address : ℕ) → (frame_pointer : Value) → Listing
on_by_pointer go mask r return_address (Known frame_pointer) =
    on_by_address go r.stack_pointer frame_pointer return_address (unsigned_address r.signed mask return_address)
on_by_pointer go mask r return_address (Value.Unreadable address) = stopped (Unreadable address)

-- continues at the caller; the return address is read first
abbrev pub on_by : Going → (mask : Option ℕ) → Recovery → (return_address : Value) → Listing
on_by go mask r (Known return_address) = on_by_pointer go mask r return_address r.frame_pointer
on_by go mask r (Value.Unreadable address) = stopped (Unreadable address)

-- a frame, by what is recovered at the address that is looked up, and the walk after it
abbrev pub frame_by : Going → (mask : Option ℕ) → (asked pc : ℕ) → Option Recovery → Listing
frame_by go mask asked pc (Some r) = behind (record { pc = pc; cfa = Some r.frame_address }) (on_by go mask r r.return_address)
frame_by go mask asked pc None = behind (record { pc = pc; cfa = None }) (stopped (Outside asked))

-- What is recovered at an address that is looked up, with the registers of the frame.
abbrev pub Recovering : Type 0
Recovering = (asked : ℕ) → Regs → Option Recovery

-- the address before this one, modulo 2^64
abbrev pub address_before : ℕ → ℕ
address_before pc = moved pc (negsuc 0)

-- a frame of the walk and all after it, at most as many as the depth: a caller is looked up at the address before its return
-- address
unfoldable pub frames_from : Recovering → (mask : Option ℕ) → (depth asked pc : ℕ) → Regs → Listing
frames_from recover_at mask zero asked pc regs = stopped Depth
frames_from recover_at mask (suc depth) asked pc regs =
    frame_by (λ next. frames_from recover_at mask depth (address_before next) next) mask asked pc (recover_at asked regs)

-- the walk of a thread, whose own frame is looked up at its program counter
unfoldable pub walk_by : Recovering → ThreadState → (depth : ℕ) → Listing
walk_by recover_at thread depth = frames_from recover_at thread.mask depth thread.pc thread.pc thread.regs

-- what is found at an address: a function, and the row of it that holds there
abbrev pub LookUp : Type 0
LookUp = (pc : ℕ) → Option FoundRow

-- what the rows that are found recover at an address
abbrev pub recover_by : LookUp → List Region → Recovering
recover_by look_up memory asked regs = option_map (λ (found : FoundRow). recovery found.row.content found.func.key regs memory) (look_up asked)

-- the walk of a thread by the rows that are found
abbrev pub look_up_walk : LookUp → ThreadState → List Region → (depth : ℕ) → Listing
look_up_walk look_up thread memory depth = walk_by (recover_by look_up memory) thread depth

-- what the rows of these functions recover at an address
unfoldable pub recover_by_rows : List Func → List Region → Recovering
recover_by_rows functions memory asked regs = recover_by (found_at functions) memory asked regs

-- the walk of a thread by the rows of a section's functions
unfoldable pub section_walk : List Func → ThreadState → List Region → (depth : ℕ) → Listing
section_walk functions thread memory depth = look_up_walk (found_at functions) thread memory depth
