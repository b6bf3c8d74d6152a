-- Walks by a part of a memory, as by the copy of a stack in a sample: the frames that they list are the first frames of the walk by the whole
-- memory (GNU SFrame specification, Version 2: what an SFrame section is for).
use Rattle.std.specs.Prelude.{◌≡◌, ◌⊎◌, ◌<◌, ◌≤◌, ◌^◌, ℕ, List, [], ◌∷◌, length, map, Option, Some, None, bit_and, unwrap_or}
use Rattle.std.specs.Int.{w64, bit_not}
use Rattle.sf_model.specs.declared.walk.Frame.{Frame}
use Rattle.sf_model.specs.declared.walk.Stop.{Stop}
use Rattle.sf_model.specs.Memory.{Region, read_eight}
use Rattle.sf_model.specs.Walk.{Listing, LookUp, ThreadState, frames_from, look_up_walk, recover_by}
use Rattle.sample_walk.specs.declared.state.State.{State}
use Rattle.sample_walk.specs.declared.state.Value.{Value}
use Rattle.sample_walk.specs.declared.state.Value.TheVariants.{Known}
use Rattle.sample_walk.specs.declared.walking.ModuleFrame.{ModuleFrame}
use Rattle.sample_walk.specs.Step.{asked_at}
use Rattle.sample_walk.specs.Onward.{initial_state, stepping, walk_on}
use Rattle.sample_walk.specs.Room.{place_frame}

-- each number that is read of the part is read of the whole
abbrev pub IsPartOf : (part whole : List Region) → Type 0
IsPartOf part whole = (address value : ℕ) → read_eight part address ≡ Some value → read_eight whole address ≡ Some value

-- a register's value, if it is known or the memory has it
abbrev pub value_by : List Region → Value → Option ℕ
value_by memory (Known value) = Some value
value_by memory (Value.Unreadable address) = read_eight memory address

-- a thread's mask: the known one, or if none is known, one that clears no bit of an address in the address space of 48 bits
abbrev pub IsMaskOf : (known : Option ℕ) → (mask : ℕ) → Type 0
IsMaskOf (Some known) mask = known ≡ mask
IsMaskOf None mask = (address : ℕ) → address < 2 ^ 48 → bit_and address (bit_not w64 mask) ≡ address

-- The walk from a state whose frame pointer has this value. From the state of a thread it is `look_up_walk`.
abbrev pub walk_from : LookUp → (mask : ℕ) → List Region → (depth : ℕ) → State → (frame_pointer : ℕ) → Listing
walk_from look_up mask memory depth at frame_pointer =
    frames_from (recover_by look_up memory) (Some mask) depth (asked_at at) at.pc (record { sp = at.sp; fp = frame_pointer; lr = at.lr })

-- a listed frame is this one; only the last that is listed may lack the canonical frame address
abbrev pub IsFrame : (listed : ModuleFrame) → (later : List ModuleFrame) → Frame → Type 0
IsFrame listed later frame = (listed.pc ≡ frame.pc) × ((listed.cfa ≡ unwrap_or frame.cfa 0) ⊎ ((listed.cfa ≡ 0) × (later ≡ [])))

-- listed frames are the first frames of a walk; they may be more than it has if it stops at a value that can't be read
abbrev pub AreFirst : (listed : List ModuleFrame) → List Frame → Stop → Type 0
AreFirst [] frames stop = Unit {0}
AreFirst (listed ∷ later) [] stop = (address : ℕ) × (stop ≡ Stop.Unreadable address)
AreFirst (listed ∷ later) (frame ∷ frames) stop = IsFrame listed later frame × AreFirst later frames stop

abbrev pub AreFirstOf : (listed : List ModuleFrame) → Listing → Type 0
AreFirstOf listed walk = AreFirst listed walk.frames walk.stop

-- The frames that a walk by a part lists, from a state on, are the first frames of the walk by each whole memory, with the thread's mask and
-- the frame pointer that the state has by that memory.
unfoldable pub AreFirstByEachWhole : LookUp → (known : Option ℕ) → (part : List Region) → State → (listed : List ModuleFrame) → Type 0
AreFirstByEachWhole look_up known part at listed = (whole : List Region) (mask frame_pointer depth : ℕ) → IsPartOf part whole → IsMaskOf known mask
    → value_by whole at.fp ≡ Some frame_pointer → length listed ≤ depth → AreFirstOf listed (walk_from look_up mask whole depth at frame_pointer)

-- the walk of a thread by a part lists the first frames of `look_up_walk` by each whole memory, with the thread's mask
abbrev pub ListsFirstFrames : Type 0
ListsFirstFrames = (look_up : LookUp) (index : ℕ → ℕ) (thread : ThreadState) (part whole : List Region) (n mask depth : ℕ)
    → let listed = map (place_frame index) (walk_on (stepping look_up thread.mask part) n (initial_state thread)).places in
    IsPartOf part whole → IsMaskOf thread.mask mask → length listed ≤ depth
    → AreFirstOf listed (look_up_walk look_up (record { pc = thread.pc; regs = thread.regs; mask = Some mask }) whole depth)
