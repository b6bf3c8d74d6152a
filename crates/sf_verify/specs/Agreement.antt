-- A section compared with call frame information: the contents that recover the same caller's frame, and the verdict (GNU SFrame
-- specification, Version 2; DWARF 5, section 6.4).
use Rattle.std.specs.Prelude.{◌≡◌, ◌<◌, ◌&&◌, ◌||◌, ◌==◌, ℕ, Bool, true, false, not, IsTrue, List, length, Option, Some, None, ⊤}
use Rattle.std.specs.List.{filter, list_any}
use Rattle.std.specs.Option.{option_map}
use Rattle.sf_model.specs.declared.content.Content.{Content}
use Rattle.sf_model.specs.declared.function.Func.{Func}
use Rattle.sf_model.specs.declared.function.Shape.{Shape}
use Rattle.sf_model.specs.declared.function.Shape.TheVariants.{Plain, Repeat}
use Rattle.sf_model.specs.declared.machine.Arch.{Arch}
use Rattle.sf_model.specs.declared.machine.Key.{Key}
use Rattle.sf_model.specs.declared.machine.Key.TheVariants.{A, B}
use Rattle.sf_model.specs.declared.recovery.Regs.{Regs}
use Rattle.sf_model.specs.declared.verdict.Verdict.{Verdict}
use Rattle.sf_model.specs.declared.verdict.Verdict.TheVariants.{Agrees, Differs}
use Rattle.sf_model.specs.Content.{OffsetsInRange, content_fits}
use Rattle.sf_model.specs.Memory.{Region}
use Rattle.sf_model.specs.Recovery.{recovery}
use Rattle.sf_express.specs.Expressed.{same_content}
use Rattle.frame_functions.specs.Functions.{Function}
use Rattle.frame_functions.specs.Kept.{kept_functions}
use Rattle.frame_functions.specs.declared.keyed_content.KeyedContent.{KeyedContent}
use Rattle.frame_functions.specs.ContentAt.{Answers, dwarf_at}
use Rattle.sf_verify.specs.SectionContent.{section_at}

-- two contents with their keys recover the same caller's frame, for all registers and memory
abbrev pub RecoverSameFrame : KeyedContent → KeyedContent → Type 0
RecoverSameFrame s d = (regs : Regs) (memory : List Region) → recovery s.content s.key regs memory ≡ recovery d.content d.key regs memory

-- if the section has a content, the call frame information has one that recovers the same
abbrev pub Agree : (section dwarf : Option KeyedContent) → Type 0
Agree None dwarf = ⊤
Agree (Some s) None = ⊥
Agree (Some s) (Some d) = RecoverSameFrame s d

-- the content without its key
abbrev pub without_key : Option KeyedContent → Option Content
without_key said = option_map (λ (s : KeyedContent). s.content) said

-- this is the least address at which section and call frame information don't agree, and these are their contents there
pub record DifferFirst (section dwarf : Answers) (pc : ℕ) (ours : Content) (theirs : Option Content) : Type 0 where
  pub section_content : without_key (section pc) ≡ Some ours
  pub dwarf_content : without_key (dwarf pc) ≡ theirs
  pub differ : Agree (section pc) (dwarf pc) → ⊥
  pub before : (least : ℕ) → least < pc → Agree (section least) (dwarf least)

-- ---- counts
-- rows are looked up by the offset
abbrev pub is_plain_shape : Shape → Bool
is_plain_shape Plain = true
is_plain_shape (Repeat size) = false

-- the function's rows are looked up by the offset
abbrev pub is_plain : Func → Bool
is_plain f = is_plain_shape f.shape

-- the section's function is a plain one with the start and size of this function of the inputs
abbrev pub represents : Function → Func → Bool
represents f g = is_plain g && (g.start == f.start) && (g.size == f.size)

-- no function of the section is a plain one with the start and size of this function of the inputs
abbrev pub is_missing : List Func → Function → Bool
is_missing section f = not (list_any (represents f) section)

-- ---- the verdict
-- Section and call frame information agree at every address. These are the numbers of the section's plain functions, of the kept
-- functions of the inputs that it lacks, and of its functions of repeated blocks.
pub record AgreeEverywhere (section : List Func) (functions : List Function) (checked missing repeats : ℕ) : Type 0 where
  pub agree : (pc : ℕ) → Agree (section_at section pc) (dwarf_at functions pc)
  pub checked_are : checked ≡ length (filter is_plain section)
  pub missing_are : missing ≡ length (filter (is_missing section) (kept_functions functions))
  pub repeats_are : repeats ≡ length (filter (λ f. not (is_plain f)) section)

-- the verdict on a section's functions, by the functions of the inputs
abbrev pub IsVerdict : (section : List Func) → (functions : List Function) → Verdict → Type 0
IsVerdict section functions (Agrees checked missing repeats) = AgreeEverywhere section functions checked missing repeats
IsVerdict section functions (Differs pc ours theirs) = DifferFirst (section_at section) (dwarf_at functions) pc ours theirs

-- ---- the test
-- two keys are the same
abbrev pub same_key : Key → Key → Bool
same_key A A = true
same_key A B = false
same_key B A = false
same_key B B = true

-- the contents are equal, and also the keys if the contents are signed
abbrev pub agree : KeyedContent → KeyedContent → Bool
agree s d = same_content s.content d.content && (not s.content.signed || same_key s.key d.key)

-- the content fits the machine, and its offsets have 32 signed bits
pub record IsFitting (arch : Arch) (said : KeyedContent) : Type 0 where
  pub fits : IsTrue (content_fits arch said.content)
  pub in_range : OffsetsInRange said.content
