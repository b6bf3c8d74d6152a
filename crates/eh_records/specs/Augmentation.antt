-- The augmentation of a common information entry: a string that is empty, or `z` and letters, none twice, and its data in the letters'
-- order. `z`, `R`, `P` and `L` are those of LSB Core, "The .eh_frame section"; `S` is GNU's (`.cfi_signal_frame`), and `B` that of DWARF for
-- the Arm 64-bit Architecture.
use Rattle.std.specs.Prelude.{ℕ, ◌==◌, ◌||◌, ◌&&◌, Bool, true, false, not, List, [], ◌∷◌, ◌++◌, Option, Some, None, Result, Ok, Err, if◌then◌else◌}
use Rattle.std.specs.List.{list_any}
use Rattle.std.specs.Option.{option_map}
use Rattle.sf_bytes.specs.Cursor.{Cursor}
use Rattle.sf_model.specs.declared.machine.Arch.{Arch}
use Rattle.sf_model.specs.declared.machine.Arch.TheVariants.{Amd64, Aarch64}
use Rattle.sf_model.specs.declared.machine.Key.{Key}
use Rattle.sf_model.specs.declared.machine.Key.TheVariants as keys
use Rattle.eh_pointer.specs.declared.fault.PointerFault.{PointerFault}
use Rattle.eh_pointer.specs.declared.fault.PointerFault.TheVariants as pointer_faults
use Rattle.eh_pointer.specs.Pointer.{pointer_width, usable_width}
use Rattle.eh_pointer.specs.Skipping.{pointer_passed}
use Rattle.eh_records.specs.declared.augmentation.Augmentation.{Augmentation}
use Rattle.eh_records.specs.declared.augmentation.PointerForm.{PointerForm}
use Rattle.eh_records.specs.declared.fault.RecordFault.{RecordFault}
use Rattle.eh_records.specs.declared.fault.RecordFault.TheVariants as faults
use Rattle.eh_records.specs.Step.{Step, ◌>>=◌, PointerField, pointer_view, number_field, uleb_field, text_field, part_field, pointer_field}

-- the form of function pointers
pub record Form : Type 0 where
  pub encoding : ℕ
  pub width : ℕ

-- the augmentation, as its letters give it
pub record AugmentationView : Type 0 where
  pub pointers : Form
  pub lsda : Option ℕ
  pub personality : Option PointerField
  pub signal : Bool
  pub key : Key

-- Inside the crate: the view of a form
abbrev pub form_view : PointerForm → Form
form_view f = record { encoding = f.encoding; width = f.width }

-- Inside the crate: the view of an augmentation
abbrev pub augmentation_view : Augmentation → AugmentationView
augmentation_view a = record { pointers = form_view a.pointers; lsda = a.lsda; personality = option_map pointer_view a.personality; signal = a.signal; key = a.key }

-- whether the machine has the letter `B`
abbrev pub has_key_letter : Arch → Bool
has_key_letter Amd64 = false
has_key_letter Aarch64 = true

-- whether a letter is known: `R`, `P`, `S` and `L`, and `B` on AArch64
abbrev pub is_letter : Arch → ℕ → Bool
is_letter arch b = (b == 82) || (b == 80) || (b == 83) || (b == 76) || ((b == 66) && has_key_letter arch)

-- each letter is known, and none is there twice or among those before
unfoldable pub are_letters : Arch → List ℕ → List ℕ → Bool
are_letters arch before [] = true
are_letters arch before (b ∷ bs) = (is_letter arch b && not (list_any (λ a. a == b) before)) && are_letters arch (before ++ b ∷ []) bs

-- the letters after `z`, or none for the empty string; any other string is refused
abbrev pub letters_in : Arch → ℕ → List ℕ → Cursor → Step (Option (List ℕ))
letters_in arch place [] after = Ok (None, after)
letters_in arch place (b ∷ bs) after = if (b == 122) && are_letters arch [] bs then Ok (Some bs, after) else Err (faults.Augmentation place)

-- the letters of the augmentation string at the front
unfoldable pub letters_at : Arch → Cursor → Step (Option (List ℕ))
letters_at arch at = text_field at >>= λ text. letters_in arch at.place text.0 text.1

-- the augmentation data after its length
unfoldable pub data_at : Cursor → Step Cursor
data_at at = uleb_field at >>= λ len. part_field len.0 len.1

-- the form of an encoding of function pointers, which has to be usable
abbrev pub form_of : ℕ → ℕ → Option ℕ → Cursor → Step Form
form_of place encoding (Some width) after = Ok (record { encoding = encoding; width = width }, after)
form_of place encoding None after = Err (faults.Encoding place)

-- the form of function pointers, from the encoding at the front
unfoldable pub form_at : Cursor → Step Form
form_at at = number_field 1 at >>= λ e. form_of at.place e.0 (usable_width e.0) e.1

-- the fault of a personality pointer, with the place of its encoding or of the pointer
abbrev pub pointer_fault : ℕ → ℕ → PointerFault → RecordFault
pointer_fault encoding_place place pointer_faults.Encoding = faults.Encoding encoding_place
pointer_fault encoding_place place pointer_faults.Short = faults.Short place
pointer_fault encoding_place place pointer_faults.Leb = faults.Leb place

-- the field of a personality pointer, if its width is fixed
abbrev pub personality_field : Option ℕ → Cursor → Cursor → Step (Option PointerField)
personality_field None at after = Ok (None, after)
personality_field (Some width) at after = pointer_field width at >>= λ f. Ok (Some f.0, f.1)

-- the field of a personality pointer that was passed, or the fault
abbrev pub personality_in : ℕ → ℕ → Cursor → Result Cursor PointerFault → Step (Option PointerField)
personality_in encoding_place encoding at (Ok after) = personality_field (pointer_width encoding) at after
personality_in encoding_place encoding at (Err e) = Err (pointer_fault encoding_place at.place e)

-- a personality pointer: no pointer for 0xff, a pointer field if the width is fixed
unfoldable pub personality_at : Cursor → Step (Option PointerField)
personality_at at = number_field 1 at >>= λ e. if e.0 == 255 then Ok (None, e.1) else personality_in at.place e.0 e.1 (pointer_passed e.0 e.1)

-- the augmentation with what one letter gives
unfoldable pub letter_at : ℕ → AugmentationView → Cursor → Step AugmentationView
letter_at letter augmentation at =
    if letter == 82 then (form_at at >>= λ f. Ok (record augmentation { pointers = f.0 }, f.1))
    else if letter == 80 then (personality_at at >>= λ p. Ok (record augmentation { personality = p.0 }, p.1))
    else if letter == 76 then (number_field 1 at >>= λ e. Ok (record augmentation { lsda = Some e.0 }, e.1))
    else if letter == 83 then Ok (record augmentation { signal = true }, at)
    else Ok (record augmentation { key = keys.B }, at)

-- the augmentation of an entry without letters: absolute pointers of eight bytes, key A
abbrev pub plain_augmentation : AugmentationView
plain_augmentation = record { pointers = record { encoding = 0; width = 8 }; lsda = None; personality = None; signal = false; key = keys.A }

-- the augmentation with what the letters give, in their order; bytes that are left over aren't read
unfoldable pub augmentation_by : List ℕ → AugmentationView → Cursor → Result AugmentationView RecordFault
augmentation_by [] augmentation at = Ok augmentation
augmentation_by (b ∷ bs) augmentation at = letter_at b augmentation at >>= λ next. augmentation_by bs next.0 next.1
