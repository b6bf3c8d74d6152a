-- Each fault of reading records is one that records can have.
use Rattle.std.proofs.Common.{◌≡◌, ◌⊎◌, ℕ, true, List, [], ◌∷◌, Option, Some, None, Err, sym, subst, inl, inr}
use Rattle.sf_bytes.specs.Cursor.{Cursor}
use Rattle.sf_model.specs.declared.machine.Arch.{Arch}
use Rattle.eh_records.specs.declared.fault.RecordFault.{RecordFault}
use Rattle.eh_records.specs.declared.fault.RecordFault.TheVariants.{Short, Extended, CieVersion, Augmentation, Encoding, CiePointer, Leb}
use Rattle.eh_records.specs.Cie.{FullCieView}
use Rattle.eh_records.specs.RawRecord.{RawRecordView}
use Rattle.eh_records.specs.Records.{start, with_cie}
use Rattle.eh_records.specs.Refused.{Lacks, IsLebFault, RecordFails, DataFails, StringFails, FormFails, PassedFails, PersonalityFails, LetterFails, LettersFail, AugmentationFails, CieFails, no_version, other_version, no_string, no_code_alignment_factor, no_data_alignment_factor, no_return_address_register, no_data, FdeFails, FrameFails, FailsFrom, AreReadAs, IsOfRecords}
use Rattle.eh_records.proofs.FailParts.{ReturnAddressRegisterFails, EntryFails}
use Rattle.eh_records.specs.Fields.{PointerStands}
use Rattle.eh_records.specs.Section.{EntryView}
use Rattle.eh_records.specs.Step.{PointerField}
use Rattle.eh_pointer.specs.Pointer.{pointer_width}

is : (f e : RecordFault) → IsOfRecords f → e ≡ f → IsOfRecords e
is f e h same = subst IsOfRecords (sym same) h

of_lack : (n : ℕ) (at : Cursor) (e : RecordFault) → Lacks n at e → IsOfRecords e
of_lack n at e h = is (Short at.place) e tt h.1

of_leb : (at : Cursor) (e : RecordFault) → IsLebFault at e → IsOfRecords e
of_leb at e (inl h) = is (Short at.place) e tt h.2
of_leb at e (inr h) = is (Leb at.place) e tt h.1

of_data : (at : Cursor) (e : RecordFault) → DataFails at e → IsOfRecords e
of_data at e (inl h) = of_leb at e h.1
of_data at e (inr h) = of_lack h.0 h.1 e h.3

of_string : (arch : Arch) (at : Cursor) (e : RecordFault) → StringFails arch at e → IsOfRecords e
of_string arch at e (inl h) = is (Short at.place) e tt h.1
of_string arch at e (inr h) = is (Augmentation at.place) e tt h.5

of_passed : (width : Option ℕ) (encoding place : ℕ) (at : Cursor) (e : RecordFault) → PassedFails width encoding place at e → IsOfRecords e
of_passed (Some width) encoding place at e h = of_lack width at e h
of_passed None encoding place at e (inl h) = of_leb at e h.1.1
of_passed None encoding place at e (inr (inl h)) = of_leb at e h.1.1
of_passed None encoding place at e (inr (inr h)) = is (Encoding place) e tt h.2

of_pointer : (encoding place : ℕ) (after : Cursor) (e : RecordFault) (aligned unaligned : Type 0) → (aligned × (e ≡ Encoding place)) ⊎ (unaligned × PassedFails (pointer_width encoding) encoding place after e) → IsOfRecords e
of_pointer encoding place after e aligned unaligned (inl h) = is (Encoding place) e tt h.1
of_pointer encoding place after e aligned unaligned (inr h) = of_passed (pointer_width encoding) encoding place after e h.1

of_personality : (at : Cursor) (e : RecordFault) → PersonalityFails at e → IsOfRecords e
of_personality at e (inl h) = of_lack 1 at e h
of_personality at e (inr h) = of_pointer h.0 at.place h.1 e _ _ h.4

of_form : (at : Cursor) (e : RecordFault) → FormFails at e → IsOfRecords e
of_form at e (inl h) = of_lack 1 at e h
of_form at e (inr h) = is (Encoding at.place) e tt h.4

of_letter_value : (letter : ℕ) (at : Cursor) (e : RecordFault) → LetterFails letter at e → IsOfRecords e
of_letter_value letter at e (inl h) = of_form at e h.1
of_letter_value letter at e (inr (inl h)) = of_personality at e h.1
of_letter_value letter at e (inr (inr h)) = of_lack 1 at e h.1

of_letter_values : (letters : List ℕ) (at : Cursor) (e : RecordFault) → LettersFail letters at e → IsOfRecords e
of_letter_values [] at e h = absurd h
of_letter_values (b ∷ letters) at e (inl h) = of_letter_value b at e h
of_letter_values (b ∷ letters) at e (inr h) = of_letter_values letters h.1 e h.3

of_augmentation : (letters : Option (List ℕ)) (at : Cursor) (e : RecordFault) → AugmentationFails letters at e → IsOfRecords e
of_augmentation None at e h = absurd h
of_augmentation (Some letters) at e (inl h) = of_data at e h
of_augmentation (Some letters) at e (inr h) = of_letter_values letters h.0 e h.3

of_register : (version : ℕ) (at : Cursor) (e : RecordFault) → ReturnAddressRegisterFails version at e → IsOfRecords e
of_register version at e (inl h) = of_lack 1 at e h.1
of_register version at e (inr h) = of_leb at e h.1.1

of_cie : (arch : Arch) (p : RawRecordView) (e : RecordFault) → CieFails arch p e → IsOfRecords e
of_cie arch p e (no_version h) = of_lack 1 p.body e h
of_cie arch p e (other_version version a1 byte one three h) = is (CieVersion p.body.place) e tt h
of_cie arch p e (no_string version a1 byte known h) = of_string arch a1 e h
of_cie arch p e (no_code_alignment_factor version letters a1 a2 byte known string h) = of_leb a2 e h.1
of_cie arch p e (no_data_alignment_factor version code letters a1 a2 a3 byte known string c h) = of_leb a3 e h.1
of_cie arch p e (no_return_address_register version code factor letters a1 a2 a3 a4 byte known string c f h) = of_register version a4 e h
of_cie arch p e (no_data version code register factor letters a1 a2 a3 a4 a5 byte known string c f k h) = of_augmentation letters a5 e h

of_range : (full : FullCieView) (at : Cursor) (e : RecordFault) → Lacks full.width at e ⊎ ((range : PointerField) × (after : Cursor) × PointerStands full.width range at after × (full.augmented ≡ true) × DataFails after e) → IsOfRecords e
of_range full at e (inl h) = of_lack full.width at e h
of_range full at e (inr (range, after, stands, augmented, h)) = of_data after e h

of_fde : (full : FullCieView) (p : RawRecordView) (e : RecordFault) → FdeFails full p e → IsOfRecords e
of_fde full p e (inl h) = of_lack full.width p.body e h
of_fde full p e (inr h) = of_range full h.1 e h.3

of_frame : (before : List FullCieView) (p : RawRecordView) (e : RecordFault) → FrameFails before p e → IsOfRecords e
of_frame before p e (inl h) = is (CiePointer p.id_place) e tt h.1
of_frame before p e (inr h) = of_fde h.0 p e h.3

of_entry : (arch : Arch) (before : List FullCieView) (p : RawRecordView) (e : RecordFault) → EntryFails arch before p e → IsOfRecords e
of_entry arch before p e (inl h) = of_cie arch p e h.1
of_entry arch before p e (inr h) = of_frame before p e h.1

of_split : (at : Cursor) (e : RecordFault) → RecordFails at e → IsOfRecords e
of_split at e (more, inl h) = of_lack 4 at e h
of_split at e (more, inr (within, inl h)) = is (Extended at.place) e tt h.1
of_split at e (more, inr (within, inr h)) = is (Short at.place) e tt h.3

of_from : (arch : Arch) (before : List FullCieView) (ps : List RawRecordView) (vs : List EntryView) (at : Cursor) (e : RecordFault) → FailsFrom arch before ps vs at e → IsOfRecords e
of_from arch before [] [] at e (inl h) = of_split at e h
of_from arch before [] [] at e (inr h) = of_entry arch before h.0 e h.3
of_from arch before [] (v ∷ vs) at e h = absurd h
of_from arch before (p ∷ ps) [] at e h = absurd h
of_from arch before (p ∷ ps) (v ∷ vs) at e h = of_from arch (with_cie before v) ps vs h.0 e h.3

pub of_records : (arch : Arch) (section : List ℕ) (e : RecordFault) → AreReadAs arch section (Err e) → IsOfRecords e
of_records arch section e h = of_from arch [] h.0 h.1 (start section) e h.2
