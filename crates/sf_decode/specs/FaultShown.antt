-- What the line of a refused section shows: the fault's number and name, and the place in the section.
use Rattle.std.specs.Prelude.{ℕ, Bool, Option, codes, nat_le, slice_index_or}
use Rattle.sf_model.specs.declared.notice.Group.TheVariants as group
use Rattle.sf_model.specs.FaultShown.{FaultShown, ShownFault, fault_at}
use Rattle.sf_decode.specs.declared.fault.DecodeFault.{DecodeFault}
use Rattle.sf_decode.specs.declared.fault.DecodeFault.TheVariants.{Short, Magic, Version, Flags, Abi, FixedOffset, Layout, Count, RowType, Reserved, RepeatZero, OffsetCount, OffsetSize, RowOrder, Unsorted, Overlap, AddressRange, TooManyFunctions, TooManyRows}

abbrev pub shown_section : DecodeFault → ShownFault
shown_section (Short place) = fault_at group.Section 1 (codes "Short") place
shown_section (Magic place) = fault_at group.Section 2 (codes "Magic") place
shown_section (Version place) = fault_at group.Section 3 (codes "Version") place
shown_section (Flags place) = fault_at group.Section 4 (codes "Flags") place
shown_section (Abi place) = fault_at group.Section 5 (codes "Abi") place
shown_section (FixedOffset place) = fault_at group.Section 6 (codes "FixedOffset") place
shown_section (Layout place) = fault_at group.Section 7 (codes "Layout") place
shown_section (Count place) = fault_at group.Section 8 (codes "Count") place
shown_section (RowType place) = fault_at group.Section 9 (codes "RowType") place
shown_section (Reserved place) = fault_at group.Section 10 (codes "Reserved") place
shown_section (RepeatZero place) = fault_at group.Section 11 (codes "RepeatZero") place
shown_section (OffsetCount place) = fault_at group.Section 12 (codes "OffsetCount") place
shown_section (OffsetSize place) = fault_at group.Section 13 (codes "OffsetSize") place
shown_section (RowOrder place) = fault_at group.Section 14 (codes "RowOrder") place
shown_section (Unsorted place) = fault_at group.Section 15 (codes "Unsorted") place
shown_section (Overlap place) = fault_at group.Section 16 (codes "Overlap") place
shown_section (AddressRange place) = fault_at group.Section 17 (codes "AddressRange") place
shown_section (TooManyFunctions place) = fault_at group.Section 18 (codes "TooManyFunctions") place
shown_section (TooManyRows place) = fault_at group.Section 19 (codes "TooManyRows") place

-- the number of a fault, and its place in the section
abbrev pub number_of : DecodeFault → ℕ
number_of fault = (shown_section fault).number

abbrev pub place_of : DecodeFault → ℕ
place_of fault = slice_index_or (shown_section fault).values 0 0

-- the section is malformed, and not just past a limit
abbrev pub is_refusal : DecodeFault → Bool
is_refusal fault = nat_le (number_of fault) 17

-- the fault of this item's section, as its line shows it
abbrev pub shown_of_section : Option ℕ → DecodeFault → FaultShown
shown_of_section item fault = record { item = item; fault = shown_section fault }
