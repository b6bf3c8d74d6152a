-- Inside the crate. Entries of both kinds, as they are lent (LSB Core, "The .eh_frame section").
use Rattle.std.specs.Prelude.{◌≡◌, List, [], ◌∷◌, Option, Some, None}
use Rattle.eh_records.specs.declared.entry.Entry.{Entry}
use Rattle.eh_records.specs.declared.entry.Entry.TheVariants as entries
use Rattle.eh_records.specs.Cie.{full_cie_view}
use Rattle.eh_records.specs.Fde.{fde_view}
use Rattle.eh_records.specs.Section.{EntryView, Common, Frame}

-- the view of an entry
abbrev pub entry_view : Entry → EntryView
entry_view (entries.Common full) = Common (full_cie_view full)
entry_view (entries.Frame fde) = Frame (fde_view fde)

-- none if no entry is left, before and after; else the first entry, and the others are left
abbrev pub GivesEntry : Option Entry → List EntryView → List EntryView → Type 0
GivesEntry None before after = (before ≡ []) × (after ≡ [])
GivesEntry (Some e) before after = before ≡ entry_view e ∷ after
