-- The functions that are omitted, and procedure linkage tables, as C has them: the fields of the report's lines.
use Rattle.std.specs.Prelude.{ℕ, List, ◌++◌, length, map, take, drop, is_some, unwrap_or, Bool, true, false}
use Rattle.sf_model.specs.declared.omission.Reason.{Reason}
use Rattle.sf_model.specs.declared.omission.Reason.TheVariants.{EmptyRange, SizeTooLarge, ReturnColumn, SignalFrame, NoCfa, CfaExpression, CfaRegister, CfaOffset, SpRule, RaRule, RaOffset, FpRule, FpOffset, FpWithoutRa, SignState}
use Rattle.sf_model.specs.declared.omission.Omitted.{Omitted}
use Rattle.sf_model.specs.declared.omission.Span.{Span}
use Rattle.sf_link_c.specs.declared.omissions.KiblawenOmission.{KiblawenOmission}
use Rattle.sf_link_c.specs.declared.omissions.KiblawenPlt.{KiblawenPlt}

-- the header's number of a reason
abbrev pub reason_number : Reason → ℕ
reason_number EmptyRange = 1
reason_number SizeTooLarge = 2
reason_number ReturnColumn = 3
reason_number SignalFrame = 4
reason_number NoCfa = 5
reason_number CfaExpression = 6
reason_number CfaRegister = 7
reason_number CfaOffset = 8
reason_number SpRule = 9
reason_number RaRule = 10
reason_number RaOffset = 11
reason_number FpRule = 12
reason_number FpOffset = 13
reason_number FpWithoutRa = 14
reason_number SignState = 15

-- the header's number of a test
abbrev pub flag : Bool → ℕ
flag false = 0
flag true = 1

-- an omitted function, as C has it
abbrev pub omission_shown : Omitted → KiblawenOmission
omission_shown omitted = record {
  start = omitted.start;
  size = omitted.size;
  input = omitted.origin.item;
  section = omitted.origin.section;
  place = omitted.origin.place;
  reason = reason_number omitted.omission.reason;
  has_offset = flag (is_some omitted.omission.offset);
  offset = unwrap_or omitted.omission.offset 0;
}

-- a procedure linkage table, as C has it
abbrev pub plt_shown : Span → KiblawenPlt
plt_shown plt = record { start = plt.start; size = plt.size; input = plt.origin.item; section = plt.origin.section; place = plt.origin.place }

-- a room after these items were written to it: as many as there is room for, and then what was there before
abbrev pub listed : {A B : Type 0} → (shown : A → B) → List A → (before : List B) → List B
listed shown items before = map shown (take (length before) items) ++ drop (length items) before
