-- GNU SFrame specification, Version 2, frame row entries: the caller's frame that was recovered, as C has it.
use Rattle.std.specs.Prelude.{Option, Some, None, is_some, unwrap_or}
use Rattle.sf_model.specs.declared.recovery.Recovered.{Recovered}
use Rattle.sf_c.specs.declared.recovering.KiblawenCaller.{KiblawenCaller}
use Rattle.sf_c.specs.Row.{flag, key_code}

-- what was recovered; a value that can't be read is 0, and is not known
abbrev pub caller_shown : Recovered → KiblawenCaller
caller_shown r = record {
  cfa = r.cfa;
  ra = unwrap_or r.ra 0;
  fp = unwrap_or r.fp 0;
  ra_known = flag (is_some r.ra);
  fp_known = flag (is_some r.fp);
  key = key_code r.signed;
}

-- what was recovered, or else what `caller` was before
abbrev pub caller_or : (before : KiblawenCaller) → Option Recovered → KiblawenCaller
caller_or before (Some r) = caller_shown r
caller_or before None = before
