-- GNU SFrame specification, Version 2, function descriptor entries and frame row entries: functions whose numbers fit the fields of an entry
-- and of rows.
use Rattle.std.specs.Prelude.{◌<◌, ◌^◌, All}
use Rattle.sf_model.specs.declared.function.Func.{Func}
use Rattle.sf_model.specs.declared.rows.Row.{Row}
use Rattle.sf_model.specs.Content.{OffsetsInRange}
use Rattle.sf_write.specs.Entry.{repeat_size}

-- the size in four bytes, the starts of its rows in four bytes, their offsets in four signed bytes, the repeat size in one byte
pub record NumbersFit (f : Func) : Type 0 where
  pub size : f.size < 2 ^ 32
  pub starts : All (λ (r : Row). r.start < 2 ^ 32) f.rows
  pub offsets : All (λ (r : Row). OffsetsInRange r.content) f.rows
  pub repeats : repeat_size f.shape < 256
