-- A row's length is that of its bytes.
use Rattle.std.proofs.Common.{◌≡◌, ℕ, length}
use Rattle.sf_model.specs.declared.content.Content.{Content}
use Rattle.sf_model.specs.RowBytes.{spelled_row}
use Rattle.sf_model.proofs.SpelledLengths.{length-spelled_row}
use Rattle.sf_sizes.specs.RowLength.{offset_width, row_at, row_len}

pub spelled_is : (kind : ℕ) (content : Content) (start : ℕ) → length (spelled_row kind (offset_width content) (row_at start content)) ≡ row_len kind content
spelled_is kind content start = length-spelled_row kind (offset_width content) (row_at start content)
