use Rattle.std.proofs.Common.{append-nil}
use Rattle.sf_bytes.specs.Cursor.{cursor}
use Rattle.core_notes.specs.Listing.{notes_from}
use Rattle.core_notes.proofs.notes.Notes.of_segment.Goals as goal

pub returns : goal.returns
returns c = append-nil (notes_from (cursor c.args.rest))
