use Rattle.std.proofs.Common.{◌<◌, ◌++◌, take, length, rules}
use Rattle.sf_base.specs.Contents.{contents_of}
use Rattle.sf_fakes.specs.Pairs.{pairs_of, name_at}
use Rattle.sf_fakes.proofs.Lookups.{grew, created_kept}
use Rattle.sf_fakes.proofs.mem_files.MemFilesFiles.write.Goals as goal

pub returns-in-Ok-clause-grows : goal.returns-in-Ok-clause-grows
returns-in-Ok-clause-grows c =
    grew (pairs_of c.args.self.now.files.items) (pairs_of c.append_file.new.files.items) c.args.self.now.created c.in-Some.place (take c.min-n.result c.args.piece.now) c.in-Some.is c.in-Ok.ensures.ok

pub returns-in-Ok-clause-created_name : goal.returns-in-Ok-clause-created_name
returns-in-Ok-clause-created_name c =
    let files = c.args.self.now.files.items in
    let name = name_at (pairs_of files) c.in-Some.place in
    let below : c.in-Some.place < length files = search rules in
    created_kept files (pairs_of c.append_file.new.files.items) c.args.self.now.created c.in-Some.place name
    (contents_of (pairs_of files) name ++ take c.min-n.result c.args.piece.now) c.in-Some.is below c.in-Ok.ensures.ok
