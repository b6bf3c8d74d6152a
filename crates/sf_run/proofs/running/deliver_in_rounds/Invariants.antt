use Rattle.std.proofs.Common.{◌≡◌}
use Rattle.sf_run.specs.Commands.{words_of}
use Rattle.sf_run.specs.Ends.{IsLoadedFor, Seen, seen}
use Rattle.sf_run.proofs.running.deliver_in_rounds.Given as goal

-- the files are loaded, and nothing else has changed
abbrev pub invariant-loop-round : goal.invariant-loop-round
invariant-loop-round g l =
    let files = g.F.Files in
    let before : Seen = seen (files.seen l.fn.files) (g.O.Sink.seen l.fn.out) (g.E.Sink.seen l.fn.err) in
    record {
      loaded : IsLoadedFor (words_of l.command) ((files.seen l.fn.files).contents) l.loaded.items;
      left : seen (files.seen l.files) (g.O.Sink.seen l.out) (g.E.Sink.seen l.err) ≡ before;
      may_open : files.may_open l.files ≡ files.may_open l.fn.files;
      may_create : files.may_create l.files ≡ files.may_create l.fn.files;
    }
