use Rattle.sf_bytes.specs.Cursor.{cursor}
use Rattle.sf_bytes.specs.Leb.{Sleb, sleb_at}
use Rattle.sf_bytes.proofs.Answers.{answer_stands, answer_given, answer_is}
use Rattle.sf_bytes.proofs.Lebs.{sleb_takes, sleb_again}
use Rattle.sf_bytes.proofs.part.Part.sleb.Goals as goal

pub returns-clause-found : goal.returns-clause-found
returns-clause-found c =
    answer_stands Sleb (λ x. x) c.args.self.now c.read_sleb.new.self c.read_sleb.result (sleb_at (cursor c.args.self.now)) c.read_sleb.ensures.exact (sleb_takes (cursor c.args.self.now))

pub returns-clause-only : goal.returns-clause-only
returns-clause-only c = λ v after stands.
    let h = answer_given (λ x. x) c.args.self.now c.read_sleb.new.self c.read_sleb.result (sleb_at (cursor c.args.self.now)) v after c.read_sleb.ensures.exact (sleb_again (cursor c.args.self.now) v after stands) in
    (answer_is c.read_sleb.result v h.0, h.1)
