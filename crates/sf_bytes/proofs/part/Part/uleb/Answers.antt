use Rattle.sf_bytes.specs.Cursor.{cursor}
use Rattle.sf_bytes.specs.Leb.{Uleb, uleb_at}
use Rattle.sf_bytes.proofs.Answers.{answer_stands, answer_given, answer_is}
use Rattle.sf_bytes.proofs.Lebs.{uleb_takes, uleb_again}
use Rattle.sf_bytes.proofs.part.Part.uleb.Goals as goal

pub returns-clause-found : goal.returns-clause-found
returns-clause-found c =
    answer_stands Uleb (λ x. x) c.args.self.now c.read_uleb.new.self c.read_uleb.result (uleb_at (cursor c.args.self.now)) c.read_uleb.ensures.exact (uleb_takes (cursor c.args.self.now))

pub returns-clause-only : goal.returns-clause-only
returns-clause-only c = λ v after stands.
    let h = answer_given (λ x. x) c.args.self.now c.read_uleb.new.self c.read_uleb.result (uleb_at (cursor c.args.self.now)) v after c.read_uleb.ensures.exact (uleb_again (cursor c.args.self.now) v after stands) in
    (answer_is c.read_uleb.result v h.0, h.1)
