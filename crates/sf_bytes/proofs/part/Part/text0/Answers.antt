use Rattle.sf_bytes.specs.Cursor.{cursor}
use Rattle.sf_bytes.specs.Standing.{Text}
use Rattle.sf_bytes.specs.Text.{text_at}
use Rattle.sf_bytes.proofs.Answers.{answer_stands, answer_given}
use Rattle.sf_bytes.proofs.Texts.{text_takes, text_again}
use Rattle.sf_bytes.proofs.part.Part.text0.Goals as goal

pub returns-clause-found : goal.returns-clause-found
returns-clause-found c =
    answer_stands Text (λ text. text.now) c.args.self.now c.read_text.new.self c.read_text.result (text_at (cursor c.args.self.now)) c.read_text.ensures.exact (text_takes (cursor c.args.self.now))

pub returns-clause-only : goal.returns-clause-only
returns-clause-only c = λ text after stands.
    answer_given (λ lent. lent.now) c.args.self.now c.read_text.new.self c.read_text.result (text_at (cursor c.args.self.now)) text after c.read_text.ensures.exact (text_again (cursor c.args.self.now) text after stands)
