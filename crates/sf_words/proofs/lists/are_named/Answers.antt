use Rattle.std.proofs.Common.{rules, ◌≡◌, ◌<◌, ℕ, All, length, take, get_or, ap, subst, ◌∙◌, arith}
use lib.Seq.{take-length}
use Rattle.std.specs.String.{string_bytes}
use Rattle.std.proofs.lemmas.List.Elements.{All-more}
use Rattle.sf_words.proofs.lists.are_named.Goals as goal

pub loop-word-preserved : goal.loop-word-preserved
loop-word-preserved c =
    let some : 0 < length (string_bytes (get_or c.args.words.now c.loop-word.word-index c.word-item.result)) = search rules in
    All-more (λ word. 0 < length (string_bytes word)) c.args.words.now c.loop-word.word-index c.word-item.result (omega arith) c.loop-word.invariant some

pub returns-clause-all : goal.returns-clause-all
returns-clause-all c is =
    let end : c.loop-word.word-index ≡ length c.args.words.now = omega arith in
    let whole : take c.loop-word.word-index c.args.words.now ≡ c.args.words.now = ap (λ (n : ℕ). take n c.args.words.now) end ∙ take-length c.args.words.now in
    subst (All (λ word. 0 < length (string_bytes word))) whole c.loop-word.invariant
