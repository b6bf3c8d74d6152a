use Rattle.std.proofs.Common.{◌≡◌, ℕ, List, All, length, take, get_or, ap, sym, subst, ◌∙◌, arith}
use lib.Seq.{take-length}
use Rattle.std.specs.String.{string_bytes}
use Rattle.std.proofs.lemmas.List.Elements.{All-more}
use Rattle.sf_words.proofs.NamedWords.{named_at, found_thing, must_find}
use Rattle.sf_words.proofs.lists.are_files.Goals as goal

pub returns-then-is_none-clause-only : goal.returns-then-is_none-clause-only
returns-then-is_none-clause-only g c files h =
    let named = named_at string_bytes g.F.FileWord.Says c.args.words.now files c.loop-word.word-index c.word-item.result h (omega arith) in
    let word : c.deref.result.now ≡ string_bytes (get_or c.args.words.now c.loop-word.word-index c.word-item.result) = c.deref.ensures ∙ ap string_bytes c.word-item.is in
    let found = c.read.ensures.only named.0 (subst (λ (w : List ℕ). g.F.FileWord.Says w named.0) (sym word) named.1) in
    absurd (must_find _ c.read.result c.if-is_none.ensures found)

pub loop-word-preserved : goal.loop-word-preserved
loop-word-preserved g c =
    let word : c.deref.result.now ≡ string_bytes (get_or c.args.words.now c.loop-word.word-index c.word-item.result) = c.deref.ensures ∙ ap string_bytes c.word-item.is in
    let thing = found_thing c.deref.result.now g.F.FileWord.Says g.F.FileWord.said c.read.result c.if-is_none.ensures c.read.ensures.found in
    All-more (λ word. (file : g.F.FileWord.Said) × g.F.FileWord.Says (string_bytes word) file) c.args.words.now c.loop-word.word-index c.word-item.result (omega arith) c.loop-word.invariant
    (thing.0, subst (λ (w : List ℕ). g.F.FileWord.Says w thing.0) word thing.1)

pub returns-clause-all : goal.returns-clause-all
returns-clause-all g c is =
    let end : c.loop-word.word-index ≡ length c.args.words.now = omega arith in
    let whole : take c.loop-word.word-index c.args.words.now ≡ c.args.words.now = ap (λ (n : ℕ). take n c.args.words.now) end ∙ take-length c.args.words.now in
    subst (All (λ word. (file : g.F.FileWord.Said) × g.F.FileWord.Says (string_bytes word) file)) whole c.loop-word.invariant
