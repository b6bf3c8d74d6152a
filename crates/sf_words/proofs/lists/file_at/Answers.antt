use Rattle.std.proofs.Common.{◌≡◌, ℕ, List, get_or, ap, sym, subst, ◌∙◌}
use Rattle.std.specs.Coded.{Coded-set}
use Rattle.std.specs.String.{string_bytes}
use Rattle.sf_words.proofs.NamedWords.{named_at, thing_at}
use Rattle.sf_words.proofs.lists.file_at.Goals as goal
use mathlib.Core.Logic.{∥∥₁_elim}

pub unreachable-requires : goal.unreachable-requires
unreachable-requires g c =
    let says = g.F.FileWord.Says in
    let word : c.deref.result.now ≡ string_bytes (get_or c.args.words.now c.args.index c.index-words-index.result) = c.deref.ensures ∙ ap string_bytes c.index-words-index.is in
    ∥∥₁_elim c.requires.named.1 (λ x y. absurd x) (λ h.
    let named = named_at string_bytes says c.args.words.now c.requires.named.0 c.args.index c.index-words-index.result h c.requires.within in
    c.in-None.ensures.only named.0 (subst (λ (w : List ℕ). says w named.0) (sym word) named.1))

pub returns : goal.returns
returns g c named other =
    let says = g.F.FileWord.Says in
    let word : c.deref.result.now ≡ string_bytes (get_or c.args.words.now c.args.index c.index-words-index.result) = c.deref.ensures ∙ ap string_bytes c.index-words-index.is in
    ∥∥₁_elim named.1 (Coded-set g.F.FileWord.said_code _ _) (λ h.
    c.in-Some.ensures.only (get_or named.0 c.args.index other) (subst (λ (w : List ℕ). says w (get_or named.0 c.args.index other)) (sym word)
    (thing_at string_bytes says c.args.words.now named.0 c.args.index c.index-words-index.result other h c.requires.within)))
