use Rattle.std.proofs.Common.{◌≡◌, ◌++◌, ◌<◌, ℕ, List, map, length, take, ap, subst, ◌∙◌, arith}
use lib.Seq.{take-length}
use Rattle.std.specs.String.{string_bytes}
use Rattle.sf_words.specs.Items.{item_of}
use Rattle.sf_words.proofs.ItemLists.{item_more}
use Rattle.sf_words.proofs.NamedWords.{named_count}
use Rattle.sf_words.proofs.files.push_files.Goals as goal

pub loop-index-preserved : goal.loop-index-preserved
loop-index-preserved g c named =
    let word = g.F.FileWord in
    let said = word.said c.file_at.result in
    let lt : c.loop-index.index < length named.0 = subst (λ (n : ℕ). c.loop-index.index < n) (named_count string_bytes word.Says c.args.words.now named) (omega arith) in
    item_more word.item_said named.0 c.loop-index.index said c.args.items.now.items c.loop-index.items.items c.push.new.self.items _ lt (c.item.ensures ∙ ap word.item_said (c.file_at.ensures named said)) c.in_ok-push.ensures.items (c.loop-index.invariant named)

pub returns : goal.returns
returns g c named =
    let word = g.F.FileWord in
    let end : c.loop-index.index ≡ length named.0 = subst (λ (n : ℕ). c.loop-index.index ≡ n) (named_count string_bytes word.Says c.args.words.now named) (omega arith) in
    c.loop-index.invariant named
    ∙ ap (λ (files : List word.Said). map item_of c.args.items.now.items ++ map word.item_said files) (ap (λ (n : ℕ). take n named.0) end ∙ take-length named.0)
