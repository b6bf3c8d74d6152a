use Rattle.std.proofs.Common.{◌≡◌, ℕ, length, sym, ap, ◌∙◌}
use Rattle.sf_decode.specs.View.{section_bytes, table_of}
use Rattle.sf_text.specs.Slim.{slim_text}
use Rattle.section_commands.proofs.SlimComes.{slimmed_comes, unslimmed_comes}
use Rattle.section_commands.proofs.slim.slim_made.Goals as goal

pub returns-in_ok-text-in-Ok-slim : goal.returns-in_ok-text-in-Ok-slim
returns-in_ok-text-in-Ok-slim c =
    let made = c.in-Ok-slim.made in
    let after : c.len.result ≡ length made.section.items = c.len.ensures ∙ made.section.ok.0 in
    let text = c.in_ok-text-in-Ok-slim.ensures ∙ ap (λ (n : ℕ). slim_text (length c.args.bytes.now) n made.functions made.rows) after in
    slimmed_comes c.args.from c.args.at c.args.bytes.now (section_bytes c.in-Ok.view) (table_of c.in-Ok.view) made.section.items c.in_ok-text-in-Ok-slim.text.items made.functions made.rows
    c.in-Ok.ensures.bytes (sym c.in-Ok.ensures.exact) c.in-Ok.ensures.sound c.in-Ok-slim.ensures.slimmed text

pub returns-in-Err-slim : goal.returns-in-Err-slim
returns-in-Err-slim c =
    unslimmed_comes c.args.from c.args.at c.args.bytes.now (section_bytes c.in-Ok.view) (table_of c.in-Ok.view) c.in-Err-slim.fault c.unslimmed.result
    c.in-Ok.ensures.bytes (sym c.in-Ok.ensures.exact) c.in-Ok.ensures.sound c.in-Err-slim.ensures.fault c.unslimmed.ensures.memory c.unslimmed.ensures.is
