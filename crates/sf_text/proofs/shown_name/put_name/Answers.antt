use Rattle.std.proofs.Common.{◌≡◌, ◌++◌, List, ℕ, [], refl, sym, ap, subst, ◌∙◌}
use Rattle.std.proofs.lemmas.Result.{err_from_is_err_and, on_err_weaker, on_ok_weaker}
use Rattle.std.proofs.lemmas.Str.{IsUtf8-past_char, chars_past_char}
use Rattle.std.specs.Char.{encode_utf8}
use Rattle.std.specs.List.{flat_map}
use Rattle.std.specs.Str.{chars, IsUtf8}
use Rattle.std.specs.Str.Iter.{chars_rest}
use Rattle.sf_base.specs.Written.{Appends, AppendsPrefix}
use Rattle.sf_text.specs.Gathered.{Gathers}
use Rattle.sf_text.specs.ShownName.{shown_character, shown_name}
use Rattle.sf_text.proofs.Appended.{gathers_all, gathers_both, gathers_none, gathers_pushed, gathers_some, gathers_stop}
use Rattle.sf_text.proofs.Pieces.{all_texts, one_more_text, texts_with}
use Rattle.sf_text.proofs.ShownNames.{no_characters, shown_is}
use Rattle.sf_text.proofs.shown_name.put_name.Goals as goal

pub loop-character-init : goal.loop-character-init
loop-character-init g c =
    let told = (g.S.Sink.seen c.args.sink.now).written in
    let rest : chars_rest c.into_iter-character-iterator.result ≡ c.args.name.now = cc in
    record {
      utf8 = subst (λ (bytes : List ℕ). IsUtf8 bytes) (sym rest) c.utf8.name;
      gathered = subst (λ (held : List ℕ). Gathers told told [] held []) (sym c.new-buffer.ensures) (gathers_none told []);
      left = ap (λ (bytes : List ℕ). flat_map shown_character (chars bytes)) rest ∙ shown_is c.args.name.now;
      faults = refl;
    }

pub loop-character-preserved : goal.loop-character-preserved
loop-character-preserved g c =
    let before = (g.S.Sink.seen c.args.sink.now).written in
    let between = (g.S.Sink.seen c.loop-character.sink).written in
    let after = (g.S.Sink.seen c.make_room.new.sink).written in
    let so_far = c.loop-character.invariant in
    let shown = c.loop-character.yielded in
    let character = c.in-Some.character in
    let rest = chars_rest c.loop-character.character-iterator in
    let left = chars_rest c.next.new.self in
    let next : rest ≡ encode_utf8 character ++ left = c.in-Some.ensures.steps.0 in
    let pushed = gathers_pushed between after c.loop-character.buffer.items c.make_room.new.buffer.items c.push_character.new.buffer.items (shown_character character) c.in_ok-make_room.ensures.all c.push_character.ensures in
    record {
      utf8 = IsUtf8-past_char rest left character so_far.utf8 next;
      gathered = subst (λ (bs : List ℕ). Gathers before after [] c.push_character.new.buffer.items bs) (texts_with shown_character shown character)
          (gathers_both before between after [] c.loop-character.buffer.items c.push_character.new.buffer.items (flat_map shown_character shown) (shown_character character) so_far.gathered pushed);
      left = one_more_text shown_character shown (chars left) (chars rest) character (shown_name c.args.name.now) (chars_past_char rest left character so_far.utf8 next) so_far.left;
      faults = c.in_ok-make_room.ensures.cause.done refl ∙ so_far.faults;
    }

pub returns-in_err-make_room-clause-prefix : goal.returns-in_err-make_room-clause-prefix
returns-in_err-make_room-clause-prefix g c =
    let p = err_from_is_err_and c.from_residual.result c.from_residual.ensures.1 in
    let before = (g.S.Sink.seen c.args.sink.now).written in
    let between = (g.S.Sink.seen c.loop-character.sink).written in
    let after = (g.S.Sink.seen c.make_room.new.sink).written in
    let so_far = c.loop-character.invariant in
    let shown = flat_map shown_character c.loop-character.yielded in
    let left = flat_map shown_character (chars (chars_rest c.loop-character.character-iterator)) in
    rw p.1 (gathers_stop before between after [] c.loop-character.buffer.items shown left (shown_name c.args.name.now) so_far.gathered c.in_err-make_room.ensures.prefix so_far.left)

pub returns-clause-all : goal.returns-clause-all
returns-clause-all g c =
    let before = (g.S.Sink.seen c.args.sink.now).written in
    let between = (g.S.Sink.seen c.loop-character.sink).written in
    let after = (g.S.Sink.seen c.put_all.new.sink).written in
    let so_far = c.loop-character.invariant in
    let shown = c.loop-character.yielded in
    let rest = chars_rest c.loop-character.character-iterator in
    let all = all_texts shown_character shown (chars rest) (shown_name c.args.name.now) (no_characters rest c.in-None.ensures.steps.0.0) so_far.left in
    on_ok_weaker c.put_all.result (λ h. subst (λ (bs : List ℕ). Appends before after bs) all
    (gathers_all before between after [] c.loop-character.buffer.items (flat_map shown_character shown) so_far.gathered
    (subst (λ (bs : List ℕ). Appends between after bs) c.as_slice.ensures.value h))) c.put_all.ensures.all

pub returns-clause-prefix : goal.returns-clause-prefix
returns-clause-prefix g c =
    let before = (g.S.Sink.seen c.args.sink.now).written in
    let between = (g.S.Sink.seen c.loop-character.sink).written in
    let after = (g.S.Sink.seen c.put_all.new.sink).written in
    let so_far = c.loop-character.invariant in
    let shown = c.loop-character.yielded in
    let rest = chars_rest c.loop-character.character-iterator in
    let all = all_texts shown_character shown (chars rest) (shown_name c.args.name.now) (no_characters rest c.in-None.ensures.steps.0.0) so_far.left in
    on_err_weaker c.put_all.result (λ h. subst (λ (bs : List ℕ). AppendsPrefix before after bs) all
    (gathers_some before between after [] c.loop-character.buffer.items (flat_map shown_character shown) so_far.gathered
    (subst (λ (bs : List ℕ). AppendsPrefix between after bs) c.as_slice.ensures.value h))) c.put_all.ensures.prefix
