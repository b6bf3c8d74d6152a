use Rattle.std.specs.Prelude.{is_some}
use Rattle.std.specs.BTreeMap as tree
use Rattle.std.specs.BTreeMap.{BTreeMap}
use Rattle.std.specs.Cmp.Lexicographic.{slice_cmp}
use Rattle.std.specs.Ordering.{nat_cmp}
use Rattle.std.proofs.Common.{◌≡◌, ℕ, ◌+◌, ◌<◌, List, [], ◌∷◌, ◌++◌, Option, Bor, get_or, length, map, take, refl, sym, ap, ◌∙◌, arith, rules}
use Rattle.std.proofs.lemmas.List.{get_or_default, length-map, length-take-le, map-append, take_more}
use Rattle.std.proofs.lemmas.Map.Text.{btree_map_updates_str}
use Rattle.sf_modules.specs.Name.{name_number}
use Rattle.sf_modules.proofs.FirstWith.{inserted, passed_over}
use Rattle.sf_modules.proofs.by_name.numbers_by_name.Goals as goal
use Rattle.sf_modules.proofs.by_name.numbers_by_name.Goals.{then-not-contains_key+in_ok-insert, else-not-contains_key}

-- what a map has at a name
abbrev held : List ℕ → BTreeMap (Bor (List ℕ)) ℕ → Option ℕ
held name numbers = tree.get_by (λ (k : Bor (List ℕ)). slice_cmp nat_cmp name k.now) numbers

abbrev texts : List (Bor (List ℕ)) → List (List ℕ)
texts names = map (λ (n : Bor (List ℕ)). n.now) names

more_texts : (names : List (Bor (List ℕ))) (i : ℕ) (n : Bor (List ℕ)) → i < length names → n ≡ get_or names i n → texts (take (i + 1) names) ≡ texts (take i names) ++ n.now ∷ []
more_texts names i n lt is =
    ap texts (take_more names i n lt) ∙ map-append (λ (n : Bor (List ℕ)). n.now) (take i names) (get_or names i n ∷ [])
    ∙ ap (λ (x : Bor (List ℕ)). texts (take i names) ++ x.now ∷ []) (sym is)

texts_count : (names : List (Bor (List ℕ))) (i : ℕ) → i < length names → i ≡ length (texts (take i names))
texts_count names i lt = sym (length-map (take i names) (λ (n : Bor (List ℕ)). n.now) ∙ length-take-le i names (omega (lt, arith)))

pub loop-number-preserved : goal.loop-number-preserved
loop-number-preserved c = λ name.
    let names = c.args.names.now in
    let item : Bor (List ℕ) = get_or c.args.names.now c.loop-number.number (record { ref_ptr = (0, 0); now = [] }) in
    let count : c.in-Ok.count ≡ length c.args.names.now = search rules in
    let within : c.loop-number.number < length c.args.names.now = omega (c.loop-number-test.true, count, arith) in
    let own = item.now in
    let i = c.loop-number.number in
    let old = texts (take i names) in
    let inv = c.loop-number.invariant in
    let there : is_some (name_number own old) ≡ is_some (held own c.loop-number.numbers) = ap (λ (o : Option ℕ). is_some o) (sym (inv own)) in
    let more = ap (name_number name) (sym (more_texts names i item within (get_or_default names i _ item within))) in
    elim c.if-not-contains_key.branch [
      | then-not-contains_key+in_ok-insert w ↦
          ap (λ (m : BTreeMap (Bor (List ℕ)) ℕ). held name m) w.numbers-is
          ∙ btree_map_updates_str own c.loop-number.numbers w.insert.new.self _ w.in_ok-insert.ensures.updates name
          ∙ inserted name own old own i (held name c.loop-number.numbers) (texts_count names i within) refl (there ∙ sym w.if-not-contains_key.ensures) (inv name)
          ∙ more
      | else-not-contains_key w ↦
          ap (λ (m : BTreeMap (Bor (List ℕ)) ℕ). held name m) w.numbers-is
          ∙ inv name ∙ passed_over name own old own refl (there ∙ sym w.if-not-contains_key.ensures) ∙ more
    ]
