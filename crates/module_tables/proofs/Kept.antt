-- Rules that are kept stay those of the initial instructions that have their numbers.
use Rattle.std.specs.BTreeMap.{BTreeMap, Updates, get}
use Rattle.std.specs.Option.{ForSome}
use Rattle.std.specs.Ordering.{is_eq, nat_cmp}
use Rattle.std.proofs.Common.{◌≡◌, ℕ, Bool, true, false, cond, List, Option, Some, refl, sym, subst, arith}
use Rattle.std.proofs.lemmas.Bool.Decides.{nat_tests}
use Rattle.frame_functions.specs.Descriptions.{Common}
use Rattle.signal_frames.specs.declared.rules.InitialRules.{InitialRules}
use Rattle.module_tables.specs.Rules.{AreRulesAt}

-- each rule of a map is that of its number
abbrev pub AreAt : List Common → BTreeMap ℕ InitialRules → Type 0
AreAt commons rules = (number : ℕ) → ForSome (get nat_cmp rules number) (AreRulesAt commons number)

same_number : (p q : ℕ) → is_eq (nat_cmp p q) ≡ true → p ≡ q
same_number p q h = grind (arith, nat_tests)

some_same : (x y : InitialRules) → Some x ≡ Some y → x ≡ y
some_same x y e = cc

with_one : (commons : List Common) (p q : ℕ) (rules : InitialRules) (before : Option InitialRules) (b : Bool) → (b ≡ true → p ≡ q) → AreRulesAt commons p rules → ForSome before (AreRulesAt commons q)
    → ForSome (cond b (Some rules) before) (AreRulesAt commons q)
with_one commons p q rules before true is own others = λ x e. subst (AreRulesAt commons q) (some_same rules x e) (subst (λ (n : ℕ). AreRulesAt commons n rules) (is refl) own)
with_one commons p q rules before false is own others = others

pub with_rules : (commons : List Common) (p : ℕ) (rules : InitialRules) (old new : BTreeMap ℕ InitialRules) → AreAt commons old → Updates nat_cmp old new p (Some rules) → AreRulesAt commons p rules → AreAt commons new
with_rules commons p rules old new are updates own = λ q.
    subst (λ (o : Option InitialRules). ForSome o (AreRulesAt commons q)) (sym (updates.0 q))
    (with_one commons p q rules (get nat_cmp old q) (is_eq (nat_cmp p q)) (same_number p q) own (are q))
