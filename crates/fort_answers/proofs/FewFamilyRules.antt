-- A system of a family whose sides are low has few rules, and few patterns within their sides.
use Rattle.std.proofs.Common.{◌≡◌, ℕ, zero, suc, ◌*◌, ◌^◌, ◌≤◌, List, [], ◌∷◌, length, map, Some, sym, ◌∙◌, subst, arith, length-append}
use Rattle.std.specs.Prelude.{flat_map}
use Rattle.std.specs.List.{AllByRecursion}
use Rattle.std.proofs.lemmas.List.{length-map}
use Rattle.std.proofs.lemmas.List.Elements.{recursion_from_All}
use Rattle.fort_theory.specs.Signatures.{Signature, arity_of}
use Rattle.fort_theory.specs.Sides.{at_index}
use Rattle.fort_theory.specs.Patterns.{Pattern, Pair, pattern_of, pattern_pair, pattern_system}
use Rattle.fort_theory.specs.PatternOrder.{subpatterns}
use Rattle.fort_answers.specs.FamilyRules.{FamilyRule, IsFamilyRule}
use Rattle.fort_answers.specs.FamilySystems.{ground_side, rule_of, system_of, IsCandidate}
use Rattle.fort_answers.proofs.FamilySides.{pattern_of-side_from}
use Rattle.fort_answers.proofs.FamilySizes.{subpatterns-few, fits_ground, height_ground}
use Rattle.fort_parts.specs.DecidedCores.{AreFewRules}
use Rattle.fort_answers.proofs.FewPatterns.{few_subpatterns}

-- the pairs of patterns of these rules
abbrev pub pairs_of : List FamilyRule → List Pair
pairs_of rules = map pattern_pair (map rule_of rules)

none_few : AreFewRules []
none_few = record {
  rules = omega arith;
  lefts = λ ps ordered. let within = few_subpatterns [] ps ordered in omega (arith, within);
  rights = λ ps ordered. let within = few_subpatterns [] ps ordered in omega (arith, within);
}

module _ (sig : Signature) (few : (f n : ℕ) → arity_of sig f ≡ Some n → n ≤ 8) (height : ℕ) (low : height ≤ 2) where
  abbrev IsSmall : Pattern → Type 0
  IsSmall p = length (subpatterns p) ≤ 81

  power_low : (h : ℕ) → h ≤ 2 → 9 ^ h ≤ 81
  power_low zero below = omega arith
  power_low (suc zero) below = omega arith
  power_low (suc (suc zero)) below = omega arith
  power_low (suc (suc (suc h))) below = absurd (omega arith)

  left_small : (r : FamilyRule) → IsFamilyRule sig height r → IsSmall (pattern_pair (rule_of r)).0
  unfolding rule_of
  left_small r is =
      subst IsSmall (sym (pattern_of-side_from 0 r.0))
      (let own = subpatterns-few sig few height r.0 is.left is.left_low in let power = power_low height low in omega (arith, own, power))

  right_small : (r : FamilyRule) → IsFamilyRule sig height r → IsSmall (pattern_pair (rule_of r)).1
  unfolding rule_of
  right_small r is =
      let high = height_ground r.1 in
      let right_low = is.right_low in
      let own = subpatterns-few sig few height (pattern_of (ground_side r.1)) (fits_ground sig r.1 is.right) (omega (arith, high, right_low)) in
      let power = power_low height low in
      omega (arith, own, power)

  -- so many within all of them
  all_small : (pick : Pair → Pattern) → ((r : FamilyRule) → IsFamilyRule sig height r → IsSmall (pick (pattern_pair (rule_of r))))
      → (rules : List FamilyRule) → AllByRecursion (IsFamilyRule sig height) rules
      → length (flat_map subpatterns (map pick (pairs_of rules))) ≤ length rules * 81
  all_small pick one [] all = omega arith
  all_small pick one (r ∷ rs) all =
      let here = one r all.0 in
      let there = all_small pick one rs all.1 in
      let e = length-append (subpatterns (pick (pattern_pair (rule_of r)))) (flat_map subpatterns (map pick (pairs_of rs))) in
      omega (arith, here, there, e)

  module _ (count : ℕ) (small : count ≤ 4) (rules : List FamilyRule) (is : IsCandidate sig height count rules) where
    all : AllByRecursion (IsFamilyRule sig height) rules
    all = recursion_from_All (IsFamilyRule sig height) rules is.are

    pairs_few : AreFewRules (pairs_of rules)
    pairs_few = record {
      rules = let number = is.number in let e = length-map (map rule_of rules) pattern_pair ∙ length-map rules rule_of in omega (arith, small, number, e);
      lefts =
          λ ps ordered.
          let within = few_subpatterns (map (λ (pair : Pair). pair.0) (pairs_of rules)) ps ordered in
          let own = all_small (λ pair. pair.0) left_small rules all in
          let number = is.number in
          omega (arith, within, own, small, number);
      rights =
          λ ps ordered.
          let within = few_subpatterns (map (λ (pair : Pair). pair.1) (pairs_of rules)) ps ordered in
          let own = all_small (λ pair. pair.1) right_small rules all in
          let number = is.number in
          omega (arith, within, own, small, number);
    }

    -- Result: of each index
    pub AreFewRules-family : (index : ℕ) → AreFewRules (at_index index (pattern_system (system_of sig rules)).rules)
    unfolding system_of
    AreFewRules-family zero = none_few
    AreFewRules-family (suc zero) = pairs_few
    AreFewRules-family (suc (suc index)) = none_few
