-- A family's rules are linear and variable-separated: the variables of a left side are numbered in a row, and a right side has none.
use Rattle.std.proofs.Common.{◌≡◌, ℕ, zero, suc, ◌+◌, ◌<◌, [], ◌∷◌, ◌++◌, refl, sym, ap, subst, ◌∙◌, arith}
use Rattle.std.specs.Prelude.{Contains, nat_eq, false, get_or}
use Rattle.std.proofs.lemmas.Bool.Decides.{nat_tests}
use Rattle.std.proofs.lemmas.Map.Keys.{IsDistinct-from_apart}
use Rattle.std.proofs.lemmas.List.FromFn.{length-range_with_len, get_or-range_with_len}
use Rattle.std.specs.List.{IsDistinct, range_with_len}
use Rattle.fort_theory.specs.Trees.{Tree, Trees, Node, Nil, More}
use Rattle.fort_theory.specs.Sides.{variables, variables_among, IsLinearSeparated}
use Rattle.fort_theory.specs.Patterns.{Pattern, Patterns, Any, At, NoPattern, MorePatterns}
use Rattle.fort_theory.proofs.Members.{Contains-none}
use Rattle.fort_answers.specs.FamilyRules.{FamilyRule}
use Rattle.fort_answers.specs.FamilySystems.{any_count, any_counts, side_from, sides_from, ground_side, ground_sides, rule_of}

range-plus : (v m n : ℕ) → range_with_len v (m + n) ≡ range_with_len v m ++ range_with_len (v + m) n
range-plus v zero n = (let none : 0 + n ≡ n = omega arith in let start : v ≡ v + 0 = omega arith in λ i. range_with_len (start i) (none i))
range-plus v (suc m) n =
    let one : suc m + n ≡ suc (m + n) = omega arith in
    let start : v + 1 + m ≡ v + suc m = omega arith in
    ap (range_with_len v) one ∙ (ap (λ xs. v ∷ xs) (range-plus (v + 1) m n) ∙ ap (λ k. v ∷ (range_with_len (v + 1) m ++ range_with_len k n)) start)

mutual
  pub variables-side_from : (v : ℕ) (p : Pattern) → variables (side_from v p) ≡ range_with_len v (any_count p)
  variables-side_from v Any = refl
  variables-side_from v (At f ps) = variables-sides_from v ps

  variables-sides_from : (v : ℕ) (ps : Patterns) → variables_among (sides_from v ps) ≡ range_with_len v (any_counts ps)
  variables-sides_from v NoPattern = refl
  variables-sides_from v (MorePatterns p ps) =
      (λ i. variables-side_from v p i ++ variables-sides_from (v + any_count p) ps i) ∙ sym (range-plus v (any_count p) (any_counts ps))

mutual
  pub variables-ground_side : (t : Tree) → variables (ground_side t) ≡ []
  variables-ground_side (Node f ts) = variables-ground_sides ts

  variables-ground_sides : (ts : Trees) → variables_among (ground_sides ts) ≡ []
  variables-ground_sides Nil = refl
  variables-ground_sides (More t ts) = λ i. variables-ground_side t i ++ variables-ground_sides ts i

-- numbers in a row are different

apart : (a b : ℕ) → a < b → nat_eq a b ≡ false
apart a b below = grind (arith, nat_tests)

row_distinct : (n m : ℕ) → IsDistinct nat_eq (range_with_len n m)
row_distinct n m = IsDistinct-from_apart nat_eq (range_with_len n m) (λ i j d low high.
    let long : j < m = omega (arith, high, length-range_with_len n m) in
    let here = get_or-range_with_len n m i d (omega (arith, low, long)) in
    let there = get_or-range_with_len n m j d long in
    apart (get_or (range_with_len n m) i d) (get_or (range_with_len n m) j d) (omega (arith, low, here, there)))

-- Result
pub rule_of-separated : (r : FamilyRule) → IsLinearSeparated (rule_of r)
unfolding rule_of
rule_of-separated r = record {
  left = subst (IsDistinct nat_eq) (sym (variables-side_from 0 r.0)) (row_distinct 0 (any_count r.0));
  right = subst (IsDistinct nat_eq) (sym (variables-ground_side r.1)) (row_distinct 0 0);
  separated = λ v there c. Contains-none v (subst (λ vs. Contains vs v) (variables-ground_side r.1) c);
}
