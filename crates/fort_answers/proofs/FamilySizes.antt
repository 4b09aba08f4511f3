-- The sides of a family's rules are small where no symbol has more than eight arguments: so many patterns stand within one, and no more of its places are for variables.
use Rattle.std.proofs.Common.{◌≡◌, ℕ, zero, suc, ◌+◌, ◌*◌, ◌^◌, ◌≤◌, max, [], ◌∷◌, length, Some, refl, sym, ap, ◌∙◌, subst, arith, length-append}
use Rattle.std.proofs.Math.Nat.{mul-le-mul_right, suc-mul, pow-succ'}
use Rattle.std.specs.List.{AllByRecursion}
use Rattle.std.proofs.lemmas.List.Elements.{recursion_from_All}
use Rattle.fort_theory.proofs.Lists.{some-injective}
use Rattle.fort_theory.specs.Trees.{Tree, Trees, Node, Nil, More, tree_count}
use Rattle.fort_theory.specs.Trees as trees
use Rattle.fort_theory.specs.Signatures.{most_arguments, Symbol, IsSignature, Signature, arity_of, IsGround, AreGround}
use Rattle.fort_theory.specs.Patterns.{Pattern, Patterns, Any, At, NoPattern, MorePatterns, pattern_count, pattern_of, patterns_of, FitsPattern, FitPatterns}
use Rattle.fort_theory.specs.PatternOrder.{subpatterns, all_subpatterns}
use Rattle.fort_answers.specs.FamilyRules.{pattern_height, pattern_heights}
use Rattle.fort_answers.specs.FamilySystems.{any_count, any_counts, ground_side, ground_sides}

pow_some : (h : ℕ) → 1 ≤ 9 ^ h
pow_some zero = omega arith
pow_some (suc h) = let some = pow_some h in omega (arith, some)

-- ---- no symbol has more than eight arguments

pub small_arities : (sig : Signature) → IsSignature sig → (g n : ℕ) → arity_of sig g ≡ Some n → n ≤ 8
small_arities sig is = by sig (recursion_from_All (λ (s : Symbol). s.arity ≤ most_arguments) sig is.small)
  where
    by : (ss : Signature) → AllByRecursion (λ (s : Symbol). s.arity ≤ most_arguments) ss → (g n : ℕ) → arity_of ss g ≡ Some n → n ≤ 8
    by [] all zero n e = cc
    by [] all (suc g) n e = cc
    by (s ∷ ss) all zero n e = let same : s.arity ≡ n = some-injective e in let few = all.0 in omega (arith, few, same)
    by (s ∷ ss) all (suc g) n e = by ss all.1 g n e

-- ---- places for variables are patterns within

abbrev mutual
  pub any_count-within : (p : Pattern) → any_count p ≤ length (subpatterns p)
  any_count-within Any = omega arith
  any_count-within (At f ps) = let some = any_counts-within ps in omega (arith, some)

  any_counts-within : (ps : Patterns) → any_counts ps ≤ length (all_subpatterns ps)
  any_counts-within NoPattern = omega arith
  any_counts-within (MorePatterns p ps) =
      let here = any_count-within p in
      let there = any_counts-within ps in
      let e = length-append (subpatterns p) (all_subpatterns ps) in
      omega (arith, here, there, e)

-- ---- so many patterns within

-- eight times as much and one more is no more than nine times
bounded : (x n m : ℕ) → n ≤ 8 → m ≤ n * x → 1 ≤ x → suc m ≤ 9 * x
bounded x n m most all some = let wide : n * x ≤ 8 * x = mul-le-mul_right x most in omega (arith, all, some, wide)

joined : (n x a b c : ℕ) → a ≤ x → b ≤ n * x → c ≡ a + b → c ≤ suc n * x
joined n x a b c here there e = let more : suc n * x ≡ n * x + x = suc-mul n x in omega (arith, here, there, e, more)

module _ (sig : Signature) (few : (f n : ℕ) → arity_of sig f ≡ Some n → n ≤ 8) where
  mutual
    pub subpatterns-few : (h : ℕ) (p : Pattern) → FitsPattern sig p → pattern_height p ≤ h → length (subpatterns p) ≤ 9 ^ h
    subpatterns-few h Any fits low = pow_some h
    subpatterns-few h (At f NoPattern) fits low = pow_some h
    subpatterns-few zero (At f (MorePatterns p ps)) fits low = absurd (omega arith)
    subpatterns-few (suc h) (At f (MorePatterns p ps)) fits low =
        let all = all_subpatterns-few h (MorePatterns p ps) fits.1 low in
        let most = few f (pattern_count (MorePatterns p ps)) fits.0 in
        let some = pow_some h in
        let power : 9 ^ suc h ≡ 9 * 9 ^ h = pow-succ' 9 h in
        subst (λ n. length (subpatterns (At f (MorePatterns p ps))) ≤ n) (sym power)
        (bounded (9 ^ h) (pattern_count (MorePatterns p ps)) (length (all_subpatterns (MorePatterns p ps))) most all some)

    all_subpatterns-few : (h : ℕ) (ps : Patterns) → FitPatterns sig ps → pattern_heights ps ≤ suc h
        → length (all_subpatterns ps) ≤ pattern_count ps * 9 ^ h
    all_subpatterns-few h NoPattern fits low = omega arith
    all_subpatterns-few h (MorePatterns p ps) fits low =
        let here = subpatterns-few h p fits.0 (omega arith) in
        let there = all_subpatterns-few h ps fits.1 (omega arith) in
        let e = length-append (subpatterns p) (all_subpatterns ps) in
        joined (pattern_count ps) (9 ^ h) (length (subpatterns p)) (length (all_subpatterns ps)) (length (all_subpatterns (MorePatterns p ps))) here there e

-- ---- the pattern of a ground term

abbrev mutual
  pub fits_ground : (sig : Signature) (t : Tree) → IsGround sig t → FitsPattern sig (pattern_of (ground_side t))
  fits_ground sig (Node f ts) ground = (ground.0 ∙ ap Some (sym (count_ground ts)), fits_all sig ts ground.1)

  fits_all : (sig : Signature) (ts : Trees) → AreGround sig ts → FitPatterns sig (patterns_of (ground_sides ts))
  fits_all sig Nil ground = tt
  fits_all sig (More t ts) ground = (fits_ground sig t ground.0, fits_all sig ts ground.1)

  count_ground : (ts : Trees) → pattern_count (patterns_of (ground_sides ts)) ≡ tree_count ts
  count_ground Nil = refl
  count_ground (More t ts) = ap suc (count_ground ts)

abbrev mutual
  pub height_ground : (t : Tree) → pattern_height (pattern_of (ground_side t)) ≡ trees.height t
  height_ground (Node f ts) = heights_ground ts

  heights_ground : (ts : Trees) → pattern_heights (patterns_of (ground_sides ts)) ≡ trees.heights ts
  heights_ground Nil = refl
  heights_ground (More t ts) = ap (λ n. max (suc n) (pattern_heights (patterns_of (ground_sides ts)))) (height_ground t) ∙ ap (λ n. max (suc (trees.height t)) n) (heights_ground ts)
