-- Laws of the sides of a family's rules: a side with a variable in each place stands for its pattern, and a ground term is the one side of its pattern, whatever the numbers begin with.
use Rattle.std.proofs.Common.{◌≡◌, ℕ, ◌+◌, refl, ap, ◌∙◌, arith}
use Rattle.fort_theory.specs.Trees.{Tree, Trees, Node, Nil, More}
use Rattle.fort_theory.specs.Sides.{Side, App, MoreSides}
use Rattle.fort_theory.specs.Patterns.{Pattern, Patterns, Any, At, NoPattern, MorePatterns, pattern_of, patterns_of}
use Rattle.fort_answers.specs.FamilySystems.{any_count, any_counts, side_from, sides_from, ground_side, ground_sides}

mutual
  pub pattern_of-side_from : (v : ℕ) (p : Pattern) → pattern_of (side_from v p) ≡ p
  pattern_of-side_from v Any = refl
  pattern_of-side_from v (At f ps) = ap (At f) (patterns_of-sides_from v ps)

  pub patterns_of-sides_from : (v : ℕ) (ps : Patterns) → patterns_of (sides_from v ps) ≡ ps
  patterns_of-sides_from v NoPattern = refl
  patterns_of-sides_from v (MorePatterns p ps) =
      ap (λ (q : Pattern). MorePatterns q (patterns_of (sides_from (v + any_count p) ps))) (pattern_of-side_from v p)
      ∙ ap (MorePatterns p) (patterns_of-sides_from (v + any_count p) ps)

mutual
  pub any_count-ground : (t : Tree) → any_count (pattern_of (ground_side t)) ≡ 0
  any_count-ground (Node f ts) = any_counts-ground ts

  pub any_counts-ground : (ts : Trees) → any_counts (patterns_of (ground_sides ts)) ≡ 0
  any_counts-ground Nil = refl
  any_counts-ground (More t ts) = omega (arith, any_count-ground t, any_counts-ground ts)

mutual
  pub side_from-ground : (v : ℕ) (t : Tree) → side_from v (pattern_of (ground_side t)) ≡ ground_side t
  side_from-ground v (Node f ts) = ap (App f) (sides_from-ground v ts)

  pub sides_from-ground : (v : ℕ) (ts : Trees) → sides_from v (patterns_of (ground_sides ts)) ≡ ground_sides ts
  sides_from-ground v Nil = refl
  sides_from-ground v (More t ts) =
      let p = pattern_of (ground_side t) in
      ap (λ (s : Side). MoreSides s (sides_from (v + any_count p) (patterns_of (ground_sides ts)))) (side_from-ground v t)
      ∙ ap (MoreSides (ground_side t)) (sides_from-ground (v + any_count p) ts)
