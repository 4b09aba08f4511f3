-- To believe: the left and the right conditions of an expression, and which terms meet them.
use Rattle.std.specs.Prelude.{ℕ, List, map, ◌⊎◌}
use Rattle.std.proofs.Common.{inl, inr}
use Rattle.fort_theory.specs.Trees.{Tree}
use Rattle.fort_theory.specs.Sides.{at_index}
use Rattle.fort_theory.specs.Patterns.{Pattern, IsInstance, Pair, PatternSystem}
use Rattle.fort_theory.specs.PatternOrder.{StandsWithin}
use Rattle.fort_theory.specs.PatternSteps.{PatternStepAt}
use Rattle.fort_theory.specs.Rewriting.{Relation, Reduces, RewritesInParallel}
use Rattle.fort_theory.specs.Expressions.{Expression, RootSteps, Inverse, Union, Composition, Closure, Means}

-- a pattern that stands within one of these
abbrev pub PatternWithin : List Pattern → Type 0
PatternWithin tops = (p : Pattern) × StandsWithin tops p

abbrev pub left_sides : PatternSystem → ℕ → List Pattern
left_sides system index = map (λ (pair : Pair). pair.0) (at_index index system.rules)

abbrev pub right_sides : PatternSystem → ℕ → List Pattern
right_sides system index = map (λ (pair : Pair). pair.1) (at_index index system.rules)

abbrev mutual
  pub LeftCondition : PatternSystem → Expression → Type 0
  LeftCondition system (RootSteps index) = PatternWithin (left_sides system index)
  LeftCondition system (Inverse e) = RightCondition system e
  LeftCondition system (Union a b) = LeftCondition system a ⊎ LeftCondition system b
  LeftCondition system (Composition a b) = LeftCondition system a ⊎ LeftCondition system b
  LeftCondition system (Closure e) = LeftCondition system e

  pub RightCondition : PatternSystem → Expression → Type 0
  RightCondition system (RootSteps index) = PatternWithin (right_sides system index)
  RightCondition system (Inverse e) = LeftCondition system e
  RightCondition system (Union a b) = RightCondition system a ⊎ RightCondition system b
  RightCondition system (Composition a b) = RightCondition system b ⊎ RightCondition system a
  RightCondition system (Closure e) = RightCondition system e

-- the relation that an expression means over the system's root steps
abbrev pub MeansIn : PatternSystem → Expression → Relation
MeansIn system e = Means (PatternStepAt system) e

-- on the left of a composition, a condition of the second expression counts for what the first one in parallel leads to, and on the
-- right a condition of the first for what leads, by the second in parallel, to the term; of a closure, on the left for what the term
-- reduces to, on the right for what reduces to it
abbrev mutual
  pub MeetsLeft : (system : PatternSystem) (e : Expression) → LeftCondition system e → Tree → Type 0
  MeetsLeft system (RootSteps index) p s = IsInstance p.0 s
  MeetsLeft system (Inverse e) c s = MeetsRight system e c s
  MeetsLeft system (Union a b) (inl c) s = MeetsLeft system a c s
  MeetsLeft system (Union a b) (inr c) s = MeetsLeft system b c s
  MeetsLeft system (Composition a b) (inl c) s = MeetsLeft system a c s
  MeetsLeft system (Composition a b) (inr c) s = (u : Tree) × RewritesInParallel (MeansIn system a) s u × MeetsLeft system b c u
  MeetsLeft system (Closure e) c s = (u : Tree) × Reduces (MeansIn system e) s u × MeetsLeft system e c u

  pub MeetsRight : (system : PatternSystem) (e : Expression) → RightCondition system e → Tree → Type 0
  MeetsRight system (RootSteps index) p t = IsInstance p.0 t
  MeetsRight system (Inverse e) c t = MeetsLeft system e c t
  MeetsRight system (Union a b) (inl c) t = MeetsRight system a c t
  MeetsRight system (Union a b) (inr c) t = MeetsRight system b c t
  MeetsRight system (Composition a b) (inl c) t = MeetsRight system b c t
  MeetsRight system (Composition a b) (inr c) t = (u : Tree) × MeetsRight system a c u × RewritesInParallel (MeansIn system b) u t
  MeetsRight system (Closure e) c t = (u : Tree) × MeetsRight system e c u × Reduces (MeansIn system e) u t
