-- To believe: the order of patterns: Any first, then by symbol, then by arguments from left to right, a list before those that it begins; which patterns stand within some patterns, and lists closed under arguments.
use Rattle.std.specs.Prelude.{◌≡◌, ◌↔◌, ℕ, ◌<◌, ◌⊎◌, List, [], ◌∷◌, ◌++◌, length, get_or, Contains}
use Rattle.fort_theory.specs.Patterns.{Pattern, Patterns, Any, At, NoPattern, MorePatterns}

abbrev mutual
  pub PatternBefore : Pattern → Pattern → Type 0
  PatternBefore p Any = ⊥
  PatternBefore Any (At g qs) = Unit {0}
  PatternBefore (At f ps) (At g qs) = (f < g) ⊎ ((f ≡ g) × PatternsBefore ps qs)

  pub PatternsBefore : Patterns → Patterns → Type 0
  PatternsBefore ps NoPattern = ⊥
  PatternsBefore NoPattern (MorePatterns q qs) = Unit {0}
  PatternsBefore (MorePatterns p ps) (MorePatterns q qs) = PatternBefore p q ⊎ ((p ≡ q) × PatternsBefore ps qs)

-- the pattern itself, and the patterns within its arguments
abbrev mutual
  pub subpatterns : Pattern → List Pattern
  subpatterns Any = Any ∷ []
  subpatterns (At f ps) = At f ps ∷ all_subpatterns ps

  pub all_subpatterns : Patterns → List Pattern
  all_subpatterns NoPattern = []
  all_subpatterns (MorePatterns p ps) = subpatterns p ++ all_subpatterns ps

-- a subpattern of one of these
abbrev pub StandsWithin : List Pattern → Pattern → Type 0
StandsWithin tops p = (top : Pattern) × Contains tops top × Contains (subpatterns top) p

-- each pattern that stands within these once, in order
pub record AreSubpatternsInOrder (tops ps : List Pattern) : Type 0 where
  pub same : (p : Pattern) → Contains ps p ↔ StandsWithin tops p
  pub ordered : (i j : ℕ) → i < j → j < length ps → PatternBefore (get_or ps i Any) (get_or ps j Any)

-- each of these patterns is in the list
abbrev pub AllAmong : List Pattern → Patterns → Type 0
AllAmong listed NoPattern = Unit {0}
AllAmong listed (MorePatterns p ps) = Contains listed p × AllAmong listed ps

-- each listed pattern's arguments are in the list too
abbrev pub HaveArguments : List Pattern → Type 0
HaveArguments listed = (f : ℕ) (ps : Patterns) → Contains listed (At f ps) → AllAmong listed ps
