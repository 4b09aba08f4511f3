-- To believe: the closure table over patterns, for a list of pairs of patterns, is the least set of pairs of patterns with these rules: one of the two is Any; one symbol and arguments in it; through a pair.
use Rattle.std.specs.Prelude.{ℕ, List, Contains}
use Rattle.fort_theory.specs.Patterns.{Pattern, Patterns, Any, At, NoPattern, MorePatterns, Pair}

mutual
  pub data InPatternClosure (pairs : List Pair) : Pattern → Pattern → Type 0 where
    -- one of the two is Any
    AnyRight : {q : Pattern} → InPatternClosure pairs Any q
    AnyLeft : {p : Pattern} → InPatternClosure pairs p Any
    -- two patterns of one symbol, whose arguments are in it one by one
    ByArguments : {f : ℕ} {ps qs : Patterns} → AllInPatternClosure pairs ps qs → InPatternClosure pairs (At f ps) (At f qs)
    -- to a pair, and on from it
    ThroughPair : {p q : Pattern} (pair : Pair) → Contains pairs pair → InPatternClosure pairs p pair.0 → InPatternClosure pairs pair.1 q
        → InPatternClosure pairs p q

  -- one by one, as many of each
  pub data AllInPatternClosure (pairs : List Pair) : Patterns → Patterns → Type 0 where
    NoneIn : AllInPatternClosure pairs NoPattern NoPattern
    MoreIn : {p q : Pattern} {ps qs : Patterns} → InPatternClosure pairs p q → AllInPatternClosure pairs ps qs
        → AllInPatternClosure pairs (MorePatterns p ps) (MorePatterns q qs)
