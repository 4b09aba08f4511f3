-- To believe: patterns are equal when both are Any or they have one symbol and equal arguments; Any comes before the other patterns, which are ordered by their symbols and then by their arguments from left to right, a list of arguments before those that it begins.
use Rattle.std.specs.Prelude.{Bool, true, false, nat_eq, ◌&&◌, [], ◌++◌}
use Rattle.std.specs.Hash as fed
use Rattle.std.specs.declared.cmp.Ordering.{Ordering}
use Rattle.std.specs.declared.cmp.Ordering.TheVariants.{Less, Equal, Greater}
use Rattle.std.specs.Ordering.{nat_cmp, ordering_then}
use Rattle.fort_theory.specs.Patterns.{Pattern, Patterns, Any, At, NoPattern, MorePatterns, pattern_count}

abbrev mutual
  pub pattern_eq : Pattern → Pattern → Bool
  pattern_eq Any Any = true
  pattern_eq Any (At g qs) = false
  pattern_eq (At f ps) Any = false
  pattern_eq (At f ps) (At g qs) = nat_eq f g && patterns_eq ps qs

  pub patterns_eq : Patterns → Patterns → Bool
  patterns_eq NoPattern NoPattern = true
  patterns_eq NoPattern (MorePatterns q qs) = false
  patterns_eq (MorePatterns p ps) NoPattern = false
  patterns_eq (MorePatterns p ps) (MorePatterns q qs) = pattern_eq p q && patterns_eq ps qs

abbrev mutual
  pub pattern_order : Pattern → Pattern → Ordering
  pattern_order Any Any = Equal
  pattern_order Any (At g qs) = Less
  pattern_order (At f ps) Any = Greater
  pattern_order (At f ps) (At g qs) = ordering_then (nat_cmp f g) (patterns_order ps qs)

  pub patterns_order : Patterns → Patterns → Ordering
  patterns_order NoPattern NoPattern = Equal
  patterns_order NoPattern (MorePatterns q qs) = Less
  patterns_order (MorePatterns p ps) NoPattern = Greater
  patterns_order (MorePatterns p ps) (MorePatterns q qs) = ordering_then (pattern_order p q) (patterns_order ps qs)

-- what a hasher is fed: a 0 for Any, else a 1, the symbol, the number of arguments, each argument
abbrev mutual
  pub pattern_hash : Pattern → fed.HashWrites
  pattern_hash Any = fed.u8 0
  pattern_hash (At f ps) = fed.u8 1 ++ (fed.u16 f ++ (fed.usize (pattern_count ps) ++ all_pattern_hashes ps))

  pub all_pattern_hashes : Patterns → fed.HashWrites
  all_pattern_hashes NoPattern = []
  all_pattern_hashes (MorePatterns p ps) = pattern_hash p ++ all_pattern_hashes ps

abbrev pub patterns_hash : Patterns → fed.HashWrites
patterns_hash ps = fed.usize (pattern_count ps) ++ all_pattern_hashes ps
