-- To believe: which pattern of the definitions a pattern of the program is.
use Rattle.std.specs.Prelude.{ℕ, suc, ◌+◌, List, [], ◌∷◌, map, vec_items}
use Rattle.std.specs.declared.alloc.Global.{Global}
use Rattle.std.specs.declared.vec.Vec.{Vec}
use Rattle.fort_theory.specs.Signatures.{Signature}
use Rattle.fort_theory.specs.Patterns as theory
use Rattle.fort_terms.specs.declared.pattern.Pattern.{Pattern}
use Rattle.fort_terms.specs.declared.pattern.Pattern.TheVariants.{Any, App}

abbrev pub as_pattern : Pattern → theory.Pattern
as_pattern Any = theory.Any
as_pattern (App f ps) = theory.At f.0 ps

abbrev pub as_patterns : List Pattern → theory.Patterns
as_patterns [] = theory.NoPattern
as_patterns (p ∷ ps) = theory.MorePatterns (as_pattern p) (as_patterns ps)

-- the two patterns of a rule
abbrev pub as_pair : Pattern × Pattern → theory.Pattern × theory.Pattern
as_pair pair = (as_pattern pair.0, as_pattern pair.1)

-- the pairs of the rules of each index
abbrev pub as_rules : List (Vec (Pattern × Pattern) Global) → List (List theory.Pair)
as_rules lists = map (λ rules. map as_pair (vec_items rules)) lists

abbrev pub as_system : Signature → List (Vec (Pattern × Pattern) Global) → theory.PatternSystem
as_system signature lists = record { signature = signature; rules = as_rules lists }

-- the number of nodes
abbrev mutual
  pub node_count : theory.Pattern → ℕ
  node_count theory.Any = 1
  node_count (theory.At f ps) = suc (node_counts ps)

  pub node_counts : theory.Patterns → ℕ
  node_counts theory.NoPattern = 0
  node_counts (theory.MorePatterns p ps) = node_count p + node_counts ps
