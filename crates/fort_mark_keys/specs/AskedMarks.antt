-- To believe: which marks the label of a node asks of child j: a pattern where it stands as argument j of a listed pattern with the root's symbol, a fact where the node's facts read it; as a mask of the children's labels.
use Rattle.std.specs.Prelude.{◌≡◌, ℕ, zero, suc, List, Contains, Option, None, Some, get_or, Bool, false, ◌&&◌, ◌==◌}
use Rattle.std.specs.List.{list_any}
use Rattle.fort_theory.specs.Patterns.{Pattern, Patterns, Any, At, NoPattern, MorePatterns, Pair}
use Rattle.fort_tables.specs.Tuples.{TupleSymbol}
use Rattle.fort_alike.specs.Atoms.{NfKind}
use Rattle.fort_alike.specs.Alike.{Fact, Same, Steps, StepsBelow, StepsInParallel, IsNormal, Goes, GoesStrictly}
use Rattle.fort_alike.specs.ListedAtoms.{Mark, OfFirst, OfSecond, OfBoth, ListedAtom}
use Rattle.fort_alike.specs.AtomRules.{marks_of, row_of, same_pattern, same_roots, is_there}

-- argument j is this pattern
abbrev pub is_argument : Pattern → ℕ → Patterns → Bool
is_argument p j NoPattern = false
is_argument p zero (MorePatterns q qs) = same_pattern q p
is_argument p (suc j) (MorePatterns q qs) = is_argument p j qs

-- it is argument j of the other one, whose root has this symbol
abbrev pub stands_under : Option ℕ → ℕ → Pattern → Pattern → Bool
stands_under None j p q = false
stands_under (Some f) j p Any = false
stands_under (Some f) j p (At g ps) = (g == f) && is_argument p j ps

-- Any isn't asked: each term has it that is there
abbrev pub asks_pattern : List Pattern → Option ℕ → ℕ → Pattern → Bool
asks_pattern listed x j Any = false
asks_pattern listed x j (At g ps) = list_any (stands_under x j (At g ps)) listed

-- no fact of a node reads StepsBelow of its children
abbrev pub asks_fact : (x y : Option ℕ) → Fact → Bool
asks_fact x y Same = same_roots x y
asks_fact x y Steps = same_roots x y
asks_fact x y StepsBelow = false
asks_fact x y StepsInParallel = same_roots x y
asks_fact x y IsNormal = is_there x
asks_fact x y Goes = same_roots x y
asks_fact x y GoesStrictly = same_roots x y

abbrev pub asks : ListedAtom → TupleSymbol → ℕ → Mark → Bool
asks a f j (OfFirst p) = asks_pattern a.lefts (get_or f a.atom.first None) j p
asks a f j (OfSecond p) = asks_pattern a.rights (get_or f a.atom.second None) j p
asks a f j (OfBoth k) = asks_fact (get_or f a.atom.first None) (get_or f a.atom.second None) k

-- the mask, as a label of these bits without a presence
abbrev pub asked_mask : ListedAtom → TupleSymbol → ℕ → List ℕ
asked_mask a f j = row_of (marks_of a) 0 (asks a f j)

-- the sides of its pairs are among its patterns; no label of normal forms reads a right one
pub record HasSides (a : ListedAtom) : Type 0 where
  pub lefts : (r : Pair) → Contains a.atom.pairs r → Contains a.lefts r.0
  pub rights : (r : Pair) → (a.atom.kind ≡ NfKind → ⊥) → Contains a.atom.pairs r → Contains a.rights r.1
