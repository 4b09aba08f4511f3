-- To believe: the nodes of a tuple: one for each tuple in it, children before parents and from left to right.
use Rattle.std.specs.Prelude.{ℕ, zero, suc, List, [], ◌∷◌, ◌++◌}
use Rattle.std.specs.List.{flat_map}
use Rattle.fort_theory.specs.Signatures.{Signature}
use Rattle.fort_theory.specs.EachOnce.{AreEachOnce}
use Rattle.fort_tables.specs.Tuples.{Tuple, kids, level}
use Rattle.fort_tables.specs.Entries.{Entry, AreNodes, tuples_of}

-- the tuples in a tuple down to a depth: those in its children from left to right, and then itself
abbrev pub tuples_within : (depth : ℕ) → Tuple → List Tuple
tuples_within zero t = t ∷ []
tuples_within (suc n) t = flat_map (tuples_within n) (kids t) ++ t ∷ []

-- all of them: children have smaller levels
abbrev pub tuples_in : Tuple → List Tuple
tuples_in t = tuples_within (level t) t

-- each of them is the tuple of one node, in the order of their first places
pub record AreNodesOf (sig : Signature) (columns : ℕ) (t : Tuple) (nodes : List Entry) : Type 0 where
  pub are : AreNodes sig columns nodes
  pub once : AreEachOnce (tuples_in t) (tuples_of nodes)
