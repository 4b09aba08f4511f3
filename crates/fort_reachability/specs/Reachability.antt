-- To believe: what it means that the closure of a transducer is reachability: for its table and its states over ground terms, and between any terms.
use Rattle.std.specs.Prelude.{◌↔◌}
use Rattle.fort_theory.specs.Trees.{Tree}
use Rattle.fort_theory.specs.Signatures.{Signature, IsGround}
use Rattle.fort_theory.specs.Rewriting.{Relation, Reduces, ReducesThroughRoot, RewritesInParallel}
use Rattle.fort_reachability.specs.TreeAutomata.{Automaton, Takes}
use Rattle.fort_reachability.specs.Transducers.{Transducer, Transduces}
use Rattle.fort_reachability.specs.ClosureTables.{InClosure}
use Rattle.fort_reachability.specs.ClosedTransducers.{closed}

-- some ground term of the right state reduces to some ground term of the left state
pub record Reaches {Left Right : Type 0} (signature : Signature) (transducer : Transducer Left Right) (p : Right) (q : Left) : Type 0 where
  pub start : Tree
  pub end : Tree
  pub start_taken : Takes transducer.right start p
  pub end_taken : Takes transducer.left end q
  pub start_grounded : IsGround signature start
  pub end_grounded : IsGround signature end
  pub reduces : Reduces (Transduces signature transducer) start end

-- the term reduces to some term of the state
abbrev pub ReducesInto : {State : Type 0} → Relation → Automaton State → Tree → State → Type 0
ReducesInto root automaton s q = (u : Tree) × Reduces root s u × Takes automaton u q

-- some term of the state reduces to the term
abbrev pub ReducesFrom : {State : Type 0} → Relation → Automaton State → State → Tree → Type 0
ReducesFrom root automaton p t = (u : Tree) × Takes automaton u p × Reduces root u t

pub record ClosureIsReachability {Left Right : Type 0} (signature : Signature) (transducer : Transducer Left Right) : Type 0 where
  -- the table has the pairs of which the first reaches the second
  pub table : (p : Right) (q : Left) → InClosure transducer p q ↔ Reaches signature transducer p q
  -- the closed left automaton takes a term to the states of what it reduces to
  pub left : (s : Tree) → IsGround signature s → (q : Left)
      → Takes (closed transducer).left s q ↔ ReducesInto (Transduces signature transducer) transducer.left s q
  -- the closed right automaton takes a term to the states of what reduces to it
  pub right : (t : Tree) → IsGround signature t → (p : Right)
      → Takes (closed transducer).right t p ↔ ReducesFrom (Transduces signature transducer) transducer.right p t
  -- the closed transducer relates terms of which one reduces to the other with a step at the root
  pub through_root : (s t : Tree) → Transduces signature (closed transducer) s t ↔ ReducesThroughRoot (Transduces signature transducer) s t
  -- a reduction by the transducer is one parallel step by the closed one
  pub everywhere : (s t : Tree) → Reduces (Transduces signature transducer) s t ↔ RewritesInParallel (Transduces signature (closed transducer)) s t
