-- To believe: an anchored ground tree transducer is two tree automata with pairs of a left and a right state; it relates two ground terms where the left automaton takes the first and the right one the second to the states of a pair; and when it fits a signature.
use Rattle.fort_theory.specs.Trees.{Tree}
use Rattle.fort_theory.specs.Signatures.{Signature, IsGround, HasConstant}
use Rattle.fort_reachability.specs.TreeAutomata.{Automaton, Takes, FitsAutomaton}

pub record Transducer (Left Right : Type 0) : Type 1 where
  pub left : Automaton Left
  pub right : Automaton Right
  -- these pairs are also called interface pairs
  pub HasPair : Left → Right → Type 0

-- the left automaton takes s, and the right one t, to the states of a pair; in the place of the root step, this gives the
-- transducer's steps and reductions
pub record Transduces {Left Right : Type 0} (signature : Signature) (transducer : Transducer Left Right) (s t : Tree) : Type 0 where
  pub left_state : Left
  pub right_state : Right
  pub paired : transducer.HasPair left_state right_state
  pub left_taken : Takes transducer.left s left_state
  pub right_taken : Takes transducer.right t right_state
  pub left_grounded : IsGround signature s
  pub right_grounded : IsGround signature t

-- the signature has a constant, and each move of either automaton has as many states as its symbol has arguments
pub record FitsTransducer {Left Right : Type 0} (signature : Signature) (transducer : Transducer Left Right) : Type 0 where
  pub constant : HasConstant signature
  pub left : FitsAutomaton signature transducer.left
  pub right : FitsAutomaton signature transducer.right
