-- To believe: the states of a closed transducer: on the left a ground term is taken to the states of what it reduces to, on the right to those of what reduces to it.
use Rattle.std.specs.Prelude.{◌≡◌, ◌↔◌, ℕ}
use Rattle.fort_theory.specs.Trees.{Tree}
use Rattle.fort_theory.specs.Signatures.{Signature, IsGround}
use Rattle.fort_reachability.specs.TreeAutomata.{Takes}
use Rattle.fort_reachability.specs.Transducers.{Transduces, FitsTransducer}
use Rattle.fort_reachability.specs.Reachability.{ReducesInto, ReducesFrom}
use Rattle.fort_tree_automata.specs.NtaView.{automaton_of}
use Rattle.fort_transducers.specs.declared.agtt.Agtt.{Agtt}
use Rattle.fort_transducers.specs.AgttView.{transducer_of}

pub record HasClosedStates (agtt larger : Agtt) : Type 0 where
  pub left_count : larger.left.states ≡ agtt.left.states
  pub right_count : larger.right.states ≡ agtt.right.states
  pub fits : (signature : Signature) → FitsTransducer signature (transducer_of agtt) → FitsTransducer signature (transducer_of larger)
  pub left : (signature : Signature) → FitsTransducer signature (transducer_of agtt) → (s : Tree) → IsGround signature s → (q : ℕ)
      → Takes (automaton_of larger.left) s q ↔ ReducesInto (Transduces signature (transducer_of agtt)) (automaton_of agtt.left) s q
  pub right : (signature : Signature) → FitsTransducer signature (transducer_of agtt) → (t : Tree) → IsGround signature t → (p : ℕ)
      → Takes (automaton_of larger.right) t p ↔ ReducesFrom (Transduces signature (transducer_of agtt)) (automaton_of agtt.right) p t
