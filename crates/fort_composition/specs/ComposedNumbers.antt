-- To believe: what it is that a transducer of the program is the composition of two others, by the numbers of their states.
use Rattle.std.specs.Prelude.{◌↔◌, ℕ, ◌+◌, ◌<◌, ◌^◌, length}
use Rattle.fort_theory.specs.Trees.{Tree}
use Rattle.fort_theory.specs.Signatures.{Signature, IsGround}
use Rattle.fort_reachability.specs.TreeAutomata.{Takes}
use Rattle.fort_reachability.specs.Transducers.{Transduces, FitsTransducer}
use Rattle.fort_tree_automata.specs.NtaView.{automaton_of}
use Rattle.fort_transducers.specs.declared.agtt.Agtt.{Agtt}
use Rattle.fort_transducers.specs.AgttView.{transducer_of}
use Rattle.fort_theory.specs.Expressions.{Composes}
use Rattle.fort_reachability.specs.Compositions.{LeadsInto, LeadsFrom}

-- over a signature that both fit: on the left the first's states come first, on the right the second's
pub record IsCompositionOf (first second both : Agtt) (signature : Signature) : Type 0 where
  pub fits : FitsTransducer signature (transducer_of both)
  pub relates : (s t : Tree) → Transduces signature (transducer_of both) s t
      ↔ Composes (Transduces signature (transducer_of first)) (Transduces signature (transducer_of second)) s t
  pub left_first : (s : Tree) (q : ℕ) → q < first.left.states → Takes (automaton_of both.left) s q ↔ Takes (automaton_of first.left) s q
  pub left_second : (s : Tree) → IsGround signature s → (q : ℕ)
      → Takes (automaton_of both.left) s (q + first.left.states) ↔ LeadsInto (Transduces signature (transducer_of first)) (automaton_of second.left) s q
  pub right_second : (t : Tree) (q : ℕ) → q < second.right.states → Takes (automaton_of both.right) t q ↔ Takes (automaton_of second.right) t q
  pub right_first : (t : Tree) → IsGround signature t → (q : ℕ)
      → Takes (automaton_of both.right) t (q + second.right.states) ↔ LeadsFrom (Transduces signature (transducer_of second)) (automaton_of first.right) q t

-- the states of both sides have numbers of 32 bits; so have the moves of the two automata whose shared states are looked up: the
-- first's right and the second's left one
pub record AreFew (first second : Agtt) : Type 0 where
  pub left : first.left.states + second.left.states < 2 ^ 32
  pub right : first.right.states + second.right.states < 2 ^ 32
  pub right_moves : length first.right.moves.items < 2 ^ 32
  pub left_moves : length second.left.moves.items < 2 ^ 32
