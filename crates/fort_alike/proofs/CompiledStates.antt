-- The states of a transducer that is compiled from an expression, with a step that computes them, are its conditions; so are they with the step by the moves of its automata.
use Rattle.std.specs.Prelude.{◌↔◌, ℕ, List, Contains, Bool}
use Rattle.fort_theory.specs.Patterns.{PatternSystem}
use Rattle.fort_reachability.specs.Transducers.{Transducer}
use Rattle.fort_alike.specs.PatternNumbers.{PatternNumber}
use Rattle.fort_theory.specs.Expressions.{Expression}
use Rattle.fort_reachability.specs.CompiledNumbers.{TakenTo, IsCompiledTo}
use Rattle.fort_alike.specs.ExpressionStates.{ExpressionStates}
use Rattle.fort_alike.specs.ConditionStates.{StepsRight, AreConditions}
use Rattle.fort_alike.specs.MoveStates.{move_states}
use Rattle.fort_alike.specs.AutomatonMoves.{AreMovesOf}
use Rattle.fort_alike.proofs.MoveStatesLaws.{StepsRight-move_states}

module _ (system : PatternSystem) (e : Expression) (transducer : Transducer ℕ ℕ) (states : ExpressionStates)
    (is : IsCompiledTo system e transducer states.left.count states.right.count) (pairs : (a b : ℕ) → transducer.HasPair a b ↔ Contains states.pairs (a, b))
    (left : StepsRight system.signature (TakenTo transducer.left) states.left) (right : StepsRight system.signature (TakenTo transducer.right) states.right) where
  pub AreConditions-compiled : AreConditions system e (TakenTo transducer.left) (TakenTo transducer.right) states
  AreConditions-compiled = record {
    left_condition = is.left_condition;
    left_state = is.left_state;
    right_condition = is.right_condition;
    right_state = is.right_state;
    left_steps = left;
    right_steps = right;
    pairs_low = λ p c. is.pairs_low p.0 p.1 ((pairs p.0 p.1).1 c);
    relates = λ s t gs gt. (
      (λ m.
          let h = (is.relates s t).1 m in
          ((h.left_state, h.right_state), (pairs h.left_state h.right_state).0 h.paired, h.left_taken, h.right_taken)),
      (λ w. (is.relates s t).0 (record {
        left_state = w.0.0;
        right_state = w.0.1;
        paired = (pairs w.0.0 w.0.1).1 w.1;
        left_taken = w.2;
        right_taken = w.3;
        left_grounded = gs;
        right_grounded = gt;
      })),
    );
  }

-- with the states of a node by the moves of both automata
abbrev pub states_by_moves : (lefts rights : ℕ) (left_moves right_moves : List (PatternNumber × ℕ)) (left_leads right_leads : ℕ → ℕ → Bool) → List (ℕ × ℕ) → ExpressionStates
states_by_moves lefts rights left_moves right_moves left_leads right_leads pairs = record {
  left = move_states lefts left_moves left_leads;
  right = move_states rights right_moves right_leads;
  pairs = pairs;
}

module _ (system : PatternSystem) (e : Expression) (transducer : Transducer ℕ ℕ) (lefts rights : ℕ) (is : IsCompiledTo system e transducer lefts rights)
    (left_moves right_moves : List (PatternNumber × ℕ)) (left_leads right_leads : ℕ → ℕ → Bool) (pairs : List (ℕ × ℕ))
    (left : AreMovesOf transducer.left lefts left_moves left_leads) (right : AreMovesOf transducer.right rights right_moves right_leads)
    (paired : (a b : ℕ) → transducer.HasPair a b ↔ Contains pairs (a, b)) where
  pub AreConditions-moves : AreConditions system e (TakenTo transducer.left) (TakenTo transducer.right)
      (states_by_moves lefts rights left_moves right_moves left_leads right_leads pairs)
  AreConditions-moves =
      AreConditions-compiled system e transducer (states_by_moves lefts rights left_moves right_moves left_leads right_leads pairs) is paired
      (StepsRight-move_states transducer.left lefts left_moves left_leads left system.signature is.fits.left)
      (StepsRight-move_states transducer.right rights right_moves right_leads right system.signature is.fits.right)
