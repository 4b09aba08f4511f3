-- The root steps of rules with numbers of 32 bits have moves and pairs with such numbers, as `close` asks.
use Rattle.std.proofs.Common.{ℕ, suc, ◌<◌, ◌≤◌, List, [], ◌∷◌, length, arith}
use Rattle.std.proofs.lemmas.List.{length-map}
use Rattle.fort_theory.specs.Patterns.{Pattern, Any, At, Pair}
use Rattle.fort_tree_automata.specs.NtaView.{MoveParts, as_move, moves_of}
use Rattle.fort_tree_automata.specs.PatternMoves.{AreMovesFor}
use Rattle.fort_transducers.specs.declared.agtt.Agtt.{Agtt}
use Rattle.fort_transducers.specs.RootSteps.{ArePlaces, HasRootSteps}
use Rattle.fort_gtt_closure.specs.Reasons.{IsNumbered}

few_moves : (ps : List Pattern) (n : ℕ) (qs : List Pattern) (ms : List MoveParts) → AreMovesFor ps n qs ms → length ms ≤ length qs
few_moves ps n [] [] h = omega arith
few_moves ps n [] (m ∷ ms) h = absurd h
few_moves ps n (Any ∷ qs) ms h = let few = few_moves ps (suc n) qs ms h in omega (arith, few)
few_moves ps n (At f args ∷ qs) [] h = absurd h
few_moves ps n (At f args ∷ qs) (m ∷ ms) h = let few = few_moves ps (suc n) qs ms h.3 in omega (arith, few)

as_many : (lefts rights : List Pattern) (rules : List Pair) (ps : List (ℕ × ℕ)) → ArePlaces lefts rights rules ps → length ps ≤ length rules
as_many lefts rights [] [] h = omega arith
as_many lefts rights [] (p ∷ ps) h = absurd h
as_many lefts rights (rule ∷ rules) [] h = absurd h
as_many lefts rights (rule ∷ rules) (p ∷ ps) h = let few = as_many lefts rights rules ps h.2 in omega (arith, few)

pub IsNumbered-root_steps : (rules : List Pair) (agtt : Agtt) → HasRootSteps rules agtt → agtt.left.states < 4294967296 → agtt.right.states < 4294967296
    → length rules < 4294967296 → IsNumbered agtt
IsNumbered-root_steps rules agtt has left right few = record {
  right = (let m = few_moves has.rights 0 has.rights (moves_of agtt.right) has.right_states.moves in
      omega (arith, m, right, has.right_states.states, length-map agtt.right.moves.items as_move));
  left = (let m = few_moves has.lefts 0 has.lefts (moves_of agtt.left) has.left_states.moves in
      omega (arith, m, left, has.left_states.states, length-map agtt.left.moves.items as_move));
  pairs = (let m = as_many has.lefts has.rights rules agtt.pairs.items has.places in omega (arith, m, few));
}
