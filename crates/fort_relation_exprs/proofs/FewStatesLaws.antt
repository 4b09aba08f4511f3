-- How many states, moves and pairs a compiled transducer has: for each root step at most 2^26, so that all have numbers of 32 bits where there are 32 root steps at most.
use Rattle.std.proofs.Common.{◌≡◌, ℕ, suc, ◌+◌, ◌*◌, ◌≤◌, ◌^◌, List, [], ◌∷◌, length, map, arith, sym, subst, ap}
use Rattle.std.proofs.lemmas.List.{length-map}
use Rattle.fort_theory.specs.Patterns.{Pattern, Any, At, Pair}
use Rattle.fort_tree_automata.specs.NtaView.{MoveParts, as_move, moves_of}
use Rattle.fort_tree_automata.specs.PatternMoves.{AreMovesFor}
use Rattle.fort_tree_automata.specs.Copies.{IsCopy}
use Rattle.fort_tree_automata.specs.declared.nta.Nta.{Nta}
use Rattle.fort_parts.specs.DecidedCores.{AreFewRules}
use Rattle.fort_transducers.specs.declared.agtt.Agtt.{Agtt}
use Rattle.fort_transducers.specs.RootSteps.{ArePlaces, HasRootSteps}
use Rattle.fort_transducers.specs.Sizes.{SumsSizes, KeepsSizes}
use Rattle.fort_relation_exprs.specs.CompiledWithin.{HasFewStates}

-- at most one move for each pattern
few_moves : (ps : List Pattern) (n : ℕ) (qs : List Pattern) (ms : List MoveParts) → AreMovesFor ps n qs ms → length ms ≤ length qs
few_moves ps n [] [] h = omega arith
few_moves ps n [] (m ∷ ms) h = absurd h
few_moves ps n (Any ∷ qs) ms h = let few = few_moves ps (suc n) qs ms h in omega (arith, few)
few_moves ps n (At f args ∷ qs) [] h = absurd h
few_moves ps n (At f args ∷ qs) (m ∷ ms) h = let few = few_moves ps (suc n) qs ms h.3 in omega (arith, few)

-- as many places as rules
few_places : (lefts rights : List Pattern) (rules : List Pair) (ps : List (ℕ × ℕ)) → ArePlaces lefts rights rules ps → length ps ≤ length rules
few_places lefts rights [] [] h = omega arith
few_places lefts rights [] (p ∷ ps) h = absurd h
few_places lefts rights (rule ∷ rules) [] h = absurd h
few_places lefts rights (rule ∷ rules) (p ∷ ps) h = let few = few_places lefts rights rules ps h.2 in omega (arith, few)

pub HasFewStates-root : (rules : List Pair) (agtt : Agtt) → AreFewRules rules → HasRootSteps rules agtt → HasFewStates 1 agtt
HasFewStates-root rules agtt few has =
    let lefts = few.lefts has.lefts has.left_patterns in
    let rights = few.rights has.rights has.right_patterns in
    record {
      left = omega (arith, lefts, has.left_states.states);
      right = omega (arith, rights, has.right_states.states);
      left_moves = (let m = few_moves has.lefts 0 has.lefts (moves_of agtt.left) has.left_states.moves in
          omega (arith, m, lefts, length-map agtt.left.moves.items as_move));
      right_moves = (let m = few_moves has.rights 0 has.rights (moves_of agtt.right) has.right_states.moves in
          omega (arith, m, rights, length-map agtt.right.moves.items as_move));
      pairs = (let m = few_places has.lefts has.rights rules agtt.pairs.items has.places in omega (arith, m, few.rules));
    }

-- a copy has as many moves
moves-copied : (nta copy : Nta) → IsCopy nta copy → length copy.moves.items ≡ length nta.moves.items
moves-copied nta copy is =
    let same = ap length is.moves in
    omega (arith, same, length-map nta.moves.items as_move, length-map copy.moves.items as_move)

pub HasFewStates-inverse : (n : ℕ) (agtt inverse : Agtt) → HasFewStates n agtt → IsCopy agtt.right inverse.left → IsCopy agtt.left inverse.right
    → inverse.pairs.items ≡ map (λ p. (p.1, p.0)) agtt.pairs.items → HasFewStates n inverse
HasFewStates-inverse n agtt inverse few left right pairs = record {
  left = subst (λ k. k ≤ n * 2 ^ 26) (sym left.states) few.right;
  right = subst (λ k. k ≤ n * 2 ^ 26) (sym right.states) few.left;
  left_moves = subst (λ k. k ≤ n * 2 ^ 26) (sym (moves-copied agtt.right inverse.left left)) few.right_moves;
  right_moves = subst (λ k. k ≤ n * 2 ^ 26) (sym (moves-copied agtt.left inverse.right right)) few.left_moves;
  pairs = (let same = ap length pairs in let m = length-map {B = ℕ × ℕ} agtt.pairs.items (λ p. (p.1, p.0)) in omega (arith, same, m, few.pairs));
}

pub HasFewStates-closure : (n : ℕ) (agtt larger : Agtt) → HasFewStates n agtt → larger.left.states ≡ agtt.left.states → larger.right.states ≡ agtt.right.states
    → KeepsSizes agtt larger → HasFewStates n larger
HasFewStates-closure n agtt larger few lefts rights sizes = record {
  left = subst (λ k. k ≤ n * 2 ^ 26) (sym lefts) few.left;
  right = subst (λ k. k ≤ n * 2 ^ 26) (sym rights) few.right;
  left_moves = subst (λ k. k ≤ n * 2 ^ 26) (sym sizes.left_moves) few.left_moves;
  right_moves = subst (λ k. k ≤ n * 2 ^ 26) (sym sizes.right_moves) few.right_moves;
  pairs = subst (λ k. k ≤ n * 2 ^ 26) (sym sizes.pairs) few.pairs;
}

-- the states of both, in either order
pub HasFewStates-both : (m n : ℕ) (first second both : Agtt) → HasFewStates m first → HasFewStates n second
    → both.left.states ≡ first.left.states + second.left.states → both.right.states ≡ first.right.states + second.right.states
    → SumsSizes first second both → HasFewStates (m + n) both
HasFewStates-both m n first second both few also lefts rights sizes = record {
  left = omega (arith, few.left, also.left, lefts);
  right = omega (arith, few.right, also.right, rights);
  left_moves = omega (arith, few.left_moves, also.left_moves, sizes.left_moves);
  right_moves = omega (arith, few.right_moves, also.right_moves, sizes.right_moves);
  pairs = omega (arith, few.pairs, also.pairs, sizes.pairs);
}
