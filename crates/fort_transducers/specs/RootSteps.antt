-- To believe: the transducer of some pairs of patterns has the patterns within the left sides as left states, those within the right sides as right states, and for each pair the places of its two patterns.
use Rattle.std.specs.Prelude.{◌≡◌, ◌↔◌, ℕ, List, [], ◌∷◌, length, map, Some}
use Rattle.fort_theory.specs.Patterns.{Pattern, Any, Pair}
use Rattle.fort_theory.specs.PatternOrder.{AreSubpatternsInOrder}
use Rattle.fort_tree_automata.specs.declared.nta.Nta.{Nta}
use Rattle.fort_tree_automata.specs.NtaView.{moves_of}
use Rattle.fort_tree_automata.specs.PatternMoves.{StandsAt, AreMovesFor}
use Rattle.fort_transducers.specs.declared.agtt.Agtt.{Agtt}

-- the states of the automaton are the places of the patterns
pub record HasPatternStates (ps : List Pattern) (nta : Nta) : Type 0 where
  pub states : nta.states ≡ length ps
  pub any : (q : ℕ) → (nta.any ≡ Some q) ↔ StandsAt ps q Any
  pub moves : AreMovesFor ps 0 ps (moves_of nta)
  pub silent : nta.silent.items ≡ []

-- one by one, as many pairs of places as pairs of patterns
abbrev pub ArePlaces : List Pattern → List Pattern → List Pair → List (ℕ × ℕ) → Type 0
ArePlaces lefts rights [] [] = Unit {0}
ArePlaces lefts rights [] (p ∷ ps) = ⊥
ArePlaces lefts rights (rule ∷ rules) [] = ⊥
ArePlaces lefts rights (rule ∷ rules) (p ∷ ps) = StandsAt lefts p.0 rule.0 × StandsAt rights p.1 rule.1 × ArePlaces lefts rights rules ps

pub record HasRootSteps (rules : List Pair) (agtt : Agtt) : Type 0 where
  pub lefts : List Pattern
  pub rights : List Pattern
  pub left_patterns : AreSubpatternsInOrder (map (λ pair. pair.0) rules) lefts
  pub right_patterns : AreSubpatternsInOrder (map (λ pair. pair.1) rules) rights
  pub left_states : HasPatternStates lefts agtt.left
  pub right_states : HasPatternStates rights agtt.right
  pub places : ArePlaces lefts rights rules agtt.pairs.items
