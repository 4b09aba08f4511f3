-- Inside: what it is that numbered states are the conditions of an expression.
use Rattle.std.specs.Prelude.{◌↔◌, ℕ, ◌<◌, ◌≤◌, List, length, get_or, Contains, false, Decides}
use Rattle.fort_theory.specs.Trees.{Tree, Trees, Node, tree_count}
use Rattle.fort_theory.specs.Signatures.{Signature, IsGround}
use Rattle.fort_theory.specs.Patterns.{PatternSystem}
use Rattle.fort_tables.specs.Tuples.{tree_at}
use Rattle.fort_alike.specs.Atoms.{OfOne}
use Rattle.fort_theory.specs.Expressions.{Expression}
use Rattle.fort_theory.specs.Conditions.{LeftCondition, RightCondition, MeansIn, MeetsLeft, MeetsRight}
use Rattle.fort_reachability.specs.CompiledNumbers.{SameOnGround}
use Rattle.fort_alike.specs.ExpressionStates.{Truths, NodeStates, ExpressionStates}

abbrev pub no_truths : Truths
no_truths k = false

-- the children's rows are right for states below the count; then so is the node's
abbrev pub AreRight : (ℕ → Tree → Type 0) → ℕ → Trees → List Truths → Type 0
AreRight Holds count ts rows =
    (j : ℕ) → j < length rows → (k : ℕ) → k < count → Decides (get_or rows j no_truths k) (OfOne (Holds k) (tree_at ts j))

abbrev pub StepsRight : Signature → (ℕ → Tree → Type 0) → NodeStates → Type 0
StepsRight signature Holds states =
    (f : ℕ) (ts : Trees) → IsGround signature (Node f ts) → (rows : List Truths) → tree_count ts ≤ length rows
    → AreRight Holds states.count ts rows → (k : ℕ) → k < states.count → Decides (states.step f rows k) (Holds k (Node f ts))

-- state k of a side holds of a term by a relation of its own; each state is a condition, and each condition a state
pub record AreConditions (system : PatternSystem) (e : Expression) (LeftHolds RightHolds : ℕ → Tree → Type 0) (states : ExpressionStates) : Type 0 where
  pub left_condition : (k : ℕ) → k < states.left.count
      → (c : LeftCondition system e) × SameOnGround system.signature (LeftHolds k) (MeetsLeft system e c)
  pub left_state : (c : LeftCondition system e)
      → (k : ℕ) × (k < states.left.count) × SameOnGround system.signature (LeftHolds k) (MeetsLeft system e c)
  pub right_condition : (k : ℕ) → k < states.right.count
      → (c : RightCondition system e) × SameOnGround system.signature (RightHolds k) (MeetsRight system e c)
  pub right_state : (c : RightCondition system e)
      → (k : ℕ) × (k < states.right.count) × SameOnGround system.signature (RightHolds k) (MeetsRight system e c)
  pub left_steps : StepsRight system.signature LeftHolds states.left
  pub right_steps : StepsRight system.signature RightHolds states.right
  -- the pairs are of these states, and relate what the expression means
  pub pairs_low : (p : ℕ × ℕ) → Contains states.pairs p → (p.0 < states.left.count) × (p.1 < states.right.count)
  pub relates : (s t : Tree) → IsGround system.signature s → IsGround system.signature t
      → MeansIn system e s t ↔ ((p : ℕ × ℕ) × Contains states.pairs p × LeftHolds p.0 s × RightHolds p.1 t)
