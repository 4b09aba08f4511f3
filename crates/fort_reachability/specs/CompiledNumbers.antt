-- To believe: what it is that a transducer over numbers below some counts is compiled from an expression: it relates what the expression means, each state is a condition, each condition a state.
use Rattle.std.specs.Prelude.{◌↔◌, ℕ, ◌<◌}
use Rattle.fort_theory.specs.Trees.{Tree}
use Rattle.fort_theory.specs.Signatures.{Signature, IsGround}
use Rattle.fort_theory.specs.Patterns.{PatternSystem}
use Rattle.fort_reachability.specs.TreeAutomata.{Automaton, Takes}
use Rattle.fort_reachability.specs.Transducers.{Transducer, Transduces, FitsTransducer}
use Rattle.fort_theory.specs.Expressions.{Expression}
use Rattle.fort_theory.specs.Conditions.{LeftCondition, RightCondition, MeansIn, MeetsLeft, MeetsRight}

-- two properties that ground terms share
abbrev pub SameOnGround : Signature → (Tree → Type 0) → (Tree → Type 0) → Type 0
SameOnGround signature P Q = (t : Tree) → IsGround signature t → P t ↔ Q t

-- the terms that are taken to a state
abbrev pub TakenTo : {State : Type 0} → Automaton State → State → Tree → Type 0
TakenTo automaton q t = Takes automaton t q

pub record IsCompiledTo (system : PatternSystem) (e : Expression) (transducer : Transducer ℕ ℕ) (lefts rights : ℕ) : Type 0 where
  pub fits : FitsTransducer system.signature transducer
  pub relates : (s t : Tree) → Transduces system.signature transducer s t ↔ MeansIn system e s t
  pub pairs_low : (a b : ℕ) → transducer.HasPair a b → (a < lefts) × (b < rights)
  pub left_condition : (k : ℕ) → k < lefts → (c : LeftCondition system e) × SameOnGround system.signature (TakenTo transducer.left k) (MeetsLeft system e c)
  pub left_state : (c : LeftCondition system e) → (k : ℕ) × (k < lefts) × SameOnGround system.signature (TakenTo transducer.left k) (MeetsLeft system e c)
  pub right_condition : (k : ℕ) → k < rights → (c : RightCondition system e) × SameOnGround system.signature (TakenTo transducer.right k) (MeetsRight system e c)
  pub right_state : (c : RightCondition system e) → (k : ℕ) × (k < rights) × SameOnGround system.signature (TakenTo transducer.right k) (MeetsRight system e c)
