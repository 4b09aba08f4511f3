-- Inside: what compiling an expression asks of it, and how many states, moves and pairs the transducer has, by the number of root steps.
use Rattle.std.specs.Prelude.{ℕ, ◌≤◌, ◌*◌, ◌^◌, length}
use Rattle.fort_theory.specs.Patterns.{PatternSystem, IsSystem}
use Rattle.fort_theory.specs.Expressions.{Expression, root_indices, HasManyRoots}
use Rattle.fort_parts.specs.DecidedCores.{IsExpressionOver}
use Rattle.fort_transducers.specs.declared.agtt.Agtt.{Agtt}
use Rattle.fort_relation_exprs.specs.CompiledAgtt.{IsCompiledAgtt}

pub record CanCompile (system : PatternSystem) (e : Expression) : Type 0 where
  pub lawful : IsSystem system
  pub over : IsExpressionOver system e
  pub narrow : HasManyRoots e → ⊥

-- of each at most 2^26 for each root step; so 2^31 where there are not many
pub record HasFewStates (roots : ℕ) (agtt : Agtt) : Type 0 where
  pub left : agtt.left.states ≤ roots * 2 ^ 26
  pub right : agtt.right.states ≤ roots * 2 ^ 26
  pub left_moves : length agtt.left.moves.items ≤ roots * 2 ^ 26
  pub right_moves : length agtt.right.moves.items ≤ roots * 2 ^ 26
  pub pairs : length agtt.pairs.items ≤ roots * 2 ^ 26

pub record IsCompiledWithin (system : PatternSystem) (e : Expression) (agtt : Agtt) : Type 0 where
  pub compiled : IsCompiledAgtt system e agtt
  pub few : HasFewStates (length (root_indices e)) agtt

-- of the transducers of any two expressions over a system it makes that of the expression that this makes of the two
abbrev pub IsMadeOfTwo : (Expression → Expression → Expression) → Agtt → Agtt → Agtt → Type 0
IsMadeOfTwo make first second made = (system : PatternSystem) (a b : Expression) → IsCompiledWithin system a first → IsCompiledWithin system b second
    → IsCompiledWithin system (make a b) made
