-- To believe: what it is that a transducer of the program is compiled from an expression.
use Rattle.fort_theory.specs.Patterns.{PatternSystem}
use Rattle.fort_theory.specs.Expressions.{Expression}
use Rattle.fort_reachability.specs.CompiledNumbers.{IsCompiledTo}
use Rattle.fort_transducers.specs.declared.agtt.Agtt.{Agtt}
use Rattle.fort_transducers.specs.AgttView.{NamesItsStates, transducer_of}

pub record IsCompiledAgtt (system : PatternSystem) (e : Expression) (agtt : Agtt) : Type 0 where
  pub named : NamesItsStates agtt
  pub compiled : IsCompiledTo system e (transducer_of agtt) agtt.left.states agtt.right.states
