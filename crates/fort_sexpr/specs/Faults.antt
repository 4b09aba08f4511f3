-- To believe: which fault of a text an error stands for; and where want of memory may come, which says nothing of the text behind.
use Rattle.std.specs.Prelude.{ℕ, ◌+◌, ◌<◌, List, ◌++◌, length}
use Rattle.fort_grammar.specs.Text.{BadByte, ExtraClose, Unclosed, TooDeep, IsFirstFault, IsFaultlessBelow}
use Rattle.fort_sexpr.specs.declared.fault.SFault.{SFault}
use Rattle.fort_sexpr.specs.declared.fault.SFault.TheVariants as faults

-- the text's first fault
abbrev pub IsFirstFaultOf : List ℕ → SFault → Type 0
IsFirstFaultOf bytes faults.Memory = ⊥
IsFirstFaultOf bytes (faults.BadByte i) = IsFirstFault bytes (BadByte i)
IsFirstFaultOf bytes (faults.ExtraClose i) = IsFirstFault bytes (ExtraClose i)
IsFirstFaultOf bytes (faults.Unclosed i) = IsFirstFault bytes (Unclosed i)
IsFirstFaultOf bytes (faults.TooDeep i) = IsFirstFault bytes (TooDeep i)

-- the text's first fault, unless memory ran out
abbrev pub IsFirstFaultUnlessMemory : List ℕ → SFault → Type 0
IsFirstFaultUnlessMemory bytes faults.Memory = Unit {0}
IsFirstFaultUnlessMemory bytes fault = IsFirstFaultOf bytes fault

-- a fault at a byte of these: the first fault of each text that begins so
abbrev pub IsFaultOfFront : List ℕ → SFault → Type 0
IsFaultOfFront bytes faults.Memory = ⊥
IsFaultOfFront bytes (faults.Unclosed i) = ⊥
IsFaultOfFront bytes fault = (more : List ℕ) → IsFirstFaultOf (bytes ++ more) fault

-- likewise, unless memory ran out
abbrev pub IsFaultOfFrontUnlessMemory : List ℕ → SFault → Type 0
IsFaultOfFrontUnlessMemory bytes faults.Memory = Unit {0}
IsFaultOfFrontUnlessMemory bytes fault = IsFaultOfFront bytes fault

-- up to some byte, itself included, nothing is at fault
pub record IsFaultlessSoFar (bytes : List ℕ) : Type 0 where
  pub at : ℕ
  pub within : at < length bytes
  pub faultless : IsFaultlessBelow bytes (at + 1)
