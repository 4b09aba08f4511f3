-- To believe: which fault of the definitions a fault of the program is. Want of memory is none.
use Rattle.std.specs.Prelude.{Option, None, Some}
use Rattle.fort_grammar.specs.Declarations as grammar
use Rattle.fort_ari.specs.declared.fault.ProblemFault.{ProblemFault}
use Rattle.fort_ari.specs.declared.fault.ProblemFault.TheVariants.{Memory, NoFormat, BadForm, BadName, BadArity, Duplicate, TooManyFunctions, TooManyRules, NoConstant, WrongCount, VariableApplied, LeftRepeats, RightRepeats, Shares}

abbrev pub as_fault : ProblemFault → Option grammar.ProblemFault
as_fault Memory = None
as_fault NoFormat = Some grammar.NoFormat
as_fault (BadForm i) = Some (grammar.BadForm i)
as_fault (BadName i) = Some (grammar.BadName i)
as_fault (BadArity i) = Some (grammar.BadArity i)
as_fault (Duplicate i) = Some (grammar.Duplicate i)
as_fault TooManyFunctions = Some grammar.TooManyFunctions
as_fault TooManyRules = Some grammar.TooManyRules
as_fault NoConstant = Some grammar.NoConstant
as_fault (WrongCount i) = Some (grammar.WrongCount i)
as_fault (VariableApplied i) = Some (grammar.VariableApplied i)
as_fault (LeftRepeats i name) = Some (grammar.LeftRepeats i name.items)
as_fault (RightRepeats i name) = Some (grammar.RightRepeats i name.items)
as_fault (Shares i name) = Some (grammar.Shares i name.items)
