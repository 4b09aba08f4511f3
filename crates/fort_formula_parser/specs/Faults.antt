-- To believe: which fault of the definitions a fault of the program is. Want of memory is none.
use Rattle.std.specs.Prelude.{Option, None, Some}
use Rattle.fort_formula_grammar.specs.FormulaText as grammar
use Rattle.fort_formula_parser.specs.declared.fault.FFault.{FFault}
use Rattle.fort_formula_parser.specs.declared.fault.FFault.TheVariants.{Memory, BadByte, TooLong, TooDeep, Syntax}

abbrev pub as_formula_fault : FFault → Option grammar.FormulaFault
as_formula_fault Memory = None
as_formula_fault (BadByte i) = Some (grammar.BadByte i)
as_formula_fault TooLong = Some grammar.TooLong
as_formula_fault (TooDeep i) = Some (grammar.TooDeep i)
as_formula_fault (Syntax i) = Some (grammar.Syntax i)
