use Rattle.fort_formula_grammar.specs.TokenForms.{NoneBegins}
use Rattle.fort_formula_parser.specs.Spellings.{texts_of}
use Rattle.fort_formula_parser.proofs.symbol.first_among.Given as goal

abbrev pub invariant-loop-spelling : goal.invariant-loop-spelling
invariant-loop-spelling l = NoneBegins l.text (texts_of l.spellings) l.spelling-index
