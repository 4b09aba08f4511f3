use Rattle.std.proofs.Common.{◌+◌, ◌-◌, ◌*◌, length}
use Rattle.fort_formula_grammar.specs.FormulaGrammar.{IsConjunction}
use Rattle.fort_formula_parser.specs.Parsing.{IsParsed, IsStartedDisjunction}
use Rattle.fort_formula_parser.proofs.parser.+parser.Given as goal

abbrev pub decreases-formula : goal.decreases-formula
decreases-formula l = 8 * (length l.lexemes.now - l.at) + 5

abbrev pub decreases-implication : goal.decreases-implication
decreases-implication l = 8 * (length l.lexemes.now - l.at) + 4

abbrev pub decreases-disjunction : goal.decreases-disjunction
decreases-disjunction l = 8 * (length l.lexemes.now - l.at) + 3

abbrev pub decreases-conjunction : goal.decreases-conjunction
decreases-conjunction l = 8 * (length l.lexemes.now - l.at) + 2

abbrev pub decreases-unary : goal.decreases-unary
decreases-unary l = 8 * (length l.lexemes.now - l.at) + 1

abbrev pub decreases-binders : goal.decreases-binders
decreases-binders l = 8 * (length l.lexemes.now - l.at)

abbrev pub decreases-enclosed : goal.decreases-enclosed
decreases-enclosed l = 8 * (length l.lexemes.now - l.at)

abbrev pub invariant-disjunction-more : goal.invariant-disjunction-more
invariant-disjunction-more l = IsParsed IsStartedDisjunction l.lexemes l.at l.left

abbrev pub decreases-disjunction-more : goal.decreases-disjunction-more
decreases-disjunction-more l = length l.lexemes - l.left.next

abbrev pub invariant-conjunction-more : goal.invariant-conjunction-more
invariant-conjunction-more l = IsParsed IsConjunction l.lexemes l.at l.left

abbrev pub decreases-conjunction-more : goal.decreases-conjunction-more
decreases-conjunction-more l = length l.lexemes - l.left.next
