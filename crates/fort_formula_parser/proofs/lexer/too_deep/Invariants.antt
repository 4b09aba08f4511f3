use Rattle.std.proofs.Common.{◌≡◌, ℕ, ◌≤◌, take}
use Rattle.fort_formula_grammar.specs.FormulaText.{open_behind, deepest_formula}
use Rattle.fort_formula_parser.specs.TokenView.{tokens_of}
use Rattle.fort_formula_parser.proofs.lexer.too_deep.Given as goal

abbrev pub invariant-loop-lexeme : goal.invariant-loop-lexeme
invariant-loop-lexeme l = record {
  count : l.open ≡ open_behind 0 (take l.lexeme-index (tokens_of l.lexemes));
  shallow : (k : ℕ) → k ≤ l.lexeme-index → open_behind 0 (take k (tokens_of l.lexemes)) ≤ deepest_formula;
}
