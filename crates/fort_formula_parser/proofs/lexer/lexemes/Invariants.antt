use Rattle.std.proofs.Common.{◌≡◌, ◌≤◌, ◌-◌, length, drop}
use Rattle.fort_formula_grammar.specs.TokenText.{grounds_behind, Reads}
use Rattle.fort_formula_parser.specs.TokenView.{tokens_of}
use Rattle.fort_formula_parser.specs.Places.{HavePlaces}
use Rattle.fort_formula_parser.proofs.lexer.lexemes.Given as goal

abbrev pub invariant-tokens : goal.invariant-tokens
invariant-tokens l = record {
  within : l.at ≤ length l.text;
  read : Reads 0 l.text (tokens_of l.lexemes.items) (drop l.at l.text);
  places : HavePlaces l.text l.lexemes.items;
  count : l.grounds ≡ grounds_behind 0 (tokens_of l.lexemes.items);
  few : l.grounds ≤ l.at;
}

abbrev pub decreases-tokens : goal.decreases-tokens
decreases-tokens l = length l.text - l.at
