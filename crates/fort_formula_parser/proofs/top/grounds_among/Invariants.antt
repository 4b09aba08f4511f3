use Rattle.std.proofs.Common.{◌≡◌, map, take}
use Rattle.fort_formula_parser.specs.ParsedView.{as_ground}
use Rattle.fort_formula_parser.proofs.GroundLists.{grounds_of}
use Rattle.fort_formula_parser.proofs.top.grounds_among.Given as goal

abbrev pub invariant-loop-lexeme : goal.invariant-loop-lexeme
invariant-loop-lexeme l = map as_ground l.grounds.items ≡ grounds_of (take l.lexeme-index l.lexemes)
