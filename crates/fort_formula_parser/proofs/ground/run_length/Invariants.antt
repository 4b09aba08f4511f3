use Rattle.std.proofs.Common.{◌≡◌, ℕ, ◌<◌, true, get_or}
use Rattle.fort_formula_grammar.specs.Tokens.{is_ground_byte}
use Rattle.fort_formula_parser.proofs.ground.run_length.Given as goal

abbrev pub invariant-loop-i : goal.invariant-loop-i
invariant-loop-i l = (k : ℕ) → k < l.i → is_ground_byte (get_or l.text k 0) ≡ true
