use Rattle.std.proofs.Common.{◌≡◌, ℕ, ◌<◌, get_or}
use Rattle.fort_formula_parser.specs.Spellings.{texts_of}
use Rattle.fort_formula_parser.proofs.word.keyword_among.Given as goal

abbrev pub invariant-loop-spelling : goal.invariant-loop-spelling
invariant-loop-spelling l = (k : ℕ) → k < l.spelling-index → get_or (texts_of l.spellings) k l.word ≡ l.word → ⊥
