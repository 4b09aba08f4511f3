-- To believe: which ground term of the definitions a ground term of the program is, and that what stands in its braces is short.
use Rattle.std.specs.Prelude.{ℕ, ◌<◌, List, length, slice_index_or}
use Rattle.fort_formula_grammar.specs.Tokens.{ground_limit}
use Rattle.fort_formula_grammar.specs.FormulaText as grammar
use Rattle.fort_formula_parser.specs.declared.parsed.Ground.{Ground}

abbrev pub as_ground : Ground → grammar.Ground
as_ground g = record { at = g.at; text = g.text.items }

-- what stands in the braces is within the limit
abbrev pub AreShort : List Ground → Type 0
AreShort grounds = (k : ℕ) (d : Ground) → k < length grounds → length (slice_index_or grounds k d).text.items < ground_limit
