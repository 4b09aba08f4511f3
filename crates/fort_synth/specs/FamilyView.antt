-- To believe: which rule of a family a pair of the program is.
use Rattle.fort_answers.specs.FamilyRules.{FamilyRule}
use Rattle.fort_theory.specs.Trees.{Tree}
use Rattle.fort_terms.specs.PatternView.{as_pattern}
use Rattle.fort_terms.specs.declared.pattern.Pattern.{Pattern}

abbrev pub as_family_rule : Pattern × Tree → FamilyRule
as_family_rule pair = (as_pattern pair.0, pair.1)
