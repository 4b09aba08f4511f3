use Rattle.std.proofs.Common.{map, take}
use Rattle.fort_answers.specs.Said.{AreTermsOf}
use Rattle.fort_formula_parser.specs.ParsedView.{as_ground}
use Rattle.fort_questions.proofs.fit.read_terms.Given as goal

abbrev pub invariant-loop-ground : goal.invariant-loop-ground
invariant-loop-ground l = AreTermsOf l.signature (map as_ground (take l.ground-index l.grounds)) l.terms.items
