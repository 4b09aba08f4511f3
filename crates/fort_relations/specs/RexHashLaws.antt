-- Law: equal expressions feed a hasher alike.
use Rattle.std.specs.Prelude.{◌≡◌, true}
use Rattle.std.specs.Ordering.{on}
use Rattle.std.proofs.Common.{ap}
use Rattle.fort_theory.specs.Expressions as theory
use Rattle.fort_relations.specs.declared.rex.Rex.{Rex}
use Rattle.fort_relations.specs.ExpressionCode.{spelled}
use Rattle.fort_relations.specs.RexView.{as_expression}
use Rattle.fort_relations.specs.RexKeys.{rex_spelled, same_numbers}
use Rattle.fort_relations.specs.RexKeyLaws.{arm_eq-Decides}
use Rattle.fort_relations.specs.RexHash.{expression_hash}

pub arm_hash-respects_eq : (e d : theory.Expression) → on spelled same_numbers e d ≡ true → expression_hash e ≡ expression_hash d
arm_hash-respects_eq e d h = ap expression_hash ((arm_eq-Decides e d).0 h)

pub Rex_hash-respects_eq : (r q : Rex) → on rex_spelled same_numbers r q ≡ true → expression_hash (as_expression r) ≡ expression_hash (as_expression q)
Rex_hash-respects_eq r q e = arm_hash-respects_eq (as_expression r) (as_expression q) e
