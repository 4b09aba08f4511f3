use Rattle.std.proofs.Common.{sym, arith}
use Rattle.fort_cert_checker.proofs.PartStateLaws.{states_by_classes, states_by_targets}
use Rattle.fort_cert_checker.proofs.making.states_of.Goals as goal

pub returns-then-is_merged-clause-few : goal.returns-then-is_merged-clause-few
returns-then-is_merged-clause-few c = omega (arith, c.most_states.ensures, c.classes_of.ensures.few c.requires)

pub returns-then-is_merged-clause-states : goal.returns-then-is_merged-clause-states
returns-then-is_merged-clause-states c = λ n are.
    states_by_classes _ c.args.source.part n c.classes_of.result.now c.most_states.result (sym c.if-is_merged.ensures) c.classes_of.ensures.own c.most_states.ensures are

pub returns-else-is_merged-clause-few : goal.returns-else-is_merged-clause-few
returns-else-is_merged-clause-few c = omega (arith, c.most_states-else-is_merged.ensures, c.targets_of.ensures.few c.requires)

pub returns-else-is_merged-clause-states : goal.returns-else-is_merged-clause-states
returns-else-is_merged-clause-states c = λ n are.
    states_by_targets _ c.args.source.part n c.targets_of.result.now c.most_states-else-is_merged.result (sym c.if-is_merged.ensures) c.targets_of.ensures.own c.most_states-else-is_merged.ensures are
