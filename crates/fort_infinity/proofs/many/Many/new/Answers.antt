use Rattle.std.proofs.Common.{IsTrue, map}
use Rattle.fort_tables.specs.OperationTruth.{accepts}
use Rattle.fort_tables.specs.Counts.{count_at}
use Rattle.fort_tables.proofs.TellsLaws.{TellsMany-marks}
use Rattle.fort_tables.proofs.ManyAgreementLaws.{many_by_states}
use Rattle.fort_tables.proofs.ManyTruth.{many_decides}
use Rattle.fort_findings.specs.FindingView.{as_count}
use Rattle.fort_infinity.specs.ManyCounts.{is_many}
use Rattle.fort_infinity.proofs.many.Many.new.Goals as goal

pub returns-clause-tells : goal.returns-clause-tells
returns-clause-tells g c =
    TellsMany-marks (g.T.Table.table c.args.body.now) c.args.column (count_at c.args.alone.now (map as_count c.args.counts.now)) c.states-states.ensures.lawful c.states-states.ensures.reached c.requires.column c.requires.rules

pub returns-clause-agree : goal.returns-clause-agree
returns-clause-agree g c =
    let body = g.T.Table.table c.args.body.now in
    many_by_states body c.args.column (is_many c.args.alone.now c.args.counts.now) c.states-states.ensures.lawful c.states-states.ensures.reached c.requires.column (TellsMany-marks body c.args.column (count_at c.args.alone.now (map as_count c.args.counts.now)) c.states-states.ensures.lawful c.states-states.ensures.reached c.requires.column c.requires.rules)

pub returns-clause-accepted : goal.returns-clause-accepted
returns-clause-accepted g c =
    let body = g.T.Table.table c.args.body.now in
    many_decides body c.args.column (is_many c.args.alone.now c.args.counts.now) (λ t. IsTrue (accepts body t)) c.states-states.ensures.lawful c.states-states.ensures.reached c.requires.column (TellsMany-marks body c.args.column (count_at c.args.alone.now (map as_count c.args.counts.now)) c.states-states.ensures.lawful c.states-states.ensures.reached c.requires.column c.requires.rules) (λ t h f. ((λ e. e), (λ e. e)))
