use Rattle.std.proofs.Common.{IsTrue}
use Rattle.fort_tables.specs.OperationTruth.{accepts}
use Rattle.fort_tables.proofs.AgreementLaws.{project_by_states}
use Rattle.fort_tables.proofs.TruthLaws.{project_decides}
use Rattle.fort_projections.proofs.project.Project.new.Goals as goal

pub returns-clause-agree : goal.returns-clause-agree
returns-clause-agree g c =
    let body = g.T.Table.table c.args.body.now in
    project_by_states body c.args.column c.states-states.ensures.lawful c.states-states.ensures.reached c.requires.column

pub returns-clause-accepted : goal.returns-clause-accepted
returns-clause-accepted g c =
    let body = g.T.Table.table c.args.body.now in
    project_decides body c.args.column (λ t. IsTrue (accepts body t)) c.states-states.ensures.lawful c.states-states.ensures.reached c.requires.column (λ t h f. ((λ e. e), (λ e. e)))
