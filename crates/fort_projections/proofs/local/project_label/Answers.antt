use Rattle.fort_projections.proofs.ProjectEntries.{absent_entry}
use Rattle.fort_projections.proofs.local.project_label.Goals as goal

pub of-finder-requires-clause-some : goal.of-finder-requires-clause-some
of-finder-requires-clause-some g c =
    let body = g.T.Table.table c.args.body.now in
    (_, absent_entry body c.args.column c.args.rows.now.labels c.args.row.now c.states-states.ensures.lawful c.states-states.ensures.reached (record { column = c.requires.column; over = c.requires.over }))
