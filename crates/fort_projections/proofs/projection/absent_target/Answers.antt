use Rattle.std.proofs.Common.{None}
use Rattle.std.specs.List.{insert}
use Rattle.fort_projections.proofs.ProjectEntries.{absent_entry}
use Rattle.fort_projections.proofs.projection.absent_target.Goals as goal

pub absent-look_up-requires : goal.absent-look_up-requires
absent-look_up-requires g c = (g.T.Table.table c.args.body.now, c.args.row.now.symbol, c.args.column, c.requires.finder)

pub target_over_absent-requires-clause-found : goal.target_over_absent-requires-clause-found
target_over_absent-requires-clause-found g c =
    let body = g.T.Table.table c.args.body.now in
    let f = c.args.row.now.symbol in
    (insert f c.args.column None, c.absent-look_up.ensures body f c.args.column c.requires.finder, absent_entry body c.args.column c.args.rows.now.labels c.args.row.now c.states-states.ensures.lawful c.states-states.ensures.reached c.requires.searched)

pub returns : goal.returns
returns g c =
    let body = g.T.Table.table c.args.body.now in
    let f = c.args.row.now.symbol in
    c.target_over_absent.ensures (insert f c.args.column None) (c.absent-look_up.ensures body f c.args.column c.requires.finder) (absent_entry body c.args.column c.args.rows.now.labels c.args.row.now c.states-states.ensures.lawful c.states-states.ensures.reached c.requires.searched)
