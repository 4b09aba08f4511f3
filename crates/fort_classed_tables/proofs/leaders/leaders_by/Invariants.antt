use Rattle.fort_classed_tables.specs.ColumnLeaders.{AreLedStates, AreMet}
use Rattle.fort_classed_tables.proofs.leaders.leaders_by.Given as goal

abbrev pub invariant-loop-q : goal.invariant-loop-q
invariant-loop-q l = record {
  led : AreLedStates l.columns l.ranks l.table.presences l.presence l.q l.leaders.items;
  met_are : AreMet l.columns l.ranks l.table.presences l.presence l.q l.met l.leaders.items;
}
