use Rattle.std.proofs.Common.{◌≡◌, ◌-◌, ◌^◌, ◌≤◌, length}
use Rattle.fort_leading_tables.specs.LeadingMaking.{turned}
use Rattle.fort_explore.specs.LeadingLoops.{IsLeadingLoop}
use Rattle.fort_explore.proofs.leading.give_leading.Given as goal

abbrev pub invariant-entries : goal.invariant-entries
invariant-entries g l = record {
  exploring : IsLeadingLoop l.sig (g.L.Labeller.column_count l.labeller) (g.L.Labeller.label l.labeller) (turned (g.V.SymbolLeaders.keys l.leaders) (g.V.LeaderLists.lists l.leaders) (g.V.SymbolLeaders.knows l.leaders)) l.found.labels.labels l.found.firsts l.maker;
  keys : g.V.SymbolLeaders.keys l.leaders ≡ g.V.SymbolLeaders.keys l.fn.leaders;
  same : l.found.numbers ≡ l.found.labels.labels;
  width : l.found.labels.width ≡ g.L.Labeller.word_count l.labeller;
  asked : l.found.labels.width ≡ g.V.SymbolLeaders.word_count l.leaders;
  kept : g.L.Labeller.fits l.labeller l.memo;
  room : length l.out ≡ g.L.Labeller.word_count l.labeller;
  few : length l.found.labels.labels ≤ l.cap;
  grows : l.fn.steps ≤ l.steps;
}

abbrev pub decreases-entries : goal.decreases-entries
decreases-entries g l = 2 ^ 64 - length l.maker.targets.targets.items
