use Rattle.std.proofs.Common.{◌+◌, ◌*◌, List}
use Rattle.fort_gtt_closure.specs.declared.entry.Entry.{Entry}
use Rattle.fort_gtt_closure.specs.Progress.{Progress}
use Rattle.fort_gtt_closure.specs.Ready.{IsReady}
use Rattle.fort_gtt_closure.proofs.passes.row.Given as goal

abbrev pub invariant-loop-q : goal.invariant-loop-q
invariant-loop-q l = record {
  progress : (start : List Entry) → Progress l.agtt start l.initial.listing.grid.entries.items (l.p * l.agtt.left.states)
      → Progress l.agtt start l.listing.grid.entries.items (l.p * l.agtt.left.states + l.q);
  ready : IsReady l.agtt l.listing;
}
