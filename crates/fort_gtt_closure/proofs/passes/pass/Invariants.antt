use Rattle.std.proofs.Common.{◌*◌, List}
use Rattle.fort_gtt_closure.specs.declared.entry.Entry.{Entry}
use Rattle.fort_gtt_closure.specs.Progress.{Progress}
use Rattle.fort_gtt_closure.specs.Ready.{IsReady}
use Rattle.fort_gtt_closure.proofs.passes.pass.Given as goal

abbrev pub invariant-loop-p : goal.invariant-loop-p
invariant-loop-p l = record {
  progress : (start : List Entry) → Progress l.agtt start l.initial.listing.grid.entries.items 0
      → Progress l.agtt start l.listing.grid.entries.items (l.p * l.agtt.left.states);
  ready : IsReady l.agtt l.listing;
}
