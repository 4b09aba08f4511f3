use Rattle.std.proofs.Common.{◌*◌, ◌-◌, vec_len}
use Rattle.fort_gtt_closure.specs.Progress.{Progress}
use Rattle.fort_gtt_closure.specs.Ready.{IsReady}
use Rattle.fort_gtt_closure.proofs.passes.close.Given as goal

abbrev pub invariant-loop-listing : goal.invariant-loop-listing
invariant-loop-listing l = record {
  progress : Progress l.agtt l.listing.grid.entries.items l.listing.grid.entries.items 0;
  ready : IsReady l.agtt l.listing;
}

abbrev pub decreases-loop-listing : goal.decreases-loop-listing
decreases-loop-listing l = l.listing.grid.height * l.listing.grid.width - vec_len l.listing.grid.entries
