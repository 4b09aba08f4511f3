use Rattle.std.proofs.Common.{◌≡◌, drop}
use Rattle.fort_gtt_closure.specs.Scans.{by_left_place}
use Rattle.fort_gtt_closure.proofs.reasons.by_left_place.Given as goal

abbrev pub invariant-loop-place : goal.invariant-loop-place
invariant-loop-place l =
    by_left_place l.grid.entries.items l.lefts (drop l.place-index l.places) l.right ≡ by_left_place l.grid.entries.items l.lefts l.places l.right
