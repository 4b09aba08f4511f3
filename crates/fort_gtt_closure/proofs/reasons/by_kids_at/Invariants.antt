use Rattle.std.proofs.Common.{◌≡◌, drop}
use Rattle.fort_gtt_closure.specs.Scans.{by_left_place, by_places}
use Rattle.fort_gtt_closure.proofs.reasons.by_kids_at.Given as goal

abbrev pub invariant-loop-place : goal.invariant-loop-place
invariant-loop-place l =
    by_places (by_left_place l.grid.entries.items l.lefts l.left_places) l.rights (drop l.place-index l.right_places)
    ≡ by_places (by_left_place l.grid.entries.items l.lefts l.left_places) l.rights l.right_places
