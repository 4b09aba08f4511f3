use Rattle.std.proofs.Common.{◌≡◌, take}
use Rattle.fort_tight_lists.specs.TightViews.{read_at}
use Rattle.fort_tight_lists.proofs.tight_views.read_at.Given as goal

abbrev pub invariant-loop-place : goal.invariant-loop-place
invariant-loop-place l = l.read.items ≡ read_at l.list (take l.place-index l.places)
