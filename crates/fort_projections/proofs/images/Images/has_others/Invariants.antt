use Rattle.std.proofs.Common.{◌≡◌, ◌≢◌, ℕ, ◌<◌, [], get_or}
use Rattle.fort_projections.proofs.images.Images.has_others.Given as goal

abbrev pub invariant-loop-j : goal.invariant-loop-j
invariant-loop-j l = (i : ℕ) → i < l.j → i ≢ l.self.place → get_or l.self.labels.labels i [] ≡ get_or l.rows.labels (get_or l.kids i 0) []
