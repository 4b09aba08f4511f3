use Rattle.std.proofs.Common.{◌≡◌}
use Rattle.fort_projection_keys.specs.ProjectionViews.{view_words}
use Rattle.fort_projection_keys.proofs.places.write_words.Given as goal

abbrev pub invariant-loop-g : goal.invariant-loop-g
invariant-loop-g g l = l.words.items ≡ view_words (g.T.TableClasses.view_number l.body) (g.T.Table.table l.body) l.column l.symbol l.place l.g
