use Rattle.std.proofs.Common.{◌-◌, ◌≤◌}
use Rattle.fort_views.specs.Views.{IsViewOf, HasSameSight}
use Rattle.fort_views.proofs.view.View.take_up.Given as goal

abbrev pub invariant-loop-self : goal.invariant-loop-self
invariant-loop-self g l = record { known : IsViewOf (g.K.LabelKeys.key l.keys) l.rows.labels l.self; sight : HasSameSight l.initial.self l.self; until_within : l.self.until ≤ l.until }

abbrev pub decreases-loop-self : goal.decreases-loop-self
decreases-loop-self g l = l.until - l.self.until
