use Rattle.std.proofs.Common.{◌≡◌, ℕ, ◌<◌, List, get_or, length}
use Rattle.fort_tables.specs.Tuples.{TupleSymbol}
use Rattle.fort_classes.specs.Keys.{leaders_by}
use Rattle.fort_label_keys.specs.ViewKeys.{keys_by}
use Rattle.fort_explore.specs.LedTargets.{AreTurnedKids}
use Rattle.fort_explore.proofs.whole.kid_leaders.Given as goal

abbrev pub invariant-loop-place : goal.invariant-loop-place
invariant-loop-place g l = record {
  size : length l.leaders ≡ 8;
  are : (labels : List (List ℕ)) (f : TupleSymbol) → AreTurnedKids (g.K.LabelKeys.view l.views.keys.now) (g.K.LabelKeys.key l.views.keys.now) labels f l.views.views.views.items l.views.places l.ranks l.kids
      → (j : ℕ) → j < l.place → get_or l.leaders j 0 ≡ leaders_by (keys_by (g.K.LabelKeys.view l.views.keys.now) (g.K.LabelKeys.key l.views.keys.now)) labels f j (get_or l.kids j 0);
}
