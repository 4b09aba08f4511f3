use Rattle.std.proofs.Common.{◌≡◌, ℕ, ◌<◌, ◌≤◌, [], map, length, get_or}
use Rattle.fort_views.specs.SymbolViews.{sight}
use Rattle.fort_views.specs.declared.view.View.{View}
use Rattle.fort_target_lists.specs.declared.class_list.ClassView.{ClassView}
use Rattle.fort_class_targets.specs.TakenViews.{IsClassView}
use Rattle.fort_class_targets.proofs.taken.class_views.Given as goal

abbrev pub invariant-loop-number : goal.invariant-loop-number
invariant-loop-number g l = record {
  size : length l.views.items ≡ length l.initial.views.items;
  left : (q : ℕ) (d : View) → l.number ≤ q → get_or l.views.items q d ≡ get_or l.initial.views.items q d;
  count : length l.taken.items ≡ l.number;
  made : (q : ℕ) (v : ClassView) → q < l.number → v ≡ get_or l.taken.items q v → IsClassView (g.K.LabelKeys.key l.keys) l.rows.labels (get_or (map sight l.initial.views.items) q []) v;
}
