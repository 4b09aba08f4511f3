-- To believe: the classes and the leaders of views that have taken up all states.
use Rattle.std.specs.Prelude.{◌≡◌, ℕ, ◌<◌, List, [], drop, length, get_or}
use Rattle.fort_views.specs.Views.{AreClasses}
use Rattle.fort_target_lists.specs.declared.class_list.ClassView.{ClassView}

-- those of a view of this sight: a presence, and what is asked of the labels
pub record IsClassView (key : List ℕ → List ℕ → List ℕ) (labels : List (List ℕ)) (sight : List ℕ) (v : ClassView) : Type 0 where
  pub keys : List (List ℕ)
  pub are : AreClasses key (drop 1 sight) labels (get_or sight 0 0) (length labels) keys v.leaders.items v.classes.items

-- one for each sight
pub record AreClassViews (key : List ℕ → List ℕ → List ℕ) (labels : List (List ℕ)) (sights : List (List ℕ)) (vs : List ClassView) : Type 0 where
  pub count : length vs ≡ length sights
  pub each : (q : ℕ) (v : ClassView) → q < length vs → v ≡ get_or vs q v → IsClassView key labels (get_or sights q []) v
