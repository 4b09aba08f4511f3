use Rattle.std.proofs.Common.{◌≡◌, ℕ, ◌<◌, get_or, length}
use Rattle.fort_target_lists.specs.ClassLists.{class_in, view_of}
use Rattle.fort_target_lists.proofs.class_list.ClassList.kid_classes.Given as goal

abbrev pub invariant-loop-place : goal.invariant-loop-place
invariant-loop-place l = record {
  size : length l.classes ≡ 8;
  are : (j : ℕ) → j < l.place → get_or l.classes j 0 ≡ class_in l.self (view_of l.self l.number j) (get_or l.kids j 0);
}
