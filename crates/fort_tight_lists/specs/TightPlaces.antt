-- To believe: the renumbered views of the places under a tuple symbol.
use Rattle.std.specs.Prelude.{◌≡◌, ℕ, ◌<◌, ◌≤◌, List, [], ◌++◌, length, get_or}
use Rattle.fort_class_blocks.specs.Blocks.{Block}
use Rattle.fort_target_lists.specs.declared.class_list.ClassView.{ClassView}
use Rattle.fort_tight_lists.specs.Slices.{IsRenumbering}
use Rattle.fort_tight_lists.specs.TightViews.{IsTightAt}

-- the classes of the first places have new numbers, by the views with these numbers behind the others
pub record HasTightPlaces (bs : List Block) (b : ℕ) (counts : List ℕ) (vs old new : List ClassView) (views before after : List ℕ) (firsts : List (List ℕ)) (n : ℕ) : Type 0 where
  pub numbers : List (List ℕ)
  pub numbers_all : length numbers ≡ n
  pub firsts_all : length firsts ≡ n
  pub added : List ℕ
  pub added_all : length added ≡ n
  pub after_is : after ≡ before ++ added
  pub more : List ClassView
  pub views_are : new ≡ old ++ more
  pub few : length more ≤ n
  pub each : (j : ℕ) → j < n → IsRenumbering bs b counts j (get_or numbers j []) (get_or firsts j [])
  pub tight : (j : ℕ) → j < n → IsTightAt vs new (get_or views j 0) (get_or numbers j []) (get_or firsts j []) (get_or added j 0)
