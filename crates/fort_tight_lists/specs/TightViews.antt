-- To believe: views whose classes are renumbered; they go by the old view's number and the new numbers of its classes.
use Rattle.std.specs.Prelude.{◌≡◌, ℕ, ◌<◌, ◌≤◌, List, [], map, drop, length, get_or}
use Rattle.fort_target_lists.specs.ClassLists.{leaders_in, classes_in}
use Rattle.fort_target_lists.specs.declared.class_list.ClassView.{ClassView}

-- for each new number the first class that has it
pub record AreFirstsOf (numbers firsts : List ℕ) : Type 0 where
  pub within : (c : ℕ) → c < length numbers → get_or numbers c 0 < length firsts
  pub least : (c : ℕ) → c < length numbers → get_or firsts (get_or numbers c 0) 0 ≤ c
  pub firsts_low : (i : ℕ) → i < length firsts → get_or firsts i 0 < length numbers
  pub own : (i : ℕ) → i < length firsts → get_or numbers (get_or firsts i 0) 0 ≡ i

-- what stands in a list at each of these places
abbrev pub read_at : List ℕ → List ℕ → List ℕ
read_at xs places = map (λ p. get_or xs p 0) places

-- the classes and leaders of an old view, renumbered
pub record IsTightView (vs : List ClassView) (number : ℕ) (numbers firsts : List ℕ) (v : ClassView) : Type 0 where
  pub classes_are : v.classes.items ≡ read_at numbers (get_or (map classes_in vs) number [])
  pub leaders_are : v.leaders.items ≡ read_at (get_or (map leaders_in vs) number []) firsts

-- the same by the list that they go by
pub record IsKeyed (vs : List ClassView) (key : List ℕ) (v : ClassView) : Type 0 where
  pub firsts : List ℕ
  pub are : AreFirstsOf (drop 1 key) firsts
  pub tight : IsTightView vs (get_or key 0 0) (drop 1 key) firsts v

pub record AreTightViews (vs : List ClassView) (keys : List (List ℕ)) (tight : List ClassView) : Type 0 where
  pub count : length keys ≡ length tight
  pub each : (q : ℕ) (v : ClassView) → q < length tight → v ≡ get_or tight q v → IsKeyed vs (get_or keys q []) v

-- the view of this number is that one
pub record IsTightAt (vs tight : List ClassView) (number : ℕ) (numbers firsts : List ℕ) (n : ℕ) : Type 0 where
  pub low : n < length tight
  pub is : (v : ClassView) → v ≡ get_or tight n v → IsTightView vs number numbers firsts v
