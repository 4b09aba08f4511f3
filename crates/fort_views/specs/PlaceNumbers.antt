-- Inside: what the fields of a symbol's numbers of views stand for.
use Rattle.std.specs.Prelude.{◌≡◌, ℕ, ◌≤◌, List, take, length}
use Rattle.fort_views.specs.declared.place_views.PlaceViews.TheInside.{Inside}

abbrev pub numbers_in : Inside → List ℕ
numbers_in a = take a.count a.numbers

pub record AreNumbers (a : Inside) : Type 0 where
  pub few : a.count ≤ 8
  pub room : length a.numbers ≡ 8
