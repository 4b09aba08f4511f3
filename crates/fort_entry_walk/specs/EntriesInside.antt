-- Inside: what the fields of a walk through the entries stand for.
use Rattle.std.specs.Prelude.{◌≡◌, ◌≤◌, length}
use Rattle.fort_entry_walk.specs.WalkPlaces.{AreArities, place, entry_at, IsPlace}
use Rattle.fort_entry_walk.specs.EntriesView.{Walking}
use Rattle.fort_entry_walk.specs.declared.entries.Entries.TheInside.{Inside}

abbrev pub walking_in : Inside → Walking
walking_in a = record { signature = a.signature.now; columns = length a.walk.digits; last = entry_at (place a.walk) }

pub record IsWalking (a : Inside) : Type 0 where
  pub narrow : length a.walk.digits ≤ 16
  pub row : a.row ≡ entry_at (place a.walk)
  pub place : IsPlace a.signature.now (place a.walk)
  pub arities : AreArities a.signature.now a.walk.arities
