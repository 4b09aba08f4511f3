-- Inside: what the fields of a maker stand for.
use Rattle.std.specs.Prelude.{◌≡◌, ℕ, ◌<◌, ◌≤◌, ◌^◌, List, length}
use Rattle.fort_theory.specs.Signatures.{Signature}
use Rattle.fort_tables.specs.Tables.{Made}
use Rattle.fort_entry_walk.specs.WalkPlaces.{AreArities, place, entry_at, IsPlace}
use Rattle.fort_table.specs.EntryListFacts.{AreSpans}
use Rattle.fort_lockstep.specs.Fronts.{front_of}
use Rattle.fort_lockstep.specs.StateFacts.{first_entries_in, AreFirsts}
use Rattle.fort_lockstep.specs.Making.{Parts, made_of, IsMaking, Stands}
use Rattle.fort_lockstep.specs.declared.states.States.{States}
use Rattle.fort_lockstep.specs.declared.maker.Maker.TheInside.{Inside}

-- the entries that have a target are the first ones there are, as many as targets
abbrev pub parts_with : Signature → ℕ → States → List ℕ → Parts
parts_with sig columns s targets = record {
  presences = s.presences.items;
  firsts = s.firsts.items;
  entries = front_of sig columns s.presences.items (length targets);
  targets = targets;
}

abbrev pub parts_in : Inside → Parts
parts_in a = parts_with a.signature a.columns a.states a.targets.items

abbrev pub made_in : Inside → Made
made_in a = made_of a.signature a.columns (parts_in a)

pub record IsMaker (a : Inside) : Type 0 where
  pub some : 0 < a.columns
  pub narrow : a.columns ≤ 16
  pub few : length a.states.presences.items < 2 ^ 32
  pub width : length a.walk.digits ≡ a.columns
  pub placed : IsPlace a.signature (place a.walk)
  pub row : a.row ≡ entry_at (place a.walk)
  pub arities : AreArities a.signature a.walk.arities
  pub spans : AreSpans a.states.first_entries.numbers.items a.states.first_entries.spans.items
  pub firsts : AreFirsts (parts_in a).entries a.states.firsts.items (first_entries_in a.states)
  pub making : IsMaking a.signature a.columns a.states.presences.items a.states.firsts.items (parts_in a).entries a.targets.items
  pub stands : Stands (made_in a) (entry_at (place a.walk)) a.is_due
