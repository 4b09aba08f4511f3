-- Inside: what the targets of all entries are read off: the classes of the states, and the targets of the leading entries.
use Rattle.std.specs.Prelude.{◌≡◌, ℕ, ◌<◌, ◌≤◌, List, map, length, get_or}
use Rattle.fort_tables.specs.Tuples.{TupleSymbol}
use Rattle.fort_tables.specs.Tables.{Made}
use Rattle.fort_tables.specs.Labels.{first_word}
use Rattle.fort_classes.specs.Keys.{leaders_by}
use Rattle.fort_classes.specs.LedTables.{IsLeadingMade, IsLeadingComplete}
use Rattle.fort_label_keys.specs.ViewKeys.{keys_by}
use Rattle.fort_views.specs.SymbolViews.{AreViewsOf, IsTurnedTo, IsStateAt}
use Rattle.fort_views.specs.Ranks.{AreRanks}
use Rattle.fort_views.specs.declared.view.View.{View}
use Rattle.fort_views.specs.declared.views.Views.{Views}
use Rattle.fort_leading_tables.specs.EntryNumbers.{AreTargetsOf}
use Rattle.fort_leading_tables.specs.declared.leading_targets.LeadingTargets.{LeadingTargets}

-- views and ranks of the states with these labels, and the target of each leading entry over them
pub record AreLedTargets (view : TupleSymbol → ℕ → List ℕ) (key : List ℕ → List ℕ → List ℕ) (labels : List (List ℕ)) (m : Made) (views : Views) (presences ranks : List ℕ) (targets : LeadingTargets) : Type 0 where
  pub until : ℕ
  pub known : AreViewsOf view key m.signature m.columns labels until views
  pub within : until ≤ length labels
  pub presences_are : m.presences ≡ presences
  pub by_labels : m.presences ≡ map first_word labels
  pub ranks_are : AreRanks presences ranks
  pub targets_are : AreTargetsOf m.columns m.entries m.targets targets
  pub made : IsLeadingMade (leaders_by (keys_by view key) labels) m
  pub complete : IsLeadingComplete (leaders_by (keys_by view key) labels) m

-- the views are turned to the symbol of an entry with these children
pub record AreTurnedKids (view : TupleSymbol → ℕ → List ℕ) (key : List ℕ → List ℕ → List ℕ) (labels : List (List ℕ)) (f : TupleSymbol) (vs : List View) (places ranks kids : List ℕ) : Type 0 where
  pub newest : ℕ
  pub wanted : List ℕ
  pub turned : IsTurnedTo view key labels newest f wanted vs places
  pub ranks_are : AreRanks (map first_word labels) ranks
  pub states : (j : ℕ) → j < length kids → IsStateAt labels newest wanted j (get_or kids j 0)
