-- To believe: a tuple symbol's block has for each combination of classes the target of the entry over their leaders.
use Rattle.std.specs.Prelude.{◌≡◌, ℕ, ◌<◌, ◌≤◌, ◌^◌, List, [], map, length, get_or, Contains}
use Rattle.fort_tables.specs.Tuples.{TupleSymbol, tabulate}
use Rattle.fort_tables.specs.Entries.{Entry, entry}
use Rattle.fort_tables.specs.Tables.{target_in}
use Rattle.fort_class_blocks.specs.Blocks.{Block, AreClasses, target_of}
use Rattle.fort_target_lists.specs.ClassLists.{leaders_in}
use Rattle.fort_target_lists.specs.declared.class_list.ClassView.{ClassView}
use Rattle.fort_leading_tables.specs.EntryNumbers.{AreTargetsOf}
use Rattle.fort_leading_tables.specs.declared.leading_targets.LeadingTargets.{LeadingTargets}

-- the leaders of the views with these numbers
abbrev pub leaders_of : List ClassView → List ℕ → List (List ℕ)
leaders_of vs ns = map (λ n. get_or (map leaders_in vs) n []) ns

-- the leaders of a combination of classes
abbrev pub leaders_over : List (List ℕ) → List ℕ → List ℕ
leaders_over lss cs = tabulate (length lss) (λ j. get_or (get_or lss j []) (get_or cs j 0) 0)

-- numbers of views, one for each of a few places, whose leaders can be counted in a word
pub record ArePlaces (vs : List ClassView) (ns : List ℕ) : Type 0 where
  pub few : length ns ≤ 8
  pub views : (j : ℕ) → j < length ns → get_or ns j 0 < length vs
  pub leaders : (q : ℕ) → length (get_or (map leaders_in vs) q []) < 2 ^ 32

-- the entries over leaders have targets
pub record MayFill (columns : ℕ) (es : List Entry) (qs : List ℕ) (targets : LeadingTargets) (f : TupleSymbol) (lss : List (List ℕ)) : Type 0 where
  pub targets_are : AreTargetsOf columns es qs targets
  pub width : length f ≡ columns
  pub listed : (cs : List ℕ) → AreClasses (map length lss) cs → Contains es (entry f (leaders_over lss cs))

-- each combination has its target
pub record IsFilled (es : List Entry) (qs : List ℕ) (f : TupleSymbol) (lss : List (List ℕ)) (bs : List Block) (b : ℕ) : Type 0 where
  pub targets_are : (cs : List ℕ) → AreClasses (map length lss) cs → target_of bs b cs ≡ target_in es qs (entry f (leaders_over lss cs))
