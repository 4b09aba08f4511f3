-- Inside: the moves, silent moves and pairs by the states that they lead from.
use Rattle.std.specs.Prelude.{◌≡◌, ℕ, ◌<◌, List, length, Contains}
use Rattle.fort_tree_automata.specs.declared.nta.Move.{Move}
use Rattle.fort_transducers.specs.declared.agtt.Agtt.{Agtt}
use Rattle.fort_gtt_closure.specs.declared.groups.Groups.{Groups}
use Rattle.fort_gtt_closure.specs.declared.links.Links.{Links}
use Rattle.fort_gtt_closure.specs.Groups.{lists, group, AreByFirst}
use Rattle.fort_gtt_closure.specs.Scans.{targets}

-- the second numbers are below the count
abbrev pub AreWithin : ℕ → List (ℕ × ℕ) → Type 0
AreWithin count places = (place : ℕ × ℕ) → Contains places place → place.1 < count

-- for each state, the symbols and the targets of the moves that have it as a child
pub record AreUses (states : ℕ) (moves : List Move) (g : Groups) : Type 0 where
  pub count_same : length (lists g) ≡ states
  pub each : (move : Move) (state : ℕ) → Contains moves move → Contains move.kids.items state → state < states → Contains (group g state) (move.sym.0, move.target)

pub record Leads (agtt : Agtt) (links : Links) : Type 0 where
  pub right_targets : AreByFirst agtt.right.states (targets 0 agtt.right.moves.items) links.right_targets
  pub left_targets : AreByFirst agtt.left.states (targets 0 agtt.left.moves.items) links.left_targets
  pub right_uses : AreUses agtt.right.states agtt.right.moves.items links.right_uses
  pub left_uses : AreUses agtt.left.states agtt.left.moves.items links.left_uses
  pub right_silent : AreByFirst agtt.right.states agtt.right.silent.items links.right_silent
  pub left_silent : AreByFirst agtt.left.states agtt.left.silent.items links.left_silent
  pub pairs : AreByFirst agtt.left.states agtt.pairs.items links.pairs
