-- Inside: a listed subterm as a node, by its number, its symbol and its children's numbers; the node with a symbol and some numbers.
use Rattle.std.specs.Prelude.{◌≡◌, ◌⊎◌, ℕ, List, [], map, Contains, Option, None, Some, get_or}
use Rattle.std.specs.Map.{lookup, count_at}
use Rattle.fort_theory.specs.Trees.{Tree, Node}
use Rattle.fort_terms.specs.TermKeys.{tree_eq}
use Rattle.fort_alike.specs.TermRule.{number_in, numbers, number_word}

-- each tree has its number in the list at it, and those that aren't there have none
abbrev pub AreNumbersIn : List Tree → List (Tree × ℕ) → Type 0
AreNumbersIn listed entries = (v : Tree) → count_at (λ t. lookup (tree_eq t) entries) v ≡ number_in listed v

pub record TermNode : Type 0 where
  pub number : ℕ
  pub symbol : ℕ
  pub kids : List ℕ

abbrev pub node_for : List Tree → Tree → TermNode
node_for listed (Node f ss) = record { number = number_in listed (Node f ss); symbol = f; kids = numbers listed ss }

-- the nodes of the listed trees, in any order, repeats or not
pub record AreNodesOf (listed : List Tree) (nodes : List TermNode) : Type 0 where
  pub each : (node : TermNode) → Contains nodes node → (v : Tree) × Contains listed v × (node ≡ node_for listed v)
  pub all : (v : Tree) → Contains listed v → Contains nodes (node_for listed v)

-- the numbers that the labels of these states tell
abbrev pub numbers_told : List (List ℕ) → List ℕ → List ℕ
numbers_told labels kids = map (λ q. number_word (get_or labels q [])) kids

abbrev pub IsNode : ℕ → List ℕ → TermNode → Type 0
IsNode f ns node = (node.symbol ≡ f) × (node.kids ≡ ns)

abbrev pub AreNoNode : List TermNode → ℕ → List ℕ → Type 0
AreNoNode nodes f ns = (node : TermNode) → Contains nodes node → IsNode f ns node → ⊥

-- a node's number, or 0 where there is no such node
abbrev pub IsNumberOver : List TermNode → ℕ → List ℕ → ℕ → Type 0
IsNumberOver nodes f ns n = ((node : TermNode) × Contains nodes node × IsNode f ns node × (n ≡ node.number)) ⊎ ((n ≡ 0) × AreNoNode nodes f ns)

-- 0 for an absent column too
abbrev pub IsNodeNumber : List TermNode → Option ℕ → List ℕ → ℕ → Type 0
IsNodeNumber nodes None ns n = n ≡ 0
IsNodeNumber nodes (Some f) ns n = IsNumberOver nodes f ns n
