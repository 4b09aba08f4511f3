-- To believe: the local rule of an atom of a relation expression, by its columns, its number of holes and their place: a label is the presence, then a bit for each left state, each right state and each fact, from the root symbols and the bits of the children; and which labels are accepted.
use Rattle.std.specs.Prelude.{ℕ, suc, ◌+◌, ◌-◌, List, [], ◌∷◌, map, length, drop, Option, None, Some, get_or, Bool, false, ◌&&◌, ◌||◌, ◌==◌, nat_lt, if◌then◌else◌}
use Rattle.fort_theory.specs.Signatures.{Signature}
use Rattle.fort_tables.specs.Tuples.{presence}
use Rattle.fort_tables.specs.BitRows.{has_bit, bit_row}
use Rattle.fort_tables.specs.LabelRules.{LabelRule}
use Rattle.fort_alike.specs.AtomRules.{all_kids, one_kid, some_kid, same_roots}
use Rattle.fort_theory.specs.Contexts.{HoleNumber, OneHole, SomeHoles, AnyHoles, HolePlace, AtTheRoot, BelowTheRoot, AnyPlace}
use Rattle.fort_alike.specs.ExpressionAlike.{ExpressionAtom, PairFact, Same, Anywhere, Below, facts_for}
use Rattle.fort_alike.specs.ExpressionStates.{Truths, NodeStates, ExpressionStates}

-- what an atom's labels are computed from, besides the states: the columns, how many holes and where
pub record ExpressionShape : Type 0 where
  pub columns : ℕ
  pub first : ℕ
  pub second : ℕ
  pub number : HoleNumber
  pub place : HolePlace

abbrev pub shape_of : ExpressionAtom → ExpressionShape
shape_of a = record { columns = a.columns; first = a.first; second = a.second; number = a.number; place = a.place }

abbrev pub holes_code : HoleNumber → ℕ
holes_code OneHole = 1
holes_code SomeHoles = 2
holes_code AnyHoles = 3

abbrev pub fact_number : PairFact → ℕ
fact_number Same = 0
fact_number (Anywhere n) = holes_code n
fact_number (Below n) = 3 + holes_code n

-- the place of a fact among some, its first one
abbrev pub fact_place : List PairFact → PairFact → ℕ
fact_place [] k = 0
fact_place (x ∷ xs) k = if fact_number x == fact_number k then 0 else suc (fact_place xs k)

-- first the left states, then the right ones, then the facts
abbrev pub truth_at : ℕ → ℕ → List PairFact → Truths → Truths → (PairFact → Bool) → Truths
truth_at lefts rights facts left right fact k =
    if nat_lt k lefts then left k else (if nat_lt k (lefts + rights) then right (k - lefts) else get_or (map fact facts) (k - (lefts + rights)) false)

-- a label, 64 bits to a word
abbrev pub label_row : ℕ → ℕ → List PairFact → ℕ → Truths → Truths → (PairFact → Bool) → List ℕ
label_row lefts rights facts n left right fact = n ∷ bit_row (lefts + rights + length facts) (truth_at lefts rights facts left right fact)

-- and its bits
abbrev pub left_bit : List ℕ → Truths
left_bit w k = has_bit (drop 1 w) k

abbrev pub right_bit : ℕ → List ℕ → Truths
right_bit lefts w k = has_bit (drop 1 w) (lefts + k)

abbrev pub fact_bit : ℕ → ℕ → List PairFact → PairFact → List ℕ → Bool
fact_bit lefts rights facts k w = has_bit (drop 1 w) (lefts + rights + fact_place facts k)

-- the states of a component that is there
abbrev pub states_at : NodeStates → Option ℕ → List Truths → Truths
states_at states None rows k = false
states_at states (Some f) rows k = states.step f rows k

-- some pair has its left state here and its right one there
abbrev pub some_pair : Truths → Truths → List (ℕ × ℕ) → Bool
some_pair left right [] = false
some_pair left right (p ∷ ps) = (left p.0 && right p.1) || some_pair left right ps

-- one child by one hole and the others equal; each child by any number of holes, and some child by at least one; each by any
abbrev pub kids_test : (PairFact → List ℕ → Bool) → HoleNumber → List (List ℕ) → Bool
kids_test bit OneHole ws = one_kid (bit (Anywhere OneHole)) (bit Same) ws
kids_test bit SomeHoles ws = all_kids (bit (Anywhere AnyHoles)) ws && some_kid (bit (Anywhere SomeHoles)) ws
kids_test bit AnyHoles ws = all_kids (bit (Anywhere AnyHoles)) ws

-- a pair at the root, or one root symbol and the children; `root` tells whether some pair is at the root
abbrev pub fact_step : (PairFact → List ℕ → Bool) → Bool → Option ℕ → Option ℕ → List (List ℕ) → PairFact → Bool
fact_step bit root x y ws Same = same_roots x y && all_kids (bit Same) ws
fact_step bit root x y ws (Anywhere number) = root || (same_roots x y && kids_test bit number ws)
fact_step bit root x y ws (Below number) = same_roots x y && kids_test bit number ws

abbrev pub facts_of : ExpressionShape → List PairFact
facts_of shape = facts_for shape.number shape.place

abbrev pub bit_of : ExpressionShape → ExpressionStates → PairFact → List ℕ → Bool
bit_of shape states = fact_bit states.left.count states.right.count (facts_of shape)

-- how many bits a label has
abbrev pub bit_count : ExpressionShape → ExpressionStates → ℕ
bit_count shape states = states.left.count + states.right.count + length (facts_of shape)

abbrev pub left_step : ExpressionStates → Option ℕ → List (List ℕ) → Truths
left_step states x ws = states_at states.left x (map left_bit ws)

abbrev pub right_step : ExpressionStates → Option ℕ → List (List ℕ) → Truths
right_step states y ws = states_at states.right y (map (right_bit states.left.count) ws)

abbrev pub node_row : ExpressionShape → ExpressionStates → ℕ → Option ℕ → Option ℕ → List (List ℕ) → List ℕ
node_row shape states n x y ws =
    label_row states.left.count states.right.count (facts_of shape) n (left_step states x ws) (right_step states y ws)
    (fact_step (bit_of shape states) (some_pair (left_step states x ws) (right_step states y ws) states.pairs) x y ws)

abbrev pub expression_rule : Signature → ExpressionShape → ExpressionStates → LabelRule
expression_rule signature shape states = record {
  signature = signature;
  columns = shape.columns;
  step = λ f ws. node_row shape states (presence f) (get_or f shape.first None) (get_or f shape.second None) ws;
}

-- whether a label without absent columns is accepted
abbrev pub accepts_at : (PairFact → Bool) → Bool → HoleNumber → HolePlace → Bool
accepts_at fact root OneHole AtTheRoot = root
accepts_at fact root SomeHoles AtTheRoot = root
accepts_at fact root AnyHoles AtTheRoot = root || fact Same
accepts_at fact root number BelowTheRoot = fact (Below number)
accepts_at fact root number AnyPlace = fact (Anywhere number)

abbrev pub expression_accepts : ExpressionShape → ExpressionStates → List ℕ → Bool
expression_accepts shape states w =
    accepts_at (λ k. bit_of shape states k w) (some_pair (left_bit w) (right_bit states.left.count w) states.pairs) shape.number shape.place
