-- Inside: what the fields of the labels of an expression's atom stand for, and what they are made from.
use Rattle.std.specs.Prelude.{◌≡◌, ℕ, ◌+◌, ◌<◌, suc, map, Contains, Bool, true, false, vec_items}
use Rattle.fort_theory.specs.Contexts.{HoleNumber, OneHole, SomeHoles, AnyHoles, HolePlace}
use Rattle.fort_tables.specs.BitRows.{words_for}
use Rattle.fort_tree_automata.specs.NtaView.{automaton_of}
use Rattle.fort_transducers.specs.declared.agtt.Agtt.{Agtt}
use Rattle.fort_relations.specs.HolesView.{as_hole_number, as_hole_place}
use Rattle.fort_alike.specs.ListedAtoms.{AreArguments}
use Rattle.fort_alike.specs.ExpressionRules.{ExpressionShape}
use Rattle.fort_alike.specs.AutomatonMoves.{AreMovesOf}
use Rattle.fort_label_bits.specs.RowBits.{bit_of}
use Rattle.fort_label_bits.specs.BitRowLists.{row_in}
use Rattle.fort_label_bits.specs.RuleLefts.{AreUnderLefts}
use Rattle.fort_label_bits.specs.declared.arguments.Arguments.{Arguments}
use Rattle.fort_label_bits.specs.declared.rule_places.RulePlaces.{RulePlaces}
use Rattle.fort_relation_exprs.specs.declared.side.Side.{Side}
use Rattle.fort_relation_exprs.specs.declared.labels.RexLabels.TheInside.{Inside}
use Rattle.fort_relation_exprs.specs.RexSeen.{SideSeen, RexSeen}
use Rattle.fort_relation_exprs.specs.Sides.{moves_in, leads_in, IsSide}

abbrev pub is_any_number : HoleNumber → Bool
is_any_number OneHole = false
is_any_number SomeHoles = false
is_any_number AnyHoles = true

-- a pair of states, as places
abbrev pub place_pair : RulePlaces → ℕ × ℕ
place_pair r = (r.left, r.right)

abbrev pub pair_place : ℕ × ℕ → RulePlaces
pair_place p = record { left = p.0; right = p.1 }

abbrev pub side_seen : Side → SideSeen
side_seen side = record { count = side.count; moves = moves_in side; leads = leads_in side }

abbrev pub shape_in : HoleNumber → HolePlace → Arguments → ExpressionShape
shape_in number place arguments = record {
  columns = arguments.columns;
  first = arguments.first;
  second = arguments.second;
  number = number;
  place = place;
}

abbrev pub rex_seen : Inside → RexSeen
rex_seen b = record {
  shape = shape_in (as_hole_number b.holes) (as_hole_place b.place) b.arguments;
  left = side_seen b.left;
  right = side_seen b.right;
  pairs = map place_pair b.pairs.items;
}

pub record IsRex (b : Inside) : Type 0 where
  pub arguments : AreArguments b.arguments.columns b.arguments.first b.arguments.second
  pub left : IsSide 0 (suc (words_for b.left.count)) b.left
  pub right : IsSide b.left.count (suc (words_for (b.left.count + b.right.count))) b.right
  pub pairs : (r : RulePlaces) → Contains b.pairs.items r → (r.left < b.left.count) × (r.right < b.right.count)
  pub under : AreUnderLefts b.pairs.items (map vec_items b.under.items)

-- as many states on either side, the same moves and pairs
pub record IsOfTransducer (agtt : Agtt) (number : HoleNumber) (place : HolePlace) (arguments : Arguments) (l : RexSeen) : Type 0 where
  pub shape : l.shape ≡ shape_in number place arguments
  pub lefts : l.left.count ≡ agtt.left.states
  pub rights : l.right.count ≡ agtt.right.states
  pub left : AreMovesOf (automaton_of agtt.left) agtt.left.states l.left.moves (λ p k. bit_of k (row_in l.left.leads p))
  pub right : AreMovesOf (automaton_of agtt.right) agtt.right.states l.right.moves (λ p k. bit_of (l.left.count + k) (row_in l.right.leads p))
  pub pairs : l.pairs ≡ agtt.pairs.items
