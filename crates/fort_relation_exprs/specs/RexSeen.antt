-- To believe: what the labels of an atom of an expression are seen as: the shape of the atom, the moves of either side with a row for each state of what it leads to by silent moves, and pairs of states; and the states of a node that these tell.
use Rattle.std.specs.Prelude.{◌≡◌, ℕ, ◌+◌, List, [], ◌∷◌, get_or, refl}
use Rattle.std.specs.Coded.{Coded, code_by, coded×, coded_list, coded_ℕ, coded_option}
use Rattle.fort_relations.specs.HolesCode.{hole_number_code, hole_place_code, hole_number_at, hole_place_at, hole_number_again, hole_place_again}
use Rattle.fort_alike.specs.PatternNumbers.{PatternNumber}
use Rattle.fort_alike.specs.ExpressionRules.{ExpressionShape}
use Rattle.fort_alike.specs.ExpressionStates.{ExpressionStates}
use Rattle.fort_alike.specs.MoveStates.{move_states}
use Rattle.fort_label_bits.specs.RowBits.{bit_of}
use Rattle.fort_label_bits.specs.BitRowLists.{row_in}

-- so many states; a move is a pattern over the children's states with a target; for each state the row of the bits of those that it
-- leads to by silent moves, itself included
pub record SideSeen : Type 0 where
  pub count : ℕ
  pub moves : List (PatternNumber × ℕ)
  pub leads : List (List ℕ)

pub record RexSeen : Type 0 where
  pub shape : ExpressionShape
  pub left : SideSeen
  pub right : SideSeen
  pub pairs : List (ℕ × ℕ)

-- the bits of the left states come first, then those of the right ones
abbrev pub states_of : RexSeen → ExpressionStates
states_of l = record {
  left = move_states l.left.count l.left.moves (λ p k. bit_of k (row_in l.left.leads p));
  right = move_states l.right.count l.right.moves (λ p k. bit_of (l.left.count + k) (row_in l.right.leads p));
  pairs = l.pairs;
}

-- ---- as lists of numbers, from which they are read again

abbrev pub shape_numbers : ExpressionShape → List ℕ
shape_numbers s = s.columns ∷ s.first ∷ s.second ∷ hole_number_code s.number ∷ hole_place_code s.place ∷ []

abbrev pub shape_back : List ℕ → ExpressionShape
shape_back ns = record {
  columns = get_or ns 0 0;
  first = get_or ns 1 0;
  second = get_or ns 2 0;
  number = hole_number_at (get_or ns 3 0);
  place = hole_place_at (get_or ns 4 0);
}

pub shape_again : (s : ExpressionShape) → shape_back (shape_numbers s) ≡ s
shape_again s = λ i. record {
  columns = s.columns;
  first = s.first;
  second = s.second;
  number = hole_number_again s.number i;
  place = hole_place_again s.place i;
}

abbrev pub shape_code : Coded ExpressionShape
shape_code = code_by (List ℕ) (coded_list coded_ℕ) shape_numbers shape_back shape_again

abbrev pub side_code : Coded SideSeen
side_code =
    code_by ((ℕ × List (PatternNumber × ℕ)) × List (List ℕ))
    (coded× (coded× coded_ℕ (coded_list (coded× (coded_option (coded× coded_ℕ (coded_list coded_ℕ))) coded_ℕ))) (coded_list (coded_list coded_ℕ)))
    (λ (s : SideSeen). ((s.count, s.moves), s.leads)) (λ w. record { count = w.0.0; moves = w.0.1; leads = w.1 }) (λ _. refl)

abbrev pub rex_code : Coded RexSeen
rex_code =
    code_by (((ExpressionShape × SideSeen) × SideSeen) × List (ℕ × ℕ))
    (coded× (coded× (coded× shape_code side_code) side_code) (coded_list (coded× coded_ℕ coded_ℕ)))
    (λ (l : RexSeen). (((l.shape, l.left), l.right), l.pairs)) (λ w. record { shape = w.0.0.0; left = w.0.0.1; right = w.0.1; pairs = w.1 }) (λ _. refl)
