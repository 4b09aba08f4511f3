-- Inside: one side of the labels of an expression: the moves of an automaton as patterns and targets, and for each state the row of those that it leads to.
use Rattle.std.specs.Prelude.{◌≡◌, ℕ, ◌+◌, ◌^◌, ◌<◌, ◌≤◌, List, [], ◌∷◌, ◌++◌, map, length, get_or, Contains, Option, None, Some, Bool, true, ◌&&◌, vec_items}
use Rattle.std.specs.List.{list_any}
use Rattle.fort_alike.specs.PatternNumbers.{PatternNumber, number_inside}
use Rattle.fort_tree_automata.specs.NtaView.{MoveParts, moves_of}
use Rattle.fort_tree_automata.specs.declared.nta.Nta.{Nta}
use Rattle.fort_label_bits.specs.RowBits.{bit_of}
use Rattle.fort_label_bits.specs.BitRowLists.{row_in}
use Rattle.fort_label_bits.specs.RootPlaces.{IsRooted, root_of}
use Rattle.fort_relation_exprs.specs.declared.side.Side.{Side}
use Rattle.fort_relation_exprs.specs.declared.side.SideMove.{SideMove}

abbrev pub move_in : SideMove → PatternNumber × ℕ
move_in m = (m.pattern, m.target)

abbrev pub moves_in : Side → List (PatternNumber × ℕ)
moves_in side = map move_in side.moves.items

abbrev pub leads_in : Side → List (List ℕ)
leads_in side = map vec_items side.leads.items

-- by the bits, which begin at this one
abbrev pub leads_to : ℕ → Side → ℕ → ℕ → Bool
leads_to base side p k = bit_of (base + k) (row_in (leads_in side) p)

-- a move of the automaton, and the state that takes every term
abbrev pub numbered_move : MoveParts → PatternNumber × ℕ
numbered_move m = (Some (m.0, m.1), m.2)

abbrev pub any_moves : Option ℕ → List (PatternNumber × ℕ)
any_moves None = []
any_moves (Some q) = (None, q) ∷ []

abbrev pub numbered_moves : Nta → List (PatternNumber × ℕ)
numbered_moves nta = any_moves nta.any ++ map numbered_move (moves_of nta)

abbrev pub move_roots : List (PatternNumber × ℕ) → List (Option ℕ)
move_roots moves = map (λ (m : PatternNumber × ℕ). root_of m.0) moves

-- the states' bits begin at this one, in rows of so many words
pub record IsSide (base width : ℕ) (side : Side) : Type 0 where
  pub few : side.count < 2 ^ 32
  pub rooted : IsRooted (move_roots (moves_in side)) side.roots
  pub targets : (m : PatternNumber × ℕ) → Contains (moves_in side) m → m.1 < length (leads_in side)
  pub widths : (p : ℕ) → p < length (leads_in side) → length (row_in (leads_in side) p) ≡ width
  pub inside : (p q : ℕ) → bit_of q (row_in (leads_in side) p) ≡ true → (base ≤ q) × (q < base + side.count)

-- whether a move adds a bit at a node with this root, over these labels of the children
abbrev pub move_adds : ℕ → List (List ℕ) → Option ℕ → List (List ℕ) → ℕ → PatternNumber × ℕ → Bool
move_adds base leads x ws q m = number_inside base m.0 x ws && bit_of q (row_in leads m.1)

-- whether some move does
abbrev pub side_adds : ℕ → List (PatternNumber × ℕ) → List (List ℕ) → Option ℕ → List (List ℕ) → ℕ → Bool
side_adds base moves leads x ws q = list_any (move_adds base leads x ws q) moves

abbrev pub no_move : PatternNumber × ℕ
no_move = (None, 0)

-- whether the move at this place does
abbrev pub adds_at : ℕ → List (PatternNumber × ℕ) → List (List ℕ) → Option ℕ → List (List ℕ) → ℕ → ℕ → Bool
adds_at base moves leads x ws q k = move_adds base leads x ws q (get_or moves k no_move)
