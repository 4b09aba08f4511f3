-- To believe: what a place asks of the label of a projection's child: each of the body's views there once, with the column absent and with each symbol in it, and the presence of the states there; and the key by this: for each of the views the leader of the state with the column absent, or where the column has such a child, the leaders of the states of the label's set.
use Rattle.std.specs.Prelude.{ℕ, zero, suc, ◌+◌, ◌-◌, ◌*◌, ◌/◌, ◌%◌, ◌^◌, List, [], ◌∷◌, ◌++◌, length, take, get_or, Option, None, Some, Bool, false, ◌&&◌, ◌==◌, nat_lt, if◌then◌else◌}
use Rattle.std.specs.List.{insert, list_any, flat_map}
use Rattle.fort_theory.specs.Signatures.{Signature}
use Rattle.fort_tables.specs.Tuples.{TupleSymbol, arity, symbol_kids, kid_presence}
use Rattle.fort_tables.specs.Tables.{Table}
use Rattle.fort_tables.specs.Projections.{absent_state, has_state}
use Rattle.fort_operand_keys.specs.ProjectionKeys.{leader_row}
use Rattle.fort_table_classes.specs.KnownSymbols.{are_symbols}

-- whether the symbol has a column less than the body, symbols of its signature, and such a child
abbrev pub has_child : Table → TupleSymbol → ℕ → Bool
has_child body f j = (length f == body.columns - 1) && (are_symbols body.signature f && nat_lt j (symbol_kids body.signature f))

-- whether the column has such a child
abbrev pub column_has_child : Signature → Option ℕ → ℕ → Bool
column_has_child sig None j = false
column_has_child sig (Some g) j = nat_lt j (arity sig g)

-- the body's view with this in column c: twice its number, and one more where the column has such a child
abbrev pub view_word : (TupleSymbol → ℕ → ℕ) → Table → ℕ → TupleSymbol → ℕ → Option ℕ → ℕ
view_word number body c f j x = 2 * number (insert f c x) j + (if column_has_child body.signature x j then 1 else 0)

-- a word behind the others, if it isn't there yet
abbrev pub with_word : List ℕ → ℕ → List ℕ
with_word ws x = if list_any (λ y. y == x) ws then ws else ws ++ x ∷ []

-- the words of the views with the column absent, and with each of the first n symbols in it
abbrev pub view_words : (TupleSymbol → ℕ → ℕ) → Table → ℕ → TupleSymbol → ℕ → ℕ → List ℕ
view_words number body c f j zero = view_word number body c f j None ∷ []
view_words number body c f j (suc n) = with_word (view_words number body c f j n) (view_word number body c f j (Some n))

-- with those of all symbols, and behind them the presence of the states that stand there with the column absent; none where there is no such child
abbrev pub projection_view : (TupleSymbol → ℕ → ℕ) → Table → ℕ → TupleSymbol → ℕ → List ℕ
projection_view number body c f j =
    if has_child body f j then view_words number body c f j (length body.signature) ++ kid_presence body.signature (insert f c None) j ∷ [] else []

-- the leader of a state of this presence; any other number is its own
abbrev pub leader_word : Table → (ℕ → ℕ → ℕ) → ℕ → ℕ → ℕ → ℕ
leader_word body leader view presence q = if nat_lt q (length body.presences) && (get_or body.presences q 0 == presence) then leader view q else q

-- whether the state has this presence, and its bit is set; bit `first` of the label's set is that of state 0
abbrev pub is_member : Table → ℕ → ℕ → List ℕ → ℕ → Bool
is_member body presence first w q = (get_or body.presences q 0 == presence) && has_state w (first + q)

-- the leaders of such states, as a row of bits
abbrev pub member_row : Table → (ℕ → ℕ → ℕ) → ℕ → ℕ → ℕ → List ℕ → List ℕ
member_row body leader view presence first w = leader_row (length body.presences) (leader view) (is_member body presence first w)

-- those of the label's set, and where it has a second set behind the first, of that
abbrev pub member_rows : Table → (ℕ → ℕ → ℕ) → Bool → ℕ → ℕ → List ℕ → List ℕ
member_rows body leader both view presence w =
    if both then member_row body leader view presence 0 w ++ member_row body leader view presence (length body.presences) w else member_row body leader view presence 0 w

-- the presence of the states in the view of this word, by that with the column absent
abbrev pub presence_in : ℕ → ℕ → ℕ → ℕ
presence_in c presence word = if word % 2 == 0 then presence else presence + 2 ^ c

-- what the view of this word asks
abbrev pub part_key : Table → (ℕ → ℕ → ℕ) → ℕ → Bool → ℕ → List ℕ → ℕ → List ℕ
part_key body leader c both presence w word =
    if word % 2 == 0 then leader_word body leader (word / 2) presence (absent_state w) ∷ [] else member_rows body leader both (word / 2) (presence + 2 ^ c) w

abbrev pub key_in_view : Table → (ℕ → ℕ → ℕ) → ℕ → Bool → List ℕ → List ℕ → List ℕ
key_in_view body leader c both seen w = flat_map (part_key body leader c both (get_or seen (length seen - 1) 0) w) (take (length seen - 1) seen)
