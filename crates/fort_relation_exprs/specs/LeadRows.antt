-- Inside: for each state of an automaton a row of bits, which gets the bits of the rows that the state leads to by silent moves.
use Rattle.std.specs.Prelude.{◌≡◌, ℕ, ◌+◌, ◌-◌, ◌^◌, ◌<◌, ◌≤◌, List, length, Contains, Bool, true, false, Decides, ◌&&◌, ◌||◌, ◌==◌}
use Rattle.std.specs.List.{sum_by}
use Rattle.fort_tree_automata.specs.NtaView.{automaton_of}
use Rattle.fort_tree_automata.specs.declared.nta.Nta.{Nta}
use Rattle.fort_label_bits.specs.RowBits.{bit_of}
use Rattle.fort_label_bits.specs.BitRowLists.{row_in}
use Rattle.fort_alike.specs.AutomatonMoves.{LeadsTo}

-- how far the words are below 2 ^ 64, all together; it falls with each bit that is set
abbrev pub off_row : List ℕ → ℕ
off_row w = sum_by (λ x. 2 ^ 64 - x) w

abbrev pub off_rows : List (List ℕ) → ℕ
off_rows rows = sum_by off_row rows

-- all rows have the same width
abbrev pub AreEven : List (List ℕ) → Type 0
AreEven rows = (j k : ℕ) → j < length rows → k < length rows → length (row_in rows j) ≡ length (row_in rows k)

-- the moves name rows alone
abbrev pub NameRows : List (ℕ × ℕ) → List (List ℕ) → Type 0
NameRows silent rows = (o q : ℕ) → Contains silent (o, q) → (o < length rows) × (q < length rows)

-- the state's own bit alone, for the first states
pub record AreOwn (base count : ℕ) (rows : List (List ℕ)) : Type 0 where
  pub on : (p : ℕ) → p < count → bit_of (base + p) (row_in rows p) ≡ true
  pub only : (p q : ℕ) → bit_of q (row_in rows p) ≡ true → (p < count) × (base + p ≡ q)

-- the first row has the bits of the second too, and whether it had not all of them
pub record JoinsRow (old : List (List ℕ)) (from to : ℕ) (more : Bool) (new : List (List ℕ)) : Type 0 where
  pub count : length new ≡ length old
  pub widths : (k : ℕ) → length (row_in new k) ≡ length (row_in old k)
  pub bits : (k q : ℕ) → bit_of q (row_in new k) ≡ (bit_of q (row_in old k) || ((from == k) && bit_of q (row_in old to)))
  pub less : more ≡ true → off_rows new < off_rows old
  pub still : more ≡ false → new ≡ old

-- each row has got bits of rows that its state leads to, and of no others
pub record HasGathered (nta : Nta) (old new : List (List ℕ)) : Type 0 where
  pub count : length new ≡ length old
  pub widths : (k : ℕ) → length (row_in new k) ≡ length (row_in old k)
  pub kept : (p q : ℕ) → bit_of q (row_in old p) ≡ true → bit_of q (row_in new p) ≡ true
  pub led : (p q : ℕ) → bit_of q (row_in new p) ≡ true → (o : ℕ) × LeadsTo (automaton_of nta) p o × (bit_of q (row_in old o) ≡ true)

-- no silent move adds a bit
pub record AreClosed (silent : List (ℕ × ℕ)) (rows : List (List ℕ)) : Type 0 where
  pub each : (o q b : ℕ) → Contains silent (o, q) → bit_of b (row_in rows q) ≡ true → bit_of b (row_in rows o) ≡ true

-- the first moves have been gone over, and whether a row has got a bit
pub record HasPassed (nta : Nta) (start : List (List ℕ)) (passed : List (ℕ × ℕ)) (more : Bool) (rows : List (List ℕ)) : Type 0 where
  pub gathered : HasGathered nta start rows
  pub less : more ≡ true → off_rows rows < off_rows start
  pub still : more ≡ false → (rows ≡ start) × AreClosed passed rows

-- each row has the bits of the states that its state leads to
pub record AreLeads (nta : Nta) (base width : ℕ) (rows : List (List ℕ)) : Type 0 where
  pub many : length rows ≡ nta.states
  pub widths : (p : ℕ) → p < length rows → length (row_in rows p) ≡ width
  pub inside : (p q : ℕ) → bit_of q (row_in rows p) ≡ true → (base ≤ q) × (q < base + nta.states)
  pub led : (p k : ℕ) → p < nta.states → k < nta.states → Decides (bit_of (base + k) (row_in rows p)) (LeadsTo (automaton_of nta) p k)
