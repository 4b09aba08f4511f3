-- To believe: the label of a tuple for "infinitely many terms in one column": that of the projection, and behind its bits one more for each state of the body, set where infinitely many terms in the column give it; which labels are accepted.
use Rattle.std.specs.Prelude.{◌≡◌, ◌↔◌, ℕ, ◌+◌, ◌-◌, ◌*◌, ◌<◌, max, List, [], ◌∷◌, map, length, None, Some, get_or, nat_lt, Bool, true, ◌&&◌, ◌==◌, if◌then◌else◌}
use Rattle.std.specs.List.{insert}
use Rattle.fort_theory.specs.Logic.{HasInfinitelyMany}
use Rattle.fort_theory.specs.Trees.{Tree}
use Rattle.fort_theory.specs.Signatures.{Signature, IsGround}
use Rattle.fort_tables.specs.Tuples.{Tuple, TupleSymbol, presence, arity}
use Rattle.fort_tables.specs.Entries.{entry}
use Rattle.fort_tables.specs.Tables.{Table, state_of}
use Rattle.fort_tables.specs.LabelRules.{LabelRule}
use Rattle.fort_tables.specs.BitRows.{bit_row, words_for}
use Rattle.fort_tables.specs.Projections.{some_below, some_choice, absent_state, has_state, is_pure, may_stand, gives, Gives}
use Rattle.fort_tables.specs.OperationTruth.{TupleRelation}
use Rattle.fort_tables.specs.PureStates.{CompletesTo, GivesAlone, IsPureState}

-- whether the label says that infinitely many terms give the state, of m states
abbrev pub has_many : ℕ → List ℕ → ℕ → Bool
has_many m w q = has_state w (m + q)

-- `many` tells of each pure state whether infinitely many terms give it
abbrev pub TellsMany : Table → ℕ → (ℕ → Bool) → Type 0
TellsMany body c many = (k : ℕ) → IsPureState body c k → (many k ≡ true) ↔ HasInfinitelyMany (GivesAlone body c k)

-- whether infinitely many terms give child j the state k: by the own child's label, or where the own columns have no such child, by `many`
abbrev pub kid_has_many : Table → (ℕ → Bool) → List (List ℕ) → ℕ → ℕ → Bool
kid_has_many body many ws j k = if nat_lt j (length ws) then has_many (length body.presences) (get_or ws j []) k else many k

-- whether that is so of some child below column c's symbol, of this arity
abbrev pub some_kid_has_many : Table → (ℕ → Bool) → List (List ℕ) → ℕ → List ℕ → Bool
some_kid_has_many body many ws arity ks = some_below arity (λ j. kid_has_many body many ws j (get_or ks j 0))

-- whether the symbol g in column c gives q over some states that may stand there, one of them given by infinitely many terms
abbrev pub gives_many_under : Table → ℕ → (ℕ → Bool) → TupleSymbol → List (List ℕ) → ℕ → ℕ → Bool
gives_many_under body c many f ws q g =
    some_choice (length body.presences) (may_stand body c (arity body.signature g) ws) 0 (max (arity body.signature g) (length ws))
    (λ ks. (body.target (entry (insert f c (Some g)) ks) == q) && some_kid_has_many body many ws (arity body.signature g) ks)

abbrev pub gives_many : Table → ℕ → (ℕ → Bool) → TupleSymbol → List (List ℕ) → ℕ → Bool
gives_many body c many f ws q = some_below (length body.signature) (gives_many_under body c many f ws q)

-- bit q of m: whether some term gives q; bit m + q: whether infinitely many do
abbrev pub many_bit : Table → ℕ → (ℕ → Bool) → TupleSymbol → List (List ℕ) → ℕ → Bool
many_bit body c many f ws i = if nat_lt i (length body.presences) then gives body c f ws i else gives_many body c many f ws (i - length body.presences)

-- the own tuples have one column less than the body
abbrev pub many_rule : Table → ℕ → (ℕ → Bool) → LabelRule
many_rule body c many = record {
  signature = body.signature;
  columns = body.columns - 1;
  step = λ f ws. presence f ∷ body.target (entry (insert f c None) (map absent_state ws)) ∷ bit_row (2 * length body.presences) (many_bit body c many f ws);
}

-- whether infinitely many terms give some accepting state
abbrev pub many_accepts : Table → List ℕ → Bool
many_accepts body w = some_below (length body.presences) (λ q. has_many (length body.presences) w q && body.accepting q)

-- the same of a body with one column
abbrev pub many_value : Table → ℕ → (ℕ → Bool) → Bool
many_value body c many = some_below (length body.presences) (λ q. (is_pure body c q && many q) && body.accepting q)

-- what the label says
pub record IsManyLabel (body : Table) (c : ℕ) (t : Tuple) (w : List ℕ) : Type 0 where
  pub width : length w ≡ words_for (2 * length body.presences) + 2
  pub first : get_or w 0 0 ≡ presence t
  pub absent : absent_state w ≡ state_of body (insert t c None)
  pub given : (q : ℕ) → q < length body.presences → (has_state w q ≡ true) ↔ Gives body c t q
  pub many : (q : ℕ) → q < length body.presences → (has_many (length body.presences) w q ≡ true) ↔ HasInfinitelyMany (CompletesTo body c t q)

-- infinitely many terms in column c complete the tuple to one of the relation
abbrev pub ManyComplete : Signature → ℕ → TupleRelation → TupleRelation
ManyComplete sig c R t = HasInfinitelyMany (λ (u : Tree). IsGround sig u × R (insert t c (Some u)))
