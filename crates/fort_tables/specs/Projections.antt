-- To believe: the label of a tuple whose terms in one column range over all: the presence, the body's state with that column absent, and a bit for each state of the body, set where some term in the column gives it; which labels are accepted.
use Rattle.std.specs.Prelude.{◌≡◌, ◌↔◌, ℕ, zero, suc, ◌+◌, ◌-◌, ◌^◌, ◌<◌, max, List, [], ◌∷◌, map, length, None, Some, get_or, nat_lt, Bool, true, false, ◌&&◌, ◌||◌, ◌==◌, if◌then◌else◌}
use Rattle.std.specs.List.{insert, list_any}
use Rattle.fort_theory.specs.Trees.{Tree}
use Rattle.fort_theory.specs.Signatures.{IsGround}
use Rattle.fort_tables.specs.Tuples.{Tuple, TupleSymbol, presence, arity}
use Rattle.fort_tables.specs.Entries.{entry}
use Rattle.fort_tables.specs.Tables.{Table, state_of}
use Rattle.fort_tables.specs.LabelRules.{LabelRule}
use Rattle.fort_tables.specs.BitRows.{has_bit, bit_row, words_for}

-- some number below n passes
abbrev pub some_below : ℕ → (ℕ → Bool) → Bool
some_below zero p = false
some_below (suc n) p = some_below n p || p n

-- some list of n numbers below m passes, number i of which may stand at place j + i
abbrev pub some_choice : ℕ → (ℕ → ℕ → Bool) → ℕ → ℕ → (List ℕ → Bool) → Bool
some_choice m may j zero p = p []
some_choice m may j (suc n) p = some_below m (λ k. may j k && some_choice m may (suc j) n (λ ks. p (k ∷ ks)))

-- the body's state with the column absent
abbrev pub absent_state : List ℕ → ℕ
absent_state w = get_or w 1 0

-- whether the set behind the first two words has the state
abbrev pub has_state : List ℕ → ℕ → Bool
has_state w q = has_bit w (128 + q)

-- whether column c alone is present in the state's tuples
abbrev pub is_pure : Table → ℕ → ℕ → Bool
is_pure body c q = get_or body.presences q 0 == 2 ^ c

-- exactly those states below n, ascending
pub record ArePureBelow (body : Table) (c n : ℕ) (states : List ℕ) : Type 0 where
  pub each : (i : ℕ) → i < length states → (get_or states i 0 < n) × (is_pure body c (get_or states i 0) ≡ true)
  pub all : (q : ℕ) → q < n → is_pure body c q ≡ true → list_any (λ k. k == q) states ≡ true
  pub ascending : (i j : ℕ) → i < j → j < length states → get_or states i 0 < get_or states j 0

abbrev pub ArePure : Table → ℕ → List ℕ → Type 0
ArePure body c states = ArePureBelow body c (length body.presences) states

-- whether the body's state k may stand as child j, where column c's symbol has this arity and the own children have these labels:
-- any pure state where the own columns have no such child, the state with the column absent where its symbol has none, else any of the set
abbrev pub may_stand : Table → ℕ → ℕ → List (List ℕ) → ℕ → ℕ → Bool
may_stand body c arity ws j k =
    if nat_lt j arity
    then (if nat_lt j (length ws) then has_state (get_or ws j []) k else is_pure body c k)
    else absent_state (get_or ws j []) == k

-- whether the symbol g in column c, over some states that may stand there, gives q
abbrev pub gives_under : Table → ℕ → TupleSymbol → List (List ℕ) → ℕ → ℕ → Bool
gives_under body c f ws q g =
    some_choice (length body.presences) (may_stand body c (arity body.signature g) ws) 0 (max (arity body.signature g) (length ws))
    (λ ks. body.target (entry (insert f c (Some g)) ks) == q)

abbrev pub gives : Table → ℕ → TupleSymbol → List (List ℕ) → ℕ → Bool
gives body c f ws q = some_below (length body.signature) (gives_under body c f ws q)

-- the own tuples have one column less than the body
abbrev pub project_rule : Table → ℕ → LabelRule
project_rule body c = record {
  signature = body.signature;
  columns = body.columns - 1;
  step = λ f ws. presence f ∷ body.target (entry (insert f c None) (map absent_state ws)) ∷ bit_row (length body.presences) (gives body c f ws);
}

-- whether some state of the set is accepting
abbrev pub project_accepts : Table → List ℕ → Bool
project_accepts body w = some_below (length body.presences) (λ q. has_state w q && body.accepting q)

-- what the label says: some term in column c gives the state q
abbrev pub Gives : Table → ℕ → Tuple → ℕ → Type 0
Gives body c t q = (u : Tree) × IsGround body.signature u × (state_of body (insert t c (Some u)) ≡ q)

pub record IsProjected (body : Table) (c : ℕ) (t : Tuple) (w : List ℕ) : Type 0 where
  pub width : length w ≡ words_for (length body.presences) + 2
  pub first : get_or w 0 0 ≡ presence t
  pub absent : absent_state w ≡ state_of body (insert t c None)
  pub given : (q : ℕ) → (has_state w q ≡ true) ↔ Gives body c t q
