-- To believe: an entry is a tuple symbol with one state for each child, of that child's presence; entries are in order by greatest child state, then by tuple symbol, then by child states.
use Rattle.std.specs.Prelude.{◌≡◌, ℕ, suc, ◌<◌, ◌⊎◌, max, List, [], ◌∷◌, ◌++◌, map, length, take, Option, None, Some, get_or, Contains}
use Rattle.fort_theory.specs.Signatures.{Signature}
use Rattle.fort_tables.specs.Tuples.{Tuple, TupleSymbol, all_absent, rebuilt, presence, IsTuple, IsTupleSymbol, symbol_kids, kid_presence}

pub record Entry : Type 0 where
  pub symbol : TupleSymbol
  pub kids : List ℕ

abbrev pub entry : TupleSymbol → List ℕ → Entry
entry f ks = record { symbol = f; kids = ks }

-- an entry over states of these presences
pub record IsEntry (sig : Signature) (columns : ℕ) (presences : List ℕ) (e : Entry) : Type 0 where
  pub symbol : IsTupleSymbol sig columns e.symbol
  pub count : length e.kids ≡ symbol_kids sig e.symbol
  pub within : (j : ℕ) → j < length e.kids → get_or e.kids j 0 < length presences
  pub presence : (j : ℕ) → j < length e.kids → get_or presences (get_or e.kids j 0) 0 ≡ kid_presence sig e.symbol j

-- 0 without children, else one more than the greatest child state
abbrev pub stage : List ℕ → ℕ
stage [] = 0
stage (k ∷ ks) = max (suc k) (stage ks)

-- absent comes before each symbol, symbols are by number
abbrev pub ColumnBefore : Option ℕ → Option ℕ → Type 0
ColumnBefore x None = ⊥
ColumnBefore None (Some h) = Unit {0}
ColumnBefore (Some g) (Some h) = g < h

-- the first place where two lists differ decides
abbrev pub LexBefore : {A : Type 0} → (A → A → Type 0) → List A → List A → Type 0
LexBefore R [] ys = ⊥
LexBefore R (x ∷ xs) [] = ⊥
LexBefore R (x ∷ xs) (y ∷ ys) = R x y ⊎ ((x ≡ y) × LexBefore R xs ys)

-- within a stage
abbrev pub StageBefore : Entry → Entry → Type 0
StageBefore a b = LexBefore ColumnBefore a.symbol b.symbol ⊎ ((a.symbol ≡ b.symbol) × LexBefore ◌<◌ a.kids b.kids)

abbrev pub ComesBefore : Entry → Entry → Type 0
ComesBefore a b = (stage a.kids < stage b.kids) ⊎ ((stage a.kids ≡ stage b.kids) × StageBefore a b)

-- nothing in each column: it comes before every entry and is none
abbrev pub no_entry : ℕ → Entry
no_entry columns = entry (all_absent columns) []

-- the first entry over these presences that comes after this one
pub record IsNextEntry (sig : Signature) (columns : ℕ) (presences : List ℕ) (last e : Entry) : Type 0 where
  pub is_entry : IsEntry sig columns presences e
  pub after : ComesBefore last e
  pub first : (x : Entry) → IsEntry sig columns presences x → ComesBefore last x → (e ≡ x) ⊎ ComesBefore e x

-- no entry over these presences comes after this one
abbrev pub IsLastEntry : Signature → ℕ → List ℕ → Entry → Type 0
IsLastEntry sig columns presences last = (x : Entry) → IsEntry sig columns presences x → ComesBefore last x → ⊥

-- the first entry over these presences that isn't in the list
pub record IsDue (sig : Signature) (columns : ℕ) (presences : List ℕ) (entries : List Entry) (e : Entry) : Type 0 where
  pub is_entry : IsEntry sig columns presences e
  pub missing : Contains entries e → ⊥
  pub first : (x : Entry) → IsEntry sig columns presences x → (Contains entries x → ⊥) → (e ≡ x) ⊎ ComesBefore e x

-- each entry over these presences is in the list
abbrev pub HasAllEntries : Signature → ℕ → List ℕ → List Entry → Type 0
HasAllEntries sig columns presences entries = (x : Entry) → IsEntry sig columns presences x → Contains entries x

-- entries over these presences, each once and in order
pub record AreInOrder (sig : Signature) (columns : ℕ) (presences : List ℕ) (entries : List Entry) : Type 0 where
  pub are : (k : ℕ) (d : Entry) → k < length entries → IsEntry sig columns presences (get_or entries k d)
  pub order : (i j : ℕ) (d : Entry) → i < j → j < length entries → ComesBefore (get_or entries i d) (get_or entries j d)

-- the tuples of these numbers
abbrev pub picked : List Tuple → List ℕ → List Tuple
picked ts qs = map (λ q. get_or ts q []) qs

-- one tuple after another, each of an entry whose states are the numbers of earlier tuples
abbrev pub tuples_after : List Tuple → List Entry → List Tuple
tuples_after ts [] = ts
tuples_after ts (e ∷ es) = tuples_after (ts ++ rebuilt e.symbol (picked ts e.kids) ∷ []) es

abbrev pub tuples_of : List Entry → List Tuple
tuples_of es = tuples_after [] es

-- the presences of a list of nodes
abbrev pub node_presences : List Entry → List ℕ
node_presences es = map (λ (e : Entry). presence e.symbol) es

-- each is an entry over the nodes before it
abbrev pub AreNodes : Signature → ℕ → List Entry → Type 0
AreNodes sig columns es = (k : ℕ) (d : Entry) → k < length es → IsEntry sig columns (node_presences (take k es)) (get_or es k d)

abbrev pub AreTuples : Signature → ℕ → List Tuple → Type 0
AreTuples sig columns ts = (k : ℕ) → k < length ts → IsTuple sig columns (get_or ts k [])
