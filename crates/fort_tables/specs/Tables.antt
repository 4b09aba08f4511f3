-- To believe: a table gives each entry over its states one state of the entry's presence; so it gives each optional tuple one state, from the root and the children's states.
use Rattle.std.specs.Prelude.{◌≡◌, ℕ, ◌-◌, ◌^◌, ◌<◌, ◌≤◌, List, [], ◌∷◌, ◌++◌, length, get_or, Bool, true, false, ◌&&◌, ◌==◌, if◌then◌else◌, None, Some}
use Rattle.fort_theory.specs.Signatures.{Signature, most_columns}
use Rattle.fort_tables.specs.Tuples.{Tuple, TupleSymbol, presence, IsTuple, fold_tuple}
use Rattle.fort_tables.specs.Entries.{Entry, entry, IsEntry, IsDue, HasAllEntries, AreInOrder}

-- the states are numbers below the count of presences; the target is meant for entries over these states
pub record Table : Type 0 where
  pub signature : Signature
  pub columns : ℕ
  pub presences : List ℕ
  pub target : Entry → ℕ
  pub accepting : ℕ → Bool

abbrev pub IsTableEntry : Table → Entry → Type 0
IsTableEntry t e = IsEntry t.signature t.columns t.presences e

-- the presence of a tuple of that many columns without absent ones
abbrev pub full_presence : ℕ → ℕ
full_presence columns = 2 ^ columns - 1

-- each entry has one state, of its presence; a state with a column absent is not accepting
pub record IsTable (t : Table) : Type 0 where
  pub some : 0 < t.columns
  pub narrow : t.columns ≤ most_columns
  pub within : (e : Entry) → IsTableEntry t e → t.target e < length t.presences
  pub presence : (e : Entry) → IsTableEntry t e → get_or t.presences (t.target e) 0 ≡ presence e.symbol
  pub full : (q : ℕ) → q < length t.presences → t.accepting q ≡ true → get_or t.presences q 0 ≡ full_presence t.columns

-- the state that the table gives a tuple
abbrev pub state_of : Table → Tuple → ℕ
state_of t u = fold_tuple (λ f ks. t.target (entry f ks)) u

-- each state has a tuple
abbrev pub IsReached : Table → Type 0
IsReached t = (q : ℕ) → q < length t.presences → (u : Tuple) × IsTuple t.signature t.columns u × (state_of t u ≡ q)

abbrev pub same_symbol : TupleSymbol → TupleSymbol → Bool
same_symbol [] [] = true
same_symbol [] (y ∷ g) = false
same_symbol (x ∷ f) [] = false
same_symbol (None ∷ f) (None ∷ g) = same_symbol f g
same_symbol (None ∷ f) (Some y ∷ g) = false
same_symbol (Some x ∷ f) (None ∷ g) = false
same_symbol (Some x ∷ f) (Some y ∷ g) = (x == y) && same_symbol f g

abbrev pub same_states : List ℕ → List ℕ → Bool
same_states [] [] = true
same_states [] (q ∷ qs) = false
same_states (p ∷ ps) [] = false
same_states (p ∷ ps) (q ∷ qs) = (p == q) && same_states ps qs

abbrev pub same_entry : Entry → Entry → Bool
same_entry a b = same_symbol a.symbol b.symbol && same_states a.kids b.kids

-- the target beside the first such entry
abbrev pub target_in : List Entry → List ℕ → Entry → ℕ
target_in [] qs e = 0
target_in (x ∷ es) [] e = 0
target_in (x ∷ es) (q ∷ qs) e = if same_entry x e then q else target_in es qs e

-- a table in the making: the entries that have a target, in order, with their targets
pub record Made : Type 0 where
  pub signature : Signature
  pub columns : ℕ
  pub presences : List ℕ
  pub entries : List Entry
  pub targets : List ℕ

-- a table as a list of its entries in order, with their targets
pub record Listed : Type 0 where
  pub signature : Signature
  pub columns : ℕ
  pub presences : List ℕ
  pub entries : List Entry
  pub targets : List ℕ
  pub finals : List Bool

abbrev pub listed_table : Listed → Table
listed_table t = record {
  signature = t.signature;
  columns = t.columns;
  presences = t.presences;
  target = target_in t.entries t.targets;
  accepting = λ q. get_or t.finals q false;
}

-- the table that is made, with these states accepting
abbrev pub finished : Made → List Bool → Listed
finished m finals = record {
  signature = m.signature;
  columns = m.columns;
  presences = m.presences;
  entries = m.entries;
  targets = m.targets;
  finals = finals;
}

-- the first entry over the states so far that has no target
abbrev pub IsMadeDue : Made → Entry → Type 0
IsMadeDue m e = IsDue m.signature m.columns m.presences m.entries e

-- every entry over the states so far has a target
abbrev pub IsComplete : Made → Type 0
IsComplete m = HasAllEntries m.signature m.columns m.presences m.entries

-- a state that is there and has the entry's presence, or a new one
pub record IsAllowed (m : Made) (e : Entry) (target : ℕ) : Type 0 where
  pub due : IsMadeDue m e
  pub known : target ≤ length m.presences
  pub fits : target < length m.presences → get_or m.presences target 0 ≡ presence e.symbol

-- the entry has this target; where it is as many as the states were, it is a new state
pub record IsGiven (old : Made) (e : Entry) (target : ℕ) (new : Made) : Type 0 where
  pub signature : new.signature ≡ old.signature
  pub columns_are : new.columns ≡ old.columns
  pub entries : new.entries ≡ old.entries ++ e ∷ []
  pub targets : new.targets ≡ old.targets ++ target ∷ []
  pub presences : new.presences ≡ (if target == length old.presences then old.presences ++ presence e.symbol ∷ [] else old.presences)

-- which states may be accepting: one truth for each state, false where a column is absent
pub record AreFinals (m : Made) (finals : List Bool) : Type 0 where
  pub count : length finals ≡ length m.presences
  pub full : (q : ℕ) → q < length m.presences → get_or finals q false ≡ true → get_or m.presences q 0 ≡ full_presence m.columns

-- the first entry with this target; the targets before it are smaller
pub record IsFirstWith (entries : List Entry) (targets : List ℕ) (q : ℕ) (e : Entry) : Type 0 where
  pub place : ℕ
  pub within : place < length targets
  pub target : get_or targets place 0 ≡ q
  pub before : (j : ℕ) → j < place → get_or targets j 0 < q
  pub is : (d : Entry) → get_or entries place d ≡ e

-- the list has each entry once, in order, and is a table; each state has a tuple, and states are numbered in the order in which an entry first gives them
pub record IsListed (t : Listed) : Type 0 where
  pub order : AreInOrder t.signature t.columns t.presences t.entries
  pub all : HasAllEntries t.signature t.columns t.presences t.entries
  pub count : length t.targets ≡ length t.entries
  pub table : IsTable (listed_table t)
  pub reached : IsReached (listed_table t)
  pub numbered : (q : ℕ) → q < length t.presences → (e : Entry) × IsFirstWith t.entries t.targets q e
