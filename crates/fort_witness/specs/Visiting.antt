-- Inside: a visit to the nodes that the last one needs: which were taken, and what is still to be visited.
use Rattle.std.specs.Prelude.{◌≡◌, ℕ, ◌+◌, ◌*◌, ◌-◌, ◌^◌, ◌==◌, ◌<◌, ◌⊎◌, if◌then◌else◌, List, [], ◌∷◌, ◌++◌, length, get_or, Contains}
use Rattle.fort_theory.specs.Signatures.{Signature}
use Rattle.fort_theory.specs.EachOnce.{AreEachOnce}
use Rattle.fort_tables.specs.Tuples.{Tuple}
use Rattle.fort_tables.specs.Entries.{Entry, AreNodes, tuples_of}
use Rattle.fort_tables.specs.TupleNodes.{tuples_in}
use Rattle.fort_witness.specs.declared.needed.Taken.{Taken}
use Rattle.fort_witness.specs.declared.needed.Visit.{Visit}
use Rattle.fort_witness.specs.declared.needed.Visit.TheVariants.{Whole, Itself}
use Rattle.fort_witness.specs.Answers.{last_tuple}

-- in place of the number of a node that wasn't taken
abbrev pub untaken : ℕ
untaken = 2 ^ 32 - 1

abbrev pub tuple_of : List Entry → ℕ → Tuple
tuple_of nodes k = get_or (tuples_of nodes) k []

abbrev pub node_of : Visit → ℕ
node_of (Whole k) = k
node_of (Itself k) = k

abbrev pub tuples_at : List Entry → Visit → List Tuple
tuples_at nodes (Whole k) = tuples_in (tuple_of nodes k)
tuples_at nodes (Itself k) = tuple_of nodes k ∷ []

-- the last visit comes first
abbrev pub tuples_ahead : List Entry → List Visit → List Tuple
tuples_ahead nodes [] = []
tuples_ahead nodes (v ∷ vs) = tuples_ahead nodes vs ++ tuples_at nodes v

-- a node is visited as a whole, and then itself
abbrev pub work_at : List Entry → Visit → ℕ
work_at nodes (Whole k) = 2 * length (tuples_in (tuple_of nodes k))
work_at nodes (Itself k) = 1

abbrev pub work_ahead : List Entry → List Visit → ℕ
work_ahead nodes [] = 0
work_ahead nodes (v ∷ vs) = work_at nodes v + work_ahead nodes vs

-- these nodes as wholes, the last one first
abbrev pub wholes_of : List ℕ → List Visit
wholes_of [] = []
wholes_of (k ∷ ks) = wholes_of ks ++ Whole k ∷ []

abbrev pub untaken_in : List ℕ → ℕ
untaken_in [] = 0
untaken_in (n ∷ ns) = (if n == untaken then 1 else 0) + untaken_in ns

-- the place of a tuple among these, where it is there
abbrev pub IsNumber : List Tuple → Tuple → ℕ → Type 0
IsNumber ts u n = ((n ≡ untaken) × (Contains ts u → ⊥)) ⊎ ((n < length ts) × (get_or ts n [] ≡ u))

-- the nodes taken are those of the tuples seen
pub record IsTaking (nodes : List Entry) (seen : List Tuple) (t : Taken) : Type 0 where
  pub are : (sig : Signature) (columns : ℕ) → AreNodes sig columns nodes → AreNodes sig columns t.dag
  pub once : AreEachOnce seen (tuples_of t.dag)
  pub count : length t.numbers.items ≡ length nodes
  pub left : length t.dag + untaken_in t.numbers.items ≡ length nodes
  pub numbered : (k : ℕ) → k < length nodes → IsNumber (tuples_of t.dag) (tuple_of nodes k) (get_or t.numbers.items k 0)

-- with those ahead they are those of the last node's tuple
pub record IsVisiting (nodes : List Entry) (t : Taken) (visits : List Visit) : Type 0 where
  pub seen : List Tuple
  pub taking : IsTaking nodes seen t
  pub whole : seen ++ tuples_ahead nodes visits ≡ tuples_in (last_tuple nodes)
  pub within : (i : ℕ) (d : Visit) → i < length visits → node_of (get_or visits i d) < length nodes
