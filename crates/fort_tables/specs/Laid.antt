-- To believe: all entries over states of given presences: tuple symbol by tuple symbol, and stage by stage; where a stage begins.
use Rattle.std.specs.Prelude.{ℕ, zero, suc, List, [], ◌∷◌, ◌++◌, map, filter, length, get_or, Option, None, Some, ◌==◌, if◌then◌else◌}
use Rattle.std.specs.List.{flat_map}
use Rattle.fort_theory.specs.Signatures.{Signature}
use Rattle.fort_tables.specs.Tuples.{TupleSymbol, presence, symbol_kids, kid_presence}
use Rattle.fort_tables.specs.Entries.{Entry, entry, stage}

-- a list for each number below n, one behind the other
abbrev pub joined_below : {A : Type 0} → ℕ → (ℕ → List A) → List A
joined_below zero g = []
joined_below (suc n) g = joined_below n g ++ g n

-- the entries of a tuple symbol over these first child states and any n others, child j being the next
abbrev pub entries_from : Signature → List ℕ → TupleSymbol → List ℕ → ℕ → ℕ → List Entry
entries_from sig ps f before j zero = entry f before ∷ []
entries_from sig ps f before j (suc n) =
    joined_below (length ps) (λ k. if get_or ps k 0 == kid_presence sig f j then entries_from sig ps f (before ++ k ∷ []) (suc j) n else [])

-- all entries of a tuple symbol; one without a present column has none
abbrev pub entries_under : Signature → List ℕ → TupleSymbol → List Entry
entries_under sig ps f = if presence f == 0 then [] else entries_from sig ps f [] 0 (symbol_kids sig f)

-- absent for 0, else the symbol before
abbrev pub column_of : ℕ → Option ℕ
column_of zero = None
column_of (suc g) = Some g

-- the lists of c columns over n symbols, in order, the all-absent one first
abbrev pub symbol_list : ℕ → ℕ → List TupleSymbol
symbol_list n zero = [] ∷ []
symbol_list n (suc c) = joined_below (suc n) (λ d. map (λ f. column_of d ∷ f) (symbol_list n c))

-- tuple symbol by tuple symbol
abbrev pub by_symbol : Signature → ℕ → List ℕ → List Entry
by_symbol sig c ps = flat_map (entries_under sig ps) (symbol_list (length sig) c)

-- those of a stage
abbrev pub in_stage : ℕ → List Entry → List Entry
in_stage s es = filter (λ (e : Entry). stage e.kids == s) es

-- stage by stage
abbrev pub all_entries : Signature → ℕ → List ℕ → List Entry
all_entries sig c ps = joined_below (suc (length ps)) (λ s. in_stage s (by_symbol sig c ps))

-- how many there are of earlier stages: where this one begins
abbrev pub start_of : List Entry → ℕ → ℕ
start_of es s = length (joined_below s (λ t. in_stage t es))
