-- Inside: the terms of nodes, one for each name.
use Rattle.std.specs.Prelude.{◌≡◌, ℕ, ◌<◌, ◌-◌, List, [], map, length, get_or, Some}
use Rattle.fort_theory.specs.Trees.{Tree}
use Rattle.fort_theory.specs.Signatures.{Signature}
use Rattle.fort_logic.specs.Formulas.{Name}
use Rattle.fort_tables.specs.Entries.{Entry, AreNodes, tuples_of}

pub record AreTermsAt (sig : Signature) (names : List Name) (nodes : List Entry) (node : ℕ) (ts : List Tree) : Type 0 where
  pub are : AreNodes sig (length names) nodes
  pub within : node < length nodes
  pub terms : get_or (tuples_of nodes) node [] ≡ map Some ts
  pub count : length ts ≡ length names

abbrev pub AreLastTerms : Signature → List Name → List Entry → List Tree → Type 0
AreLastTerms sig names nodes ts = AreTermsAt sig names nodes (length nodes - 1) ts

-- of each of these nodes
pub record AreAllTermsAt (sig : Signature) (names : List Name) (nodes : List Entry) (numbers : List ℕ) (tss : List (List Tree)) : Type 0 where
  pub count : length tss ≡ length numbers
  pub each : (k : ℕ) → k < length numbers → AreTermsAt sig names nodes (get_or numbers k 0) (get_or tss k [])
