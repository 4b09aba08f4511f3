-- To believe: the closures that the parts of a formula ask for: index by index each of both that some part asks for, with the entries that passes make of the rules of its index.
use Rattle.std.specs.Prelude.{◌≡◌, ℕ, zero, suc, List, [], ◌∷◌, ◌++◌, map, length, if◌then◌else◌}
use Rattle.std.specs.List.{All, list_any}
use Rattle.fort_theory.specs.Patterns.{PatternSystem}
use Rattle.fort_theory.specs.Sides.{at_index}
use Rattle.fort_theory.specs.Cores.{Core}
use Rattle.fort_alike.specs.ListedClosures.{Which, Star, Conv, relation_of, asks}
use Rattle.fort_findings.specs.FindingView.{as_which}
use Rattle.fort_context_closure.specs.ClosedAtoms.{ListsPasses}
use Rattle.fort_engine.specs.declared.closures.IndexClosure.{IndexClosure}

-- which closure it is, and of which index
abbrev pub name_of : IndexClosure → Which × ℕ
name_of c = (as_which c.which, c.index)

-- the closure of an index, where some part asks for it
abbrev pub closure_asked : List Core → ℕ → Which → List (Which × ℕ)
closure_asked parts i which = if list_any (asks which i) parts then ((which, i) ∷ []) else []

-- for n indices from i on
abbrev pub closures_asked : List Core → (n i : ℕ) → List (Which × ℕ)
closures_asked parts zero i = []
closures_asked parts (suc n) i = closure_asked parts i Star ++ (closure_asked parts i Conv ++ closures_asked parts n (suc i))

abbrev pub ListsItsPasses : PatternSystem → IndexClosure → Type 0
ListsItsPasses system c = ListsPasses (relation_of (as_which c.which)) (at_index c.index system.rules) c.entries.items

-- the closures of these names, one by one
pub record AreClosuresOf (system : PatternSystem) (names : List (Which × ℕ)) (cs : List IndexClosure) : Type 0 where
  pub names_are : map name_of cs ≡ names
  pub passed : All (ListsItsPasses system) cs

-- of a formula with these parts
abbrev pub AreClosures : PatternSystem → List Core → List IndexClosure → Type 0
AreClosures system parts cs = AreClosuresOf system (closures_asked parts (length system.rules) 1) cs
