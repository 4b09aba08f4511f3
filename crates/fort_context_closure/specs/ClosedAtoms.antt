-- To believe: an atom with the patterns of its rules' sides and the entries of a closure; the test that the entries make; the entries that passes make.
use Rattle.std.specs.Prelude.{◌≡◌, ℕ, List, [], ◌++◌, map, Option, true, false, Bool}
use Rattle.fort_theory.specs.Patterns.{Pattern, Pair}
use Rattle.fort_theory.specs.Cores.{Rel}
use Rattle.fort_alike.specs.Atoms.{kind_for, pairs_for}
use Rattle.fort_alike.specs.Alike.{is_reaching}
use Rattle.fort_alike.specs.ListedAtoms.{ListedAtom}
use Rattle.fort_alike.specs.AtomRules.{bit_in, first_step, second_step}
use Rattle.fort_alike.specs.ClosureTests.{closure_test}
use Rattle.fort_transducers.specs.declared.agtt.Agtt.{Agtt}
use Rattle.fort_transducers.specs.RootSteps.{HasRootSteps}
use Rattle.fort_gtt_closure.specs.declared.entry.Entry.{Entry}
use Rattle.fort_gtt_closure.specs.Passes.{IsListOfPasses}
use Rattle.fort_findings.specs.declared.closure.ClosureEntry.{ClosureEntry}
use Rattle.fort_findings.specs.FindingView.{as_pair}
use Rattle.fort_context_closure.specs.ItemView.{as_items}

pub record ClosedAtom : Type 0 where
  pub atom : ListedAtom
  pub entries : List ClosureEntry

-- an entry is read as the place of a right pattern and that of a left one
abbrev pub numbers_of : List ClosureEntry → List (ℕ × ℕ)
numbers_of es = map (λ (e : ClosureEntry). (e.p, e.q)) es

abbrev pub test_of : ClosedAtom → Pattern → Pattern → Bool
test_of c = closure_test c.atom.rights c.atom.lefts (numbers_of c.entries)

-- the entries are those that passes over the transducer make, as they are written
pub record ArePassed (agtt : Agtt) (es : List ClosureEntry) : Type 0 where
  pub found : List Entry
  pub passes : IsListOfPasses agtt found
  pub written : map as_pair es ≡ as_items found

-- of a reduction or a conversion: the entries are those that passes over a transducer of the rules' root steps make
abbrev pub ListsPasses : Rel → List Pair → List ClosureEntry → Type 0
ListsPasses rel pairs es = is_reaching (kind_for rel) ≡ true → (agtt : Agtt) × HasRootSteps (pairs_for rel pairs) agtt × ArePassed agtt es

-- of any other relation: there are none
abbrev pub ListsNone : Rel → List ClosureEntry → Type 0
ListsNone rel es = is_reaching (kind_for rel) ≡ false → es ≡ []

-- the bits of the patterns at a node with these roots
abbrev pub pattern_bits : ClosedAtom → (x y : Option ℕ) → List (List ℕ) → List Bool
pattern_bits c x y ws =
    map (first_step (is_reaching c.atom.atom.kind) (bit_in c.atom) c.atom.atom.pairs (test_of c) x ws) c.atom.lefts
    ++ map (second_step (is_reaching c.atom.atom.kind) (bit_in c.atom) c.atom.atom.pairs (test_of c) y ws) c.atom.rights
