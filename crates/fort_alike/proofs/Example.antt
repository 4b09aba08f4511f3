-- The part star of a small problem: the label of each of its entries, computed.
use Rattle.std.specs.Prelude.{◌≡◌, ℕ, List, [], ◌∷◌, None, Some, Bool, refl}
use Rattle.fort_theory.specs.Signatures.{symbol}
use Rattle.fort_theory.specs.Patterns.{Pattern, At, NoPattern, MorePatterns, PatternSystem}
use Rattle.fort_theory.specs.Cores.{Star}
use Rattle.fort_alike.specs.Atoms.{relation_atom}
use Rattle.fort_alike.specs.ListedAtoms.{ListedAtom, listed}
use Rattle.fort_alike.specs.AtomRules.{atom_rule}
use Rattle.fort_alike.specs.ClosureTests.{closure_test}

abbrev pub a : Pattern
a = At 0 NoPattern

abbrev pub f_of_a : Pattern
f_of_a = At 1 (MorePatterns (At 0 NoPattern) NoPattern)

-- a constant and a symbol of one argument; the constant rewrites to the other over it
abbrev pub system : PatternSystem
system = record { signature = symbol (97 ∷ []) 0 ∷ symbol (102 ∷ []) 1 ∷ []; rules = ((a, f_of_a) ∷ []) ∷ [] }

abbrev pub star_atom : ListedAtom
star_atom = listed (relation_atom system Star 1 0 1 (0 ∷ 1 ∷ [])) (a ∷ []) (a ∷ f_of_a ∷ [])

-- of the right patterns, a alone reaches an instance of a
abbrev pub numbers : List (ℕ × ℕ)
numbers = (0, 0) ∷ []

abbrev pub closure : Pattern → Pattern → Bool
closure = closure_test star_atom.rights star_atom.lefts numbers

entry_0 : (atom_rule star_atom closure).step (None ∷ Some 0 ∷ []) [] ≡ 2 ∷ 2 ∷ []
entry_0 = refl

entry_1 : (atom_rule star_atom closure).step (Some 0 ∷ None ∷ []) [] ≡ 1 ∷ 1 ∷ []
entry_1 = refl

entry_2 : (atom_rule star_atom closure).step (Some 0 ∷ Some 0 ∷ []) [] ≡ 3 ∷ 11 ∷ []
entry_2 = refl

entry_3 : (atom_rule star_atom closure).step (None ∷ Some 1 ∷ []) ((2 ∷ 2 ∷ []) ∷ []) ≡ 2 ∷ 6 ∷ []
entry_3 = refl

entry_4 : (atom_rule star_atom closure).step (Some 0 ∷ Some 1 ∷ []) ((2 ∷ 2 ∷ []) ∷ []) ≡ 3 ∷ 15 ∷ []
entry_4 = refl

entry_5 : (atom_rule star_atom closure).step (Some 1 ∷ None ∷ []) ((1 ∷ 1 ∷ []) ∷ []) ≡ 1 ∷ 0 ∷ []
entry_5 = refl

entry_6 : (atom_rule star_atom closure).step (Some 1 ∷ Some 0 ∷ []) ((1 ∷ 1 ∷ []) ∷ []) ≡ 3 ∷ 2 ∷ []
entry_6 = refl

entry_7 : (atom_rule star_atom closure).step (Some 1 ∷ Some 1 ∷ []) ((3 ∷ 11 ∷ []) ∷ []) ≡ 3 ∷ 14 ∷ []
entry_7 = refl

entry_8 : (atom_rule star_atom closure).step (None ∷ Some 1 ∷ []) ((2 ∷ 6 ∷ []) ∷ []) ≡ 2 ∷ 6 ∷ []
entry_8 = refl

entry_9 : (atom_rule star_atom closure).step (Some 0 ∷ Some 1 ∷ []) ((2 ∷ 6 ∷ []) ∷ []) ≡ 3 ∷ 15 ∷ []
entry_9 = refl

entry_10 : (atom_rule star_atom closure).step (Some 1 ∷ Some 1 ∷ []) ((3 ∷ 15 ∷ []) ∷ []) ≡ 3 ∷ 14 ∷ []
entry_10 = refl

entry_11 : (atom_rule star_atom closure).step (Some 1 ∷ None ∷ []) ((1 ∷ 0 ∷ []) ∷ []) ≡ 1 ∷ 0 ∷ []
entry_11 = refl

entry_12 : (atom_rule star_atom closure).step (Some 1 ∷ Some 0 ∷ []) ((1 ∷ 0 ∷ []) ∷ []) ≡ 3 ∷ 2 ∷ []
entry_12 = refl

entry_13 : (atom_rule star_atom closure).step (Some 1 ∷ Some 1 ∷ []) ((3 ∷ 2 ∷ []) ∷ []) ≡ 3 ∷ 6 ∷ []
entry_13 = refl

entry_14 : (atom_rule star_atom closure).step (Some 1 ∷ Some 1 ∷ []) ((3 ∷ 14 ∷ []) ∷ []) ≡ 3 ∷ 14 ∷ []
entry_14 = refl

entry_15 : (atom_rule star_atom closure).step (Some 1 ∷ Some 1 ∷ []) ((3 ∷ 6 ∷ []) ∷ []) ≡ 3 ∷ 6 ∷ []
entry_15 = refl
