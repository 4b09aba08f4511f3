-- To believe: what a closure test is asked to tell, and the test that a list of pairs of numbers makes: of a right pattern and of a left one.
use Rattle.std.specs.Prelude.{◌≡◌, ◌↔◌, ◌<◌, ℕ, suc, List, [], ◌∷◌, length, get_or, Contains, Bool, true, false, Decides, ◌==◌, ◌&&◌, ◌||◌, if◌then◌else◌}
use Rattle.fort_theory.specs.Patterns.{Pattern, Any}
use Rattle.fort_reachability.specs.PatternClosures.{InPatternClosure}
use Rattle.fort_reachability.specs.PatternReachability.{ReachesInstance}
use Rattle.fort_alike.specs.Alike.{is_reaching}
use Rattle.fort_alike.specs.ListedAtoms.{ListedAtom}
use Rattle.fort_alike.specs.AtomRules.{same_pattern}

-- whether the first pattern reaches the second; asked of the kinds of reductions alone, whose rule reads the test
abbrev pub IsClosure : ListedAtom → (Pattern → Pattern → Bool) → Type 0
IsClosure a closure =
    is_reaching a.atom.kind ≡ true → (p q : Pattern) → Contains a.rights p → Contains a.lefts q
    → Decides (closure p q) (ReachesInstance a.atom.signature a.atom.pairs p q)

-- the number of a pattern: its first place in the list
abbrev pub pattern_place : List Pattern → Pattern → ℕ
pattern_place [] p = 0
pattern_place (x ∷ xs) p = if same_pattern x p then 0 else suc (pattern_place xs p)

abbrev pub is_listed : List (ℕ × ℕ) → ℕ → ℕ → Bool
is_listed [] i j = false
is_listed (x ∷ xs) i j = ((x.0 == i) && (x.1 == j)) || is_listed xs i j

abbrev pub closure_test : (rights lefts : List Pattern) → List (ℕ × ℕ) → Pattern → Pattern → Bool
closure_test rights lefts numbers p q = is_listed numbers (pattern_place rights p) (pattern_place lefts q)

-- the numbers are those of exactly the pairs that are in the closure table
abbrev pub ListsClosure : ListedAtom → List (ℕ × ℕ) → Type 0
ListsClosure a numbers =
    (i j : ℕ) → i < length a.rights → j < length a.lefts
    → Contains numbers (i, j) ↔ InPatternClosure a.atom.pairs (get_or a.rights i Any) (get_or a.lefts j Any)
