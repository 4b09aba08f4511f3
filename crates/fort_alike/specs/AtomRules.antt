-- To believe: the local rule of an atom: a label is the presence and then a bit for each mark, from the root symbols and the bits of the children; and which labels are accepted.
use Rattle.std.specs.Prelude.{ℕ, suc, List, [], ◌∷◌, ◌++◌, map, length, drop, Option, None, Some, get_or, Bool, true, false, ◌&&◌, ◌||◌, ◌==◌, not, if◌then◌else◌}
use Rattle.fort_theory.specs.Patterns.{Pattern, Patterns, Any, At, NoPattern, MorePatterns, Pair}
use Rattle.fort_tables.specs.Tuples.{presence}
use Rattle.fort_tables.specs.BitRows.{has_bit, bit_row}
use Rattle.fort_tables.specs.LabelRules.{LabelRule}
use Rattle.fort_alike.specs.Atoms.{AtomKind, EqKind, RootKind, StepKind, BelowKind, ParKind, NfKind, StarKind, PlusKind}
use Rattle.fort_alike.specs.Alike.{Fact, Same, Steps, StepsBelow, StepsInParallel, IsNormal, Goes, GoesStrictly, facts_of, is_reaching}
use Rattle.fort_alike.specs.ListedAtoms.{Mark, OfFirst, OfSecond, OfBoth, ListedAtom}

abbrev mutual
  pub same_pattern : Pattern → Pattern → Bool
  same_pattern Any Any = true
  same_pattern Any (At g qs) = false
  same_pattern (At f ps) Any = false
  same_pattern (At f ps) (At g qs) = (f == g) && same_patterns ps qs

  pub same_patterns : Patterns → Patterns → Bool
  same_patterns NoPattern NoPattern = true
  same_patterns NoPattern (MorePatterns q qs) = false
  same_patterns (MorePatterns p ps) NoPattern = false
  same_patterns (MorePatterns p ps) (MorePatterns q qs) = same_pattern p q && same_patterns ps qs

abbrev pub fact_number : Fact → ℕ
fact_number Same = 0
fact_number Steps = 1
fact_number StepsBelow = 2
fact_number StepsInParallel = 3
fact_number IsNormal = 4
fact_number Goes = 5
fact_number GoesStrictly = 6

abbrev pub same_mark : Mark → Mark → Bool
same_mark (OfFirst p) (OfFirst q) = same_pattern p q
same_mark (OfFirst p) (OfSecond q) = false
same_mark (OfFirst p) (OfBoth l) = false
same_mark (OfSecond p) (OfFirst q) = false
same_mark (OfSecond p) (OfSecond q) = same_pattern p q
same_mark (OfSecond p) (OfBoth l) = false
same_mark (OfBoth k) (OfFirst q) = false
same_mark (OfBoth k) (OfSecond q) = false
same_mark (OfBoth k) (OfBoth l) = fact_number k == fact_number l

-- the marks of an atom, in the order of their bits
abbrev pub marks_of : ListedAtom → List Mark
marks_of a = map OfFirst a.lefts ++ (map OfSecond a.rights ++ map OfBoth (facts_of a.atom.kind))

abbrev pub place : List Mark → Mark → ℕ
place [] m = 0
place (x ∷ xs) m = if same_mark x m then 0 else suc (place xs m)

-- a label: the presence, and then a bit for each mark, 64 to a word; and the bit of a mark, at its first place
abbrev pub row_of : List Mark → ℕ → (Mark → Bool) → List ℕ
row_of marks n b = n ∷ bit_row (length marks) (λ k. get_or (map b marks) k false)

abbrev pub has : List Mark → List ℕ → Mark → Bool
has marks w m = has_bit (drop 1 w) (place marks m)

-- some pair passes
abbrev pub any_pair : (Pair → Bool) → List Pair → Bool
any_pair test [] = false
any_pair test (r ∷ rs) = test r || any_pair test rs

-- a pattern at a node, by its root symbol and the bits of its children for the pattern's arguments
abbrev pub all_inside : (Mark → List ℕ → Bool) → (Pattern → Mark) → List (List ℕ) → Patterns → Bool
all_inside bit of ws NoPattern = true
all_inside bit of [] (MorePatterns p ps) = false
all_inside bit of (w ∷ ws) (MorePatterns p ps) = bit (of p) w && all_inside bit of ws ps

abbrev pub inside : (Mark → List ℕ → Bool) → (Pattern → Mark) → Option ℕ → List (List ℕ) → Pattern → Bool
inside bit of None ws p = false
inside bit of (Some f) ws Any = true
inside bit of (Some f) ws (At g ps) = (g == f) && all_inside bit of ws ps

abbrev pub all_kids : (List ℕ → Bool) → List (List ℕ) → Bool
all_kids test [] = true
all_kids test (w ∷ ws) = test w && all_kids test ws

-- one passes the first test, and the others the second
abbrev pub one_kid : (List ℕ → Bool) → (List ℕ → Bool) → List (List ℕ) → Bool
one_kid test other [] = false
one_kid test other (w ∷ ws) = (test w && all_kids other ws) || (other w && one_kid test other ws)

-- some child passes
abbrev pub some_kid : (List ℕ → Bool) → List (List ℕ) → Bool
some_kid test [] = false
some_kid test (w ∷ ws) = test w || some_kid test ws

abbrev pub is_there : Option ℕ → Bool
is_there None = false
is_there (Some f) = true

abbrev pub same_roots : Option ℕ → Option ℕ → Bool
same_roots None y = false
same_roots (Some f) None = false
same_roots (Some f) (Some g) = f == g

-- a pattern of the first term: it is inside, or, where instances that are reached count, some left side is inside whose right side
-- reaches the pattern; of the second: it is inside, or some right side is whose left side the pattern reaches. `closure p q` tells
-- whether p reaches q
abbrev pub first_step : Bool → (Mark → List ℕ → Bool) → List Pair → (Pattern → Pattern → Bool) → Option ℕ → List (List ℕ) → Pattern → Bool
first_step false bit pairs closure x ws q = inside bit OfFirst x ws q
first_step true bit pairs closure x ws q =
    inside bit OfFirst x ws q || any_pair (λ r. inside bit OfFirst x ws r.0 && closure r.1 q) pairs

abbrev pub second_step : Bool → (Mark → List ℕ → Bool) → List Pair → (Pattern → Pattern → Bool) → Option ℕ → List (List ℕ) → Pattern → Bool
second_step false bit pairs closure y ws p = inside bit OfSecond y ws p
second_step true bit pairs closure y ws p =
    inside bit OfSecond y ws p || any_pair (λ r. closure p r.0 && inside bit OfSecond y ws r.1) pairs

-- some pair has its left side at the first and its right side at the second
abbrev pub root_test : Bool → (Mark → List ℕ → Bool) → List Pair → (Pattern → Pattern → Bool) → Option ℕ → Option ℕ → List (List ℕ) → Bool
root_test reaching bit pairs closure x y ws =
    any_pair (λ r. first_step reaching bit pairs closure x ws r.0 && second_step reaching bit pairs closure y ws r.1) pairs

-- the facts on both terms. Same: one root symbol, and the same children. Steps: a root step, or one root symbol and one child
-- that steps, the others the same; StepsBelow: the latter. StepsInParallel: a root step, or one root symbol and each child steps
-- in parallel. IsNormal: no left side is there, and each child is normal. Goes: a left side is reached from the first and the
-- right side of its pair reaches the second, or one root symbol and each child goes; GoesStrictly: in the latter case some child strictly
abbrev pub fact_step : Bool → (Mark → List ℕ → Bool) → List Pair → (Pattern → Pattern → Bool) → Option ℕ → Option ℕ → List (List ℕ) → Fact → Bool
fact_step reaching bit pairs closure x y ws Same = same_roots x y && all_kids (bit (OfBoth Same)) ws
fact_step reaching bit pairs closure x y ws Steps =
    root_test reaching bit pairs closure x y ws || (same_roots x y && one_kid (bit (OfBoth Steps)) (bit (OfBoth Same)) ws)
fact_step reaching bit pairs closure x y ws StepsBelow = same_roots x y && one_kid (bit (OfBoth Steps)) (bit (OfBoth Same)) ws
fact_step reaching bit pairs closure x y ws StepsInParallel =
    root_test reaching bit pairs closure x y ws || (same_roots x y && all_kids (bit (OfBoth StepsInParallel)) ws)
fact_step reaching bit pairs closure x y ws IsNormal =
    is_there x && (not (any_pair (λ r. inside bit OfFirst x ws r.0) pairs) && all_kids (bit (OfBoth IsNormal)) ws)
fact_step reaching bit pairs closure x y ws Goes =
    root_test reaching bit pairs closure x y ws || (same_roots x y && all_kids (bit (OfBoth Goes)) ws)
fact_step reaching bit pairs closure x y ws GoesStrictly =
    root_test reaching bit pairs closure x y ws
    || (same_roots x y && (all_kids (bit (OfBoth Goes)) ws && some_kid (bit (OfBoth GoesStrictly)) ws))

abbrev pub mark_step : Bool → (Mark → List ℕ → Bool) → List Pair → (Pattern → Pattern → Bool) → Option ℕ → Option ℕ → List (List ℕ) → Mark → Bool
mark_step reaching bit pairs closure x y ws (OfFirst p) = first_step reaching bit pairs closure x ws p
mark_step reaching bit pairs closure x y ws (OfSecond p) = second_step reaching bit pairs closure y ws p
mark_step reaching bit pairs closure x y ws (OfBoth k) = fact_step reaching bit pairs closure x y ws k

abbrev pub bit_in : ListedAtom → Mark → List ℕ → Bool
bit_in a m w = has (marks_of a) w m

-- the rule; the closure is read for star, plus and conversion alone
abbrev pub atom_rule : ListedAtom → (Pattern → Pattern → Bool) → LabelRule
atom_rule a closure = record {
  signature = a.atom.signature;
  columns = a.atom.columns;
  step =
      λ f ws. row_of (marks_of a) (presence f)
      (mark_step (is_reaching a.atom.kind) (bit_in a) a.atom.pairs closure (get_or f a.atom.first None) (get_or f a.atom.second None) ws);
}

-- whether a label without absent columns is accepted
abbrev pub accepts_by : (Mark → Bool) → List Pair → AtomKind → Bool
accepts_by bit pairs EqKind = bit (OfBoth Same)
accepts_by bit pairs RootKind = any_pair (λ r. bit (OfFirst r.0) && bit (OfSecond r.1)) pairs
accepts_by bit pairs StepKind = bit (OfBoth Steps)
accepts_by bit pairs BelowKind = bit (OfBoth StepsBelow)
accepts_by bit pairs ParKind = bit (OfBoth StepsInParallel)
accepts_by bit pairs NfKind = bit (OfBoth IsNormal)
accepts_by bit pairs StarKind = bit (OfBoth Goes)
accepts_by bit pairs PlusKind = bit (OfBoth GoesStrictly)

abbrev pub atom_accepts : ListedAtom → List ℕ → Bool
atom_accepts a w = accepts_by (λ m. bit_in a m w) a.atom.pairs a.atom.kind
