-- The marks of an atom: those of its patterns and of its facts, and no others.
use Rattle.std.specs.Prelude.{◌++◌, map, Contains}
use Rattle.std.proofs.Common.{subst, inl, inr}
use Rattle.std.proofs.lemmas.List.Elements.{Contains-append_left, Contains-append_right, Contains-append_cases}
use Rattle.fort_theory.specs.Patterns.{Pattern}
use Rattle.fort_theory.proofs.Lists.{Contains-map, Contains-map_from}
use Rattle.fort_alike.specs.Alike.{Fact, facts_of}
use Rattle.fort_alike.specs.ListedAtoms.{Mark, OfFirst, OfSecond, OfBoth, ListedAtom}
use Rattle.fort_alike.specs.AtomRules.{marks_of}

-- marks of an atom
pub marks_of-first : (a : ListedAtom) (p : Pattern) → Contains a.lefts p → Contains (marks_of a) (OfFirst p)
marks_of-first a p c = Contains-append_left (map OfFirst a.lefts) (map OfSecond a.rights ++ map OfBoth (facts_of a.atom.kind)) (OfFirst p) (Contains-map OfFirst a.lefts p c)

pub marks_of-second : (a : ListedAtom) (p : Pattern) → Contains a.rights p → Contains (marks_of a) (OfSecond p)
marks_of-second a p c =
    Contains-append_right (map OfFirst a.lefts) (map OfSecond a.rights ++ map OfBoth (facts_of a.atom.kind)) (OfSecond p)
    (Contains-append_left (map OfSecond a.rights) (map OfBoth (facts_of a.atom.kind)) (OfSecond p) (Contains-map OfSecond a.rights p c))

pub marks_of-both : (a : ListedAtom) (k : Fact) → Contains (facts_of a.atom.kind) k → Contains (marks_of a) (OfBoth k)
marks_of-both a k c =
    Contains-append_right (map OfFirst a.lefts) (map OfSecond a.rights ++ map OfBoth (facts_of a.atom.kind)) (OfBoth k)
    (Contains-append_right (map OfSecond a.rights) (map OfBoth (facts_of a.atom.kind)) (OfBoth k) (Contains-map OfBoth (facts_of a.atom.kind) k c))

-- a property of every mark, kind by kind of marks
pub marks_of-each : (a : ListedAtom) (P : Mark → Type 0) → ((p : Pattern) → Contains a.lefts p → P (OfFirst p))
    → ((p : Pattern) → Contains a.rights p → P (OfSecond p))
    → ((k : Fact) → Contains (facts_of a.atom.kind) k → P (OfBoth k))
    → (m : Mark) → Contains (marks_of a) m → P m
marks_of-each a P f s b m c = elim (Contains-append_cases (map OfFirst a.lefts) (map OfSecond a.rights ++ map OfBoth (facts_of a.atom.kind)) m c) [
  | inl l ↦ (let w = Contains-map_from OfFirst a.lefts m l in subst P w.2 (f w.0 w.1))
  | inr r ↦ elim (Contains-append_cases (map OfSecond a.rights) (map OfBoth (facts_of a.atom.kind)) m r) [
    | inl l ↦ (let w = Contains-map_from OfSecond a.rights m l in subst P w.2 (s w.0 w.1))
    | inr o ↦ (let w = Contains-map_from OfBoth (facts_of a.atom.kind) m o in subst P w.2 (b w.0 w.1))
  ]
]
