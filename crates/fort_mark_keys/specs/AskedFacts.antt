-- Inside: the kind of an atom by its relation, or of normal forms, and how many of its facts may be asked.
use Rattle.std.specs.Prelude.{ℕ, Option, None, Some, Bool}
use Rattle.fort_relations.specs.RelView.{as_rel}
use Rattle.fort_relations.specs.declared.relation.Rel.{Rel}
use Rattle.fort_alike.specs.Atoms.{AtomKind, EqKind, RootKind, StepKind, BelowKind, ParKind, NfKind, StarKind, PlusKind, kind_for}
use Rattle.fort_alike.specs.AtomRules.{is_there, same_roots}

abbrev pub kind_seen : Option Rel → AtomKind
kind_seen None = NfKind
kind_seen (Some rel) = kind_for (as_rel rel)

-- all but StepsBelow
abbrev pub asked_count : AtomKind → ℕ
asked_count EqKind = 1
asked_count RootKind = 0
asked_count StepKind = 2
asked_count BelowKind = 2
asked_count ParKind = 1
asked_count NfKind = 1
asked_count StarKind = 1
asked_count PlusKind = 2

abbrev pub are_asked : Option Rel → (x y : Option ℕ) → Bool
are_asked None x y = is_there x
are_asked (Some rel) x y = same_roots x y
