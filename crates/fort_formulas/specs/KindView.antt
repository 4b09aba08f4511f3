-- To believe: which kind of the definitions a kind of the program is.
use Rattle.fort_theory.specs.Kinds as theory
use Rattle.fort_formulas.specs.declared.kinds.Kind.{Kind}
use Rattle.fort_formulas.specs.declared.kinds.Kind.TheVariants.{True, Eq, Root, Below, Step, Par, Plus, Star, Conv, Rex, Nf, Is, Not, And, Or, Iff, Exists, Infinite}

abbrev pub as_kind : Kind → theory.Kind
as_kind True = theory.True
as_kind Eq = theory.Eq
as_kind Root = theory.Root
as_kind Below = theory.Below
as_kind Step = theory.Step
as_kind Par = theory.Par
as_kind Plus = theory.Plus
as_kind Star = theory.Star
as_kind Conv = theory.Conv
as_kind Rex = theory.Rex
as_kind Nf = theory.Nf
as_kind Is = theory.Is
as_kind Not = theory.Not
as_kind And = theory.And
as_kind Or = theory.Or
as_kind Iff = theory.Iff
as_kind Exists = theory.Exists
as_kind Infinite = theory.Infinite
