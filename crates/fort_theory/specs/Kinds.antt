-- To believe: the kind of a core formula, by its root.
use Rattle.fort_theory.specs.Cores as core
use Rattle.fort_theory.specs.Logic as logic

pub data Kind : Type 0 where
  True : Kind
  Eq : Kind
  Root : Kind
  Below : Kind
  Step : Kind
  Par : Kind
  Plus : Kind
  Star : Kind
  Conv : Kind
  Rex : Kind
  Nf : Kind
  Is : Kind
  Not : Kind
  And : Kind
  Or : Kind
  Iff : Kind
  Exists : Kind
  Infinite : Kind

abbrev pub kind_of_relation : core.Rel → Kind
kind_of_relation core.Eq = Eq
kind_of_relation core.Root = Root
kind_of_relation core.Below = Below
kind_of_relation core.Step = Step
kind_of_relation core.Par = Par
kind_of_relation core.Plus = Plus
kind_of_relation core.Star = Star
kind_of_relation core.Conv = Conv

abbrev pub kind_of_atom : core.Atom → Kind
kind_of_atom (core.Related rel index x y) = kind_of_relation rel
kind_of_atom (core.InContext e number place x y) = Rex
kind_of_atom (core.Normal index x) = Nf
kind_of_atom (core.IsTerm x t) = Is

abbrev pub kind_of_connective : logic.Connective → Kind
kind_of_connective logic.And = And
kind_of_connective logic.Or = Or
kind_of_connective logic.Iff = Iff

abbrev pub kind_of : core.Core → Kind
kind_of core.True = True
kind_of (core.Leaf a) = kind_of_atom a
kind_of (core.Not f) = Not
kind_of (core.Binary op f g) = kind_of_connective op
kind_of (core.Exists n f) = Exists
kind_of (core.Infinite n f) = Infinite
