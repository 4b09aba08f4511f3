-- To believe: how many numbers the translation of a formula sets aside: those of the free names, and of binders, ground terms, JOIN, SN, COM and properties.
use Rattle.std.specs.Prelude.{ℕ, ◌+◌, Some, None, max, length}
use Rattle.fort_logic.specs.Formulas.{Argument, Var, Ground, Formula, True, False, Related, InContext, Nf, Join, Sn, Has, Com, Not, And, Or, Imp, Iff, Exists, Forall, Infinite}
use Rattle.fort_logic.specs.FreeNames.{free_names}

-- one for a ground term
abbrev pub argument_numbers : Argument → ℕ
argument_numbers (Var x) = 0
argument_numbers (Ground k) = 1

-- the most that are set aside at once below the free names: one for each binder, one for JOIN and for SN of an argument,
-- two for SN, and three for COM and for a property, though some properties use two of them
abbrev pub binder_numbers : Formula → ℕ
binder_numbers True = 0
binder_numbers False = 0
binder_numbers (Related rel a b index) = argument_numbers a + argument_numbers b
binder_numbers (InContext e number place a b) = argument_numbers a + argument_numbers b
binder_numbers (Nf a index) = argument_numbers a
binder_numbers (Join a b index) = argument_numbers a + argument_numbers b + 1
binder_numbers (Sn (Some a) index) = argument_numbers a + 1
binder_numbers (Sn None index) = 2
binder_numbers (Has property index) = 3
binder_numbers Com = 3
binder_numbers (Not f) = binder_numbers f
binder_numbers (And f g) = max (binder_numbers f) (binder_numbers g)
binder_numbers (Or f g) = max (binder_numbers f) (binder_numbers g)
binder_numbers (Imp f g) = max (binder_numbers f) (binder_numbers g)
binder_numbers (Iff f g) = max (binder_numbers f) (binder_numbers g)
binder_numbers (Exists x f) = 1 + binder_numbers f
binder_numbers (Forall x f) = 1 + binder_numbers f
binder_numbers (Infinite x f) = 1 + binder_numbers f

abbrev pub numbers_needed : Formula → ℕ
numbers_needed f = length (free_names f) + binder_numbers f
