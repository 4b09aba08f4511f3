-- To believe: which variables are free in a formula, in the order of their first free occurrences.
use Rattle.std.specs.Prelude.{not, List, [], ◌∷◌, ◌++◌, Some, None, filter, bytes_eq}
use Rattle.fort_logic.specs.Formulas.{Name, Argument, Var, Ground, Formula, True, False, Related, InContext, Nf, Join, Sn, Has, Com, Not, And, Or, Imp, Iff, Exists, Forall, Infinite}

-- the names other than x
abbrev pub without : Name → List Name → List Name
without x xs = filter (λ y. not (bytes_eq y x)) xs

-- the variable that an argument is
abbrev pub names_in : Argument → List Name
names_in (Var x) = x ∷ []
names_in (Ground k) = []

-- the free occurrences of variables from left to right
abbrev pub occurrences : Formula → List Name
occurrences True = []
occurrences False = []
occurrences (Related rel a b index) = names_in a ++ names_in b
occurrences (InContext e number place a b) = names_in a ++ names_in b
occurrences (Nf a index) = names_in a
occurrences (Join a b index) = names_in a ++ names_in b
occurrences (Sn (Some a) index) = names_in a
occurrences (Sn None index) = []
occurrences (Has property index) = []
occurrences Com = []
occurrences (Not f) = occurrences f
occurrences (And f g) = occurrences f ++ occurrences g
occurrences (Or f g) = occurrences f ++ occurrences g
occurrences (Imp f g) = occurrences f ++ occurrences g
occurrences (Iff f g) = occurrences f ++ occurrences g
occurrences (Exists x f) = without x (occurrences f)
occurrences (Forall x f) = without x (occurrences f)
occurrences (Infinite x f) = without x (occurrences f)

-- each name once, at its first place
abbrev pub once : List Name → List Name
once [] = []
once (x ∷ xs) = x ∷ without x (once xs)

abbrev pub free_names : Formula → List Name
free_names f = once (occurrences f)
