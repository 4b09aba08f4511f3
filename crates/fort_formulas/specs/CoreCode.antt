-- To believe: a core formula is spelled in prefix form, by one mark for each node: its place in the list of the nodes, and its numbers
-- from left to right, that of its relation before its index, those of its context before its variables, those of its term or its expression last.
use Rattle.std.specs.Prelude.{◌≡◌, ℕ, List, [], ◌∷◌, ◌++◌, drop, slice_index_or, refl}
use Rattle.std.proofs.Common.{ap, sym, ◌∙◌, append_assoc, append-nil}
use Rattle.std.specs.Coded.{Coded, code_by, coded_list, coded_ℕ}
use Rattle.fort_theory.specs.TreeCode as tree
use Rattle.fort_theory.specs.Logic.{Connective, And, Or, Iff}
use Rattle.fort_theory.specs.Cores.{Rel, Eq, Root, Below, Step, Par, Plus, Star, Conv, Atom, Related, InContext, Normal, IsTerm, Core, True, Leaf, Not, Binary, Exists, Infinite}
use Rattle.fort_relations.specs.ExpressionCode as expression
use Rattle.fort_relations.specs.HolesCode.{hole_number_code, hole_place_code, hole_number_at, hole_place_at, hole_number_again, hole_place_again}

abbrev pub rel_place : Rel → ℕ
rel_place Eq = 0
rel_place Root = 1
rel_place Below = 2
rel_place Step = 3
rel_place Par = 4
rel_place Plus = 5
rel_place Star = 6
rel_place Conv = 7

abbrev pub connective_place : Connective → ℕ
connective_place And = 6
connective_place Or = 7
connective_place Iff = 8

abbrev pub Mark : Type 0
Mark = List ℕ

abbrev pub atom_spelled : Atom → Mark
atom_spelled (Related rel index x y) = 1 ∷ rel_place rel ∷ index ∷ x ∷ y ∷ []
atom_spelled (InContext e number place x y) = 2 ∷ hole_number_code number ∷ hole_place_code place ∷ x ∷ y ∷ expression.spelled e
atom_spelled (Normal index x) = 3 ∷ index ∷ x ∷ []
atom_spelled (IsTerm x t) = 4 ∷ x ∷ tree.spelled t

abbrev pub spelled : Core → List Mark
spelled True = (0 ∷ []) ∷ []
spelled (Leaf a) = atom_spelled a ∷ []
spelled (Not f) = (5 ∷ []) ∷ spelled f
spelled (Binary op f g) = (connective_place op ∷ []) ∷ (spelled f ++ spelled g)
spelled (Exists n f) = (9 ∷ n ∷ []) ∷ spelled f
spelled (Infinite n f) = (10 ∷ n ∷ []) ∷ spelled f

-- ---- a spelling is read from its end to its front, over a stack

abbrev pub rel_at : ℕ → Rel
rel_at place = slice_index_or (Eq ∷ Root ∷ Below ∷ Step ∷ Par ∷ Plus ∷ Star ∷ Conv ∷ []) place Eq

pub rel_again : (rel : Rel) → rel_at (rel_place rel) ≡ rel
rel_again Eq = refl
rel_again Root = refl
rel_again Below = refl
rel_again Step = refl
rel_again Par = refl
rel_again Plus = refl
rel_again Star = refl
rel_again Conv = refl

-- a number of a mark, counted from 0 behind the node's place
abbrev pub number_at : List ℕ → ℕ → ℕ
number_at ns k = slice_index_or ns k 0

abbrev pub one_read : (Core → Core) → List Core → List Core
one_read make [] = []
one_read make (f ∷ rest) = make f ∷ rest

abbrev pub two_read : (Core → Core → Core) → List Core → List Core
two_read make (f ∷ g ∷ rest) = make f g ∷ rest
two_read make other = other

-- what a mark with these numbers makes of the formulas behind it
abbrev pub Reader : Type 0
Reader = List ℕ → List Core → List Core

-- the context of a mark, and the expression behind its four numbers
abbrev pub context_read : List ℕ → Atom
context_read ns =
    InContext (expression.expression_of_code (drop 4 ns)) (hole_number_at (number_at ns 0)) (hole_place_at (number_at ns 1)) (number_at ns 2) (number_at ns 3)

-- by the place of the node
abbrev pub readers : List Reader
readers =
    (λ ns fs. True ∷ fs)
    ∷ (λ ns fs. Leaf (Related (rel_at (number_at ns 0)) (number_at ns 1) (number_at ns 2) (number_at ns 3)) ∷ fs)
    ∷ (λ ns fs. Leaf (context_read ns) ∷ fs)
    ∷ (λ ns fs. Leaf (Normal (number_at ns 0) (number_at ns 1)) ∷ fs)
    ∷ (λ ns fs. Leaf (IsTerm (number_at ns 0) (tree.tree_of_code (drop 1 ns))) ∷ fs)
    ∷ (λ ns fs. one_read Not fs)
    ∷ (λ ns fs. two_read (Binary And) fs)
    ∷ (λ ns fs. two_read (Binary Or) fs)
    ∷ (λ ns fs. two_read (Binary Iff) fs)
    ∷ (λ ns fs. one_read (Exists (number_at ns 0)) fs)
    ∷ (λ ns fs. one_read (Infinite (number_at ns 0)) fs)
    ∷ []

abbrev pub mark_read : Mark → List Core → List Core
mark_read [] fs = fs
mark_read (place ∷ ns) fs = slice_index_or readers place (λ ms gs. gs) ns fs

abbrev pub read_back : List Mark → List Core
read_back [] = []
read_back (m ∷ ms) = mark_read m (read_back ms)

abbrev pub first_formula : List Core → Core
first_formula [] = True
first_formula (f ∷ rest) = f

atom_read : (a : Atom) (fs : List Core) → mark_read (atom_spelled a) fs ≡ Leaf a ∷ fs
atom_read (Related rel index x y) fs = ap (λ r. Leaf (Related r index x y) ∷ fs) (rel_again rel)
atom_read (InContext e number place x y) fs =
    ap (λ d. Leaf (InContext d (hole_number_at (hole_number_code number)) (hole_place_at (hole_place_code place)) x y) ∷ fs) (expression.expression_again e)
    ∙ (ap (λ m. Leaf (InContext e m (hole_place_at (hole_place_code place)) x y) ∷ fs) (hole_number_again number)
    ∙ ap (λ p. Leaf (InContext e number p x y) ∷ fs) (hole_place_again place))
atom_read (Normal index x) fs = refl
atom_read (IsTerm x t) fs = ap (λ u. Leaf (IsTerm x u) ∷ fs) (tree.tree_again t)

connective_read : (op : Connective) (fs : List Core) → mark_read (connective_place op ∷ []) fs ≡ two_read (Binary op) fs
connective_read And fs = refl
connective_read Or fs = refl
connective_read Iff fs = refl

-- two formulas are read one after the other
pub read_back-two : (make : Core → Core → Core) (f g : Core) (ms : List Mark)
    → ((ns : List Mark) → read_back (spelled f ++ ns) ≡ f ∷ read_back ns)
    → ((ns : List Mark) → read_back (spelled g ++ ns) ≡ g ∷ read_back ns)
    → two_read make (read_back ((spelled f ++ spelled g) ++ ms)) ≡ make f g ∷ read_back ms
read_back-two make f g ms h k =
    ap (λ ns. two_read make (read_back ns)) (append_assoc (spelled f) (spelled g) ms)
    ∙ (ap (two_read make) (h (spelled g ++ ms)) ∙ ap (λ fs. two_read make (f ∷ fs)) (k ms))

pub read_back-spelled : (f : Core) (ms : List Mark) → read_back (spelled f ++ ms) ≡ f ∷ read_back ms
read_back-spelled True ms = refl
read_back-spelled (Leaf a) ms = atom_read a (read_back ms)
read_back-spelled (Not f) ms = ap (one_read Not) (read_back-spelled f ms)
read_back-spelled (Binary op f g) ms =
    connective_read op (read_back ((spelled f ++ spelled g) ++ ms))
    ∙ read_back-two (Binary op) f g ms (λ ns. read_back-spelled f ns) (λ ns. read_back-spelled g ns)
read_back-spelled (Exists n f) ms = ap (one_read (Exists n)) (read_back-spelled f ms)
read_back-spelled (Infinite n f) ms = ap (one_read (Infinite n)) (read_back-spelled f ms)

pub core_again : (f : Core) → first_formula (read_back (spelled f)) ≡ f
core_again f = ap (λ ms. first_formula (read_back ms)) (sym (append-nil (spelled f))) ∙ ap first_formula (read_back-spelled f [])

abbrev pub core_code : Coded Core
core_code = code_by (List Mark) (coded_list (coded_list coded_ℕ)) spelled (λ ms. first_formula (read_back ms)) core_again
