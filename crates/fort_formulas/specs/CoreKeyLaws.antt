-- Law: the equality of core formulas decides whether they are equal, and equal operands are told from what follows them.
use Rattle.std.specs.Prelude.{◌≡◌, ℕ, Bool, true, false, nat_eq, ◌&&◌, List, [], ◌∷◌, ◌++◌, refl}
use Rattle.std.specs.Bool.{Decides, one_answer}
use Rattle.std.specs.Ordering.{on, is_eq}
use Rattle.std.specs.Cmp.{IsPartialEquivalence, IsEquivalence, partial_equiv_from_equiv, decided}
use Rattle.std.specs.Cmp.Lexicographic.{texts_ties}
use Rattle.std.proofs.Common.{ap, sym, ◌∙◌, eq-eqb}
use lib.Pointwise.{pointwise, pointwise_decides, bytes_decides}
use Rattle.fort_theory.specs.Trees.{Tree}
use Rattle.fort_theory.specs.TreeCode as tree
use Rattle.fort_terms.specs.TermKeys.{tree_eq}
use Rattle.fort_terms.specs.TermKeyLaws.{tree_eq-ties, tree_order-spelled}
use Rattle.fort_theory.specs.Cores as theory
use Rattle.fort_theory.specs.Logic as logic
use Rattle.fort_relations.specs.declared.relation.Rel as relation
use Rattle.fort_relations.specs.declared.relation.Rel.TheVariants.{Eq, Root, Below, Step, Par, Plus, Star, Conv}
use Rattle.fort_relations.specs.declared.rex.Rex.{Rex}
use Rattle.fort_relations.specs.declared.holes.Holes.{Holes}
use Rattle.fort_relations.specs.declared.holes.Place.{Place}
use Rattle.fort_formulas.specs.declared.core_formula.Core.{Core}
use Rattle.fort_formulas.specs.declared.core_formula.Core.TheVariants.{True, Atom, Rel, Nf, Is, Not, And, Or, Iff, Exists, Infinite}
use Rattle.fort_relations.specs.RelView.{as_rel}
use Rattle.fort_relations.specs.HolesView.{as_hole_number, as_hole_place, from_hole_number, from_hole_place, from_hole_number-again, from_hole_place-again}
use Rattle.fort_relations.specs.RexKeyLaws.{from_expression, from_expression-again}
use Rattle.fort_formulas.specs.CoreView.{as_core}
use Rattle.fort_formulas.specs.CoreCode.{Mark, spelled, read_back, first_formula, read_back-spelled, core_again}
use Rattle.fort_formulas.specs.CoreKeys.{core_spelled, same_marks}

marks_decide : (ms ns : List Mark) → Decides (same_marks ms ns) (ms ≡ ns)
marks_decide = pointwise_decides bytes_decides

spelled-injective : (f g : theory.Core) → spelled f ≡ spelled g → f ≡ g
spelled-injective f g e = sym (core_again f) ∙ (ap (λ ms. first_formula (read_back ms)) e ∙ core_again g)

-- equal exactly where the formulas are equal
pub arm_eq-Decides : (f g : theory.Core) → Decides (on spelled same_marks f g) (f ≡ g)
arm_eq-Decides f g =
    let same = marks_decide (spelled f) (spelled g) in (λ e. spelled-injective f g (same.0 e), λ e. same.1 (ap spelled e))

pub arm_eq-equiv : IsEquivalence (on spelled same_marks)
arm_eq-equiv = decided (on spelled same_marks) arm_eq-Decides

pub arm_eq-partial_equiv : IsPartialEquivalence (on spelled same_marks)
arm_eq-partial_equiv = partial_equiv_from_equiv arm_eq-equiv

-- ---- the program's formulas

abbrev from_rel : theory.Rel → relation.Rel
from_rel theory.Eq = Eq
from_rel theory.Root = Root
from_rel theory.Below = Below
from_rel theory.Step = Step
from_rel theory.Par = Par
from_rel theory.Plus = Plus
from_rel theory.Star = Star
from_rel theory.Conv = Conv

abbrev from_core : theory.Core → Core
from_core theory.True = True
from_core (theory.Leaf (theory.Related rel index x y)) = Atom (from_rel rel) index x y
from_core (theory.Leaf (theory.InContext e number place x y)) = Rel (from_expression e) (from_hole_number number) (from_hole_place place) x y
from_core (theory.Leaf (theory.Normal index x)) = Nf index x
from_core (theory.Leaf (theory.IsTerm x t)) = Is x t
from_core (theory.Not f) = Not f
from_core (theory.Binary logic.And f g) = And f g
from_core (theory.Binary logic.Or f g) = Or f g
from_core (theory.Binary logic.Iff f g) = Iff f g
from_core (theory.Exists n f) = Exists n f
from_core (theory.Infinite n f) = Infinite n f

from_rel-again : (rel : relation.Rel) → from_rel (as_rel rel) ≡ rel
from_rel-again Eq = refl
from_rel-again Root = refl
from_rel-again Below = refl
from_rel-again Step = refl
from_rel-again Par = refl
from_rel-again Plus = refl
from_rel-again Star = refl
from_rel-again Conv = refl

from_core-again : (c : Core) → from_core (as_core c) ≡ c
from_core-again True = refl
from_core-again (Atom rel index x y) = ap (λ (r : relation.Rel). Atom r index x y) (from_rel-again rel)
from_core-again (Rel e holes place x y) =
    ap (λ (d : Rex). Rel d (from_hole_number (as_hole_number holes)) (from_hole_place (as_hole_place place)) x y) (from_expression-again e)
    ∙ (ap (λ (n : Holes). Rel e n (from_hole_place (as_hole_place place)) x y) (from_hole_number-again holes)
    ∙ ap (λ (p : Place). Rel e holes p x y) (from_hole_place-again place))
from_core-again (Nf index x) = refl
from_core-again (Is x t) = refl
from_core-again (Not f) = refl
from_core-again (And f g) = refl
from_core-again (Or f g) = refl
from_core-again (Iff f g) = refl
from_core-again (Exists n f) = refl
from_core-again (Infinite n f) = refl

pub as_core-injective : (c d : Core) → as_core c ≡ as_core d → c ≡ d
as_core-injective c d e = sym (from_core-again c) ∙ (ap from_core e ∙ from_core-again d)

-- equal exactly where the formulas are equal
pub Core_eq-Decides : (c d : Core) → Decides (on core_spelled same_marks c d) (c ≡ d)
Core_eq-Decides c d =
    let same = arm_eq-Decides (as_core c) (as_core d) in (λ e. as_core-injective c d (same.0 e), λ e. same.1 (ap as_core e))

pub Core_eq-equiv : IsEquivalence (on core_spelled same_marks)
Core_eq-equiv = decided (on core_spelled same_marks) Core_eq-Decides

pub Core_eq-partial_equiv : IsPartialEquivalence (on core_spelled same_marks)
Core_eq-partial_equiv = partial_equiv_from_equiv Core_eq-equiv

-- ---- a variable and its term

tree_eq-spelled : (s t : Tree) → tree_eq s t ≡ pointwise nat_eq (tree.spelled s) (tree.spelled t)
tree_eq-spelled s t = tree_eq-ties s t ∙ (ap is_eq (tree_order-spelled s t) ∙ sym (texts_ties (tree.spelled s) (tree.spelled t)))

and-true : (b : Bool) → b ≡ (b && true)
and-true true = refl
and-true false = refl

-- where the variables are equal, the terms decide
pub Is_eq-terms : (x y : ℕ) (s t : Tree) → x ≡ y → tree_eq s t ≡ same_marks (spelled (theory.Leaf (theory.IsTerm x s))) (spelled (theory.Leaf (theory.IsTerm y t)))
Is_eq-terms x y s t e = rw (eq-eqb x y e) (tree_eq-spelled s t ∙ and-true (pointwise nat_eq (tree.spelled s) (tree.spelled t)))

-- ---- two operands

-- what a list that begins with a formula's spelling begins with, and how it goes on
read_first : (f : theory.Core) (ms : List Mark) → first_formula (read_back (spelled f ++ ms)) ≡ f
read_first f ms = ap first_formula (read_back-spelled f ms)

pub same_first : (f h : theory.Core) (us vs : List Mark) → spelled f ++ us ≡ spelled h ++ vs → f ≡ h
same_first f h us vs e = sym (read_first f us) ∙ (ap (λ ms. first_formula (read_back ms)) e ∙ read_first h vs)

same_rest : {A : Type 0} (xs us vs : List A) → xs ++ us ≡ xs ++ vs → us ≡ vs
same_rest [] us vs e = e
same_rest (x ∷ xs) us vs e = let h : xs ++ us ≡ xs ++ vs = cc in same_rest xs us vs h

rest_decides : (ms us vs : List Mark) → same_marks us vs ≡ same_marks (ms ++ us) (ms ++ vs)
rest_decides ms us vs =
    let rests = marks_decide us vs in
    let lists = marks_decide (ms ++ us) (ms ++ vs) in
    one_answer (same_marks us vs) (same_marks (ms ++ us) (ms ++ vs)) rests
    (λ e. same_rest ms us vs (lists.0 e), λ e. lists.1 (ap (λ ws. ms ++ ws) e))

-- where the first operands are equal, the second ones decide
pub two_eq-then : (f g h k : theory.Core) → same_marks (spelled f) (spelled h) ≡ true
    → same_marks (spelled g) (spelled k) ≡ same_marks (spelled f ++ spelled g) (spelled h ++ spelled k)
two_eq-then f g h k e =
    rest_decides (spelled f) (spelled g) (spelled k)
    ∙ ap (λ ws. same_marks (spelled f ++ spelled g) (ws ++ spelled k)) ((marks_decide (spelled f) (spelled h)).0 e)

not_true : (b : Bool) → (b ≡ true → ⊥) → false ≡ b
not_true true h = absurd (h refl)
not_true false h = refl

pub two_eq-else : (f g h k : theory.Core) → same_marks (spelled f) (spelled h) ≡ false
    → false ≡ same_marks (spelled f ++ spelled g) (spelled h ++ spelled k)
two_eq-else f g h k e =
    not_true (same_marks (spelled f ++ spelled g) (spelled h ++ spelled k))
    (λ same.
    let firsts = same_first f h (spelled g) (spelled k) ((marks_decide (spelled f ++ spelled g) (spelled h ++ spelled k)).0 same) in
    let equal : same_marks (spelled f) (spelled h) ≡ true = (marks_decide (spelled f) (spelled h)).1 (ap spelled firsts) in
    cc)
