-- Law: the equality of expressions decides whether they are equal, and equal operands are told from what follows them.
use Rattle.std.specs.Prelude.{◌≡◌, ℕ, Bool, true, false, List, [], ◌∷◌, ◌++◌, refl}
use Rattle.std.specs.Bool.{Decides, one_answer}
use Rattle.std.specs.Ordering.{on}
use Rattle.std.specs.Cmp.{IsPartialEquivalence, IsEquivalence, partial_equiv_from_equiv, decided}
use Rattle.std.proofs.Common.{ap, sym, ◌∙◌}
use lib.Pointwise.{bytes_decides}
use Rattle.fort_theory.specs.Expressions as theory
use Rattle.fort_relations.specs.declared.rex.Rex.{Rex}
use Rattle.fort_relations.specs.declared.rex.Rex.TheVariants.{Root, Inv, Union, Comp, Clos}
use Rattle.fort_relations.specs.ExpressionCode.{spelled, expression_of_code, read_first, expression_again}
use Rattle.fort_relations.specs.RexView.{as_expression}
use Rattle.fort_relations.specs.RexKeys.{rex_spelled, same_numbers}

spelled-injective : (e d : theory.Expression) → spelled e ≡ spelled d → e ≡ d
spelled-injective e d same = sym (expression_again e) ∙ (ap expression_of_code same ∙ expression_again d)

-- equal exactly where the expressions are equal
pub arm_eq-Decides : (e d : theory.Expression) → Decides (on spelled same_numbers e d) (e ≡ d)
arm_eq-Decides e d =
    let same = bytes_decides (spelled e) (spelled d) in (λ h. spelled-injective e d (same.0 h), λ h. same.1 (ap spelled h))

pub arm_eq-equiv : IsEquivalence (on spelled same_numbers)
arm_eq-equiv = decided (on spelled same_numbers) arm_eq-Decides

pub arm_eq-partial_equiv : IsPartialEquivalence (on spelled same_numbers)
arm_eq-partial_equiv = partial_equiv_from_equiv arm_eq-equiv

-- ---- the program's expressions

abbrev pub from_expression : theory.Expression → Rex
from_expression (theory.RootSteps index) = Root index
from_expression (theory.Inverse e) = Inv e
from_expression (theory.Union a b) = Union a b
from_expression (theory.Composition a b) = Comp a b
from_expression (theory.Closure e) = Clos e

pub from_expression-again : (r : Rex) → from_expression (as_expression r) ≡ r
from_expression-again (Root index) = refl
from_expression-again (Inv e) = refl
from_expression-again (Union a b) = refl
from_expression-again (Comp a b) = refl
from_expression-again (Clos e) = refl

pub as_expression-injective : (r q : Rex) → as_expression r ≡ as_expression q → r ≡ q
as_expression-injective r q e = sym (from_expression-again r) ∙ (ap from_expression e ∙ from_expression-again q)

-- equal exactly where the expressions are equal
pub Rex_eq-Decides : (r q : Rex) → Decides (on rex_spelled same_numbers r q) (r ≡ q)
Rex_eq-Decides r q =
    let same = arm_eq-Decides (as_expression r) (as_expression q) in
    (λ e. as_expression-injective r q (same.0 e), λ e. same.1 (ap as_expression e))

pub Rex_eq-equiv : IsEquivalence (on rex_spelled same_numbers)
Rex_eq-equiv = decided (on rex_spelled same_numbers) Rex_eq-Decides

pub Rex_eq-partial_equiv : IsPartialEquivalence (on rex_spelled same_numbers)
Rex_eq-partial_equiv = partial_equiv_from_equiv Rex_eq-equiv

-- ---- two operands

-- what a list that begins with an expression's spelling begins with, and how it goes on
pub same_first : (e d : theory.Expression) (us vs : List ℕ) → spelled e ++ us ≡ spelled d ++ vs → e ≡ d
same_first e d us vs h = sym (read_first e us) ∙ (ap expression_of_code h ∙ read_first d vs)

same_rest : {A : Type 0} (xs us vs : List A) → xs ++ us ≡ xs ++ vs → us ≡ vs
same_rest [] us vs e = e
same_rest (x ∷ xs) us vs e = let h : xs ++ us ≡ xs ++ vs = cc in same_rest xs us vs h

rest_decides : (ns us vs : List ℕ) → same_numbers us vs ≡ same_numbers (ns ++ us) (ns ++ vs)
rest_decides ns us vs =
    let rests = bytes_decides us vs in
    let lists = bytes_decides (ns ++ us) (ns ++ vs) in
    one_answer (same_numbers us vs) (same_numbers (ns ++ us) (ns ++ vs)) rests
    (λ e. same_rest ns us vs (lists.0 e), λ e. lists.1 (ap (λ ws. ns ++ ws) e))

-- where the first operands are equal, the second ones decide
pub two_eq-then : (a b c d : theory.Expression) → same_numbers (spelled a) (spelled c) ≡ true
    → same_numbers (spelled b) (spelled d) ≡ same_numbers (spelled a ++ spelled b) (spelled c ++ spelled d)
two_eq-then a b c d e =
    rest_decides (spelled a) (spelled b) (spelled d)
    ∙ ap (λ ws. same_numbers (spelled a ++ spelled b) (ws ++ spelled d)) ((bytes_decides (spelled a) (spelled c)).0 e)

not_true : (b : Bool) → (b ≡ true → ⊥) → false ≡ b
not_true true h = absurd (h refl)
not_true false h = refl

pub two_eq-else : (a b c d : theory.Expression) → same_numbers (spelled a) (spelled c) ≡ false
    → false ≡ same_numbers (spelled a ++ spelled b) (spelled c ++ spelled d)
two_eq-else a b c d e =
    not_true (same_numbers (spelled a ++ spelled b) (spelled c ++ spelled d))
    (λ same.
    let firsts = same_first a c (spelled b) (spelled d) ((bytes_decides (spelled a ++ spelled b) (spelled c ++ spelled d)).0 same) in
    let equal : same_numbers (spelled a) (spelled c) ≡ true = (bytes_decides (spelled a) (spelled c)).1 (ap spelled firsts) in
    cc)
