-- To believe: an expression is spelled in prefix form, by one number for each node, its place in the list of the nodes; a root step's index stands behind its place.
use Rattle.std.specs.Prelude.{◌≡◌, ℕ, zero, suc, List, [], ◌∷◌, ◌++◌, slice_index_or, refl}
use Rattle.std.proofs.Common.{ap, sym, ◌∙◌, append_assoc, append-nil}
use Rattle.std.specs.Coded.{Coded, code_by, coded_list, coded_ℕ}
use Rattle.fort_theory.specs.Expressions.{Expression, RootSteps, Inverse, Union, Composition, Closure}

abbrev pub spelled : Expression → List ℕ
spelled (RootSteps index) = 0 ∷ index ∷ []
spelled (Inverse e) = 1 ∷ spelled e
spelled (Union a b) = 2 ∷ (spelled a ++ spelled b)
spelled (Composition a b) = 3 ∷ (spelled a ++ spelled b)
spelled (Closure e) = 4 ∷ spelled e

-- ---- a spelling is read from its end to its front, over a stack

abbrev pub one_read : (Expression → Expression) → List Expression → List Expression
one_read make [] = []
one_read make (e ∷ rest) = make e ∷ rest

abbrev pub two_read : (Expression → Expression → Expression) → List Expression → List Expression
two_read make (a ∷ b ∷ rest) = make a b ∷ rest
two_read make other = other

-- by the place of the node, one less
abbrev pub readers : List (List Expression → List Expression)
readers = one_read Inverse ∷ two_read Union ∷ two_read Composition ∷ one_read Closure ∷ []

abbrev pub read_back : List ℕ → List Expression
read_back [] = []
read_back (zero ∷ []) = []
read_back (zero ∷ index ∷ ns) = RootSteps index ∷ read_back ns
read_back (suc place ∷ ns) = slice_index_or readers place (λ es. es) (read_back ns)

abbrev pub first_expression : List Expression → Expression
first_expression [] = RootSteps 0
first_expression (e ∷ rest) = e

-- two expressions are read one after the other
pub read_back-two : (make : Expression → Expression → Expression) (a b : Expression) (ns : List ℕ)
    → ((ms : List ℕ) → read_back (spelled a ++ ms) ≡ a ∷ read_back ms)
    → ((ms : List ℕ) → read_back (spelled b ++ ms) ≡ b ∷ read_back ms)
    → two_read make (read_back ((spelled a ++ spelled b) ++ ns)) ≡ make a b ∷ read_back ns
read_back-two make a b ns h k =
    ap (λ ms. two_read make (read_back ms)) (append_assoc (spelled a) (spelled b) ns)
    ∙ (ap (two_read make) (h (spelled b ++ ns)) ∙ ap (λ es. two_read make (a ∷ es)) (k ns))

pub read_back-spelled : (e : Expression) (ns : List ℕ) → read_back (spelled e ++ ns) ≡ e ∷ read_back ns
read_back-spelled (RootSteps index) ns = refl
read_back-spelled (Inverse e) ns = ap (one_read Inverse) (read_back-spelled e ns)
read_back-spelled (Union a b) ns = read_back-two Union a b ns (λ ms. read_back-spelled a ms) (λ ms. read_back-spelled b ms)
read_back-spelled (Composition a b) ns = read_back-two Composition a b ns (λ ms. read_back-spelled a ms) (λ ms. read_back-spelled b ms)
read_back-spelled (Closure e) ns = ap (one_read Closure) (read_back-spelled e ns)

abbrev pub expression_of_code : List ℕ → Expression
expression_of_code ns = first_expression (read_back ns)

-- whatever follows its spelling
pub read_first : (e : Expression) (ns : List ℕ) → expression_of_code (spelled e ++ ns) ≡ e
read_first e ns = ap first_expression (read_back-spelled e ns)

pub expression_again : (e : Expression) → expression_of_code (spelled e) ≡ e
expression_again e = ap expression_of_code (sym (append-nil (spelled e))) ∙ read_first e []

abbrev pub expression_code : Coded Expression
expression_code = code_by (List ℕ) (coded_list coded_ℕ) spelled expression_of_code expression_again
