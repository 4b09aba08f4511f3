-- The words of expressions differ, and each list of words has those of its kind.
use Rattle.std.proofs.Common.{◌≡◌, ℕ, ◌==◌, Bool, [], ◌∷◌, get_or, Contains, refl, sym, ap, inl, inr, arith}
use Rattle.std.proofs.lemmas.Bool.{false≢true}
use Rattle.fort_theory.proofs.Members.{Contains-cons_cases, Contains-none}
use Rattle.fort_theory.specs.Contexts.{HoleNumber, OneHole, SomeHoles, AnyHoles, HolePlace, AtTheRoot, BelowTheRoot, AnyPlace}
use Rattle.fort_logic.specs.Formulas.{Name}
use Rattle.fort_formula_grammar.specs.ExpressionGrammar.{OneOperand, Inv, Clos, TwoOperands, Uni, Comp, root_word, one_word, two_word, number_word, place_word, expression_words, number_words, place_words}

-- this byte stands at the place of a word
abbrev has_byte : ℕ → ℕ → Name → Bool
has_byte k b w = get_or w k 0 == b

pub root-not_one : (op : OneOperand) → root_word ≡ one_word op → ⊥
root-not_one Inv e = false≢true (ap (has_byte 0 105) e)
root-not_one Clos e = false≢true (ap (has_byte 0 99) e)

pub root-not_two : (op : TwoOperands) → root_word ≡ two_word op → ⊥
root-not_two Uni e = false≢true (ap (has_byte 0 117) e)
root-not_two Comp e = false≢true (ap (has_byte 0 99) e)

pub one-not_two : (op : OneOperand) (other : TwoOperands) → one_word op ≡ two_word other → ⊥
one-not_two Inv Uni e = false≢true (ap (has_byte 0 117) e)
one-not_two Inv Comp e = false≢true (ap (has_byte 0 99) e)
one-not_two Clos Uni e = false≢true (ap (has_byte 0 117) e)
one-not_two Clos Comp e = false≢true (ap (has_byte 1 111) e)

pub one_word-injective : (op other : OneOperand) → one_word op ≡ one_word other → op ≡ other
one_word-injective Inv Inv e = refl
one_word-injective Inv Clos e = absurd (false≢true (ap (has_byte 0 99) e))
one_word-injective Clos Inv e = absurd (false≢true (ap (has_byte 0 105) e))
one_word-injective Clos Clos e = refl

pub two_word-injective : (op other : TwoOperands) → two_word op ≡ two_word other → op ≡ other
two_word-injective Uni Uni e = refl
two_word-injective Uni Comp e = absurd (false≢true (ap (has_byte 0 99) e))
two_word-injective Comp Uni e = absurd (false≢true (ap (has_byte 0 117) e))
two_word-injective Comp Comp e = refl

pub number_word-injective : (m n : HoleNumber) → number_word m ≡ number_word n → m ≡ n
number_word-injective OneHole OneHole e = refl
number_word-injective OneHole SomeHoles e = absurd (false≢true (ap (has_byte 0 115) e))
number_word-injective OneHole AnyHoles e = absurd (false≢true (ap (has_byte 0 97) e))
number_word-injective SomeHoles OneHole e = absurd (false≢true (ap (has_byte 0 111) e))
number_word-injective SomeHoles SomeHoles e = refl
number_word-injective SomeHoles AnyHoles e = absurd (false≢true (ap (has_byte 0 97) e))
number_word-injective AnyHoles OneHole e = absurd (false≢true (ap (has_byte 0 111) e))
number_word-injective AnyHoles SomeHoles e = absurd (false≢true (ap (has_byte 0 115) e))
number_word-injective AnyHoles AnyHoles e = refl

pub place_word-injective : (p q : HolePlace) → place_word p ≡ place_word q → p ≡ q
place_word-injective AtTheRoot AtTheRoot e = refl
place_word-injective AtTheRoot BelowTheRoot e = absurd (false≢true (ap (has_byte 0 98) e))
place_word-injective AtTheRoot AnyPlace e = absurd (false≢true (ap (has_byte 0 97) e))
place_word-injective BelowTheRoot AtTheRoot e = absurd (false≢true (ap (has_byte 0 114) e))
place_word-injective BelowTheRoot BelowTheRoot e = refl
place_word-injective BelowTheRoot AnyPlace e = absurd (false≢true (ap (has_byte 0 97) e))
place_word-injective AnyPlace AtTheRoot e = absurd (false≢true (ap (has_byte 0 114) e))
place_word-injective AnyPlace BelowTheRoot e = absurd (false≢true (ap (has_byte 0 98) e))
place_word-injective AnyPlace AnyPlace e = refl

pub one_word-among : (op : OneOperand) → Contains expression_words (one_word op)
one_word-among Inv = (1, omega arith, refl)
one_word-among Clos = (4, omega arith, refl)

pub two_word-among : (op : TwoOperands) → Contains expression_words (two_word op)
two_word-among Uni = (2, omega arith, refl)
two_word-among Comp = (3, omega arith, refl)

pub number_word-among : (number : HoleNumber) → Contains number_words (number_word number)
number_word-among OneHole = (0, omega arith, refl)
number_word-among SomeHoles = (1, omega arith, refl)
number_word-among AnyHoles = (2, omega arith, refl)

pub place_word-among : (place : HolePlace) → Contains place_words (place_word place)
place_word-among AtTheRoot = (0, omega arith, refl)
place_word-among BelowTheRoot = (1, omega arith, refl)
place_word-among AnyPlace = (2, omega arith, refl)

pub number_among : (x : Name) → Contains number_words x → (number : HoleNumber) × (x ≡ number_word number)
number_among x c =
    elim (Contains-cons_cases (number_word OneHole) (number_word SomeHoles ∷ number_word AnyHoles ∷ []) x c) [
      | inl e ↦ (OneHole, sym e)
      | inr d ↦ elim (Contains-cons_cases (number_word SomeHoles) (number_word AnyHoles ∷ []) x d) [
        | inl e ↦ (SomeHoles, sym e)
        | inr f ↦ elim (Contains-cons_cases (number_word AnyHoles) [] x f) [ inl e ↦ (AnyHoles, sym e) | inr g ↦ absurd (Contains-none x g) ]
      ]
    ]

pub place_among : (x : Name) → Contains place_words x → (place : HolePlace) × (x ≡ place_word place)
place_among x c =
    elim (Contains-cons_cases (place_word AtTheRoot) (place_word BelowTheRoot ∷ place_word AnyPlace ∷ []) x c) [
      | inl e ↦ (AtTheRoot, sym e)
      | inr d ↦ elim (Contains-cons_cases (place_word BelowTheRoot) (place_word AnyPlace ∷ []) x d) [
        | inl e ↦ (BelowTheRoot, sym e)
        | inr f ↦ elim (Contains-cons_cases (place_word AnyPlace) [] x f) [ inl e ↦ (AnyPlace, sym e) | inr g ↦ absurd (Contains-none x g) ]
      ]
    ]
