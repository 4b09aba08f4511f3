-- Which readings end before the next token.
use Rattle.std.proofs.Common.{◌≡◌, false, List, [], ◌∷◌, refl}
use Rattle.fort_formula_grammar.specs.Tokens.{Token, And, Or, Imp, Iff}
use Rattle.fort_formula_grammar.specs.Continuations.{continues_conjunction, continues_disjunction, continues_implication, continues_formula, HasNoNext}

-- a reading of a kind ends where one of the kind within it does and its own connective isn't next
pub disjunction_ended : (ts : List Token) → continues_conjunction ts ≡ false → HasNoNext Or ts → continues_disjunction ts ≡ false
disjunction_ended [] e other = refl
disjunction_ended (And ∷ ts) e other = e
disjunction_ended (Or ∷ ts) e other = absurd (other ts refl)
disjunction_ended (t ∷ ts) e other = refl

pub implication_ended : (ts : List Token) → continues_disjunction ts ≡ false → HasNoNext Imp ts → continues_implication ts ≡ false
implication_ended [] e other = refl
implication_ended (And ∷ ts) e other = e
implication_ended (Or ∷ ts) e other = e
implication_ended (Imp ∷ ts) e other = absurd (other ts refl)
implication_ended (t ∷ ts) e other = refl

pub formula_ended : (ts : List Token) → continues_implication ts ≡ false → HasNoNext Iff ts → continues_formula ts ≡ false
formula_ended [] e other = refl
formula_ended (And ∷ ts) e other = e
formula_ended (Or ∷ ts) e other = e
formula_ended (Imp ∷ ts) e other = e
formula_ended (Iff ∷ ts) e other = absurd (other ts refl)
formula_ended (t ∷ ts) e other = refl
