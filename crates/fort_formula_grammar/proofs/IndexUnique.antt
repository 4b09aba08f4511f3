-- Tokens begin with one index and one argument at most, and what follows it is determined.
use Rattle.std.proofs.Common.{◌≡◌, ℕ, List, ◌∷◌, refl, sym, subst}
use Rattle.std.proofs.lemmas.Bool.{true≢false}
use Rattle.fort_logic.specs.Formulas.{Argument}
use Rattle.fort_formula_grammar.specs.Tokens.{Token}
use Rattle.fort_formula_grammar.specs.ExpressionGrammar.{IsIndex, Given, LeftOut}
use Rattle.fort_formula_grammar.specs.FormulaGrammar.{IsArgument, AVariable, AGround}

pub same_behind : {t : Token} {us vs : List Token} → t ∷ us ≡ t ∷ vs → us ≡ vs
same_behind e = cc

pub IsIndex-unique : {ts us vs : List Token} {m n : ℕ} → IsIndex ts m us → IsIndex ts n vs → (m ≡ n) × (us ≡ vs)
IsIndex-unique Given Given = (refl, refl)
IsIndex-unique Given (LeftOut e) = absurd (true≢false e)
IsIndex-unique (LeftOut e) Given = absurd (true≢false e)
IsIndex-unique (LeftOut e) (LeftOut h) = (refl, refl)

pub IsArgument-unique : {ts us vs : List Token} {a b : Argument} → IsArgument ts a us → IsArgument ts b vs → (a ≡ b) × (us ≡ vs)
IsArgument-unique AVariable AVariable = (refl, refl)
IsArgument-unique AGround AGround = (refl, refl)

-- the same of arguments at places that were found to be one
pub argument_behind : {ts us vs ws : List Token} {a b : Argument} → ts ≡ us → IsArgument ts a vs → IsArgument us b ws → (a ≡ b) × (vs ≡ ws)
argument_behind {ws = ws} {b = b} e p q = IsArgument-unique p (subst (λ ts. IsArgument ts b ws) (sym e) q)
