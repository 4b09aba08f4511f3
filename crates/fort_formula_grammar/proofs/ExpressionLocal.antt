-- Reading an expression is local: what was read as one is read as it too where other tokens follow, unless an index or a ( is the first of them.
use Rattle.std.proofs.Common.{List, [], ◌∷◌}
use Rattle.fort_theory.specs.Expressions.{Expression}
use Rattle.fort_theory.specs.Contexts.{HoleNumber, HolePlace}
use Rattle.fort_formula_grammar.specs.Tokens.{Token, Open, Begin, Variable}
use Rattle.fort_formula_grammar.specs.ExpressionGrammar.{IsExpression, OfRoot, OfOne, OfTwo, IsEnclosed, Between}
use Rattle.fort_formula_grammar.proofs.LocalParts.{Local, Local-front, Local-back, Local-then, index-local}

pub expression-local : {ts us : List Token} {e : Expression} → IsExpression ts e us → Local (λ x z. IsExpression x e z) ts us
expression-local (OfRoot {x = x} h i) = Local-front (Variable x ∷ []) (index-local i) (λ y z p. OfRoot h p)
expression-local (OfOne op {x = x} h e) = Local-front (Variable x ∷ Open ∷ []) (Local-back (expression-local e)) (λ y z p. OfOne op h p)
expression-local (OfTwo op {x = x} h a b) =
    Local-front (Variable x ∷ Open ∷ []) (Local-then (expression-local a) (Local-back (expression-local b))) (λ y z p. OfTwo op h p.1.0 p.1.1)

pub enclosed-local : {ts us : List Token} {e : Expression} {number : HoleNumber} {place : HolePlace} → IsEnclosed ts e number place us
    → Local (λ x z. IsEnclosed x e number place z) ts us
enclosed-local (Between h k e) =
    Local-front (Begin ∷ []) (Local-back (Local-back (Local-back (Local-back (Local-back (expression-local e)))))) (λ y z p. Between h k p)
