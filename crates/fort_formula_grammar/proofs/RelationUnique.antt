-- Tokens begin with one relation at most, and what follows it is determined.
use Rattle.std.proofs.Common.{◌≡◌, List, refl, sym, ap, ◌∙◌}
use Rattle.std.proofs.lemmas.Bool.{true≢false}
use Rattle.fort_formula_grammar.specs.Tokens.{Token}
use Rattle.fort_formula_grammar.specs.FormulaGrammar.{Comparison, ByRules, ByExpression, IsRelation, WithoutIndex, WithIndex, OfExpression}
use Rattle.fort_formula_grammar.proofs.IndexUnique.{IsIndex-unique}
use Rattle.fort_formula_grammar.proofs.ExpressionUnique.{IsEnclosed-unique}

pub IsRelation-unique : {ts us vs : List Token} {r s : Comparison} → IsRelation ts r us → IsRelation ts s vs → (r ≡ s) × (us ≡ vs)
IsRelation-unique (WithoutIndex e) (WithoutIndex h) = (refl, refl)
IsRelation-unique (WithoutIndex e) (WithIndex h i) = absurd (true≢false (sym h ∙ e))
IsRelation-unique (WithoutIndex e) (OfExpression d) = elim d [ ]
IsRelation-unique (WithIndex e i) (WithoutIndex h) = absurd (true≢false (sym e ∙ h))
IsRelation-unique (WithIndex {rel = rel} e i) (WithIndex h j) = let same = IsIndex-unique i j in (ap (ByRules rel) same.0, same.1)
IsRelation-unique (WithIndex e i) (OfExpression d) = elim d [ ]
IsRelation-unique (OfExpression d) (WithoutIndex e) = elim d [ ]
IsRelation-unique (OfExpression d) (WithIndex e i) = elim d [ ]
IsRelation-unique (OfExpression {e = a} {number = m} {place = p} d) (OfExpression {e = b} {number = n} {place = q} e) =
    let same = IsEnclosed-unique d e in
    (ap (λ x. ByExpression x m p) same.0 ∙ (ap (λ x. ByExpression b x p) same.1 ∙ ap (ByExpression b n) same.2), same.3)
