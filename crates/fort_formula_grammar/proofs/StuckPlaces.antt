-- Tokens that are no formula go wrong where a reading is stuck, and at no other place.
use Rattle.std.proofs.Common.{◌≡◌, List, [], ◌∷◌, ◌++◌, ◌⊎◌, inl, inr, append_assoc, append-nil, refl, sym, ◌∙◌, subst}
use Rattle.fort_logic.specs.Formulas.{Formula}
use Rattle.fort_formula_grammar.specs.Tokens.{Token}
use Rattle.fort_formula_grammar.specs.FormulaGrammar.{IsFormula}
use Rattle.fort_formula_grammar.specs.Stuck.{StuckWhole}
use Rattle.fort_formula_grammar.specs.FormulaText.{BeginsFormula}
use Rattle.fort_formula_grammar.proofs.FirstTokens.{BothBegin}
use Rattle.fort_formula_grammar.proofs.StuckLocal.{StuckWhole-local}
use Rattle.fort_formula_grammar.proofs.StuckNothing.{StuckWhole-nothing}

one_more : (before : List Token) (t : Token) (after : List Token) → (before ++ t ∷ []) ++ after ≡ before ++ t ∷ after
one_more before t after = append_assoc before (t ∷ []) after

pub goes_wrong_at_token : {ts us : List Token} {t : Token} → StuckWhole ts (t ∷ us)
    → (read : List Token) × ((ts ≡ read ++ t ∷ us) × BeginsFormula read × (BeginsFormula (read ++ t ∷ []) → ⊥))
goes_wrong_at_token {t = t} s =
    let p = StuckWhole-local s in
    let begins : BeginsFormula p.read = (p.more ++ [], p.whole [] refl) in
    let formula : (b : BeginsFormula (p.read ++ t ∷ [])) → IsFormula (p.read ++ t ∷ b.0) b.1.0 [] =
    λ b. subst (λ w. IsFormula w b.1.0 []) (one_more p.read t b.0) b.1.1 in
    (p.read, (p.is, begins, λ b. StuckWhole-nothing (p.again (t ∷ b.0) BothBegin) b.1.0 (formula b)))

pub goes_wrong_at_end : {ts : List Token} → StuckWhole ts [] → BeginsFormula ts × ((f : Formula) → IsFormula ts f [] → ⊥)
goes_wrong_at_end s =
    let p = StuckWhole-local s in
    let all : p.read ≡ _ = sym (p.is ∙ append-nil p.read) in
    let begins : BeginsFormula p.read = (p.more ++ [], p.whole [] refl) in
    (subst BeginsFormula all begins, StuckWhole-nothing s)

-- what begins longer tokens that begin a formula begins one
pub BeginsFormula-shorter : (ts us : List Token) → BeginsFormula (ts ++ us) → BeginsFormula ts
BeginsFormula-shorter ts us b = (us ++ b.0, (b.1.0, subst (λ w. IsFormula w b.1.0 []) (append_assoc ts us b.0) b.1.1))

-- a token with which none begins a formula any more isn't within tokens that begin one
pub first_wrong-begins : {tokens : List Token} (before after : List Token) (next : Token) → tokens ≡ before ++ next ∷ after
    → (BeginsFormula (before ++ next ∷ []) → ⊥) → BeginsFormula tokens → ⊥
first_wrong-begins before after next e never b =
    never (BeginsFormula-shorter (before ++ next ∷ []) after (subst BeginsFormula (e ∙ sym (one_more before next after)) b))

-- two fronts of one list are the same, or the one goes on with what follows the other
record GoesOn (xs : List Token) (t : Token) (ys : List Token) : Type 0 where
  more : List Token
  is : ys ≡ xs ++ t ∷ more

GoesOn-next : {xs ys : List Token} {s t u : Token} → t ≡ u → GoesOn xs s ys → GoesOn (t ∷ xs) s (u ∷ ys)
GoesOn-next e g = let is = g.is in record { more = g.more; is = cc }

fronts : (xs ys ws zs : List Token) (s t : Token) → xs ++ s ∷ ws ≡ ys ++ t ∷ zs → (xs ≡ ys) ⊎ (GoesOn xs s ys ⊎ GoesOn ys t xs)
fronts [] [] ws zs s t e = inl refl
fronts [] (y ∷ ys) ws zs s t e = inr (inl (record { more = ys; is = cc }))
fronts (x ∷ xs) [] ws zs s t e = inr (inr (record { more = xs; is = cc }))
fronts (x ∷ xs) (y ∷ ys) ws zs s t e =
    let heads : x ≡ y = cc in
    elim (fronts xs ys ws zs s t cc) [
      | inl same ↦ inl cc
      | inr (inl g) ↦ inr (inl (GoesOn-next heads g))
      | inr (inr g) ↦ inr (inr (GoesOn-next (sym heads) g))
    ]

pub first_wrong-unique : {tokens : List Token}
    → (before1 after1 : List Token) (next1 : Token) → tokens ≡ before1 ++ next1 ∷ after1 → BeginsFormula before1
    → (BeginsFormula (before1 ++ next1 ∷ []) → ⊥)
    → (before2 after2 : List Token) (next2 : Token) → tokens ≡ before2 ++ next2 ∷ after2 → BeginsFormula before2
    → (BeginsFormula (before2 ++ next2 ∷ []) → ⊥) → before1 ≡ before2
first_wrong-unique before1 after1 next1 e begins1 never1 before2 after2 next2 h begins2 never2 =
    elim (fronts before1 before2 after1 after2 next1 next2 (sym e ∙ h)) [
      | inl same ↦ same
      | inr (inl g) ↦ absurd (first_wrong-begins before1 g.more next1 g.is never1 begins2)
      | inr (inr g) ↦ absurd (first_wrong-begins before2 g.more next2 g.is never2 begins1)
    ]
