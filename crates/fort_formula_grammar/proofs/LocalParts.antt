-- How readings that are local are put together: what was read is read again where other tokens follow, unless an index or a ( is the first of them.
use Rattle.std.proofs.Common.{◌≡◌, ℕ, true, Bool, false, List, [], ◌∷◌, ◌++◌, append_assoc, refl, sym, ap, ◌∙◌, subst}
use Rattle.std.proofs.lemmas.Bool.{true≢false, false_from_ne_true}
use Rattle.fort_formula_grammar.specs.Tokens.{Token, Open, Index}
use Rattle.fort_formula_grammar.specs.ExpressionGrammar.{begins_with_index, IsIndex, Given, LeftOut}
use Rattle.fort_formula_grammar.specs.FormulaGrammar.{begins_with_open}

-- whether an index comes first depends on the first token alone
pub index_first : (t : Token) (us vs : List Token) → begins_with_index (t ∷ us) ≡ true → begins_with_index (t ∷ vs) ≡ true
index_first (Index n) us vs h = refl
index_first t us vs h = h

pub open_first : (t : Token) (us vs : List Token) → begins_with_open (t ∷ us) ≡ true → begins_with_open (t ∷ vs) ≡ true
open_first Open us vs h = refl
open_first t us vs h = h

-- an index, or a (, comes first of these only if it does of those
abbrev pub GoesOnLess : List Token → List Token → Type 0
GoesOnLess vs us = (begins_with_index vs ≡ true → begins_with_index us ≡ true) × (begins_with_open vs ≡ true → begins_with_open us ≡ true)

pub less_first : (t : Token) (us vs : List Token) → GoesOnLess (t ∷ us) (t ∷ vs)
less_first t us vs = (index_first t us vs, open_first t us vs)

-- the tokens that were read before the others are of the kind before any, where an index or a ( comes first only if one did
pub record Local (K : List Token → List Token → Type 0) (ts us : List Token) : Type 0 where
  pub read : List Token
  pub is : ts ≡ read ++ us
  pub again : (vs : List Token) → GoesOnLess vs us → K (read ++ vs) vs

-- one kind, a token, and another kind
abbrev pub Then : (List Token → List Token → Type 0) → Token → (List Token → List Token → Type 0) → List Token → List Token → Type 0
Then A t B x z = (y : List Token) × (A x (t ∷ y) × B y z)

pub Local-map : {K L : List Token → List Token → Type 0} {ts us : List Token} → Local K ts us
    → ((x z : List Token) → K x z → L x z) → Local L ts us
Local-map r make = record { read = r.read; is = r.is; again = λ vs h. make (r.read ++ vs) vs (r.again vs h) }

pub Local-token : {L : List Token → List Token → Type 0} {us : List Token} (t : Token) → ((z : List Token) → L (t ∷ z) z) → Local L (t ∷ us) us
Local-token t make = record { read = t ∷ []; is = refl; again = λ vs h. make vs }

pub Local-front : {K L : List Token → List Token → Type 0} {ts us : List Token} (front : List Token) → Local K ts us
    → ((x z : List Token) → K x z → L (front ++ x) z) → Local L (front ++ ts) us
Local-front {L = L} {us = us} front r make = record {
  read = front ++ r.read;
  is = ap (λ w. front ++ w) r.is ∙ sym (append_assoc front r.read us);
  again = λ vs h. subst (λ x. L x vs) (sym (append_assoc front r.read vs)) (make (r.read ++ vs) vs (r.again vs h));
}

pub Local-back : {K : List Token → List Token → Type 0} {ts us : List Token} {t : Token} → Local K ts (t ∷ us)
    → Local (λ x z. K x (t ∷ z)) ts us
Local-back {K} {us = us} {t = t} r = record {
  read = r.read ++ t ∷ [];
  is = r.is ∙ sym (append_assoc r.read (t ∷ []) us);
  again = λ vs h. subst (λ x. K x (t ∷ vs)) (sym (append_assoc r.read (t ∷ []) vs)) (r.again (t ∷ vs) (less_first t vs us));
}

pub Local-then : {A B : List Token → List Token → Type 0} {ts us vs : List Token} {t : Token} → Local A ts (t ∷ us) → Local B us vs
    → Local (Then A t B) ts vs
Local-then {A} {B} {us = us} {vs = vs} {t = t} a b = record {
  read = a.read ++ t ∷ b.read;
  is = a.is ∙ (ap (λ w. a.read ++ t ∷ w) b.is ∙ sym (append_assoc a.read (t ∷ b.read) vs));
  again = λ ws h. subst (λ x. Then A t B x ws) (sym (append_assoc a.read (t ∷ b.read) ws))
      (b.read ++ ws, (a.again (t ∷ (b.read ++ ws)) (less_first t (b.read ++ ws) us), b.again ws h));
}

-- where what was true only if a false fact was is false too
pub still_false : (b c : Bool) → (b ≡ true → c ≡ true) → c ≡ false → b ≡ false
still_false b c h e = false_from_ne_true b (λ i. true≢false (sym (h i) ∙ e))

-- an index is read again before all that begins with none, a ( too
pub record LocalIndex (ts : List Token) (n : ℕ) (us : List Token) : Type 0 where
  pub read : List Token
  pub is : ts ≡ read ++ us
  pub again : (vs : List Token) → (begins_with_index vs ≡ true → begins_with_index us ≡ true) → IsIndex (read ++ vs) n vs

pub index-again : {ts us : List Token} {n : ℕ} → IsIndex ts n us → LocalIndex ts n us
index-again (Given {n = n}) = record { read = Index n ∷ []; is = refl; again = λ vs h. Given }
index-again (LeftOut {us = us} e) =
    record { read = []; is = refl; again = λ vs h. LeftOut (still_false (begins_with_index vs) (begins_with_index us) h e) }

pub index-local : {ts us : List Token} {n : ℕ} → IsIndex ts n us → Local (λ x z. IsIndex x n z) ts us
index-local i = let r = index-again i in record { read = r.read; is = r.is; again = λ vs h. r.again vs h.0 }
