-- Stuck readings are local, and what was read can be completed: how both are put together from the parts of a reading.
use Rattle.std.proofs.Common.{◌≡◌, ℕ, Bool, true, false, List, [], ◌∷◌, ◌++◌, append_assoc, refl, sym, ap, ◌∙◌, subst}
use Rattle.std.proofs.lemmas.Bool.{true≢false}
use Rattle.fort_formula_grammar.specs.Tokens.{Token, Open, Index}
use Rattle.fort_formula_grammar.specs.ExpressionGrammar.{begins_with_index, IsIndex}
use Rattle.fort_formula_grammar.specs.FormulaGrammar.{begins_with_open}
use Rattle.fort_formula_grammar.proofs.LocalParts.{Local, LocalIndex, Then, less_first}
use Rattle.fort_formula_grammar.proofs.FirstTokens.{SameFirst, index_same, less_same}

-- an index or a ( comes first
abbrev pub goes_on : List Token → Bool
goes_on [] = false
goes_on (Index n ∷ ts) = true
goes_on (Open ∷ ts) = true
goes_on (t ∷ ts) = false

no_index : (ts : List Token) → goes_on ts ≡ false → begins_with_index ts ≡ false
no_index [] e = refl
no_index (Index n ∷ ts) e = e
no_index (t ∷ ts) e = refl

no_open : (ts : List Token) → goes_on ts ≡ false → begins_with_open ts ≡ false
no_open [] e = refl
no_open (Open ∷ ts) e = e
no_open (t ∷ ts) e = refl

-- the tokens that were read are stuck before any that begin alike, and with some behind them they are what was to be read
pub record IsStuck (K X : List Token → List Token → Type 0) (ts us : List Token) : Type 0 where
  pub read : List Token
  pub is : ts ≡ read ++ us
  pub again : (vs : List Token) → SameFirst us vs → K (read ++ vs) vs
  pub more : List Token
  pub whole : (vs : List Token) → goes_on vs ≡ false → X (read ++ (more ++ vs)) vs

pub IsStuck-map : {K L X Y : List Token → List Token → Type 0} {ts us : List Token} → IsStuck K X ts us
    → ((x z : List Token) → K x z → L x z) → ((x z : List Token) → X x z → Y x z) → IsStuck L Y ts us
IsStuck-map s stuck whole = record {
  read = s.read;
  is = s.is;
  again = λ vs h. stuck (s.read ++ vs) vs (s.again vs h);
  more = s.more;
  whole = λ vs h. whole (s.read ++ (s.more ++ vs)) vs (s.whole vs h);
}

pub IsStuck-front : {K L X Y : List Token → List Token → Type 0} {ts us : List Token} (front : List Token) → IsStuck K X ts us
    → ((x z : List Token) → K x z → L (front ++ x) z) → ((x z : List Token) → X x z → Y (front ++ x) z) → IsStuck L Y (front ++ ts) us
IsStuck-front {L = L} {Y = Y} {us = us} front s stuck whole = record {
  read = front ++ s.read;
  is = ap (λ w. front ++ w) s.is ∙ sym (append_assoc front s.read us);
  again = λ vs h. subst (λ x. L x vs) (sym (append_assoc front s.read vs)) (stuck (s.read ++ vs) vs (s.again vs h));
  more = s.more;
  whole = λ vs h. subst (λ x. Y x vs) (sym (append_assoc front s.read (s.more ++ vs)))
      (whole (s.read ++ (s.more ++ vs)) vs (s.whole vs h));
}

pub IsStuck-then : {A K L X Y : List Token → List Token → Type 0} {ts us vs : List Token} {t : Token} → Local A ts (t ∷ us)
    → IsStuck K X us vs
    → ((x z : List Token) → Then A t K x z → L x z) → ((x z : List Token) → Then A t X x z → Y x z) → IsStuck L Y ts vs
IsStuck-then {A} {K} {L} {X} {Y} {ts} {us} {vs} {t} a s stuck whole = record {
  read = a.read ++ t ∷ s.read;
  is = a.is ∙ (ap (λ w. a.read ++ t ∷ w) s.is ∙ sym (append_assoc a.read (t ∷ s.read) vs));
  again = λ ws h. subst (λ x. L x ws) (sym (append_assoc a.read (t ∷ s.read) ws))
      (stuck (a.read ++ t ∷ (s.read ++ ws)) ws (s.read ++ ws, (first (s.read ++ ws), s.again ws h)));
  more = s.more;
  whole = λ ws h. subst (λ x. Y x ws) (sym (append_assoc a.read (t ∷ s.read) (s.more ++ ws)))
      (whole (a.read ++ t ∷ (s.read ++ (s.more ++ ws))) ws (s.read ++ (s.more ++ ws), (first (s.read ++ (s.more ++ ws)), s.whole ws h)));
}
  where
    first : (y : List Token) → A (a.read ++ t ∷ y) (t ∷ y)
    first y = a.again (t ∷ y) (less_first t y us)

-- nothing was read behind the front
pub IsStuck-here : {L Y : List Token → List Token → Type 0} {us : List Token} (front : List Token)
    → ((vs : List Token) → SameFirst us vs → L (front ++ vs) vs)
    → (more : List Token) → ((z : List Token) → Y (front ++ (more ++ z)) z) → IsStuck L Y (front ++ us) us
IsStuck-here front stuck more whole = record { read = front; is = refl; again = stuck; more = more; whole = λ vs h. whole vs }

plain_front : (more vs : List Token) → goes_on more ≡ false → goes_on vs ≡ false → goes_on (more ++ vs) ≡ false
plain_front [] vs e h = h
plain_front (Index n ∷ more) vs e h = absurd (true≢false e)
plain_front (Open ∷ more) vs e h = absurd (true≢false e)
plain_front (t ∷ more) vs e h = refl

-- a stuck reading behind the front, and tokens behind all that completes it
pub IsStuck-closed : {K L X Y : List Token → List Token → Type 0} {ts us : List Token} (front : List Token) → IsStuck K X ts us
    → ((x z : List Token) → K x z → L (front ++ x) z) → (back : List Token) → goes_on back ≡ false
    → ((x z : List Token) → X x (back ++ z) → Y (front ++ x) z) → IsStuck L Y (front ++ ts) us
IsStuck-closed {L = L} {Y = Y} {us = us} front s stuck back plain whole = record {
  read = front ++ s.read;
  is = ap (λ w. front ++ w) s.is ∙ sym (append_assoc front s.read us);
  again = λ vs h. subst (λ x. L x vs) (sym (append_assoc front s.read vs)) (stuck (s.read ++ vs) vs (s.again vs h));
  more = s.more ++ back;
  whole = λ vs h. subst (λ x. Y x vs)
      (ap (λ w. front ++ (s.read ++ w)) (sym (append_assoc s.more back vs)) ∙ sym (append_assoc front s.read ((s.more ++ back) ++ vs)))
      (whole (s.read ++ (s.more ++ (back ++ vs))) vs (s.whole (back ++ vs) (plain_front back vs plain h)));
}

-- a part was read behind the front
pub IsStuck-behind : {A L Y : List Token → List Token → Type 0} {ts us : List Token} (front : List Token) → Local A ts us
    → ((x vs : List Token) → SameFirst us vs → A x vs → L (front ++ x) vs) → (more : List Token) → goes_on more ≡ false
    → ((x z : List Token) → A x (more ++ z) → Y (front ++ x) z) → IsStuck L Y (front ++ ts) us
IsStuck-behind {A} {L} {Y} {ts} {us} front a stuck more plain whole = record {
  read = front ++ a.read;
  is = ap (λ w. front ++ w) a.is ∙ sym (append_assoc front a.read us);
  again = λ vs h. subst (λ x. L x vs) (sym (append_assoc front a.read vs))
      (stuck (a.read ++ vs) vs h (a.again vs (less_same h)));
  more = more;
  whole = λ vs h. subst (λ x. Y x vs) (sym (append_assoc front a.read (more ++ vs)))
      (whole (a.read ++ (more ++ vs)) vs (a.again (more ++ vs) (less (more ++ vs) (plain_front more vs plain h))));
}
  where
    less : (ws : List Token) → goes_on ws ≡ false → (begins_with_index ws ≡ true → begins_with_index us ≡ true) × (begins_with_open ws ≡ true → begins_with_open us ≡ true)
    less ws e = ((λ i. absurd (true≢false (sym i ∙ no_index ws e))), (λ o. absurd (true≢false (sym o ∙ no_open ws e))))

-- an index was read behind the front, and a ( is wanted next
pub IsStuck-unopened : {L Y : List Token → List Token → Type 0} {ts us : List Token} {n : ℕ} (front : List Token) → LocalIndex ts n us
    → ((x vs : List Token) → SameFirst us vs → IsIndex x n vs → L (front ++ x) vs) → (more : List Token)
    → ((x z : List Token) → IsIndex x n (Open ∷ (more ++ z)) → Y (front ++ x) z) → IsStuck L Y (front ++ ts) us
IsStuck-unopened {L} {Y} {ts} {us} front a stuck more whole = record {
  read = front ++ a.read;
  is = ap (λ w. front ++ w) a.is ∙ sym (append_assoc front a.read us);
  again = λ vs h. subst (λ x. L x vs) (sym (append_assoc front a.read vs))
      (stuck (a.read ++ vs) vs h (a.again vs (index_same h)));
  more = Open ∷ more;
  whole = λ vs h. subst (λ x. Y x vs) (sym (append_assoc front a.read (Open ∷ (more ++ vs))))
      (whole (a.read ++ Open ∷ (more ++ vs)) vs (a.again (Open ∷ (more ++ vs)) (λ i. absurd (true≢false (sym i)))));
}
