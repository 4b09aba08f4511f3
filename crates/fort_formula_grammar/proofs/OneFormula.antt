-- A text is one formula at most, or has one first fault, and not both.
use Rattle.std.proofs.Common.{◌≡◌, ◌↔◌, ℕ, suc, List, [], ◌∷◌, ◌++◌, Some, length, inl, inr, refl, sym, ap, ◌∙◌, subst, arith, slice_get}
use Rattle.std.proofs.lemmas.List.{append_cancel_left, append-nil}
use Rattle.fort_logic.specs.Formulas.{Formula}
use Rattle.fort_formula_grammar.specs.Tokens.{Token}
use Rattle.fort_formula_grammar.specs.TokenText.{BeginsWithToken, Reads, Nothing, Blank, Next, StandsAt}
use Rattle.fort_formula_grammar.specs.FormulaGrammar.{IsFormula}
use Rattle.fort_formula_grammar.specs.FormulaText as fault
use Rattle.fort_formula_grammar.specs.FormulaText.{AreShallow, AreGroundsOf, Ground, IsFormulaText, GoesWrongAt, AtToken, AtEnd, FormulaFault, IsFirstFormulaFault, Bad, Long, Deep, NoFormula}
use Rattle.fort_formula_grammar.proofs.FormulaUnique.{one_formula}
use Rattle.fort_formula_grammar.proofs.TokenUnique.{token_at_blank, one_goes_on, tokens-unique, IsBadByte-unique, no_bad_byte}
use Rattle.fort_formula_grammar.proofs.OpenUnique.{OpensTooMany-unique, shallow_opens}
use Rattle.fort_formula_grammar.proofs.StuckPlaces.{first_wrong-unique, first_wrong-begins}

pub IsFormulaText-unique : {text : List ℕ} {f g : Formula} → IsFormulaText text f → IsFormulaText text g → f ≡ g
IsFormulaText-unique {g = g} x y =
    one_formula x.formula (subst (λ ts. IsFormula ts g []) (tokens-unique y.read x.read) y.formula)

-- no tokens are read where a token begins, and none are read up to it
read_nothing : {n : ℕ} {a b after : List ℕ} {t : Token} {ts : List Token} → ts ≡ [] → BeginsWithToken a t after → Reads n a ts b → a ≡ b
read_nothing e h Nothing = refl
read_nothing e h (Blank f r) = absurd (token_at_blank f h)
read_nothing e h (Next k p r) = cc

more_none : (ts more : List Token) → ts ≡ ts ++ more → more ≡ []
more_none ts more e = append_cancel_left ts more [] (sym e ∙ sym (append-nil ts))

-- behind the same tokens there is one place where a token begins
pub StandsAt-unique : {text : List ℕ} {before : List Token} {t u : Token} {a b : ℕ} → StandsAt text before t a → StandsAt text before u b → a ≡ b
StandsAt-unique {text} {before} {t} {u} {a} {b} x y =
    let here : x.here ≡ y.here = elim (one_goes_on x.read y.read) [
      | inl g ↦ read_nothing (more_none before g.more g.is) x.begins g.read
      | inr g ↦ sym (read_nothing (more_none before g.more g.is) y.begins g.read)
    ] in
    let size = ap length here in
    let p = x.place in
    let q = y.place in
    omega arith

pub GoesWrongAt-unique : {text : List ℕ} {tokens : List Token} {a b : ℕ} → GoesWrongAt text tokens a → GoesWrongAt text tokens b → a ≡ b
GoesWrongAt-unique {text} (AtToken before after next offset is begins wrong stands) (AtToken before' after' next' offset' is' begins' wrong' stands') =
    let same = first_wrong-unique before after next is begins wrong before' after' next' is' begins' wrong' in
    StandsAt-unique stands (subst (λ ts. StandsAt text ts next' offset') (sym same) stands')
GoesWrongAt-unique (AtToken before after next offset is begins wrong stands) (AtEnd whole none) = absurd (first_wrong-begins before after next is wrong whole)
GoesWrongAt-unique (AtEnd whole none) (AtToken before after next offset is begins wrong stands) = absurd (first_wrong-begins before after next is wrong whole)
GoesWrongAt-unique (AtEnd whole none) (AtEnd whole' none') = refl

-- a formula's tokens go wrong nowhere
no_wrong : {text : List ℕ} {tokens : List Token} {f : Formula} {offset : ℕ} → IsFormula tokens f [] → GoesWrongAt text tokens offset → ⊥
no_wrong {tokens = tokens} {f} is (AtToken before after next offset e begins wrong stands) =
    first_wrong-begins before after next e wrong ([], (f, subst (λ ts. IsFormula ts f []) (sym (append-nil tokens)) is))
no_wrong {f = f} is (AtEnd whole none) = none f is

pub IsFirstFormulaFault-unique : {text : List ℕ} {a b : FormulaFault} → IsFirstFormulaFault text a → IsFirstFormulaFault text b → a ≡ b
IsFirstFormulaFault-unique (Bad m x) (Bad n y) = ap fault.BadByte (IsBadByte-unique x y)
IsFirstFormulaFault-unique (Bad m x) (Long us s l) = absurd (no_bad_byte s x)
IsFirstFormulaFault-unique (Bad m x) (Deep us s l n y) = absurd (no_bad_byte s x)
IsFirstFormulaFault-unique (Bad m x) (NoFormula us s l d n y) = absurd (no_bad_byte s x)
IsFirstFormulaFault-unique (Long ts r k) (Bad n y) = absurd (no_bad_byte r y)
IsFirstFormulaFault-unique (Long ts r k) (Long us s l) = refl
IsFirstFormulaFault-unique (Long ts r k) (Deep us s l n y) = let e = ap length (tokens-unique r s) in absurd (omega arith)
IsFirstFormulaFault-unique (Long ts r k) (NoFormula us s l d n y) = let e = ap length (tokens-unique r s) in absurd (omega arith)
IsFirstFormulaFault-unique (Deep ts r k m x) (Bad n y) = absurd (no_bad_byte r y)
IsFirstFormulaFault-unique (Deep ts r k m x) (Long us s l) = let e = ap length (tokens-unique r s) in absurd (omega arith)
IsFirstFormulaFault-unique (Deep ts r k m x) (Deep us s l n y) = ap fault.TooDeep (OpensTooMany-unique x y)
IsFirstFormulaFault-unique (Deep ts r k m x) (NoFormula us s l d n y) = absurd (shallow_opens s d x)
IsFirstFormulaFault-unique (NoFormula ts r k d m x) (Bad n y) = absurd (no_bad_byte r y)
IsFirstFormulaFault-unique (NoFormula ts r k d m x) (Long us s l) = let e = ap length (tokens-unique r s) in absurd (omega arith)
IsFirstFormulaFault-unique (NoFormula ts r k d m x) (Deep us s l n y) = absurd (shallow_opens r d y)
IsFirstFormulaFault-unique {text} (NoFormula ts r k d m x) (NoFormula us s l c n y) =
    ap fault.Syntax (GoesWrongAt-unique x (subst (λ vs. GoesWrongAt text vs n) (tokens-unique s r) y))

pub no_formula_fault : {text : List ℕ} {f : Formula} {a : FormulaFault} → IsFormulaText text f → IsFirstFormulaFault text a → ⊥
no_formula_fault x (Bad m y) = no_bad_byte x.read y
no_formula_fault x (Long ts r k) = let e = ap length (tokens-unique r x.read) in let few = x.few in omega arith
no_formula_fault x (Deep ts r k m y) = shallow_opens x.read x.shallow y
no_formula_fault {f = f} x (NoFormula ts r k d m y) = no_wrong (subst (λ us. IsFormula us f []) (tokens-unique x.read r) x.formula) y

-- two lists with the same at each place are the same
same_lists : {A : Type 0} (xs ys : List A) → ((k : ℕ) (x : A) → slice_get xs k ≡ Some x ↔ slice_get ys k ≡ Some x) → xs ≡ ys
same_lists [] [] h = refl
same_lists [] (y ∷ ys) h = let e = (h 0 y).1 refl in cc
same_lists (x ∷ xs) [] h = let e = (h 0 x).0 refl in cc
same_lists (x ∷ xs) (y ∷ ys) h =
    let first = (h 0 x).0 refl in
    let rest = same_lists xs ys (λ k z. h (suc k) z) in
    cc

pub AreGroundsOf-unique : (text : List ℕ) (gs hs : List Ground) → AreGroundsOf text gs → AreGroundsOf text hs → gs ≡ hs
AreGroundsOf-unique text gs hs p q = same_lists gs hs (λ k g. ((λ e. (q k g).1 ((p k g).0 e)), (λ e. (p k g).1 ((q k g).0 e))))
