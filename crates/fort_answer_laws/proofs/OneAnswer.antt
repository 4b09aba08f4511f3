-- Whoever asks about a formula over an input is owed one answer.
use Rattle.std.proofs.Common.{◌≡◌, ◌⊎◌, ℕ, ◌≤◌, List, inl, inr, sym, subst, ◌∙◌}
use Rattle.std.specs.Prelude.{All, Some}
use Rattle.fort_theory.specs.Trees.{Tree}
use Rattle.fort_theory.specs.Signatures.{IsGround, HasConstant}
use Rattle.fort_theory.specs.Sides.{System}
use Rattle.fort_theory.proofs.Lists.{some-injective}
use Rattle.fort_theory.specs.Kinds.{Kind}
use Rattle.fort_logic.specs.Formulas.{Formula}
use Rattle.fort_answers.specs.Requests.{Text, Options}
use Rattle.fort_answers.specs.Lines.{negative, refused, limited, limit_line}
use Rattle.fort_answers.specs.FormulaAnswer.{IsAcceptedAs}
use Rattle.fort_answers.specs.InputAnswer.{Behind, IsInputWith, IsInputRefused}
use Rattle.fort_answers.specs.FitAnswer.{FitsSystem, IsUnfit}
use Rattle.fort_answers.specs.SystemAnswer.{Are, PassesCap, KeepsCap, KeepsCapOf, Inquiry, IsRefusedEarly, IsOwedTo, FormulaRefused, InputRefused, FormulaUnfit, Limited, Says}
use Rattle.fort_answers.proofs.OneFit.{IsUnfit-unique, FitsSystem-not_unfit, FitsSystem-one, FitsSystem-ground}
use Rattle.fort_answers.proofs.OneRequest.{Are-unique, IsAcceptedAs-unique, IsRefusedEarly-unique, early-without_input}
use Rattle.fort_answers.proofs.OneCap.{PassesCap-unique, PassesCap-not_kept}
use Rattle.fort_answer_laws.proofs.OneInput.{problem_with, IsInputRefused-unique, IsInputWith-not_refused, IsInputWith-unique}

-- what is said is one answer, over each system with a constant and with ground terms
abbrev pub SaysOne : Inquiry → Type 0
SaysOne inquiry = (system : System) (behind : Behind inquiry.tail) (terms : List Tree) (f : Formula) (s s' : ℕ) (t t' : Text)
    → HasConstant system.signature → All (IsGround system.signature) terms → inquiry.says system behind terms f s t
    → inquiry.says system behind terms f s' t' → Are s t s' t'

-- its status is that of YES or NO
abbrev pub SaysLow : Inquiry → Type 0
SaysLow inquiry = (system : System) (behind : Behind inquiry.tail) (terms : List Tree) (f : Formula) (s : ℕ) (t : Text)
    → inquiry.says system behind terms f s t → s ≤ negative

-- ---- the stages behind each other, each over what the earlier ones left

module _ (inquiry : Inquiry) (bytes : Text) where
  -- over a system with what stands behind it and the ground terms
  data AtCap (system : System) (behind : Behind inquiry.tail) (terms : List Tree) (f : Formula) (status : ℕ) (text : Text) : Type 0 where
    Over : (options : Options) → inquiry.options ≡ Some options → (k : ℕ) (kind : Kind) → PassesCap system terms f options k kind
        → Are status text limited (limit_line k kind options.states) → AtCap system behind terms f status text
    Within : KeepsCapOf inquiry.options system terms f → inquiry.says system behind terms f status text → AtCap system behind terms f status text

  -- over a system with what stands behind it
  data AtFit (system : System) (behind : Behind inquiry.tail) (f : Formula) (status : ℕ) (text : Text) : Type 0 where
    Unfit : (line : Text) → IsUnfit inquiry.formula f system line → Are status text refused line → AtFit system behind f status text
    Fits : (terms : List Tree) → FitsSystem inquiry.formula f system terms → AtCap system behind terms f status text → AtFit system behind f status text

  -- over the bytes
  data AtInput (f : Formula) (status : ℕ) (text : Text) : Type 0 where
    Refused : (line : Text) → IsInputRefused inquiry.tail bytes line → Are status text refused line → AtInput f status text
    Read : (system : System) (behind : Behind inquiry.tail) → IsInputWith inquiry.tail bytes system behind → AtFit system behind f status text
        → AtInput f status text

  data AtFormula (status : ℕ) (text : Text) : Type 0 where
    Early : IsRefusedEarly inquiry status text → AtFormula status text
    Accepted : (f : Formula) → IsAcceptedAs inquiry.openness inquiry.formula f → AtInput f status text → AtFormula status text

  staged : (s : ℕ) (t : Text) → IsOwedTo inquiry bytes s t → AtFormula s t
  staged s t (FormulaRefused early) = Early early
  staged s t (InputRefused f accepted line says are) = Accepted f accepted (Refused line says are)
  staged s t (FormulaUnfit f accepted system behind is line says are) = Accepted f accepted (Read system behind is (Unfit line says are))
  staged s t (Limited f accepted system behind is terms fits options same k kind over are) =
      Accepted f accepted (Read system behind is (Fits terms fits (Over options same k kind over are)))
  staged s t (Says f accepted system behind is terms fits keeps says) = Accepted f accepted (Read system behind is (Fits terms fits (Within keeps says)))

  -- ---- each is one answer

  kept : (options : Options) (system : System) (terms : List Tree) (f : Formula) → inquiry.options ≡ Some options → KeepsCapOf inquiry.options system terms f
      → KeepsCap system terms f options
  kept options system terms f same keeps = subst (λ o. KeepsCapOf o system terms f) same keeps

  module _ (one_saying : SaysOne inquiry) where
    AtCap-unique : (system : System) (behind : Behind inquiry.tail) (terms : List Tree) (f : Formula) (s s' : ℕ) (t t' : Text) → HasConstant system.signature
        → All (IsGround system.signature) terms → AtCap system behind terms f s t → AtCap system behind terms f s' t' → Are s t s' t'
    AtCap-unique system behind terms f s s' t t' constant grounded (Over options same k kind over are) (Over options' same' k' kind' over' are') =
        let one : options' ≡ options = some-injective (sym same' ∙ same) in
        Are-unique limited (limit_line k kind options.states) s s' t t' are
        (subst (Are s' t' limited) (PassesCap-unique system terms f options k' k kind' kind (subst (λ o. PassesCap system terms f o k' kind') one over') over)
        (subst (λ o. Are s' t' limited (limit_line k' kind' o.states)) one are'))
    AtCap-unique system behind terms f s s' t t' constant grounded (Over options same k kind over are) (Within keeps says) =
        absurd (PassesCap-not_kept system terms f options k kind over (kept options system terms f same keeps))
    AtCap-unique system behind terms f s s' t t' constant grounded (Within keeps says) (Over options same k kind over are) =
        absurd (PassesCap-not_kept system terms f options k kind over (kept options system terms f same keeps))
    AtCap-unique system behind terms f s s' t t' constant grounded (Within keeps says) (Within keeps' says') =
        one_saying system behind terms f s s' t t' constant grounded says says'

    AtFit-unique : (system : System) (behind : Behind inquiry.tail) (f : Formula) (s s' : ℕ) (t t' : Text) → IsInputWith inquiry.tail bytes system behind
        → AtFit system behind f s t → AtFit system behind f s' t' → Are s t s' t'
    AtFit-unique system behind f s s' t t' is (Unfit line says are) (Unfit line' says' are') =
        Are-unique refused line s s' t t' are (subst (Are s' t' refused) (IsUnfit-unique inquiry.formula f system line' line says' says) are')
    AtFit-unique system behind f s s' t t' is (Unfit line says are) (Fits terms fits rest) = absurd (FitsSystem-not_unfit inquiry.formula f system terms line fits says)
    AtFit-unique system behind f s s' t t' is (Fits terms fits rest) (Unfit line says are) = absurd (FitsSystem-not_unfit inquiry.formula f system terms line fits says)
    AtFit-unique system behind f s s' t t' is (Fits terms fits rest) (Fits terms' fits' rest') =
        let problem = (problem_with inquiry.tail bytes system behind is).2 in
        let same = FitsSystem-one inquiry.formula f system terms' terms problem.declares.distinct fits' fits in
        AtCap-unique system behind terms f s s' t t' problem.constant (FitsSystem-ground inquiry.formula f system terms fits) rest
        (subst (λ xs. AtCap system behind xs f s' t') same rest')

    AtInput-unique : (f : Formula) (s s' : ℕ) (t t' : Text) → AtInput f s t → AtInput f s' t' → Are s t s' t'
    AtInput-unique f s s' t t' (Refused line says are) (Refused line' says' are') =
        Are-unique refused line s s' t t' are (subst (Are s' t' refused) (IsInputRefused-unique inquiry.tail bytes line' line says' says) are')
    AtInput-unique f s s' t t' (Refused line says are) (Read system behind is rest) = absurd (IsInputWith-not_refused inquiry.tail bytes line system behind is says)
    AtInput-unique f s s' t t' (Read system behind is rest) (Refused line says are) = absurd (IsInputWith-not_refused inquiry.tail bytes line system behind is says)
    AtInput-unique f s s' t t' (Read system behind is rest) (Read system' behind' is' rest') =
        let same = IsInputWith-unique inquiry.tail bytes system system' behind behind' is is' in
        AtFit-unique system behind f s s' t t' is rest
        (subst (λ b. AtFit system b f s' t') same.1 (subst (λ x. AtFit x behind' f s' t') same.0 rest'))

    AtFormula-unique : (s s' : ℕ) (t t' : Text) → AtFormula s t → AtFormula s' t' → Are s t s' t'
    AtFormula-unique s s' t t' (Early early) (Early early') = IsRefusedEarly-unique inquiry s s' t t' early early'
    AtFormula-unique s s' t t' (Early early) (Accepted f accepted rest) = absurd (early-without_input inquiry s t f early accepted)
    AtFormula-unique s s' t t' (Accepted f accepted rest) (Early early) = absurd (early-without_input inquiry s' t' f early accepted)
    AtFormula-unique s s' t t' (Accepted f accepted rest) (Accepted g accepted' rest') =
        AtInput-unique f s s' t t' rest
        (subst (λ h. AtInput h s' t') (IsAcceptedAs-unique inquiry.openness inquiry.formula g f accepted' accepted) rest')

    pub IsAnswerTo-unique : (s s' : ℕ) (t t' : Text) → IsOwedTo inquiry bytes s t → IsOwedTo inquiry bytes s' t' → Are s t s' t'
    IsAnswerTo-unique s s' t t' one other = AtFormula-unique s s' t t' (staged s t one) (staged s' t' other)

  -- ---- over a system with all that the formula speaks of, what is said has some property, or a part is over the cap

  module _ (P : Type 0) (f : Formula) (system : System) (behind : Behind inquiry.tail) (terms : List Tree) (s : ℕ) (t : Text)
      (accepted : IsAcceptedAs inquiry.openness inquiry.formula f) (is : IsInputWith inquiry.tail bytes system behind)
      (fits : FitsSystem inquiry.formula f system terms) (low : inquiry.says system behind terms f s t → P) where
    -- that, or some part is over the cap of the options
    abbrev pub HoldsOrOver : Type 0
    HoldsOrOver = P ⊎ ((s ≡ limited) × ((options : Options) × (inquiry.options ≡ Some options) × (KeepsCap system terms f options → ⊥)))

    cap_holds : AtCap system behind terms f s t → HoldsOrOver
    cap_holds (Over options same k kind over are) = inr (are.same_status, (options, same, PassesCap-not_kept system terms f options k kind over))
    cap_holds (Within keeps says) = inl (low says)

    fit_holds : AtFit system behind f s t → HoldsOrOver
    fit_holds (Unfit line says are) = absurd (FitsSystem-not_unfit inquiry.formula f system terms line fits says)
    fit_holds (Fits terms' fits' rest) =
        let problem = (problem_with inquiry.tail bytes system behind is).2 in
        cap_holds (subst (λ xs. AtCap system behind xs f s t) (FitsSystem-one inquiry.formula f system terms' terms problem.declares.distinct fits' fits) rest)

    input_holds : AtInput f s t → HoldsOrOver
    input_holds (Refused line says are) = absurd (IsInputWith-not_refused inquiry.tail bytes line system behind is says)
    input_holds (Read system' behind' is' rest) =
        let same = IsInputWith-unique inquiry.tail bytes system system' behind behind' is is' in
        fit_holds (subst (λ b. AtFit system b f s t) same.1 (subst (λ x. AtFit x behind' f s t) same.0 rest))

    formula_holds : AtFormula s t → HoldsOrOver
    formula_holds (Early early) = absurd (early-without_input inquiry s t f early accepted)
    formula_holds (Accepted g accepted' rest) =
        input_holds (subst (λ h. AtInput h s t) (IsAcceptedAs-unique inquiry.openness inquiry.formula g f accepted' accepted) rest)

    pub IsAnswerTo-or_over : IsOwedTo inquiry bytes s t → HoldsOrOver
    IsAnswerTo-or_over answer = formula_holds (staged s t answer)

  -- where what is said has a low status
  pub IsAnswerTo-low : SaysLow inquiry → (f : Formula) (system : System) (behind : Behind inquiry.tail) (terms : List Tree) (s : ℕ) (t : Text)
      → IsAcceptedAs inquiry.openness inquiry.formula f → IsInputWith inquiry.tail bytes system behind → FitsSystem inquiry.formula f system terms
      → IsOwedTo inquiry bytes s t → (s ≤ negative) ⊎ ((s ≡ limited) × ((options : Options) × (inquiry.options ≡ Some options) × (KeepsCap system terms f options → ⊥)))
  IsAnswerTo-low low f system behind terms s t accepted is fits answer =
      IsAnswerTo-or_over (s ≤ negative) f system behind terms s t accepted is fits (low system behind terms f s t) answer
