-- A formula's text fits the system of an accepted input with one list of terms, all of them ground, or is refused by one line, and not both.
use Rattle.std.proofs.Common.{◌≡◌, List, [], ◌∷◌, ◌++◌, refl, sym, ap, ◌∙◌, subst}
use Rattle.std.specs.Prelude.{bytes_eq, All}
use Rattle.std.specs.List.{IsDistinct}
use Rattle.std.proofs.lemmas.List.Elements.{All-nil, All-cons}
use Rattle.fort_theory.specs.Trees.{Tree}
use Rattle.fort_theory.specs.Signatures.{Signature, IsGround, names_of}
use Rattle.fort_theory.specs.Sides.{System}
use Rattle.fort_logic.specs.Formulas.{Formula}
use Rattle.fort_logic.specs.Mentions.{indices}
use Rattle.fort_logic.proofs.MentionLaws.{IsFirstAbove-unique, IsFirstAbove-not_within}
use Rattle.fort_theory.specs.RightGround.{IsRightGroundAt}
use Rattle.fort_logic.specs.Terminations.{terminations}
use Rattle.fort_logic.proofs.TerminationMentions.{IsFirstWithout-unique, IsFirstWithout-not_all}
use Rattle.fort_grammar.specs.GroundForms.{IsGroundText}
use Rattle.fort_grammar.proofs.GroundTexts.{IsGroundText-unique, IsGroundText-ground}
use Rattle.fort_formula_grammar.specs.FormulaText.{Ground, AreGroundsOf}
use Rattle.fort_formula_grammar.proofs.OneFormula.{AreGroundsOf-unique}
use Rattle.fort_answers.specs.Requests.{Text}
use Rattle.fort_answers.specs.Lines.{formula_index, formula_term, formula_sn}
use Rattle.fort_answers.specs.InputAnswer.{IsInput}
use Rattle.fort_answers.specs.FitAnswer.{IsFirstWithoutTerm, FitsSystem, IsUnfit, NoIndex, NoTerm, NotRightGround}
use Rattle.fort_answers.specs.Said.{AreTermsOf}

-- one by one these texts are one list of terms
AreTermsOf-unique : (signature : Signature) (gs : List Ground) (ts us : List Tree) → IsDistinct bytes_eq (names_of signature) → AreTermsOf signature gs ts
    → AreTermsOf signature gs us → ts ≡ us
AreTermsOf-unique signature [] [] [] d a b = refl
AreTermsOf-unique signature [] [] (u ∷ us) d a b = absurd b
AreTermsOf-unique signature [] (t ∷ ts) us d a b = absurd a
AreTermsOf-unique signature (g ∷ gs) [] us d a b = absurd a
AreTermsOf-unique signature (g ∷ gs) (t ∷ ts) [] d a b = absurd b
AreTermsOf-unique signature (g ∷ gs) (t ∷ ts) (u ∷ us) d a b =
    ap (λ x. x ∷ ts) (IsGroundText-unique signature g.text t u d a.0 b.0) ∙ ap (λ xs. u ∷ xs) (AreTermsOf-unique signature gs ts us d a.1 b.1)

AreTermsOf-ground : (signature : Signature) (gs : List Ground) (ts : List Tree) → AreTermsOf signature gs ts → All (IsGround signature) ts
AreTermsOf-ground signature [] [] a = All-nil (IsGround signature)
AreTermsOf-ground signature [] (t ∷ ts) a = absurd a
AreTermsOf-ground signature (g ∷ gs) [] a = absurd a
AreTermsOf-ground signature (g ∷ gs) (t ∷ ts) a = All-cons (IsGround signature) t ts (IsGroundText-ground signature g.text t a.0) (AreTermsOf-ground signature gs ts a.1)

-- where each is a ground term, none is without one
all_read : (signature : Signature) (front back : List Ground) (g : Ground) (ts : List Tree) → AreTermsOf signature (front ++ g ∷ back) ts
    → ((t : Tree) → IsGroundText signature g.text t → ⊥) → ⊥
all_read signature [] back g [] a no_term = a
all_read signature [] back g (t ∷ ts) a no_term = no_term t a.0
all_read signature (x ∷ front) back g [] a no_term = a
all_read signature (x ∷ front) back g (t ∷ ts) a no_term = all_read signature front back g ts a.1 no_term

-- two that stand behind ground terms, each without one, are the same
same_unread : (signature : Signature) (front front' back back' : List Ground) (g g' : Ground) (ts ts' : List Tree) → front ++ g ∷ back ≡ front' ++ g' ∷ back'
    → AreTermsOf signature front ts → AreTermsOf signature front' ts' → ((t : Tree) → IsGroundText signature g.text t → ⊥)
    → ((t : Tree) → IsGroundText signature g'.text t → ⊥) → g ≡ g'
same_unread signature [] [] back back' g g' ts ts' e a a' no_term no_term' = cc
same_unread signature [] (x ∷ front') back back' g g' ts [] e a a' no_term no_term' = absurd a'
same_unread signature [] (x ∷ front') back back' g g' ts (t ∷ ts') e a a' no_term no_term' =
    let same : x ≡ g = cc in absurd (no_term t (subst (λ y. IsGroundText signature y.text t) same a'.0))
same_unread signature (x ∷ front) [] back back' g g' [] ts' e a a' no_term no_term' = absurd a
same_unread signature (x ∷ front) [] back back' g g' (t ∷ ts) ts' e a a' no_term no_term' =
    let same : x ≡ g' = cc in absurd (no_term' t (subst (λ y. IsGroundText signature y.text t) same a.0))
same_unread signature (x ∷ front) (y ∷ front') back back' g g' [] ts' e a a' no_term no_term' = absurd a
same_unread signature (x ∷ front) (y ∷ front') back back' g g' (t ∷ ts) [] e a a' no_term no_term' = absurd a'
same_unread signature (x ∷ front) (y ∷ front') back back' g g' (t ∷ ts) (t' ∷ ts') e a a' no_term no_term' =
    let tails : front ++ g ∷ back ≡ front' ++ g' ∷ back' = cc in
    same_unread signature front front' back back' g g' ts ts' tails a.1 a'.1 no_term no_term'

IsFirstWithoutTerm-unique : (signature : Signature) (gs : List Ground) (g g' : Ground) → IsFirstWithoutTerm signature gs g → IsFirstWithoutTerm signature gs g' → g ≡ g'
IsFirstWithoutTerm-unique signature gs g g' x y =
    same_unread signature x.front y.front x.back y.back g g' x.terms y.terms (sym x.split ∙ y.split) x.read y.read x.no_term y.no_term

module _ (text : Text) (f : Formula) (system : System) where
  -- all are ground terms, and one is none
  term_there : (gs hs : List Ground) (g : Ground) (terms : List Tree) → AreGroundsOf text gs → AreTermsOf system.signature gs terms
      → AreGroundsOf text hs → IsFirstWithoutTerm system.signature hs g → ⊥
  term_there gs hs g terms are read are' first =
      let same = AreGroundsOf-unique text gs hs are are' ∙ first.split in
      all_read system.signature first.front first.back g terms (subst (λ xs. AreTermsOf system.signature xs terms) same read) first.no_term

  pub IsUnfit-unique : (line line' : Text) → IsUnfit text f system line → IsUnfit text f system line' → line ≡ line'
  IsUnfit-unique line line' (NoIndex i first e) (NoIndex j first' e') = e ∙ (ap formula_index (IsFirstAbove-unique _ (indices f) i j first first') ∙ sym e')
  IsUnfit-unique line line' (NoIndex i first e) (NoTerm within gs are g no_term e') = absurd (IsFirstAbove-not_within _ (indices f) i first within)
  IsUnfit-unique line line' (NoTerm within gs are g no_term e) (NoIndex i first e') = absurd (IsFirstAbove-not_within _ (indices f) i first within)
  IsUnfit-unique line line' (NoTerm within gs are g no_term e) (NoTerm within' hs are' h no_term' e') =
      let there = subst (λ xs. IsFirstWithoutTerm system.signature xs h) (AreGroundsOf-unique text hs gs are' are) no_term' in
      e ∙ (ap (λ (x : Ground). formula_term x.at) (IsFirstWithoutTerm-unique system.signature gs g h no_term there) ∙ sym e')
  IsUnfit-unique line line' (NoIndex i first e) (NotRightGround within gs are ts read j not_right e') =
      absurd (IsFirstAbove-not_within _ (indices f) i first within)
  IsUnfit-unique line line' (NotRightGround within gs are ts read j not_right e) (NoIndex i first e') =
      absurd (IsFirstAbove-not_within _ (indices f) i first within)
  IsUnfit-unique line line' (NoTerm within gs are g no_term e) (NotRightGround within' hs are' ts read j not_right e') =
      absurd (term_there hs gs g ts are' read are no_term)
  IsUnfit-unique line line' (NotRightGround within hs are ts read j not_right e) (NoTerm within' gs are' g no_term e') =
      absurd (term_there hs gs g ts are read are' no_term)
  IsUnfit-unique line line' (NotRightGround within gs are ts read i not_right e) (NotRightGround within' hs are' us read' j not_right' e') =
      e ∙ (ap formula_sn (IsFirstWithout-unique (IsRightGroundAt system) (terminations f) i j not_right not_right') ∙ sym e')

  pub FitsSystem-not_unfit : (terms : List Tree) (line : Text) → FitsSystem text f system terms → IsUnfit text f system line → ⊥
  FitsSystem-not_unfit terms line fits (NoIndex i first e) = IsFirstAbove-not_within _ (indices f) i first fits.within
  FitsSystem-not_unfit terms line fits (NoTerm within gs are g no_term e) =
      term_there fits.grounds gs g terms fits.are_grounds fits.are_terms are no_term
  FitsSystem-not_unfit terms line fits (NotRightGround within gs are ts read i not_right e) =
      IsFirstWithout-not_all (IsRightGroundAt system) (terminations f) i not_right fits.right_ground

  pub FitsSystem-one : (terms terms' : List Tree) → IsDistinct bytes_eq (names_of system.signature) → FitsSystem text f system terms
      → FitsSystem text f system terms' → terms ≡ terms'
  FitsSystem-one terms terms' distinct fits fits' =
      let same = AreGroundsOf-unique text fits'.grounds fits.grounds fits'.are_grounds fits.are_grounds in
      AreTermsOf-unique system.signature fits.grounds terms terms' distinct fits.are_terms
      (subst (λ xs. AreTermsOf system.signature xs terms') same fits'.are_terms)

  pub FitsSystem-unique : (bytes : Text) (terms terms' : List Tree) → IsInput bytes system → FitsSystem text f system terms
      → FitsSystem text f system terms' → terms ≡ terms'
  FitsSystem-unique bytes terms terms' input fits fits' = FitsSystem-one terms terms' input.problem.problem.declares.distinct fits fits'

  pub FitsSystem-ground : (terms : List Tree) → FitsSystem text f system terms → All (IsGround system.signature) terms
  FitsSystem-ground terms fits = AreTermsOf-ground system.signature fits.grounds terms fits.are_terms
