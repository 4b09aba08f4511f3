-- A formula that was read, over the system of an input that has all that it speaks of, is ready to be decided.
use Rattle.std.specs.Prelude.{◌≡◌, suc, List, [], ◌∷◌, length, map, All, refl}
use Rattle.std.proofs.Common.{sym, ap, subst, ◌∙◌, arith}
use Rattle.std.proofs.lemmas.List.{length-map}
use Rattle.fort_theory.specs.Trees.{Tree}
use Rattle.fort_theory.specs.Signatures.{Signature, IsGround}
use Rattle.fort_theory.specs.Sides.{System}
use Rattle.fort_theory.specs.Patterns.{PatternSystem, pattern_system}
use Rattle.fort_theory.specs.RightGround.{IsRightGroundAt, HasRightGroundPairsAt}
use Rattle.fort_theory.proofs.RightGroundTargets.{IsRightGroundAt-patterns}
use Rattle.fort_logic.specs.Mentions.{HasPlacesBelow}
use Rattle.fort_logic.specs.Terminations.{terminations, AreAll}
use Rattle.fort_logic.proofs.TerminationMentions.{AreAll-same}
use Rattle.fort_formula_grammar.specs.FormulaText.{Ground}
use Rattle.fort_formula_grammar.proofs.LowIndices.{indices-low}
use Rattle.fort_formula_grammar.proofs.OneFormula.{AreGroundsOf-unique}
use Rattle.fort_formulas.specs.FormulaView.{as_formula}
use Rattle.fort_formula_parser.specs.declared.parsed.Parsed.{Parsed}
use Rattle.fort_formula_parser.specs.ParsedView.{as_ground}
use Rattle.fort_answers.specs.FitAnswer.{FitsSystem}
use Rattle.fort_answers.specs.Said.{AreTermsOf}
use Rattle.fort_answers.specs.FormulaAnswer.{IsAccepted, Openness}
use Rattle.fort_answers.proofs.OneFit.{FitsSystem-ground}
use Rattle.fort_questions.specs.Accepted.{IsRead}
use Rattle.fort_run.specs.Ready.{IsReady, HaveFewRules}
use Rattle.fort_questions.proofs.Fitting.{number_is, signature_is}

pub AreTermsOf-count : (signature : Signature) (gs : List Ground) (ts : List Tree) → AreTermsOf signature gs ts → length gs ≡ length ts
AreTermsOf-count signature [] [] are = refl
AreTermsOf-count signature [] (t ∷ ts) are = absurd are
AreTermsOf-count signature (g ∷ gs) [] are = absurd are
AreTermsOf-count signature (g ∷ gs) (t ∷ ts) are = ap suc (AreTermsOf-count signature gs ts are.1)

module _ (openness : Openness) (parsed : Parsed) (read : IsRead openness parsed) (p : System) (system : PatternSystem) (terms : List Tree) (same : system ≡ pattern_system p)
    (fits : FitsSystem read.text (as_formula parsed.formula) p terms) where
  count : length parsed.grounds.items ≡ length terms
  count =
      sym (length-map parsed.grounds.items as_ground)
      ∙ (ap length (AreGroundsOf-unique read.text (map as_ground parsed.grounds.items) fits.grounds read.is.grounds fits.are_grounds)
      ∙ AreTermsOf-count p.signature fits.grounds terms fits.are_terms)

  accepted : IsAccepted read.text (as_formula parsed.formula)
  accepted = read.is.accepted.accepted

  pub ready : HaveFewRules (pattern_system p) → IsReady (as_formula parsed.formula) system terms
  ready few = record {
    small = read.small;
    narrow = accepted.narrow;
    has_terms = subst (λ n. HasPlacesBelow n (as_formula parsed.formula)) count read.places;
    grounded = subst (λ s. All (IsGround s) terms) (sym (signature_is system.signature system p refl same)) (FitsSystem-ground read.text (as_formula parsed.formula) p terms fits);
    within =
        λ index c. record {
          low = indices-low accepted.read index c;
          high = (let below = fits.within index c in let number = number_is (length system.rules) system p refl same in omega arith);
        };
    few = λ e. subst HaveFewRules (sym same) few;
    right_ground =
        subst (λ (s : PatternSystem). AreAll (HasRightGroundPairsAt s) (terminations (as_formula parsed.formula))) (sym same)
        (AreAll-same (IsRightGroundAt p) (HasRightGroundPairsAt (pattern_system p)) (IsRightGroundAt-patterns p) (terminations (as_formula parsed.formula)) fits.right_ground);
  }
