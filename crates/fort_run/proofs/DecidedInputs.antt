-- The core formula of an accepted formula that fits the system of an input can be decided.
use Rattle.std.proofs.Common.{List, map, subst, arith}
use Rattle.std.proofs.lemmas.List.{length-map}
use Rattle.fort_theory.specs.Trees.{Tree}
use Rattle.fort_theory.specs.Sides.{System, IsIndexOf}
use Rattle.fort_theory.specs.Patterns.{pattern_pair, pattern_system}
use Rattle.fort_logic.specs.Formulas.{Formula}
use Rattle.fort_logic.specs.Mentions.{HasPlacesBelow}
use Rattle.fort_logic.specs.Translation.{core_of}
use Rattle.fort_logic.proofs.FreeNumbers.{core_of-binds_free}
use Rattle.fort_logic.proofs.GroundWidths.{core_of-too_wide}
use Rattle.fort_formula_grammar.proofs.LowIndices.{indices-low}
use Rattle.fort_parts.specs.DecidedCores.{IsDecided}
use Rattle.fort_answers.specs.Requests.{Text}
use Rattle.fort_answers.specs.FormulaAnswer.{Openness, IsAcceptedAs}
use Rattle.fort_answers.specs.InputAnswer.{Tail, Behind, IsInputWith}
use Rattle.fort_answers.specs.FitAnswer.{FitsSystem}
use Rattle.fort_answers.proofs.FewPatterns.{AreFewRules-with}
use Rattle.fort_answers.proofs.OneFit.{FitsSystem-ground}
use Rattle.fort_run.proofs.LinearRules.{IsInputWith-system}
use Rattle.fort_answer_laws.proofs.PlacesWritten.{places_written}
use Rattle.fort_run.proofs.Readiness.{AreTermsOf-count}
use Rattle.fort_run.proofs.TranslatedCores.{IsOverSystem-core_of}

-- Result
pub decided_input : (openness : Openness) (tail : Tail) (formula : Text) (f : Formula) (bytes : Text) (system : System) (behind : Behind tail)
    (terms : List Tree) → IsAcceptedAs openness formula f → IsInputWith tail bytes system behind → FitsSystem formula f system terms
    → IsDecided (pattern_system system) (core_of terms f)
decided_input openness tail formula f bytes system behind terms accepted is fits =
    let read = accepted.accepted.read in
    let number = length-map system.rules (map pattern_pair) in
    let lawful = IsInputWith-system tail bytes system behind is in
    let first : IsIndexOf (pattern_system system).rules 1 = record { low = omega arith; high = lawful.some } in
    let count = AreTermsOf-count system.signature fits.grounds terms fits.are_terms in
    let places = subst (λ n. HasPlacesBelow n f) count (places_written formula f fits.grounds read fits.are_grounds) in
    record {
      well_formed = record {
        binders = core_of-binds_free terms f;
        narrow = λ wide. accepted.accepted.narrow ((core_of-too_wide terms f).0 wide);
      };
      over = IsOverSystem-core_of (pattern_system system) first terms (FitsSystem-ground formula f system terms fits) f
          (λ index c. record { low = indices-low read index c; high = (let below = fits.within index c in omega (arith, number)) })
          places (λ some. AreFewRules-with tail bytes system behind is);
    }
