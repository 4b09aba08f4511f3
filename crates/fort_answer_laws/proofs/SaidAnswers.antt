-- What an answer says that is owed to a request: the formula's truth, terms that satisfy it, a system that makes it true, or that there are none.
use Rattle.std.proofs.Common.{◌≡◌, ℕ, ◌≤◌, List, refl, arith}
use Rattle.std.specs.Prelude.{Option, Some, None, false, codes, decimal}
use Rattle.fort_theory.specs.Trees.{Tree}
use Rattle.fort_theory.specs.Sides.{System}
use Rattle.fort_logic.specs.Formulas.{Formula}
use Rattle.fort_io.specs.Devices.{Takes}
use Rattle.fort_answers.specs.Requests.{Text, Options, Bounds, Family, Request, Decide, Witness, Solutions, Synth}
use Rattle.fort_answers.specs.Lines.{positive, negative}
use Rattle.fort_answers.specs.InputAnswer.{Behind}
use Rattle.fort_answers.specs.Said.{IsSaid, Says, SaysTrue, SaysFalse}
use Rattle.fort_answers.specs.SaidTerms.{SaysLeastTerms, SaysFirstTerms}
use Rattle.fort_answers.specs.SaidSystems.{SaysSystem, SaysNoSystem}
use Rattle.fort_answers.specs.SystemAnswer.{Inquiry, IsOwedTo, FormulaRefused, InputRefused, FormulaUnfit, Limited, Says as Verdict}
use Rattle.fort_answers.specs.DecideAnswer.{TruthVerdict, Yes, No, decide_inquiry}
use Rattle.fort_answers.specs.WitnessAnswer.{WitnessVerdict, Found, NotFound, witness_inquiry}
use Rattle.fort_answers.specs.SolutionsAnswer.{SolutionsVerdict, solutions_inquiry}
use Rattle.fort_answers.specs.SynthAnswer.{SynthVerdict, TooLarge, Found as FoundSystem, Over, NotFound as NoSystem, synth_inquiry}
use Rattle.fort_answers.specs.Answer.{owed, OwesTold}
use Rattle.fort_answer_laws.proofs.OneInput.{begins_with}

-- ---- whoever asks about a formula

-- what follows from what the command says holds of the system with which the bytes begin
said_by : (inquiry : Inquiry) (bytes : Text) (s : ℕ) (t : Text) (P : System → List Tree → Formula → Type 0)
    → ((system : System) (behind : Behind inquiry.tail) (terms : List Tree) (f : Formula) → inquiry.says system behind terms f s t → P system terms f)
    → s ≤ negative → IsOwedTo inquiry bytes s t → IsSaid inquiry.formula bytes P
said_by inquiry bytes s t P use_it low (FormulaRefused early) = let e = early.are.same_status in absurd (omega (arith, e, low))
said_by inquiry bytes s t P use_it low (InputRefused f accepted line is are) = let e = are.same_status in absurd (omega (arith, e, low))
said_by inquiry bytes s t P use_it low (FormulaUnfit f accepted system behind is line unfit are) =
    let e = are.same_status in absurd (omega (arith, e, low))
said_by inquiry bytes s t P use_it low (Limited f accepted system behind is terms fits options same k kind over are) =
    let e = are.same_status in absurd (omega (arith, e, low))
said_by inquiry bytes s t P use_it low (Verdict f accepted system behind is terms fits keeps says) = record {
  f = f;
  is_text = accepted.accepted.read;
  system = system;
  begins = begins_with inquiry.tail bytes system behind is;
  grounds = fits.grounds;
  are_grounds = fits.are_grounds;
  terms = terms;
  are_terms = fits.are_terms;
  holds = use_it system behind terms f says;
}

-- ---- truth

truth_yes : (system : System) (terms : List Tree) (f : Formula) (s : ℕ) (t : Text) → s ≡ positive → TruthVerdict system terms f s t
    → SaysTrue (codes "YES") t system terms f
truth_yes system terms f s t e (Yes holds are) = (are.same_text, holds)
truth_yes system terms f s t e (No fails are) = let other = are.same_status in absurd (omega (arith, other, e))

truth_no : (system : System) (terms : List Tree) (f : Formula) (s : ℕ) (t : Text) → s ≡ negative → TruthVerdict system terms f s t
    → SaysFalse (codes "NO") t system terms f
truth_no system terms f s t e (Yes holds are) = let other = are.same_status in absurd (omega (arith, other, e))
truth_no system terms f s t e (No fails are) = (are.same_text, fails)

-- ---- terms

least_terms : (system : System) (terms : List Tree) (f : Formula) (s : ℕ) (t : Text) → s ≡ positive → WitnessVerdict system terms f s t
    → SaysLeastTerms t system terms f
least_terms system terms f s t e (Found ts least are) = (ts, least, are.same_text)
least_terms system terms f s t e (NotFound fails are) = let other = are.same_status in absurd (omega (arith, other, e))

no_terms : (system : System) (terms : List Tree) (f : Formula) (s : ℕ) (t : Text) → s ≡ negative → WitnessVerdict system terms f s t
    → SaysFalse (codes "NONE") t system terms f
no_terms system terms f s t e (Found ts least are) = let other = are.same_status in absurd (omega (arith, other, e))
no_terms system terms f s t e (NotFound fails are) = (are.same_text, fails)

first_terms : (bounds : Bounds) (digits : Text) (system : System) (terms : List Tree) (f : Formula) (s : ℕ) (t : Text) → digits ≡ decimal bounds.height
    → SolutionsVerdict bounds system terms f s t → SaysFirstTerms digits t system terms f
first_terms bounds digits system terms f s t height_is says = record {
  height = bounds.height;
  is_height = height_is;
  most = bounds.most;
  solutions = says.solutions;
  more = says.more;
  first = says.first;
  is = says.are.same_text;
}

-- ---- systems

module _ (options : Options) (family : Family) (rules_digits height_digits : Text) (rules_are : rules_digits ≡ decimal family.count)
    (height_is : height_digits ≡ decimal family.height) (system : System) (terms : List Tree) (f : Formula) (s : ℕ) (t : Text) where
  first_system : s ≡ positive → SynthVerdict options family system.signature terms f s t → SaysSystem rules_digits height_digits t system terms f
  first_system e (TooLarge large are) = let other = are.same_status in absurd (omega (arith, other, e))
  first_system e (FoundSystem few rules reached keeps holds are) = record {
    count = family.count;
    is_count = rules_are;
    height = family.height;
    is_height = height_is;
    rules = rules;
    of_family = reached.of_family;
    holds = holds;
    first = λ others is before. (reached.before others is before).fails;
    is = are.same_text;
  }
  first_system e (Over few rules reached k kind over are) = let other = are.same_status in absurd (omega (arith, other, e))
  first_system e (NoSystem few passed are) = let other = are.same_status in absurd (omega (arith, other, e))

  no_system : s ≡ negative → SynthVerdict options family system.signature terms f s t → SaysNoSystem rules_digits height_digits t system terms f
  no_system e (TooLarge large are) = let other = are.same_status in absurd (omega (arith, other, e))
  no_system e (FoundSystem few rules reached keeps holds are) = let other = are.same_status in absurd (omega (arith, other, e))
  no_system e (Over few rules reached k kind over are) = let other = are.same_status in absurd (omega (arith, other, e))
  no_system e (NoSystem few passed are) = record {
    count = family.count;
    is_count = rules_are;
    height = family.height;
    is_height = height_is;
    fails = λ rules is. (passed rules is).fails;
    is = are.same_text;
  }

-- ---- by request, for the bytes that a source told

module _ (told old new : Option Text) (s : ℕ) (t : Text) (taken : Takes old new t) (formula : Text) where
  -- what is said of all bytes to which the answer is owed
  told_says : (request : Option Request) (P : Text → System → List Tree → Formula → Type 0) → ((bytes : Text) → owed request bytes s t → IsSaid formula bytes (P t))
      → (source : Option Text) → OwesTold request source s t → Says formula source old new P
  told_says request P said None owes = record { text = t; taken = taken; said = record { bytes = owes.0; told_are = tt; holds = said owes.0 owes.1 } }
  told_says request P said (Some bytes) owes = record { text = t; taken = taken; said = record { bytes = bytes; told_are = refl; holds = said bytes owes } }

  pub owed_yes : (o : Options) → s ≡ positive → OwesTold (Some (Decide o false formula)) told s t → Says formula told old new (SaysTrue (codes "YES"))
  owed_yes o e owes =
      told_says (Some (Decide o false formula)) (SaysTrue (codes "YES"))
      (λ bytes owed_to. said_by (decide_inquiry o false formula) bytes s t (SaysTrue (codes "YES") t)
      (λ system behind terms f says. truth_yes system terms f s t e says) (omega (arith, e)) owed_to)
      told owes

  pub owed_no : (o : Options) → s ≡ negative → OwesTold (Some (Decide o false formula)) told s t → Says formula told old new (SaysFalse (codes "NO"))
  owed_no o e owes =
      told_says (Some (Decide o false formula)) (SaysFalse (codes "NO"))
      (λ bytes owed_to. said_by (decide_inquiry o false formula) bytes s t (SaysFalse (codes "NO") t)
      (λ system behind terms f says. truth_no system terms f s t e says) (omega (arith, e)) owed_to)
      told owes

  pub owed_terms : (o : Options) → s ≡ positive → OwesTold (Some (Witness o false formula)) told s t → Says formula told old new SaysLeastTerms
  owed_terms o e owes =
      told_says (Some (Witness o false formula)) SaysLeastTerms
      (λ bytes owed_to. said_by (witness_inquiry o false formula) bytes s t (SaysLeastTerms t)
      (λ system behind terms f says. least_terms system terms f s t e says) (omega (arith, e)) owed_to)
      told owes

  pub owed_no_terms : (o : Options) → s ≡ negative → OwesTold (Some (Witness o false formula)) told s t
      → Says formula told old new (SaysFalse (codes "NONE"))
  owed_no_terms o e owes =
      told_says (Some (Witness o false formula)) (SaysFalse (codes "NONE"))
      (λ bytes owed_to. said_by (witness_inquiry o false formula) bytes s t (SaysFalse (codes "NONE") t)
      (λ system behind terms f says. no_terms system terms f s t e says) (omega (arith, e)) owed_to)
      told owes

  pub owed_first_terms : (o : Options) (b : Bounds) (digits : Text) → digits ≡ decimal b.height → s ≤ negative
      → OwesTold (Some (Solutions o b formula)) told s t → Says formula told old new (SaysFirstTerms digits)
  owed_first_terms o b digits height_is low owes =
      told_says (Some (Solutions o b formula)) (SaysFirstTerms digits)
      (λ bytes owed_to. said_by (solutions_inquiry o b formula) bytes s t (SaysFirstTerms digits t)
      (λ system behind terms f says. first_terms b digits system terms f s t height_is says) low owed_to)
      told owes

  module _ (o : Options) (b : Family) (n h : Text) (rules_are : n ≡ decimal b.count) (height_is : h ≡ decimal b.height)
      (owes : OwesTold (Some (Synth o b formula)) told s t) where
    pub owed_system : s ≡ positive → Says formula told old new (SaysSystem n h)
    owed_system e =
        told_says (Some (Synth o b formula)) (SaysSystem n h)
        (λ bytes owed_to. said_by (synth_inquiry o b formula) bytes s t (SaysSystem n h t)
        (λ system behind terms f says. first_system o b n h rules_are height_is system terms f s t e says) (omega (arith, e)) owed_to)
        told owes

    pub owed_no_system : s ≡ negative → Says formula told old new (SaysNoSystem n h)
    owed_no_system e =
        told_says (Some (Synth o b formula)) (SaysNoSystem n h)
        (λ bytes owed_to. said_by (synth_inquiry o b formula) bytes s t (SaysNoSystem n h t)
        (λ system behind terms f says. no_system o b n h rules_are height_is system terms f s t e says) (omega (arith, e)) owed_to)
        told owes
