-- What is said over the systems of a family, and what a search through them says to the question for the first system.
use Rattle.std.proofs.Common.{zero, suc, get_or, ◌≡◌, ℕ, ◌<◌, ◌≤◌, ◌++◌, ◌^◌, Bool, true, false, List, length, All, Some, refl, sym, ap, subst, ◌∙◌, arith}
use Rattle.std.specs.Prelude.{None, Contains}
use Rattle.std.proofs.lemmas.List.Elements.{All-weaker, Contains-get_or}
use Rattle.fort_theory.specs.Trees.{Tree}
use Rattle.fort_theory.specs.Signatures.{Signature, HasConstant, arity_of}
use Rattle.fort_theory.specs.Sides.{System, IsIndexOf}
use Rattle.fort_theory.specs.Patterns.{PatternSystem, pattern_system}
use Rattle.fort_theory.proofs.RightGroundTargets.{IsRightGroundAt-patterns}
use Rattle.fort_logic.specs.Formulas.{Formula}
use Rattle.fort_logic.specs.Translation.{core_of}
use Rattle.fort_theory.specs.Cores.{Core}
use Rattle.fort_parts.specs.DecidedCores.{IsDecided}
use Rattle.fort_formulas.specs.KindView.{as_kind}
use Rattle.fort_answers.specs.FamilyRules.{FamilyRule, IsFamilyRule, IsFamily, IsTooLarge, most_family_rules}
use Rattle.fort_answers.specs.FamilySystems.{any_count, IsCandidate, system_of}
use Rattle.fort_answers.proofs.FamilySizes.{any_count-within, subpatterns-few}
use Rattle.fort_answers.specs.RuleText.{rule_lines}
use Rattle.fort_answers.proofs.FamilyOrderLaws.{IsFamily-not_too_large}
use Rattle.fort_synth.specs.SearchAnswers.{FitsRule, IsPicked, picked_system}
use Rattle.fort_words.specs.declared.request.Options.{Options}
use Rattle.fort_words.specs.declared.request.Family.{Family}
use Rattle.fort_words.specs.RequestView.{as_options, as_family}
use Rattle.fort_answers.specs.Lines as lines
use Rattle.fort_answers.specs.FormulaAnswer.{Closed}
use Rattle.fort_answers.specs.PossibleRequests.{IsFamilyInRange}
use Rattle.fort_answers.specs.SystemAnswer.{KeepsCap}
use Rattle.fort_answers.specs.SynthAnswer.{family_too_large, system_line, no_system_line, GoesOnBehind, IsReached, SynthVerdict, TooLarge, Found, NotFound}
use Rattle.fort_answers.proofs.FewFamilyRules.{AreFewRules-family}
use Rattle.fort_answers.proofs.FamilySystemLaws.{family_separated, family_right_ground, IsDecided-moved}
use Rattle.fort_engine.specs.declared.answer.EngineFault.{EngineFault}
use Rattle.fort_engine.specs.declared.answer.EngineFault.TheVariants as faults
use Rattle.fort_engine.specs.AnswerView.{IfOver, KeepsCapAt, IsLimit}
use Rattle.fort_questions.specs.declared.question.Question.TheVariants.{Synth}
use Rattle.fort_run.specs.declared.reply.Reply.{Reply}
use Rattle.fort_run.specs.StatusView.{code_of}
use Rattle.fort_run.specs.Certified.{IsTruth}
use Rattle.fort_run.specs.Posed.{IsPosed, SettlesCore}
use Rattle.fort_run.specs.Ready.{IsLawful, IsReady}
use Rattle.fort_run.specs.Searches.{HasValue, ComesTo, IsFirstTrue, AreAllFalse, IsFirstOver, IsSystemOf, TellsStopFault}
use Rattle.fort_run.specs.Verdicts.{IsVerdict, Says, Stops}
use Rattle.fort_run.proofs.PosedQuestions.{value_truth}

-- ---- candidates

-- rules picked from the family's list are those of a system of the family, and the other way round
module _ (sig : Signature) (height count : ℕ) (family : List FamilyRule) (are : IsFamily sig height family) where
  pub picked_candidate : (rules : List FamilyRule) → IsPicked family count rules → IsCandidate sig height count rules
  picked_candidate rules is = record {
    are = All-weaker (Contains family) (IsFamilyRule sig height) (λ r c. (are.same r).0 c) rules is.among;
    ascend = is.ascend;
    number = is.number;
  }

  pub candidate_picked : (rules : List FamilyRule) → IsCandidate sig height count rules → IsPicked family count rules
  candidate_picked rules is = record {
    among = All-weaker (IsFamilyRule sig height) (Contains family) (λ r own. (are.same r).1 own) rules is.are;
    ascend = is.ascend;
    number = is.number;
  }

-- ---- rules of a low family fit, and have few places for variables

module _ (sig : Signature) (small : (g n : ℕ) → arity_of sig g ≡ Some n → n ≤ 8) (height : ℕ) (low : height ≤ 2) where
  rule_fits : (r : FamilyRule) → IsFamilyRule sig height r → FitsRule sig r
  rule_fits r is = record {
    left = is.left;
    right = is.right;
    places =
        let within = any_count-within r.0 in
        let few = subpatterns-few sig small height r.0 is.left is.left_low in
        let power = power_few height low in
        omega (arith, within, few, power);
  }
    where
      power_few : (h : ℕ) → h ≤ 2 → 9 ^ h ≤ 81
      power_few zero below = omega arith
      power_few (suc zero) below = omega arith
      power_few (suc (suc zero)) below = omega arith
      power_few (suc (suc (suc h))) below = absurd (omega arith)

  module _ (family : List FamilyRule) (are : IsFamily sig height family) where
    pub family_fits : All (FitsRule sig) family
    family_fits = λ k d below. rule_fits (get_or family k d) ((are.same (get_or family k d)).0 (Contains-get_or family k d below))

    pub picked_few : (count : ℕ) (rules : List FamilyRule) → IsPicked family count rules → All (λ (r : FamilyRule). any_count r.0 < 2 ^ 32) rules
    picked_few count rules is =
        All-weaker (Contains family) (λ (r : FamilyRule). any_count r.0 < 2 ^ 32) (λ r c. (rule_fits r ((are.same r).0 c)).places) rules is.among

-- ---- a formula that is posed over a signature alone is posed over each system of a family

pub family_lawful : (sig : Signature) → HasConstant sig → (rules : List FamilyRule) → IsLawful (system_of sig rules)
unfolding system_of
family_lawful sig constant rules = record { constant = constant; separated = family_separated sig rules }

module _ (f : Formula) (system : PatternSystem) (terms : List Tree) (c : Core) (posed : IsPosed Closed f system terms c) (single : length system.rules ≡ 1)
    (small : (g n : ℕ) → arity_of system.signature g ≡ Some n → n ≤ 8) (height count : ℕ) (low : height ≤ 2) (few : count ≤ 4) (rules : List FamilyRule)
    (is : IsCandidate system.signature height count rules) where
  abbrev own_system : PatternSystem
  own_system = picked_system system.signature rules

  index_moved : (index : ℕ) → IsIndexOf system.rules index → IsIndexOf own_system.rules index
  unfolding system_of
  index_moved index at = record { low = at.low; high = (let high = at.high in omega (arith, high, single)) }

  ready_over : IsReady f own_system terms
  unfolding system_of
  ready_over = record {
    small = posed.ready.small;
    narrow = posed.ready.narrow;
    has_terms = posed.ready.has_terms;
    grounded = posed.ready.grounded;
    within = λ index there. index_moved index (posed.ready.within index there);
    few = λ some index. AreFewRules-family system.signature small height low count few rules is index;
    right_ground = λ index there. (IsRightGroundAt-patterns (system_of system.signature rules) index).0 (family_right_ground system.signature rules index);
  }

  pub decided_over : IsDecided own_system c
  unfolding system_of
  decided_over =
      IsDecided-moved system own_system refl index_moved (AreFewRules-family system.signature small height low count few rules is) c posed.decided

  pub posed_over : IsPosed Closed f own_system terms c
  posed_over = record { taken = posed.taken; ready = ready_over; is = posed.is; keeps = posed.keeps; decided = decided_over }

  -- the value of the core formula is the formula's truth, and no part is over the cap
  pub truth_over : HasConstant system.signature → (options : Options) (value : Bool) → HasValue options c own_system value
      → IsTruth value (system_of system.signature rules) terms f
  truth_over constant options value has =
      value_truth f own_system terms c posed_over (system_of system.signature rules) (family_lawful system.signature constant rules) refl value has.answer

  pub keeps_over : (options : Options) (value : Bool) → HasValue options c own_system value
      → KeepsCap (system_of system.signature rules) terms f (as_options options)
  keeps_over options value has = subst (λ k. KeepsCapAt own_system options.reduces k options.states) posed.is has.keeps

  pub passed_over : HasConstant system.signature → (options : Options) → HasValue options c own_system false
      → GoesOnBehind (as_options options) system.signature terms f rules
  passed_over constant options has = record { keeps = keeps_over options false has; fails = truth_over constant options false has }

-- ---- what a search says

module _ (options : Options) (family : Family) (range : IsFamilyInRange (as_family family)) (f : Formula) (system : PatternSystem) (terms : List Tree) (c : Core)
    (posed : IsPosed Closed f system terms c) (single : length system.rules ≡ 1) (small : (g n : ℕ) → arity_of system.signature g ≡ Some n → n ≤ 8)
    (constant : HasConstant system.signature) (listed : List FamilyRule) (are : IsFamily system.signature family.height listed)
    (few : length listed ≤ most_family_rules) where
  abbrev sig : Signature
  sig = system.signature

  not_large : IsTooLarge sig family.height → ⊥
  not_large = IsFamily-not_too_large sig family.height listed are few

  candidate : (rules : List FamilyRule) → IsPicked listed family.count rules → IsCandidate sig family.height family.count rules
  candidate = picked_candidate sig family.height family.count listed are

  passed : (rules : List FamilyRule) → IsPicked listed family.count rules → HasValue options c (picked_system sig rules) false
      → GoesOnBehind (as_options options) sig terms f rules
  passed rules is has =
      passed_over f system terms c posed single small family.height family.count range.flat range.few rules (candidate rules is) constant options has

  reached : (rules : List FamilyRule) → ComesTo options c sig listed family.count rules → IsReached (as_options options) (as_family family) sig terms f rules
  reached rules comes = record {
    of_family = candidate rules comes.picked;
    before =
        λ others is before.
        let there = candidate_picked sig family.height family.count listed are others is in
        passed others there (comes.before others there before);
  }

  abbrev IsSaid : (status : ℕ) → (text : List ℕ) → Type 0
  IsSaid status text = SynthVerdict (as_options options) (as_family family) sig terms f status text

  pub found_said : (rules : List FamilyRule) → ComesTo options c sig listed family.count rules → HasValue options c (picked_system sig rules) true
      → (status : ℕ) (text : List ℕ) → status ≡ lines.positive → text ≡ system_line ++ rule_lines sig rules → IsSaid status text
  found_said rules comes has status text s t =
      let is = candidate rules comes.picked in
      Found not_large rules (reached rules comes)
      (keeps_over f system terms c posed single small family.height family.count range.flat range.few rules is options true has)
      (truth_over f system terms c posed single small family.height family.count range.flat range.few rules is constant options true has)
      (record { same_status = s; same_text = t })

  pub none_said : ((rules : List FamilyRule) → IsPicked listed family.count rules → HasValue options c (picked_system sig rules) false)
      → (status : ℕ) (text : List ℕ) → status ≡ lines.negative → text ≡ no_system_line → IsSaid status text
  none_said all status text s t =
      NotFound not_large (λ rules is.
      let there = candidate_picked sig family.height family.count listed are rules is in
      passed rules there (all rules there))
      (record { same_status = s; same_text = t })

-- ---- the replies

pub picked_signature : (signature : Signature) (rules : List FamilyRule) → (picked_system signature rules).signature ≡ signature
unfolding system_of
picked_signature signature rules = refl

-- over each system that has these pairs of patterns
module _ (options : Options) (family : Family) (f : Formula) (system : PatternSystem) (terms : List Tree) (c : Core) (p : System) (same : system ≡ pattern_system p)
    (posed : IsPosed Closed f system terms c) (r : Reply) where
  abbrev sig_is : system.signature ≡ p.signature
  sig_is = ap (λ (s : PatternSystem). s.signature) same

  -- a text that is said is the verdict
  pub said_verdict : SynthVerdict (as_options options) (as_family family) system.signature terms f (code_of r.status) r.text.items → r.limit ≡ None
      → IsVerdict (Synth options family) p tt terms f r
  said_verdict says none =
      Says tt (subst (λ s. SynthVerdict (as_options options) (as_family family) s terms f (code_of r.status) r.text.items) sig_is says) none

  -- the family is too large
  pub large_verdict : IsTooLarge system.signature family.height → code_of r.status ≡ lines.refused → r.text.items ≡ family_too_large → r.limit ≡ None
      → IsVerdict (Synth options family) p tt terms f r
  large_verdict large s t none = said_verdict (TooLarge large (record { same_status = s; same_text = t })) none

  -- the search stops at these rules
  pub stop_verdict : (IsTooLarge system.signature family.height → ⊥) → (rules : List FamilyRule)
      → IsReached (as_options options) (as_family family) system.signature terms f rules → (fault : EngineFault)
      → IfOver fault (IsLimit (picked_system system.signature rules) options.reduces c options.states)
      → (found : PatternSystem) → found ≡ picked_system system.signature rules → TellsStopFault options.states fault found r
      → IsVerdict (Synth options family) p tt terms f r
  stop_verdict not_large rules reached faults.Memory over found is tells = absurd tells
  stop_verdict not_large rules reached (faults.Over limit) over found is tells =
      let sig_found : found.signature ≡ system.signature = ap (λ (s : PatternSystem). s.signature) is ∙ picked_signature system.signature rules in
      let own : IsSystemOf found rules = is ∙ ap (λ s. picked_system s rules) (sym sig_found) in
      Stops options family refl rules limit (record {
        small = subst (λ s. IsTooLarge s family.height → ⊥) sig_is not_large;
        reached = subst (λ s. IsReached (as_options options) (as_family family) s terms f rules) sig_is reached;
        is =
            subst (λ s. IsLimit (pattern_system (system_of s rules)) options.reduces (core_of terms f) options.states limit) sig_is
            (subst (λ k. IsLimit (picked_system system.signature rules) options.reduces k options.states limit) posed.is over);
        limit_is = tells.limit_is;
        status_is = tells.status_is;
        text_is =
            tells.text_is rules own
            ∙ ap (λ s. lines.limit_line limit.part (as_kind limit.kind) options.states ++ rule_lines s rules) (sig_found ∙ sig_is);
      })

-- ---- a search settles the question

module _ (options : Options) (family : Family) (range : IsFamilyInRange (as_family family)) (system : PatternSystem) (c : Core) (single : length system.rules ≡ 1)
    (small : (g n : ℕ) → arity_of system.signature g ≡ Some n → n ≤ 8) (listed : List FamilyRule) (are : IsFamily system.signature family.height listed)
    (few : length listed ≤ most_family_rules) (r : Reply) where
  constant_of : (p : System) → IsLawful p → system ≡ pattern_system p → HasConstant system.signature
  constant_of p lawful same = subst HasConstant (sym (ap (λ (s : PatternSystem). s.signature) same)) lawful.constant

  -- by the first system of which the core formula is true
  pub found_settles : (found : PatternSystem) → IsFirstTrue options c system.signature listed family.count found → code_of r.status ≡ lines.positive
      → ((rules : List FamilyRule) → IsSystemOf found rules → r.text.items ≡ system_line ++ rule_lines found.signature rules) → r.limit ≡ None
      → (f : Formula) → SettlesCore (Synth options family) system tt c f r
  found_settles found first status text limit f p terms lawful same posed =
      let sig_found : found.signature ≡ system.signature =
      ap (λ (s : PatternSystem). s.signature) first.is ∙ picked_signature system.signature first.rules in
      let own : IsSystemOf found first.rules = first.is ∙ ap (λ s. picked_system s first.rules) (sym sig_found) in
      said_verdict options family f system terms c p same posed r
      (found_said options family range f system terms c posed single small (constant_of p lawful same) listed are few first.rules first.comes first.has
      (code_of r.status) r.text.items status (text first.rules own ∙ ap (λ s. system_line ++ rule_lines s first.rules) sig_found))
      limit

  -- by its being false over all
  pub none_settles : AreAllFalse options c system.signature listed family.count → code_of r.status ≡ lines.negative → r.text.items ≡ no_system_line
      → r.limit ≡ None → (f : Formula) → SettlesCore (Synth options family) system tt c f r
  none_settles all status text limit f p terms lawful same posed =
      said_verdict options family f system terms c p same posed r
      (none_said options family range f system terms c posed single small (constant_of p lawful same) listed are few all (code_of r.status) r.text.items status
      text)
      limit

  -- by the first system over which a part is over the cap
  pub over_settles : (found : PatternSystem) (fault : EngineFault) → IsFirstOver options c system.signature listed family.count found fault
      → TellsStopFault options.states fault found r → (f : Formula) → SettlesCore (Synth options family) system tt c f r
  over_settles found fault first tells f p terms lawful same posed =
      stop_verdict options family f system terms c p same posed r
      (not_large options family range f system terms c posed single small (constant_of p lawful same) listed are few)
      first.rules
      (reached options family range f system terms c posed single small (constant_of p lawful same) listed are few first.rules first.comes)
      fault first.over found first.is tells
