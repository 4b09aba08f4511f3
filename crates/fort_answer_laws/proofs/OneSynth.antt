-- What `synth` says of a formula over a signature is one answer: the search comes to one list of rules.
use Rattle.std.proofs.Common.{◌≡◌, ℕ, List, ◌++◌, sym, ◌∙◌, subst, inl, inr}
use Rattle.std.specs.Prelude.{All}
use Rattle.fort_theory.specs.Trees.{Tree}
use Rattle.fort_theory.specs.Signatures.{IsGround, HasConstant}
use Rattle.fort_theory.specs.Sides.{System}
use Rattle.fort_theory.specs.Kinds.{Kind}
use Rattle.fort_logic.specs.Formulas.{Formula}
use Rattle.fort_logic.specs.Truth.{IsTrueOf}
use Rattle.fort_logic.proofs.Verdicts.{IsTrueOf-not_false}
use Rattle.fort_answers.specs.FamilyRules.{FamilyRule}
use Rattle.fort_answers.specs.FamilySystems.{system_of}
use Rattle.fort_answers.specs.RuleText.{rule_lines}
use Rattle.fort_answers.proofs.FamilyOrderLaws.{CandidateBefore-total}
use Rattle.fort_answers.specs.Requests.{Text, Options, Family}
use Rattle.fort_answers.specs.Lines.{positive, negative, refused, limited, limit_line}
use Rattle.fort_answers.specs.SystemAnswer.{Are, PassesCap}
use Rattle.fort_answers.specs.SynthAnswer.{family_too_large, system_line, no_system_line, GoesOnBehind, IsReached, SynthVerdict, TooLarge, Found, Over, NotFound}
use Rattle.fort_answers.proofs.OneCap.{PassesCap-unique, PassesCap-not_kept}
use Rattle.fort_answers.proofs.OneRequest.{Are-unique}

module _ (options : Options) (family : Family) (system : System) (terms : List Tree) (f : Formula) where
  abbrev Rules : Type 0
  Rules = List FamilyRule

  abbrev Passed : Rules → Type 0
  Passed rules = GoesOnBehind options system.signature terms f rules

  abbrev Reached : Rules → Type 0
  Reached rules = IsReached options family system.signature terms f rules

  abbrev Holds : Rules → Type 0
  Holds rules = IsTrueOf (system_of system.signature rules) terms f

  abbrev IsOver : Rules → ℕ → Kind → Type 0
  IsOver rules k kind = PassesCap (system_of system.signature rules) terms f options k kind

  -- of two lists of rules to which it comes, and behind neither of which it goes on, neither comes before the other
  reached_one : (rs ss : Rules) → Reached rs → Reached ss → (Passed rs → ⊥) → (Passed ss → ⊥) → ss ≡ rs
  reached_one rs ss one other stays also =
      elim (CandidateBefore-total rs ss (one.of_family.number ∙ sym other.of_family.number)) [
        | inl same ↦ sym same
        | inr (inl before) ↦ absurd (stays (other.before rs one.of_family before))
        | inr (inr behind) ↦ absurd (also (one.before ss other.of_family behind))
      ]

  true_not_passed : (rules : Rules) → HasConstant system.signature → All (IsGround system.signature) terms → Holds rules → Passed rules → ⊥
  unfolding system_of
  true_not_passed rules constant grounded holds passed =
      IsTrueOf-not_false (system_of system.signature rules) terms f constant grounded holds passed.fails

  over_not_passed : (rules : Rules) (k : ℕ) (kind : Kind) → IsOver rules k kind → Passed rules → ⊥
  over_not_passed rules k kind over passed = PassesCap-not_kept (system_of system.signature rules) terms f options k kind over passed.keeps

  abbrev found_text : Rules → Text
  found_text rules = system_line ++ rule_lines system.signature rules

  abbrev over_text : ℕ → Kind → Rules → Text
  over_text k kind rules = limit_line k kind options.states ++ rule_lines system.signature rules

  pub SynthVerdict-unique : (s s' : ℕ) (t t' : Text) → HasConstant system.signature → All (IsGround system.signature) terms
      → SynthVerdict options family system.signature terms f s t → SynthVerdict options family system.signature terms f s' t' → Are s t s' t'
  SynthVerdict-unique s s' t t' constant grounded (TooLarge large are) (TooLarge large' are') = Are-unique refused family_too_large s s' t t' are are'
  SynthVerdict-unique s s' t t' constant grounded (TooLarge large are) (Found few rules reached keeps holds are') = absurd (few large)
  SynthVerdict-unique s s' t t' constant grounded (TooLarge large are) (Over few rules reached k kind over are') = absurd (few large)
  SynthVerdict-unique s s' t t' constant grounded (TooLarge large are) (NotFound few passed are') = absurd (few large)
  SynthVerdict-unique s s' t t' constant grounded (Found few rules reached keeps holds are) (TooLarge large are') = absurd (few large)
  SynthVerdict-unique s s' t t' constant grounded (Over few rules reached k kind over are) (TooLarge large are') = absurd (few large)
  SynthVerdict-unique s s' t t' constant grounded (NotFound few passed are) (TooLarge large are') = absurd (few large)
  SynthVerdict-unique s s' t t' constant grounded (Found few rs reached keeps holds are) (Found few' ss reached' keeps' holds' are') =
      let same = reached_one rs ss reached reached' (true_not_passed rs constant grounded holds) (true_not_passed ss constant grounded holds') in
      Are-unique positive (found_text rs) s s' t t' are (subst (λ (xs : Rules). Are s' t' positive (found_text xs)) same are')
  SynthVerdict-unique s s' t t' constant grounded (Found few rs reached keeps holds are) (Over few' ss reached' k kind over are') =
      let same = reached_one rs ss reached reached' (true_not_passed rs constant grounded holds) (over_not_passed ss k kind over) in
      absurd (PassesCap-not_kept (system_of system.signature rs) terms f options k kind (subst (λ (xs : Rules). IsOver xs k kind) same over) keeps)
  SynthVerdict-unique s s' t t' constant grounded (Over few rs reached k kind over are) (Found few' ss reached' keeps holds are') =
      let same = reached_one ss rs reached' reached (true_not_passed ss constant grounded holds) (over_not_passed rs k kind over) in
      absurd (PassesCap-not_kept (system_of system.signature ss) terms f options k kind (subst (λ (xs : Rules). IsOver xs k kind) same over) keeps)
  SynthVerdict-unique s s' t t' constant grounded (Over few rs reached k kind over are) (Over few' ss reached' k' kind' over' are') =
      let same = reached_one rs ss reached reached' (over_not_passed rs k kind over) (over_not_passed ss k' kind' over') in
      let line =
      PassesCap-unique (system_of system.signature rs) terms f options k' k kind' kind (subst (λ (xs : Rules). IsOver xs k' kind') same over') over in
      Are-unique limited (over_text k kind rs) s s' t t' are
      (subst (λ (x : Text). Are s' t' limited (x ++ rule_lines system.signature rs)) line
      (subst (λ (xs : Rules). Are s' t' limited (over_text k' kind' xs)) same are'))
  SynthVerdict-unique s s' t t' constant grounded (Found few rs reached keeps holds are) (NotFound few' passed are') =
      absurd (true_not_passed rs constant grounded holds (passed rs reached.of_family))
  SynthVerdict-unique s s' t t' constant grounded (NotFound few passed are) (Found few' ss reached keeps holds are') =
      absurd (true_not_passed ss constant grounded holds (passed ss reached.of_family))
  SynthVerdict-unique s s' t t' constant grounded (Over few rs reached k kind over are) (NotFound few' passed are') =
      absurd (over_not_passed rs k kind over (passed rs reached.of_family))
  SynthVerdict-unique s s' t t' constant grounded (NotFound few passed are) (Over few' ss reached k kind over are') =
      absurd (over_not_passed ss k kind over (passed ss reached.of_family))
  SynthVerdict-unique s s' t t' constant grounded (NotFound few passed are) (NotFound few' passed' are') = Are-unique negative no_system_line s s' t t' are are'
