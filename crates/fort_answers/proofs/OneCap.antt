-- One part is the first over the cap, and none is where each keeps it.
use Rattle.std.specs.Prelude.{◌≡◌, ℕ, ◌<◌, ◌≤◌, List, get_or}
use Rattle.std.proofs.Common.{ap, sym, ◌∙◌, subst, arith, ⊎_elim}
use Rattle.std.proofs.lemmas.Bool.{cases_lt}
use Rattle.fort_theory.specs.Trees.{Tree}
use Rattle.fort_theory.specs.Sides.{System}
use Rattle.fort_theory.specs.Patterns.{PatternSystem, pattern_system}
use Rattle.fort_logic.specs.Formulas.{Formula}
use Rattle.fort_theory.specs.Cores as core
use Rattle.fort_theory.specs.Cores.{Core}
use Rattle.fort_theory.specs.Kinds.{Kind, kind_of}
use Rattle.fort_theory.specs.Parts.{postorder}
use Rattle.fort_logic.specs.Translation.{core_of}
use Rattle.fort_theory.proofs.EachOnceUnique.{AreEachOnce-unique}
use Rattle.fort_tables.specs.Agreement.{Agreement}
use Rattle.fort_parts.specs.AlikeParts.{IsFirstOverBy}
use Rattle.fort_answers.specs.Requests.{Options}
use Rattle.fort_answers.specs.Lines.{limit_line}
use Rattle.fort_answers.specs.SystemAnswer.{likeness, PassesCap, KeepsCap}

IsFirstOverBy-unique : (system : PatternSystem) (like : Core → Agreement) (parts : List Core) (n j k : ℕ) → IsFirstOverBy system like parts n j → IsFirstOverBy system like parts n k → j ≡ k
IsFirstOverBy-unique system like parts n j k one other =
    ⊎_elim (λ (l : j < k). absurd (other.before j l one.over))
    (λ (l : k ≤ j). ⊎_elim (λ (m : k < j). absurd (one.before k m other.over)) (λ (m : j ≤ k). omega arith) (cases_lt k j))
    (cases_lt j k)

module _ (system : System) (terms : List Tree) (f : Formula) (o : Options) where
  pub PassesCap-unique : (j k : ℕ) (kind kind' : Kind) → PassesCap system terms f o j kind → PassesCap system terms f o k kind'
      → limit_line j kind o.states ≡ limit_line k kind' o.states
  PassesCap-unique j k kind kind' one other =
      let same : other.parts ≡ one.parts = AreEachOnce-unique (postorder (core_of terms f)) other.parts one.parts other.are_parts one.are_parts in
      let place : j ≡ k =
      IsFirstOverBy-unique (pattern_system system) (likeness o system) one.parts o.states j k one.first
      (subst (λ ps. IsFirstOverBy (pattern_system system) (likeness o system) ps o.states k) same other.first) in
      let kinds : kind ≡ kind' =
      one.kind_is ∙ (ap (λ i. kind_of (get_or one.parts i core.True)) place ∙ (ap (λ ps. kind_of (get_or ps k core.True)) (sym same) ∙ sym other.kind_is)) in
      λ i. limit_line (place i) (kinds i) o.states

  pub PassesCap-not_kept : (k : ℕ) (kind : Kind) → PassesCap system terms f o k kind → KeepsCap system terms f o → ⊥
  PassesCap-not_kept k kind passes keeps = keeps passes.parts k passes.are_parts passes.first.within passes.first.over
