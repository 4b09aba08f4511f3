use Rattle.std.proofs.Common.{◌≡◌, ◌+◌, max, take, get_or, refl, ap, arith, ⊎_elim}
use Rattle.std.proofs.lemmas.Bool.{cases_eq}
use Rattle.fort_tables.specs.Entries.{stage}
use Rattle.fort_certificate_theory.specs.PartSteps.{states_before}
use Rattle.fort_certificate_theory.proofs.StageLaws.{states_step}
use Rattle.fort_check_steps.proofs.room.states_named.Goals as goal

pub loop-target-preserved : goal.loop-target-preserved
loop-target-preserved c =
    let targets = c.args.targets.now in
    let i = c.loop-target.target-index in
    let q = get_or targets i 0 in
    let before = states_before targets i in
    let step : max before (q + 1) ≡ states_before targets (i + 1) = states_step targets i before (max before (q + 1)) c.loop-target-test.true refl refl in
    record {
      first = λ e. absurd (omega (arith, e));
      later = λ l.
          ⊎_elim
          (λ (e : i ≡ 0). omega (arith, c.loop-target.invariant.first e, c.max-most.ensures, step, ap (λ n. stage (take n targets)) e))
          (λ (n : i ≡ 0 → ⊥). omega (arith, c.loop-target.invariant.later (omega (arith, n)), c.max-most.ensures, step))
          (cases_eq i 0);
    }
