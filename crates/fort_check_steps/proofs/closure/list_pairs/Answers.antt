use Rattle.std.proofs.Common.{◌≡◌, ℕ, map, length, get_or, refl, sym, ◌∙◌, arith, subst}
use Rattle.std.proofs.lemmas.List.{length-map, get_or-map}
use Rattle.fort_findings.specs.declared.closure.Reason.TheVariants.{Any}
use Rattle.fort_findings.specs.FindingView.{as_pair}
use Rattle.fort_check_steps.specs.PairSteps.{IsPairsOutcome, AreTaken}
use Rattle.fort_check_steps.proofs.PairStepLaws.{AreTaken-none, AreTaken-more, IsClosureOutcome-refused}
use Rattle.fort_check_steps.proofs.closure.list_pairs.Goals as goal

pub pairs-init : goal.pairs-init
pairs-init c = record {
  taken = λ k rules. AreTaken-none k c.args.rules.now rules (map as_pair c.args.entries.now) c.args.listed.now c.requires.none;
  size = refl;
}

pub pairs-preserved : goal.pairs-preserved
pairs-preserved c =
    let n = c.pairs.place in
    let es = c.args.entries.now in
    let e = get_or es n (record { p = 0; q = 0; why = Any }) in
    record {
      taken = λ k rules. AreTaken-more k c.args.rules.now rules (map as_pair es) n (as_pair e) c.pairs.listed c.take_pair.new.listed (omega (arith, c.pairs-test.true, length-map es as_pair))
          (λ d. get_or-map as_pair es n (record { p = 0; q = 0; why = Any }) d c.pairs-test.true) (c.pairs.invariant.taken k rules) c.in-Ok.ensures.taken;
      size = c.in-Ok.ensures.taken.size ∙ c.pairs.invariant.size;
    }

pub returns-in-Err : goal.returns-in-Err
returns-in-Err c k rules =
    let n = c.pairs.place in
    let es = c.args.entries.now in
    let e = get_or es n (record { p = 0; q = 0; why = Any }) in
    subst (λ o. IsPairsOutcome k (map as_pair es) c.take_pair.new.listed o) (sym c.failed.ensures)
    (IsClosureOutcome-refused k c.args.rules.now rules (map as_pair es) n (as_pair e) c.pairs.listed c.in-Err.reason (omega (arith, c.pairs-test.true, length-map es as_pair))
    (λ d. get_or-map as_pair es n (record { p = 0; q = 0; why = Any }) d c.pairs-test.true) (c.pairs.invariant.taken k rules) c.in-Err.ensures.refused)

pub returns : goal.returns
returns c k rules =
    let items = map as_pair c.args.entries.now in
    let whole : c.pairs.place ≡ length items = omega (arith, c.pairs-test.false, length-map c.args.entries.now as_pair, (c.pairs.invariant.taken k rules).founded.count) in
    subst (λ (n : ℕ). AreTaken k items n c.pairs.listed) whole (c.pairs.invariant.taken k rules)
