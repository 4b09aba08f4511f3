use Rattle.std.proofs.Common.{◌++◌, ◌∷◌, List, ℕ, map, get_or, ap, ◌∙◌, subst, arith}
use Rattle.std.specs.List.{AllByRecursion}
use Rattle.std.proofs.lemmas.List.{take_all}
use Rattle.fort_certificate_theory.specs.CertificateText.{IsSmallCount, element_text, count_element}
use Rattle.fort_findings.specs.declared.count.Count.{Count}
use Rattle.fort_findings.specs.declared.count.Count.TheVariants.{Finite}
use Rattle.fort_findings.specs.FindingView.{as_count}
use Rattle.fort_certificate.specs.Lines.{tails}
use Rattle.fort_certificate.proofs.SmallLaws.{small_more}
use Rattle.fort_certificate.proofs.LineLaws.{tails_more}
use Rattle.fort_certificate.proofs.write.push_each_count.Goals as goal

pub loop-count-preserved : goal.loop-count-preserved
loop-count-preserved c =
    let d : Count = Finite 0 in
    let f : Count → List ℕ = λ n. element_text (count_element (as_count n)) in
    record {
      text =
          c.in_ok-push_count.ensures.text
          ∙ (ap (λ xs. xs ++ (32 ∷ f (get_or c.args.counts.now c.loop-count.count-index d))) c.loop-count.invariant.text
          ∙ tails_more c.args.out.now.items f c.args.counts.now c.loop-count.count-index d c.loop-count-test.true);
      small = small_more as_count IsSmallCount c.args.counts.now c.loop-count.count-index d c.loop-count-test.true c.loop-count.invariant.small c.in_ok-push_count.ensures.small;
    }

pub returns-clause-text : goal.returns-clause-text
returns-clause-text c =
    c.loop-count.invariant.text
    ∙ ap (λ ns. c.args.out.now.items ++ tails (map (λ n. element_text (count_element (as_count n))) ns))
    (take_all c.loop-count.count-index c.args.counts.now (omega arith))

pub returns-clause-small : goal.returns-clause-small
returns-clause-small c =
    subst (λ xs. AllByRecursion IsSmallCount (map as_count xs)) (take_all c.loop-count.count-index c.args.counts.now (omega arith)) c.loop-count.invariant.small
