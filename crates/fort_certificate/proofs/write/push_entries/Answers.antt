use Rattle.std.proofs.Common.{◌++◌, ◌∷◌, List, ℕ, map, get_or, ap, ◌∙◌, subst, arith}
use Rattle.std.specs.List.{AllByRecursion}
use Rattle.std.proofs.lemmas.List.{take_all}
use Rattle.fort_certificate_theory.specs.CertificateText.{IsSmallPair, element_text, pair_element}
use Rattle.fort_findings.specs.declared.closure.ClosureEntry.{ClosureEntry}
use Rattle.fort_findings.specs.declared.closure.Reason.TheVariants.{Any}
use Rattle.fort_findings.specs.FindingView.{as_pair}
use Rattle.fort_certificate.specs.Lines.{tails}
use Rattle.fort_certificate.proofs.SmallLaws.{small_more}
use Rattle.fort_certificate.proofs.LineLaws.{tails_more}
use Rattle.fort_certificate.proofs.write.push_entries.Goals as goal

pub loop-entry-preserved : goal.loop-entry-preserved
loop-entry-preserved c =
    let d : ClosureEntry = record { p = 0; q = 0; why = Any } in
    let f : ClosureEntry → List ℕ = λ e. element_text (pair_element (as_pair e)) in
    record {
      text =
          c.in_ok-push_entry.ensures.text
          ∙ (ap (λ xs. xs ++ (32 ∷ f (get_or c.args.entries.now c.loop-entry.entry-index d))) c.loop-entry.invariant.text
          ∙ tails_more c.args.out.now.items f c.args.entries.now c.loop-entry.entry-index d c.loop-entry-test.true);
      small = small_more as_pair IsSmallPair c.args.entries.now c.loop-entry.entry-index d c.loop-entry-test.true c.loop-entry.invariant.small c.in_ok-push_entry.ensures.small;
    }

pub returns-clause-text : goal.returns-clause-text
returns-clause-text c =
    c.loop-entry.invariant.text
    ∙ ap (λ es. c.args.out.now.items ++ tails (map (λ e. element_text (pair_element (as_pair e))) es))
    (take_all c.loop-entry.entry-index c.args.entries.now (omega arith))

pub returns-clause-small : goal.returns-clause-small
returns-clause-small c =
    subst (λ xs. AllByRecursion IsSmallPair (map as_pair xs)) (take_all c.loop-entry.entry-index c.args.entries.now (omega arith)) c.loop-entry.invariant.small
