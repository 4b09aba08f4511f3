use Rattle.std.proofs.Common.{◌≡◌, ◌++◌, map, take}
use Rattle.std.specs.List.{AllByRecursion}
use Rattle.fort_certificate_theory.specs.CertificateText.{IsSmallCount, element_text, count_element}
use Rattle.fort_findings.specs.FindingView.{as_count}
use Rattle.fort_certificate.specs.Lines.{tails}
use Rattle.fort_certificate.proofs.write.push_each_count.Given as goal

abbrev pub invariant-loop-count : goal.invariant-loop-count
invariant-loop-count l = record {
  text : l.out.items ≡ l.fn.out.items ++ tails (map (λ n. element_text (count_element (as_count n))) (take l.count-index l.counts));
  small : AllByRecursion IsSmallCount (map as_count (take l.count-index l.counts));
}
