use Rattle.std.proofs.Common.{◌≡◌, ◌++◌, map, take}
use Rattle.std.specs.List.{AllByRecursion}
use Rattle.fort_certificate_theory.specs.CertificateText.{IsSmallPair, element_text, pair_element}
use Rattle.fort_findings.specs.FindingView.{as_pair}
use Rattle.fort_certificate.specs.Lines.{tails}
use Rattle.fort_certificate.proofs.write.push_entries.Given as goal

abbrev pub invariant-loop-entry : goal.invariant-loop-entry
invariant-loop-entry l = record {
  text : l.out.items ≡ l.fn.out.items ++ tails (map (λ e. element_text (pair_element (as_pair e))) (take l.entry-index l.entries));
  small : AllByRecursion IsSmallPair (map as_pair (take l.entry-index l.entries));
}
