use Rattle.std.proofs.Common.{◌≡◌, map, take}
use Rattle.fort_findings.specs.FindingView.{as_pair}
use Rattle.fort_context_closure.specs.ItemView.{as_items}
use Rattle.fort_context_closure.proofs.closures.listed.Given as goal

abbrev pub invariant-loop-entry : goal.invariant-loop-entry
invariant-loop-entry l = map as_pair l.list.items ≡ as_items (take l.entry-index l.entries)
