use Rattle.std.specs.Prelude.{◌≡◌, List, map}
use Rattle.std.proofs.Common.{ap, ◌∙◌}
use Rattle.fort_gtt_closure.specs.declared.entry.Entry.{Entry}
use Rattle.fort_findings.specs.declared.closure.ClosureEntry.{ClosureEntry}
use Rattle.fort_findings.specs.FindingView.{as_pair}
use Rattle.fort_context_closure.specs.ItemView.{as_items}
use Rattle.fort_context_closure.proofs.closures.closure_of.Goals as goal

pub returns : goal.returns
returns c =
    let found : List Entry = c.in_ok-closed.closed.entries.items in
    let es : List ClosureEntry = c.in_ok-entries.entries.items in
    let written : map as_pair es ≡ as_items found = c.in_ok-entries.ensures ∙ ap as_items c.deref.ensures.value in
    record {
      agtt = c.in_ok-agtt.agtt;
      is = c.in_ok-agtt.ensures.states;
      passed = record { found = found; passes = c.in_ok-closed.ensures.passes; written = written };
    }
