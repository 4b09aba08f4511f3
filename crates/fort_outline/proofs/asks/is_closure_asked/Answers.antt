use Rattle.fort_findings.specs.FindingView.{as_which}
use Rattle.fort_outline.proofs.OutlineLaws.{some_part_asks}
use Rattle.fort_outline.proofs.asks.is_closure_asked.Goals as goal

pub loop-root-init : goal.loop-root-init
loop-root-init c = some_part_asks (as_which c.args.which) c.args.index c.args.roots.now
