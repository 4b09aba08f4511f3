use Rattle.std.proofs.Common.{◌≡◌, drop}
use Rattle.std.specs.List.{list_any}
use Rattle.fort_alike.specs.ListedClosures.{asks}
use Rattle.fort_outline.specs.Roots.{cores_of}
use Rattle.fort_findings.specs.FindingView.{as_which}
use Rattle.fort_outline.proofs.OutlineLaws.{root_asks}
use Rattle.fort_outline.proofs.asks.is_closure_asked.Given as goal

-- the roots that are left decide
abbrev pub invariant-loop-root : goal.invariant-loop-root
invariant-loop-root l =
    list_any (asks (as_which l.which) l.index) (cores_of l.roots) ≡ list_any (root_asks (as_which l.which) l.index) (drop l.root-index l.roots)
