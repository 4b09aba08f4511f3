use Rattle.fort_outline.specs.Outlines.{parts_in}
use Rattle.fort_engine.specs.Kept.{IsSoFar}
use Rattle.fort_engine.proofs.decide.decide_parts.Given as goal

abbrev pub invariant-loop-k : goal.invariant-loop-k
invariant-loop-k g l = record {
  far : IsSoFar l.system l.options (parts_in l.outline) l.outline.last_uses.items l.k l.kept.items;
  recorded : g.R.Recorder.recorded l.recorder l.system l.options l.outline l.k l.kept.items;
}
