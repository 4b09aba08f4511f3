use Rattle.std.proofs.Common.{◌≡◌, None, length, ◌≤◌, ◌-◌}
use Rattle.std.specs.Io.KnownBytes.{Consumes}
use Rattle.fort_intake.proofs.intake.take_forms.Given as goal

abbrev pub invariant-loop-reader : goal.invariant-loop-reader
invariant-loop-reader g l = record {
  within : l.count ≤ l.limit;
  faultless : l.reader.fault ≡ None;
  fed : length l.reader.bytes ≡ l.count;
  given : Consumes (g.S.Source.rest l.fn.source) (g.S.Source.rest l.source) l.reader.bytes;
  quiet : g.S.Source.faults l.source ≡ g.S.Source.faults l.fn.source;
}

abbrev pub decreases-loop-reader : goal.decreases-loop-reader
decreases-loop-reader g l = l.limit - l.count
