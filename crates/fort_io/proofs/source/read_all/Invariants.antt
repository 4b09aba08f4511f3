use Rattle.std.proofs.Common.{◌≡◌, ◌<◌, ◌≤◌, ◌-◌, vec_len}
use Rattle.std.specs.Io.KnownBytes.{Consumes}
use Rattle.fort_io.proofs.source.read_all.Given as goal

abbrev pub invariant-loop-piece : goal.invariant-loop-piece
invariant-loop-piece g l = record {
  some : 0 < vec_len l.piece;
  sized : vec_len l.piece ≤ 65536;
  within : vec_len l.bytes ≤ l.limit;
  given : Consumes (g.S.Source.rest l.fn.source) (g.S.Source.rest l.source) l.bytes.items;
  quiet : g.S.Source.faults l.source ≡ g.S.Source.faults l.fn.source;
}

abbrev pub decreases-loop-piece : goal.decreases-loop-piece
decreases-loop-piece g l = l.limit - vec_len l.bytes
