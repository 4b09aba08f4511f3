use Rattle.std.proofs.Common.{◌≤◌, ◌+◌, ◌-◌, vec_len, vec_capacity}
use Rattle.fort_sexpr.proofs.TopLaws.{AreTop}
use Rattle.fort_sexpr.proofs.text.nodes.Given as goal

abbrev pub invariant-loop : goal.invariant-loop
invariant-loop l = record {
  top : AreTop l.arena.bytes.items l.top.items l.at l.list (l.count - l.counter);
  room : vec_len l.top + (l.count - l.counter) ≤ vec_capacity l.top;
}
