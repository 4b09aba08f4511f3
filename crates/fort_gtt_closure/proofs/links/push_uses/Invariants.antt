use Rattle.std.proofs.Common.{◌≡◌, ℕ, ◌<◌, take, length}
use Rattle.std.specs.Prelude.{Contains}
use Rattle.fort_gtt_closure.specs.Groups.{lists, group}
use Rattle.fort_gtt_closure.proofs.links.push_uses.Given as goal

abbrev pub invariant-loop-kid : goal.invariant-loop-kid
invariant-loop-kid l = record {
  count : length (lists l.groups) ≡ length (lists l.initial.groups);
  kept : (state : ℕ) (other : ℕ × ℕ) → Contains (group l.initial.groups state) other → Contains (group l.groups state) other;
  added : (state : ℕ) → Contains (take l.kid-index l.kids) state → state < length (lists l.initial.groups) → Contains (group l.groups state) l.pair;
}
