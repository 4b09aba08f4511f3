use Rattle.std.proofs.Common.{◌≡◌, ◌++◌, ℕ, map, take}
use Rattle.fort_gtt_closure.proofs.added.push_from.Given as goal

abbrev pub invariant-loop-link : goal.invariant-loop-link
invariant-loop-link l = l.moves.items ≡ l.initial.moves.items ++ map (λ (link : ℕ × ℕ). (l.from, link.1)) (take l.link-index l.group)
