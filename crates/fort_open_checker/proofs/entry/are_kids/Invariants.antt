use Rattle.std.proofs.Common.{◌≡◌, ℕ, ◌<◌, length, get_or}
use Rattle.fort_tables.specs.Tuples.{kid_presence}
use Rattle.fort_open_checker.proofs.entry.are_kids.Given as goal

abbrev pub invariant-loop-j : goal.invariant-loop-j
invariant-loop-j l = (i : ℕ) → i < l.j → (get_or l.kids i 0 < length l.presences) × (get_or l.presences (get_or l.kids i 0) 0 ≡ kid_presence l.sig l.symbol i)
