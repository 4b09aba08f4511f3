use Rattle.std.proofs.Common.{ℕ, ◌<◌, length, get_or, None}
use Rattle.std.specs.Prelude.{IfSome}
use Rattle.fort_open_checker.proofs.entry.are_symbols.Given as goal

abbrev pub invariant-loop-k : goal.invariant-loop-k
invariant-loop-k l = (i : ℕ) → i < l.k → IfSome (get_or l.columns i None) (λ g. g < length l.sig)
