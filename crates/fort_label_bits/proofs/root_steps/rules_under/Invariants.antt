use Rattle.std.proofs.Common.{◌≤◌, map, take, length}
use Rattle.std.specs.Prelude.{vec_items}
use Rattle.fort_label_bits.specs.RuleLefts.{AreUnderLefts}
use Rattle.fort_label_bits.proofs.root_steps.rules_under.Given as goal

abbrev pub invariant-loop-k : goal.invariant-loop-k
invariant-loop-k l = record { listed : AreUnderLefts (take l.k l.rules) (map vec_items l.under.items); room : l.lefts ≤ length l.under.items }
