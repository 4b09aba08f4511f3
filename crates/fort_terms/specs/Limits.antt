-- To believe: the limit of the rules of a system, in all its indices together.
use Rattle.std.specs.Prelude.{ℕ}

abbrev pub most_system_rules : ℕ
most_system_rules = 8192
