-- To believe: targets that an exploration lists are those of its table, in the order of the entries; they are listed exactly where they are asked for.
use Rattle.std.specs.Prelude.{◌≡◌, Bool, IfSome, is_some}
use Rattle.fort_explore.specs.declared.table.Explored.{Explored}

pub record AreListedTargets (lists : Bool) (x : Explored) : Type 0 where
  pub all : IfSome x.targets (λ l. l.items ≡ x.table.targets)
  pub asked : is_some x.targets ≡ lists
