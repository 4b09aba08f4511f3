use Rattle.std.proofs.Common.{◌≡◌, take}
use Rattle.std.specs.List.{flat_map}
use Rattle.fort_projection_keys.specs.ProjectionViews.{part_key}
use Rattle.fort_projection_keys.proofs.parts.write_parts.Given as goal

abbrev pub invariant-loop-k : goal.invariant-loop-k
invariant-loop-k g l = l.words.items ≡ flat_map (part_key (g.T.Table.table l.body) (g.T.TableClasses.leader_in l.body) l.column l.both l.presence l.label) (take l.k l.parts)
