use Rattle.std.proofs.Common.{◌≡◌, ℕ, ◌<◌, [], get_or, length, false}
use Rattle.fort_tables.specs.Labels.{final_by}
use Rattle.fort_explore.proofs.table.finals_of.Given as goal

abbrev pub invariant-loop-q : goal.invariant-loop-q
invariant-loop-q g l = record {
  count : length l.finals.items ≡ l.q;
  finals : (q : ℕ) → q < l.q → get_or l.finals.items q false ≡ final_by (g.L.Labeller.column_count l.labeller) (g.L.Labeller.accepting l.labeller) (get_or l.labels.labels q []);
}
