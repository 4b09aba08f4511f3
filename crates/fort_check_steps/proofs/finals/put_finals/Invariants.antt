use Rattle.std.proofs.Common.{◌≡◌, map, take, vec_capacity}
use Rattle.fort_tables.specs.Labels.{final_by}
use Rattle.fort_check_steps.proofs.finals.put_finals.Given as goal

abbrev pub invariant-loop-q : goal.invariant-loop-q
invariant-loop-q g l = record {
  finals : l.finals.items ≡ map (final_by (g.R.LocalRule.rule l.rule).columns (g.R.LocalRule.accepting l.rule)) (take l.q l.rows.labels);
  spare : vec_capacity l.finals ≡ vec_capacity l.initial.finals;
}
