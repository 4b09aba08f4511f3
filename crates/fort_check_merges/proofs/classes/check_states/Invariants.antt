use Rattle.std.proofs.Common.{◌≡◌, ℕ, ◌<◌, vec_capacity}
use Rattle.fort_tables.specs.MergeOutcomes.{IsClassAt}
use Rattle.fort_check_merges.specs.GivenMerges.{table_in}
use Rattle.fort_check_merges.specs.Leaders.{AreLeadersTo}
use Rattle.fort_check_merges.proofs.classes.check_states.Given as goal

abbrev pub invariant-states : goal.invariant-states
invariant-states l = record {
  right : (i : ℕ) → i < l.q → IsClassAt (table_in l.given) l.given.classes.now i;
  leaders : AreLeadersTo l.given.classes.now l.q l.leaders.items;
  capacity : vec_capacity l.leaders ≡ vec_capacity l.initial.leaders;
}
