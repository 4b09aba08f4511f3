use Rattle.std.proofs.Common.{◌≡◌, List, length, vec_capacity}
use Rattle.fort_tables.specs.Entries.{Entry}
use Rattle.fort_check_steps.proofs.GuessLaws.{IsAfterGuess}
use Rattle.fort_check_steps.specs.StateLabelsView.{IsAsSpacious}
use Rattle.fort_check_steps.proofs.quick.make_states.Given as goal

abbrev pub invariant-targets : goal.invariant-targets
invariant-targets g l = record {
  after : (es : List Entry) × IsAfterGuess (g.R.LocalRule.rule l.rule) l.targets l.place es l.rows.labels l.presences.items l.entries.last;
  signature : l.entries.signature ≡ l.sig;
  columns : l.entries.columns ≡ (g.R.LocalRule.rule l.rule).columns;
  width : l.rows.width ≡ g.R.LocalRule.word_count l.rule;
  words : length l.out ≡ g.R.LocalRule.word_count l.rule;
  room : l.rows.room ≡ l.initial.rows.room;
  spaces : IsAsSpacious l.initial.rows.spaces l.rows.spaces;
  spare : vec_capacity l.presences ≡ vec_capacity l.initial.presences;
}
