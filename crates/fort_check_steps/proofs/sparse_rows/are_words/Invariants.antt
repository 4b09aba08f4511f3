use Rattle.std.proofs.Common.{◌≤◌, ◌↔◌, drop, length}
use Rattle.fort_check_steps.specs.SparseWords.{HasWords}
use Rattle.fort_check_steps.proofs.LeftWords.{HasWordsFrom}
use Rattle.fort_check_steps.proofs.sparse_rows.are_words.Given as goal

abbrev pub invariant-loop-place : goal.invariant-loop-place
invariant-loop-place l = record {
  few : l.next ≤ length l.words;
  left : HasWords l.label l.places l.words ↔ HasWordsFrom l.place (drop l.place l.label) (drop l.next l.places) (drop l.next l.words);
}
