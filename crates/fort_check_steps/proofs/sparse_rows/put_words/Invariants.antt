use Rattle.std.proofs.Common.{◌≡◌, ◌+◌, ◌≤◌, ◌++◌, take, vec_len, vec_capacity}
use Rattle.fort_check_steps.specs.SparseWords.{places_from, words_of}
use Rattle.fort_check_steps.proofs.sparse_rows.put_words.Given as goal

abbrev pub invariant-loop-place : goal.invariant-loop-place
invariant-loop-place l = record {
  places : l.places.items ≡ l.initial.places.items ++ places_from 0 (take l.place l.label);
  words : l.words.items ≡ l.initial.words.items ++ words_of (take l.place l.label);
  few_places : vec_len l.places ≤ vec_len l.initial.places + l.place;
  few_words : vec_len l.words ≤ vec_len l.initial.words + l.place;
  places_room : vec_capacity l.places ≡ vec_capacity l.initial.places;
  words_room : vec_capacity l.words ≡ vec_capacity l.initial.words;
}
