use Rattle.std.proofs.Common.{◌≡◌, ℕ, ◌<◌, [], get_or, length}
use Rattle.fort_tables.specs.Products.{state_at}
use Rattle.fort_products.proofs.words.states_at.Given as goal

abbrev pub invariant-loop-j : goal.invariant-loop-j
invariant-loop-j l = record {
  size : length l.states ≡ 8;
  done : (k : ℕ) → k < l.j → get_or l.states k 0 ≡ state_at l.at (get_or l.rows.labels (get_or l.row.kids k 0) []);
}
