-- To believe: how many moves, silent ones apart, and pairs a transducer has that is made of others, so that numbers of 32 bits can be promised.
use Rattle.std.specs.Prelude.{◌≡◌, ◌+◌, length}
use Rattle.fort_transducers.specs.declared.agtt.Agtt.{Agtt}

-- as many as the two together
pub record SumsSizes (first second both : Agtt) : Type 0 where
  pub left_moves : length both.left.moves.items ≡ length first.left.moves.items + length second.left.moves.items
  pub right_moves : length both.right.moves.items ≡ length first.right.moves.items + length second.right.moves.items
  pub pairs : length both.pairs.items ≡ length first.pairs.items + length second.pairs.items

-- as many as before
pub record KeepsSizes (agtt larger : Agtt) : Type 0 where
  pub left_moves : length larger.left.moves.items ≡ length agtt.left.moves.items
  pub right_moves : length larger.right.moves.items ≡ length agtt.right.moves.items
  pub pairs : length larger.pairs.items ≡ length agtt.pairs.items
