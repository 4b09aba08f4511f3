use Rattle.std.proofs.Common.{◌≡◌, map, take}
use Rattle.clap.specs.Words.{app_of}
use Rattle.fort_words.specs.RowView.{as_pair}
use Rattle.fort_words.proofs.CommandSteps.{with_pairs}
use Rattle.fort_words.proofs.command.fort_command.Given as goal

-- the program has the commands so far
abbrev pub invariant-loop-row : goal.invariant-loop-row
invariant-loop-row l = app_of l.command ≡ with_pairs (map as_pair (take l.row-index l.row-items))
