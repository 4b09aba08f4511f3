use Rattle.std.proofs.Common.{◌∙◌, ap, ap₂}
use Rattle.clap.specs.Words.{App, Shape, with_subcommand}
use Rattle.fort_words.proofs.CommandSteps.{all_rows, row_more}
use Rattle.fort_words.proofs.command.fort_command.Goals as goal

abbrev top_of : App → Shape
top_of a = a.top

pub loop-row-preserved : goal.loop-row-preserved
loop-row-preserved c =
    c.in_ok-command.ensures.shape c.in_ok-command_for.ensures.1 ∙ ap₂ with_subcommand c.loop-row.invariant (ap top_of c.in_ok-command_for.ensures.0)
    ∙ row_more c.rows-row-items.result.now c.loop-row.row-index _ c.loop-row-test.true

pub returns : goal.returns
returns c = c.loop-row.invariant ∙ all_rows c.rows-row-items.result.now c.loop-row.row-index c.loop-row-test.false c.rows-row-items.ensures
