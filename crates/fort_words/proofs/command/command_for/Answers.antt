use Rattle.std.proofs.Common.{◌≡◌, ◌∙◌, false, ap₂, refl}
use Rattle.clap.specs.Words.{with_rule}
use Rattle.fort_words.proofs.CommandSteps.{part_more}
use Rattle.fort_words.proofs.command.command_for.Goals as goal

pub loop-parameter-preserved : goal.loop-parameter-preserved
loop-parameter-preserved c =
    let local : c.arg_for.result.global ≡ false = c.arg_for.ensures.1 in (
      c.in_ok-command.ensures.shape local ∙ ap₂ with_rule c.loop-parameter.invariant.0 c.arg_for.ensures.0
          ∙ part_more c.args.row.now.name.now c.args.row.now.parameters.now c.loop-parameter.parameter-index _ c.loop-parameter-test.true,
      c.in_ok-command.ensures.globals ∙ rw (c.loop-parameter.invariant.1, local) refl,
    )
