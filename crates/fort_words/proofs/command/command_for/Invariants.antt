use Rattle.std.proofs.Common.{◌≡◌, false, take}
use Rattle.clap.specs.Words.{app_of}
use Rattle.clap.specs.declared.builder.command.Command.TheViews.{out-Command as fields_of}
use Rattle.fort_words.specs.CommandLine.{command_app}
use Rattle.fort_words.specs.RowView.{as_parameters}
use Rattle.fort_words.proofs.command.command_for.Given as goal

-- the command has the parameters so far
abbrev pub invariant-loop-parameter : goal.invariant-loop-parameter
invariant-loop-parameter l = (app_of l.command ≡ command_app l.row.name.now (as_parameters (take l.parameter-index l.row.parameters.now))) × ((fields_of l.command).has_globals ≡ false)
