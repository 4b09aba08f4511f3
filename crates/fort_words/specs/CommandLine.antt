-- Public: the program's command line, in the words of clap's own specs. That the words on it ask what their own grammar says is proved; nobody needs to read this for the answers.
use Rattle.std.specs.Prelude.{List, [], ◌∷◌, map, true, false, Some, codes}
use Rattle.clap.specs.Words.{App, Rule, Shape, new_rule}
use Rattle.clap.specs.Simple.{new_shape}
use Rattle.clap.specs.declared.builder.ArgAction.TheVariants.{SetTrue}
use Rattle.fort_answers.specs.Requests.{Text}
use Rattle.fort_answers.specs.Commands.{Parameter, Flag, Setting, NumberWord, TextWord, Command, commands}

-- a word, which is required
abbrev pub word : Text → Rule
word name = record (new_rule name) { required = true }

abbrev pub rule_for : Parameter → Rule
rule_for (Flag name) = record (new_rule name) { long = Some name; action = Some SetTrue }
rule_for (Setting number default) = record (new_rule number.name) { long = Some number.name; defaults = default ∷ [] }
rule_for (NumberWord number) = word number.name
rule_for (TextWord name) = word name

-- a command by its name and its parameters
abbrev pub command_shape : Text → List Parameter → Shape
command_shape name parameters = record (new_shape name) { rules = map rule_for parameters }

abbrev pub command_app : Text → List Parameter → App
command_app name parameters = record { top = command_shape name parameters; subs = [] }

abbrev pub shape_for : Command → Shape
shape_for command = command_shape command.name command.parameters

-- the program with these commands, of which one is required
abbrev pub program : List Command → App
program subcommands = record {
  top = record (new_shape (codes "fort")) { is_leaf = false; subcommand_required = true };
  subs = map shape_for subcommands;
}

abbrev pub fort : App
fort = program commands
