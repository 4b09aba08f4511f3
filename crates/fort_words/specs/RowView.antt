-- Inside: the rows of the program's table, as the commands' own.
use Rattle.std.specs.Prelude.{List, map}
use Rattle.fort_answers.specs.Requests.{Text}
use Rattle.fort_answers.specs.Commands.{Number, Parameter, Flag, Setting, NumberWord, TextWord, Command}
use Rattle.fort_words.specs.declared.row.Number.{Number as OwnNumber}
use Rattle.fort_words.specs.declared.row.Parameter.{Parameter as OwnParameter}
use Rattle.fort_words.specs.declared.row.Parameter.TheVariants as own
use Rattle.fort_words.specs.declared.row.Row.{Row}

abbrev pub as_number : OwnNumber → Number
as_number n = record { name = n.name.now; low = n.low; high = n.high }

abbrev pub as_parameter : OwnParameter → Parameter
as_parameter (own.Flag name) = Flag name.now
as_parameter (own.Setting number default) = Setting (as_number number) default.now
as_parameter (own.NumberWord number) = NumberWord (as_number number)
as_parameter (own.TextWord name) = TextWord name.now

abbrev pub as_parameters : List OwnParameter → List Parameter
as_parameters = map as_parameter

-- a row's name and parameters
abbrev pub as_pair : Row → Text × List Parameter
as_pair row = (row.name.now, as_parameters row.parameters.now)

abbrev pub pair_of : Command → Text × List Parameter
pair_of command = (command.name, command.parameters)
