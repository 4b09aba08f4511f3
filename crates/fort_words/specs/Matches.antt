-- Public: what the matches that clap states of the words ask. That they ask what the words' own grammar says is proved; nobody needs to read this for the answers.
use Rattle.std.specs.Prelude.{List, [], ◌∷◌, Option, None, option_and_then}
use Rattle.clap.specs.Words.{App, Kinds, Row, fault_of, first_of, found_of, rows_of, subcommand_of}
use Rattle.clap.specs.declared.parser.matches.ArgMatches.{ArgMatches}
use Rattle.fort_answers.specs.Requests.{Text, Request}
use Rattle.fort_answers.specs.Commands.{Command, Given}
use Rattle.fort_answers.specs.CommandGrammar.{command_named}
use Rattle.fort_words.specs.CommandLine.{fort}

-- the text that the rows have under each name
abbrev pub given_in : List Row → Given
given_in rows name = first_of name rows

-- the same of a subcommand's matches
abbrev pub given_of : ArgMatches → Given
given_of matches = given_in (rows_of (found_of matches))

-- what the rows of the command's matches ask
abbrev pub asked_of : List Row → Command → Option Request
asked_of rows command = command.asks (given_in rows)

-- by the subcommand's name and its rows
unfoldable pub asked_in : Text × List Row → Option Request
asked_in found = option_and_then (asked_of found.1) (command_named found.0)

-- what is read, where the parse finds no fault
abbrev pub where_faultless : Kinds → Option Request → Option Request
where_faultless [] read = read
where_faultless (kind ∷ kinds) read = None

-- what a command line reads from the words
unfoldable pub read_by : App → List Text → Option Request
read_by app words = where_faultless (fault_of app words) (option_and_then asked_in (subcommand_of app words))

-- what the words ask, the program's own name first: clap finds no fault in them, and what is in its matches makes a request
abbrev pub request_in : List Text → Option Request
request_in words = read_by fort words
