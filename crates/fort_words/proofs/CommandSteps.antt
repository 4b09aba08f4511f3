-- A command with one more parameter, and the program with one more command.
use Rattle.std.proofs.Common.{◌≡◌, ◌∙◌, ◌+◌, ◌<◌, ◌≤◌, ℕ, List, [], ◌∷◌, true, ap, sym, codes, map, fold, length, take, take_all, get_or}
use Rattle.std.proofs.lemmas.List.{map_more, map-append}
use Rattle.std.proofs.lemmas.List.Sums.{fold_push}
use Rattle.clap.specs.Words.{App, Rule, Text, with_rule, with_subcommand}
use Rattle.clap.specs.Simple.{new_shape}
use Rattle.fort_answers.specs.Commands.{Parameter, commands}
use Rattle.fort_words.specs.CommandLine.{command_app, command_shape, fort, rule_for}
use Rattle.fort_words.specs.RowView.{as_pair, as_parameter, as_parameters, pair_of}
use Rattle.fort_words.specs.declared.row.Parameter.{Parameter as OwnPart}
use Rattle.fort_words.specs.declared.row.Row.{Row}

pub part_more : (name : Text) (parameters : List OwnPart) (i : ℕ) (d : OwnPart) → i < length parameters
    → with_rule (command_app name (as_parameters (take i parameters))) (rule_for (as_parameter (get_or parameters i d))) ≡ command_app name (as_parameters (take (i + 1) parameters))
part_more name parameters i d h =
    ap (λ (rules : List Rule). record (command_app name []) { top = record (new_shape name) { rules = rules } })
    (sym (map-append rule_for (as_parameters (take i parameters)) (as_parameter (get_or parameters i d) ∷ [])))
    ∙ ap (command_app name) (sym (map_more as_parameter parameters i d h))

-- the program without its commands
abbrev pub bare : App
bare = record { top = record (new_shape (codes "fort")) { subcommand_required = true }; subs = [] }

abbrev with_pair : App → Text × List Parameter → App
with_pair app pair = with_subcommand app (command_shape pair.0 pair.1)

-- the program with the commands of these names and parameters
abbrev pub with_pairs : List (Text × List Parameter) → App
with_pairs pairs = fold with_pair bare pairs

pub row_more : (rows : List Row) (i : ℕ) (d : Row) → i < length rows
    → with_subcommand (with_pairs (map as_pair (take i rows))) (command_app (get_or rows i d).name.now (as_parameters (get_or rows i d).parameters.now)).top
    ≡ with_pairs (map as_pair (take (i + 1) rows))
row_more rows i d h =
    sym (fold_push with_pair bare (map as_pair (take i rows)) (as_pair (get_or rows i d))) ∙ ap with_pairs (sym (map_more as_pair rows i d h))

pub all_rows : (rows : List Row) (i : ℕ) → length rows ≤ i → map as_pair rows ≡ map pair_of commands → with_pairs (map as_pair (take i rows)) ≡ fort
all_rows rows i h e = ap (λ rs. with_pairs (map as_pair rs)) (take_all i rows h) ∙ ap with_pairs e
