-- How a parse's clauses give what the words ask.
use Rattle.std.proofs.Common.{◌≡◌, ◌∙◌, ℕ, zero, suc, List, [], ◌∷◌, Bool, true, false, refl, ap, sym, inl, inr, true≢false}
use Rattle.std.specs.Prelude.{Option, Some, None, find, option_and_then, option_map, slice_get}
use Rattle.std.specs.Str.{bytes_eq}
use Rattle.clap.specs.Words.{App, IsAmong, Kinds, Row, fault_of, is_simple, is_simple_and_free, subcommand_name_of, subcommand_of, subcommand_rows_of}
use Rattle.clap.specs.declared.error.kind.ErrorKind.{ErrorKind}
use Rattle.clap.specs.declared.parser.matches.ArgMatches.{ArgMatches}
use Rattle.clap.proofs.OnLiterals.{clap_on_literals}
use Rattle.fort_words.specs.CommandLine.{fort}
use Rattle.fort_answers.specs.Requests.{Text, Request}
use Rattle.fort_answers.specs.Commands.{Command, commands}
use Rattle.fort_words.specs.Matches.{asked_in, asked_of, read_by, where_faultless}
use Rattle.fort_words.proofs.Turns.{cases_of}
use Rattle.fort_words.proofs.RowRules.{named_as, names_are}

pub fort_is_simple : is_simple fort ≡ true
unfolding clap_on_literals
fort_is_simple = refl

pub fort_is_free : is_simple_and_free fort ≡ true
unfolding clap_on_literals
fort_is_free = refl

-- a parse that succeeds reads what its subcommand's matches ask
pub taken_reads : (app : App) (words : List Text) (found : Option (Text × List Row)) → fault_of app words ≡ [] → found ≡ subcommand_of app words
    → option_and_then asked_in found ≡ read_by app words
unfolding read_by
taken_reads app words found none is =
    ap (option_and_then asked_in) is ∙ sym (ap (λ (kinds : Kinds). where_faultless kinds (option_and_then asked_in (subcommand_of app words))) none)

refused : (kinds : Kinds) (kind : ErrorKind) (read : Option Request) → IsAmong kind kinds → None ≡ where_faultless kinds read
refused [] kind read h = absurd h
refused (k ∷ ks) kind read h = refl

-- a parse that fails by a kind of its own reads nothing
pub refused_reads : (app : App) (words : List Text) (kind : ErrorKind) → IsAmong kind (fault_of app words) → None ≡ read_by app words
unfolding read_by
refused_reads app words kind h = refused (fault_of app words) kind _ h

-- the name and the rows of the subcommand, from what `ArgMatches::subcommand` ensures

firsts : {B : Type 0} (f : B → Text) (g : B → List Row) (o : Option B) → option_map f o ≡ option_map (λ (p : Text × List Row). p.0) (option_map (λ b. (f b, g b)) o)
firsts f g None = refl
firsts f g (Some b) = refl

name_is : (m : ArgMatches) → subcommand_name_of m ≡ option_map (λ (p : Text × List Row). p.0) (subcommand_rows_of m)
name_is m = firsts _ _ _

pair_of : (o : Option (Text × List Row)) (a : Text) (b : List Row) → Some a ≡ option_map (λ (p : Text × List Row). p.0) o
    → Some b ≡ option_map (λ (p : Text × List Row). p.1) o → o ≡ Some (a, b)
pair_of None a b h g = cc
pair_of (Some p) a b h g =
    let first : a ≡ p.0 = cc in
    let second : b ≡ p.1 = cc in rw (first, second) refl

entered_is : (m : ArgMatches) (name : Text) (rows : List Row) → Some name ≡ subcommand_name_of m
    → Some rows ≡ option_map (λ (p : Text × List Row). p.1) (subcommand_rows_of m) → subcommand_rows_of m ≡ Some (name, rows)
entered_is m name rows h g = pair_of _ name rows (h ∙ name_is m) g

-- `asked_in`, by the command of the name

either_way : (a b : Text) (test : Bool) → bytes_eq a b ≡ test → bytes_eq b a ≡ test
either_way a b true e = named_as b a (sym (names_are a b e))
either_way a b false e = elim (cases_of (bytes_eq b a)) [
  | inl h ↦ absurd (true≢false (sym (named_as a b (sym (names_are b a h))) ∙ e))
  | inr h ↦ h
]

-- the tests of a name against the commands in turn: the first k fail, and the next, if any, passes
abbrev pub IsAt : Text → List Command → ℕ → Type 0
IsAt name [] k = Unit {0}
IsAt name (command ∷ rest) zero = bytes_eq name command.name ≡ true
IsAt name (command ∷ rest) (suc k) = (bytes_eq name command.name ≡ false) × IsAt name rest k

named_at : (name : Text) (all : List Command) (k : ℕ) → IsAt name all k → find (λ command. bytes_eq command.name name) all ≡ slice_get all k
named_at name [] k at = refl
named_at name (command ∷ rest) zero at = let here = either_way name command.name true at in rw here refl
named_at name (command ∷ rest) (suc k) at = let other = either_way name command.name false at.0 in rw other (named_at name rest k at.1)

asked_at : (name : Text) (rows : List Row) (k : ℕ) → IsAt name commands k → asked_in (name, rows) ≡ option_and_then (asked_of rows) (slice_get commands k)
unfolding asked_in
asked_at name rows k at = ap (option_and_then (asked_of rows)) (named_at name commands k at)

-- what the command at this place asks is what the matches ask
pub asked_by : (m : ArgMatches) (name : Text) (rows : List Row) (k : ℕ) → Some name ≡ subcommand_name_of m
    → Some rows ≡ option_map (λ (p : Text × List Row). p.1) (subcommand_rows_of m) → IsAt name commands k
    → option_and_then (asked_of rows) (slice_get commands k) ≡ option_and_then asked_in (subcommand_rows_of m)
asked_by m name rows k is has at = sym (ap (option_and_then asked_in) (entered_is m name rows is has) ∙ asked_at name rows k at)
