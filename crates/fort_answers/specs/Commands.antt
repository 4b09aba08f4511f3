-- To believe: the commands: what stands behind each one's name on a command line, and what it then asks.
use Rattle.std.specs.Prelude.{ℕ, Bool, false, List, [], ◌∷◌, Option, codes, option_and_then, option_map}
use Rattle.std.specs.Option.{option_map_or}
use Rattle.std.specs.Str.{bytes_eq}
use Rattle.fort_answers.specs.Requests.{number_in, Text, Options, Bounds, Family, Request, Decide, Witness, Check, Sample, Solutions, Confirm, Synth}

-- ---- what can stand there

-- the numbers from low to high, by the name under which one is given; nobody types the name of a word
pub record Number : Type 0 where
  pub name : Text
  pub low : ℕ
  pub high : ℕ

pub data Parameter : Type 0 where
  -- `--NAME`
  Flag : (name : Text) → Parameter
  -- `--NAME N`, and the text of N where it is left out
  Setting : (number : Number) (default : Text) → Parameter
  -- `N`, which is required
  NumberWord : (number : Number) → Parameter
  -- a text, which is required
  TextWord : (name : Text) → Parameter

-- the text that is given under each name, and none under a name that no parameter has; under a flag's `true` or `false`
abbrev pub Given : Type 0
Given = Text → Option Text

abbrev pub set_text : Text
set_text = codes "true"

abbrev pub unset_text : Text
unset_text = codes "false"

-- a command's name, its parameters, of which words are told apart by their order, and what it asks by what is given; a number that is
-- given is read by `number_given`, which is where its range counts
pub record Command : Type 0 where
  pub name : Text
  pub parameters : List Parameter
  pub asks : Given → Option Request

-- ---- the parameters

-- the most states of a part of the formula
abbrev pub states : Number
states = record { name = codes "states"; low = 1; high = 1000000 }

abbrev pub default_states : Text
default_states = codes "10000"

abbrev pub reduce_name : Text
reduce_name = codes "reduce"

abbrev pub certificate_name : Text
certificate_name = codes "certificate"

abbrev pub formula_name : Text
formula_name = codes "formula"

-- the size of a made problem
abbrev pub count : Number
count = record { name = codes "count"; low = 1; high = 64 }

-- how high the terms of solutions may be
abbrev pub height : Number
height = record { name = codes "height"; low = 0; high = 64 }

-- how many solutions are wanted
abbrev pub most : Number
most = record { name = codes "most"; low = 1; high = 1000 }

abbrev pub default_most : Text
default_most = codes "1000"

-- how many rules the systems of a family have
abbrev pub rule_count : Number
rule_count = record { name = codes "rules"; low = 1; high = 4 }

-- how high the sides of its rules may be
abbrev pub side_height : Number
side_height = record { name = codes "height"; low = 0; high = 2 }

-- ---- what is asked

abbrev pub number_given : Number → Given → Option ℕ
number_given number given = option_and_then (number_in number.low number.high) (given number.name)

abbrev pub is_set : Text → Given → Bool
is_set name given = option_map_or (λ text. bytes_eq text set_text) (given name) false

abbrev pub options_given : Given → Option Options
options_given given = option_map (λ n. record { states = n; reduces = is_set reduce_name given }) (number_given states given)

abbrev pub decide_asked : Given → Option Request
decide_asked given = option_and_then (λ o. option_map (Decide o (is_set certificate_name given)) (given formula_name)) (options_given given)

abbrev pub witness_asked : Given → Option Request
witness_asked given = option_and_then (λ o. option_map (Witness o (is_set certificate_name given)) (given formula_name)) (options_given given)

abbrev pub check_asked : Given → Option Request
check_asked given = option_map Check (given formula_name)

abbrev pub sample_asked : Given → Option Request
sample_asked given = option_map Sample (number_given count given)

abbrev pub bounds_given : Given → Option Bounds
bounds_given given =
    option_and_then (λ h. option_map (λ m. record { height = h; most = m }) (number_given most given)) (number_given height given)

abbrev pub solutions_asked : Given → Option Request
solutions_asked given =
    option_and_then (λ o. option_and_then (λ b. option_map (Solutions o b) (given formula_name)) (bounds_given given)) (options_given given)

abbrev pub confirm_asked : Given → Option Request
confirm_asked given = option_map Confirm (given formula_name)

abbrev pub family_given : Given → Option Family
family_given given =
    option_and_then (λ n. option_map (λ h. record { count = n; height = h }) (number_given side_height given)) (number_given rule_count given)

abbrev pub synth_asked : Given → Option Request
synth_asked given =
    option_and_then (λ o. option_and_then (λ b. option_map (Synth o b) (given formula_name)) (family_given given)) (options_given given)

-- ---- the commands

-- `decide [--states N] [--reduce] [--certificate] FORMULA`
abbrev pub decide : Command
decide = record {
  name = codes "decide";
  parameters = Setting states default_states ∷ Flag reduce_name ∷ Flag certificate_name ∷ TextWord formula_name ∷ [];
  asks = decide_asked;
}

-- `witness [--states N] [--reduce] [--certificate] FORMULA`
abbrev pub witness : Command
witness = record {
  name = codes "witness";
  parameters = Setting states default_states ∷ Flag reduce_name ∷ Flag certificate_name ∷ TextWord formula_name ∷ [];
  asks = witness_asked;
}

-- `check FORMULA`
abbrev pub check : Command
check = record { name = codes "check"; parameters = TextWord formula_name ∷ []; asks = check_asked }

-- `sample N`
abbrev pub sample : Command
sample = record { name = codes "sample"; parameters = NumberWord count ∷ []; asks = sample_asked }

-- `solutions [--states N] [--most M] H FORMULA`
abbrev pub solutions : Command
solutions = record {
  name = codes "solutions";
  parameters = Setting states default_states ∷ Setting most default_most ∷ NumberWord height ∷ TextWord formula_name ∷ [];
  asks = solutions_asked;
}

-- `confirm FORMULA`
abbrev pub confirm : Command
confirm = record { name = codes "confirm"; parameters = TextWord formula_name ∷ []; asks = confirm_asked }

-- `synth [--states N] RULES HEIGHT FORMULA`
abbrev pub synth : Command
synth = record {
  name = codes "synth";
  parameters = Setting states default_states ∷ NumberWord rule_count ∷ NumberWord side_height ∷ TextWord formula_name ∷ [];
  asks = synth_asked;
}

abbrev pub commands : List Command
commands = decide ∷ witness ∷ check ∷ sample ∷ solutions ∷ confirm ∷ synth ∷ []
