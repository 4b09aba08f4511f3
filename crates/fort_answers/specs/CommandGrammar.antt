-- To believe: what the words of a command line ask, by the command that they name.
use Rattle.std.specs.Prelude.{◌==◌, ◌&&◌, ℕ, Bool, true, false, not, List, [], ◌∷◌, length, map, drop, find, slice_get, Option, Some, None, count_by, if◌then◌else◌, nat_le, option_and_then, option_map, unwrap_or}
use Rattle.std.specs.List.{after_first, before_first, list_all, list_any}
use Rattle.std.specs.Str.{bytes_eq}
use Rattle.fort_answers.specs.Requests.{Text, Request}
use Rattle.fort_answers.specs.Commands.{Parameter, Flag, Setting, NumberWord, TextWord, Given, Command, commands, set_text, unset_text}

-- ---- single words

-- the word is no flag and not `--`: it does not begin with `-`, or is `-` alone
abbrev pub is_plain : Text → Bool
is_plain [] = true
is_plain (x ∷ []) = true
is_plain (x ∷ y ∷ rest) = not (x == 45)

abbrev pub dashes : Text
dashes = 45 ∷ 45 ∷ []

abbrev pub is_equals : ℕ → Bool
is_equals b = b == 61

-- the name and the value in `NAME=VALUE`, or the name alone
abbrev pub name_and_value : Text → Option (Text × Option Text)
name_and_value [] = None
name_and_value (b ∷ bs) = Some (before_first is_equals (b ∷ bs), if list_any is_equals (b ∷ bs) then Some (after_first is_equals (b ∷ bs)) else None)

-- the same in `--NAME=VALUE` and `--NAME`
abbrev pub flag_in : Text → Option (Text × Option Text)
flag_in [] = None
flag_in (a ∷ []) = None
flag_in (a ∷ b ∷ rest) = if a == 45 && b == 45 then name_and_value rest else None

-- ---- what the words behind a command's name give

pub data Item : Type 0 where
  -- a flag
  Set : (name : Text) → Item
  -- a setting with its value
  Value : (name text : Text) → Item
  -- a word that is neither
  Word : (text : Text) → Item

abbrev pub with_item : Item → Option (List Item) → Option (List Item)
with_item item rest = option_map (λ items. item ∷ items) rest

-- whether `--NAME` means the parameter
abbrev pub is_named : Text → Parameter → Bool
is_named name (Flag own) = bytes_eq own name
is_named name (Setting number default) = bytes_eq number.name name
is_named name (NumberWord number) = false
is_named name (TextWord own) = false

-- by the parameter that is meant and the value in the word, if any; none of this name, and a flag with a value, give nothing; `next` is what the words behind it give, and `awaiting` where the first of them
-- has to be the value that goes under a name
abbrev pub parameter_items : Option Parameter → Option Text → (next : Option (List Item)) → (awaiting : Text → Option (List Item)) → Option (List Item)
parameter_items (Some (Flag name)) None next awaiting = with_item (Set name) next
parameter_items (Some (Setting number default)) (Some text) next awaiting = with_item (Value number.name text) next
parameter_items (Some (Setting number default)) None next awaiting = awaiting number.name
parameter_items _ _ next awaiting = None

abbrev pub flag_items : List Parameter → Option (Text × Option Text) → (next : Option (List Item)) → (awaiting : Text → Option (List Item)) → Option (List Item)
flag_items parameters None next awaiting = None
flag_items parameters (Some flag) next awaiting = parameter_items (find (is_named flag.0) parameters) flag.1 next awaiting

-- in order; behind `--` each is a word; `awaited` is the name under which the first has to be a value, if it has to
unfoldable pub items_of : List Parameter → (awaited : Option Text) → List Text → Option (List Item)
items_of parameters None [] = Some []
items_of parameters (Some name) [] = None
items_of parameters (Some name) (w ∷ ws) = if is_plain w then with_item (Value name w) (items_of parameters None ws) else None
items_of parameters None (w ∷ ws) = if bytes_eq w dashes then Some (map Word ws)
    else (if is_plain w then with_item (Word w) (items_of parameters None ws)
    else flag_items parameters (flag_in w) (items_of parameters None ws) (λ name. items_of parameters (Some name) ws))

-- ---- what is given

abbrev pub is_under : Text → Item → Bool
is_under name (Set own) = bytes_eq own name
is_under name (Value own text) = bytes_eq own name
is_under name (Word text) = false

abbrev pub text_of : Item → Text
text_of (Set name) = set_text
text_of (Value name text) = text
text_of (Word text) = text

abbrev pub words_among : List Item → List Text
words_among [] = []
words_among (Set name ∷ rest) = words_among rest
words_among (Value name text ∷ rest) = words_among rest
words_among (Word text ∷ rest) = text ∷ words_among rest

-- the text of the first item under the name, or else this one
abbrev pub text_under : Text → List Item → Text → Text
text_under name items else_text = unwrap_or (option_map text_of (find (is_under name) items)) else_text

-- what these parameters are given by the items, and by the words that go to them in order
abbrev pub given_by : List Parameter → List Item → (words : List Text) → Given
given_by [] items words name = None
given_by (Flag own ∷ parameters) items words name = if bytes_eq own name then Some (text_under own items unset_text) else given_by parameters items words name
given_by (Setting number default ∷ parameters) items words name =
    if bytes_eq number.name name then Some (text_under number.name items default) else given_by parameters items words name
given_by (NumberWord number ∷ parameters) items words name = if bytes_eq number.name name then slice_get words 0 else given_by parameters items (drop 1 words) name
given_by (TextWord own ∷ parameters) items words name = if bytes_eq own name then slice_get words 0 else given_by parameters items (drop 1 words) name

-- ---- what is asked

abbrev pub is_word : Parameter → Bool
is_word (Flag name) = false
is_word (Setting number default) = false
is_word (NumberWord number) = true
is_word (TextWord name) = true

-- nothing comes twice under the parameter's name
abbrev pub is_not_repeated : List Item → Parameter → Bool
is_not_repeated items (Flag name) = nat_le (count_by (is_under name) items) 1
is_not_repeated items (Setting number default) = nat_le (count_by (is_under number.name) items) 1
is_not_repeated items (NumberWord number) = true
is_not_repeated items (TextWord name) = true

-- no flag and no setting comes twice, and there are as many words as are required
abbrev pub is_complete : List Parameter → List Item → Bool
is_complete parameters items = list_all (is_not_repeated items) parameters && length (words_among items) == count_by is_word parameters

abbrev pub asked_by : Command → List Item → Option Request
asked_by command items =
    if is_complete command.parameters items then command.asks (given_by command.parameters items (words_among items)) else None

-- what the words behind the command's name ask
abbrev pub request_by : Command → List Text → Option Request
request_by command ws = option_and_then (asked_by command) (items_of command.parameters None ws)

abbrev pub command_named : Text → Option Command
command_named word = find (λ command. bytes_eq command.name word) commands

-- the first word is the program's own name
unfoldable pub request_of : List Text → Option Request
request_of [] = None
request_of (name ∷ []) = None
request_of (name ∷ word ∷ ws) = option_and_then (λ command. request_by command ws) (command_named word)
