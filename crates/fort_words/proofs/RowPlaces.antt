-- Where clap's walk stands at a command's level once it has read some items, and what the next words give.
use Rattle.std.proofs.Common.{◌≡◌, ◌∙◌, ◌+◌, ◌≤◌, ℕ, suc, List, [], ◌∷◌, ◌++◌, true, false, refl, sym, map, length, arith, ◌⊎◌, inl, inr}
use Rattle.std.specs.Prelude.{◌==◌, Some, None, find, option_map, slice_get}
use Rattle.std.specs.List.{list_any}
use Rattle.std.proofs.lemmas.Option.{slice_get_within}
use Rattle.clap.specs.Words.{Row, Text}
use Rattle.clap.specs.Walk.{arg_by_id, arg_by_index, has_row}
use Rattle.clap.specs.Simple.{with_index}
use Rattle.fort_answers.specs.Commands.{Command, Number, Parameter, Setting}
use Rattle.fort_answers.specs.CommandGrammar.{Item, Value, Word, dashes, is_named, is_plain, is_under, items_of, parameter_items, with_item, words_among}
use Rattle.fort_words.proofs.Turns.{cases_of, long_word, name_of, plain_tests, some_kinds}
use Rattle.fort_words.proofs.RowRules.{are_distinct, by_id, by_place, most_words, named_called, named_rule, rules, word_by_id, word_rule, words_of}
use Rattle.fort_words.proofs.RowWalk.{Pending, next_place, rows_settled, settles, value_in}
use Rattle.fort_words.proofs.RowItems.{choice_used, row, rows_of, rows_value, rows_word, word_used}
use Rattle.fort_words.proofs.RowOpen.{IsDead, IsOf, IsOpen, dead_named, has_row_named, has_row_next, length_more, open_named, open_word, of_value}

pub record IsLawful (parameters : List Parameter) : Type 0 where
  pub distinct : are_distinct parameters ≡ true
  pub few : length (words_of parameters) ≤ most_words

-- ---- what the words give

pub items_plain : (parameters : List Parameter) (w : Text) (ws : List Text) → is_plain w ≡ true → items_of parameters None (w ∷ ws) ≡ with_item (Word w) (items_of parameters None ws)
unfolding items_of
items_plain parameters w ws p = let d = (plain_tests w p).not_dashes in simp (d, p) refl

pub items_value : (parameters : List Parameter) (name w : Text) (ws : List Text) → is_plain w ≡ true
    → items_of parameters (Some name) (w ∷ ws) ≡ with_item (Value name w) (items_of parameters None ws)
unfolding items_of
items_value parameters name w ws p = simp p refl

pub items_no_value : (parameters : List Parameter) (name w : Text) (ws : List Text) → is_plain w ≡ false → items_of parameters (Some name) (w ∷ ws) ≡ None
unfolding items_of
items_no_value parameters name w ws p = simp p refl

pub items_behind : (parameters : List Parameter) (ws : List Text) → items_of parameters None (dashes ∷ ws) ≡ Some (map Word ws)
unfolding items_of
items_behind parameters ws = refl

pub items_long : (parameters : List Parameter) (z : ℕ) (zs : Text) (ws : List Text) → items_of parameters None (long_word z zs ∷ ws)
    ≡ parameter_items (find (is_named (name_of z zs)) parameters) (value_in z zs) (items_of parameters None ws) (λ name. items_of parameters (Some name) ws)
unfolding items_of
items_long parameters z zs ws = refl

pub items_short : (parameters : List Parameter) (y : ℕ) (rest : Text) (ws : List Text) → (y == 45) ≡ false → items_of parameters None ((45 ∷ y ∷ rest) ∷ ws) ≡ None
unfolding items_of
items_short parameters y rest ws h = simp h refl

pub items_end : (parameters : List Parameter) → items_of parameters None [] ≡ Some []
unfolding items_of
items_end parameters = refl

pub items_end_value : (parameters : List Parameter) (name : Text) → items_of parameters (Some name) [] ≡ None
unfolding items_of
items_end_value parameters name = refl

-- ---- places of the walk

-- where the next word goes
abbrev pub place : List Item → ℕ
place all = suc (length (words_among all))

abbrev pub held_by : Command → List Item → List Row
held_by command all = rows_of all (words_of command.parameters)

abbrev pub IsQuiet : (command : Command) → List Row → Pending → List Item → Type 0
IsQuiet command rows pend all = (settles command rows pend ≡ []) × (rows_settled command rows pend ≡ held_by command all) × IsOpen command.parameters all

abbrev pub IsLoud : (command : Command) → List Row → Pending → List Item → Type 0
IsLoud command rows pend all = (some_kinds (settles command rows pend) ≡ true) × IsDead command all

-- the rows and what is pending hold the items so far, or what is pending comes twice
abbrev pub Stands : (command : Command) → List Row → Pending → List Item → Type 0
Stands command rows pend all = IsQuiet command rows pend all ⊎ IsLoud command rows pend all

module _ (command : Command) (lawful : IsLawful command.parameters) where
  pub next_word : (all : List Item) → arg_by_index (rules command.parameters) (place all) ≡ option_map (word_rule (place all)) (slice_get (words_of command.parameters) (length (words_among all)))
  next_word all = let few = lawful.few in by_place command.parameters 1 (place all) (length (words_among all)) (omega arith) (omega arith)

  word_settles : (i : ℕ) (name t : Text) (rows : List Row) → arg_by_id (rules command.parameters) name ≡ Some (word_rule i name) → has_row name rows ≡ false
      → (settles command rows (Some (name, t ∷ [])) ≡ []) × (rows_settled command rows (Some (name, t ∷ [])) ≡ rows ++ row name t ∷ [])
  word_settles i name t rows own none = (simp (own, none) refl, rw own (word_used i name t rows none))

  pub word_stands : (all : List Item) (name t : Text) → IsOpen command.parameters all → slice_get (words_of command.parameters) (length (words_among all)) ≡ Some name
      → Stands command (held_by command all) (Some (name, t ∷ [])) (all ++ Word t ∷ [])
  word_stands all name t o e =
      let none = has_row_next command.parameters all name lawful.distinct o e in
      let own = word_by_id command.parameters 1 (length (words_among all)) name lawful.distinct e in
      let is = word_settles own.0 name t (held_by command all) own.1 none in
      inl (is.0, is.1 ∙ sym (rows_word all (words_of command.parameters) name t e), open_word command.parameters all name t o e)

  pub choice_by_id : (number : Number) (default : Text) → find (is_named number.name) command.parameters ≡ Some (Setting number default)
      → (i : ℕ) × (arg_by_id (rules command.parameters) number.name ≡ Some (with_index i (named_rule (Setting number default))))
  choice_by_id number default e =
      by_id command.parameters 1 number.name (Setting number default) (named_called command.parameters number.name (Setting number default) lawful.distinct e)

  choice_settles : (i : ℕ) (number : Number) (default t : Text) (rows : List Row)
      → arg_by_id (rules command.parameters) number.name ≡ Some (with_index i (named_rule (Setting number default))) → has_row number.name rows ≡ false
      → (settles command rows (Some (number.name, t ∷ [])) ≡ []) × (rows_settled command rows (Some (number.name, t ∷ [])) ≡ rows ++ row number.name t ∷ [])
  choice_settles i number default t rows own none = (simp (own, none) refl, rw own (choice_used number default t rows none))

  choice_clashes : (i : ℕ) (number : Number) (default t : Text) (rows : List Row)
      → arg_by_id (rules command.parameters) number.name ≡ Some (with_index i (named_rule (Setting number default))) → has_row number.name rows ≡ true
      → some_kinds (settles command rows (Some (number.name, t ∷ []))) ≡ true
  choice_clashes i number default t rows own has = simp (own, has) refl

  pub choice_stands : (all : List Item) (number : Number) (default t : Text) → IsOpen command.parameters all → find (is_named number.name) command.parameters ≡ Some (Setting number default)
      → Stands command (held_by command all) (Some (number.name, t ∷ [])) (all ++ Value number.name t ∷ [])
  choice_stands all number default t o e =
      let own = choice_by_id number default e in
      let held = has_row_named command.parameters all number.name (Setting number default) lawful.distinct o e in
      elim (cases_of (list_any (is_under number.name) all)) [
        | inl has ↦ inr (
          choice_clashes own.0 number default t (held_by command all) own.1 (held ∙ has),
          dead_named command all number.name (Setting number default) (Value number.name t) (of_value number.name t) e has,
        )
        | inr none ↦
            let is = choice_settles own.0 number default t (held_by command all) own.1 (held ∙ none) in
            inl (
              is.0,
              is.1 ∙ sym (rows_value all (words_of command.parameters) number.name t),
              open_named command.parameters all number.name (Setting number default) (Value number.name t) o (of_value number.name t) e none,
            )
      ]

  place_more : (all : List Item) (t : Text) → place all + 1 ≡ place (all ++ Word t ∷ [])
  place_more all t = let more = length_more all (Word t) (t ∷ []) refl in omega arith

  pub place_same : (all : List Item) (name : Text) (item : Item) → IsOf name item → place all ≡ place (all ++ item ∷ [])
  place_same all name item is = let more = length_more all item [] is.no_word in omega arith

  pub place_next : (all : List Item) (t name : Text) → slice_get (words_of command.parameters) (length (words_among all)) ≡ Some name
      → next_place (place all) ≡ place (all ++ Word t ∷ [])
  place_next all t name e =
      let inside = slice_get_within (words_of command.parameters) (length (words_among all)) name e in
      let few = lawful.few in
      let more = place_more all t in omega arith
