-- One turn of clap's walk at a command's level, at each place and for each word.
use Rattle.std.proofs.Common.{◌≡◌, ◌∙◌, ℕ, List, [], ◌∷◌, true, false, refl, codes, inl, inr, min, ◌+◌}
use Rattle.std.specs.Prelude.{◌==◌, Option, Some, None, find, option_map, slice_get, if◌then◌else◌}
use Rattle.std.specs.Option.{option_map_or}
use Rattle.std.specs.Str.{bytes_eq, chars}
use Rattle.clap.specs.Words.{Kinds, Row, Rule, Shape, Text}
use Rattle.clap.specs.Walk.{Held, Walk, idle, option, arg_by_id, arg_by_index, arg_by_long, arg_by_short, settled_rows, used, walked, bundle_met, takes_values}
use Rattle.clap.specs.Faults.{flags_fault, long_fault, react_fault, repeat_fault, settle_fault, turn_fault, walk_fault}
use Rattle.clap.specs.Kinds.{or_else}
use Rattle.clap.specs.Lexer.{has_byte, usize_max}
use Rattle.clap.specs.Simple.{new_shape, with_index}
use Rattle.fort_answers.specs.Requests.{Request}
use Rattle.fort_answers.specs.Commands.{Command, Parameter, Number, Flag, Setting}
use Rattle.fort_answers.specs.CommandGrammar.{dashes, is_named}
use Rattle.fort_words.specs.Matches.{asked_of}
use Rattle.fort_words.proofs.Turns.{PlainTests, cases_of, failed_end, long_word, name_of, read_on, some_kinds, value_of}
use Rattle.fort_words.proofs.RowRules.{by_long, by_short, help_filled, named_rule, rules, word_rule}

-- the level of a command below the program
abbrev pub level : Command → Shape
level command = record (new_shape command.name) { rules = rules command.parameters; disable_help_subcommand = true; is_built = true }

abbrev pub read_from : Command → Walk → List Text → Option Request
read_from command at ws = read_on (level command) (λ rows. asked_of rows command) at ws

-- ---- places

-- an argument that has come, with its values so far
abbrev pub Pending : Type 0
Pending = Option (Text × List Text)

abbrev pub held : List Row → Pending → Held
held rows pend = record { rows = rows; pending = pend; skip = 0 }

-- `position` is where the next word goes
abbrev pub at_word : List Row → Pending → ℕ → Walk
at_word rows pend position = record { held = held rows pend; waiting = idle; position = position; is_trailing = false; stopped = None }

abbrev pub behind : List Row → Pending → ℕ → Walk
behind rows pend position = record (at_word rows pend position) { is_trailing = true }

-- an option has come, and its value is due
abbrev pub at_value : Text → List Row → ℕ → Walk
at_value name rows position = record (at_word rows (Some (name, [])) position) { waiting = option name }

-- the same behind `--`
abbrev pub behind_value : Text → List Row → ℕ → Walk
behind_value name rows position = record (at_value name rows position) { is_trailing = true }

abbrev pub settles : Command → List Row → Pending → Kinds
settles command rows pend = settle_fault (rules command.parameters) false (held rows pend)

abbrev pub rows_settled : Command → List Row → Pending → List Row
rows_settled command rows pend = settled_rows (rules command.parameters) pend rows

abbrev pub next_place : ℕ → ℕ
next_place position = min (position + 1) usize_max

-- ---- faults

pub loud_first : (a b : Kinds) → some_kinds a ≡ true → some_kinds (or_else a b) ≡ true
loud_first [] b e = cc
loud_first (k ∷ ks) b e = refl

pub loud_second : (a b : Kinds) → some_kinds b ≡ true → some_kinds (or_else a b) ≡ true
loud_second [] b e = e
loud_second (k ∷ ks) b e = refl

-- ---- `--`

module _ (command : Command) (rows : List Row) (pend : Pending) (position : ℕ) where
  pub dashes_turn : turn_fault (level command) [] (at_word rows pend position) dashes ≡ []
  dashes_turn = refl

  pub dashes_walked : walked (rules command.parameters) [] (at_word rows pend position) dashes ≡ behind rows pend position
  unfolding walked
  dashes_walked = refl

  -- ---- words

  pub plain_turn : (j : ℕ) (name w : Text) → arg_by_index (rules command.parameters) position ≡ Some (word_rule j name) → PlainTests w
      → turn_fault (level command) [] (at_word rows pend position) w ≡ settles command rows pend
  plain_turn j name w e t = let d = t.not_dashes in let l = t.not_long in let s = t.not_short in
      elim (cases_of (option_map_or (λ q. bytes_eq q.0 name) pend false)) [ inl g ↦ simp (d, l, s, e, g) refl | inr g ↦ simp (d, l, s, e, g) refl ]

  pub plain_walked : (j : ℕ) (name w : Text) → arg_by_index (rules command.parameters) position ≡ Some (word_rule j name) → PlainTests w
      → walked (rules command.parameters) [] (at_word rows pend position) w ≡ at_word (rows_settled command rows pend) (Some (name, w ∷ [])) (next_place position)
  unfolding walked
  plain_walked j name w e t = let d = t.not_dashes in let l = t.not_long in let s = t.not_short in
      elim (cases_of (option_map_or (λ q. bytes_eq q.0 name) pend false)) [ inl g ↦ simp (d, l, s, e, g) refl | inr g ↦ simp (d, l, s, e, g) refl ]

  pub plain_stray : (w : Text) → arg_by_index (rules command.parameters) position ≡ None → PlainTests w
      → some_kinds (turn_fault (level command) [] (at_word rows pend position) w) ≡ true
  plain_stray w e t = let d = t.not_dashes in let l = t.not_long in let s = t.not_short in simp (d, l, s, e) refl

  -- the same behind `--`
  pub behind_turn : (j : ℕ) (name w : Text) → arg_by_index (rules command.parameters) position ≡ Some (word_rule j name)
      → turn_fault (level command) [] (behind rows pend position) w ≡ settles command rows pend
  behind_turn j name w e =
      elim (cases_of (option_map_or (λ q. bytes_eq q.0 name) pend false)) [ inl g ↦ simp (e, g) refl | inr g ↦ simp (e, g) refl ]

  pub behind_walked : (j : ℕ) (name w : Text) → arg_by_index (rules command.parameters) position ≡ Some (word_rule j name)
      → walked (rules command.parameters) [] (behind rows pend position) w ≡ behind (rows_settled command rows pend) (Some (name, w ∷ [])) (next_place position)
  unfolding walked
  behind_walked j name w e =
      elim (cases_of (option_map_or (λ q. bytes_eq q.0 name) pend false)) [ inl g ↦ simp (e, g) refl | inr g ↦ simp (e, g) refl ]

  pub behind_stray : (w : Text) → arg_by_index (rules command.parameters) position ≡ None → some_kinds (turn_fault (level command) [] (behind rows pend position) w) ≡ true
  behind_stray w e = simp e refl

-- ---- `--NAME` and `--NAME=VALUE`

abbrev pub value_in : ℕ → Text → Option Text
value_in z zs = if has_byte 61 (z ∷ zs) then Some (value_of z zs) else None

-- a flag is there at once, and so is an option with its value in the word
abbrev pub flag_kinds : Command → List Row → Pending → Text → Kinds
flag_kinds command rows pend name = or_else (settles command rows pend) (or_else (repeat_fault false name (rows_settled command rows pend)) [])

module _ (command : Command) (rows : List Row) (pend : Pending) (position z : ℕ) (zs : Text) where
  long_found : (parameter : Parameter) → find (is_named (name_of z zs)) command.parameters ≡ Some parameter
      → arg_by_long (rules command.parameters) (name_of z zs) ≡ Some (named_rule parameter)
  long_found parameter e = by_long command.parameters 1 (name_of z zs) ∙ rw e refl

  pub flag_turn : (name : Text) → find (is_named (name_of z zs)) command.parameters ≡ Some (Flag name) → value_in z zs ≡ None
      → turn_fault (level command) [] (at_word rows pend position) (long_word z zs) ≡ or_else (flag_kinds command rows pend name) []
  flag_turn name e v = let found = long_found (Flag name) e in simp (found, v) refl

  pub flag_walked : (name : Text) → find (is_named (name_of z zs)) command.parameters ≡ Some (Flag name) → value_in z zs ≡ None
      → walked (rules command.parameters) [] (at_word rows pend position) (long_word z zs)
      ≡ at_word (used (named_rule (Flag name)) [] (rows_settled command rows pend)) None position
  unfolding walked
  flag_walked name e v = let found = long_found (Flag name) e in simp (found, v) refl

  pub flag_value : (name value : Text) → find (is_named (name_of z zs)) command.parameters ≡ Some (Flag name) → value_in z zs ≡ Some value
      → some_kinds (turn_fault (level command) [] (at_word rows pend position) (long_word z zs)) ≡ true
  flag_value name value e v = let found = long_found (Flag name) e in simp (found, v) refl

  pub choice_turn : (number : Number) (default value : Text) → find (is_named (name_of z zs)) command.parameters ≡ Some (Setting number default)
      → value_in z zs ≡ Some value
      → turn_fault (level command) [] (at_word rows pend position) (long_word z zs) ≡ or_else (flag_kinds command rows pend number.name) []
  choice_turn number default value e v = let found = long_found (Setting number default) e in simp (found, v) refl

  pub choice_walked : (number : Number) (default value : Text) → find (is_named (name_of z zs)) command.parameters ≡ Some (Setting number default)
      → value_in z zs ≡ Some value
      → walked (rules command.parameters) [] (at_word rows pend position) (long_word z zs)
      ≡ at_word (used (named_rule (Setting number default)) (value ∷ []) (rows_settled command rows pend)) None position
  unfolding walked
  choice_walked number default value e v = let found = long_found (Setting number default) e in simp (found, v) refl

  pub choice_waits_turn : (number : Number) (default : Text) → find (is_named (name_of z zs)) command.parameters ≡ Some (Setting number default) → value_in z zs ≡ None
      → turn_fault (level command) [] (at_word rows pend position) (long_word z zs) ≡ or_else (settles command rows pend) []
  choice_waits_turn number default e v = let found = long_found (Setting number default) e in simp (found, v) refl

  pub choice_waits_walked : (number : Number) (default : Text) → find (is_named (name_of z zs)) command.parameters ≡ Some (Setting number default) → value_in z zs ≡ None
      → walked (rules command.parameters) [] (at_word rows pend position) (long_word z zs)
      ≡ at_value number.name (rows_settled command rows pend) position
  unfolding walked
  choice_waits_walked number default e v = let found = long_found (Setting number default) e in simp (found, v) refl

  help_asked : some_kinds (or_else (react_fault (rules command.parameters) false help_filled [] (held rows pend)) []) ≡ true
  help_asked = loud_first _ _ (loud_second (settles command rows pend) _ (refl {a = true}))

  -- help is asked for, or nothing has the name
  pub long_other : find (is_named (name_of z zs)) command.parameters ≡ None
      → some_kinds (turn_fault (level command) [] (at_word rows pend position) (long_word z zs)) ≡ true
  long_other e = elim (cases_of (bytes_eq (codes "help") (name_of z zs))) [
    | inl h ↦
        let found : arg_by_long (rules command.parameters) (name_of z zs) ≡ Some help_filled = by_long command.parameters 1 (name_of z zs) ∙ rw (e, h) refl in
        elim (cases_of (has_byte 61 (z ∷ zs))) [ inl v ↦ simp (found, v) refl | inr v ↦ simp (found, v) help_asked ]
    | inr h ↦
        let found : arg_by_long (rules command.parameters) (name_of z zs) ≡ None = by_long command.parameters 1 (name_of z zs) ∙ rw (e, h) refl in
        simp found refl
  ]

-- ---- `-NAME`: help is asked for, or nothing has the name

module _ (command : Command) (rows : List Row) (pend : Pending) (position y c : ℕ) (rest : Text) (one : (y == 45) ≡ false)
    (first : slice_get (chars (y ∷ rest)) 0 ≡ Some c) where
  pub short_loud : some_kinds (turn_fault (level command) [] (at_word rows pend position) (45 ∷ y ∷ rest)) ≡ true
  unfolding flags_fault bundle_met
  short_loud = elim (cases_of (104 == c)) [
    | inl h ↦
        let found : arg_by_short (rules command.parameters) c ≡ Some help_filled = by_short command.parameters 1 c ∙ rw h refl in
        simp (one, first, found) (loud_first _ _ (loud_first _ _ (loud_second (settles command rows pend) _ (refl {a = true}))))
    | inr h ↦
        let found : arg_by_short (rules command.parameters) c ≡ None = by_short command.parameters 1 c ∙ rw h refl in
        simp (one, first, found) (refl {a = true})
  ]

-- ---- where a value is due

module _ (command : Command) (name : Text) (number : Number) (default : Text) (j : ℕ)
    (own : arg_by_id (rules command.parameters) name ≡ Some (with_index j (named_rule (Setting number default)))) (rows : List Row) (position : ℕ) where
  due_loud : some_kinds (settles command rows (Some (name, []))) ≡ true
  due_loud = simp own refl

  pub value_turn : (w : Text) → PlainTests w → turn_fault (level command) [] (at_value name rows position) w ≡ []
  value_turn w t = let d = t.not_dashes in let l = t.not_long in let s = t.not_short in simp (d, l, s) refl

  pub value_walked : (w : Text) → bytes_eq name number.name ≡ true → PlainTests w
      → walked (rules command.parameters) [] (at_value name rows position) w ≡ at_word rows (Some (name, w ∷ [])) position
  unfolding walked
  value_walked w same t = let d = t.not_dashes in let l = t.not_long in let s = t.not_short in simp (d, l, s, own, same) refl

  -- no flag may come
  long_loud : (found : Option Rule) (v : Option Text) → some_kinds (long_fault (rules command.parameters) false found v (held rows (Some (name, [])))) ≡ true
  long_loud None v = refl
  long_loud (Some a) None = elim (cases_of (takes_values a)) [ inl t ↦ rw t due_loud | inr t ↦ rw t (loud_first _ _ due_loud) ]
  long_loud (Some a) (Some v) = elim (cases_of (takes_values a)) [ inl t ↦ rw t (loud_first _ _ due_loud) | inr t ↦ rw t refl ]

  pub value_long : (z : ℕ) (zs : Text) → some_kinds (turn_fault (level command) [] (at_value name rows position) (long_word z zs)) ≡ true
  value_long z zs = loud_first _ _ (long_loud (arg_by_long (rules command.parameters) (name_of z zs)) (value_in z zs))

  pub value_short : (y c : ℕ) (rest : Text) → (y == 45) ≡ false → slice_get (chars (y ∷ rest)) 0 ≡ Some c
      → some_kinds (turn_fault (level command) [] (at_value name rows position) (45 ∷ y ∷ rest)) ≡ true
  unfolding flags_fault bundle_met
  value_short y c rest one first = elim (cases_of (104 == c)) [
    | inl h ↦
        let found : arg_by_short (rules command.parameters) c ≡ Some help_filled = by_short command.parameters 1 c ∙ rw h refl in
        simp (one, first, found) (loud_first _ _ (loud_first _ _ (loud_first _ _ due_loud)))
    | inr h ↦
        let found : arg_by_short (rules command.parameters) c ≡ None = by_short command.parameters 1 c ∙ rw h refl in
        simp (one, first, found) (refl {a = true})
  ]

  pub value_dashes : turn_fault (level command) [] (at_value name rows position) dashes ≡ []
  value_dashes = refl

  pub value_dashes_walked : walked (rules command.parameters) [] (at_value name rows position) dashes ≡ behind_value name rows position
  unfolding walked
  value_dashes_walked = refl

  -- behind `--` nothing is a value
  pub behind_value_loud : (w : Text) (next : Option Text) → arg_by_index (rules command.parameters) position ≡ option_map (word_rule position) next
      → some_kinds (turn_fault (level command) [] (behind_value name rows position) w) ≡ true
  behind_value_loud w None e = simp e refl
  behind_value_loud w (Some word) e = elim (cases_of (bytes_eq name word)) [ inl g ↦ simp (e, g) due_loud | inr g ↦ simp (e, g) due_loud ]

  pub value_end : read_from command (at_value name rows position) [] ≡ None
  unfolding walk_fault
  value_end = failed_end (settles command rows (Some (name, []))) _ _ due_loud

  pub behind_value_end : read_from command (behind_value name rows position) [] ≡ None
  unfolding walk_fault
  behind_value_end = failed_end (settles command rows (Some (name, []))) _ _ due_loud
