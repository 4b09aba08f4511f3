-- The words behind a command's name ask what their own grammar says.
use Rattle.std.proofs.Common.{◌≡◌, ◌∙◌, ℕ, List, [], ◌∷◌, ◌++◌, true, false, refl, ap, ap₂, subst, sym, map, length, append-nil, append_assoc, inl, inr}
use Rattle.std.specs.Prelude.{◌==◌, Option, Some, None, find, fold, option_map, slice_get}
use Rattle.std.specs.List.{list_any}
use Rattle.std.specs.Str.{chars}
use Rattle.std.proofs.lemmas.Bool.Decides.{Decides-eqb}
use Rattle.clap.specs.Words.{Kinds, Row, Text}
use Rattle.clap.specs.Walk.{Walk, has_row, used, walked, with_default}
use Rattle.clap.specs.Faults.{check_fault, defaults_fault, turn_fault, walk_fault}
use Rattle.clap.specs.Kinds.{or_else}
use Rattle.fort_answers.specs.Commands.{Command, Number, Parameter, Flag, Setting, NumberWord, TextWord, set_text}
use Rattle.fort_answers.specs.CommandGrammar.{Item, Set, Value, Word, asked_by, dashes, is_named, is_plain, is_under, items_of, parameter_items, request_by, with_item, words_among}
use Rattle.fort_words.specs.Matches.{asked_of, where_faultless}
use Rattle.fort_words.proofs.Turns.{AreWords, IsWord, cases_of, failed_end, found_passes, goes_on, long_word, name_of, plain_tests, some_kinds, stops}
use Rattle.fort_words.proofs.RowRules.{parameter_name, named_as, named_rule, names_are, rules, word_rule, words_of}
use Rattle.fort_words.proofs.RowWalk.{Pending, at_value, at_word, behind, behind_value, flag_kinds, level, loud_first, next_place, read_from, rows_settled, settles, value_in}
use Rattle.fort_words.proofs.RowWalk as walk
use Rattle.fort_words.proofs.RowItems.{choice_used, flag_used, row, rows_set, rows_value}
use Rattle.fort_words.proofs.RowOpen.{IsOf, IsOpen, after, after_dead, after_more, dead_more, dead_named, dead_word, has_row_named, open_first, open_named, of_set, of_value}
use Rattle.fort_words.proofs.RowPlaces.{IsLawful, Stands, place, held_by, items_plain, items_value, items_no_value, items_behind, items_long, items_short, items_end, items_end_value, next_word, word_stands, choice_by_id, choice_stands, place_same, place_next}
use Rattle.fort_words.proofs.RowEnd.{end_is, read_at_end}

module _ (command : Command) (lawful : IsLawful command.parameters) where
  -- ---- steps

  step : (at next : Walk) (word : Text) (ws : List Text) → turn_fault (level command) [] at word ≡ [] → walked (rules command.parameters) [] at word ≡ next
      → read_from command at (word ∷ ws) ≡ read_from command next ws
  step at next word ws e f = goes_on (level command) (λ rows. asked_of rows command) at next word ws e f

  stop : (at : Walk) (word : Text) (ws : List Text) → some_kinds (turn_fault (level command) [] at word) ≡ true → read_from command at (word ∷ ws) ≡ None
  stop at word ws e = stops (level command) (λ rows. asked_of rows command) at word ws e

  no_more : (all : List Item) → asked_by command all ≡ asked_by command (all ++ [])
  no_more all = ap (asked_by command) (sym (append-nil all))

  one_more : (all : List Item) (x : Item) (more : List Item) → asked_by command ((all ++ x ∷ []) ++ more) ≡ asked_by command (all ++ (x ∷ more))
  one_more all x more = ap (asked_by command) (append_assoc all (x ∷ []) more)

  -- ---- the end

  word_end : (rows : List Row) (pend : Pending) (next : List Row) (position : ℕ) → settles command rows pend ≡ [] → rows_settled command rows pend ≡ next
      → read_from command (at_word rows pend position) [] ≡ read_at_end command next
  unfolding walk_fault
  word_end rows pend next position e r =
      let settled = rows_settled command rows pend in
      ap (λ (ks : Kinds). where_faultless (or_else ks (or_else (defaults_fault settled (rules command.parameters)) (check_fault (level command) (fold with_default settled (rules command.parameters)) false)))
      (asked_of (fold with_default settled (rules command.parameters)) command)) e
      ∙ ap (λ (rs : List Row). read_at_end command rs) r

  behind_end : (rows : List Row) (pend : Pending) (next : List Row) (position : ℕ) → settles command rows pend ≡ [] → rows_settled command rows pend ≡ next
      → read_from command (behind rows pend position) [] ≡ read_at_end command next
  unfolding walk_fault
  behind_end rows pend next position e r = word_end rows pend next position e r

  word_end_loud : (rows : List Row) (pend : Pending) (position : ℕ) → some_kinds (settles command rows pend) ≡ true
      → read_from command (at_word rows pend position) [] ≡ None
  unfolding walk_fault
  word_end_loud rows pend position q = failed_end (settles command rows pend) _ _ q

  behind_end_loud : (rows : List Row) (pend : Pending) (position : ℕ) → some_kinds (settles command rows pend) ≡ true
      → read_from command (behind rows pend position) [] ≡ None
  unfolding walk_fault
  behind_end_loud rows pend position q = failed_end (settles command rows pend) _ _ q

  -- ---- behind `--`

  abbrev Behind : List Text → Type 0
  Behind ws = (rows : List Row) (pend : Pending) (all : List Item) → Stands command rows pend all
      → read_from command (behind rows pend (place all)) ws ≡ asked_by command (all ++ map Word ws)

  behind_word : (w : Text) (ws : List Text) (rows : List Row) (pend : Pending) (all : List Item) (next : Option Text)
      → slice_get (words_of command.parameters) (length (words_among all)) ≡ next
      → Behind ws → Stands command rows pend all → read_from command (behind rows pend (place all)) (w ∷ ws) ≡ asked_by command (all ++ map Word (w ∷ ws))
  behind_word w ws rows pend all None e r st =
      stop (behind rows pend (place all)) w ws (walk.behind_stray command rows pend (place all) w (next_word command lawful all ∙ ap (option_map (word_rule (place all))) e))
      ∙ sym (dead_word command all w e (map Word ws)) ∙ one_more all (Word w) (map Word ws)
  behind_word w ws rows pend all (Some name) e r (inr l) =
      let found = next_word command lawful all ∙ ap (option_map (word_rule (place all))) e in
      stop (behind rows pend (place all)) w ws (ap some_kinds (walk.behind_turn command rows pend (place all) (place all) name w found) ∙ l.0)
      ∙ sym (l.1 (Word w ∷ map Word ws))
  behind_word w ws rows pend all (Some name) e r (inl q) =
      let found = next_word command lawful all ∙ ap (option_map (word_rule (place all))) e in
      step (behind rows pend (place all)) (behind (rows_settled command rows pend) (Some (name, w ∷ [])) (next_place (place all))) w ws
      (walk.behind_turn command rows pend (place all) (place all) name w found ∙ q.0) (walk.behind_walked command rows pend (place all) (place all) name w found)
      ∙ ap₂ (λ (rs : List Row) (n : ℕ). read_from command (behind rs (Some (name, w ∷ [])) n) ws) q.1 (place_next command lawful all w name e)
      ∙ r (held_by command all) (Some (name, w ∷ [])) (all ++ Word w ∷ []) (word_stands command lawful all name w q.2 e)
      ∙ one_more all (Word w) (map Word ws)

  behind_none : Behind []
  behind_none rows pend all (inl q) = behind_end rows pend (held_by command all) (place all) q.0 q.1 ∙ end_is command all lawful.distinct q.2 ∙ no_more all
  behind_none rows pend all (inr l) = behind_end_loud rows pend (place all) l.0 ∙ sym (l.1 [])

  behind_all : (ws : List Text) → Behind ws
  behind_all [] = behind_none
  behind_all (w ∷ ws) = λ rows pend all st. behind_word w ws rows pend all (slice_get (words_of command.parameters) (length (words_among all))) refl (behind_all ws) st

  -- ---- the words

  abbrev WordReads : List Text → Type 0
  WordReads ws = (rows : List Row) (pend : Pending) (all : List Item) → Stands command rows pend all
      → read_from command (at_word rows pend (place all)) ws ≡ after command all (items_of command.parameters None ws)

  abbrev ValueReads : List Text → Type 0
  ValueReads ws = (all : List Item) (number : Number) (default : Text) → IsOpen command.parameters all → find (is_named number.name) command.parameters ≡ Some (Setting number default)
      → read_from command (at_value number.name (held_by command all) (place all)) ws ≡ after command all (items_of command.parameters (Some number.name) ws)

  -- nothing is left
  word_none : WordReads []
  word_none rows pend all (inl q) =
      word_end rows pend (held_by command all) (place all) q.0 q.1 ∙ end_is command all lawful.distinct q.2 ∙ no_more all ∙ sym (ap (after command all) (items_end command.parameters))
  word_none rows pend all (inr l) = word_end_loud rows pend (place all) l.0 ∙ sym (l.1 []) ∙ sym (ap (after command all) (items_end command.parameters))

  value_none : ValueReads []
  value_none all number default o e =
      let own = choice_by_id command lawful number default e in
      walk.value_end command number.name number default own.0 own.1 (held_by command all) (place all) ∙ sym (ap (after command all) (items_end_value command.parameters number.name))

  -- a word
  module _ (w : Text) (ws : List Text) (p : is_plain w ≡ true) (more : WordReads ws) where
    plain_next : (rows : List Row) (pend : Pending) (all : List Item) (next : Option Text) → slice_get (words_of command.parameters) (length (words_among all)) ≡ next
        → Stands command rows pend all → read_from command (at_word rows pend (place all)) (w ∷ ws) ≡ after command all (with_item (Word w) (items_of command.parameters None ws))
    plain_next rows pend all None e st =
        stop (at_word rows pend (place all)) w ws (walk.plain_stray command rows pend (place all) w (next_word command lawful all ∙ ap (option_map (word_rule (place all))) e) (plain_tests w p))
        ∙ dead_more command all (Word w) (items_of command.parameters None ws) (dead_word command all w e)
    plain_next rows pend all (Some name) e (inr l) =
        let found = next_word command lawful all ∙ ap (option_map (word_rule (place all))) e in
        stop (at_word rows pend (place all)) w ws (ap some_kinds (walk.plain_turn command rows pend (place all) (place all) name w found (plain_tests w p)) ∙ l.0)
        ∙ sym (after_dead command all (with_item (Word w) (items_of command.parameters None ws)) l.1)
    plain_next rows pend all (Some name) e (inl q) =
        let found = next_word command lawful all ∙ ap (option_map (word_rule (place all))) e in
        step (at_word rows pend (place all)) (at_word (rows_settled command rows pend) (Some (name, w ∷ [])) (next_place (place all))) w ws
        (walk.plain_turn command rows pend (place all) (place all) name w found (plain_tests w p) ∙ q.0)
        (walk.plain_walked command rows pend (place all) (place all) name w found (plain_tests w p))
        ∙ ap₂ (λ (rs : List Row) (n : ℕ). read_from command (at_word rs (Some (name, w ∷ [])) n) ws) q.1 (place_next command lawful all w name e)
        ∙ more (held_by command all) (Some (name, w ∷ [])) (all ++ Word w ∷ []) (word_stands command lawful all name w q.2 e)
        ∙ after_more command all (Word w) (items_of command.parameters None ws)

    word_plain : WordReads (w ∷ ws)
    word_plain rows pend all st =
        plain_next rows pend all (slice_get (words_of command.parameters) (length (words_among all))) refl st ∙ sym (ap (after command all) (items_plain command.parameters w ws p))

    value_plain : ValueReads (w ∷ ws)
    value_plain all number default o e =
        let own = choice_by_id command lawful number default e in
        step (at_value number.name (held_by command all) (place all)) (at_word (held_by command all) (Some (number.name, w ∷ [])) (place all)) w ws
        (walk.value_turn command number.name number default own.0 own.1 (held_by command all) (place all) w (plain_tests w p))
        (walk.value_walked command number.name number default own.0 own.1 (held_by command all) (place all) w (named_as number.name number.name refl) (plain_tests w p))
        ∙ ap (λ (n : ℕ). read_from command (at_word (held_by command all) (Some (number.name, w ∷ [])) n) ws) (place_same command lawful all number.name (Value number.name w) (of_value number.name w))
        ∙ more (held_by command all) (Some (number.name, w ∷ [])) (all ++ Value number.name w ∷ []) (choice_stands command lawful all number default w o e)
        ∙ after_more command all (Value number.name w) (items_of command.parameters None ws) ∙ sym (ap (after command all) (items_value command.parameters number.name w ws p))

  -- `--`
  word_dashes : (ws : List Text) → WordReads (dashes ∷ ws)
  word_dashes ws rows pend all st =
      step (at_word rows pend (place all)) (behind rows pend (place all)) dashes ws (walk.dashes_turn command rows pend (place all)) (walk.dashes_walked command rows pend (place all))
      ∙ behind_all ws rows pend all st ∙ sym (ap (after command all) (items_behind command.parameters ws))

  value_dashes : (ws : List Text) → ValueReads (dashes ∷ ws)
  value_dashes ws all number default o e =
      let own = choice_by_id command lawful number default e in
      step (at_value number.name (held_by command all) (place all)) (behind_value number.name (held_by command all) (place all)) dashes ws
      (walk.value_dashes command number.name number default own.0 own.1 (held_by command all) (place all))
      (walk.value_dashes_walked command number.name number default own.0 own.1 (held_by command all) (place all))
      ∙ due all number default e ws ∙ sym (ap (after command all) (items_no_value command.parameters number.name dashes ws refl))
    where
      due : (all : List Item) (number : Number) (default : Text) → find (is_named number.name) command.parameters ≡ Some (Setting number default) → (ws : List Text)
          → read_from command (behind_value number.name (held_by command all) (place all)) ws ≡ None
      due all number default e [] =
          let own = choice_by_id command lawful number default e in walk.behind_value_end command number.name number default own.0 own.1 (held_by command all) (place all)
      due all number default e (w ∷ ws) =
          let own = choice_by_id command lawful number default e in
          stop (behind_value number.name (held_by command all) (place all)) w ws (walk.behind_value_loud command number.name number default own.0 own.1 (held_by command all) (place all) w
          (slice_get (words_of command.parameters) (length (words_among all))) (next_word command lawful all))

  -- an item that is there at once: nothing is pending behind it
  record IsAtOnce (w name t : Text) (item : Item) (after_use : List Row → List Row) : Type 0 where
    of : IsOf name item
    fault : (rows : List Row) (pend : Pending) (position : ℕ) → turn_fault (level command) [] (at_word rows pend position) w ≡ or_else (flag_kinds command rows pend name) []
    next : (rows : List Row) (pend : Pending) (position : ℕ) → walked (rules command.parameters) [] (at_word rows pend position) w ≡ at_word (after_use (rows_settled command rows pend)) None position
    uses : (rows : List Row) → has_row name rows ≡ false → after_use rows ≡ rows ++ row name t ∷ []
    holds : (all : List Item) → held_by command (all ++ item ∷ []) ≡ held_by command all ++ row name t ∷ []

  abbrev ItemReads : Text → List Text → Item → Type 0
  ItemReads w ws item = (rows : List Row) (pend : Pending) (all : List Item) → Stands command rows pend all
      → read_from command (at_word rows pend (place all)) (w ∷ ws) ≡ after command all (with_item item (items_of command.parameters None ws))

  at_once : (w name t : Text) (item : Item) (after_use : List Row → List Row) (parameter : Parameter) (ws : List Text) → IsAtOnce w name t item after_use → find (is_named name) command.parameters ≡ Some parameter
      → WordReads ws → ItemReads w ws item
  at_once w name t item after_use parameter ws is e more rows pend all (inr l) =
      stop (at_word rows pend (place all)) w ws (ap some_kinds (is.fault rows pend (place all)) ∙ loud_first _ _ (loud_first _ _ l.0))
      ∙ sym (after_dead command all (with_item item (items_of command.parameters None ws)) l.1)
  at_once w name t item after_use parameter ws is e more rows pend all (inl q) =
      let held = has_row_named command.parameters all name parameter lawful.distinct q.2 e in
      let settled = q.0 in
      elim (cases_of (list_any (is_under name) all)) [
        | inl has ↦
            let row_there : has_row name (rows_settled command rows pend) ≡ true = ap (has_row name) q.1 ∙ held ∙ has in
            stop (at_word rows pend (place all)) w ws (ap some_kinds (is.fault rows pend (place all)) ∙ rw (settled, row_there) refl)
            ∙ dead_more command all item (items_of command.parameters None ws) (dead_named command all name parameter item is.of e has)
        | inr none ↦
            let no_row : has_row name (rows_settled command rows pend) ≡ false = ap (has_row name) q.1 ∙ held ∙ none in
            let now : after_use (rows_settled command rows pend) ≡ held_by command (all ++ item ∷ []) = is.uses _ no_row ∙ ap (λ (rs : List Row). rs ++ row name t ∷ []) q.1 ∙ sym (is.holds all) in
            step (at_word rows pend (place all)) (at_word (after_use (rows_settled command rows pend)) None (place all)) w ws
            (is.fault rows pend (place all) ∙ rw (settled, no_row) refl) (is.next rows pend (place all))
            ∙ ap (λ (n : ℕ). read_from command (at_word (after_use (rows_settled command rows pend)) None n) ws) (place_same command lawful all name item is.of)
            ∙ more (after_use (rows_settled command rows pend)) None (all ++ item ∷ []) (inl (refl, now, open_named command.parameters all name parameter item q.2 is.of e none))
            ∙ after_more command all item (items_of command.parameters None ws)
      ]

  module _ (z : ℕ) (zs : Text) (ws : List Text) (more : WordReads ws) (more_value : ValueReads ws) where
    flag_reads : (name : Text) → find (is_named (name_of z zs)) command.parameters ≡ Some (Flag name) → find (is_named name) command.parameters ≡ Some (Flag name) → value_in z zs ≡ None
        → ItemReads (long_word z zs) ws (Set name)
    flag_reads name e f v = at_once (long_word z zs) name set_text (Set name) (λ rows. used (named_rule (Flag name)) [] rows) (Flag name) ws (record {
      of = of_set name;
      fault = λ rows pend position. walk.flag_turn command rows pend position z zs name e v;
      next = λ rows pend position. walk.flag_walked command rows pend position z zs name e v;
      uses = λ rows none. flag_used name rows none;
      holds = λ all. rows_set all (words_of command.parameters) name;
    }) f more

    choice_reads : (number : Number) (default value : Text) → find (is_named (name_of z zs)) command.parameters ≡ Some (Setting number default)
        → find (is_named number.name) command.parameters ≡ Some (Setting number default) → value_in z zs ≡ Some value → ItemReads (long_word z zs) ws (Value number.name value)
    choice_reads number default value e f v =
        at_once (long_word z zs) number.name value (Value number.name value) (λ rows. used (named_rule (Setting number default)) (value ∷ []) rows) (Setting number default) ws (record {
          of = of_value number.name value;
          fault = λ rows pend position. walk.choice_turn command rows pend position z zs number default value e v;
          next = λ rows pend position. walk.choice_walked command rows pend position z zs number default value e v;
          uses = λ rows none. choice_used number default value rows none;
          holds = λ all. rows_value all (words_of command.parameters) number.name value;
        }) f more

    choice_waits : (number : Number) (default : Text) → find (is_named (name_of z zs)) command.parameters ≡ Some (Setting number default)
        → find (is_named number.name) command.parameters ≡ Some (Setting number default) → value_in z zs ≡ None → (rows : List Row) (pend : Pending) (all : List Item) → Stands command rows pend all
        → read_from command (at_word rows pend (place all)) (long_word z zs ∷ ws) ≡ after command all (items_of command.parameters (Some number.name) ws)
    choice_waits number default e f v rows pend all (inr l) =
        stop (at_word rows pend (place all)) (long_word z zs) ws
        (ap some_kinds (walk.choice_waits_turn command rows pend (place all) z zs number default e v) ∙ loud_first _ _ l.0)
        ∙ sym (after_dead command all (items_of command.parameters (Some number.name) ws) l.1)
    choice_waits number default e f v rows pend all (inl q) =
        let settled = q.0 in
        step (at_word rows pend (place all)) (at_value number.name (rows_settled command rows pend) (place all)) (long_word z zs) ws
        (walk.choice_waits_turn command rows pend (place all) z zs number default e v ∙ rw settled refl) (walk.choice_waits_walked command rows pend (place all) z zs number default e v)
        ∙ ap (λ (rs : List Row). read_from command (at_value number.name rs (place all)) ws) q.1 ∙ more_value all number default q.2 f

    own_name : (parameter : Parameter) (name : Text) → is_named name parameter ≡ true → find (is_named name) command.parameters ≡ Some parameter → find (is_named (parameter_name parameter)) command.parameters ≡ Some parameter
    own_name (Flag own) name h e = ap (λ m. find (is_named m) command.parameters) (names_are own name h) ∙ e
    own_name (Setting number default) name h e = ap (λ m. find (is_named m) command.parameters) (names_are number.name name h) ∙ e
    own_name (NumberWord number) name h e = cc
    own_name (TextWord own) name h e = cc

    long_reads : (parameter : Option Parameter) (v : Option Text) → find (is_named (name_of z zs)) command.parameters ≡ parameter → value_in z zs ≡ v
        → (rows : List Row) (pend : Pending) (all : List Item) → Stands command rows pend all
        → read_from command (at_word rows pend (place all)) (long_word z zs ∷ ws)
        ≡ after command all (parameter_items parameter v (items_of command.parameters None ws) (λ name. items_of command.parameters (Some name) ws))
    long_reads None v e f = λ rows pend all st. stop (at_word rows pend (place all)) (long_word z zs) ws (walk.long_other command rows pend (place all) z zs e)
    long_reads (Some (Flag name)) None e f = flag_reads name e (own_name (Flag name) (name_of z zs) (found_passes (is_named (name_of z zs)) command.parameters (Flag name) e) e) f
    long_reads (Some (Flag name)) (Some v) e f = λ rows pend all st. stop (at_word rows pend (place all)) (long_word z zs) ws (walk.flag_value command rows pend (place all) z zs name v e f)
    long_reads (Some (Setting number default)) None e f =
        choice_waits number default e (own_name (Setting number default) (name_of z zs) (found_passes (is_named (name_of z zs)) command.parameters (Setting number default) e) e) f
    long_reads (Some (Setting number default)) (Some v) e f =
        choice_reads number default v e (own_name (Setting number default) (name_of z zs) (found_passes (is_named (name_of z zs)) command.parameters (Setting number default) e) e) f
    long_reads (Some (NumberWord number)) v e f = absurd (let named = found_passes (is_named (name_of z zs)) command.parameters (NumberWord number) e in cc)
    long_reads (Some (TextWord own)) v e f = absurd (let named = found_passes (is_named (name_of z zs)) command.parameters (TextWord own) e in cc)

    word_long : WordReads (long_word z zs ∷ ws)
    word_long rows pend all st =
        long_reads (find (is_named (name_of z zs)) command.parameters) (value_in z zs) refl refl rows pend all st ∙ sym (ap (after command all) (items_long command.parameters z zs ws))

  value_long : (z : ℕ) (zs : Text) (ws : List Text) → ValueReads (long_word z zs ∷ ws)
  value_long z zs ws all number default o e =
      let own = choice_by_id command lawful number default e in
      stop (at_value number.name (held_by command all) (place all)) (long_word z zs) ws (walk.value_long command number.name number default own.0 own.1 (held_by command all) (place all) z zs)
      ∙ sym (ap (after command all) (items_no_value command.parameters number.name (long_word z zs) ws refl))

  -- a short flag
  module _ (y c : ℕ) (rest : Text) (ws : List Text) (h : (y == 45) ≡ false) (first : slice_get (chars (y ∷ rest)) 0 ≡ Some c) where
    word_short : WordReads ((45 ∷ y ∷ rest) ∷ ws)
    word_short rows pend all st =
        stop (at_word rows pend (place all)) (45 ∷ y ∷ rest) ws (walk.short_loud command rows pend (place all) y c rest h first)
        ∙ sym (ap (after command all) (items_short command.parameters y rest ws h))

    value_short : ValueReads ((45 ∷ y ∷ rest) ∷ ws)
    value_short all number default o e =
        let own = choice_by_id command lawful number default e in
        stop (at_value number.name (held_by command all) (place all)) (45 ∷ y ∷ rest) ws
        (walk.value_short command number.name number default own.0 own.1 (held_by command all) (place all) y c rest h first)
        ∙ sym (ap (after command all) (items_no_value command.parameters number.name (45 ∷ y ∷ rest) ws refl))

  -- ---- all words

  abbrev Reads : List Text → Type 0
  Reads ws = WordReads ws × ValueReads ws

  reads_plain : (w : Text) (ws : List Text) → is_plain w ≡ true → Reads ws → Reads (w ∷ ws)
  reads_plain w ws p more = (word_plain w ws p more.0, value_plain w ws p more.0)

  reads_long : (rest : Text) (ws : List Text) → Reads ws → Reads ((45 ∷ 45 ∷ rest) ∷ ws)
  reads_long [] ws more = (word_dashes ws, value_dashes ws)
  reads_long (z ∷ zs) ws more = (word_long z zs ws more.0 more.1, value_long z zs ws)

  reads_hyphen : (y : ℕ) (rest : Text) (ws : List Text) → IsWord (45 ∷ y ∷ rest) → Reads ws → Reads ((45 ∷ y ∷ rest) ∷ ws)
  reads_hyphen y rest ws word more = elim (cases_of (y == 45)) [
    | inl h ↦ subst (λ (n : ℕ). Reads ((45 ∷ n ∷ rest) ∷ ws)) (sym ((Decides-eqb y 45).0 h)) (reads_long rest ws more)
    | inr h ↦ let named = word y rest refl in (word_short y named.0 rest ws h named.1, value_short y named.0 rest ws h named.1)
  ]

  reads_more : (w : Text) (ws : List Text) → IsWord w → Reads ws → Reads (w ∷ ws)
  reads_more [] ws word more = reads_plain [] ws refl more
  reads_more (x ∷ []) ws word more = reads_plain (x ∷ []) ws refl more
  reads_more (x ∷ y ∷ rest) ws word more = elim (cases_of (x == 45)) [
    | inl h ↦ subst (λ (n : ℕ). IsWord (n ∷ y ∷ rest) → Reads ((n ∷ y ∷ rest) ∷ ws)) (sym ((Decides-eqb x 45).0 h)) (λ word. reads_hyphen y rest ws word more) word
    | inr h ↦ reads_plain (x ∷ y ∷ rest) ws (simp h refl) more
  ]

  reads_all : (ws : List Text) → AreWords ws → Reads ws
  reads_all [] all = (word_none, value_none)
  reads_all (w ∷ ws) all = reads_more w ws all.0 (reads_all ws all.1)

  -- what the level reads is what the words ask
  pub level_reads : (ws : List Text) → AreWords ws → read_from command (at_word [] None 1) ws ≡ request_by command ws
  level_reads ws all = (reads_all ws all).0 [] None [] (inl (refl, refl, open_first command.parameters))
