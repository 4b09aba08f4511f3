-- What a command's level reads at its end, from the rows of items that may make a request.
use Rattle.std.proofs.Common.{◌≡◌, ◌∙◌, ◌≤◌, ◌<◌, ℕ, zero, suc, List, [], ◌∷◌, Bool, true, false, refl, ap, ap₂, subst, sym, codes, length, drop, arith, inl, inr, true≢false}
use Rattle.std.specs.Prelude.{◌&&◌, ◌||◌, ◌==◌, Option, Some, None, find, fold, is_some, not, option_map, slice_get, if◌then◌else◌, count_by, option_and_then, unwrap_or}
use Rattle.std.specs.List.{list_any, list_all}
use Rattle.std.specs.Option.{option_map_or, option_or}
use Rattle.std.specs.Str.{bytes_eq}
use Rattle.std.proofs.lemmas.Bool.{and_parts, or_left, or_right}
use Rattle.std.proofs.lemmas.List.Folds.{find-append}
use Rattle.std.proofs.lemmas.Option.{slice_get_past, slice_get_within, slice_get-get_or}
use Rattle.std.proofs.Math.Path.{fun_ext}
use borrow.Author.Tests.{eqb-false, eqb-true, le-leb}
use Rattle.clap.specs.declared.error.kind.ErrorKind.TheVariants.{MissingRequiredArgument}
use Rattle.clap.specs.Words.{Kinds, Row, Rule, Text, first_of}
use Rattle.clap.specs.Walk.{default_rows, has_row, is_empty, more_values, reading_by, with_default}
use Rattle.clap.specs.declared.parser.matches.ValueSource.TheVariants.{DefaultValue}
use Rattle.clap.specs.declared.builder.value_parser.Reading.TheVariants.{AsWritten}
use Rattle.clap.specs.Faults.{check_fault, defaults_fault, given_default_fault}
use Rattle.clap.specs.Facts.{explicit_source}
use Rattle.clap.specs.Kinds.{or_else}
use Rattle.clap.specs.Takes.{is_given}
use Rattle.fort_answers.specs.Requests.{Request}
use Rattle.fort_answers.specs.Commands.{Command, Parameter, Flag, Setting, NumberWord, TextWord, unset_text}
use Rattle.fort_answers.specs.CommandGrammar.{Item, asked_by, is_not_repeated, given_by, is_named, is_under, is_word, text_of, words_among}
use Rattle.fort_words.specs.Matches.{asked_of, where_faultless}
use Rattle.fort_words.proofs.Turns.{cases_of, some_kinds}
use Rattle.fort_words.proofs.RowRules.{are_distinct, has_parameter, has_word, names_are, none_named, not_from, rules, rules_from, word_not_named, words_of}
use Rattle.fort_words.proofs.RowWalk.{level}
use Rattle.fort_words.proofs.RowItems.{found, found_rows, fresh, has_found, none_found, row, rows_of, text_in, word_for}
use Rattle.fort_words.proofs.RowOpen.{IsOpen, apart, count_words, or_none, word_for_is, word_past, words_unlike}

-- ---- the first row of an id, once the defaults have been added

abbrev default_of : Rule → List Text → Row
default_of a values = record { id = a.id; values = values; count = None; source = Some DefaultValue; reading = reading_by a }

abbrev own_default : Rule → List Text → Option Row
own_default a [] = None
own_default a (v ∷ vs) = Some (default_of a (v ∷ vs))

abbrev default_at : Text → Rule → List Text → Option Row
default_at id a values = if bytes_eq a.id id then own_default a values else None

abbrev default_in : Text → List Rule → Option Row
default_in id [] = None
default_in id (a ∷ rest) = option_or (default_at id a a.defaults) (default_in id rest)

or_assoc : (x y z : Option Row) → option_or (option_or x y) z ≡ option_or x (option_or y z)
or_assoc None y z = refl
or_assoc (Some r) y z = refl

same_if : {A : Type 0} (b : Bool) (x : A) → (if b then x else x) ≡ x
same_if true x = refl
same_if false x = refl

-- where the rule of the id has a row
has_already : (x y : Option Row) (b : Bool) → (b ≡ true → is_some x ≡ true) → x ≡ option_or x (if b then y else None)
has_already (Some r) y b h = refl
has_already None y true h = let none = h refl in absurd (cc)
has_already None y false h = refl

found_of_rule : (id : Text) (a : Rule) (rows : List Row) → has_row a.id rows ≡ true → bytes_eq a.id id ≡ true → is_some (found id rows) ≡ true
found_of_rule id a rows e same = sym (has_found id rows) ∙ subst (λ (t : Text). has_row t rows ≡ true) (names_are a.id id same) e

found_default : (id : Text) (a : Rule) (rows : List Row) (values : List Text)
    → found id (if has_row a.id rows then rows else default_rows a.id (reading_by a) values rows) ≡ option_or (found id rows) (default_at id a values)
found_default id a rows [] =
    ap (found id) (same_if (has_row a.id rows) rows) ∙ sym (ap (option_or (found id rows)) (same_if (bytes_eq a.id id) None) ∙ or_none (found id rows))
found_default id a rows (v ∷ vs) = elim (cases_of (has_row a.id rows)) [
  | inl e ↦ simp e (has_already (found id rows) (own_default a (v ∷ vs)) (bytes_eq a.id id) (found_of_rule id a rows e))
  | inr e ↦ simp e (ap (found id) (fresh a.id (more_values DefaultValue (v ∷ vs)) (default_of a (v ∷ vs) ∷ []) rows e)
      ∙ find-append (λ (r : Row). bytes_eq r.id id) rows (default_of a (v ∷ vs) ∷ []))
]

found_at_end : (id : Text) (rules : List Rule) (rows : List Row) → found id (fold with_default rows rules) ≡ option_or (found id rows) (default_in id rules)
found_at_end id [] rows = sym (or_none (found id rows))
found_at_end id (a ∷ rest) rows =
    found_at_end id rest (with_default rows a) ∙ ap (λ (x : Option Row). option_or x (default_in id rest)) (found_default id a rows a.defaults)
    ∙ or_assoc (found id rows) (default_at id a a.defaults) (default_in id rest)

-- ---- the defaults have no fault

abbrev is_quiet : Rule → Bool
is_quiet a = is_empty a.defaults || not (some_kinds (given_default_fault a a.defaults))

no_kinds : (has empty : Bool) (kinds : Kinds) → (empty || not (some_kinds kinds)) ≡ true → (if has || empty then [] else kinds) ≡ []
no_kinds true empty kinds e = refl
no_kinds false true kinds e = refl
no_kinds false false [] e = refl
no_kinds false false (k ∷ ks) e = absurd (cc)

defaults_quiet : (rules : List Rule) (rows : List Row) → list_all is_quiet rules ≡ true → defaults_fault rows rules ≡ []
unfolding defaults_fault
defaults_quiet [] rows e = refl
defaults_quiet (a ∷ rest) rows e =
    let parts = and_parts (is_quiet a) (list_all is_quiet rest) e in
    ap (λ (ks : Kinds). or_else ks (defaults_fault (with_default rows a) rest)) (no_kinds (has_row a.id rows) (is_empty a.defaults) (given_default_fault a a.defaults) parts.0)
    ∙ defaults_quiet rest (with_default rows a) parts.1

rules_quiet : (parameters : List Parameter) (i : ℕ) → list_all is_quiet (rules_from i parameters) ≡ true
rules_quiet [] i = refl
rules_quiet (Flag own ∷ rest) i = rules_quiet rest i
rules_quiet (Setting number default ∷ rest) i = rules_quiet rest i
rules_quiet (NumberWord number ∷ rest) i = rules_quiet rest _
rules_quiet (TextWord own ∷ rest) i = rules_quiet rest _

-- ---- the defaults of a row's parameters

abbrev default_row : Text → Text → Row
default_row id text = record { id = id; values = text ∷ []; count = None; source = Some DefaultValue; reading = AsWritten }

abbrev default_for : Text → List Parameter → Option Text
default_for id [] = None
default_for id (Flag own ∷ rest) = if bytes_eq own id then Some unset_text else default_for id rest
default_for id (Setting number default ∷ rest) = if bytes_eq number.name id then Some default else default_for id rest
default_for id (NumberWord number ∷ rest) = default_for id rest
default_for id (TextWord own ∷ rest) = default_for id rest

default_is : (parameters : List Parameter) (i : ℕ) (id : Text) → default_in id (rules_from i parameters) ≡ option_map (default_row id) (default_for id parameters)
default_is [] i id = elim (cases_of (bytes_eq (codes "help") id)) [ inl e ↦ simp e refl | inr e ↦ simp e refl ]
default_is (Flag own ∷ rest) i id = elim (cases_of (bytes_eq own id)) [
  | inl e ↦ simp e (ap (λ m. Some (default_row m unset_text)) (names_are own id e))
  | inr e ↦ simp e (default_is rest i id)
]
default_is (Setting number default ∷ rest) i id = elim (cases_of (bytes_eq number.name id)) [
  | inl e ↦ simp e (ap (λ m. Some (default_row m default)) (names_are number.name id e))
  | inr e ↦ simp e (default_is rest i id)
]
default_is (NumberWord number ∷ rest) i id = elim (cases_of (bytes_eq number.name id)) [ inl e ↦ simp e (default_is rest _ id) | inr e ↦ simp e (default_is rest _ id) ]
default_is (TextWord own ∷ rest) i id = elim (cases_of (bytes_eq own id)) [ inl e ↦ simp e (default_is rest _ id) | inr e ↦ simp e (default_is rest _ id) ]

no_default : (parameters : List Parameter) (id : Text) → find (is_named id) parameters ≡ None → default_for id parameters ≡ None
no_default [] id e = refl
no_default (Flag own ∷ rest) id e = elim (cases_of (bytes_eq own id)) [ inl h ↦ let some = rw h at e in absurd (cc) | inr h ↦ rw h (no_default rest id (rw h at e)) ]
no_default (Setting number default ∷ rest) id e =
    elim (cases_of (bytes_eq number.name id)) [ inl h ↦ let some = rw h at e in absurd (cc) | inr h ↦ rw h (no_default rest id (rw h at e)) ]
no_default (NumberWord number ∷ rest) id e = no_default rest id e
no_default (TextWord own ∷ rest) id e = no_default rest id e

-- ---- what is given under an id

abbrev found_given : (parameters : List Parameter) → List Item → List Text → Text → Option Text
found_given parameters items ws id = option_or (option_or (text_in id items) (word_for id (words_of parameters) ws)) (default_for id parameters)

-- nothing is under a name that none of the parameters has
abbrev IsNamedIn : List Parameter → List Item → Text → Type 0
IsNamedIn parameters items id = list_any (is_under id) items ≡ true → is_some (find (is_named id) parameters) ≡ true

no_text : (parameters : List Parameter) (items : List Item) (id : Text) → IsNamedIn parameters items id → find (is_named id) parameters ≡ None → text_in id items ≡ None
no_text parameters items id named e = elim (cases_of (list_any (is_under id) items)) [
  | inl has ↦ absurd (true≢false (sym (named has) ∙ ap is_some e))
  | inr has_not ↦ ap (option_map text_of) (none_found (is_under id) items has_not)
]

not_among : (rest : List Parameter) (id : Text) (ws : List Text) → has_parameter id rest ≡ false → word_for id (words_of rest) ws ≡ None
not_among rest id ws e = word_past id (words_of rest) ws (λ k n h. elim (cases_of (bytes_eq n id)) [
  | inl same ↦ absurd (true≢false (sym (has_word rest k id (h ∙ ap Some (names_are n id same))) ∙ e))
  | inr other ↦ other
])

or_default : (t : Option Text) (d : Text) → option_or (option_or t None) (Some d) ≡ Some (unwrap_or t d)
or_default None d = refl
or_default (Some x) d = refl

apart_from : (own id : Text) (rest : List Parameter) → not (has_parameter own rest) ≡ true → own ≡ id → has_parameter id rest ≡ false
apart_from own id rest e same = ap (λ t. has_parameter t rest) (sym same) ∙ not_from _ e

given_is : (parameters : List Parameter) (items : List Item) (ws : List Text) (id : Text) → are_distinct parameters ≡ true → IsNamedIn parameters items id
    → found_given parameters items ws id ≡ given_by parameters items ws id
given_is [] items ws id d named = let none = no_text [] items id named refl in rw none refl
given_is (Flag own ∷ rest) items ws id d named = elim (cases_of (bytes_eq own id)) [
  | inl e ↦
      let same = names_are own id e in
      let none = not_among rest id ws (apart_from own id rest (and_parts _ _ d).0 same) in
      simp (e, none) (or_default (text_in id items) unset_text ∙ ap (λ m. Some (unwrap_or (text_in m items) unset_text)) (sym same))
  | inr e ↦ let named_behind = λ (h : list_any (is_under id) items ≡ true). rw e at (named h) in simp e (given_is rest items ws id (and_parts _ _ d).1 named_behind)
]
given_is (Setting number default ∷ rest) items ws id d named = elim (cases_of (bytes_eq number.name id)) [
  | inl e ↦
      let same = names_are number.name id e in
      let none = not_among rest id ws (apart_from number.name id rest (and_parts _ _ d).0 same) in
      simp (e, none) (or_default (text_in id items) default ∙ ap (λ m. Some (unwrap_or (text_in m items) default)) (sym same))
  | inr e ↦ let named_behind = λ (h : list_any (is_under id) items ≡ true). rw e at (named h) in simp e (given_is rest items ws id (and_parts _ _ d).1 named_behind)
]
given_is (NumberWord number ∷ rest) items ws id d named = elim (cases_of (bytes_eq number.name id)) [
  | inl e ↦
      let unnamed = none_named rest id (apart_from number.name id rest (and_parts _ _ d).0 (names_are number.name id e)) in
      let none = no_text rest items id named unnamed in
      let no_other = no_default rest id unnamed in
      simp (e, none, no_other) (or_none (slice_get ws 0))
  | inr e ↦ simp e (given_is rest items (drop 1 ws) id (and_parts _ _ d).1 named)
]
given_is (TextWord own ∷ rest) items ws id d named = elim (cases_of (bytes_eq own id)) [
  | inl e ↦
      let unnamed = none_named rest id (apart_from own id rest (and_parts _ _ d).0 (names_are own id e)) in
      let none = no_text rest items id named unnamed in
      let no_other = no_default rest id unnamed in
      simp (e, none, no_other) (or_none (slice_get ws 0))
  | inr e ↦ simp e (given_is rest items (drop 1 ws) id (and_parts _ _ d).1 named)
]

-- ---- the rows at the end

abbrev ended : Command → List Item → List Row
ended command items = fold with_default (rows_of items (words_of command.parameters)) (rules command.parameters)

abbrev first_value : Row → Option Text
first_value r = slice_get r.values 0

values_or : (id : Text) (x y : Option Text) → option_and_then first_value (option_or (option_map (row id) x) (option_map (default_row id) y)) ≡ option_or x y
values_or id None None = refl
values_or id None (Some t) = refl
values_or id (Some t) y = refl

found_ended : (command : Command) (items : List Item) (id : Text) → are_distinct command.parameters ≡ true → IsOpen command.parameters items
    → found id (ended command items)
    ≡ option_or (option_map (row id) (option_or (text_in id items) (word_for id (words_of command.parameters) (words_among items)))) (option_map (default_row id) (default_for id command.parameters))
found_ended command items id d o =
    found_at_end id (rules command.parameters) (rows_of items (words_of command.parameters))
    ∙ ap₂ option_or (found_rows id items (words_of command.parameters) (apart command.parameters items d o)) (default_is command.parameters 1 id)

first_is : (command : Command) (items : List Item) → are_distinct command.parameters ≡ true → IsOpen command.parameters items
    → (id : Text) → first_of id (ended command items) ≡ given_by command.parameters items (words_among items) id
first_is command items d o id =
    ap (option_and_then first_value) (found_ended command items id d o)
    ∙ values_or id (option_or (text_in id items) (word_for id (words_of command.parameters) (words_among items))) (default_for id command.parameters)
    ∙ given_is command.parameters items (words_among items) id d (o.named id)

asks_is : (command : Command) (items : List Item) → are_distinct command.parameters ≡ true → IsOpen command.parameters items
    → asked_of (ended command items) command ≡ command.asks (given_by command.parameters items (words_among items))
asks_is command items d o = ap command.asks (fun_ext (first_is command items d o))

-- ---- the words that are required

required_is : (parameters : List Parameter) (i : ℕ) (rows : List Row)
    → list_any (λ a. a.required && not (is_given a.id rows)) (rules_from i parameters) ≡ list_any (λ n. not (is_given n rows)) (words_of parameters)
required_is [] i rows = refl
required_is (Flag own ∷ rest) i rows = required_is rest i rows
required_is (Setting number default ∷ rest) i rows = required_is rest i rows
required_is (NumberWord number ∷ rest) i rows = ap (λ b. not (is_given number.name rows) || b) (required_is rest _ rows)
required_is (TextWord own ∷ rest) i rows = ap (λ b. not (is_given own rows) || b) (required_is rest _ rows)

given_if_some : (id : Text) (x : Option Text) → option_map_or (λ r. explicit_source r.source) (option_or (option_map (row id) x) None) false ≡ is_some x
given_if_some id None = refl
given_if_some id (Some t) = refl

word_given : (command : Command) (items : List Item) → are_distinct command.parameters ≡ true → IsOpen command.parameters items
    → (k : ℕ) (n : Text) → slice_get (words_of command.parameters) k ≡ Some n → is_given n (ended command items) ≡ is_some (slice_get (words_among items) k)
word_given command items d o k n e =
    let names = words_of command.parameters in
    let ws = words_among items in
    let unnamed = word_not_named command.parameters k n d e in
    let none = no_text command.parameters items n (o.named n) unnamed in
    let no_other = no_default command.parameters n unnamed in
    ap (λ r. option_map_or (λ r. explicit_source r.source) r false) (found_ended command items n d o)
    ∙ rw (none, no_other) (given_if_some n (word_for n names ws)) ∙ ap is_some (word_for_is k n names ws (words_unlike command.parameters d) e)

none_missing : (p : Text → Bool) (names : List Text) → ((k : ℕ) (n : Text) → slice_get names k ≡ Some n → p n ≡ true) → list_any (λ n. not (p n)) names ≡ false
none_missing p [] h = refl
none_missing p (n ∷ ns) h = let here = h 0 n refl in rw here (none_missing p ns (λ k m e. h (suc k) m e))

one_missing : (p : Text → Bool) (names : List Text) (k : ℕ) (n : Text) → slice_get names k ≡ Some n → p n ≡ false → list_any (λ n. not (p n)) names ≡ true
one_missing p [] k n e h = absurd (cc)
one_missing p (m ∷ ms) zero n e h = let same : m ≡ n = cc in or_left (not (p m)) _ (rw (same, h) refl)
one_missing p (m ∷ ms) (suc k) n e h = or_right (not (p m)) _ (one_missing p ms k n e h)

-- ---- the end

comes_all : (parameters : List Parameter) (items : List Item) → ((name : Text) → count_by (is_under name) items ≤ 1) → list_all (is_not_repeated items) parameters ≡ true
comes_all [] items once = refl
comes_all (Flag own ∷ rest) items once = let here = le-leb (count_by (is_under own) items) 1 (once own) in rw here (comes_all rest items once)
comes_all (Setting number default ∷ rest) items once = let here = le-leb (count_by (is_under number.name) items) 1 (once number.name) in rw here (comes_all rest items once)
comes_all (NumberWord number ∷ rest) items once = comes_all rest items once
comes_all (TextWord own ∷ rest) items once = comes_all rest items once

abbrev pub read_at_end : Command → List Row → Option Request
read_at_end command rows =
    where_faultless (or_else (defaults_fault rows (rules command.parameters)) (check_fault (level command) (fold with_default rows (rules command.parameters)) false))
    (asked_of (fold with_default rows (rules command.parameters)) command)

abbrev is_missing : Command → List Item → Bool
is_missing command items = list_any (λ a. a.required && not (is_given a.id (ended command items))) (rules command.parameters)

read_is : (command : Command) (items : List Item)
    → read_at_end command (rows_of items (words_of command.parameters)) ≡ (if is_missing command items then None else asked_of (ended command items) command)
read_is command items =
    ap (λ (ks : Kinds). where_faultless (or_else ks (check_fault (level command) (ended command items) false)) (asked_of (ended command items) command))
    (defaults_quiet (rules command.parameters) (rows_of items (words_of command.parameters)) (rules_quiet command.parameters 1)) ∙ by (is_missing command items)
  where
    by : (b : Bool) → where_faultless (if b then MissingRequiredArgument ∷ [] else []) (asked_of (ended command items) command) ≡ (if b then None else asked_of (ended command items) command)
    by true = refl
    by false = refl

missing_is : (command : Command) (items : List Item) → are_distinct command.parameters ≡ true → IsOpen command.parameters items
    → is_missing command items ≡ not (length (words_among items) == count_by is_word command.parameters)
missing_is command items d o =
    let names = words_of command.parameters in
    let ws = words_among items in
    let wanted = count_words command.parameters in
    required_is command.parameters 1 (ended command items) ∙ elim (cases_of (length ws == count_by is_word command.parameters)) [
      | inl e ↦
          let same = eqb-true (length ws) (count_by is_word command.parameters) e in
          none_missing (λ n. is_given n (ended command items)) names (λ k n h.
          let inside = slice_get_within names k n h in
          word_given command items d o k n h ∙ ap is_some (slice_get-get_or ws k [] (omega arith)))
          ∙ sym (ap not e)
      | inr e ↦
          let few = o.words in
          let differs = eqb-false (length ws) (count_by is_word command.parameters) e in
          let fewer : length ws < length names = by_cases (length ws) (length names) few (λ s. differs (s ∙ sym wanted)) in
          let next = slice_get-get_or names (length ws) [] fewer in
          one_missing (λ n. is_given n (ended command items)) names (length ws) _ next
          (word_given command items d o (length ws) _ next ∙ ap is_some (slice_get_past ws (length ws) (omega arith)))
          ∙ sym (ap not e)
    ]
  where
    by_cases : (a b : ℕ) → a ≤ b → (a ≡ b → ⊥) → a < b
    by_cases a b h n = omega arith

-- what is read is what the items ask
pub end_is : (command : Command) (items : List Item) → are_distinct command.parameters ≡ true → IsOpen command.parameters items
    → read_at_end command (rows_of items (words_of command.parameters)) ≡ asked_by command items
end_is command items d o =
    let every = comes_all command.parameters items o.once in
    read_is command items ∙ ap₂ (λ b r. if b then None else r) (missing_is command items d o) (asks_is command items d o)
    ∙ rw every (turned (length (words_among items) == count_by is_word command.parameters) (command.asks (given_by command.parameters items (words_among items))))
  where
    turned : (b : Bool) (r : Option Request) → (if not b then None else r) ≡ (if b then r else None)
    turned true r = refl
    turned false r = refl
