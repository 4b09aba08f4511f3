-- Items that may still make a request, and those that make none whatever follows.
use Rattle.std.proofs.Common.{◌≡◌, ◌∙◌, ◌+◌, ◌≤◌, ℕ, zero, suc, List, [], ◌∷◌, ◌++◌, Bool, true, false, refl, ap, ap₂, subst, sym, length, length-append, drop, append_assoc, arith, inl, inr, true≢false}
use Rattle.std.specs.Prelude.{◌||◌, ◌==◌, Option, Some, None, cond, find, is_some, option_map, slice_get, count_by, nat_le, option_and_then}
use Rattle.std.specs.List.{list_any, list_all}
use Rattle.std.specs.Option.{option_or}
use Rattle.std.specs.Str.{bytes_eq}
use Rattle.std.proofs.lemmas.Bool.{and_left, and_parts, and_right, or_parts}
use Rattle.std.proofs.lemmas.List.Folds.{list_any-append}
use Rattle.std.proofs.lemmas.List.Sums.{sum_by-append, sum_by-cons}
use Rattle.std.proofs.lemmas.Option.{slice_get_past, slice_get_within}
use borrow.Author.Tests.{leb-true, ne_eqb}
use Rattle.clap.specs.Words.{Text}
use Rattle.clap.specs.Walk.{has_row}
use Rattle.fort_answers.specs.Requests.{Request}
use Rattle.fort_answers.specs.Commands.{Command, Parameter, Flag, Setting, NumberWord, TextWord}
use Rattle.fort_answers.specs.CommandGrammar.{Item, Set, Value, Word, asked_by, is_not_repeated, is_complete, is_named, is_under, is_word, text_of, with_item, words_among}
use Rattle.fort_words.proofs.Turns.{cases_of}
use Rattle.fort_words.proofs.RowRules.{are_distinct, has_word, parameter_name, named_as, names_are, not_from, word_not_named, words_of}
use Rattle.fort_words.proofs.RowItems.{Apart, found_rows, has_found, none_found, row, rows_of, text_in, word_for}

-- each name at most once, not too many words, and no other names
pub record IsOpen (parameters : List Parameter) (items : List Item) : Type 0 where
  pub once : (name : Text) → count_by (is_under name) items ≤ 1
  pub words : length (words_among items) ≤ length (words_of parameters)
  pub named : (name : Text) → list_any (is_under name) items ≡ true → is_some (find (is_named name) parameters) ≡ true

pub open_first : (parameters : List Parameter) → IsOpen parameters []
open_first parameters = record { once = λ name. omega arith; words = omega arith; named = λ name e. cc }

-- ---- which names have rows

some_of_none : (o : Option Parameter) → o ≡ None → is_some o ≡ true → ⊥
some_of_none None e h = absurd (cc)
some_of_none (Some p) e h = absurd (cc)

pub apart : (parameters : List Parameter) (items : List Item) → are_distinct parameters ≡ true → IsOpen parameters items → Apart (words_of parameters) items
apart parameters items d o k n e = elim (cases_of (list_any (is_under n) items)) [
  | inl h ↦ absurd (some_of_none _ (word_not_named parameters k n d e) (o.named n h))
  | inr h ↦ h
]

-- the names of the words are all different
abbrev pub AreUnlike : List Text → Type 0
AreUnlike names = (j k : ℕ) (n : Text) → slice_get names j ≡ Some n → slice_get names k ≡ Some n → j ≡ k

pub word_past : (id : Text) (names ws : List Text) → ((k : ℕ) (n : Text) → slice_get names k ≡ Some n → bytes_eq n id ≡ false) → word_for id names ws ≡ None
word_past id [] ws h = refl
word_past id (n ∷ ns) ws h = let test = h 0 n refl in rw test (word_past id ns (drop 1 ws) (λ k m e. h (suc k) m e))

some_text : (name : Text) (items : List Item) → is_some (text_in name items) ≡ list_any (is_under name) items
some_text name [] = refl
some_text name (item ∷ rest) = elim (cases_of (is_under name item)) [ inl e ↦ simp e refl | inr e ↦ simp e (some_text name rest) ]

some_row : (id : Text) (o : Option Text) → is_some (option_map (row id) o) ≡ is_some o
some_row id None = refl
some_row id (Some t) = refl

pub or_none : {X : Type 0} (o : Option X) → option_or o None ≡ o
or_none None = refl
or_none (Some x) = refl

pub has_row_named : (parameters : List Parameter) (items : List Item) (name : Text) (parameter : Parameter) → are_distinct parameters ≡ true → IsOpen parameters items
    → find (is_named name) parameters ≡ Some parameter → has_row name (rows_of items (words_of parameters)) ≡ list_any (is_under name) items
has_row_named parameters items name parameter d o e =
    let names = words_of parameters in
    let none : word_for name names (words_among items) ≡ None = word_past name names (words_among items) (λ k n h.
    elim (cases_of (bytes_eq n name)) [
      | inl same ↦ absurd (some_of_none (find (is_named n) parameters) (word_not_named parameters k n d h) (ap (λ m. is_some (find (is_named m) parameters)) (names_are n name same) ∙ ap is_some e))
      | inr other ↦ other
    ]) in
    has_found name (rows_of items names) ∙ ap is_some (found_rows name items names (apart parameters items d o))
    ∙ some_row name (option_or (text_in name items) (word_for name names (words_among items)))
    ∙ ap (λ w. is_some (option_or (text_in name items) w)) none ∙ ap is_some (or_none (text_in name items)) ∙ some_text name items

-- ---- which word goes to a name

unlike_behind : (n : Text) (ns : List Text) → AreUnlike (n ∷ ns) → AreUnlike ns
unlike_behind n ns u j k m e f = let same = u (suc j) (suc k) m e f in omega arith

pub word_for_is : (k : ℕ) (name : Text) (names ws : List Text) → AreUnlike names → slice_get names k ≡ Some name → word_for name names ws ≡ slice_get ws k
word_for_is k name [] ws u e = absurd (cc)
word_for_is zero name (n ∷ ns) ws u e = let same : n ≡ name = cc in let test = named_as n name same in rw test refl
word_for_is (suc k) name (n ∷ ns) ws u e = elim (cases_of (bytes_eq n name)) [
  | inl same ↦ let clash = u 0 (suc k) name (ap Some (names_are n name same)) e in absurd (omega arith)
  | inr other ↦ rw other (word_for_is k name ns (drop 1 ws) (unlike_behind n ns u) e ∙ shifted ws k)
]
  where
    shifted : (ws : List Text) (k : ℕ) → slice_get (drop 1 ws) k ≡ slice_get ws (suc k)
    shifted [] k = refl
    shifted (w ∷ ws) k = refl

unlike_more : (n : Text) (ns : List Text) → ((k : ℕ) → slice_get ns k ≡ Some n → ⊥) → AreUnlike ns → AreUnlike (n ∷ ns)
unlike_more n ns apart u zero zero m e f = refl
unlike_more n ns apart u zero (suc k) m e f = let same : m ≡ n = cc in absurd (apart k (f ∙ ap Some same))
unlike_more n ns apart u (suc j) zero m e f = let same : m ≡ n = cc in absurd (apart j (e ∙ ap Some same))
unlike_more n ns apart u (suc j) (suc k) m e f = ap suc (u j k m e f)

first_unlike : (first : Parameter) (rest : List Parameter) → are_distinct (first ∷ rest) ≡ true → (k : ℕ) → slice_get (words_of rest) k ≡ Some (parameter_name first) → ⊥
first_unlike first rest d k e = true≢false (sym (has_word rest k (parameter_name first) e) ∙ not_from _ (and_parts _ _ d).0)

pub words_unlike : (parameters : List Parameter) → are_distinct parameters ≡ true → AreUnlike (words_of parameters)
words_unlike [] d = λ j k n e f. absurd (cc)
words_unlike (Flag own ∷ rest) d = words_unlike rest (and_parts _ _ d).1
words_unlike (Setting number default ∷ rest) d = words_unlike rest (and_parts _ _ d).1
words_unlike (NumberWord number ∷ rest) d = unlike_more number.name (words_of rest) (first_unlike (NumberWord number) rest d) (words_unlike rest (and_parts _ _ d).1)
words_unlike (TextWord own ∷ rest) d = unlike_more own (words_of rest) (first_unlike (TextWord own) rest d) (words_unlike rest (and_parts _ _ d).1)

-- the next word has no row yet
pub has_row_next : (parameters : List Parameter) (items : List Item) (name : Text) → are_distinct parameters ≡ true → IsOpen parameters items
    → slice_get (words_of parameters) (length (words_among items)) ≡ Some name → has_row name (rows_of items (words_of parameters)) ≡ false
has_row_next parameters items name d o e =
    let names = words_of parameters in
    let ws = words_among items in
    let far = apart parameters items d o in
    let none : text_in name items ≡ None = ap (option_map text_of) (none_found (is_under name) items (far (length ws) name e)) in
    let no_word : word_for name names ws ≡ None = word_for_is (length ws) name names ws (words_unlike parameters d) e ∙ slice_get_past ws (length ws) (omega arith) in
    has_found name (rows_of items names) ∙ ap is_some (found_rows name items names far) ∙ rw (none, no_word) refl

-- ---- one more item

words_more : (xs ys : List Item) → words_among (xs ++ ys) ≡ words_among xs ++ words_among ys
words_more [] ys = refl
words_more (Set name ∷ rest) ys = words_more rest ys
words_more (Value name text ∷ rest) ys = words_more rest ys
words_more (Word text ∷ rest) ys = ap (λ (ts : List Text). text ∷ ts) (words_more rest ys)

-- a flag or a choice of this name
pub record IsOf (name : Text) (item : Item) : Type 0 where
  pub under : (m : Text) → is_under m item ≡ bytes_eq name m
  pub no_word : words_among (item ∷ []) ≡ []

pub of_set : (name : Text) → IsOf name (Set name)
of_set name = record { under = λ m. refl; no_word = refl }

pub of_value : (name text : Text) → IsOf name (Value name text)
of_value name text = record { under = λ m. refl; no_word = refl }

no_count : (p : Item → Bool) (xs : List Item) → list_any p xs ≡ false → count_by p xs ≡ 0
no_count p [] e = refl
no_count p (x ∷ xs) e =
    let parts = or_parts (p x) (list_any p xs) e in
    sum_by-cons (λ y. cond (p y) 1 0) x xs ∙ ap₂ (λ b n. cond b 1 0 + n) parts.0 (no_count p xs parts.1) ∙ omega arith

some_count : (p : Item → Bool) (xs : List Item) → list_any p xs ≡ true → 1 ≤ count_by p xs
some_count p [] e = cc
some_count p (x ∷ xs) e = subst (λ n. 1 ≤ n) (sym (sum_by-cons (λ y. cond (p y) 1 0) x xs)) (elim (cases_of (p x)) [
  | inl h ↦ rw h (omega arith)
  | inr h ↦ let rest = some_count p xs (rw h at e) in rw h (omega arith)
])

count_more : (p : Item → Bool) (xs ys : List Item) → count_by p (xs ++ ys) ≡ count_by p xs + count_by p ys
count_more p xs ys = sum_by-append (λ y. cond (p y) 1 0) xs ys

one_count : (p : Item → Bool) (x : Item) (b : Bool) → p x ≡ b → count_by p (x ∷ []) ≡ cond b 1 0
one_count p x b e = rw e (omega arith)

pub length_more : (xs : List Item) (x : Item) (ts : List Text) → words_among (x ∷ []) ≡ ts → length (words_among (xs ++ x ∷ [])) ≡ length (words_among xs) + length ts
length_more xs x ts e = ap length (words_more xs (x ∷ []) ∙ ap (λ us. words_among xs ++ us) e) ∙ length-append (words_among xs) ts

pub open_named : (parameters : List Parameter) (items : List Item) (name : Text) (parameter : Parameter) (item : Item) → IsOpen parameters items → IsOf name item
    → find (is_named name) parameters ≡ Some parameter → list_any (is_under name) items ≡ false → IsOpen parameters (items ++ item ∷ [])
open_named parameters items name parameter item o is e none = record {
  once = λ m. elim (cases_of (bytes_eq name m)) [
    | inl same ↦
        let zero_before = no_count (is_under m) items (ap (λ t. list_any (is_under t) items) (sym (names_are name m same)) ∙ none) in
        let one = one_count (is_under m) item true (is.under m ∙ same) in
        let all = count_more (is_under m) items (item ∷ []) in omega arith
    | inr other ↦
        let before = o.once m in
        let one = one_count (is_under m) item false (is.under m ∙ other) in
        let all = count_more (is_under m) items (item ∷ []) in omega arith
  ];
  words = let before = o.words in let more = length_more items item [] is.no_word in omega arith;
  named = λ m h. elim (cases_of (bytes_eq name m)) [
    | inl same ↦ ap (λ t. is_some (find (is_named t) parameters)) (sym (names_are name m same)) ∙ ap is_some e
    | inr other ↦ o.named m (only_before m (is.under m ∙ other) (sym (list_any-append (is_under m) items (item ∷ [])) ∙ h))
  ];
}
  where
    only_before : (m : Text) → is_under m item ≡ false → (list_any (is_under m) items || list_any (is_under m) (item ∷ [])) ≡ true → list_any (is_under m) items ≡ true
    only_before m other h = elim (cases_of (list_any (is_under m) items)) [ inl has ↦ has | inr has_not ↦ absurd (true≢false (sym h ∙ rw (has_not, other) refl)) ]

pub open_word : (parameters : List Parameter) (items : List Item) (name text : Text) → IsOpen parameters items → slice_get (words_of parameters) (length (words_among items)) ≡ Some name
    → IsOpen parameters (items ++ Word text ∷ [])
open_word parameters items name text o e = record {
  once = λ m. let before = o.once m in let all = count_more (is_under m) items (Word text ∷ []) in let one = one_count (is_under m) (Word text) false refl in omega arith;
  words = let inside = slice_get_within (words_of parameters) (length (words_among items)) name e in let more = length_more items (Word text) (text ∷ []) refl in omega arith;
  named = λ m h. o.named m (only_before m (sym (list_any-append (is_under m) items (Word text ∷ [])) ∙ h));
}
  where
    only_before : (m : Text) → (list_any (is_under m) items || false) ≡ true → list_any (is_under m) items ≡ true
    only_before m h = elim (cases_of (list_any (is_under m) items)) [ inl has ↦ has | inr has_not ↦ absurd (true≢false (sym h ∙ rw has_not refl)) ]

-- ---- items that ask nothing, whatever follows

abbrev pub IsDead : Command → List Item → Type 0
IsDead command items = (more : List Item) → asked_by command (items ++ more) ≡ None

abbrev has_all_words : Command → List Item → Bool
has_all_words command items = length (words_among items) == count_by is_word command.parameters

unfit : (command : Command) (items : List Item) → is_complete command.parameters items ≡ false → asked_by command items ≡ None
unfit command items e = rw e refl

more_than_one : (n : ℕ) → 2 ≤ n → nat_le n 1 ≡ false
more_than_one n h = elim (cases_of (nat_le n 1)) [
  | inl e ↦ let low = leb-true n 1 e in absurd (omega arith)
  | inr e ↦ e
]

twice_fails : (parameters : List Parameter) (items : List Item) (name : Text) (parameter : Parameter) → find (is_named name) parameters ≡ Some parameter → 2 ≤ count_by (is_under name) items
    → list_all (is_not_repeated items) parameters ≡ false
twice_fails [] items name parameter e h = absurd (cc)
twice_fails (first ∷ rest) items name parameter e h = elim (cases_of (is_named name first)) [
  | inl named ↦ and_left _ _ (at first named)
  | inr other ↦ and_right (is_not_repeated items first) _ (twice_fails rest items name parameter (rw other at e) h)
]
  where
    under : (own : Text) → bytes_eq own name ≡ true → nat_le (count_by (is_under own) items) 1 ≡ false
    under own same = more_than_one _ (subst (λ m. 2 ≤ count_by (is_under m) items) (sym (names_are own name same)) h)

    at : (p : Parameter) → is_named name p ≡ true → is_not_repeated items p ≡ false
    at (Flag own) same = under own same
    at (Setting number default) same = under number.name same
    at (NumberWord number) same = cc
    at (TextWord own) same = cc

pub dead_named : (command : Command) (items : List Item) (name : Text) (parameter : Parameter) (item : Item) → IsOf name item → find (is_named name) command.parameters ≡ Some parameter
    → list_any (is_under name) items ≡ true → IsDead command (items ++ item ∷ [])
dead_named command items name parameter item is e has more =
    let before = some_count (is_under name) items has in
    let one = one_count (is_under name) item true (is.under name ∙ named_as name name refl) in
    let both = count_more (is_under name) items (item ∷ []) in
    let all = count_more (is_under name) (items ++ item ∷ []) more in
    let whole = (items ++ item ∷ []) ++ more in
    unfit command whole (and_left (list_all (is_not_repeated whole) command.parameters) (has_all_words command whole) (twice_fails command.parameters whole name parameter e (omega arith)))

pub count_words : (parameters : List Parameter) → count_by is_word parameters ≡ length (words_of parameters)
count_words [] = refl
count_words (Flag own ∷ rest) = sum_by-cons (λ y. cond (is_word y) 1 0) (Flag own) rest ∙ ap (λ n. 0 + n) (count_words rest) ∙ omega arith
count_words (Setting number default ∷ rest) = sum_by-cons (λ y. cond (is_word y) 1 0) (Setting number default) rest ∙ ap (λ n. 0 + n) (count_words rest) ∙ omega arith
count_words (NumberWord number ∷ rest) = sum_by-cons (λ y. cond (is_word y) 1 0) (NumberWord number) rest ∙ ap (λ n. 1 + n) (count_words rest) ∙ omega arith
count_words (TextWord own ∷ rest) = sum_by-cons (λ y. cond (is_word y) 1 0) (TextWord own) rest ∙ ap (λ n. 1 + n) (count_words rest) ∙ omega arith

past_end : {X : Type 0} (xs : List X) (k : ℕ) → slice_get xs k ≡ None → length xs ≤ k
past_end [] k e = omega arith
past_end (x ∷ xs) zero e = absurd (cc)
past_end (x ∷ xs) (suc k) e = let rest = past_end xs k e in omega arith

pub dead_word : (command : Command) (items : List Item) (text : Text) → slice_get (words_of command.parameters) (length (words_among items)) ≡ None
    → IsDead command (items ++ Word text ∷ [])
dead_word command items text e more =
    let past = past_end (words_of command.parameters) (length (words_among items)) e in
    let one = length_more items (Word text) (text ∷ []) refl in
    let all = ap length (words_more (items ++ Word text ∷ []) more) ∙ length-append (words_among (items ++ Word text ∷ [])) (words_among more) in
    let wanted = count_words command.parameters in
    let whole = (items ++ Word text ∷ []) ++ more in
    let differs : length (words_among whole) ≡ count_by is_word command.parameters → ⊥ = λ same. omega arith in
    unfit command whole (and_right (list_all (is_not_repeated whole) command.parameters) (has_all_words command whole) (ne_eqb (length (words_among whole)) (count_by is_word command.parameters) differs))

-- ---- what the rest of the words adds

abbrev pub after : Command → List Item → Option (List Item) → Option Request
after command all rest = option_and_then (λ items. asked_by command (all ++ items)) rest

pub after_more : (command : Command) (all : List Item) (x : Item) (rest : Option (List Item)) → after command (all ++ x ∷ []) rest ≡ after command all (with_item x rest)
after_more command all x None = refl
after_more command all x (Some items) = ap (asked_by command) (append_assoc all (x ∷ []) items)

pub after_dead : (command : Command) (all : List Item) (rest : Option (List Item)) → IsDead command all → after command all rest ≡ None
after_dead command all None d = refl
after_dead command all (Some items) d = d items

pub dead_more : (command : Command) (all : List Item) (x : Item) (rest : Option (List Item)) → IsDead command (all ++ x ∷ [])
    → None ≡ after command all (with_item x rest)
dead_more command all x rest d = sym (after_dead command (all ++ x ∷ []) rest d) ∙ after_more command all x rest
