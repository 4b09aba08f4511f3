-- The rules of a command's level: which one a name, a place or an id finds.
use Rattle.std.proofs.Common.{◌≡◌, ◌∙◌, ◌≤◌, ◌+◌, ℕ, zero, suc, min, List, [], ◌∷◌, ◌++◌, Bool, true, false, refl, ap, sym, codes, map, length, arith, inl, inr, eq-eqb, true≢false}
use borrow.Author.Tests.{ne_eqb}
use Rattle.std.specs.Prelude.{◌==◌, ◌&&◌, not, Option, Some, None, find, option_map, slice_get, if◌then◌else◌}
use Rattle.std.specs.List.{list_any}
use Rattle.std.specs.Option.{option_or}
use Rattle.std.specs.Str.{bytes_eq}
use Rattle.std.proofs.lemmas.Bool.{and_parts, or_parts, or_right, or_left}
use Rattle.std.proofs.lemmas.Slice.Eq.{bytes_eq-Decides}
use Rattle.clap.specs.Words.{Rule, Text}
use Rattle.clap.specs.Walk.{arg_by_id, arg_by_index, arg_by_long, arg_by_short}
use Rattle.clap.specs.Simple.{filled, filled_from, help_rule, index_after, with_index}
use Rattle.clap.specs.Lexer.{usize_max}
use Rattle.fort_answers.specs.Commands.{Parameter, Flag, Setting, NumberWord, TextWord}
use Rattle.fort_answers.specs.CommandGrammar.{is_named}
use Rattle.fort_words.specs.CommandLine.{rule_for, word}
use Rattle.fort_words.proofs.Turns.{cases_of}

-- ---- names

abbrev pub parameter_name : Parameter → Text
parameter_name (Flag name) = name
parameter_name (Setting number default) = number.name
parameter_name (NumberWord number) = number.name
parameter_name (TextWord name) = name

abbrev pub is_called : Text → Parameter → Bool
is_called id parameter = bytes_eq (parameter_name parameter) id

-- the names of the words, in order
abbrev pub words_of : List Parameter → List Text
words_of [] = []
words_of (Flag name ∷ rest) = words_of rest
words_of (Setting number default ∷ rest) = words_of rest
words_of (NumberWord number ∷ rest) = number.name ∷ words_of rest
words_of (TextWord name ∷ rest) = name ∷ words_of rest

abbrev pub has_parameter : Text → List Parameter → Bool
has_parameter id parameters = list_any (is_called id) parameters

abbrev pub are_distinct : List Parameter → Bool
are_distinct [] = true
are_distinct (parameter ∷ rest) = not (has_parameter (parameter_name parameter) rest) && are_distinct rest

-- far below where clap stops counting places
abbrev pub most_words : ℕ
most_words = 1000

pub names_are : (a b : Text) → bytes_eq a b ≡ true → a ≡ b
names_are a b e = (bytes_eq-Decides a b).0 e

pub named_as : (a b : Text) → a ≡ b → bytes_eq a b ≡ true
named_as a b e = (bytes_eq-Decides a b).1 e

pub not_from : (b : Bool) → not b ≡ true → b ≡ false
not_from true e = absurd (true≢false (sym e))
not_from false e = refl

-- ---- rules

abbrev pub rules_from : ℕ → List Parameter → List Rule
rules_from i parameters = filled_from i (map rule_for parameters ++ help_rule ∷ [])

abbrev pub rules : List Parameter → List Rule
rules parameters = rules_from 1 parameters

abbrev pub help_filled : Rule
help_filled = filled help_rule

abbrev pub named_rule : Parameter → Rule
named_rule parameter = filled (rule_for parameter)

abbrev pub word_rule : ℕ → Text → Rule
word_rule i name = with_index i (filled (word name))

abbrev help_by : Bool → Option Rule
help_by b = if b then Some help_filled else None

-- by a long name
pub by_long : (parameters : List Parameter) (i : ℕ) (name : Text)
    → arg_by_long (rules_from i parameters) name ≡ option_or (option_map named_rule (find (is_named name) parameters)) (help_by (bytes_eq (codes "help") name))
by_long [] i name = elim (cases_of (bytes_eq (codes "help") name)) [ inl e ↦ simp e refl | inr e ↦ simp e refl ]
by_long (Flag own ∷ rest) i name = elim (cases_of (bytes_eq own name)) [ inl e ↦ simp e refl | inr e ↦ simp e (by_long rest i name) ]
by_long (Setting number default ∷ rest) i name = elim (cases_of (bytes_eq number.name name)) [ inl e ↦ simp e refl | inr e ↦ simp e (by_long rest i name) ]
by_long (NumberWord number ∷ rest) i name = by_long rest _ name
by_long (TextWord own ∷ rest) i name = by_long rest _ name

-- by a short one
pub by_short : (parameters : List Parameter) (i c : ℕ) → arg_by_short (rules_from i parameters) c ≡ help_by (104 == c)
by_short [] i c = elim (cases_of (104 == c)) [ inl e ↦ simp e refl | inr e ↦ simp e refl ]
by_short (Flag own ∷ rest) i c = by_short rest i c
by_short (Setting number default ∷ rest) i c = by_short rest i c
by_short (NumberWord number ∷ rest) i c = by_short rest _ c
by_short (TextWord own ∷ rest) i c = by_short rest _ c

-- by a place: those of the words count from i
pub by_place : (parameters : List Parameter) (i j k : ℕ) → j ≡ i + k → i + length (words_of parameters) ≤ most_words + 1
    → arg_by_index (rules_from i parameters) j ≡ option_map (word_rule j) (slice_get (words_of parameters) k)
by_place [] i j k e is_complete = refl
by_place (Flag own ∷ rest) i j k e is_complete = by_place rest i j k e is_complete
by_place (Setting number default ∷ rest) i j k e is_complete = by_place rest i j k e is_complete
by_place (NumberWord number ∷ rest) i j zero e is_complete =
    let same : i ≡ j = omega arith in
    let here = eq-eqb i j same in simp here (ap (λ n. Some (word_rule n number.name)) same)
by_place (NumberWord number ∷ rest) i j (suc k) e is_complete =
    let next : min (i + 1) usize_max ≡ i + 1 = omega arith in
    let other : (i == j) ≡ false = ne_eqb i j (λ s. omega arith) in
    simp (other, next) (by_place rest (i + 1) j k (omega arith) (omega arith))
by_place (TextWord own ∷ rest) i j zero e is_complete =
    let same : i ≡ j = omega arith in
    let here = eq-eqb i j same in simp here (ap (λ n. Some (word_rule n own)) same)
by_place (TextWord own ∷ rest) i j (suc k) e is_complete =
    let next : min (i + 1) usize_max ≡ i + 1 = omega arith in
    let other : (i == j) ≡ false = ne_eqb i j (λ s. omega arith) in
    simp (other, next) (by_place rest (i + 1) j k (omega arith) (omega arith))

-- ---- by an id

-- the parameter of this id
abbrev pub part_called : Text → List Parameter → Option Parameter
part_called id parameters = find (is_called id) parameters

id_is : (parameter : Parameter) → (rule_for parameter).id ≡ parameter_name parameter
id_is (Flag own) = refl
id_is (Setting number default) = refl
id_is (NumberWord number) = refl
id_is (TextWord own) = refl

-- its rule, whichever its place
pub by_id : (parameters : List Parameter) (i : ℕ) (id : Text) (parameter : Parameter) → part_called id parameters ≡ Some parameter
    → (j : ℕ) × (arg_by_id (rules_from i parameters) id ≡ Some (with_index j (named_rule parameter)))
by_id [] i id parameter e = absurd (cc)
by_id (first ∷ rest) i id parameter e = elim (cases_of (is_called id first)) [
  | inl h ↦
      let test : bytes_eq (rule_for first).id id ≡ true = ap (λ t. bytes_eq t id) (id_is first) ∙ h in
      let here = rw h at e in
      let same : first ≡ parameter = cc in
      (i, rw test (ap (λ p. Some (with_index i (named_rule p))) same))
  | inr h ↦
      let test : bytes_eq (rule_for first).id id ≡ false = ap (λ t. bytes_eq t id) (id_is first) ∙ h in
      let found = rw h at e in
      let rest_is = by_id rest (index_after i (rule_for first)) id parameter found in
      (rest_is.0, rw test rest_is.1)
]

-- ---- none but the parameter itself has its name

later : (first : Parameter) (rest : List Parameter) (name : Text) → are_distinct (first ∷ rest) ≡ true → has_parameter name rest ≡ true → is_called name first ≡ false
later first rest name d has = elim (cases_of (is_called name first)) [
  | inl h ↦
      let none = not_from (has_parameter (parameter_name first) rest) (and_parts _ _ d).0 in
      absurd (true≢false (sym has ∙ ap (λ t. has_parameter t rest) (sym (names_are (parameter_name first) name h)) ∙ none))
  | inr h ↦ h
]

called_if_named : (name : Text) (parameter : Parameter) → is_named name parameter ≡ true → is_called name parameter ≡ true
called_if_named name (Flag own) e = e
called_if_named name (Setting number default) e = e
called_if_named name (NumberWord number) e = cc
called_if_named name (TextWord own) e = cc

pub has_named : (parameters : List Parameter) (name : Text) (parameter : Parameter) → find (is_named name) parameters ≡ Some parameter → has_parameter name parameters ≡ true
has_named [] name parameter e = absurd (cc)
has_named (first ∷ rest) name parameter e = elim (cases_of (is_named name first)) [
  | inl h ↦ or_left _ _ (called_if_named name first h)
  | inr h ↦ or_right _ _ (has_named rest name parameter (rw h at e))
]

pub named_called : (parameters : List Parameter) (name : Text) (parameter : Parameter) → are_distinct parameters ≡ true → find (is_named name) parameters ≡ Some parameter
    → part_called name parameters ≡ Some parameter
named_called [] name parameter d e = absurd (cc)
named_called (first ∷ rest) name parameter d e = elim (cases_of (is_named name first)) [
  | inl h ↦ let called = called_if_named name first h in rw called (rw h at e)
  | inr h ↦
      let found = rw h at e in
      let other = later first rest name d (has_named rest name parameter found) in
      rw other (named_called rest name parameter (and_parts _ _ d).1 found)
]

pub has_word : (parameters : List Parameter) (k : ℕ) (name : Text) → slice_get (words_of parameters) k ≡ Some name → has_parameter name parameters ≡ true
has_word [] k name e = absurd (cc)
has_word (Flag own ∷ rest) k name e = or_right _ _ (has_word rest k name e)
has_word (Setting number default ∷ rest) k name e = or_right _ _ (has_word rest k name e)
has_word (NumberWord number ∷ rest) zero name e = let same : number.name ≡ name = cc in or_left (bytes_eq number.name name) _ (named_as _ _ same)
has_word (NumberWord number ∷ rest) (suc k) name e = or_right _ _ (has_word rest k name e)
has_word (TextWord own ∷ rest) zero name e = let same : own ≡ name = cc in or_left (bytes_eq own name) _ (named_as _ _ same)
has_word (TextWord own ∷ rest) (suc k) name e = or_right _ _ (has_word rest k name e)

pub record IsWordAt (parameters : List Parameter) (name : Text) (parameter : Parameter) : Type 0 where
  pub called : part_called name parameters ≡ Some parameter
  pub rule : rule_for parameter ≡ word name

still_word : (first : Parameter) (rest : List Parameter) (name : Text) (parameter : Parameter) → are_distinct (first ∷ rest) ≡ true → has_parameter name rest ≡ true → IsWordAt rest name parameter
    → IsWordAt (first ∷ rest) name parameter
still_word first rest name parameter d has is = let other = later first rest name d has in record { called = rw other is.called; rule = is.rule }

pub word_called : (parameters : List Parameter) (k : ℕ) (name : Text) → are_distinct parameters ≡ true → slice_get (words_of parameters) k ≡ Some name
    → (parameter : Parameter) × IsWordAt parameters name parameter
word_called [] k name d e = absurd (cc)
word_called (Flag own ∷ rest) k name d e =
    let is = word_called rest k name (and_parts _ _ d).1 e in (is.0, still_word (Flag own) rest name is.0 d (has_word rest k name e) is.1)
word_called (Setting number default ∷ rest) k name d e =
    let is = word_called rest k name (and_parts _ _ d).1 e in (is.0, still_word (Setting number default) rest name is.0 d (has_word rest k name e) is.1)
word_called (NumberWord number ∷ rest) zero name d e =
    let same : number.name ≡ name = cc in
    let test = named_as number.name name same in
    (NumberWord number, record { called = rw test refl; rule = ap word same })
word_called (NumberWord number ∷ rest) (suc k) name d e =
    let is = word_called rest k name (and_parts _ _ d).1 e in (is.0, still_word (NumberWord number) rest name is.0 d (has_word rest k name e) is.1)
word_called (TextWord own ∷ rest) zero name d e =
    let same : own ≡ name = cc in
    let test = named_as own name same in
    (TextWord own, record { called = rw test refl; rule = ap word same })
word_called (TextWord own ∷ rest) (suc k) name d e =
    let is = word_called rest k name (and_parts _ _ d).1 e in (is.0, still_word (TextWord own) rest name is.0 d (has_word rest k name e) is.1)

-- a word's rule by its id
pub word_by_id : (parameters : List Parameter) (i k : ℕ) (name : Text) → are_distinct parameters ≡ true → slice_get (words_of parameters) k ≡ Some name
    → (j : ℕ) × (arg_by_id (rules_from i parameters) name ≡ Some (word_rule j name))
word_by_id parameters i k name d e =
    let is = word_called parameters k name d e in
    let found = by_id parameters i name is.0 is.1.called in
    (found.0, found.1 ∙ ap (λ r. Some (with_index found.0 (filled r))) is.1.rule)

pub none_named : (parameters : List Parameter) (name : Text) → has_parameter name parameters ≡ false → find (is_named name) parameters ≡ None
none_named [] name e = refl
none_named (Flag own ∷ rest) name e = let p = or_parts (bytes_eq own name) _ e in let test = p.0 in rw test (none_named rest name p.1)
none_named (Setting number default ∷ rest) name e = let p = or_parts (bytes_eq number.name name) _ e in let test = p.0 in rw test (none_named rest name p.1)
none_named (NumberWord number ∷ rest) name e = none_named rest name (or_parts _ _ e).1
none_named (TextWord own ∷ rest) name e = none_named rest name (or_parts _ _ e).1

first_apart : (first : Parameter) (rest : List Parameter) (name : Text) → are_distinct (first ∷ rest) ≡ true → parameter_name first ≡ name → has_parameter name rest ≡ false
first_apart first rest name d same = ap (λ t. has_parameter t rest) (sym same) ∙ not_from _ (and_parts _ _ d).0

-- no flag and no choice has a word's name
pub word_not_named : (parameters : List Parameter) (k : ℕ) (name : Text) → are_distinct parameters ≡ true → slice_get (words_of parameters) k ≡ Some name → find (is_named name) parameters ≡ None
word_not_named [] k name d e = refl
word_not_named (Flag own ∷ rest) k name d e =
    let other = later (Flag own) rest name d (has_word rest k name e) in rw other (word_not_named rest k name (and_parts _ _ d).1 e)
word_not_named (Setting number default ∷ rest) k name d e =
    let other = later (Setting number default) rest name d (has_word rest k name e) in rw other (word_not_named rest k name (and_parts _ _ d).1 e)
word_not_named (NumberWord number ∷ rest) zero name d e = none_named rest name (first_apart (NumberWord number) rest name d cc)
word_not_named (NumberWord number ∷ rest) (suc k) name d e = word_not_named rest k name (and_parts _ _ d).1 e
word_not_named (TextWord own ∷ rest) zero name d e = none_named rest name (first_apart (TextWord own) rest name d cc)
word_not_named (TextWord own ∷ rest) (suc k) name d e = word_not_named rest k name (and_parts _ _ d).1 e
