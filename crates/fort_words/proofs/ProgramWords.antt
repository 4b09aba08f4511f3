-- What the program's matches ask is what the words ask by their own grammar.
use Rattle.std.proofs.Common.{◌≡◌, ◌∙◌, ℕ, List, [], ◌∷◌, Bool, true, refl, ap, ap₂, sym, subst, codes, inl, inr, map, length, String, string_bytes}
use Rattle.std.specs.Prelude.{◌==◌, ◌&&◌, not, Option, Some, None, find, option_and_then, nat_le}
use Rattle.std.specs.List.{list_all}
use Rattle.std.specs.Str.{bytes_eq}
use Rattle.std.proofs.lemmas.Bool.{and_parts}
use Rattle.std.proofs.lemmas.Bool.Decides.{Decides-eqb}
use Rattle.std.proofs.lemmas.Str.{IsUtf8-string_bytes}
use borrow.Author.Tests.{leb-true}
use Rattle.clap.specs.Words.{Kinds, Row, Text, fault_of}
use Rattle.fort_answers.specs.Requests.{Request}
use Rattle.fort_answers.specs.Commands.{Command, commands}
use Rattle.fort_answers.specs.CommandGrammar.{command_named, dashes, is_plain, request_by, request_of}
use Rattle.fort_words.specs.Matches.{asked_in, read_by, request_in, where_faultless}
use Rattle.fort_words.specs.CommandLine.{program}
use Rattle.fort_words.proofs.Turns.{AreWords, IsWord, cases_of, is_word, long_word, some_kinds}
use Rattle.fort_words.proofs.RowRules.{are_distinct, most_words, not_from, words_of}
use Rattle.fort_words.proofs.RowPlaces.{IsLawful}
use Rattle.fort_words.proofs.RowLevel.{level_reads}
use Rattle.fort_words.proofs.Program.{dashes_fail, fault_is, first_fails, help_fails, is_for, long_fails, named_in, no_word, no_words, own_name, plain_fails, short_fails, subcommand_is}

-- clap can tell the parameters of the row apart, and the row from its own `help`
abbrev is_lawful : Command → Bool
is_lawful command = not (bytes_eq command.name (codes "help")) && (are_distinct command.parameters && nat_le (length (words_of command.parameters)) most_words)

commands_lawful : list_all is_lawful commands ≡ true
commands_lawful = refl

all_found : {X : Type 0} (p q : X → Bool) (xs : List X) (x : X) → list_all q xs ≡ true → find p xs ≡ Some x → q x ≡ true
all_found p q [] x all e = absurd (cc)
all_found p q (y ∷ ys) x all e = elim (cases_of (p y)) [
  | inl h ↦ let here = rw h at e in let same : y ≡ x = cc in subst (λ z. q z ≡ true) same (and_parts (q y) (list_all q ys) all).0
  | inr h ↦ all_found p q ys x (and_parts (q y) (list_all q ys) all).1 (rw h at e)
]

-- ---- words that name a command

lawful_row : (command : Command) → is_lawful command ≡ true → IsLawful command.parameters
lawful_row command h =
    let parts = and_parts (not (bytes_eq command.name (codes "help"))) _ h in
    let row = and_parts (are_distinct command.parameters) _ parts.1 in
    record { distinct = row.0; few = leb-true (length (words_of command.parameters)) most_words row.1 }

named_reads : (name word : Text) (ws : List Text) (command : Command) → named_in word commands ≡ Some command → AreWords ws
    → request_in (name ∷ word ∷ ws) ≡ request_by command ws
unfolding read_by asked_in
named_reads name word ws command found all =
    let lawful = all_found (is_for word) is_lawful commands command commands_lawful found in
    let other = not_from (bytes_eq command.name (codes "help")) (and_parts (not (bytes_eq command.name (codes "help"))) _ lawful).0 in
    let own = own_name commands word command found in
    let again : command_named command.name ≡ Some command = ap command_named own ∙ found in
    ap₂ (λ (ks : Kinds) (o : Option (Text × List Row)). where_faultless ks (option_and_then asked_in o)) (fault_is commands word command found other name ws)
    (subcommand_is commands word command found name ws)
    ∙ rw again (level_reads command (lawful_row command lawful) ws all)

-- ---- words that name none

refused : (words : List Text) → some_kinds (fault_of (program commands) words) ≡ true → request_in words ≡ None
unfolding read_by
refused words e = by (fault_of (program commands) words) _ e
  where
    by : (kinds : Kinds) (read : Option Request) → some_kinds kinds ≡ true → where_faultless kinds read ≡ None
    by [] read e = cc
    by (k ∷ ks) read e = refl

other_plain : (name word : Text) (ws : List Text) → named_in word commands ≡ None → is_plain word ≡ true → request_in (name ∷ word ∷ ws) ≡ None
other_plain name word ws none p = elim (cases_of (bytes_eq (codes "help") word)) [
  | inl h ↦ refused (name ∷ word ∷ ws) (first_fails commands name word ws (help_fails commands word none h))
  | inr h ↦ refused (name ∷ word ∷ ws) (first_fails commands name word ws (plain_fails commands word none h p))
]

abbrev OtherFails : Text → Text → List Text → Type 0
OtherFails name word ws = named_in word commands ≡ None → IsWord word → request_in (name ∷ word ∷ ws) ≡ None

other_double : (name rest : Text) (ws : List Text) → OtherFails name (45 ∷ 45 ∷ rest) ws
other_double name [] ws none word = refused (name ∷ dashes ∷ ws) (dashes_fail commands name ws none)
other_double name (z ∷ zs) ws none word = refused (name ∷ long_word z zs ∷ ws) (first_fails commands name (long_word z zs) ws (long_fails commands z zs none))

other_hyphen : (name : Text) (y : ℕ) (rest : Text) (ws : List Text) → OtherFails name (45 ∷ y ∷ rest) ws
other_hyphen name y rest ws none word = elim (cases_of (y == 45)) [
  | inl h ↦ subst (λ (n : ℕ). OtherFails name (45 ∷ n ∷ rest) ws) (sym ((Decides-eqb y 45).0 h)) (other_double name rest ws) none word
  | inr h ↦
      let named = word y rest refl in
      refused (name ∷ (45 ∷ y ∷ rest) ∷ ws) (first_fails commands name (45 ∷ y ∷ rest) ws (short_fails commands y named.0 rest none h named.1))
]

other_fails : (name word : Text) (ws : List Text) → OtherFails name word ws
other_fails name [] ws none word = other_plain name [] ws none refl
other_fails name (x ∷ []) ws none word = other_plain name (x ∷ []) ws none refl
other_fails name (x ∷ y ∷ rest) ws none word = elim (cases_of (x == 45)) [
  | inl h ↦ subst (λ (n : ℕ). OtherFails name (n ∷ y ∷ rest) ws) (sym ((Decides-eqb x 45).0 h)) (other_hyphen name y rest ws) none word
  | inr h ↦ other_plain name (x ∷ y ∷ rest) ws none (simp h refl)
]

-- ---- all words

word_then : (name word : Text) (ws : List Text) (found : Option Command) → named_in word commands ≡ found → IsWord word → AreWords ws
    → request_in (name ∷ word ∷ ws) ≡ option_and_then (λ command. request_by command ws) found
word_then name word ws None e is all = other_fails name word ws e is
word_then name word ws (Some command) e is all = named_reads name word ws command e all

pub request_is : (words : List Text) → AreWords words → request_in words ≡ request_of words
unfolding request_of
request_is [] all = refused [] (no_words commands)
request_is (name ∷ []) all = refused (name ∷ []) (no_word commands name)
request_is (name ∷ word ∷ ws) all = word_then name word ws (command_named word) refl all.1.0 all.1.1

pub words_are : {Z : Type 0} (words : List (String Z)) → AreWords (map string_bytes words)
words_are [] = tt
words_are (w ∷ ws) = (is_word (string_bytes w) (IsUtf8-string_bytes w), words_are ws)
