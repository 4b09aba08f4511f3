-- One turn of clap's walk at a subcommand, and what a word can be.
use Rattle.std.proofs.Common.{◌≡◌, ◌∙◌, ℕ, List, [], ◌∷◌, ◌++◌, Bool, true, false, refl, ap, subst, ◌⊎◌, inl, inr}
use Rattle.std.specs.Prelude.{Option, Some, None, ◌==◌, find, not, fold, slice_get}
use Rattle.std.specs.Str.{IsUtf8, bytes_eq, chars, encode_utf8_all}
use Rattle.std.specs.Char.{encode_utf8}
use Rattle.std.specs.List.{after_first, before_first}
use Rattle.std.proofs.lemmas.Str.{IsUtf8-past_char, encodes-chars}
use Rattle.clap.specs.Words.{Kinds, Row, Shape, Text}
use Rattle.clap.specs.Walk.{Held, Walk, finished, settled, walked}
use Rattle.clap.specs.Faults.{check_fault, defaults_fault, settle_fault, turn_fault, walk_fault}
use Rattle.clap.specs.Kinds.{or_else}
use Rattle.clap.specs.Lexer.{long_of, short_of}
use Rattle.fort_answers.specs.Requests.{Request}
use Rattle.fort_words.specs.Matches.{where_faultless}
use Rattle.fort_answers.specs.CommandGrammar.{dashes, is_plain}

pub cases_of : (b : Bool) → (b ≡ true) ⊎ (b ≡ false)
cases_of true = inl refl
cases_of false = inr refl

pub not_true : (b : Bool) → not b ≡ true → b ≡ false
not_true true e = cc
not_true false e = refl

-- the first that passes does pass
pub found_passes : {X : Type 0} (p : X → Bool) (xs : List X) (x : X) → find p xs ≡ Some x → p x ≡ true
found_passes p [] x e = absurd (cc)
found_passes p (y ∷ ys) x e = elim (cases_of (p y)) [
  | inl h ↦ let here = rw h at e in let same : y ≡ x = cc in subst (λ z. p z ≡ true) same h
  | inr h ↦ found_passes p ys x (rw h at e)
]

-- ---- kinds of faults

abbrev pub some_kinds : Kinds → Bool
some_kinds [] = false
some_kinds (k ∷ ks) = true

past : (kinds next : Kinds) → kinds ≡ [] → or_else kinds next ≡ next
past [] next e = refl
past (k ∷ ks) next e = cc

pub failed : (kinds next after : Kinds) (read : Option Request) → some_kinds kinds ≡ true → where_faultless (or_else (or_else kinds next) after) read ≡ None
failed [] next after read e = cc
failed (k ∷ ks) next after read e = refl

pub failed_end : (kinds next : Kinds) (read : Option Request) → some_kinds kinds ≡ true → where_faultless (or_else kinds next) read ≡ None
failed_end [] next read e = cc
failed_end (k ∷ ks) next read e = refl

-- ---- turns, at a subcommand whose rows say what it reads

-- the faults once the walk has ended
abbrev pub after_walk : Shape → Held → Kinds
after_walk leaf end = or_else [] (or_else (settle_fault leaf.rules leaf.args_override_self end)
    (or_else (defaults_fault (settled leaf.rules end).rows leaf.rules) (check_fault leaf (finished leaf.rules end) false)))

-- what is read from a place in the walk on
abbrev pub read_on : Shape → (List Row → Option Request) → Walk → List Text → Option Request
read_on leaf read at ws = let end = (fold (walked leaf.rules []) at ws).held in
    where_faultless (or_else (walk_fault leaf [] at ws) (after_walk leaf end)) (read (finished leaf.rules end))

pub goes_on : (leaf : Shape) (read : List Row → Option Request) (at next : Walk) (word : Text) (ws : List Text) → turn_fault leaf [] at word ≡ []
    → walked leaf.rules [] at word ≡ next → read_on leaf read at (word ∷ ws) ≡ read_on leaf read next ws
unfolding walk_fault
goes_on leaf read at next word ws e f =
    let end = (fold (walked leaf.rules []) (walked leaf.rules [] at word) ws).held in
    ap (λ (kinds : Kinds). where_faultless (or_else kinds (after_walk leaf end)) (read (finished leaf.rules end)))
    (past (turn_fault leaf [] at word) (walk_fault leaf [] (walked leaf.rules [] at word) ws) e)
    ∙ ap (λ (n : Walk). read_on leaf read n ws) f

pub stops : (leaf : Shape) (read : List Row → Option Request) (at : Walk) (word : Text) (ws : List Text) → some_kinds (turn_fault leaf [] at word) ≡ true
    → read_on leaf read at (word ∷ ws) ≡ None
unfolding walk_fault
stops leaf read at word ws e = failed (turn_fault leaf [] at word) _ _ _ e

-- ---- words

-- a plain word: the tests that it passes
pub record PlainTests (w : Text) : Type 0 where
  pub not_dashes : bytes_eq w dashes ≡ false
  pub not_long : long_of w ≡ None
  pub not_short : short_of w ≡ None

pub plain_tests : (w : Text) → is_plain w ≡ true → PlainTests w
plain_tests [] e = record { not_dashes = refl; not_long = refl; not_short = refl }
plain_tests (x ∷ []) e = elim (cases_of (x == 45)) [
  | inl h ↦ record { not_dashes = simp h refl; not_long = simp h refl; not_short = simp h refl }
  | inr h ↦ record { not_dashes = simp h refl; not_long = simp h refl; not_short = simp h refl }
]
plain_tests (x ∷ y ∷ rest) e = let h = not_true (x == 45) e in record { not_dashes = simp h refl; not_long = simp h refl; not_short = simp h refl }

-- `--NAME` or `--NAME=VALUE`
abbrev pub long_word : ℕ → Text → Text
long_word z zs = 45 ∷ 45 ∷ z ∷ zs

abbrev pub name_of : ℕ → Text → Text
name_of z zs = before_first (λ x. x == 61) (z ∷ zs)

abbrev pub value_of : ℕ → Text → Text
value_of z zs = after_first (λ x. x == 61) (z ∷ zs)

-- a flag word names a character behind its hyphen, as each text does
abbrev pub IsWord : Text → Type 0
IsWord w = (y : ℕ) (rest : Text) → w ≡ 45 ∷ y ∷ rest → (c : ℕ) × (slice_get (chars (y ∷ rest)) 0 ≡ Some c)

abbrev pub AreWords : List Text → Type 0
AreWords [] = Unit {0}
AreWords (w ∷ ws) = IsWord w × AreWords ws

head_of : (cs : List ℕ) (y : ℕ) (rest : Text) → encode_utf8_all cs ≡ y ∷ rest → (c : ℕ) × (slice_get cs 0 ≡ Some c)
head_of [] y rest e = absurd (cc)
head_of (c ∷ cs) y rest e = (c, refl)

hyphen_first : (w : Text) (y : ℕ) (rest : Text) → w ≡ 45 ∷ y ∷ rest → w ≡ encode_utf8 45 ++ (y ∷ rest)
unfolding encode_utf8
hyphen_first w y rest e = e

pub is_word : (w : Text) → IsUtf8 w → IsWord w
is_word w u y rest e = head_of (chars (y ∷ rest)) y rest (encodes-chars (y ∷ rest) (IsUtf8-past_char w (y ∷ rest) 45 u (hyphen_first w y rest e)))
