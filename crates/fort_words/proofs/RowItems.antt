-- The items that the words behind a command's name give, and the rows that clap holds of them.
use Rattle.std.proofs.Common.{◌≡◌, ◌∙◌, ℕ, suc, List, [], ◌∷◌, ◌++◌, Bool, false, refl, ap, length, drop, append-nil, inl, inr}
use Rattle.std.specs.Prelude.{Option, Some, None, find, is_some, option_map, slice_get, if◌then◌else◌}
use Rattle.std.specs.List.{list_any}
use Rattle.std.specs.Option.{option_or}
use Rattle.std.specs.Str.{bytes_eq}
use Rattle.std.proofs.lemmas.Bool.{or_parts}
use Rattle.clap.specs.Words.{Row, Text}
use Rattle.clap.specs.declared.parser.matches.ValueSource.TheVariants.{CommandLine}
use Rattle.clap.specs.declared.builder.value_parser.Reading.TheVariants.{AsWritten}
use Rattle.clap.specs.Walk.{at_row, has_row, more_values, used}
use Rattle.fort_answers.specs.Commands.{Number, Flag, Setting, set_text}
use Rattle.fort_answers.specs.CommandGrammar.{Item, Set, Value, Word, is_under, text_of, words_among}
use Rattle.fort_words.proofs.Turns.{cases_of}
use Rattle.fort_words.proofs.RowRules.{named_rule, names_are, word_rule}

-- ---- the rows of items

abbrev pub row : Text → Text → Row
row name text = record { id = name; values = text ∷ []; count = None; source = Some CommandLine; reading = AsWritten }

-- words go to the names in order
abbrev pub rows_of : List Item → List Text → List Row
rows_of [] names = []
rows_of (Set name ∷ rest) names = row name set_text ∷ rows_of rest names
rows_of (Value name text ∷ rest) names = row name text ∷ rows_of rest names
rows_of (Word text ∷ rest) [] = rows_of rest []
rows_of (Word text ∷ rest) (n ∷ ns) = row n text ∷ rows_of rest ns

pub rows_set : (items : List Item) (names : List Text) (name : Text) → rows_of (items ++ Set name ∷ []) names ≡ rows_of items names ++ row name set_text ∷ []
rows_set [] names name = refl
rows_set (Set own ∷ rest) names name = ap (λ (rs : List Row). row own set_text ∷ rs) (rows_set rest names name)
rows_set (Value own text ∷ rest) names name = ap (λ (rs : List Row). row own text ∷ rs) (rows_set rest names name)
rows_set (Word text ∷ rest) [] name = rows_set rest [] name
rows_set (Word text ∷ rest) (n ∷ ns) name = ap (λ (rs : List Row). row n text ∷ rs) (rows_set rest ns name)

pub rows_value : (items : List Item) (names : List Text) (name t : Text) → rows_of (items ++ Value name t ∷ []) names ≡ rows_of items names ++ row name t ∷ []
rows_value [] names name t = refl
rows_value (Set own ∷ rest) names name t = ap (λ (rs : List Row). row own set_text ∷ rs) (rows_value rest names name t)
rows_value (Value own text ∷ rest) names name t = ap (λ (rs : List Row). row own text ∷ rs) (rows_value rest names name t)
rows_value (Word text ∷ rest) [] name t = rows_value rest [] name t
rows_value (Word text ∷ rest) (n ∷ ns) name t = ap (λ (rs : List Row). row n text ∷ rs) (rows_value rest ns name t)

pub rows_word : (items : List Item) (names : List Text) (name t : Text) → slice_get names (length (words_among items)) ≡ Some name
    → rows_of (items ++ Word t ∷ []) names ≡ rows_of items names ++ row name t ∷ []
rows_word [] [] name t e = absurd (cc)
rows_word [] (n ∷ ns) name t e = let same : n ≡ name = cc in ap (λ m. row m t ∷ []) same
rows_word (Set own ∷ rest) names name t e = ap (λ (rs : List Row). row own set_text ∷ rs) (rows_word rest names name t e)
rows_word (Value own text ∷ rest) names name t e = ap (λ (rs : List Row). row own text ∷ rs) (rows_word rest names name t e)
rows_word (Word text ∷ rest) [] name t e = absurd (cc)
rows_word (Word text ∷ rest) (n ∷ ns) name t e = ap (λ (rs : List Row). row n text ∷ rs) (rows_word rest ns name t e)

-- ---- a use of an argument that has no row yet

pub fresh : (id : Text) (change : Row → List Row) (missing rows : List Row) → has_row id rows ≡ false → at_row id change missing rows ≡ rows ++ missing
fresh id change missing [] e = refl
fresh id change missing (r ∷ rs) e =
    let parts = or_parts (bytes_eq r.id id) (has_row id rs) e in
    let here = parts.0 in
    simp here (ap (λ (xs : List Row). r ∷ xs) (fresh id change missing rs parts.1))

-- with the first row of the id taken out, and one added
replaced : (id : Text) (change : Row → List Row) (added : Row) (rows : List Row) → has_row id rows ≡ false
    → at_row id change (added ∷ []) (at_row id (λ _. []) [] rows) ≡ rows ++ added ∷ []
replaced id change added rows e =
    let out = fresh id (λ _. []) [] rows e ∙ append-nil rows in
    rw out (fresh id change (added ∷ []) rows e)

pub flag_used : (name : Text) (rows : List Row) → has_row name rows ≡ false → used (named_rule (Flag name)) [] rows ≡ rows ++ row name set_text ∷ []
flag_used name rows e = replaced name (more_values CommandLine (set_text ∷ [])) (row name set_text) rows e

pub choice_used : (number : Number) (default text : Text) (rows : List Row) → has_row number.name rows ≡ false
    → used (named_rule (Setting number default)) (text ∷ []) rows ≡ rows ++ row number.name text ∷ []
choice_used number default text rows e = replaced number.name (more_values CommandLine (text ∷ [])) (row number.name text) rows e

pub word_used : (i : ℕ) (name text : Text) (rows : List Row) → has_row name rows ≡ false → used (word_rule i name) (text ∷ []) rows ≡ rows ++ row name text ∷ []
word_used i name text rows e = replaced name (more_values CommandLine (text ∷ [])) (row name text) rows e

-- ---- the first row of an id

abbrev pub found : Text → List Row → Option Row
found id rows = find (λ r. bytes_eq r.id id) rows

pub has_found : (id : Text) (rows : List Row) → has_row id rows ≡ is_some (found id rows)
has_found id [] = refl
has_found id (r ∷ rs) = elim (cases_of (bytes_eq r.id id)) [ inl e ↦ simp e refl | inr e ↦ simp e (has_found id rs) ]

-- the text of the first item under the name
abbrev pub text_in : Text → List Item → Option Text
text_in name items = option_map text_of (find (is_under name) items)

-- the word that goes to the name
abbrev pub word_for : Text → List Text → List Text → Option Text
word_for id [] ws = None
word_for id (n ∷ ns) ws = if bytes_eq n id then slice_get ws 0 else word_for id ns (drop 1 ws)

-- no item is under the name of a word
abbrev pub Apart : List Text → List Item → Type 0
Apart names items = (k : ℕ) (n : Text) → slice_get names k ≡ Some n → list_any (is_under n) items ≡ false

no_word : (id : Text) (names : List Text) → word_for id names [] ≡ None
no_word id [] = refl
no_word id (n ∷ ns) = elim (cases_of (bytes_eq n id)) [ inl e ↦ simp e refl | inr e ↦ simp e (no_word id ns) ]

pub none_found : {X : Type 0} (p : X → Bool) (xs : List X) → list_any p xs ≡ false → find p xs ≡ None
none_found p [] e = refl
none_found p (x ∷ xs) e = let parts = or_parts (p x) (list_any p xs) e in let test = parts.0 in rw test (none_found p xs parts.1)

pub found_rows : (id : Text) (items : List Item) (names : List Text) → Apart names items
    → found id (rows_of items names) ≡ option_map (row id) (option_or (text_in id items) (word_for id names (words_among items)))
found_rows id [] names apart = let none = no_word id names in simp none refl
found_rows id (Set name ∷ rest) names apart = elim (cases_of (bytes_eq name id)) [
  | inl e ↦ simp e (ap (λ m. Some (row m set_text)) (names_are name id e))
  | inr e ↦ simp e (found_rows id rest names (λ k n h. (or_parts (bytes_eq name n) _ (apart k n h)).1))
]
found_rows id (Value name text ∷ rest) names apart = elim (cases_of (bytes_eq name id)) [
  | inl e ↦ simp e (ap (λ m. Some (row m text)) (names_are name id e))
  | inr e ↦ simp e (found_rows id rest names (λ k n h. (or_parts (bytes_eq name n) _ (apart k n h)).1))
]
found_rows id (Word text ∷ rest) [] apart = found_rows id rest [] apart
found_rows id (Word text ∷ rest) (n ∷ ns) apart = elim (cases_of (bytes_eq n id)) [
  | inl e ↦
      let none : text_in id rest ≡ None = ap (option_map text_of) (none_found (is_under id) rest (apart 0 id (ap Some (names_are n id e)))) in
      simp (e, none) (ap (λ m. Some (row m text)) (names_are n id e))
  | inr e ↦ simp e (found_rows id rest ns (λ k m h. apart (suc k) m h))
]
