-- To believe: the text that is written for a certificate: each form on a line that LF ends, single blanks between elements.
use Rattle.std.specs.Prelude.{◌≡◌, ℕ, ◌≤◌, Bool, true, false, if◌then◌else◌, List, [], ◌∷◌, ◌++◌, map, codes, decimal}
use Rattle.std.specs.List.{AllByRecursion}
use Rattle.fort_tables.specs.Counts.{Count, Finite, Infinite}
use Rattle.fort_alike.specs.ListedClosures.{Why, Any, Kids, Rule, Pair}
use Rattle.fort_certificate_theory.specs.Certificates.{Step, Closure, Part, Merge, Counts, Value}
use Rattle.fort_certificate_theory.specs.CertificateForms.{Version, version_word, tells_index, has_merges, most_number, verdict_word, which_word}

-- an element of a line: a word, or words in parentheses
pub data Element : Type 0 where
  Word : List ℕ → Element
  Group : List (List ℕ) → Element

abbrev pub spaced : List (List ℕ) → List ℕ
spaced [] = []
spaced (w ∷ []) = w
spaced (w ∷ v ∷ ws) = w ++ 32 ∷ spaced (v ∷ ws)

abbrev pub in_parentheses : List (List ℕ) → List ℕ
in_parentheses ws = 40 ∷ spaced ws ++ 41 ∷ []

abbrev pub element_text : Element → List ℕ
element_text (Word w) = w
element_text (Group ws) = in_parentheses ws

abbrev pub line_of : List Element → List ℕ
line_of es = in_parentheses (map element_text es) ++ 10 ∷ []

abbrev pub number_element : ℕ → Element
number_element n = Word (decimal n)

abbrev pub why_word : Why → List ℕ
why_word Any = codes "any"
why_word Kids = codes "kids"
why_word (Rule k) = decimal k

abbrev pub pair_element : Pair → Element
pair_element p = Group (decimal p.p ∷ decimal p.q ∷ why_word p.why ∷ [])

abbrev pub count_element : Count → Element
count_element (Finite n) = Group (codes "fin" ∷ decimal n ∷ [])
count_element (Infinite n) = Group (codes "inf" ∷ decimal n ∷ [])

abbrev pub index_elements : Version → ℕ → List Element
index_elements version index = if tells_index version then (number_element index ∷ []) else []

abbrev pub step_elements : Version → Step → List Element
step_elements version (Closure which index pairs) =
    Word (codes "closure") ∷ Word (which_word which) ∷ (index_elements version index ++ map pair_element pairs)
step_elements version (Part k targets) = Word (codes "part") ∷ number_element k ∷ map number_element targets
step_elements version (Merge k classes) = Word (codes "merge") ∷ number_element k ∷ map number_element classes
step_elements version (Counts k counts) = Word (codes "counts") ∷ number_element k ∷ map count_element counts
step_elements version (Value k value) = Word (codes "value") ∷ number_element k ∷ Word (verdict_word value) ∷ []

abbrev pub header_elements : Version → Bool → List Element
header_elements version verdict = Word (codes "certificate") ∷ Word (version_word version) ∷ Word (verdict_word verdict) ∷ []

abbrev pub steps_text : Version → List Step → List ℕ
steps_text version [] = []
steps_text version (s ∷ ss) = line_of (step_elements version s) ++ steps_text version ss

abbrev pub certificate_text : Version → Bool → List Step → List ℕ
certificate_text version verdict steps = line_of (header_elements version verdict) ++ steps_text version steps

-- a number that can be written
abbrev pub IsSmall : ℕ → Type 0
IsSmall n = n ≤ most_number

abbrev pub IsSmallWhy : Why → Type 0
IsSmallWhy Any = Unit {0}
IsSmallWhy Kids = Unit {0}
IsSmallWhy (Rule k) = IsSmall k

abbrev pub IsSmallPair : Pair → Type 0
IsSmallPair p = IsSmall p.p × IsSmall p.q × IsSmallWhy p.why

abbrev pub IsSmallCount : Count → Type 0
IsSmallCount (Finite n) = IsSmall n
IsSmallCount (Infinite n) = IsSmall n

-- an index that isn't told is 1
abbrev pub IsIndex : Version → ℕ → Type 0
IsIndex version index = IsSmall index × (tells_index version ≡ false → index ≡ 1)

-- the numbers of a step can be written, and only a version with merges has one
abbrev pub CanBeWritten : Version → Step → Type 0
CanBeWritten version (Closure which index pairs) = IsIndex version index × AllByRecursion IsSmallPair pairs
CanBeWritten version (Part k targets) = IsSmall k × AllByRecursion IsSmall targets
CanBeWritten version (Merge k classes) = (has_merges version ≡ true) × IsSmall k × AllByRecursion IsSmall classes
CanBeWritten version (Counts k counts) = IsSmall k × AllByRecursion IsSmallCount counts
CanBeWritten version (Value k value) = IsSmall k
