-- Inside: the words of a label that aren't zero, with their places in it.
use Rattle.std.specs.Prelude.{◌≡◌, ℕ, zero, suc, ◌-◌, List, [], ◌∷◌, get_or, take, drop, set, replicate}

-- the places of the words that aren't zero, where the first word has this place
abbrev pub places_from : ℕ → List ℕ → List ℕ
places_from i [] = []
places_from i (zero ∷ ws) = places_from (suc i) ws
places_from i (suc w ∷ ws) = i ∷ places_from (suc i) ws

-- the words that aren't zero
abbrev pub words_of : List ℕ → List ℕ
words_of [] = []
words_of (zero ∷ ws) = words_of ws
words_of (suc w ∷ ws) = suc w ∷ words_of ws

-- each word written at its place
abbrev pub scattered : List ℕ → List ℕ → List ℕ → List ℕ
scattered out [] ws = out
scattered out (p ∷ ps) [] = out
scattered out (p ∷ ps) (w ∷ ws) = scattered (set out p w) ps ws

-- where the words of label q begin
abbrev pub start_of : List ℕ → ℕ → ℕ
start_of ends zero = 0
start_of ends (suc q) = get_or ends q 0

abbrev pub piece : ℕ → ℕ → List ℕ → List ℕ
piece from to xs = take (to - from) (drop from xs)

-- label q: its words at their places, and zeros else
abbrev pub label_at : ℕ → List ℕ → List ℕ → List ℕ → ℕ → List ℕ
label_at width ends ps ws q = scattered (replicate width 0) (piece (start_of ends q) (get_or ends q 0) ps) (piece (start_of ends q) (get_or ends q 0) ws)

-- a label's words that aren't zero are these, at these places
pub record HasWords (label places words : List ℕ) : Type 0 where
  pub places_are : places_from 0 label ≡ places
  pub words_are : words_of label ≡ words
