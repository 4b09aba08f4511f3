-- Inside: labels of at most four words, with zeros behind.
use Rattle.std.specs.Prelude.{ℕ, List, [], ◌∷◌, get_or}
use Rattle.fort_explore.specs.declared.short_labels.Words.{Words}

abbrev pub four_words : Words → List ℕ
four_words w = w.first ∷ w.second ∷ w.third ∷ w.fourth ∷ []

abbrev pub padded : List ℕ → List ℕ
padded label = get_or label 0 0 ∷ get_or label 1 0 ∷ get_or label 2 0 ∷ get_or label 3 0 ∷ []
