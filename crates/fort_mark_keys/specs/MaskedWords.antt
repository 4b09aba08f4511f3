-- To believe: the words of a label under those of a mask.
use Rattle.std.specs.Prelude.{ℕ, List, [], ◌∷◌, bit_and}

-- word by word, up to the shorter one's end
abbrev pub masked : (mask words : List ℕ) → List ℕ
masked [] w = []
masked (a ∷ v) [] = []
masked (a ∷ v) (b ∷ w) = bit_and a b ∷ masked v w
