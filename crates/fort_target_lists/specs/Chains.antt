-- To believe: the states of each presence, one after another.
use Rattle.std.specs.Prelude.{◌≡◌, ℕ, suc, ◌^◌, ◌<◌, ◌≤◌, List, length, get_or}

-- the first state from a place on with this presence, or the number of states
pub record IsFirstFrom (ps : List ℕ) (from w q : ℕ) : Type 0 where
  pub low : from ≤ q
  pub high : q ≤ length ps
  pub has : q < length ps → get_or ps q 0 ≡ w
  pub none : (k : ℕ) → from ≤ k → k < q → get_or ps k 0 ≡ w → ⊥

-- the states from a place on stand in their chains
pub record AreChainsFrom (columns from : ℕ) (ps firsts nexts : List ℕ) : Type 0 where
  pub size : length firsts ≡ 2 ^ columns
  pub states : length nexts ≡ length ps
  pub first : (w : ℕ) → w < 2 ^ columns → IsFirstFrom ps from w (get_or firsts w 0)
  pub next : (q : ℕ) → from ≤ q → q < length ps → IsFirstFrom ps (suc q) (get_or ps q 0) (get_or nexts q 0)

-- all of them
abbrev pub AreChains : ℕ → List ℕ → List ℕ → List ℕ → Type 0
AreChains columns ps firsts nexts = AreChainsFrom columns 0 ps firsts nexts
