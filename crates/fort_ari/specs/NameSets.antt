-- Inside: which names a reader has met, and that none of them stood there before.
use Rattle.std.specs.Prelude.{◌↔◌, ℕ, List, map, take, Contains, bytes_eq}
use Rattle.std.specs.List.{IsDistinct}

-- the keys of a set have the names that these have
abbrev pub HaveSameNames : {K : Type 0} → (K → List ℕ) → List K → List K → Type 0
HaveSameNames {K} name keys ks = (k : K) → Contains (map name keys) (name k) ↔ Contains (map name ks) (name k)

-- the keys are the first i of these, and no two of them have one name
pub record HasMetOnce {K : Type 0} (name : K → List ℕ) (keys ks : List K) (i : ℕ) : Type 0 where
  pub same : HaveSameNames name keys (take i ks)
  pub once : IsDistinct bytes_eq (map name (take i ks))

-- none of the first i of these has the name of a key
abbrev pub HasFoundNone : {K : Type 0} → (K → List ℕ) → List K → List K → ℕ → Type 0
HasFoundNone name others ks i = (x : List ℕ) → Contains (map name (take i ks)) x → Contains (map name others) x → ⊥
