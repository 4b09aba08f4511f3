-- Inside: the rank of a state among the states of its presence, and the number that lists of such states have as numbers of mixed radices.
use Rattle.std.specs.Prelude.{◌≡◌, ℕ, zero, suc, ◌+◌, ◌*◌, ◌<◌, List, [], ◌∷◌, length, get_or, ◌==◌, if◌then◌else◌}

-- how many states have this presence
abbrev pub count_of : ℕ → List ℕ → ℕ
count_of w [] = 0
count_of w (p ∷ ps) = (if p == w then 1 else 0) + count_of w ps

-- how many of the states before q have this presence
abbrev pub rank_in : ℕ → List ℕ → ℕ → ℕ
rank_in w [] q = 0
rank_in w (p ∷ ps) zero = 0
rank_in w (p ∷ ps) (suc q) = (if p == w then 1 else 0) + rank_in w ps q

-- how many lists of states there are of these presences
abbrev pub space : List ℕ → List ℕ → ℕ
space ps [] = 1
space ps (w ∷ ws) = count_of w ps * space ps ws

-- the number of a list of states of these presences, its first digit the least
abbrev pub place : List ℕ → List ℕ → List ℕ → ℕ
place ps [] ks = 0
place ps (w ∷ ws) [] = 0
place ps (w ∷ ws) (k ∷ ks) = rank_in w ps k + count_of w ps * place ps ws ks

-- the states are of these presences
abbrev pub AreOf : List ℕ → List ℕ → List ℕ → Type 0
AreOf ps [] [] = Unit {0}
AreOf ps [] (k ∷ ks) = ⊥
AreOf ps (w ∷ ws) [] = ⊥
AreOf ps (w ∷ ws) (k ∷ ks) = (k < length ps) × (get_or ps k 0 ≡ w) × AreOf ps ws ks

-- the presences of states
abbrev pub wants_at : List ℕ → List ℕ → List ℕ
wants_at ps [] = []
wants_at ps (k ∷ ks) = get_or ps k 0 ∷ wants_at ps ks
