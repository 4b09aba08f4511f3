-- The states with a presence before the next one.
use Rattle.std.proofs.Common.{◌≡◌, ℕ, zero, suc, ◌+◌, if◌then◌else◌, List, [], ◌∷◌, ◌++◌, get_or, Bool, true, false, ◌==◌, ap, ◌∙◌, arith}
use Rattle.std.proofs.lemmas.List.{append-nil}
use Rattle.fort_tables.proofs.EqualTests.{if_equal, if_apart}
use Rattle.fort_entry_walk.specs.Walks.{states_with}

-- the state, where it has the presence
one_if : List ℕ → ℕ → ℕ → List ℕ
one_if ps want q = if get_or ps q 0 == want then q ∷ [] else []

-- the last state comes last
states_split : (ps : List ℕ) (want a n : ℕ) → states_with ps want a (suc n) ≡ states_with ps want a n ++ one_if ps want (a + n)
unfolding one_if
states_split ps want a zero = let e : a ≡ a + 0 = omega arith in ap (one_if ps want) e
states_split ps want a (suc n) =
    let later = states_with ps want (a + 1) (suc n) in
    let before = states_with ps want (a + 1) n in
    let last = one_if ps want (a + suc n) in
    let e : a + 1 + n ≡ a + suc n = omega arith in
    let same : later ≡ before ++ last = states_split ps want (a + 1) n ∙ ap (λ i. before ++ one_if ps want i) e in
    let F : Bool → Type 0 = λ b. (if b then a ∷ later else later) ≡ (if b then a ∷ before else before) ++ last in
    let both : (b : Bool) → F b = λ b. elim b as F [ true ↦ ap (λ r. a ∷ r) same | false ↦ same ] in
    both (get_or ps a 0 == want)

-- the next state has the presence
pub states_more : (ps : List ℕ) (want n : ℕ) → get_or ps n 0 ≡ want → states_with ps want 0 (n + 1) ≡ states_with ps want 0 n ++ n ∷ []
unfolding one_if
states_more ps want n h =
    let e : n + 1 ≡ suc n = omega arith in
    let z : 0 + n ≡ n = omega arith in
    ap (states_with ps want 0) e ∙ (states_split ps want 0 n ∙ (ap (λ i. states_with ps want 0 n ++ one_if ps want i) z ∙ ap (λ r. states_with ps want 0 n ++ r) (if_equal (get_or ps n 0) want (n ∷ []) [] h)))

-- or it doesn't
pub states_same : (ps : List ℕ) (want n : ℕ) → (get_or ps n 0 ≡ want → ⊥) → states_with ps want 0 (n + 1) ≡ states_with ps want 0 n
unfolding one_if
states_same ps want n h =
    let e : n + 1 ≡ suc n = omega arith in
    let z : 0 + n ≡ n = omega arith in
    ap (states_with ps want 0) e ∙ (states_split ps want 0 n ∙ (ap (λ i. states_with ps want 0 n ++ one_if ps want i) z ∙ (ap (λ r. states_with ps want 0 n ++ r) (if_apart (get_or ps n 0) want (n ∷ []) [] h) ∙ append-nil (states_with ps want 0 n))))
