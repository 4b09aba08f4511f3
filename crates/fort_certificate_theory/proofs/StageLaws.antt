-- How many states the targets before a place make.
use Rattle.std.proofs.Common.{◌≡◌, ℕ, zero, suc, ◌+◌, ◌<◌, ◌≤◌, max, List, [], ◌∷◌, ◌++◌, length, get_or, ap, sym, ◌∙◌, arith, add-one, ⊎_elim}
use Rattle.std.proofs.lemmas.Bool.{cases_lt}
use Rattle.fort_tables.specs.Entries.{stage}
use Rattle.fort_certificate_theory.specs.PartSteps.{states_before}

pub stage-push : (xs : List ℕ) (y : ℕ) → stage (xs ++ y ∷ []) ≡ max (stage xs) (suc y)
stage-push [] y = omega arith
stage-push (x ∷ xs) y = omega (arith, stage-push xs y)

pub states_more : (qs : List ℕ) (k : ℕ) → k < length qs → states_before qs (suc k) ≡ max (states_before qs k) (suc (get_or qs k 0))
states_more [] k l = absurd (omega arith)
states_more (q ∷ qs) zero l = omega arith
states_more (q ∷ qs) (suc k) l = omega (arith, states_more qs k (omega arith))

pub states_le : (qs : List ℕ) (k n : ℕ) → k ≤ n → states_before qs k ≤ states_before qs n
states_le [] zero zero l = omega arith
states_le [] zero (suc n) l = omega arith
states_le [] (suc k) zero l = absurd (omega arith)
states_le [] (suc k) (suc n) l = omega arith
states_le (q ∷ qs) zero n l = omega arith
states_le (q ∷ qs) (suc k) zero l = absurd (omega arith)
states_le (q ∷ qs) (suc k) (suc n) l = omega (arith, states_le qs k n (omega arith))

-- a target makes its state
pub target_states : (qs : List ℕ) (k n : ℕ) → k < n → k < length qs → get_or qs k 0 < states_before qs n
target_states qs k n l m = omega (arith, states_more qs k m, states_le qs (suc k) n (omega arith))

-- the place of the first target of a state: the targets before it are smaller
pub record IsFirst (qs : List ℕ) (q k : ℕ) : Type 0 where
  pub within : k < length qs
  pub target : get_or qs k 0 ≡ q
  pub before : states_before qs k ≡ q

-- where each target is at most the number of states before it, each state has a first target
pub first_target : (qs : List ℕ) (n q : ℕ) → n ≤ length qs → ((k : ℕ) → k < n → get_or qs k 0 ≤ states_before qs k) → q < states_before qs n → (k : ℕ) × (k < n) × IsFirst qs q k
first_target qs zero q m h l = absurd (omega arith)
first_target qs (suc n) q m h l =
    ⊎_elim
    (λ b. let r = first_target qs n q (omega arith) (λ k c. h k (omega arith)) b in (r.0, omega (arith, r.1), r.2))
    (λ b.
    let known = h n (omega arith) in
    let more = states_more qs n (omega arith) in
    (n, omega arith, record { within = omega arith; target = omega arith; before = omega arith }))
    (cases_lt q (states_before qs n))

-- the greatest target so far, and one more
pub states_step : (qs : List ℕ) (k m m' : ℕ) → k < length qs → m ≡ states_before qs k → m' ≡ max m (get_or qs k 0 + 1) → m' ≡ states_before qs (k + 1)
states_step qs k m m' l a b =
    let more : m' ≡ states_before qs (suc k) = omega (arith, states_more qs k l) in
    more ∙ ap (states_before qs) (sym (add-one k))
