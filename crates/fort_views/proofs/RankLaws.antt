-- The ranks of states among those of one presence.
use Rattle.std.proofs.Common.{◌≡◌, ℕ, zero, suc, ◌+◌, ◌<◌, ◌≤◌, List, [], ◌∷◌, ◌++◌, set, length, get_or, get_or-set_same, get_or-set_other, length-append, refl, ap, sym, ◌∙◌, arith, subst, ⊎_elim}
use Rattle.std.proofs.lemmas.Bool.{cases_lt, cases_eq}
use Rattle.std.proofs.lemmas.List.{length_push, get_or_push, get_or_append_left}
use Rattle.fort_entry_walk.specs.Walks.{states_with}
use Rattle.fort_views.specs.Ranks.{AreRanks}
use Rattle.fort_views.proofs.StateLaws.{states_more, states_same}

-- the element stands at this place
pub record StandsAt (xs : List ℕ) (place x : ℕ) : Type 0 where
  pub within : place < length xs
  pub is : get_or xs place 0 ≡ x

stands_left : (xs ys : List ℕ) (place x : ℕ) → StandsAt xs place x → (zs : List ℕ) → zs ≡ xs ++ ys → StandsAt zs place x
stands_left xs ys place x h zs e = subst (λ (l : List ℕ). StandsAt l place x) (sym e) (record { within = omega (arith, h.within, length-append xs ys); is = get_or_append_left xs ys 0 place h.within ∙ h.is })

-- how many states before this one have a presence, where one more state is counted
pub count_more : (ps : List ℕ) (w q : ℕ) → get_or ps q 0 ≡ w → length (states_with ps w 0 (q + 1)) ≡ length (states_with ps w 0 q) + 1
count_more ps w q h = ap length (states_more ps w q h) ∙ length_push (states_with ps w 0 q) q

pub count_same : (ps : List ℕ) (w q : ℕ) → (get_or ps q 0 ≡ w → ⊥) → length (states_with ps w 0 (q + 1)) ≡ length (states_with ps w 0 q)
count_same ps w q h = ap length (states_same ps w q h)

-- Result: the state stands at its rank among the states of its presence
pub state_at_rank : (ps : List ℕ) (want q n : ℕ) → q < n → get_or ps q 0 ≡ want → StandsAt (states_with ps want 0 n) (length (states_with ps want 0 q)) q
state_at_rank ps want q zero l h = absurd (omega arith)
state_at_rank ps want q (suc n) l h =
    let r = length (states_with ps want 0 q) in
    let s : n + 1 ≡ suc n = omega arith in
    subst (λ (k : ℕ). StandsAt (states_with ps want 0 k) r q) s (⊎_elim
    (λ (b : q < n).
    let old = state_at_rank ps want q n b h in
    ⊎_elim
    (λ e. stands_left (states_with ps want 0 n) (n ∷ []) r q old (states_with ps want 0 (n + 1)) (states_more ps want n e))
    (λ e. subst (λ (l : List ℕ). StandsAt l r q) (sym (states_same ps want n e)) old)
    (cases_eq (get_or ps n 0) want))
    (λ (b : n ≤ q).
    let e : q ≡ n = omega arith in
    let more = states_more ps want q h in
    subst (λ (k : ℕ). StandsAt (states_with ps want 0 (k + 1)) r q) e
    (subst (λ (l : List ℕ). StandsAt l r q) (sym more) (record { within = omega (arith, length_push (states_with ps want 0 q) q); is = get_or_push (states_with ps want 0 q) q 0 r refl })))
    (cases_lt q n))

-- the counts after one more state
pub counts_more : (ps counts : List ℕ) (q m : ℕ) → get_or ps q 0 < length counts → ((w : ℕ) → w < m → get_or counts w 0 ≡ length (states_with ps w 0 q)) → (w : ℕ) → w < m → get_or (set counts (get_or ps q 0) (get_or counts (get_or ps q 0) 0 + 1)) w 0 ≡ length (states_with ps w 0 (q + 1))
counts_more ps counts q m b h w o =
    let p = get_or ps q 0 in
    ⊎_elim
    (λ (s : p ≡ w).
    let c : get_or (set counts p (get_or counts p 0 + 1)) w 0 ≡ get_or counts p 0 + 1 = ap (λ z. get_or (set counts p (get_or counts p 0 + 1)) z 0) (sym s) ∙ get_or-set_same counts p (get_or counts p 0 + 1) 0 b in
    omega (arith, c, ap (λ z. get_or counts z 0) s, h w o, count_more ps w q s))
    (λ (s : p ≡ w → ⊥).
    let n : w ≡ p → ⊥ = λ z. s (sym z) in
    omega (arith, get_or-set_other counts p w (get_or counts p 0 + 1) 0 n, h w o, count_same ps w q s))
    (cases_eq p w)

-- no more states than there are before
pub count_small : (ps : List ℕ) (w q : ℕ) → length (states_with ps w 0 q) ≤ q
count_small ps w zero = omega arith
count_small ps w (suc q) =
    let s : q + 1 ≡ suc q = omega arith in
    subst (λ (k : ℕ). length (states_with ps w 0 k) ≤ k) s (⊎_elim
    (λ e. omega (arith, count_more ps w q e, count_small ps w q))
    (λ e. omega (arith, count_same ps w q e, count_small ps w q))
    (cases_eq (get_or ps q 0) w))

-- the ranks after one more state
pub ranks_more : (ranks new : List ℕ) (r q : ℕ) (f : ℕ → ℕ) → new ≡ ranks ++ r ∷ [] → length ranks ≡ q → r ≡ f q → ((k : ℕ) → k < q → get_or ranks k 0 ≡ f k) → (k : ℕ) → k < q + 1 → get_or new k 0 ≡ f k
ranks_more ranks new r q f e l n h k o =
    ap (λ (zs : List ℕ). get_or zs k 0) e
    ∙ ⊎_elim
    (λ (b : k < q). get_or_append_left ranks (r ∷ []) 0 k (omega (arith, l)) ∙ h k b)
    (λ (b : q ≤ k). let s : length ranks ≡ k = omega (arith, l) in get_or_push ranks r 0 k s ∙ (n ∙ ap f (let z : q ≡ k = omega arith in z)))
    (cases_lt k q)

-- Result: the state of a rank
pub rank_there : (ps ranks : List ℕ) (want q n : ℕ) → AreRanks ps ranks → q < length ps → q < n → get_or ps q 0 ≡ want → StandsAt (states_with ps want 0 n) (get_or ranks q 0) q
rank_there ps ranks want q n is l b h =
    let e : length (states_with ps want 0 q) ≡ get_or ranks q 0 = ap (λ w. length (states_with ps w 0 q)) (sym h) ∙ sym (is.each q l) in
    subst (λ (r : ℕ). StandsAt (states_with ps want 0 n) r q) e (state_at_rank ps want q n b h)
