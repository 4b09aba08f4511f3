-- The place of child states in the list of a tuple symbol's targets: one more child, ranks, how far places go.
use Rattle.std.proofs.Common.{◌≡◌, ℕ, zero, suc, ◌+◌, ◌*◌, ◌<◌, ◌≤◌, min, List, [], ◌∷◌, ◌++◌, take, set, length, get_or, get_or-set_same, get_or-set_other, Bool, true, false, ◌==◌, if◌then◌else◌, eq-eqb, refl, ap, sym, ◌∙◌, arith, ⊎_elim}
use Rattle.std.proofs.Math.Nat.{mul-le-mul_right}
use Rattle.std.proofs.lemmas.Bool.{cases_lt, cases_eq}
use Rattle.std.proofs.lemmas.List.{take_more, get_or_append_left, get_or_push}
use Rattle.fort_tables.proofs.EqualTests.{test_from_apart}
use Rattle.fort_tables.specs.StateRanks.{count_of, rank_in}
use Rattle.fort_tables.proofs.StateRankLaws.{rank_less}
use Rattle.fort_target_lists.specs.Places.{place_from, AreSpots}

-- one more child
pub place_from-more : (ranks alike : List ℕ) (p : ℕ) (ks : List ℕ) (k : ℕ) → place_from ranks alike p (ks ++ k ∷ []) ≡ place_from ranks alike p ks * get_or alike k 0 + get_or ranks k 0
place_from-more ranks alike p [] k = refl
place_from-more ranks alike p (x ∷ ks) k = place_from-more ranks alike (p * get_or alike x 0 + get_or ranks x 0) ks k

-- products and sums up to a bound
cap_sum : (x y r m : ℕ) → min x m ≡ min y m → min (min x m + r) m ≡ min (y + r) m
cap_sum x y r m e = omega arith

pub cap_product : (x p a m : ℕ) → x ≡ min p m → min (x * a) m ≡ min (p * a) m
cap_product x p zero m e = omega arith
cap_product x p (suc a) m e =
    ⊎_elim
    (λ (l : p < m). let s : x ≡ p = omega arith in ap (λ z. min (z * suc a) m) s)
    (λ (l : m ≤ p). let s : m ≤ x * suc a = omega arith in let t : m ≤ p * suc a = omega arith in omega (arith, s, t))
    (cases_lt p m)

capped : (x p a r m : ℕ) → x ≡ min p m → min (min (x * a) m + r) m ≡ min (p * a + r) m
capped x p a r m e = cap_sum (x * a) (p * a) r m (cap_product x p a m e)

-- one turn of the loop over child states
pub place_turn : (ranks alike ks : List ℕ) (i x y m : ℕ) → i < length ks → x ≡ min (place_from ranks alike 0 (take i ks)) m → y ≡ min (min (x * get_or alike (get_or ks i 0) 0) m + get_or ranks (get_or ks i 0) 0) m → y ≡ min (place_from ranks alike 0 (take (i + 1) ks)) m
place_turn ranks alike ks i x y m l e h =
    let p = place_from ranks alike 0 (take i ks) in
    let k = get_or ks i 0 in
    h ∙ (capped x p (get_or alike k 0) (get_or ranks k 0) m e
    ∙ ap (λ n. min n m) (sym (ap (place_from ranks alike 0) (take_more ks i 0 l) ∙ place_from-more ranks alike 0 (take i ks) k)))

-- ranks
pub rank_none : (w : ℕ) (ps : List ℕ) → rank_in w ps 0 ≡ 0
rank_none w [] = refl
rank_none w (p ∷ ps) = refl

pub rank_more : (w : ℕ) (ps : List ℕ) (q : ℕ) → q < length ps → rank_in w ps (suc q) ≡ rank_in w ps q + (if get_or ps q 0 == w then 1 else 0)
rank_more w [] q l = absurd (omega arith)
rank_more w (p ∷ ps) zero l = omega (arith, rank_none w ps)
rank_more w (p ∷ ps) (suc q) l = omega (arith, rank_more w ps q (omega arith))

pub rank_whole : (w : ℕ) (ps : List ℕ) → rank_in w ps (length ps) ≡ count_of w ps
rank_whole w [] = refl
rank_whole w (p ∷ ps) = ap (λ n. (if p == w then 1 else 0) + n) (rank_whole w ps)

abbrev one_if : Bool → ℕ
one_if b = if b then 1 else 0

one_at_most : (b : Bool) → (if b then 1 else 0) ≤ 1
one_at_most true = omega arith
one_at_most false = omega arith

pub none_before : (w : ℕ) (ps : List ℕ) → 0 ≡ rank_in w ps 0
none_before w [] = refl
none_before w (p ∷ ps) = refl

pub rank_small : (w : ℕ) (ps : List ℕ) (q : ℕ) → rank_in w ps q ≤ q
rank_small w [] q = omega arith
rank_small w (p ∷ ps) zero = omega arith
rank_small w (p ∷ ps) (suc q) = omega (arith, rank_small w ps q, one_at_most (p == w))

pub rank_below : (w : ℕ) (ps : List ℕ) (q : ℕ) → q < length ps → get_or ps q 0 ≡ w → rank_in w ps q < count_of w ps
rank_below w ps q l e = omega (arith, rank_less w ps q (length ps) l e l, rank_whole w ps)

-- how many lists of n states there are of which state i has presence w (j + i)
abbrev pub room : List ℕ → (ℕ → ℕ) → ℕ → ℕ → ℕ
room ps w j zero = 1
room ps w j (suc n) = count_of (w j) ps * room ps w (suc j) n

abbrev pub AreKidsFrom : List ℕ → (ℕ → ℕ) → ℕ → List ℕ → Type 0
AreKidsFrom ps w j [] = Unit {0}
AreKidsFrom ps w j (k ∷ ks) = (k < length ps) × (get_or ps k 0 ≡ w j) × AreKidsFrom ps w (suc j) ks

pub kids_from_index : (ps : List ℕ) (w : ℕ → ℕ) (j : ℕ) (ks : List ℕ) → ((i : ℕ) → i < length ks → get_or ks i 0 < length ps) → ((i : ℕ) → i < length ks → get_or ps (get_or ks i 0) 0 ≡ w (j + i)) → AreKidsFrom ps w j ks
kids_from_index ps w j [] h e = tt
kids_from_index ps w j (k ∷ ks) h e =
    let z : j + 0 ≡ j = omega arith in
    (h 0 (omega arith), e 0 (omega arith) ∙ ap w z, kids_from_index ps w (suc j) ks (λ i l. h (suc i) (omega arith)) (λ i l. let s : j + suc i ≡ suc j + i = omega arith in e (suc i) (omega arith) ∙ ap w s))

split_sum : (p a r R Q x y c : ℕ) → x ≡ (p * a + r) * R + Q → y ≡ (0 * a + r) * R + Q → a ≡ c → x ≡ p * (c * R) + y
split_sum p a r R Q x y c e h s =
    let m : p * (a * R) ≡ p * (c * R) = ap (λ n. p * (n * R)) s in
    omega (arith, m, e, h)

-- a place behind others
pub place_split : (ps ranks alike : List ℕ) (w : ℕ → ℕ) → AreSpots ps ranks alike → (j p : ℕ) (ks : List ℕ) → AreKidsFrom ps w j ks → place_from ranks alike p ks ≡ p * room ps w j (length ks) + place_from ranks alike 0 ks
place_split ps ranks alike w s j p [] h = omega arith
place_split ps ranks alike w s j p (k ∷ ks) h =
    let a = get_or alike k 0 in
    let r = get_or ranks k 0 in
    split_sum p a r (room ps w (suc j) (length ks)) (place_from ranks alike 0 ks) (place_from ranks alike (p * a + r) ks) (place_from ranks alike (0 * a + r) ks) (count_of (w j) ps)
    (place_split ps ranks alike w s (suc j) (p * a + r) ks h.2)
    (place_split ps ranks alike w s (suc j) (0 * a + r) ks h.2)
    (s.alike_are.count k h.0 ∙ ap (λ v. count_of v ps) h.1)

-- the place of a first child and the others
pub place_first : (ps ranks alike : List ℕ) (w : ℕ → ℕ) → AreSpots ps ranks alike → (j k : ℕ) (ks : List ℕ) → AreKidsFrom ps w j (k ∷ ks) → place_from ranks alike 0 (k ∷ ks) ≡ rank_in (w j) ps k * room ps w (suc j) (length ks) + place_from ranks alike 0 ks
place_first ps ranks alike w s j k ks h =
    let a = get_or alike k 0 in
    let r = get_or ranks k 0 in
    let e : 0 * a + r ≡ rank_in (w j) ps k = omega (arith, s.ranks_are.rank k h.0 ∙ ap (λ v. rank_in v ps k) h.1) in
    place_split ps ranks alike w s (suc j) (0 * a + r) ks h.2 ∙ ap (λ n. n * room ps w (suc j) (length ks) + place_from ranks alike 0 ks) e

digits_below : (c s r x : ℕ) → r < c → x < s → r * s + x < c * s
digits_below c s r x l m = let h = mul-le-mul_right {m = suc r} {n = c} s l in omega (arith, h, m)

pub place_below : (ps ranks alike : List ℕ) (w : ℕ → ℕ) → AreSpots ps ranks alike → (j : ℕ) (ks : List ℕ) → AreKidsFrom ps w j ks → place_from ranks alike 0 ks < room ps w j (length ks)
place_below ps ranks alike w s j [] h = omega arith
place_below ps ranks alike w s j (k ∷ ks) h =
    omega (
      arith,
      place_first ps ranks alike w s j k ks h,
      digits_below (count_of (w j) ps) (room ps w (suc j) (length ks)) (rank_in (w j) ps k) (place_from ranks alike 0 ks) (rank_below (w j) ps k h.0 h.1) (place_below ps ranks alike w s (suc j) ks h.2),
    )

-- one more state is counted
pub counts_more : (ps counts : List ℕ) (q p m : ℕ) → p ≡ get_or ps q 0 → q < length ps → p < length counts → ((w : ℕ) → w < m → get_or counts w 0 ≡ rank_in w ps q) → (w : ℕ) → w < m → get_or (set counts p (get_or counts p 0 + 1)) w 0 ≡ rank_in w ps (q + 1)
counts_more ps counts q p m e l b h w o =
    let next : rank_in w ps (q + 1) ≡ rank_in w ps q + (if p == w then 1 else 0) = let s : q + 1 ≡ suc q = omega arith in ap (rank_in w ps) s ∙ (rank_more w ps q l ∙ ap (λ z. rank_in w ps q + (if z == w then 1 else 0)) (sym e)) in
    ⊎_elim
    (λ (s : p ≡ w).
    let t = ap one_if (eq-eqb p w s) in
    let c : get_or (set counts p (get_or counts p 0 + 1)) w 0 ≡ get_or counts p 0 + 1 = ap (λ z. get_or (set counts p (get_or counts p 0 + 1)) z 0) (sym s) ∙ get_or-set_same counts p (get_or counts p 0 + 1) 0 b in
    omega (arith, c, t, next, h w o, ap (λ z. get_or counts z 0) s))
    (λ (s : p ≡ w → ⊥).
    let n : w ≡ p → ⊥ = λ z. s (sym z) in
    let t = ap one_if (test_from_apart p w s) in
    omega (arith, get_or-set_other counts p w (get_or counts p 0 + 1) 0 n, t, next, h w o))
    (cases_eq p w)

-- one more number at the end
pub pushed_more : (xs ys : List ℕ) (x q : ℕ) (f : ℕ → ℕ) → ys ≡ xs ++ x ∷ [] → length xs ≡ q → x ≡ f q → ((k : ℕ) → k < q → get_or xs k 0 ≡ f k) → (k : ℕ) → k < q + 1 → get_or ys k 0 ≡ f k
pushed_more xs ys x q f e l n h k o =
    ap (λ (zs : List ℕ). get_or zs k 0) e
    ∙ ⊎_elim
    (λ (b : k < q). get_or_append_left xs (x ∷ []) 0 k (omega (arith, l)) ∙ h k b)
    (λ (b : q ≤ k). let s : length xs ≡ k = omega (arith, l) in get_or_push xs x 0 k s ∙ (n ∙ ap f (let z : q ≡ k = omega arith in z)))
    (cases_lt k q)
