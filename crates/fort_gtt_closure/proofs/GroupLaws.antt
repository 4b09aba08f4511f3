-- A group after a pair was pushed: under its number it stands at the end, the others are as they were.
use Rattle.std.proofs.Common.{◌≡◌, ◌≢◌, ℕ, zero, suc, ◌+◌, ◌<◌, ◌≤◌, List, [], ◌∷◌, ◌++◌, Bool, true, false, cond, ap, sym, ◌∙◌, refl, subst, arith, length, get_or, inl, inr, nat_eq, eqb-true, add-one}
use Rattle.std.specs.Prelude.{Contains, filter, map, vec_items, Vec, slice_set}
use Rattle.std.specs.declared.alloc.Global.{Global}
use Rattle.std.proofs.Math.Seq.{map-set_same}
use Rattle.fort_theory.proofs.IndexPlaces.{map-set_more}
use Rattle.std.proofs.lemmas.Bool.{cases_Bool, eqb-false, cases_lt}
use Rattle.std.proofs.lemmas.List.{append-nil}
use Rattle.std.proofs.lemmas.List.Elements.{filter-append, Contains-append_left, Contains-push}
use Rattle.fort_theory.specs.Sides.{pushed_at, empty_lists}
use Rattle.fort_theory.proofs.IndexLaws.{at_index-get, at_index-pushed_same, at_index-pushed_other, length-pushed_at, length-empty_lists}
use Rattle.fort_gtt_closure.specs.declared.groups.Groups.{Groups}
use Rattle.fort_gtt_closure.specs.Groups.{lists, group, AreByFirst}

same_list : {A : Type 0} (ls : List (List A)) (i : ℕ) (x : A) → i < length ls → get_or (pushed_at (i + 1) x ls) i [] ≡ get_or ls i [] ++ x ∷ []
same_list ls i x lt =
    let one : i + 1 ≡ suc i = add-one i in
    subst (λ k. get_or (pushed_at k x ls) i [] ≡ get_or ls i [] ++ x ∷ []) (sym one)
    (sym (at_index-get i (pushed_at (suc i) x ls)) ∙ (at_index-pushed_same (suc i) x ls (record { low = omega arith; high = omega arith })
    ∙ ap (λ ys. ys ++ x ∷ []) (at_index-get i ls)))

other_list : {A : Type 0} (ls : List (List A)) (i j : ℕ) (x : A) → i ≢ j → get_or (pushed_at (i + 1) x ls) j [] ≡ get_or ls j []
other_list ls i j x ne =
    let one : i + 1 ≡ suc i = add-one i in
    let ne_suc : suc i ≢ suc j = omega arith in
    subst (λ k. get_or (pushed_at k x ls) j [] ≡ get_or ls j []) (sym one)
    (sym (at_index-get j (pushed_at (suc i) x ls)) ∙ (at_index-pushed_other (suc i) (suc j) x ls ne_suc ∙ at_index-get j ls))

behind_lists : {A : Type 0} (i : ℕ) (x : A) (ls : List (List A)) → length ls ≤ i → pushed_at (suc i) x ls ≡ ls
behind_lists i x [] h = refl
behind_lists zero x (xs ∷ ls) h = absurd (omega (arith, h))
behind_lists (suc i) x (xs ∷ ls) h = ap (λ zs. xs ∷ zs) (behind_lists i x ls (omega (arith, h)))

pub pushed_behind : {A : Type 0} (i : ℕ) (x : A) (ls : List (List A)) → length ls ≤ i → pushed_at (i + 1) x ls ≡ ls
pushed_behind i x ls h = subst (λ k. pushed_at k x ls ≡ ls) (sym (add-one i)) (behind_lists i x ls h)

no_list : {A : Type 0} (n i : ℕ) → get_or (empty_lists {A = A} n) i [] ≡ []
no_list zero i = refl
no_list (suc n) zero = refl
no_list {A} (suc n) (suc i) = no_list {A = A} n i

pub count_pushed : (g h : Groups) (n : ℕ) (x : ℕ × ℕ) → lists h ≡ pushed_at (n + 1) x (lists g) → length (lists h) ≡ length (lists g)
count_pushed g h n x e = ap length e ∙ length-pushed_at (n + 1) x (lists g)

pub group_same : (g h : Groups) (n : ℕ) (x : ℕ × ℕ) → lists h ≡ pushed_at (n + 1) x (lists g) → n < length (lists g) → group h n ≡ group g n ++ x ∷ []
group_same g h n x e lt = ap (λ ls. get_or ls n []) e ∙ same_list (lists g) n x lt

pub group_other : (g h : Groups) (n m : ℕ) (x : ℕ × ℕ) → lists h ≡ pushed_at (n + 1) x (lists g) → n ≢ m → group h m ≡ group g m
group_other g h n m x e ne = ap (λ ls. get_or ls m []) e ∙ other_list (lists g) n m x ne

-- what stood in a group still does
pub group_kept : (g h : Groups) (n : ℕ) (x : ℕ × ℕ) → lists h ≡ pushed_at (n + 1) x (lists g) → (m : ℕ) (y : ℕ × ℕ) → Contains (group g m) y → Contains (group h m) y
group_kept g h n x e m y c = elim (cases_lt n (length (lists g))) [
  | inl lt ↦ elim (cases_Bool (nat_eq n m)) [
    | inl eq ↦
        let here : group h m ≡ group g m ++ x ∷ [] = subst (λ k. group h k ≡ group g k ++ x ∷ []) (eqb-true n m eq) (group_same g h n x e lt) in
        subst (λ zs. Contains zs y) (sym here) (Contains-append_left (group g m) (x ∷ []) y c)
    | inr ne ↦ subst (λ zs. Contains zs y) (sym (group_other g h n m x e (eqb-false n m ne))) c
  ]
  | inr ge ↦ subst (λ zs. Contains zs y) (sym (ap (λ ls. get_or ls m []) (e ∙ pushed_behind n x (lists g) ge))) c
]

pub group_new : (g h : Groups) (n : ℕ) (x : ℕ × ℕ) → lists h ≡ pushed_at (n + 1) x (lists g) → n < length (lists g) → Contains (group h n) x
group_new g h n x e lt = subst (λ zs. Contains zs x) (sym (group_same g h n x e lt)) (Contains-push (group g n) x)

pub AreByFirst-none : (count : ℕ) (g : Groups) → lists g ≡ empty_lists count → AreByFirst count [] g
AreByFirst-none count g e = record {
  count_same = ap length e ∙ length-empty_lists (ℕ × ℕ) count;
  each = λ n lt. ap (λ ls. get_or ls n []) e ∙ no_list {A = ℕ × ℕ} count n;
}

filter-one : (test : ℕ × ℕ → Bool) (x : ℕ × ℕ) (b : Bool) → test x ≡ b → filter test (x ∷ []) ≡ cond b (x ∷ []) []
filter-one test x b e = ap (λ v. cond v (x ∷ []) []) e

abbrev test : ℕ → ℕ × ℕ → Bool
test n pair = nat_eq pair.0 n

pub AreByFirst-more : (count : ℕ) (pairs : List (ℕ × ℕ)) (x : ℕ × ℕ) (g h : Groups) → AreByFirst count pairs g → lists h ≡ pushed_at (x.0 + 1) x (lists g)
    → AreByFirst count (pairs ++ x ∷ []) h
AreByFirst-more count pairs x g h by e = record {
  count_same = count_pushed g h x.0 x e ∙ by.count_same;
  each = λ n lt. elim (cases_Bool (nat_eq x.0 n)) [
    | inl eq ↦
        let low : x.0 < length (lists g) = (let a = eqb-true x.0 n eq in let b = by.count_same in omega arith) in
        let here : group h n ≡ group g n ++ x ∷ [] = subst (λ k. group h k ≡ group g k ++ x ∷ []) (eqb-true x.0 n eq) (group_same g h x.0 x e low) in
        here ∙ (ap (λ ys. ys ++ x ∷ []) (by.each n lt) ∙ sym (split n ∙ ap (λ ys. filter (test n) pairs ++ ys) (filter-one (test n) x true eq)))
    | inr ne ↦
        group_other g h x.0 n x e (eqb-false x.0 n ne)
        ∙ (by.each n lt ∙ sym (split n ∙ (ap (λ ys. filter (test n) pairs ++ ys) (filter-one (test n) x false ne) ∙ append-nil (filter (test n) pairs))))
  ];
}
  where
    split : (n : ℕ) → filter (test n) (pairs ++ x ∷ []) ≡ filter (test n) pairs ++ filter (test n) (x ∷ [])
    split n = filter-append (test n) pairs (x ∷ [])

-- a group whose values are the same, or have one more

pub lists-kept : (vs : List (Vec (ℕ × ℕ) Global)) (i : ℕ) (v w : Vec (ℕ × ℕ) Global) → v ≡ get_or vs i v → w.items ≡ v.items
    → map vec_items (slice_set vs i w) ≡ map vec_items vs
lists-kept vs i v w at same = map-set_same vec_items vs i w v (same ∙ ap vec_items at)

pub lists-pushed : (vs : List (Vec (ℕ × ℕ) Global)) (i : ℕ) (v w : Vec (ℕ × ℕ) Global) (x : ℕ × ℕ) → i < length vs → v ≡ get_or vs i v → w.items ≡ v.items ++ x ∷ []
    → map vec_items (slice_set vs i w) ≡ pushed_at (i + 1) x (map vec_items vs)
lists-pushed vs i v w x lt at more = map-set_more vec_items vs i v w x lt at more
