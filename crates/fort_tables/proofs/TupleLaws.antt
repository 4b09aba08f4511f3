-- The laws of optional tuples.
use Rattle.std.proofs.Common.{◌≡◌, ℕ, zero, suc, ◌*◌, ◌<◌, ◌≤◌, max, List, [], ◌∷◌, map, length, Option, None, Some, get_or, nat_lt, if◌then◌else◌, ⊎_elim, refl, ap, sym, ◌∙◌, arith, subst}
use Rattle.std.proofs.lemmas.Bool.{cases_lt, lt-ltb, le-ltb}
use Rattle.std.proofs.lemmas.List.{length-map, ext_get_or}
use Rattle.fort_theory.specs.Trees.{Tree, Trees, Node, Nil, More, heights, tree_count}
use Rattle.fort_theory.specs.Signatures.{Signature, AreGround, arity_of}
use Rattle.fort_tables.specs.Tuples.{Tuple, tree_at, TupleSymbol, tabulate, root, kid_count, kid, kids, level, head_column, tail_columns, present_trees, rebuilt, IsPresent, presence, AreGroundColumns, IsTuple, arity, symbol_kids, AreSymbols, IsTupleSymbol, FitsKid, AreKids, kid_presence, folded, fold_tuple}

-- tabulate
pub length-tabulate : {A : Type 0} (n : ℕ) (f : ℕ → A) → length (tabulate n f) ≡ n
length-tabulate zero f = refl
length-tabulate (suc n) f = ap suc (length-tabulate n (λ k. f (suc k)))

pub get_or-tabulate : {A : Type 0} (n : ℕ) (f : ℕ → A) (k : ℕ) (d : A) → k < n → get_or (tabulate n f) k d ≡ f k
get_or-tabulate zero f k d h = absurd (omega arith)
get_or-tabulate (suc n) f zero d h = refl
get_or-tabulate (suc n) f (suc k) d h = get_or-tabulate n (λ k. f (suc k)) k d (omega arith)

pub map-tabulate : {A B : Type 0} (g : A → B) (n : ℕ) (f : ℕ → A) → map g (tabulate n f) ≡ tabulate n (λ k. g (f k))
map-tabulate g zero f = refl
map-tabulate g (suc n) f = ap (λ xs. g (f 0) ∷ xs) (map-tabulate g n (λ k. f (suc k)))

pub tabulate_same : {A : Type 0} (n : ℕ) (f g : ℕ → A) → ((k : ℕ) → k < n → f k ≡ g k) → tabulate n f ≡ tabulate n g
tabulate_same zero f g h = refl
tabulate_same (suc n) f g h =
    let e : f 0 ≡ g 0 = h 0 (omega arith) in
    let r : tabulate n (λ k. f (suc k)) ≡ tabulate n (λ k. g (suc k)) = tabulate_same n (λ k. f (suc k)) (λ k. g (suc k)) (λ k l. h (suc k) (omega arith)) in
    cc

-- levels fall
pub height_at : (ts : Trees) (j : ℕ) → level (tree_at ts j ∷ []) ≤ heights ts
height_at Nil j = omega arith
height_at (More t ts) zero = omega arith
height_at (More t ts) (suc j) = omega (arith, height_at ts j)

level_first : (x : Option Tree) (t : Tuple) → level (x ∷ t) ≡ max (level (x ∷ [])) (level t)
level_first None t = omega arith
level_first (Some x) t = omega arith

pub level_kid : (t : Tuple) (j n : ℕ) → level t ≤ suc n → level (kid t j) ≤ n
level_kid [] j n h = omega arith
level_kid (None ∷ t) j n h = level_kid t j n h
level_kid (Some (Node f ts) ∷ t) j n h = omega (arith, level_first (tree_at ts j) (kid t j), height_at ts j, level_kid t j n (omega arith))

pub no_kid : (t : Tuple) → level t ≤ 0 → kid_count t ≡ 0
no_kid [] h = refl
no_kid (None ∷ t) h = no_kid t h
no_kid (Some x ∷ t) h = absurd (omega arith)

-- the fold unfolds by one step
pub folded_enough : {A : Type 0} (step : TupleSymbol → List A → A) (n m : ℕ) (t : Tuple) → level t ≤ n → level t ≤ m → folded step n t ≡ folded step m t
folded_enough step zero zero t h k = refl
folded_enough step zero (suc m) t h k = ap (λ c. step (root t) (tabulate c (λ j. folded step m (kid t j)))) (sym (no_kid t h))
folded_enough step (suc n) zero t h k = ap (λ c. step (root t) (tabulate c (λ j. folded step n (kid t j)))) (no_kid t k)
folded_enough step (suc n) (suc m) t h k = ap (step (root t)) (tabulate_same (kid_count t) _ _ (λ j l. folded_enough step n m (kid t j) (level_kid t j n h) (level_kid t j m k)))

pub fold_tuple-step : {A : Type 0} (step : TupleSymbol → List A → A) (t : Tuple) → fold_tuple step t ≡ step (root t) (map (fold_tuple step) (kids t))
fold_tuple-step step t =
    folded_enough step (level t) (suc (level t)) t (omega arith) (omega arith)
    ∙ ap (step (root t)) (tabulate_same (kid_count t) _ _ (λ j l. folded_enough step (level t) (level (kid t j)) (kid t j) (level_kid t j (level t) (omega arith)) (omega arith))
    ∙ sym (map-tabulate (fold_tuple step) (kid_count t) (kid t)))

-- induction
pub induction_to : (P : Tuple → Type 0) → ((t : Tuple) → ((j : ℕ) → j < kid_count t → P (kid t j)) → P t) → (n : ℕ) (t : Tuple) → level t ≤ n → P t
induction_to P step zero t h = step t (λ j l. absurd (omega (arith, no_kid t h)))
induction_to P step (suc n) t h = step t (λ j l. induction_to P step n (kid t j) (level_kid t j n h))

pub tuple_induction : (P : Tuple → Type 0) → ((t : Tuple) → ((j : ℕ) → j < kid_count t → P (kid t j)) → P t) → (t : Tuple) → P t
tuple_induction P step t = induction_to P step (level t) t (omega arith)

-- the children of what is rebuilt
abbrev pub ColumnFits : ℕ → ℕ → Option Tree → Type 0
ColumnFits a j None = a ≤ j
ColumnFits a j (Some x) = j < a

fits_later : (a j : ℕ) (x : Option Tree) → ColumnFits (suc a) (suc j) x → ColumnFits a j x
fits_later a j None h = omega arith
fits_later a j (Some x) h = omega arith

absent_past : (a j : ℕ) (x : Option Tree) → a ≤ j → ColumnFits a j x → x ≡ None
absent_past a j None l h = refl
absent_past a j (Some x) l h = absurd (omega arith)

pub tree_at-present : (xs : List (Option Tree)) (a : ℕ) → ((j : ℕ) → j < length xs → ColumnFits a j (get_or xs j None)) → (j : ℕ) → j < length xs → tree_at (present_trees xs) j ≡ get_or xs j None
tree_at-present [] a h j l = absurd (omega arith)
tree_at-present (None ∷ xs) a h j l = sym (absent_past a j (get_or (None ∷ xs) j None) (let z = h 0 (omega arith) in omega arith) (h j l))
tree_at-present (Some x ∷ xs) zero h j l = absurd (omega (arith, h 0 (omega arith)))
tree_at-present (Some x ∷ xs) (suc a) h zero l = refl
tree_at-present (Some x ∷ xs) (suc a) h (suc j) l = tree_at-present xs a (λ k m. fits_later a k (get_or xs k None) (h (suc k) (omega arith))) j (omega arith)

pub tree_count-present : (xs : List (Option Tree)) (a : ℕ) → ((j : ℕ) → j < length xs → ColumnFits a j (get_or xs j None)) → a ≤ length xs → tree_count (present_trees xs) ≡ a
tree_count-present [] a h l = omega arith
tree_count-present (None ∷ xs) a h l = omega (arith, h 0 (omega arith))
tree_count-present (Some x ∷ xs) zero h l = absurd (omega (arith, h 0 (omega arith)))
tree_count-present (Some x ∷ xs) (suc a) h l = ap suc (tree_count-present xs a (λ k m. fits_later a k (get_or xs k None) (h (suc k) (omega arith))) (omega arith))

-- a child by its first column and the others
head_fits : (sig : Signature) (g : ℕ) (f : TupleSymbol) (j : ℕ) (t : Tuple) → FitsKid sig (Some g ∷ f) j t → ColumnFits (arity sig g) j (head_column t)
head_fits sig g f j [] h = absurd h
head_fits sig g f j (None ∷ t) h = h.0
head_fits sig g f j (Some x ∷ t) h = h.0

tail_fits : (sig : Signature) (y : Option ℕ) (f : TupleSymbol) (j : ℕ) (t : Tuple) → FitsKid sig (y ∷ f) j t → FitsKid sig f j (tail_columns t)
tail_fits sig y f j [] h = absurd h
tail_fits sig None f j (None ∷ t) h = h
tail_fits sig None f j (Some x ∷ t) h = absurd h
tail_fits sig (Some g) f j (None ∷ t) h = h.1
tail_fits sig (Some g) f j (Some x ∷ t) h = h.1

column_split : (sig : Signature) (y : Option ℕ) (f : TupleSymbol) (j : ℕ) (t : Tuple) → FitsKid sig (y ∷ f) j t → head_column t ∷ tail_columns t ≡ t
column_split sig y f j [] h = absurd h
column_split sig y f j (x ∷ t) h = refl

absent_split : (sig : Signature) (f : TupleSymbol) (j : ℕ) (t : Tuple) → FitsKid sig (None ∷ f) j t → None ∷ tail_columns t ≡ t
absent_split sig f j [] h = absurd h
absent_split sig f j (None ∷ t) h = refl
absent_split sig f j (Some x ∷ t) h = absurd h

get_or-tails : (ts : List Tuple) (j : ℕ) → get_or (map tail_columns ts) j [] ≡ tail_columns (get_or ts j [])
get_or-tails [] j = refl
get_or-tails (t ∷ ts) zero = refl
get_or-tails (t ∷ ts) (suc j) = get_or-tails ts j

get_or-heads : (ts : List Tuple) (j : ℕ) → get_or (map head_column ts) j None ≡ head_column (get_or ts j [])
get_or-heads [] j = refl
get_or-heads (t ∷ ts) zero = refl
get_or-heads (t ∷ ts) (suc j) = get_or-heads ts j

nothing_fits : (sig : Signature) (j : ℕ) (t : Tuple) → FitsKid sig [] j t → [] ≡ t
nothing_fits sig j [] h = refl
nothing_fits sig j (x ∷ t) h = absurd h

abbrev pub AllFit : Signature → TupleSymbol → List Tuple → Type 0
AllFit sig f ts = (j : ℕ) → j < length ts → FitsKid sig f j (get_or ts j [])

tails_fit : (sig : Signature) (y : Option ℕ) (f : TupleSymbol) (ts : List Tuple) → AllFit sig (y ∷ f) ts → AllFit sig f (map tail_columns ts)
tails_fit sig y f ts h j l =
    let P : Tuple → Type 0 = λ t. FitsKid sig f j t in
    subst P (sym (get_or-tails ts j)) (tail_fits sig y f j (get_or ts j []) (h j (omega (arith, length-map ts tail_columns))))

heads_fit : (sig : Signature) (g : ℕ) (f : TupleSymbol) (ts : List Tuple) → AllFit sig (Some g ∷ f) ts → (j : ℕ) → j < length (map head_column ts) → ColumnFits (arity sig g) j (get_or (map head_column ts) j None)
heads_fit sig g f ts h j l =
    let P : Option Tree → Type 0 = λ x. ColumnFits (arity sig g) j x in
    subst P (sym (get_or-heads ts j)) (head_fits sig g f j (get_or ts j []) (h j (omega (arith, length-map ts head_column))))

pub kid-rebuilt : (sig : Signature) (f : TupleSymbol) (ts : List Tuple) → AllFit sig f ts → (j : ℕ) → j < length ts → kid (rebuilt f ts) j ≡ get_or ts j []
kid-rebuilt sig [] ts h j l = nothing_fits sig j (get_or ts j []) (h j l)
kid-rebuilt sig (None ∷ f) ts h j l =
    ap (λ t. None ∷ t) (kid-rebuilt sig f (map tail_columns ts) (tails_fit sig None f ts h) j (omega (arith, length-map ts tail_columns)) ∙ get_or-tails ts j)
    ∙ absent_split sig f j (get_or ts j []) (h j l)
kid-rebuilt sig (Some g ∷ f) ts h j l =
    let later = kid-rebuilt sig f (map tail_columns ts) (tails_fit sig (Some g) f ts h) j (omega (arith, length-map ts tail_columns)) ∙ get_or-tails ts j in
    let now = tree_at-present (map head_column ts) (arity sig g) (heads_fit sig g f ts h) j (omega (arith, length-map ts head_column)) ∙ get_or-heads ts j in
    ap (λ x. x ∷ kid (rebuilt f (map tail_columns ts)) j) now ∙ (ap (λ t. head_column (get_or ts j []) ∷ t) later ∙ column_split sig (Some g) f j (get_or ts j []) (h j l))

pub kid_count-rebuilt : (sig : Signature) (f : TupleSymbol) (ts : List Tuple) → AllFit sig f ts → symbol_kids sig f ≤ length ts → kid_count (rebuilt f ts) ≡ symbol_kids sig f
kid_count-rebuilt sig [] ts h l = refl
kid_count-rebuilt sig (None ∷ f) ts h l = kid_count-rebuilt sig f (map tail_columns ts) (tails_fit sig None f ts h) (omega (arith, length-map ts tail_columns))
kid_count-rebuilt sig (Some g ∷ f) ts h l =
    let later = kid_count-rebuilt sig f (map tail_columns ts) (tails_fit sig (Some g) f ts h) (omega (arith, length-map ts tail_columns)) in
    let now = tree_count-present (map head_column ts) (arity sig g) (heads_fit sig g f ts h) (omega (arith, length-map ts head_column)) in
    omega arith

pub kids-rebuilt : (sig : Signature) (f : TupleSymbol) (ts : List Tuple) → AreKids sig f ts → kids (rebuilt f ts) ≡ ts
kids-rebuilt sig f ts h =
    let e = kid_count-rebuilt sig f ts h.fits (omega (arith, h.count)) ∙ sym h.count in
    ap (λ n. tabulate n (kid (rebuilt f ts))) e
    ∙ ext_get_or [] (tabulate (length ts) (kid (rebuilt f ts))) ts (length-tabulate (length ts) (kid (rebuilt f ts)))
    (λ j l. let m : j < length ts = omega (arith, length-tabulate (length ts) (kid (rebuilt f ts))) in get_or-tabulate (length ts) (kid (rebuilt f ts)) j [] m ∙ kid-rebuilt sig f ts h.fits j m)

-- a tuple is rebuilt from its root and its children
pub present_trees-tabulate : (ts : Trees) (m : ℕ) → tree_count ts ≤ m → present_trees (tabulate m (tree_at ts)) ≡ ts
present_trees-tabulate Nil zero h = refl
present_trees-tabulate Nil (suc m) h = refl
present_trees-tabulate (More t ts) zero h = absurd (omega arith)
present_trees-tabulate (More t ts) (suc m) h = ap (λ us. More t us) (present_trees-tabulate ts m (omega arith))

pub rebuilt_kids_to : (t : Tuple) (m : ℕ) → kid_count t ≤ m → rebuilt (root t) (tabulate m (kid t)) ≡ t
rebuilt_kids_to [] m h = refl
rebuilt_kids_to (None ∷ t) m h =
    ap (λ us. None ∷ rebuilt (root t) us) (map-tabulate tail_columns m (kid (None ∷ t))) ∙ ap (λ u. None ∷ u) (rebuilt_kids_to t m h)
rebuilt_kids_to (Some (Node f ts) ∷ t) m h =
    ap (λ us. Some (Node f (present_trees (map head_column (tabulate m (kid (Some (Node f ts) ∷ t)))))) ∷ rebuilt (root t) us) (map-tabulate tail_columns m (kid (Some (Node f ts) ∷ t)))
    ∙ (ap (λ u. Some (Node f (present_trees (map head_column (tabulate m (kid (Some (Node f ts) ∷ t)))))) ∷ u) (rebuilt_kids_to t m (omega arith))
    ∙ ap (λ us. Some (Node f us) ∷ t) (ap present_trees (map-tabulate head_column m (kid (Some (Node f ts) ∷ t))) ∙ present_trees-tabulate ts m (omega arith)))

-- Result: a tuple is made of its root and its children
pub rebuilt-kids : (t : Tuple) → rebuilt (root t) (kids t) ≡ t
rebuilt-kids t = rebuilt_kids_to t (kid_count t) (omega arith)

pub root-rebuilt : (f : TupleSymbol) (ts : List Tuple) → root (rebuilt f ts) ≡ f
root-rebuilt [] ts = refl
root-rebuilt (None ∷ f) ts = ap (λ g. None ∷ g) (root-rebuilt f (map tail_columns ts))
root-rebuilt (Some x ∷ f) ts = ap (λ g. Some x ∷ g) (root-rebuilt f (map tail_columns ts))

-- over a signature
pub arity_from_get : (sig : Signature) (g n : ℕ) → arity_of sig g ≡ Some n → (arity sig g ≡ n) × (g < length sig)
arity_from_get [] g n h = absurd cc
arity_from_get (a ∷ sig) zero n h = (cc, omega arith)
arity_from_get (a ∷ sig) (suc g) n h = let r = arity_from_get sig g n h in (r.0, omega arith)

pub get_from_arity : (sig : Signature) (g : ℕ) → g < length sig → arity_of sig g ≡ Some (arity sig g)
get_from_arity [] g h = absurd (omega arith)
get_from_arity (a ∷ sig) zero h = refl
get_from_arity (a ∷ sig) (suc g) h = get_from_arity sig g (omega arith)

fits_sooner : (a j : ℕ) (x : Option Tree) → ColumnFits a j x → ColumnFits (suc a) (suc j) x
fits_sooner a j None h = omega arith
fits_sooner a j (Some x) h = omega arith

pub tree_at_fits : (ts : Trees) (j : ℕ) → ColumnFits (tree_count ts) j (tree_at ts j)
tree_at_fits Nil j = omega arith
tree_at_fits (More t ts) zero = omega arith
tree_at_fits (More t ts) (suc j) = fits_sooner (tree_count ts) j (tree_at ts j) (tree_at_fits ts j)

fits_both : (sig : Signature) (g : ℕ) (f : TupleSymbol) (j : ℕ) (x : Option Tree) (t : Tuple) → ColumnFits (arity sig g) j x → FitsKid sig f j t → FitsKid sig (Some g ∷ f) j (x ∷ t)
fits_both sig g f j None t h k = (h, k)
fits_both sig g f j (Some x) t h k = (h, k)

pub kid_fits : (sig : Signature) (t : Tuple) (j : ℕ) → AreGroundColumns sig t → FitsKid sig (root t) j (kid t j)
kid_fits sig [] j h = tt
kid_fits sig (None ∷ t) j h = kid_fits sig t j h
kid_fits sig (Some (Node f ts) ∷ t) j h =
    let P : ℕ → Type 0 = λ a. ColumnFits a j (tree_at ts j) in
    fits_both sig f (root t) j (tree_at ts j) (kid t j) (subst P (sym (arity_from_get sig f (tree_count ts) h.0.0).0) (tree_at_fits ts j)) (kid_fits sig t j h.1)

ground_at : (sig : Signature) (ts : Trees) (j : ℕ) → AreGround sig ts → AreGroundColumns sig (tree_at ts j ∷ [])
ground_at sig Nil j h = tt
ground_at sig (More t ts) zero h = (h.0, tt)
ground_at sig (More t ts) (suc j) h = ground_at sig ts j h.1

ground_both : (sig : Signature) (x : Option Tree) (t : Tuple) → AreGroundColumns sig (x ∷ []) → AreGroundColumns sig t → AreGroundColumns sig (x ∷ t)
ground_both sig None t h k = k
ground_both sig (Some x) t h k = (h.0, k)

pub kid_ground : (sig : Signature) (t : Tuple) (j : ℕ) → AreGroundColumns sig t → AreGroundColumns sig (kid t j)
kid_ground sig [] j h = tt
kid_ground sig (None ∷ t) j h = kid_ground sig t j h
kid_ground sig (Some (Node f ts) ∷ t) j h = ground_both sig (tree_at ts j) (kid t j) (ground_at sig ts j h.0.1) (kid_ground sig t j h.1)

pub kid_count_is : (sig : Signature) (t : Tuple) → AreGroundColumns sig t → kid_count t ≡ symbol_kids sig (root t)
kid_count_is sig [] h = refl
kid_count_is sig (None ∷ t) h = kid_count_is sig t h
kid_count_is sig (Some (Node f ts) ∷ t) h =
    let e = (arity_from_get sig f (tree_count ts) h.0.0).0 in
    let r = kid_count_is sig t h.1 in
    omega arith

present_first : (x : Option Tree) (t : Tuple) → IsPresent t → IsPresent (x ∷ t)
present_first None t h = h
present_first (Some x) t h = tt

present_here : (x : Option Tree) (t : Tuple) (a j : ℕ) → j < a → ColumnFits a j x → IsPresent (x ∷ t)
present_here None t a j l h = absurd (omega arith)
present_here (Some x) t a j l h = tt

pub kid_present : (t : Tuple) (j : ℕ) → j < kid_count t → IsPresent (kid t j)
kid_present [] j h = absurd (omega arith)
kid_present (None ∷ t) j h = kid_present t j h
kid_present (Some (Node f ts) ∷ t) j h =
    ⊎_elim (λ l. present_here (tree_at ts j) (kid t j) (tree_count ts) j l (tree_at_fits ts j)) (λ l. present_first (tree_at ts j) (kid t j) (kid_present t j (omega arith))) (cases_lt j (tree_count ts))

pub length-kid : (t : Tuple) (j : ℕ) → length (kid t j) ≡ length t
length-kid [] j = refl
length-kid (None ∷ t) j = ap suc (length-kid t j)
length-kid (Some (Node f ts) ∷ t) j = ap suc (length-kid t j)

pub IsTuple-kid : (sig : Signature) (n : ℕ) (t : Tuple) (j : ℕ) → IsTuple sig n t → j < kid_count t → IsTuple sig n (kid t j)
IsTuple-kid sig n t j h l = record { width = length-kid t j ∙ h.width; present = kid_present t j l; grounded = kid_ground sig t j h.grounded }

-- Result: a tuple's children stand under its root
pub AreKids-kids : (sig : Signature) (t : Tuple) → AreGroundColumns sig t → AreKids sig (root t) (kids t)
AreKids-kids sig t h =
    let n = kid_count t in
    let e : length (kids t) ≡ kid_count t = length-tabulate (kid_count t) (kid t) in
    let at : (j : ℕ) → j < length (kids t) → get_or (kids t) j [] ≡ kid t j = λ j l. get_or-tabulate (kid_count t) (kid t) j [] (omega arith) in
    let P : ℕ → Tuple → Type 0 = λ j u. FitsKid sig (root t) j u in
    record {
      count = e ∙ kid_count_is sig t h;
      fits = λ j l. subst (P j) (sym (at j l)) (kid_fits sig t j h);
      grounded = λ j l. subst (AreGroundColumns sig) (sym (at j l)) (kid_ground sig t j h);
    }

length-root : (t : Tuple) → length (root t) ≡ length t
length-root [] = refl
length-root (None ∷ t) = ap suc (length-root t)
length-root (Some (Node f ts) ∷ t) = ap suc (length-root t)

present_root : (t : Tuple) → IsPresent t → IsPresent (root t)
present_root [] h = absurd h
present_root (None ∷ t) h = present_root t h
present_root (Some (Node f ts) ∷ t) h = tt

symbols_root : (sig : Signature) (t : Tuple) → AreGroundColumns sig t → AreSymbols sig (root t)
symbols_root sig [] h = tt
symbols_root sig (None ∷ t) h = symbols_root sig t h
symbols_root sig (Some (Node f ts) ∷ t) h = ((arity_from_get sig f (tree_count ts) h.0.0).1, symbols_root sig t h.1)

pub IsTupleSymbol-root : (sig : Signature) (n : ℕ) (t : Tuple) → IsTuple sig n t → IsTupleSymbol sig n (root t)
IsTupleSymbol-root sig n t h = record { width = length-root t ∙ h.width; present = present_root t h.present; symbols = symbols_root sig t h.grounded }

-- what is rebuilt is a tuple
length-rebuilt : (f : TupleSymbol) (ts : List Tuple) → length (rebuilt f ts) ≡ length f
length-rebuilt [] ts = refl
length-rebuilt (None ∷ f) ts = ap suc (length-rebuilt f (map tail_columns ts))
length-rebuilt (Some g ∷ f) ts = ap suc (length-rebuilt f (map tail_columns ts))

present_rebuilt : (f : TupleSymbol) (ts : List Tuple) → IsPresent f → IsPresent (rebuilt f ts)
present_rebuilt [] ts h = absurd h
present_rebuilt (None ∷ f) ts h = present_rebuilt f (map tail_columns ts) h
present_rebuilt (Some g ∷ f) ts h = tt

abbrev pub AllGround : Signature → List Tuple → Type 0
AllGround sig ts = (j : ℕ) → j < length ts → AreGroundColumns sig (get_or ts j [])

tail_ground : (sig : Signature) (t : Tuple) → AreGroundColumns sig t → AreGroundColumns sig (tail_columns t)
tail_ground sig [] h = tt
tail_ground sig (None ∷ t) h = h
tail_ground sig (Some x ∷ t) h = h.1

tails_ground : (sig : Signature) (ts : List Tuple) → AllGround sig ts → AllGround sig (map tail_columns ts)
tails_ground sig ts h j l = subst (AreGroundColumns sig) (sym (get_or-tails ts j)) (tail_ground sig (get_or ts j []) (h j (omega (arith, length-map ts tail_columns))))

present_ground : (sig : Signature) (ts : List Tuple) → AllGround sig ts → AreGround sig (present_trees (map head_column ts))
present_ground sig [] h = tt
present_ground sig ([] ∷ ts) h = tt
present_ground sig ((None ∷ t) ∷ ts) h = tt
present_ground sig ((Some x ∷ t) ∷ ts) h = ((h 0 (omega arith)).0, present_ground sig ts (λ j l. h (suc j) (omega arith)))

pub columns_rebuilt : (sig : Signature) (f : TupleSymbol) (ts : List Tuple) → AreSymbols sig f → AllFit sig f ts → AllGround sig ts → symbol_kids sig f ≤ length ts → AreGroundColumns sig (rebuilt f ts)
columns_rebuilt sig [] ts s h g l = tt
columns_rebuilt sig (None ∷ f) ts s h g l = columns_rebuilt sig f (map tail_columns ts) s (tails_fit sig None f ts h) (tails_ground sig ts g) (omega (arith, length-map ts tail_columns))
columns_rebuilt sig (Some y ∷ f) ts s h g l =
    let now = tree_count-present (map head_column ts) (arity sig y) (heads_fit sig y f ts h) (omega (arith, length-map ts head_column)) in (
      (get_from_arity sig y s.0 ∙ ap Some (sym now), present_ground sig ts g),
      columns_rebuilt sig f (map tail_columns ts) s.1 (tails_fit sig (Some y) f ts h) (tails_ground sig ts g) (omega (arith, length-map ts tail_columns)),
    )

pub IsTuple-rebuilt : (sig : Signature) (n : ℕ) (f : TupleSymbol) (ts : List Tuple) → IsTupleSymbol sig n f → AreKids sig f ts → IsTuple sig n (rebuilt f ts)
IsTuple-rebuilt sig n f ts s h = record {
  width = length-rebuilt f ts ∙ s.width;
  present = present_rebuilt f ts s.present;
  grounded = columns_rebuilt sig f ts s.symbols h.fits h.grounded (omega (arith, h.count));
}

-- presence
abbrev pub presence_bit : ℕ → ℕ → ℕ
presence_bit j a = if nat_lt j a then 1 else 0

pub bit_below : (j a : ℕ) → j < a → presence_bit j a ≡ 1
bit_below j a h = rw (lt-ltb j a h) refl

bit_past : (j a : ℕ) → a ≤ j → presence_bit j a ≡ 0
bit_past j a h = rw (le-ltb j a h) refl

pub presence_fits : (sig : Signature) (f : TupleSymbol) (j : ℕ) (t : Tuple) → FitsKid sig f j t → presence t ≡ kid_presence sig f j
presence_fits sig [] j [] h = refl
presence_fits sig [] j (x ∷ t) h = absurd h
presence_fits sig (x ∷ f) j [] h = absurd h
presence_fits sig (None ∷ f) j (None ∷ t) h = ap (λ n. 2 * n) (presence_fits sig f j t h)
presence_fits sig (None ∷ f) j (Some y ∷ t) h = absurd h
presence_fits sig (Some g ∷ f) j (None ∷ t) h = omega (arith, presence_fits sig f j t h.1, bit_past j (arity sig g) h.0)
presence_fits sig (Some g ∷ f) j (Some y ∷ t) h = omega (arith, presence_fits sig f j t h.1, bit_below j (arity sig g) h.0)

pub fits_presence : (sig : Signature) (f : TupleSymbol) (j : ℕ) (t : Tuple) → length t ≡ length f → presence t ≡ kid_presence sig f j → FitsKid sig f j t
fits_presence sig [] j [] l h = tt
fits_presence sig [] j (x ∷ t) l h = absurd (omega arith)
fits_presence sig (x ∷ f) j [] l h = absurd (omega arith)
fits_presence sig (None ∷ f) j (None ∷ t) l h = fits_presence sig f j t (omega arith) (omega arith)
fits_presence sig (None ∷ f) j (Some y ∷ t) l h = absurd (omega arith)
fits_presence sig (Some g ∷ f) j (None ∷ t) l h =
    ⊎_elim (λ m. absurd (omega (arith, bit_below j (arity sig g) m))) (λ m. (m, fits_presence sig f j t (omega arith) (omega (arith, bit_past j (arity sig g) m)))) (cases_lt j (arity sig g))
fits_presence sig (Some g ∷ f) j (Some y ∷ t) l h =
    ⊎_elim (λ m. (m, fits_presence sig f j t (omega arith) (omega (arith, bit_below j (arity sig g) m)))) (λ m. absurd (omega (arith, bit_past j (arity sig g) m))) (cases_lt j (arity sig g))
