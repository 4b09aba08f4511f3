-- The columns at some places: root, children and child count, what stands under a tuple symbol, and which of them are present.
use Rattle.std.proofs.Common.{◌≡◌, ℕ, zero, suc, ◌<◌, ◌≤◌, max, List, [], ◌∷◌, length, Option, None, Some, get_or, true, ◌||◌, refl, ap, sym, ◌∙◌, arith, subst}
use Rattle.std.proofs.lemmas.List.{length-map}
use Rattle.fort_theory.specs.Trees.{Tree, Node}
use Rattle.fort_theory.specs.Signatures.{Signature}
use Rattle.fort_tables.specs.Tuples.{Tuple, TupleSymbol, root, kid, kid_count, presence, IsPresent, IsFull, AreGroundColumns, IsTuple, AreSymbols, symbol_kids, FitsKid}
use Rattle.fort_tables.specs.OneColumn.{column_root, column_kid, column_kid_count}
use Rattle.fort_tables.proofs.InsertLaws.{root_first, kid_first, kid_count_first, column_ground}
use Rattle.fort_tables.specs.Selections.{selected, is_present, ArePlaces}

-- one column
root_at : (t : Tuple) (p : ℕ) → get_or (root t) p None ≡ column_root (get_or t p None)
root_at [] p = refl
root_at (None ∷ t) zero = refl
root_at (None ∷ t) (suc p) = root_at t p
root_at (Some (Node f ts) ∷ t) zero = refl
root_at (Some (Node f ts) ∷ t) (suc p) = root_at t p

kid_at : (t : Tuple) (j p : ℕ) → get_or (kid t j) p None ≡ column_kid (get_or t p None) j
kid_at [] j p = refl
kid_at (None ∷ t) j zero = refl
kid_at (None ∷ t) j (suc p) = kid_at t j p
kid_at (Some (Node f ts) ∷ t) j zero = refl
kid_at (Some (Node f ts) ∷ t) j (suc p) = kid_at t j p

kid_count_at : (t : Tuple) (p : ℕ) → column_kid_count (get_or t p None) ≤ kid_count t
kid_count_at [] p = omega arith
kid_count_at (None ∷ t) zero = omega arith
kid_count_at (None ∷ t) (suc p) = kid_count_at t p
kid_count_at (Some (Node f ts) ∷ t) zero = omega arith
kid_count_at (Some (Node f ts) ∷ t) (suc p) = omega (arith, kid_count_at t p)

-- root and children
pub root-selected : (places : List ℕ) (t : Tuple) → root (selected places t) ≡ selected places (root t)
root-selected [] t = refl
root-selected (p ∷ places) t =
    root_first (get_or t p None) (selected places t)
    ∙ (ap (λ x. x ∷ root (selected places t)) (sym (root_at t p)) ∙ ap (λ f. get_or (root t) p None ∷ f) (root-selected places t))

pub kid-selected : (places : List ℕ) (t : Tuple) (j : ℕ) → kid (selected places t) j ≡ selected places (kid t j)
kid-selected [] t j = refl
kid-selected (p ∷ places) t j =
    kid_first (get_or t p None) (selected places t) j
    ∙ (ap (λ x. x ∷ kid (selected places t) j) (sym (kid_at t j p)) ∙ ap (λ u. get_or (kid t j) p None ∷ u) (kid-selected places t j))

pub kid_count-selected : (places : List ℕ) (t : Tuple) → kid_count (selected places t) ≤ kid_count t
kid_count-selected [] t = omega arith
kid_count-selected (p ∷ places) t = omega (arith, kid_count_first (get_or t p None) (selected places t), kid_count_at t p, kid_count-selected places t)

-- ground terms
ground_more : (sig : Signature) (x : Option Tree) (t : Tuple) → AreGroundColumns sig (x ∷ []) → AreGroundColumns sig t → AreGroundColumns sig (x ∷ t)
ground_more sig None t h k = k
ground_more sig (Some x) t h k = (h.0, k)

pub AreGroundColumns-selected : (sig : Signature) (places : List ℕ) (t : Tuple) → AreGroundColumns sig t → AreGroundColumns sig (selected places t)
AreGroundColumns-selected sig [] t h = tt
AreGroundColumns-selected sig (p ∷ places) t h = ground_more sig (get_or t p None) (selected places t) (column_ground sig t p h) (AreGroundColumns-selected sig places t h)

-- whether a column is present
pub present_from_test : {A : Type 0} (t : List (Option A)) → is_present t ≡ true → IsPresent t
present_from_test [] h = absurd cc
present_from_test (None ∷ t) h = present_from_test t h
present_from_test (Some x ∷ t) h = tt

pub test_from_present : {A : Type 0} (t : List (Option A)) → IsPresent t → is_present t ≡ true
test_from_present [] h = absurd h
test_from_present (None ∷ t) h = test_from_present t h
test_from_present (Some x ∷ t) h = refl

pub is_present-root : (t : Tuple) → is_present (root t) ≡ is_present t
is_present-root [] = refl
is_present-root (None ∷ t) = is_present-root t
is_present-root (Some (Node f ts) ∷ t) = refl

pub IsTuple-selected : (sig : Signature) (places : List ℕ) (t : Tuple) → AreGroundColumns sig t → IsPresent (selected places t) → IsTuple sig (length places) (selected places t)
IsTuple-selected sig places t h p = record { width = length-map places (λ p. get_or t p None); present = p; grounded = AreGroundColumns-selected sig places t h }

-- what stands under a tuple symbol
fits_at : (sig : Signature) (f : TupleSymbol) (j : ℕ) (t : Tuple) (p : ℕ) → FitsKid sig f j t → FitsKid sig (get_or f p None ∷ []) j (get_or t p None ∷ [])
fits_at sig [] j [] p h = tt
fits_at sig [] j (y ∷ t) p h = absurd h
fits_at sig (x ∷ f) j [] p h = absurd h
fits_at sig (None ∷ f) j (None ∷ t) zero h = tt
fits_at sig (None ∷ f) j (None ∷ t) (suc p) h = fits_at sig f j t p h
fits_at sig (None ∷ f) j (Some y ∷ t) p h = absurd h
fits_at sig (Some g ∷ f) j (None ∷ t) zero h = (h.0, tt)
fits_at sig (Some g ∷ f) j (None ∷ t) (suc p) h = fits_at sig f j t p h.1
fits_at sig (Some g ∷ f) j (Some y ∷ t) zero h = (h.0, tt)
fits_at sig (Some g ∷ f) j (Some y ∷ t) (suc p) h = fits_at sig f j t p h.1

fits_more : (sig : Signature) (x : Option ℕ) (f : TupleSymbol) (j : ℕ) (y : Option Tree) (t : Tuple) → FitsKid sig (x ∷ []) j (y ∷ []) → FitsKid sig f j t → FitsKid sig (x ∷ f) j (y ∷ t)
fits_more sig None f j None t h k = k
fits_more sig None f j (Some y) t h k = absurd h
fits_more sig (Some g) f j None t h k = (h.0, k)
fits_more sig (Some g) f j (Some y) t h k = (h.0, k)

pub FitsKid-selected : (sig : Signature) (places : List ℕ) (f : TupleSymbol) (j : ℕ) (t : Tuple) → FitsKid sig f j t → FitsKid sig (selected places f) j (selected places t)
FitsKid-selected sig [] f j t h = tt
FitsKid-selected sig (p ∷ places) f j t h = fits_more sig (get_or f p None) (selected places f) j (get_or t p None) (selected places t) (fits_at sig f j t p h) (FitsKid-selected sig places f j t h)

pub present_under : (sig : Signature) (f : TupleSymbol) (j : ℕ) (t : Tuple) → FitsKid sig f j t → j < symbol_kids sig f → IsPresent t
present_under sig [] j [] h l = absurd (omega arith)
present_under sig [] j (y ∷ t) h l = absurd h
present_under sig (x ∷ f) j [] h l = absurd h
present_under sig (None ∷ f) j (None ∷ t) h l = present_under sig f j t h l
present_under sig (None ∷ f) j (Some y ∷ t) h l = absurd h
present_under sig (Some g ∷ f) j (None ∷ t) h l = present_under sig f j t h.1 (omega (arith, h.0))
present_under sig (Some g ∷ f) j (Some y ∷ t) h l = tt

symbols_at : (sig : Signature) (f : TupleSymbol) (p : ℕ) → AreSymbols sig f → AreSymbols sig (get_or f p None ∷ [])
symbols_at sig [] p h = tt
symbols_at sig (None ∷ f) zero h = tt
symbols_at sig (None ∷ f) (suc p) h = symbols_at sig f p h
symbols_at sig (Some g ∷ f) zero h = (h.0, tt)
symbols_at sig (Some g ∷ f) (suc p) h = symbols_at sig f p h.1

symbols_more : (sig : Signature) (x : Option ℕ) (f : TupleSymbol) → AreSymbols sig (x ∷ []) → AreSymbols sig f → AreSymbols sig (x ∷ f)
symbols_more sig None f h k = k
symbols_more sig (Some g) f h k = (h.0, k)

pub AreSymbols-selected : (sig : Signature) (places : List ℕ) (f : TupleSymbol) → AreSymbols sig f → AreSymbols sig (selected places f)
AreSymbols-selected sig [] f h = tt
AreSymbols-selected sig (p ∷ places) f h = symbols_more sig (get_or f p None) (selected places f) (symbols_at sig f p h) (AreSymbols-selected sig places f h)

kids_first : (sig : Signature) (x : Option ℕ) (f : TupleSymbol) → symbol_kids sig (x ∷ f) ≡ max (symbol_kids sig (x ∷ [])) (symbol_kids sig f)
kids_first sig None f = omega arith
kids_first sig (Some g) f = omega arith

kids_at : (sig : Signature) (f : TupleSymbol) (p : ℕ) → symbol_kids sig (get_or f p None ∷ []) ≤ symbol_kids sig f
kids_at sig [] p = omega arith
kids_at sig (None ∷ f) zero = omega arith
kids_at sig (None ∷ f) (suc p) = kids_at sig f p
kids_at sig (Some g ∷ f) zero = omega arith
kids_at sig (Some g ∷ f) (suc p) = omega (arith, kids_at sig f p)

pub symbol_kids-selected : (sig : Signature) (places : List ℕ) (f : TupleSymbol) → symbol_kids sig (selected places f) ≤ symbol_kids sig f
symbol_kids-selected sig [] f = omega arith
symbol_kids-selected sig (p ∷ places) f = omega (arith, kids_first sig (get_or f p None) (selected places f), kids_at sig f p, symbol_kids-selected sig places f)

-- tuples of terms
full_at : (t : Tuple) (p : ℕ) → IsFull t → p < length t → (x : Tree) × (get_or t p None ≡ Some x)
full_at [] p h l = absurd (omega arith)
full_at (None ∷ t) p h l = absurd h
full_at (Some x ∷ t) zero h l = (x, refl)
full_at (Some x ∷ t) (suc p) h l = full_at t p h (omega arith)

full_more : (x : Option Tree) (t : Tuple) (y : Tree) → x ≡ Some y → IsFull t → IsFull (x ∷ t)
full_more x t y e h = subst (λ (z : Option Tree). IsFull (z ∷ t)) (sym e) h

pub IsFull-selected : (places : List ℕ) (t : Tuple) → IsFull t → ArePlaces (length t) places → IsFull (selected places t)
IsFull-selected [] t h l = tt
IsFull-selected (p ∷ places) t h l = let x = full_at t p h (l 0 (omega arith)) in full_more (get_or t p None) (selected places t) x.0 x.1 (IsFull-selected places t h (λ k m. l (suc k) (omega arith)))

pub present_from_full : (t : Tuple) → IsFull t → 0 < length t → IsPresent t
present_from_full [] h l = absurd (omega arith)
present_from_full (None ∷ t) h l = absurd h
present_from_full (Some x ∷ t) h l = tt

-- the same columns are present
abbrev HaveSame : Tuple → Tuple → Type 0
HaveSame [] [] = Unit {0}
HaveSame [] (y ∷ u) = ⊥
HaveSame (x ∷ t) [] = ⊥
HaveSame (None ∷ t) (None ∷ u) = HaveSame t u
HaveSame (None ∷ t) (Some y ∷ u) = ⊥
HaveSame (Some x ∷ t) (None ∷ u) = ⊥
HaveSame (Some x ∷ t) (Some y ∷ u) = HaveSame t u

same_columns : (t u : Tuple) → length t ≡ length u → presence t ≡ presence u → HaveSame t u
same_columns [] [] l h = tt
same_columns [] (y ∷ u) l h = absurd (omega arith)
same_columns (x ∷ t) [] l h = absurd (omega arith)
same_columns (None ∷ t) (None ∷ u) l h = same_columns t u (omega arith) (omega arith)
same_columns (None ∷ t) (Some y ∷ u) l h = absurd (omega arith)
same_columns (Some x ∷ t) (None ∷ u) l h = absurd (omega arith)
same_columns (Some x ∷ t) (Some y ∷ u) l h = same_columns t u (omega arith) (omega arith)

column_present : (t u : Tuple) (p : ℕ) → HaveSame t u → is_present (get_or t p None ∷ []) ≡ is_present (get_or u p None ∷ [])
column_present [] [] p h = refl
column_present [] (y ∷ u) p h = absurd h
column_present (x ∷ t) [] p h = absurd h
column_present (None ∷ t) (None ∷ u) zero h = refl
column_present (None ∷ t) (None ∷ u) (suc p) h = column_present t u p h
column_present (None ∷ t) (Some y ∷ u) p h = absurd h
column_present (Some x ∷ t) (None ∷ u) p h = absurd h
column_present (Some x ∷ t) (Some y ∷ u) zero h = refl
column_present (Some x ∷ t) (Some y ∷ u) (suc p) h = column_present t u p h

present_first : (x : Option Tree) (t : Tuple) → is_present (x ∷ t) ≡ (is_present (x ∷ []) || is_present t)
present_first None t = refl
present_first (Some x) t = refl

selected_present : (places : List ℕ) (t u : Tuple) → HaveSame t u → is_present (selected places t) ≡ is_present (selected places u)
selected_present [] t u h = refl
selected_present (p ∷ places) t u h =
    let a = column_present t u p h in
    let b = selected_present places t u h in
    present_first (get_or t p None) (selected places t) ∙ ((λ i. a i || b i) ∙ sym (present_first (get_or u p None) (selected places u)))

pub is_present-alike : (places : List ℕ) (t u : Tuple) → length t ≡ length u → presence t ≡ presence u → is_present (selected places t) ≡ is_present (selected places u)
is_present-alike places t u l h = selected_present places t u (same_columns t u l h)
