-- The table of truths after an entry is added.
use Rattle.std.proofs.Common.{◌≡◌, ℕ, ◌+◌, ◌*◌, ◌<◌, List, [], ◌∷◌, ◌++◌, Bool, true, false, get_or, length, nat_eq, ◌&&◌, ◌||◌, ap, sym, ◌∙◌, refl, subst, arith, count_by, eqb-true, eq-eqb, ◌⊎◌, inl, inr, ⊎_elim, cond}
use Rattle.std.proofs.Math.ListN.{set}
use Rattle.std.proofs.lemmas.Bool.{eqb-false, cases_Bool}
use Rattle.std.proofs.lemmas.List.{get_or-set_same, get_or-set_other}
use Rattle.std.proofs.lemmas.List.Sums.{sum_by-set}
use Rattle.std.proofs.lemmas.Nat.{mul-add-lt, same_from_place}
use Rattle.fort_gtt_closure.specs.Grids.{is_listed, CellsAgree, CellsWithin}
use Rattle.fort_gtt_closure.specs.declared.entry.Entry.{Entry}

abbrev pub same : Entry → ℕ → ℕ → Bool
same e p q = nat_eq e.p p && nat_eq e.q q

or_assoc : (x y z : Bool) → (x || y) || z ≡ x || (y || z)
or_assoc true y z = refl
or_assoc false y z = refl

or_false : (x : Bool) → x || false ≡ false || x
or_false true = refl
or_false false = refl

or_true : (x : Bool) → x || true ≡ true
or_true true = refl
or_true false = refl

or_no : (x : Bool) → x || false ≡ x
or_no true = refl
or_no false = refl

pub listed_push : (es : List Entry) (e : Entry) (p q : ℕ) → is_listed (es ++ e ∷ []) p q ≡ is_listed es p q || same e p q
listed_push [] e p q = or_false (same e p q)
listed_push (d ∷ es) e p q = ap (λ b. same d p q || b) (listed_push es e p q) ∙ sym (or_assoc (same d p q) (is_listed es p q) (same e p q))

and_no : (x : Bool) → x && false ≡ false
and_no true = refl
and_no false = refl

pub same_yes : (e : Entry) (p q : ℕ) → e.p ≡ p → e.q ≡ q → same e p q ≡ true
same_yes e p q h k = ap (λ b. b && nat_eq e.q q) (eq-eqb e.p p h) ∙ eq-eqb e.q q k

pub same_no : (e : Entry) (p q : ℕ) → (nat_eq e.p p ≡ false) ⊎ (nat_eq e.q q ≡ false) → same e p q ≡ false
same_no e p q (inl h) = ap (λ b. b && nat_eq e.q q) h
same_no e p q (inr h) = ap (λ b. nat_eq e.p p && b) h ∙ and_no (nat_eq e.p p)

pub same_of : (e : Entry) (p q : ℕ) → same e p q ≡ true → (e.p ≡ p) × (e.q ≡ q)
same_of e p q h = ⊎_elim (λ a. ⊎_elim (λ b. (eqb-true e.p p a, eqb-true e.q q b)) (λ b. absurd (no_true (sym (same_no e p q (inr b)) ∙ h))) (cases_Bool (nat_eq e.q q)))
    (λ a. absurd (no_true (sym (same_no e p q (inl a)) ∙ h))) (cases_Bool (nat_eq e.p p))
  where
    no_true : false ≡ true → ⊥
    no_true x = cc

pub cell_here : (height width : ℕ) (seen : List Bool) (es : List Entry) (e : Entry) → length seen ≡ height * width → e.p < height → e.q < width
    → get_or (set seen (e.p * width + e.q) true) (e.p * width + e.q) false ≡ is_listed (es ++ e ∷ []) e.p e.q
cell_here height width seen es e sized a b =
    get_or-set_same seen (e.p * width + e.q) true false (omega (arith, mul-add-lt e.p width e.q height a b, sized))
    ∙ sym (listed_push es e e.p e.q ∙ ap (λ x. is_listed es e.p e.q || x) (same_yes e e.p e.q refl refl) ∙ or_true (is_listed es e.p e.q))

pub cell_there : (height width : ℕ) (seen : List Bool) (es : List Entry) (e : Entry) (p q : ℕ) → e.q < width → q < width
    → CellsAgree height width seen es → p < height → (nat_eq e.p p ≡ false) ⊎ (nat_eq e.q q ≡ false)
    → get_or (set seen (e.p * width + e.q) true) (p * width + q) false ≡ is_listed (es ++ e ∷ []) p q
cell_there height width seen es e p q b d agree c ne =
    get_or-set_other seen (e.p * width + e.q) (p * width + q) true false (λ h. other (same_from_place p q e.p e.q width d b h))
    ∙ (agree p q c d ∙ sym (listed_push es e p q ∙ ap (λ x. is_listed es p q || x) (same_no e p q ne) ∙ or_no (is_listed es p q)))
  where
    other : (p ≡ e.p) × (q ≡ e.q) → ⊥
    other w = elim ne [ inl x ↦ eqb-false e.p p x (sym w.0) | inr y ↦ eqb-false e.q q y (sym w.1) ]

pub cells_push : (height width : ℕ) (seen : List Bool) (es : List Entry) (e : Entry) → length seen ≡ height * width → e.p < height → e.q < width → CellsAgree height width seen es
    → CellsAgree height width (set seen (e.p * width + e.q) true) (es ++ e ∷ [])
cells_push height width seen es e sized a b agree p q c d =
    ⊎_elim (λ x. ⊎_elim
    (λ y. subst (λ v. get_or (set seen (e.p * width + e.q) true) (v * width + q) false ≡ is_listed (es ++ e ∷ []) v q) (eqb-true e.p p x)
    (subst (λ v. get_or (set seen (e.p * width + e.q) true) (e.p * width + v) false ≡ is_listed (es ++ e ∷ []) e.p v) (eqb-true e.q q y) (cell_here height width seen es e sized a b)))
    (λ y. cell_there height width seen es e p q b d agree c (inr y))
    (cases_Bool (nat_eq e.q q)))
    (λ x. cell_there height width seen es e p q b d agree c (inl x))
    (cases_Bool (nat_eq e.p p))

pub or_cases : (x y : Bool) → x || y ≡ true → (x ≡ true) ⊎ (y ≡ true)
or_cases true y h = inl refl
or_cases false y h = inr h

pub or_left : (x y : Bool) → x ≡ true → x || y ≡ true
or_left x y h = ap (λ b. b || y) h

pub or_right : (x y : Bool) → y ≡ true → x || y ≡ true
or_right true y h = refl
or_right false y h = h

pub within_push : (height width : ℕ) (es : List Entry) (e : Entry) → e.p < height → e.q < width → CellsWithin height width es → CellsWithin height width (es ++ e ∷ [])
within_push height width es e a b old p q h =
    ⊎_elim (λ x. old p q x)
    (λ y. (subst (λ v. v < height) (same_of e p q y).0 a, subst (λ v. v < width) (same_of e p q y).1 b))
    (or_cases (is_listed es p q) (same e p q) (sym (listed_push es e p q) ∙ h))

pub count_set : (seen : List Bool) (i : ℕ) → i < length seen → get_or seen i false ≡ false → count_by (λ b. b) (set seen i true) ≡ count_by (λ b. b) seen + 1
count_set seen i lt h =
    let f : Bool → ℕ = λ b. cond b 1 0 in
    let k : f (get_or seen i false) ≡ 0 = ap f h in
    omega (arith, sum_by-set f seen i true false lt)
