-- The least child without a rank, where some child has none.
use Rattle.std.proofs.Common.{◌≡◌, ℕ, ◌+◌, ◌<◌, ◌≤◌, ◌==◌, min, List, [], ◌∷◌, ◌++◌, length, map, get_or, take, drop, true, if◌then◌else◌, inl, inr, ⊎_elim, refl, ap, sym, ◌∙◌, arith, subst}
use Rattle.std.specs.Prelude.{Contains, ◌⊎◌}
use Rattle.std.proofs.lemmas.Bool.{cases_Bool, eqb-true, eq-eqb, cases_lt}
use Rattle.std.proofs.lemmas.List.{drop_more, take_more, map-append}
use Rattle.fort_theory.proofs.Members.{Contains-head, Contains-behind, Contains-cons_cases, Contains-none}
use Rattle.fort_tables.specs.Tables.{Table}
use Rattle.fort_tables.specs.Ranks.{AreSettled}
use Rattle.fort_tables.proofs.CountLaws.{AreLeast}
use Rattle.fort_tables.proofs.PureStateLaws.{pure_child}
use Rattle.fort_infinity.specs.Children.{AreChildren}
use Rattle.fort_infinity.specs.LeastUnranked.{least_from, greatest_number, least_child}

-- it isn't greater than the first number
least_from-low : (rank : ℕ → ℕ) (a : ℕ) (ks : List ℕ) → least_from rank a ks ≤ a
least_from-low rank a [] = omega arith
least_from-low rank a (k ∷ ks) = elim (cases_Bool (rank k == 0)) [
  | inl y ↦ let h = least_from-low rank (min a k) ks in rw y (omega (arith, h))
  | inr z ↦ let h = least_from-low rank a ks in rw z h
]

pub least_from-least : (rank : ℕ → ℕ) (a : ℕ) (ks : List ℕ) (k : ℕ) → Contains ks k → rank k ≡ 0 → least_from rank a ks ≤ k
least_from-least rank a [] k d e = absurd (Contains-none k d)
least_from-least rank a (x ∷ ks) k d e = ⊎_elim
    (λ (same : x ≡ k).
    let y : (rank x == 0) ≡ true = eq-eqb (rank x) 0 (ap rank same ∙ e) in
    let h = least_from-low rank (min a x) ks in
    rw y (omega (arith, h, same)))
    (λ (c : Contains ks k). least_from-least rank (if rank x == 0 then min a x else a) ks k c e)
    (Contains-cons_cases x ks k d)

min_is : (a x : ℕ) → (min a x ≡ a) ⊎ (min a x ≡ x)
min_is a x = ⊎_elim (λ (l : a < x). inl (omega arith)) (λ (l : x ≤ a). inr (omega arith)) (cases_lt a x)

-- it is the first number, or one of the list
least_from-is : (rank : ℕ → ℕ) (a : ℕ) (ks : List ℕ) → (least_from rank a ks ≡ a) ⊎ (Contains ks (least_from rank a ks) × (rank (least_from rank a ks) ≡ 0))
least_from-is rank a [] = inl refl
least_from-is rank a (x ∷ ks) = elim (cases_Bool (rank x == 0)) [
  | inl y ↦ rw y (⊎_elim
      (λ (e : least_from rank (min a x) ks ≡ min a x). ⊎_elim
      (λ (m : min a x ≡ a). inl (e ∙ m))
      (λ (m : min a x ≡ x).
      let same : least_from rank (min a x) ks ≡ x = e ∙ m in
      inr (subst (λ (k : ℕ). Contains (x ∷ ks) k) (sym same) (Contains-head x ks), ap rank same ∙ eqb-true (rank x) 0 y))
      (min_is a x))
      (λ r. inr (Contains-behind x ks (least_from rank (min a x) ks) r.0, r.1))
      (least_from-is rank (min a x) ks))
  | inr z ↦ rw z (⊎_elim (λ (e : least_from rank a ks ≡ a). inl e) (λ r. inr (Contains-behind x ks (least_from rank a ks) r.0, r.1)) (least_from-is rank a ks))
]

-- one more number of the list is passed
pub least_turn : (rank : ℕ → ℕ) (ks : List ℕ) (i a b all : ℕ) → i < length ks → least_from rank a (drop i ks) ≡ all → b ≡ (if rank (get_or ks i 0) == 0 then min a (get_or ks i 0) else a) → least_from rank b (drop (i + 1) ks) ≡ all
least_turn rank ks i a b all l h e = ap (λ x. least_from rank x (drop (i + 1) ks)) e ∙ (ap (least_from rank a) (sym (drop_more ks i 0 l)) ∙ h)

-- Result: the least children of the states without a rank
pub AreLeast-children : (body : Table) (c : ℕ) (children : List (List ℕ)) (rank : ℕ → ℕ) → c < body.columns → AreChildren body c children → length children ≤ greatest_number → AreSettled body c rank → AreLeast body c rank (least_child children rank)
AreLeast-children body c children rank low are small settled q pure e =
    let ks = get_or children q [] in
    let p = least_child children rank q in
    let b = settled.cycles q pure e in
    let there = (are.each q b.state).1 b.child in
    let below = least_from-least rank greatest_number ks b.state there b.holds in
    let within = (pure_child body c q b.state low b.child).within in
    let found : Contains ks p × (rank p ≡ 0) = ⊎_elim
    (λ (is : p ≡ greatest_number).
    let same : b.state ≡ p = omega (arith, below, within, are.count) in
    (subst (λ (k : ℕ). Contains ks k) same there, ap rank (sym same) ∙ b.holds))
    (λ r. r)
    (least_from-is rank greatest_number ks) in
    record {
      child = (are.each q p).0 found.0;
      none = found.1;
      least = λ k d n. least_from-least rank greatest_number ks k ((are.each q k).1 d) n;
    }

-- one more value at the end of a list that stands beside another
pub mapped_more : {A B : Type 0} (view : A → B) (f : ℕ → B) (xs ys : List A) (x : A) (ks : List ℕ) (i : ℕ) → i < length ks → map view xs ≡ map f (take i ks) → view x ≡ f (get_or ks i 0) → ys ≡ xs ++ x ∷ [] → map view ys ≡ map f (take (i + 1) ks)
mapped_more view f xs ys x ks i l h v e =
    ap (map view) e ∙ (map-append view xs (x ∷ []) ∙ ((λ j. h j ++ (v j ∷ [])) ∙ (sym (map-append f (take i ks) (get_or ks i 0 ∷ [])) ∙ ap (map f) (sym (take_more ks i 0 l)))))
