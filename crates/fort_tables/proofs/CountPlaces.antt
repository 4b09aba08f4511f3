-- The count beside a state, by its place in the list of the pure states.
use Rattle.std.proofs.Common.{◌≡◌, ℕ, zero, suc, ◌<◌, ◌&&◌, List, [], ◌∷◌, length, get_or, Bool, true, false, eq-eqb, refl, ap, sym, ◌∙◌, arith}
use Rattle.std.proofs.lemmas.List.{get_or_default}
use Rattle.fort_tables.specs.Tables.{Table}
use Rattle.fort_tables.proofs.EqualTests.{test_from_apart}
use Rattle.fort_tables.specs.Projections.{is_pure, ArePure}
use Rattle.fort_tables.proofs.SearchLaws.{found_below, below_found, both, left, right}
use Rattle.fort_tables.specs.Counts.{Count, Finite, is_infinite, count_at}
use Rattle.fort_tables.specs.ManyLabels.{many_value}
use Rattle.fort_tables.proofs.PureSearchLaws.{pure_from_test}
use Rattle.fort_tables.proofs.CountLaws.{pure_listed}

pub count_at-place : (ps : List ℕ) (ns : List Count) (k i : ℕ) (d : Count) → i < length ps → length ns ≡ length ps → ((j : ℕ) → j < i → get_or ps j 0 ≡ k → ⊥) → get_or ps i 0 ≡ k → count_at ps ns k ≡ get_or ns i d
count_at-place [] ns k i d l e h y = absurd (omega arith)
count_at-place (p ∷ ps) [] k i d l e h y = absurd (omega arith)
count_at-place (p ∷ ps) (n ∷ ns) k zero d l e h y = rw (eq-eqb p k y) refl
count_at-place (p ∷ ps) (n ∷ ns) k (suc i) d l e h y = rw (test_from_apart p k (h 0 (omega arith))) (count_at-place ps ns k i d (omega arith) (omega arith) (λ j b. h (suc j) (omega arith)) y)

pub count_at-none : (ps : List ℕ) (ns : List Count) (k : ℕ) → ((j : ℕ) → j < length ps → get_or ps j 0 ≡ k → ⊥) → count_at ps ns k ≡ Finite 0
count_at-none [] ns k h = refl
count_at-none (p ∷ ps) [] k h = refl
count_at-none (p ∷ ps) (n ∷ ns) k h = rw (test_from_apart p k (h 0 (omega arith))) (count_at-none ps ns k (λ j b. h (suc j) (omega arith)))

-- ascending states are all different
pub count_at-ascending : (ps : List ℕ) (ns : List Count) (i : ℕ) (d : Count) → ((i j : ℕ) → i < j → j < length ps → get_or ps i 0 < get_or ps j 0) → i < length ps → length ns ≡ length ps → count_at ps ns (get_or ps i 0) ≡ get_or ns i d
count_at-ascending ps ns i d up l e = count_at-place ps ns (get_or ps i 0) i d l e (λ j b same. absurd (omega (arith, up j i b l, same))) refl

-- a body with one column: a state of the list that is infinite and accepting, or none
pub many_value-some : (body : Table) (c : ℕ) (states : List ℕ) (ns : List Count) (i : ℕ) → ArePure body c states → i < length states → length ns ≡ length states → is_infinite (get_or ns i (Finite 0)) ≡ true → body.accepting (get_or states i 0) ≡ true
    → many_value body c (λ k. is_infinite (count_at states ns k)) ≡ true
many_value-some body c states ns i pure l e infinite final =
    let q = get_or states i 0 in
    let p = pure.each i l in
    let many : is_infinite (count_at states ns q) ≡ true = ap is_infinite (count_at-ascending states ns i (Finite 0) pure.ascending l e) ∙ infinite in
    below_found (length body.presences) (λ k. (is_pure body c k && is_infinite (count_at states ns k)) && body.accepting k) q p.0
    (both (is_pure body c q && is_infinite (count_at states ns q)) (body.accepting q) (both (is_pure body c q) (is_infinite (count_at states ns q)) p.1 many) final)

pub many_value-none : (body : Table) (c : ℕ) (states : List ℕ) (ns : List Count) → ArePure body c states → length ns ≡ length states → ((i : ℕ) → i < length states → is_infinite (get_or ns i (Finite 0)) ≡ true → body.accepting (get_or states i 0) ≡ true → ⊥)
    → many_value body c (λ k. is_infinite (count_at states ns k)) ≡ false
many_value-none body c states ns pure e none = by (many_value body c (λ k. is_infinite (count_at states ns k))) refl
  where
    by : (b : Bool) → many_value body c (λ k. is_infinite (count_at states ns k)) ≡ b → many_value body c (λ k. is_infinite (count_at states ns k)) ≡ false
    by false y = y
    by true y =
        let r = found_below (length body.presences) (λ k. (is_pure body c k && is_infinite (count_at states ns k)) && body.accepting k) y in
        let q = r.0 in
        let first = left (is_pure body c q && is_infinite (count_at states ns q)) (body.accepting q) r.2 in
        let final = right (is_pure body c q && is_infinite (count_at states ns q)) (body.accepting q) r.2 in
        let at = pure_listed body c states pure q (pure_from_test body c q r.1 (left (is_pure body c q) (is_infinite (count_at states ns q)) first)) in
        let is : get_or states at.0 0 ≡ q = get_or_default states at.0 0 q at.1 ∙ at.2 in
        let same : count_at states ns q ≡ get_or ns at.0 (Finite 0) = ap (count_at states ns) (sym is) ∙ count_at-ascending states ns at.0 (Finite 0) pure.ascending at.1 e in
        absurd (none at.0 at.1 (ap is_infinite (sym same) ∙ right (is_pure body c q) (is_infinite (count_at states ns q)) first) (ap body.accepting is ∙ final))
