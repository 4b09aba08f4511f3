-- Renumbered views: what a view goes by tells its classes and leaders.
use Rattle.std.proofs.Common.{◌≡◌, ℕ, ◌+◌, ◌<◌, ◌≤◌, List, [], ◌∷◌, ◌++◌, length, get_or, ap, sym, ◌∙◌, arith, subst, ⊎_elim}
use Rattle.std.proofs.lemmas.Bool.{cases_lt}
use Rattle.std.proofs.lemmas.List.{length_push, get_or_push, get_or_append_left, ext_get_or}
use Rattle.fort_target_lists.specs.declared.class_list.ClassView.{ClassView}
use Rattle.fort_tight_lists.specs.TightViews.{AreFirstsOf, IsTightView, IsKeyed, AreTightViews, IsTightAt}

-- no more first classes than the other has
firsts_within : (numbers fs gs : List ℕ) → AreFirstsOf numbers fs → AreFirstsOf numbers gs → length fs ≤ length gs
firsts_within numbers fs gs h g = ⊎_elim
    (λ l.
    let i = length gs in
    absurd (omega (arith, h.own i l, g.within (get_or fs i 0) (h.firsts_low i l))))
    (λ l. l)
    (cases_lt (length gs) (length fs))

firsts_low : (numbers fs gs : List ℕ) → AreFirstsOf numbers fs → AreFirstsOf numbers gs → (i : ℕ) → i < length fs → get_or gs i 0 ≤ get_or fs i 0
firsts_low numbers fs gs h g i l = subst (λ k. get_or gs k 0 ≤ get_or fs i 0) (h.own i l) (g.least (get_or fs i 0) (h.firsts_low i l))

-- Result: the new numbers tell the first classes
pub firsts_one : (numbers fs gs : List ℕ) → AreFirstsOf numbers fs → AreFirstsOf numbers gs → fs ≡ gs
firsts_one numbers fs gs h g =
    let a = firsts_within numbers fs gs h g in
    let b = firsts_within numbers gs fs g h in
    ext_get_or 0 fs gs (omega (arith, a, b)) (λ i l.
    let m : i < length gs = omega (arith, l, a) in
    omega (arith, firsts_low numbers fs gs h g i l, firsts_low numbers gs fs g h i m))

-- Result: the view that is found
pub tight_found : (vs tight : List ClassView) (keys : List (List ℕ)) (number : ℕ) (numbers firsts : List ℕ) (n : ℕ) → AreTightViews vs keys tight → AreFirstsOf numbers firsts → n < length keys → get_or keys n [] ≡ number ∷ numbers → IsTightAt vs tight number numbers firsts n
tight_found vs tight keys number numbers firsts n h f l e =
    let low : n < length tight = omega (arith, l, h.count) in
    record {
      low = low;
      is = λ v there.
          let own : IsKeyed vs (number ∷ numbers) v = subst (λ k. IsKeyed vs k v) e (h.each n v low there) in
          subst (λ fs. IsTightView vs number numbers fs v) (firsts_one numbers own.firsts firsts own.are f) own.tight;
    }

-- Result: one more view
pub tight_more : (vs old new : List ClassView) (keys more : List (List ℕ)) (x : ClassView) (number : ℕ) (numbers firsts : List ℕ) → AreTightViews vs keys old → AreFirstsOf numbers firsts → IsTightView vs number numbers firsts x → new ≡ old ++ x ∷ [] → more ≡ keys ++ (number ∷ numbers) ∷ [] → AreTightViews vs more new
tight_more vs old new keys more x number numbers firsts h f is e k =
    let wide = ap length e ∙ length_push old x in
    record {
      count = ap length k ∙ (length_push keys (number ∷ numbers) ∙ (ap (λ n. n + 1) h.count ∙ sym wide));
      each = λ q v l there. ⊎_elim
          (λ a.
          let before = h.each q v a (there ∙ (ap (λ xs. get_or xs q v) e ∙ get_or_append_left old (x ∷ []) v q a)) in
          subst (λ s. IsKeyed vs s v) (sym (ap (λ xs. get_or xs q []) k ∙ get_or_append_left keys ((number ∷ numbers) ∷ []) [] q (omega (arith, a, h.count)))) before)
          (λ a.
          let at : length old ≡ q = omega (arith, a, l, wide) in
          let same : x ≡ v = sym (there ∙ (ap (λ xs. get_or xs q v) e ∙ get_or_push old x v q at)) in
          let own : IsKeyed vs (number ∷ numbers) x = record { firsts = firsts; are = f; tight = is } in
          subst (λ s. IsKeyed vs s v) (sym (ap (λ xs. get_or xs q []) k ∙ get_or_push keys (number ∷ numbers) [] q (h.count ∙ at))) (subst (IsKeyed vs (number ∷ numbers)) same own))
          (cases_lt q (length old));
    }

pub tight_last : (vs old new : List ClassView) (x : ClassView) (number : ℕ) (numbers firsts : List ℕ) (n : ℕ) → IsTightView vs number numbers firsts x → new ≡ old ++ x ∷ [] → n ≡ length old → IsTightAt vs new number numbers firsts n
tight_last vs old new x number numbers firsts n is e at = record {
  low = omega (arith, at, ap length e, length_push old x);
  is = λ v there. subst (IsTightView vs number numbers firsts) (sym (there ∙ (ap (λ xs. get_or xs n v) e ∙ get_or_push old x v n (sym at)))) is;
}
