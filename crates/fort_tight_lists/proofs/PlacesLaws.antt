-- The places under a tuple symbol, their classes renumbered one place after another.
use Rattle.std.proofs.Common.{◌≡◌, ℕ, ◌+◌, ◌<◌, ◌≤◌, List, [], ◌∷◌, ◌++◌, length, get_or, refl, ap, sym, ◌∙◌, arith, subst, ⊎_elim, append_assoc, length-append}
use Rattle.std.proofs.lemmas.Bool.{cases_lt}
use Rattle.std.proofs.lemmas.List.{append-nil, length_push, get_or_push, get_or_append_left}
use Rattle.fort_class_blocks.specs.Blocks.{Block}
use Rattle.fort_target_lists.specs.declared.class_list.ClassView.{ClassView}
use Rattle.fort_tight_lists.specs.Slices.{IsRenumbering}
use Rattle.fort_tight_lists.specs.TightViews.{AreFirstsOf, IsTightAt}
use Rattle.fort_tight_lists.specs.TightPlaces.{HasTightPlaces}

-- a renumbering's first classes
pub firsts_of : (bs : List Block) (b : ℕ) (counts : List ℕ) (j : ℕ) (numbers firsts : List ℕ) → IsRenumbering bs b counts j numbers firsts → AreFirstsOf numbers firsts
firsts_of bs b counts j numbers firsts h = record { within = h.within; least = h.least; firsts_low = h.firsts_low; own = h.own }

-- a view stays where more come
pub at_more : (vs old new more : List ClassView) (number : ℕ) (numbers firsts : List ℕ) (n : ℕ) → new ≡ old ++ more → IsTightAt vs old number numbers firsts n → IsTightAt vs new number numbers firsts n
at_more vs old new more number numbers firsts n e h = record {
  low = omega (arith, h.low, ap length e, length-append old more);
  is = λ v there. h.is v (there ∙ (ap (λ xs. get_or xs n v) e ∙ get_or_append_left old more v n h.low));
}

module _ (bs : List Block) (b : ℕ) (counts : List ℕ) (vs old : List ClassView) (views before : List ℕ) where
  pub places_none : (firsts : List (List ℕ)) → firsts ≡ [] → HasTightPlaces bs b counts vs old old views before before firsts 0
  places_none firsts e = record {
    numbers = [];
    numbers_all = refl;
    firsts_all = ap length e;
    added = [];
    added_all = refl;
    after_is = sym (append-nil before);
    more = [];
    views_are = sym (append-nil old);
    few = omega arith;
    each = λ j l. absurd (omega (arith, l));
    tight = λ j l. absurd (omega (arith, l));
  }

  -- Result: one more place
  pub places_next : (n : ℕ) (mid new : List ClassView) (after then : List ℕ) (firsts firsts_new : List (List ℕ)) (ns fs : List ℕ) (x : ℕ) (more : List ClassView) → HasTightPlaces bs b counts vs old mid views before after firsts n → IsRenumbering bs b counts n ns fs
      → new ≡ mid ++ more → length more ≤ 1 → IsTightAt vs new (get_or views n 0) ns fs x → then ≡ after ++ x ∷ [] → firsts_new ≡ firsts ++ fs ∷ [] → HasTightPlaces bs b counts vs old new views before then firsts_new (n + 1)
  places_next n mid new after then firsts firsts_new ns fs x more h is e few at t f =
      let numbers : List (List ℕ) = h.numbers ++ ns ∷ [] in
      let added : List ℕ = h.added ++ x ∷ [] in
      let old_n : (j : ℕ) → j < n → get_or h.numbers j [] ≡ get_or numbers j [] = λ j l. sym (get_or_append_left h.numbers (ns ∷ []) [] j (omega (arith, l, h.numbers_all))) in
      let old_f : (j : ℕ) → j < n → get_or firsts j [] ≡ get_or firsts_new j [] = λ j l. sym (ap (λ xs. get_or xs j []) f ∙ get_or_append_left firsts (fs ∷ []) [] j (omega (arith, l, h.firsts_all))) in
      let old_a : (j : ℕ) → j < n → get_or h.added j 0 ≡ get_or added j 0 = λ j l. sym (get_or_append_left h.added (x ∷ []) 0 j (omega (arith, l, h.added_all))) in
      let last_n : (j : ℕ) → n ≡ j → ns ≡ get_or numbers j [] = λ j a. sym (get_or_push h.numbers ns [] j (h.numbers_all ∙ a)) in
      let last_f : (j : ℕ) → n ≡ j → fs ≡ get_or firsts_new j [] = λ j a. sym (ap (λ xs. get_or xs j []) f ∙ get_or_push firsts fs [] j (h.firsts_all ∙ a)) in
      let last_a : (j : ℕ) → n ≡ j → x ≡ get_or added j 0 = λ j a. sym (get_or_push h.added x 0 j (h.added_all ∙ a)) in
      let Each : ℕ → List ℕ → List ℕ → Type 0 = λ j p q. IsRenumbering bs b counts j p q in
      let At : ℕ → List ℕ → List ℕ → ℕ → Type 0 = λ j p q k. IsTightAt vs new (get_or views j 0) p q k in
      record {
        numbers = numbers;
        numbers_all = length_push h.numbers ns ∙ ap (λ k. k + 1) h.numbers_all;
        firsts_all = ap length f ∙ (length_push firsts fs ∙ ap (λ k. k + 1) h.firsts_all);
        added = added;
        added_all = length_push h.added x ∙ ap (λ k. k + 1) h.added_all;
        after_is = t ∙ (ap (λ xs. xs ++ x ∷ []) h.after_is ∙ append_assoc before h.added (x ∷ []));
        more = h.more ++ more;
        views_are = e ∙ (ap (λ xs. xs ++ more) h.views_are ∙ append_assoc old h.more more);
        few = omega (arith, length-append h.more more, h.few, few);
        each = λ j l. ⊎_elim
            (λ a. subst (λ p. Each j p (get_or firsts_new j [])) (old_n j a) (subst (λ q. Each j (get_or h.numbers j []) q) (old_f j a) (h.each j a)))
            (λ a. let c : n ≡ j = omega (arith, a, l) in subst (λ p. Each j p (get_or firsts_new j [])) (last_n j c) (subst (λ q. Each j ns q) (last_f j c) (subst (λ k. Each k ns fs) c is)))
            (cases_lt j n);
        tight = λ j l. ⊎_elim
            (λ a. subst (λ p. At j p (get_or firsts_new j []) (get_or added j 0)) (old_n j a) (subst (λ q. At j (get_or h.numbers j []) q (get_or added j 0)) (old_f j a)
            (subst (λ k. At j (get_or h.numbers j []) (get_or firsts j []) k) (old_a j a) (at_more vs mid new more (get_or views j 0) (get_or h.numbers j []) (get_or firsts j []) (get_or h.added j 0) e (h.tight j a)))))
            (λ a. let c : n ≡ j = omega (arith, a, l) in subst (λ p. At j p (get_or firsts_new j []) (get_or added j 0)) (last_n j c) (subst (λ q. At j ns q (get_or added j 0)) (last_f j c)
            (subst (λ k. At j ns fs k) (last_a j c) (subst (λ k. At k ns fs x) c at))))
            (cases_lt j n);
      }
