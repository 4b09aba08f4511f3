-- A place's classes are numbered anew, one after another.
use Rattle.std.proofs.Common.{◌≡◌, ℕ, ◌+◌, ◌<◌, ◌≤◌, List, [], ◌∷◌, ◌++◌, set, length, get_or, refl, ap, sym, ◌∙◌, arith, subst, ⊎_elim}
use Rattle.std.proofs.lemmas.Bool.{cases_lt}
use Rattle.std.proofs.lemmas.List.{length_push, get_or_push, get_or_append_left, set-set, set-get_or}
use Rattle.fort_class_blocks.specs.Blocks.{Block, AreClasses, target_of}
use Rattle.fort_tight_lists.specs.Slices.{IsSlice, IsRenumbering}
use Rattle.fort_tight_lists.proofs.SliceLaws.{class_left}

-- the first n classes have new numbers; each number's slice is kept
pub record IsNumberedTo (bs : List Block) (b : ℕ) (counts : List ℕ) (place n : ℕ) (slices : List (List ℕ)) (numbers firsts : List ℕ) : Type 0 where
  pub count : length numbers ≡ n
  pub kept : length slices ≡ length firsts
  pub few : length firsts ≤ n
  pub within : (c : ℕ) → c < n → get_or numbers c 0 < length firsts
  pub least : (c : ℕ) → c < n → get_or firsts (get_or numbers c 0) 0 ≤ c
  pub firsts_low : (i : ℕ) → i < length firsts → get_or firsts i 0 < n
  pub own : (i : ℕ) → i < length firsts → get_or numbers (get_or firsts i 0) 0 ≡ i
  pub rises : (i k : ℕ) → i < k → k < length firsts → get_or firsts i 0 < get_or firsts k 0
  pub first_slice : (i : ℕ) → i < length firsts → IsSlice bs b counts place (get_or firsts i 0) (get_or slices i [])
  pub slice : (c : ℕ) → c < n → IsSlice bs b counts place c (get_or slices (get_or numbers c 0) [])

module _ (bs : List Block) (b : ℕ) (counts : List ℕ) (place : ℕ) where
  pub numbered_none : (slices : List (List ℕ)) (numbers firsts : List ℕ) → slices ≡ [] → numbers ≡ [] → firsts ≡ [] → IsNumberedTo bs b counts place 0 slices numbers firsts
  numbered_none slices numbers firsts s ns fs =
      let none : length firsts ≡ 0 = ap length fs in
      record {
        count = ap length ns;
        kept = ap length s ∙ sym none;
        few = omega (arith, none);
        within = λ c l. absurd (omega (arith, l));
        least = λ c l. absurd (omega (arith, l));
        firsts_low = λ i l. absurd (omega (arith, l, none));
        own = λ i l. absurd (omega (arith, l, none));
        rises = λ i k l m. absurd (omega (arith, m, none));
        first_slice = λ i l. absurd (omega (arith, l, none));
        slice = λ c l. absurd (omega (arith, l));
      }

  -- a number pushed behind the others
  pushed_old : (numbers new : List ℕ) (x n c : ℕ) → new ≡ numbers ++ x ∷ [] → length numbers ≡ n → c < n → get_or numbers c 0 ≡ get_or new c 0
  pushed_old numbers new x n c e count l = sym (ap (λ xs. get_or xs c 0) e ∙ get_or_append_left numbers (x ∷ []) 0 c (omega (arith, l, count)))

  pushed_last : (numbers new : List ℕ) (x n c : ℕ) → new ≡ numbers ++ x ∷ [] → length numbers ≡ n → n ≡ c → x ≡ get_or new c 0
  pushed_last numbers new x n c e count at = sym (ap (λ xs. get_or xs c 0) e ∙ get_or_push numbers x 0 c (count ∙ at))

  -- Result: the next class has the slice of an earlier one
  pub numbered_joins : (n x : ℕ) (slices : List (List ℕ)) (numbers firsts new slice : List ℕ) → IsNumberedTo bs b counts place n slices numbers firsts → IsSlice bs b counts place n slice → x < length slices → get_or slices x [] ≡ slice → new ≡ numbers ++ x ∷ []
      → IsNumberedTo bs b counts place (n + 1) slices new firsts
  numbered_joins n x slices numbers firsts new slice h is low same e =
      let old : (c : ℕ) → c < n → get_or numbers c 0 ≡ get_or new c 0 = λ c l. pushed_old numbers new x n c e h.count l in
      let last : (c : ℕ) → n ≡ c → x ≡ get_or new c 0 = λ c at. pushed_last numbers new x n c e h.count at in
      let there : x < length firsts = omega (arith, low, h.kept) in
      record {
        count = ap length e ∙ (length_push numbers x ∙ ap (λ k. k + 1) h.count);
        kept = h.kept;
        few = omega (arith, h.few);
        within = λ c l. ⊎_elim (λ a. omega (arith, old c a, h.within c a)) (λ a. let at : n ≡ c = omega (arith, a, l) in omega (arith, last c at, there)) (cases_lt c n);
        least = λ c l. ⊎_elim
            (λ a. subst (λ k. get_or firsts k 0 ≤ c) (old c a) (h.least c a))
            (λ a. let at : n ≡ c = omega (arith, a, l) in subst (λ k. get_or firsts k 0 ≤ c) (last c at) (omega (arith, h.firsts_low x there, at)))
            (cases_lt c n);
        firsts_low = λ i l. omega (arith, h.firsts_low i l);
        own = λ i l. sym (old (get_or firsts i 0) (h.firsts_low i l)) ∙ h.own i l;
        rises = h.rises;
        first_slice = h.first_slice;
        slice = λ c l. ⊎_elim
            (λ a. subst (λ k. IsSlice bs b counts place c (get_or slices k [])) (old c a) (h.slice c a))
            (λ a.
            let at : n ≡ c = omega (arith, a, l) in
            subst (λ k. IsSlice bs b counts place c (get_or slices k [])) (last c at) (subst (λ k. IsSlice bs b counts place k (get_or slices x [])) at (subst (IsSlice bs b counts place n) (sym same) is)))
            (cases_lt c n);
      }

  -- Result: or it is the first one with its slice
  pub numbered_opens : (n : ℕ) (slices more : List (List ℕ)) (numbers firsts new new_firsts slice : List ℕ) → IsNumberedTo bs b counts place n slices numbers firsts → IsSlice bs b counts place n slice → more ≡ slices ++ slice ∷ [] → new ≡ numbers ++ length firsts ∷ [] → new_firsts ≡ firsts ++ n ∷ []
      → IsNumberedTo bs b counts place (n + 1) more new new_firsts
  numbered_opens n slices more numbers firsts new new_firsts slice h is s e f =
      let x = length firsts in
      let old : (c : ℕ) → c < n → get_or numbers c 0 ≡ get_or new c 0 = λ c l. pushed_old numbers new x n c e h.count l in
      let last : (c : ℕ) → n ≡ c → x ≡ get_or new c 0 = λ c at. pushed_last numbers new x n c e h.count at in
      let first_old : (i : ℕ) → i < x → get_or firsts i 0 ≡ get_or new_firsts i 0 = λ i l. pushed_old firsts new_firsts n x i f refl l in
      let first_last : (i : ℕ) → x ≡ i → n ≡ get_or new_firsts i 0 = λ i at. pushed_last firsts new_firsts n x i f refl at in
      let wide : length new_firsts ≡ x + 1 = ap length f ∙ length_push firsts n in
      let slice_old : (i : ℕ) → i < x → get_or slices i [] ≡ get_or more i [] = λ i l. sym (ap (λ xs. get_or xs i []) s ∙ get_or_append_left slices (slice ∷ []) [] i (omega (arith, l, h.kept))) in
      let slice_last : (i : ℕ) → x ≡ i → slice ≡ get_or more i [] = λ i at. sym (ap (λ xs. get_or xs i []) s ∙ get_or_push slices slice [] i (h.kept ∙ at)) in
      let Has : ℕ → List ℕ → Type 0 = IsSlice bs b counts place in
      record {
        count = ap length e ∙ (length_push numbers x ∙ ap (λ k. k + 1) h.count);
        kept = ap length s ∙ (length_push slices slice ∙ (ap (λ k. k + 1) h.kept ∙ sym wide));
        few = omega (arith, h.few, wide);
        within = λ c l. ⊎_elim (λ a. omega (arith, old c a, h.within c a, wide)) (λ a. let at : n ≡ c = omega (arith, a, l) in omega (arith, last c at, wide)) (cases_lt c n);
        least = λ c l. ⊎_elim
            (λ a. subst (λ k. get_or new_firsts k 0 ≤ c) (old c a) (omega (arith, h.least c a, first_old (get_or numbers c 0) (h.within c a))))
            (λ a. let at : n ≡ c = omega (arith, a, l) in subst (λ k. get_or new_firsts k 0 ≤ c) (last c at) (omega (arith, first_last x refl, at)))
            (cases_lt c n);
        firsts_low = λ i l. ⊎_elim (λ a. omega (arith, first_old i a, h.firsts_low i a)) (λ a. let at : x ≡ i = omega (arith, a, l, wide) in omega (arith, first_last i at)) (cases_lt i x);
        own = λ i l. ⊎_elim
            (λ a. ap (λ c. get_or new c 0) (sym (first_old i a)) ∙ (sym (old (get_or firsts i 0) (h.firsts_low i a)) ∙ h.own i a))
            (λ a. let at : x ≡ i = omega (arith, a, l, wide) in ap (λ c. get_or new c 0) (sym (first_last i at)) ∙ (sym (last n refl) ∙ at))
            (cases_lt i x);
        rises = λ i k l m. ⊎_elim
            (λ a. let c : i < x = omega (arith, a, l) in omega (arith, h.rises i k l a, first_old i c, first_old k a))
            (λ a. let at : x ≡ k = omega (arith, a, m, wide) in let c : i < x = omega (arith, at, l) in omega (arith, h.firsts_low i c, first_old i c, first_last k at))
            (cases_lt k x);
        first_slice = λ i l. ⊎_elim
            (λ a. subst (λ c. Has c (get_or more i [])) (first_old i a) (subst (Has (get_or firsts i 0)) (slice_old i a) (h.first_slice i a)))
            (λ a. let at : x ≡ i = omega (arith, a, l, wide) in subst (λ c. Has c (get_or more i [])) (first_last i at) (subst (Has n) (slice_last i at) is))
            (cases_lt i x);
        slice = λ c l. ⊎_elim
            (λ a. subst (λ k. Has c (get_or more k [])) (old c a) (subst (Has c) (slice_old (get_or numbers c 0) (h.within c a)) (h.slice c a)))
            (λ a. let at : n ≡ c = omega (arith, a, l) in subst (λ k. Has c (get_or more k [])) (last c at) (subst (λ k. Has k (get_or more x [])) at (subst (Has n) (slice_last x refl) is)))
            (cases_lt c n);
      }

  -- classes with one slice have the same targets
  slice_same : (c d : ℕ) (slice cs : List ℕ) → IsSlice bs b counts place c slice → IsSlice bs b counts place d slice → AreClasses counts cs → get_or cs place 0 ≡ c → target_of bs b cs ≡ target_of bs b (set cs place d)
  slice_same c d slice cs h g are e =
      let left : List ℕ = set cs place 0 in
      let be = class_left counts cs place are in
      let back : set left place c ≡ cs = set-set cs place 0 c ∙ (ap (set cs place) (sym e) ∙ set-get_or cs place 0) in
      let other : set left place d ≡ set cs place d = set-set cs place 0 d in
      sym (ap (target_of bs b) back) ∙ (sym (h.targets_are left be) ∙ (g.targets_are left be ∙ ap (target_of bs b) other))

  -- Result: all classes have new numbers
  pub numbered_all : (n : ℕ) (slices : List (List ℕ)) (numbers firsts : List ℕ) → n ≡ get_or counts place 0 → IsNumberedTo bs b counts place n slices numbers firsts → IsRenumbering bs b counts place numbers firsts
  numbered_all n slices numbers firsts all h = record {
    count = h.count ∙ all;
    within = λ c l. h.within c (omega (arith, l, h.count));
    least = λ c l. h.least c (omega (arith, l, h.count));
    firsts_low = λ i l. omega (arith, h.firsts_low i l, h.count);
    own = h.own;
    rises = h.rises;
    same = λ c cs l are e.
        let low : c < n = omega (arith, l, h.count) in
        let x = get_or numbers c 0 in
        slice_same c (get_or firsts x 0) (get_or slices x []) cs (h.slice c low) (h.first_slice x (h.within c low)) are e;
  }
