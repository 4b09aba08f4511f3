-- Classes are renumbered at all places at once: the targets stay.
use Rattle.std.proofs.Common.{◌≡◌, ℕ, zero, suc, ◌<◌, ◌≤◌, List, [], map, set, take, length, get_or, refl, ap, sym, ◌∙◌, arith, ⊎_elim}
use Rattle.std.proofs.lemmas.Bool.{cases_lt}
use Rattle.std.proofs.lemmas.List.{length-map, get_or-map, get_or-set_same, get_or-set_other, length-take-le, get_or-take, ext_get_or}
use Rattle.fort_tables.proofs.TupleLaws.{length-tabulate, get_or-tabulate}
use Rattle.fort_class_blocks.specs.Blocks.{Block, AreClasses, target_of}
use Rattle.fort_class_blocks.proofs.CellLaws.{classes_count}
use Rattle.fort_class_blocks.proofs.CombinationLaws.{class_low, classes_from, classes_set}
use Rattle.fort_tight_lists.specs.Picks.{renumbered, AreRenumberings, IsPicked}

-- lists that were written place by place
pub picks_read : (lss : List (List ℕ)) (room cs : List ℕ) (n : ℕ) → n ≡ length lss → n ≤ length room → ((j : ℕ) → j < n → get_or room j 0 ≡ get_or (get_or lss j []) (get_or cs j 0) 0) → take n room ≡ renumbered lss cs
picks_read lss room cs n e few h =
    let of : ℕ → ℕ = λ j. get_or (get_or lss j []) (get_or cs j 0) 0 in
    let m = length-take-le n room few in
    ext_get_or 0 (take n room) (renumbered lss cs) (m ∙ (e ∙ sym (length-tabulate (length lss) of)))
    (λ j l. let low : j < n = omega (arith, l, m) in
    get_or-take n room j 0 low ∙ (h j low ∙ sym (get_or-tabulate (length lss) of j 0 (omega (arith, low, e)))))

-- a number of a place is below the count there
pub number_low : (lss : List (List ℕ)) (room ls : List ℕ) (n j : ℕ) → n ≡ length lss → j < n → AreClasses (map (length {A = ℕ}) lss) (take n room) → ls ≡ get_or lss j [] → get_or room j 0 < length ls
number_low lss room ls n j e l are is =
    omega (
      arith,
      class_low (map (length {A = ℕ}) lss) (take n room) j are (omega (arith, l, e, length-map lss (length {A = ℕ}))),
      get_or-map (length {A = ℕ}) lss j [] 0 (omega (arith, l, e)),
      get_or-take n room j 0 l,
      ap length is,
    )

module _ (bs : List Block) (b : ℕ) (counts : List ℕ) (numbers firsts : List (List ℕ)) (r : AreRenumberings bs b counts numbers firsts) where
  -- Result: new numbers are a combination
  pub renumbered_are : (cs : List ℕ) → AreClasses counts cs → AreClasses (map (length {A = ℕ}) firsts) (renumbered numbers cs)
  renumbered_are cs are =
      let of : ℕ → ℕ = λ j. get_or (get_or numbers j []) (get_or cs j 0) 0 in
      let wide = length-map firsts (length {A = ℕ}) in
      let long = length-tabulate (length numbers) of in
      classes_from (map (length {A = ℕ}) firsts) (renumbered numbers cs) (omega (arith, wide, long, r.numbers_all, r.firsts_all)) (λ j l.
      let low : j < length counts = omega (arith, l, wide, r.firsts_all) in
      let place = r.each j low in
      let count = get_or-map (length {A = ℕ}) firsts j [] 0 (omega (arith, l, wide)) in
      omega (arith, get_or-tabulate (length numbers) of j 0 (omega (arith, low, r.numbers_all)), count, place.within (get_or cs j 0) (omega (arith, class_low counts cs j are low, place.count))))

  -- Result: and so are the first classes that have them
  pub picked_are : (ds : List ℕ) → AreClasses (map (length {A = ℕ}) firsts) ds → AreClasses counts (renumbered firsts ds)
  picked_are ds are =
      let of : ℕ → ℕ = λ j. get_or (get_or firsts j []) (get_or ds j 0) 0 in
      let wide = length-map firsts (length {A = ℕ}) in
      classes_from counts (renumbered firsts ds) (length-tabulate (length firsts) of ∙ r.firsts_all) (λ j low.
      let place = r.each j low in
      let there : j < length firsts = omega (arith, low, r.firsts_all) in
      let class = class_low (map (length {A = ℕ}) firsts) ds j are (omega (arith, there, wide)) in
      let count = get_or-map (length {A = ℕ}) firsts j [] 0 there in
      omega (arith, get_or-tabulate (length firsts) of j 0 there, place.firsts_low (get_or ds j 0) (omega (arith, class, count)), place.count))

  module _ (cs : List ℕ) (are : AreClasses counts cs) where
    -- the first class with the number of a place's class
    first_at : ℕ → ℕ
    first_at j = get_or (get_or firsts j []) (get_or (get_or numbers j []) (get_or cs j 0) 0) 0

    -- the first places' classes are replaced by these
    replaced : ℕ → List ℕ
    replaced zero = cs
    replaced (suc k) = set (replaced k) k (first_at k)

    first_low : (j : ℕ) → j < length counts → first_at j < get_or counts j 0
    unfolding first_at
    first_low j low =
        let place = r.each j low in
        omega (arith, place.firsts_low (get_or (get_or numbers j []) (get_or cs j 0) 0) (place.within (get_or cs j 0) (omega (arith, class_low counts cs j are low, place.count))), place.count)

    replaced_are : (k : ℕ) → k ≤ length counts → AreClasses counts (replaced k)
    unfolding replaced
    replaced_are zero l = are
    replaced_are (suc k) l = classes_set counts (replaced k) k (first_at k) (replaced_are k (omega (arith, l))) (first_low k (omega (arith, l)))

    replaced_later : (k j : ℕ) → k ≤ j → get_or (replaced k) j 0 ≡ get_or cs j 0
    unfolding replaced
    replaced_later zero j l = refl
    replaced_later (suc k) j l = get_or-set_other (replaced k) k j (first_at k) 0 (λ e. omega (arith, l, e)) ∙ replaced_later k j (omega (arith, l))

    replaced_before : (k j : ℕ) → k ≤ length counts → j < k → get_or (replaced k) j 0 ≡ first_at j
    unfolding replaced
    replaced_before zero j l m = absurd (omega (arith, m))
    replaced_before (suc k) j l m = ⊎_elim
        (λ a. get_or-set_other (replaced k) k j (first_at k) 0 (λ e. omega (arith, a, e)) ∙ replaced_before k j (omega (arith, l)) a)
        (λ a.
        let at : j ≡ k = omega (arith, a, m) in
        let long = classes_count counts (replaced k) (replaced_are k (omega (arith, l))) in
        ap (λ i. get_or (set (replaced k) k (first_at k)) i 0) at ∙ (get_or-set_same (replaced k) k (first_at k) 0 (omega (arith, l, long)) ∙ ap first_at (sym at)))
        (cases_lt j k)

    replaced_same : (k : ℕ) → k ≤ length counts → target_of bs b (replaced k) ≡ target_of bs b cs
    unfolding replaced first_at
    replaced_same zero l = refl
    replaced_same (suc k) l =
        let low : k < length counts = omega (arith, l) in
        let place = r.each k low in
        let before = replaced_are k (omega (arith, l)) in
        sym (place.same (get_or cs k 0) (replaced k) (omega (arith, class_low counts cs k are low, place.count)) before (replaced_later k k (omega arith))) ∙ replaced_same k (omega (arith, l))

    -- Result: the first classes with the new numbers have the same target
    pub picked_same : target_of bs b (renumbered firsts (renumbered numbers cs)) ≡ target_of bs b cs
    unfolding first_at
    picked_same =
        let n = length counts in
        let of : ℕ → ℕ = λ j. get_or (get_or numbers j []) (get_or cs j 0) 0 in
        let ds = renumbered numbers cs in
        let by : ℕ → ℕ = λ j. get_or (get_or firsts j []) (get_or ds j 0) 0 in
        let long = classes_count counts (replaced n) (replaced_are n (omega arith)) in
        let wide = length-tabulate (length firsts) by in
        let all : renumbered firsts ds ≡ replaced n = ext_get_or 0 (renumbered firsts ds) (replaced n) (wide ∙ (r.firsts_all ∙ long)) (λ j l.
        let low : j < n = omega (arith, l, wide, r.firsts_all) in
        get_or-tabulate (length firsts) by j 0 (omega (arith, low, r.firsts_all))
        ∙ (ap (λ d. get_or (get_or firsts j []) d 0) (get_or-tabulate (length numbers) of j 0 (omega (arith, low, r.numbers_all))) ∙ sym (replaced_before n j (omega arith) low))) in
        ap (target_of bs b) all ∙ replaced_same n (omega arith)

  -- Result: a block that is made by the first classes has the target of each combination at its new numbers
  pub picked_target : (new : List Block) (d : ℕ) (cs : List ℕ) → IsPicked bs b firsts new d → AreClasses counts cs → target_of new d (renumbered numbers cs) ≡ target_of bs b cs
  picked_target new d cs h are = h.targets_are (renumbered numbers cs) (renumbered_are cs are) ∙ picked_same cs are
