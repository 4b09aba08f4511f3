-- From the labels of a tuple's children: which states its terms give, which infinitely many give, and a bound for the others.
use Rattle.std.proofs.Common.{◌≡◌, ℕ, zero, suc, ◌-◌, ◌<◌, ◌≤◌, ◌↔◌, max, List, length, Some, get_or, Bool, true, false, ◌==◌, ◌&&◌, eq-eqb, inl, inr, ⊎_elim, refl, ap, sym, ◌∙◌, arith, subst}
use Rattle.std.specs.Prelude.{◌⊎◌}
use Rattle.std.specs.List.{insert}
use Rattle.std.proofs.lemmas.Bool.{cases_lt, cases_eq, cases_Bool, eqb-true}
use Rattle.fort_theory.proofs.Lists.{some-injective}
use Rattle.fort_theory.specs.Trees.{Tree, Trees, Node, height}
use Rattle.fort_theory.specs.Signatures.{IsGround}
use Rattle.fort_tables.specs.Tuples.{Tuple, root, tree_at, kid, kid_count, IsTuple, arity}
use Rattle.fort_tables.specs.Entries.{entry}
use Rattle.fort_tables.specs.Tables.{Table, IsTable, IsReached, state_of}
use Rattle.fort_tables.specs.Labels.{Labelling}
use Rattle.fort_tables.proofs.TupleLaws.{IsTuple-kid, kid_ground, length-kid}
use Rattle.fort_tables.specs.Projections.{may_stand, gives_under, gives, Gives}
use Rattle.fort_tables.proofs.SearchLaws.{AreOptions, found_below, below_found, found_choice, choice_found, options_from_zero, options_at_zero, both, left, right}
use Rattle.fort_tables.proofs.CompletedTuples.{completed_small, absent_small}
use Rattle.fort_tables.proofs.GivenLaws.{IsChoice, made_from_given, given_from_made}
use Rattle.fort_tables.proofs.ProjectLabels.{kid_words, length-kid_words}
use Rattle.fort_tables.specs.PureStates.{CompletesTo}
use Rattle.fort_tables.specs.Heights.{HasEveryHeight, HasHeightsTo}
use Rattle.fort_tables.specs.ManyLabels.{kid_has_many, some_kid_has_many, gives_many_under, gives_many}
use Rattle.fort_tables.proofs.TellsLaws.{FindsMany}
use Rattle.fort_tables.proofs.TermsMade.{made_by_term, node_made, chosen_trees, heights_at, heights_below, tree_at-some}
use Rattle.fort_tables.proofs.ManyChildren.{TellsKids, FindsKids, told_kids, MayStand, may_exact, kid_every, kid_bound}

-- bounds for all children
abbrev pub greatest_below : ℕ → (ℕ → ℕ) → ℕ
greatest_below zero f = 0
greatest_below (suc n) f = max (greatest_below n f) (f n)

pub at_most_greatest : (n : ℕ) (f : ℕ → ℕ) (k : ℕ) → k < n → f k ≤ greatest_below n f
at_most_greatest zero f k l = absurd (omega arith)
at_most_greatest (suc n) f k l = ⊎_elim
    (λ (m : k < n). omega (arith, at_most_greatest n f k m))
    (λ (m : n ≤ k). let e : k ≡ n = omega arith in omega (arith, ap f e))
    (cases_lt k n)

-- a bound where there is one, else 0
abbrev pub bound_by : {A : Type 0} {B : Type 0} (C : ℕ → Type 0) → A ⊎ B → (B → (r : ℕ) × C r) → ℕ
bound_by C (inl a) f = 0
bound_by C (inr b) f = (f b).0

pub bound_is : {A : Type 0} {B : Type 0} (C : ℕ → Type 0) (z : A ⊎ B) (f : B → (r : ℕ) × C r) → (A → ⊥) → C (bound_by C z f)
bound_is C (inl a) f h = absurd (h a)
bound_is C (inr z) f h = (f z).1

-- whether a number below m fails a test, so that there may be a bound
abbrev pub Fails : (ℕ → Bool) → ℕ → ℕ → Type 0
Fails p m k = ((p k ≡ true) ⊎ (m ≤ k)) ⊎ ((p k ≡ false) × (k < m))

pub fails : (p : ℕ → Bool) (m k : ℕ) → Fails p m k
fails p m k = elim (cases_Bool (p k)) [
  | inl e ↦ inl (inl e)
  | inr e ↦ ⊎_elim (λ (l : k < m). inr (e, l)) (λ (l : m ≤ k). inl (inr l)) (cases_lt k m)
]

module _ (body : Table) (c : ℕ) (label : Labelling) (is : IsTable body) (reached : IsReached body) (low : c < body.columns)
    (t : Tuple) (h : IsTuple body.signature (body.columns - 1) t) (known : TellsKids body c label t) where
  choice_from_options : (g : ℕ) (ks : List ℕ) → length ks ≡ max (arity body.signature g) (length (kid_words label t)) → AreOptions (length body.presences) (may_stand body c (arity body.signature g) (kid_words label t)) 0 ks → IsChoice body c t g ks
  choice_from_options g ks len o =
      let ws = kid_words label t in
      let lw = length-kid_words label t in
      let a = arity body.signature g in
      let says : (j : ℕ) → j < length ks → MayStand body c a t j (get_or ks j 0) = λ j l.
      let b = options_at_zero (length body.presences) (may_stand body c a ws) ks o j l in
      (may_exact body c label is reached low t h.width known a j (get_or ks j 0) (omega (arith, len)) b.0).0 b.1 in
      record {
        count = len ∙ ap (max a) lw;
        given = λ j l. (says j (omega (arith, len))).given l;
        absent = λ j l m. (says j (omega (arith, len))).absent l m;
      }

  given_small : (j k : ℕ) (u : Tree) → CompletesTo body c (kid t j) k u → k < length body.presences
  given_small j k u w = subst (λ (i : ℕ). i < length body.presences) w.1 (completed_small body c (kid t j) u is low w.0 (length-kid t j ∙ h.width) (kid_ground body.signature t j h.grounded))

  options_from_choice : (g : ℕ) (ks : List ℕ) → IsChoice body c t g ks → AreOptions (length body.presences) (may_stand body c (arity body.signature g) (kid_words label t)) 0 ks
  options_from_choice g ks choice =
      let ws = kid_words label t in
      let a = arity body.signature g in
      let small : (j : ℕ) → j < length ks → get_or ks j 0 < length body.presences = λ j l. ⊎_elim
      (λ (b : j < a). let w = choice.given j b in given_small j (get_or ks j 0) w.0 (w.1, w.2))
      (λ (b : a ≤ j).
      let i : j < kid_count t = omega (arith, choice.count) in
      subst (λ (k : ℕ). k < length body.presences) (sym (choice.absent j i b)) (absent_small body c (kid t j) is low (IsTuple-kid body.signature (body.columns - 1) t j h i)))
      (cases_lt j a) in
      options_from_zero (length body.presences) (may_stand body c a ws) ks
      (λ j l. (
        small j l,
        (may_exact body c label is reached low t h.width known a j (get_or ks j 0) (omega (arith, choice.count)) (small j l)).1
            (record { given = λ b. choice.given j b; absent = λ i b. choice.absent j i b }),
      ))

  -- some term gives q exactly where the search finds it
  pub gives_exact : (q : ℕ) → (gives body c (root t) (kid_words label t) q ≡ true) ↔ Gives body c t q
  gives_exact q =
      let sig = body.signature in
      let m = length body.presences in
      let ws = kid_words label t in (
        (λ e.
            let r = found_below (length sig) (gives_under body c (root t) ws q) e in
            let g = r.0 in
            let s = found_choice m (may_stand body c (arity sig g) ws) 0 (max (arity sig g) (length ws)) (λ ks. body.target (entry (insert (root t) c (Some g)) ks) == q) r.2 in
            given_from_made body c t q (record {
              symbol = g;
              within = r.1;
              states = s.0;
              choice = choice_from_options g s.0 s.1 s.2;
              made = eqb-true (body.target (entry (insert (root t) c (Some g)) s.0)) q s.3;
            })),
        (λ w.
            let y = made_from_given body c t q w in
            let g = y.symbol in
            below_found (length sig) (gives_under body c (root t) ws q) g y.within
            (choice_found m (may_stand body c (arity sig g) ws) 0 (max (arity sig g) (length ws)) (λ ks. body.target (entry (insert (root t) c (Some g)) ks) == q) y.states
            (y.choice.count ∙ ap (max (arity sig g)) (sym (length-kid_words label t)))
            (options_from_choice g y.states y.choice)
            (eq-eqb (body.target (entry (insert (root t) c (Some g)) y.states)) q y.made))),
      )

module _ (body : Table) (c : ℕ) (many : ℕ → Bool) (label : Labelling) (is : IsTable body) (reached : IsReached body) (low : c < body.columns)
    (t : Tuple) (h : IsTuple body.signature (body.columns - 1) t) (known : FindsKids body c label t) where
  told : TellsKids body c label t
  told = told_kids body c label t known

  -- a choice with a child that infinitely many terms give
  record IsManyChoice (q : ℕ) : Type 0 where
    symbol : ℕ
    within : symbol < length body.signature
    states : List ℕ
    options : AreOptions (length body.presences) (may_stand body c (arity body.signature symbol) (kid_words label t)) 0 states
    choice : IsChoice body c t symbol states
    made : body.target (entry (insert (root t) c (Some symbol)) states) ≡ q
    place : ℕ
    below : place < arity body.signature symbol
    endless : kid_has_many body many (kid_words label t) place (get_or states place 0) ≡ true

  many_choice : (q : ℕ) → gives_many body c many (root t) (kid_words label t) q ≡ true → IsManyChoice q
  many_choice q e =
      let sig = body.signature in
      let m = length body.presences in
      let ws = kid_words label t in
      let r = found_below (length sig) (gives_many_under body c many (root t) ws q) e in
      let g = r.0 in
      let a = arity sig g in
      let target : List ℕ → Bool = λ ks. body.target (entry (insert (root t) c (Some g)) ks) == q in
      let s = found_choice m (may_stand body c a ws) 0 (max a (length ws)) (λ ks. target ks && some_kid_has_many body many ws a ks) r.2 in
      let ks = s.0 in
      let k = found_below a (λ j. kid_has_many body many ws j (get_or ks j 0)) (right (target ks) (some_kid_has_many body many ws a ks) s.3) in
      record {
        symbol = g;
        within = r.1;
        states = ks;
        options = s.2;
        choice = choice_from_options body c label is reached low t h told g ks s.1 s.2;
        made = eqb-true (body.target (entry (insert (root t) c (Some g)) ks)) q (left (target ks) (some_kid_has_many body many ws a ks) s.3);
        place = k.0;
        below = k.1;
        endless = k.2;
      }

  -- where the second search finds q, terms of every height give it
  pub every_exact : FindsMany body c many → (q : ℕ) → gives_many body c many (root t) (kid_words label t) q ≡ true → HasEveryHeight (CompletesTo body c t q)
  every_exact finds q e high =
      let sig = body.signature in
      let ws = kid_words label t in
      let r = many_choice q e in
      let g = r.symbol in
      let a = arity sig g in
      let ks = r.states in
      let j = r.place in
      let o = options_at_zero (length body.presences) (may_stand body c a ws) ks r.options j (omega (arith, r.below, r.choice.count)) in
      let tall = kid_every body c many label finds t h.width known a j (get_or ks j 0) r.below o.0 o.1 r.endless high in
      let P : ℕ → Tree → Type 0 = λ i v. (state_of body (insert (kid t i) c (Some v)) ≡ get_or ks i 0) × (i ≡ j → high ≤ height v) in
      let pick : (i : ℕ) → i < a → (v : Tree) × IsGround sig v × P i v = λ i l. ⊎_elim
      (λ (n : i ≡ j). subst (λ (k : ℕ). (v : Tree) × IsGround sig v × P k v) (sym n) (tall.0, tall.1.0, (tall.1.1, λ _. tall.2)))
      (λ (n : i ≡ j → ⊥). let w = r.choice.given i l in (w.0, w.1, (w.2, λ z. absurd (n z))))
      (cases_eq i j) in
      let us = chosen_trees sig P a pick in
      let at = us.3 j r.below in (
        Node g us.0,
        node_made body c t q g ks us.0 r.within r.choice r.made us.1 us.2 (λ i l. let z = us.3 i l in (z.0, z.1, z.2.0)),
        (let up = heights_at us.0 j at.0 at.1 in let there = at.2.1 refl in omega arith),
      )

  -- where it doesn't, the children of a term that gives q are below one bound
  module _ (q : ℕ) (none : gives_many body c many (root t) (kid_words label t) q ≡ false)
      (find : (j k : ℕ) → (kid_has_many body many (kid_words label t) j k ≡ false) × (k < length body.presences) → (r : ℕ) × HasHeightsTo (CompletesTo body c (kid t j) k) r) where
    abbrev bound_at : ℕ → ℕ → ℕ
    bound_at j k = bound_by (HasHeightsTo (CompletesTo body c (kid t j) k)) (fails (kid_has_many body many (kid_words label t) j) (length body.presences) k) (find j k)

    abbrev bound_all : ℕ
    bound_all = greatest_below (greatest_below (length body.signature) (arity body.signature)) (λ j. greatest_below (length body.presences) (bound_at j))

    kid_height : (g : ℕ) (us : Trees) → CompletesTo body c t q (Node g us) → (j : ℕ) (x : Tree) → tree_at us j ≡ Some x → height x ≤ bound_all
    kid_height g us w j x there =
        let sig = body.signature in
        let m = length body.presences in
        let ws = kid_words label t in
        let r = made_by_term body c t q g us w in
        let ks = r.0 in
        let a = arity sig g in
        let below : j < a = omega (arith, tree_at-some us j x there, r.1.many) in
        let v = r.1.child j below in
        let same : v.0 ≡ x = some-injective (sym v.1 ∙ there) in
        let k = get_or ks j 0 in
        let k_small = given_small body c label is reached low t h told j k v.0 v.2 in
        let target : List ℕ → Bool = λ is. body.target (entry (insert (root t) c (Some g)) is) == q in
        let not_many : kid_has_many body many ws j k ≡ true → ⊥ = λ e.
        let some = below_found a (λ i. kid_has_many body many ws i (get_or ks i 0)) j below e in
        let found = below_found (length sig) (gives_many_under body c many (root t) ws q) g r.1.within
        (choice_found m (may_stand body c a ws) 0 (max a (length ws)) (λ is. target is && some_kid_has_many body many ws a is) ks
        (r.1.choice.count ∙ ap (max a) (sym (length-kid_words label t)))
        (options_from_choice body c label is reached low t h told g ks r.1.choice)
        (both (target ks) (some_kid_has_many body many ws a ks) (eq-eqb (body.target (entry (insert (root t) c (Some g)) ks)) q r.1.made) some)) in
        let z : true ≡ false = sym found ∙ none in absurd cc in
        let bounded = bound_is (HasHeightsTo (CompletesTo body c (kid t j) k)) (fails (kid_has_many body many ws j) m k) (find j k)
        (λ z. ⊎_elim (λ (e : kid_has_many body many ws j k ≡ true). not_many e) (λ (l : m ≤ k). absurd (omega (arith, k_small))) z) v.0 v.2 in
        let arities = greatest_below (length sig) (arity sig) in
        let j_small : j < arities = omega (arith, below, at_most_greatest (length sig) (arity sig) g r.1.within) in
        omega (arith, ap height same, bounded, at_most_greatest m (bound_at j) k k_small, at_most_greatest arities (λ i. greatest_below m (bound_at i)) j j_small)

    node_height : (u : Tree) → CompletesTo body c t q u → height u ≤ suc bound_all
    node_height (Node g us) w = heights_below us bound_all (λ j x there. kid_height g us w j x there)

  pub bound_exact : FindsMany body c many → (q : ℕ) → gives_many body c many (root t) (kid_words label t) q ≡ false → (r : ℕ) × HasHeightsTo (CompletesTo body c t q) r
  bound_exact finds q none =
      let find : (j k : ℕ) → (kid_has_many body many (kid_words label t) j k ≡ false) × (k < length body.presences) → (r : ℕ) × HasHeightsTo (CompletesTo body c (kid t j) k) r =
      λ j k e. kid_bound body c many label is low finds t h.width known j k e.1 e.0 in
      (suc (bound_all q none find), node_height q none find)
