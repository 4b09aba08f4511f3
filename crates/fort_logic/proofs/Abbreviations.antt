-- What the abbreviated relations and properties are turned into says of terms what they say.
use Rattle.std.specs.Prelude.{◌≡◌, ◌↔◌, ◌⊎◌, ℕ, ◌+◌}
use Rattle.std.proofs.Common.{sym, subst, ◌∙◌, inl, inr, arith}
use Rattle.fort_theory.specs.Logic.{Surely, OneOf, HasSome, And}
use Rattle.fort_theory.specs.Trees.{Tree}
use Rattle.fort_theory.specs.Signatures.{IsGround, HasConstant}
use Rattle.fort_theory.specs.Rewriting.{Relation, Rewrites, RewritesAtMostOnce, Reduces, ReducesStrictly, IsNormalForm}
use Rattle.fort_theory.specs.Structures.{Structure}
use Rattle.fort_logic.specs.Truth.{Relates, AreJoinable}
use Rattle.fort_logic.specs.Formulas as surface
use Rattle.fort_logic.specs.Formulas.{SurfaceRel, Property}
use Rattle.fort_theory.specs.Cores.{Core, Binary, Star, Step}
use Rattle.fort_theory.specs.CoreTruth.{Places, with_number}
use Rattle.fort_logic.specs.Translation.{atom, some, every, implies, related, joins, normalises, at_most_one_step}
use Rattle.fort_theory.proofs.CorePlaces.{with_number-same, with_number-other}
use Rattle.fort_logic.proofs.Binders.{Met, Met-some, Met-every, Met-implies}

-- a relation of the same trees
pub moved : (R : Relation) (s t u v : Tree) → s ≡ u → t ≡ v → R s t → R u v
moved R s t u v e f h = subst (λ x. R x v) e (subst (λ y. R s y) f h)

either_surely : (P Q : Type 0) → Surely (P ⊎ Q) ↔ OneOf (Surely P) (Surely Q)
either_surely P Q = (
  (λ h no_p no_q. no_p (λ not_p. no_q (λ not_q. h (by not_p not_q)))),
  (λ h no. h (λ p. p (λ x. no (inl x))) (λ q. q (λ y. no (inr y)))),
)
  where
    by : (P → ⊥) → (Q → ⊥) → P ⊎ Q → ⊥
    by p q (inl x) = p x
    by p q (inr y) = q y

-- some term is related to those of n and of n + 1
abbrev pub forked : (rel rel' : ℕ → ℕ → Core) → (n : ℕ) → Core
forked rel rel' n = some (n + 2) (Binary And (rel (n + 2) n) (rel' (n + 2) (n + 1)))

module _ (structure : Structure) (index : ℕ) where
  abbrev pub root : Relation
  root = structure.root index

  -- what a core formula with two numbers says of their trees
  abbrev pub Means : (ℕ → ℕ → Core) → Relation → Type 0
  Means rel R = (v : Places) (x y : ℕ) → Met structure (rel x y) v ↔ R (v x) (v y)

  abbrev pub SurelyReduces : Relation
  SurelyReduces s t = Surely (Reduces root s t)

  abbrev pub SurelyReducesStrictly : Relation
  SurelyReducesStrictly s t = Surely (ReducesStrictly root s t)

  abbrev pub SurelySteps : Relation
  SurelySteps s t = Surely (Rewrites root s t)

  abbrev pub SurelyNormalises : Relation
  SurelyNormalises s t = Surely (Reduces root s t) × IsNormalForm root t

  pub means_star : Means (atom Star index) SurelyReduces
  means_star v x y = ((λ h. h), (λ h. h))

  abbrev pub SurelyAtMostOnce : Relation
  SurelyAtMostOnce s t = OneOf (Surely (s ≡ t)) (Surely (Rewrites root s t))

  pub means_at_most_one : Means (at_most_one_step index) SurelyAtMostOnce
  means_at_most_one v x y = ((λ h. h), (λ h. h))

  pub means_step : Means (atom Step index) SurelySteps
  means_step v x y = ((λ h. h), (λ h. h))

  pub means_normalises : Means (normalises index) SurelyNormalises
  means_normalises v x y = ((λ h. h), (λ h. h))

  pub surely_at_most_once : (s t : Tree) → Surely (RewritesAtMostOnce root s t) ↔ OneOf (Surely (s ≡ t)) (Surely (Rewrites root s t))
  surely_at_most_once s t = either_surely (s ≡ t) (Rewrites root s t)

  -- each relation
  pub Met-related : (rel : SurfaceRel) (v : Places) (x y : ℕ) → Met structure (related rel index x y) v ↔ Surely (Relates root rel (v x) (v y))
  Met-related surface.Eq v x y = ((λ h. h), (λ h. h))
  Met-related surface.Step v x y = ((λ h. h), (λ h. h))
  Met-related surface.Star v x y = ((λ h. h), (λ h. h))
  Met-related surface.Plus v x y = ((λ h. h), (λ h. h))
  Met-related surface.Reflexive v x y = ((surely_at_most_once (v x) (v y)).1, (surely_at_most_once (v x) (v y)).0)
  Met-related surface.Normal v x y = (
    (λ h no. h.0 (λ reduces. no (reduces, h.1))),
    (λ h. ((λ no. h (λ k. no k.0)), (λ t step. h (λ k. k.1 t step)))),
  )
  Met-related surface.Root v x y = ((λ h. h), (λ h. h))
  Met-related surface.Below v x y = ((λ h. h), (λ h. h))
  Met-related surface.Par v x y = ((λ h. h), (λ h. h))
  Met-related surface.Either v x y = (
    (either_surely (Rewrites root (v x) (v y)) (Rewrites root (v y) (v x))).1,
    (either_surely (Rewrites root (v x) (v y)) (Rewrites root (v y) (v x))).0,
  )
  Met-related surface.Conv v x y = ((λ h. h), (λ h. h))

  module _ (constant : HasConstant structure.signature) where
    -- some term to which both are related
    pub Met-meets : (rel rel' : ℕ → ℕ → Core) (R R' : Relation) → Means rel R → Means rel' R' → (n x y : ℕ) (v : Places) (s t : Tree)
        → (x ≡ n → ⊥) → (y ≡ n → ⊥) → v x ≡ s → v y ≡ t
        → Met structure (some n (Binary And (rel x n) (rel' y n))) v ↔ HasSome (λ u. IsGround structure.signature u × (R s u × R' t u))
    Met-meets rel rel' R R' means means' n x y v s t other_x other_y is_s is_t = (
      (λ h none. (Met-some structure constant n (Binary And (rel x n) (rel' y n)) v).0 h (λ u k. none u (
        k.0,
        (
          moved R (with_number v n u x) (with_number v n u n) s u (at_x u) (with_number-same v n u) ((means (with_number v n u) x n).0 k.1.0),
          moved R' (with_number v n u y) (with_number v n u n) t u (at_y u) (with_number-same v n u) ((means' (with_number v n u) y n).0 k.1.1),
        ),
      ))),
      (λ h. (Met-some structure constant n (Binary And (rel x n) (rel' y n)) v).1 (λ none. h (λ u k. none u (
        k.0,
        (
          (means (with_number v n u) x n).1 (moved R s u (with_number v n u x) (with_number v n u n) (sym (at_x u)) (sym (with_number-same v n u)) k.1.0),
          (means' (with_number v n u) y n).1 (moved R' t u (with_number v n u y) (with_number v n u n) (sym (at_y u)) (sym (with_number-same v n u)) k.1.1),
        ),
      )))),
    )
      where
        at_x : (u : Tree) → with_number v n u x ≡ s
        at_x u = with_number-other v n u x other_x ∙ is_s

        at_y : (u : Tree) → with_number v n u y ≡ t
        at_y u = with_number-other v n u y other_y ∙ is_t

    -- JOIN
    pub Met-joins : (n x y : ℕ) (v : Places) (s t : Tree) → (x ≡ n → ⊥) → (y ≡ n → ⊥) → v x ≡ s → v y ≡ t
        → Met structure (joins index n x y) v ↔ AreJoinable structure index s t
    Met-joins n x y v s t other_x other_y is_s is_t =
        let meets = Met-meets (atom Star index) (atom Star index) SurelyReduces SurelyReduces means_star means_star n x y v s t other_x other_y is_s is_t in (
          (λ h none. meets.0 h (λ u k. k.1.0 (λ first. k.1.1 (λ second. none u (k.0, first, second))))),
          (λ h. meets.1 (λ none. h (λ u k. none u (k.0, ((λ no. no k.1), (λ no. no k.2)))))),
        )

    -- some term is related to both
    pub Met-forks : (rel rel' : ℕ → ℕ → Core) (R R' : Relation) → Means rel R → Means rel' R' → (x y z : ℕ) (v : Places) (s t : Tree)
        → (y ≡ x → ⊥) → (z ≡ x → ⊥) → v y ≡ s → v z ≡ t
        → Met structure (some x (Binary And (rel x y) (rel' x z))) v ↔ HasSome (λ u. IsGround structure.signature u × (R u s × R' u t))
    Met-forks rel rel' R R' means means' x y z v s t other_y other_z is_s is_t = (
      (λ h none. (Met-some structure constant x (Binary And (rel x y) (rel' x z)) v).0 h (λ u k. none u (
        k.0,
        (
          moved R (with_number v x u x) (with_number v x u y) u s (with_number-same v x u) (at_y u) ((means (with_number v x u) x y).0 k.1.0),
          moved R' (with_number v x u x) (with_number v x u z) u t (with_number-same v x u) (at_z u) ((means' (with_number v x u) x z).0 k.1.1),
        ),
      ))),
      (λ h. (Met-some structure constant x (Binary And (rel x y) (rel' x z)) v).1 (λ none. h (λ u k. none u (
        k.0,
        (
          (means (with_number v x u) x y).1 (moved R u s (with_number v x u x) (with_number v x u y) (sym (with_number-same v x u)) (sym (at_y u)) k.1.0),
          (means' (with_number v x u) x z).1 (moved R' u t (with_number v x u x) (with_number v x u z) (sym (with_number-same v x u)) (sym (at_z u)) k.1.1),
        ),
      )))),
    )
      where
        at_y : (u : Tree) → with_number v x u y ≡ s
        at_y u = with_number-other v x u y other_y ∙ is_s

        at_z : (u : Tree) → with_number v x u z ≡ t
        at_z u = with_number-other v x u z other_z ∙ is_t

    -- two numbers for all terms, one after the other
    pub Met-every_two : (n : ℕ) (c : Core) (v : Places)
        → Met structure (every n (every (n + 1) c)) v
        ↔ ((s t : Tree) → IsGround structure.signature s → IsGround structure.signature t → Met structure c (with_number (with_number v n s) (n + 1) t))
    Met-every_two n c v = (
      (λ h s t gs gt. (Met-every structure constant (n + 1) c (with_number v n s)).0
          ((Met-every structure constant n (every (n + 1) c) v).0 h s gs) t gt),
      (λ all. (Met-every structure constant n (every (n + 1) c) v).1 (λ s gs.
          (Met-every structure constant (n + 1) c (with_number v n s)).1 (λ t gt. all s t gs gt))),
    )

    pub first_of_two : (n : ℕ) (v : Places) (s t : Tree) → with_number (with_number v n s) (n + 1) t n ≡ s
    first_of_two n v s t =
        let other : n ≡ n + 1 → ⊥ = omega arith in
        with_number-other (with_number v n s) (n + 1) t n other ∙ with_number-same v n s

    pub second_of_two : (n : ℕ) (v : Places) (s t : Tree) → with_number (with_number v n s) (n + 1) t (n + 1) ≡ t
    second_of_two n v s t = with_number-same (with_number v n s) (n + 1) t

    -- for all y and z: where some x is related to both, they have the property
    pub Met-fork_property : (rel rel' : ℕ → ℕ → Core) (R R' : Relation) → Means rel R → Means rel' R' → (n : ℕ) (c : Core) (Q : Relation)
        → ((w : Places) (s t : Tree) → w n ≡ s → w (n + 1) ≡ t → Met structure c w ↔ Q s t) → (v : Places)
        → Met structure (every n (every (n + 1) (implies (forked rel rel' n) c))) v
        ↔ ((s t : Tree) → IsGround structure.signature s → IsGround structure.signature t → HasSome (λ u. IsGround structure.signature u × (R u s × R' u t)) → Q s t)
    Met-fork_property rel rel' R R' means means' n c Q says v = (
      (λ h s t gs gt fork.
          let w = with_number (with_number v n s) (n + 1) t in
          (says w s t (first_of_two n v s t) (second_of_two n v s t)).0
          ((Met-implies structure (forked rel rel' n) c w).0 ((Met-every_two n (implies (forked rel rel' n) c) v).0 h s t gs gt)
          ((met w s t (first_of_two n v s t) (second_of_two n v s t)).1 fork))),
      (λ h. (Met-every_two n (implies (forked rel rel' n) c) v).1 (λ s t gs gt.
          let w = with_number (with_number v n s) (n + 1) t in
          (Met-implies structure (forked rel rel' n) c w).1 (λ fork.
          (says w s t (first_of_two n v s t) (second_of_two n v s t)).1
          (h s t gs gt ((met w s t (first_of_two n v s t) (second_of_two n v s t)).0 fork))))),
    )
      where
        met : (w : Places) (s t : Tree) → w n ≡ s → w (n + 1) ≡ t
            → Met structure (forked rel rel' n) w ↔ HasSome (λ u. IsGround structure.signature u × (R u s × R' u t))
        met w s t e f =
            let one : n ≡ n + 2 → ⊥ = omega arith in
            let two : n + 1 ≡ n + 2 → ⊥ = omega arith in
            Met-forks rel rel' R R' means means' (n + 2) n (n + 1) w s t one two e f
