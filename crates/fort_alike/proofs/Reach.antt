-- The facts of reductions at a node, by the root symbols and the children's facts.
use Rattle.std.specs.Prelude.{◌≡◌, ◌↔◌, ◌⊎◌, ℕ, List, [], ◌∷◌, refl, Contains}
use Rattle.std.proofs.Common.{sym, subst, inl, inr}
use Rattle.fort_theory.specs.Trees.{Tree, Trees, Node, Nil, More}
use Rattle.fort_theory.specs.Signatures.{Signature, IsGround}
use Rattle.fort_theory.specs.Patterns.{Pattern, Patterns, Any, At, NoPattern, MorePatterns, IsInstance, AreInstances, Pair}
use Rattle.fort_theory.specs.Rewriting.{Relation, Rewrites, Path, Reduces, ReducesStrictly}
use Rattle.fort_theory.specs.PatternSteps.{PatternStep}
use Rattle.fort_theory.proofs.GroundSteps.{RelatesGround-PatternStep, Reduces-keeps_ground, Reduces-comes_from_ground}
use Rattle.fort_theory.proofs.Constants.{Rewrites-from_root}
use Rattle.fort_theory.proofs.StepByRoot.{OneRewrites, Here, There, Rewrites-by_root}
use Rattle.fort_reachability.proofs.Reductions.{Reduction, Below, ByRoot, Reductions, NoReduction, MoreReductions, Reduction-refl, Reduces-trans, Reduces-through_root, Reduces-from_Reduction, Reduction-from_Reduces}
use Rattle.fort_reachability.specs.PatternReachability.{ReachesInstance}
use Rattle.fort_alike.specs.Alike.{Reaches, IsReachedFrom}
use Rattle.fort_alike.proofs.Bits.{SomePair}
use Rattle.fort_alike.proofs.Kids.{AllOf, InsideOf, AllRelated, SomeRelated}

reduction-from : {root : Relation} {s t : Tree} → Reduces root s t → Reduction root s t
reduction-from {s = s} {t = t} h = Reduction-from_Reduces s t h

reduction-after_step : {root : Relation} {s u t : Tree} → Rewrites root s u → Reduction root u t → Reduction root s t
reduction-after_step {root = root} {s = s} {u = u} {t = t} h k =
    reduction-from (Reduces-trans root s u t (u ∷ [], (h, refl)) (Reduces-from_Reduction k))

through-root : {root : Relation} {s u v t : Tree} → Reduction root s u → root u v → Reduction root v t → Reduction root s t
through-root {root = root} {s = s} {u = u} {v = v} {t = t} h one k =
    reduction-from (Reduces-through_root root s u v t (Reduces-from_Reduction h) one (Reduces-from_Reduction k))

-- children that reach instances
all_reach-from_Reductions : {r : Relation} {ss ts : Trees} → Reductions r ss ts → (qs : Patterns) → AreInstances qs ts → AllOf (Reaches r) qs ss
all_reach-from_Reductions NoReduction NoPattern h = tt
all_reach-from_Reductions NoReduction (MorePatterns q qs) h = absurd h
all_reach-from_Reductions (MoreReductions k ks) NoPattern h = absurd h
all_reach-from_Reductions (MoreReductions {t = t} k ks) (MorePatterns q qs) h = ((t, h.0, Reduces-from_Reduction k), all_reach-from_Reductions ks qs h.1)

Reductions-from_all_reach : {r : Relation} (qs : Patterns) (ss : Trees) → AllOf (Reaches r) qs ss → (ts : Trees) × AreInstances qs ts × Reductions r ss ts
Reductions-from_all_reach NoPattern Nil h = (Nil, tt, NoReduction)
Reductions-from_all_reach NoPattern (More s ss) h = absurd h
Reductions-from_all_reach (MorePatterns q qs) Nil h = absurd h
Reductions-from_all_reach (MorePatterns q qs) (More s ss) h = let k = Reductions-from_all_reach qs ss h.1 in
    (More h.0.0 k.0, (h.0.1, k.1), MoreReductions (reduction-from h.0.2) k.2)

inside-from_Reductions : {r : Relation} (f : ℕ) {ss ts : Trees} → Reductions r ss ts → (q : Pattern) → IsInstance q (Node f ts) → InsideOf (Reaches r) q (Node f ss)
inside-from_Reductions f ks Any h = tt
inside-from_Reductions f ks (At g qs) h = (h.0, all_reach-from_Reductions ks qs h.1)

Reaches-from_inside : {r : Relation} (f : ℕ) (ss : Trees) (q : Pattern) → InsideOf (Reaches r) q (Node f ss) → Reaches r q (Node f ss)
Reaches-from_inside f ss Any h = (Node f ss, tt, Reduces-from_Reduction (Reduction-refl (Node f ss)))
Reaches-from_inside f ss (At g qs) h = let k = Reductions-from_all_reach qs ss h.1 in (Node f k.0, (h.0, k.1), Reduces-from_Reduction (Below k.2))

-- children that are reached from instances
all_reached-from_Reductions : {r : Relation} {ss ts : Trees} → Reductions r ss ts → (ps : Patterns) → AreInstances ps ss → AllOf (IsReachedFrom r) ps ts
all_reached-from_Reductions NoReduction NoPattern h = tt
all_reached-from_Reductions NoReduction (MorePatterns q qs) h = absurd h
all_reached-from_Reductions (MoreReductions k ks) NoPattern h = absurd h
all_reached-from_Reductions (MoreReductions {s = s} k ks) (MorePatterns q qs) h = ((s, h.0, Reduces-from_Reduction k), all_reached-from_Reductions ks qs h.1)

Reductions-from_all_reached : {r : Relation} (ps : Patterns) (ts : Trees) → AllOf (IsReachedFrom r) ps ts → (ss : Trees) × AreInstances ps ss × Reductions r ss ts
Reductions-from_all_reached NoPattern Nil h = (Nil, tt, NoReduction)
Reductions-from_all_reached NoPattern (More t ts) h = absurd h
Reductions-from_all_reached (MorePatterns p ps) Nil h = absurd h
Reductions-from_all_reached (MorePatterns p ps) (More t ts) h = let k = Reductions-from_all_reached ps ts h.1 in
    (More h.0.0 k.0, (h.0.1, k.1), MoreReductions (reduction-from h.0.2) k.2)

inside_back-from_Reductions : {r : Relation} (f : ℕ) {ss ts : Trees} → Reductions r ss ts → (p : Pattern) → IsInstance p (Node f ss)
    → InsideOf (IsReachedFrom r) p (Node f ts)
inside_back-from_Reductions f ks Any h = tt
inside_back-from_Reductions f ks (At k qs) h = (h.0, all_reached-from_Reductions ks qs h.1)

IsReachedFrom-from_inside : {r : Relation} (f : ℕ) (ts : Trees) (p : Pattern) → InsideOf (IsReachedFrom r) p (Node f ts) → IsReachedFrom r p (Node f ts)
IsReachedFrom-from_inside f ts Any h = (Node f ts, tt, Reduces-from_Reduction (Reduction-refl (Node f ts)))
IsReachedFrom-from_inside f ts (At k ps) h = let w = Reductions-from_all_reached ps ts h.1 in (Node f w.0, (h.0, w.1), Reduces-from_Reduction (Below w.2))

-- the last step at the root
pub record LastRoot (r : Relation) (s : Tree) (g : ℕ) (ts : Trees) : Type 0 where
  pub redex : Tree
  pub kids : Trees
  pub before : Reduction r s redex
  pub one : r redex (Node g kids)
  pub after : Reductions r kids ts

last_root-after : {r : Relation} {f g h : ℕ} {ss us vs ts : Trees} → Reductions r ss us → r (Node f us) (Node h vs) → ((h ≡ g) × Reductions r vs ts)
    ⊎ LastRoot r (Node h vs) g ts → LastRoot r (Node f ss) g ts
last_root-after {r} {f} {us = us} {vs = vs} ks one (inl w) =
    record { redex = Node f us; kids = vs; before = Below ks; one = subst (λ x. r (Node f us) (Node x vs)) w.0 one; after = w.1 }
last_root-after ks one (inr w) = record { redex = w.redex; kids = w.kids; before = ByRoot ks one w.before; one = w.one; after = w.after }

Reduction-last_root : {r : Relation} {f g : ℕ} {ss ts : Trees} → Reduction r (Node f ss) (Node g ts) → ((f ≡ g) × Reductions r ss ts) ⊎ LastRoot r (Node f ss) g ts
Reduction-last_root (Below ks) = inl (refl, ks)
Reduction-last_root (ByRoot {v = Node h vs} ks one rest) = inr (last_root-after ks one (Reduction-last_root rest))

module _ (sig : Signature) (pairs : List Pair) where
  Root : Relation
  Root = PatternStep sig pairs

  step_ground : (s t : Tree) → Reduces (PatternStep sig pairs) s t → IsGround sig s → IsGround sig t
  step_ground = Reduces-keeps_ground sig (PatternStep sig pairs) (RelatesGround-PatternStep sig pairs)

  step_from_ground : (s t : Tree) → Reduces (PatternStep sig pairs) s t → IsGround sig t → IsGround sig s
  step_from_ground = Reduces-comes_from_ground sig (PatternStep sig pairs) (RelatesGround-PatternStep sig pairs)

  -- the pairs by which a node reaches a pattern, and by which it is reached
  abbrev pub FirstVia : Pattern → Tree → Type 0
  FirstVia q s = SomePair (λ r. InsideOf (Reaches (PatternStep sig pairs)) r.0 s × ReachesInstance sig pairs r.1 q) pairs

  abbrev pub SecondVia : Pattern → Tree → Type 0
  SecondVia p t = SomePair (λ r. ReachesInstance sig pairs p r.0 × InsideOf (IsReachedFrom (PatternStep sig pairs)) r.1 t) pairs

  first-cases : (f : ℕ) (ss : Trees) (q : Pattern) {t : Tree} → IsGround sig (Node f ss) → Reduction (PatternStep sig pairs) (Node f ss) t → IsInstance q t
      → InsideOf (Reaches (PatternStep sig pairs)) q (Node f ss) ⊎ FirstVia q (Node f ss)
  first-cases f ss q g (Below ks) h = inl (inside-from_Reductions f ks q h)
  first-cases f ss q g (ByRoot {v = v} {t = t} ks one rest) h = inr (
    one.pair,
    one.among,
    (
      inside-from_Reductions f ks one.pair.0 one.left,
      record {
        start = v;
        end = t;
        start_grounded = one.right_grounded;
        end_grounded = step_ground v t (Reduces-from_Reduction rest) one.right_grounded;
        start_instance = one.right;
        end_instance = h;
        reduces = Reduces-from_Reduction rest;
      },
    ),
  )

  through-pair : (s : Tree) → IsGround sig s → (r : Pair) → Contains pairs r → Reaches (PatternStep sig pairs) r.0 s
      → (v : Tree) → IsGround sig v → IsInstance r.1 v
      → (t : Tree) → Reduction (PatternStep sig pairs) v t → Reduction (PatternStep sig pairs) s t
  through-pair s g r among a v gv iv t k = through-root (reduction-from a.2) (record {
    pair = r;
    among = among;
    left = a.1;
    right = iv;
    left_grounded = step_ground s a.0 a.2 g;
    right_grounded = gv;
  }) k

  pub Reaches-by_root : (f : ℕ) (ss : Trees) (q : Pattern) → IsGround sig (Node f ss)
      → (InsideOf (Reaches (PatternStep sig pairs)) q (Node f ss) ⊎ FirstVia q (Node f ss)) ↔ Reaches (PatternStep sig pairs) q (Node f ss)
  Reaches-by_root f ss q g = (
    (λ w. elim w [
      | inl a ↦ Reaches-from_inside f ss q a
      | inr v ↦ (let j = v.2.1 in (
        j.end,
        j.end_instance,
        Reduces-from_Reduction
            (through-pair (Node f ss) g v.0 v.1 (Reaches-from_inside f ss v.0.0 v.2.0) j.start j.start_grounded j.start_instance j.end (reduction-from j.reduces)),
      ))
    ]),
    (λ h. first-cases f ss q g (reduction-from h.2) h.1),
  )

  second-cases : (p : Pattern) (f g : ℕ) (ss ts : Trees) → IsGround sig (Node f ss) → IsInstance p (Node f ss)
      → ((f ≡ g) × Reductions (PatternStep sig pairs) ss ts) ⊎ LastRoot (PatternStep sig pairs) (Node f ss) g ts
      → InsideOf (IsReachedFrom (PatternStep sig pairs)) p (Node g ts) ⊎ SecondVia p (Node g ts)
  second-cases p f g ss ts k h (inl w) = inl (subst (λ x. InsideOf (IsReachedFrom (PatternStep sig pairs)) p (Node x ts)) w.0 (inside_back-from_Reductions f w.1 p h))
  second-cases p f g ss ts k h (inr w) = inr (
    w.one.pair,
    w.one.among,
    (
      record {
        start = Node f ss;
        end = w.redex;
        start_grounded = k;
        end_grounded = w.one.left_grounded;
        start_instance = h;
        end_instance = w.one.left;
        reduces = Reduces-from_Reduction w.before;
      },
      inside_back-from_Reductions g w.after w.one.pair.1 w.one.right,
    ),
  )

  second-from : (p : Pattern) (g : ℕ) (ts : Trees) (s : Tree) → IsGround sig s → IsInstance p s → Reduction (PatternStep sig pairs) s (Node g ts)
      → InsideOf (IsReachedFrom (PatternStep sig pairs)) p (Node g ts) ⊎ SecondVia p (Node g ts)
  second-from p g ts (Node f ss) k h red = second-cases p f g ss ts k h (Reduction-last_root red)

  through-pair_back : (t : Tree) → IsGround sig t → (r : Pair) → Contains pairs r → IsReachedFrom (PatternStep sig pairs) r.1 t → (u : Tree) → IsGround sig u
      → IsInstance r.0 u → (s : Tree) → Reduction (PatternStep sig pairs) s u → Reduction (PatternStep sig pairs) s t
  through-pair_back t g r among a u gu iu s k = through-root k (record {
    pair = r;
    among = among;
    left = iu;
    right = a.1;
    left_grounded = gu;
    right_grounded = step_from_ground a.0 t a.2 g;
  }) (reduction-from a.2)

  pub IsReachedFrom-by_root : (g : ℕ) (ts : Trees) (p : Pattern) → IsGround sig (Node g ts)
      → (InsideOf (IsReachedFrom (PatternStep sig pairs)) p (Node g ts) ⊎ SecondVia p (Node g ts)) ↔ IsReachedFrom (PatternStep sig pairs) p (Node g ts)
  IsReachedFrom-by_root g ts p k = (
    (λ w. elim w [
      | inl a ↦ IsReachedFrom-from_inside g ts p a
      | inr v ↦ (let j = v.2.0 in (
        j.start,
        j.start_instance,
        Reduces-from_Reduction
            (through-pair_back (Node g ts) k v.0 v.1 (IsReachedFrom-from_inside g ts v.0.1 v.2.1) j.end j.end_grounded j.end_instance j.start (reduction-from j.reduces)),
      ))
    ]),
    (λ h. second-from p g ts h.0 (step_from_ground h.0 (Node g ts) h.2 k) h.1 (reduction-from h.2)),
  )

-- by a step at the root somewhere
pub record ViaRoot (r : Relation) (s t : Tree) : Type 0 where
  pub redex : Tree
  pub contractum : Tree
  pub before : Reduction r s redex
  pub one : r redex contractum
  pub after : Reduction r contractum t

pub ViaRoot-by_pairs : (sig : Signature) (pairs : List Pair) (s t : Tree) → IsGround sig s → IsGround sig t
    → SomePair (λ r. Reaches (PatternStep sig pairs) r.0 s × IsReachedFrom (PatternStep sig pairs) r.1 t) pairs ↔ ViaRoot (PatternStep sig pairs) s t
ViaRoot-by_pairs sig pairs s t g k = (
  (λ w. record {
    redex = w.2.0.0;
    contractum = w.2.1.0;
    before = reduction-from w.2.0.2;
    one = record {
      pair = w.0;
      among = w.1;
      left = w.2.0.1;
      right = w.2.1.1;
      left_grounded = Reduces-keeps_ground sig (PatternStep sig pairs) (RelatesGround-PatternStep sig pairs) s w.2.0.0 w.2.0.2 g;
      right_grounded = Reduces-comes_from_ground sig (PatternStep sig pairs) (RelatesGround-PatternStep sig pairs) w.2.1.0 t w.2.1.2 k;
    };
    after = reduction-from w.2.1.2;
  }),
  (λ v. (v.one.pair, v.one.among, ((v.redex, v.one.left, Reduces-from_Reduction v.before), (v.contractum, v.one.right, Reduces-from_Reduction v.after)))),
)

all_reduce-from_Reductions : {r : Relation} {ss ts : Trees} → Reductions r ss ts → AllRelated (Reduces r) ss ts
all_reduce-from_Reductions NoReduction = tt
all_reduce-from_Reductions (MoreReductions k ks) = (Reduces-from_Reduction k, all_reduce-from_Reductions ks)

Reductions-from_all_reduce : {r : Relation} (ss ts : Trees) → AllRelated (Reduces r) ss ts → Reductions r ss ts
Reductions-from_all_reduce Nil Nil h = NoReduction
Reductions-from_all_reduce Nil (More t ts) h = absurd h
Reductions-from_all_reduce (More s ss) Nil h = absurd h
Reductions-from_all_reduce (More s ss) (More t ts) h = MoreReductions (reduction-from h.0) (Reductions-from_all_reduce ss ts h.1)

reduction-cases : {r : Relation} (f g : ℕ) (ss ts : Trees) → Reduction r (Node f ss) (Node g ts) → ViaRoot r (Node f ss) (Node g ts) ⊎ ((f ≡ g) × Reductions r ss ts)
reduction-cases f g ss ts (Below ks) = inr (refl, ks)
reduction-cases f g ss ts (ByRoot {us = us} {v = v} ks one rest) = inl (record { redex = Node f us; contractum = v; before = Below ks; one = one; after = rest })

inner_at : {r : Relation} (f g : ℕ) (ss ts : Trees) → f ≡ g → Reductions r ss ts → Reduction r (Node f ss) (Node g ts)
inner_at {r} f g ss ts e ks = subst (λ x. Reduction r (Node f ss) (Node x ts)) e (Below ks)

pub Reduces-by_root : (r : Relation) (f g : ℕ) (ss ts : Trees)
    → (ViaRoot r (Node f ss) (Node g ts) ⊎ ((f ≡ g) × AllRelated (Reduces r) ss ts)) ↔ Reduces r (Node f ss) (Node g ts)
Reduces-by_root r f g ss ts = (
  (λ w. elim w [
    | inl v ↦ Reduces-from_Reduction (through-root v.before v.one v.after)
    | inr b ↦ Reduces-from_Reduction (inner_at f g ss ts b.0 (Reductions-from_all_reduce ss ts b.1))
  ]),
  (λ h. elim (reduction-cases f g ss ts (reduction-from h)) [ inl v ↦ inl v | inr b ↦ inr (b.0, all_reduce-from_Reductions b.1) ]),
)

-- at least one step
strictly : {r : Relation} {s u t : Tree} → Rewrites r s u → Reduction r u t → ReducesStrictly r s t
strictly {u = u} h k = let w = Reduces-from_Reduction k in (u, w.0, (h, w.1))

reduction-after_first : {r : Relation} {s t : Tree} (h : ReducesStrictly r s t) → Reduction r h.0 t
reduction-after_first {t = t} h = reduction-from (h.1, h.2.1)

strictly-among : {r : Relation} {ss us ts : Trees} → OneRewrites r ss us → Reductions r us ts → Reductions r ss ts × SomeRelated (ReducesStrictly r) ss ts
strictly-among (Here h) (MoreReductions k ks) = (MoreReductions (reduction-after_step h k) ks, inl (strictly h k))
strictly-among (There h) (MoreReductions k ks) = let w = strictly-among h ks in (MoreReductions k w.0, inr w.1)

step-among : {r : Relation} {ss ts : Trees} → Reductions r ss ts → SomeRelated (ReducesStrictly r) ss ts → (us : Trees) × OneRewrites r ss us × Reductions r us ts
step-among NoReduction h = absurd h
step-among (MoreReductions {s = s} {t = t} {ss = ss} {ts = ts} k ks) (inl p) = (More p.0 ss, Here p.2.0, MoreReductions (reduction-after_first p) ks)
step-among (MoreReductions {s = s} {t = t} {ss = ss} {ts = ts} k ks) (inr w) = let z = step-among ks w in (More s z.0, There z.1, MoreReductions k z.2)

strictly-inside_cases : {r : Relation} (f g : ℕ) (ss us ts : Trees) → OneRewrites r ss us → Reduction r (Node f us) (Node g ts)
    → ViaRoot r (Node f ss) (Node g ts) ⊎ ((f ≡ g) × (AllRelated (Reduces r) ss ts × SomeRelated (ReducesStrictly r) ss ts))
strictly-inside_cases f g ss us ts h (Below ks) = let w = strictly-among h ks in inr (refl, (all_reduce-from_Reductions w.0, w.1))
strictly-inside_cases f g ss us ts h (ByRoot {us = vs} {v = v} ks one rest) =
    inl (record { redex = Node f vs; contractum = v; before = Below (strictly-among h ks).0; one = one; after = rest })

strictly-root_cases : {r : Relation} (f g h : ℕ) (ss us ts : Trees) → r (Node f ss) (Node h us) ⊎ ((f ≡ h) × OneRewrites r ss us) → Reduction r (Node h us) (Node g ts)
    → ViaRoot r (Node f ss) (Node g ts) ⊎ ((f ≡ g) × (AllRelated (Reduces r) ss ts × SomeRelated (ReducesStrictly r) ss ts))
strictly-root_cases f g h ss us ts (inl a) k = inl (record { redex = Node f ss; contractum = Node h us; before = Reduction-refl (Node f ss); one = a; after = k })
strictly-root_cases {r} f g h ss us ts (inr b) k = strictly-inside_cases f g ss us ts b.1 (subst (λ x. Reduction r (Node x us) (Node g ts)) (sym b.0) k)

strictly-cases : {r : Relation} (f g : ℕ) (ss ts : Trees) (u : Tree) → Rewrites r (Node f ss) u → Reduction r u (Node g ts)
    → ViaRoot r (Node f ss) (Node g ts) ⊎ ((f ≡ g) × (AllRelated (Reduces r) ss ts × SomeRelated (ReducesStrictly r) ss ts))
strictly-cases {r} f g ss ts (Node h us) one k = strictly-root_cases f g h ss us ts ((Rewrites-by_root r f h ss us).0 one) k

strictly-through : {r : Relation} (s : Tree) (us : List Tree) (u v t : Tree) → Path (Rewrites r) s us u → r u v → Reduces r v t → ReducesStrictly r s t
strictly-through {r = r} s [] u v t h one k = (v, k.0, (Rewrites-from_root r s v (subst (λ x. r x v) (sym h) one), k.1))
strictly-through {r = r} s (w ∷ us) u v t h one k = let rest = Reduces-through_root r w u v t (us, h.1) one k in (w, rest.0, (h.0, rest.1))

strictly-inside : {r : Relation} (f : ℕ) (ss ts : Trees) → AllRelated (Reduces r) ss ts → SomeRelated (ReducesStrictly r) ss ts
    → ReducesStrictly r (Node f ss) (Node f ts)
strictly-inside {r = r} f ss ts a h = let k = step-among (Reductions-from_all_reduce ss ts a) h in strictly ((Rewrites-by_root r f f ss k.0).1 (inr (refl, k.1))) (Below k.2)

pub ReducesStrictly-by_root : (r : Relation) (f g : ℕ) (ss ts : Trees)
    → (ViaRoot r (Node f ss) (Node g ts) ⊎ ((f ≡ g) × (AllRelated (Reduces r) ss ts × SomeRelated (ReducesStrictly r) ss ts)))
    ↔ ReducesStrictly r (Node f ss) (Node g ts)
ReducesStrictly-by_root r f g ss ts = (
  (λ w. elim w [
    | inl v ↦ (let h = Reduces-from_Reduction v.before in strictly-through (Node f ss) h.0 v.redex v.contractum (Node g ts) h.1 v.one (Reduces-from_Reduction v.after))
    | inr b ↦ subst (λ x. ReducesStrictly r (Node f ss) (Node x ts)) b.0 (strictly-inside f ss ts b.1.0 b.1.1)
  ]),
  (λ h. strictly-cases f g ss ts h.0 h.2.0 (reduction-after_first h)),
)
