-- What the atoms of a relation say in other notions: one hole is a step, one not at the root a step below it, any number a parallel step; at the root the relation itself, or for any number also equality.
use Rattle.std.specs.Prelude.{◌≡◌, ◌≢◌, ◌↔◌, ◌⊎◌, ℕ, zero, suc, ◌+◌, ◌≤◌, List, [], ◌∷◌, Some, refl}
use Rattle.std.proofs.Common.{sym, ap, subst, ◌∙◌, arith, inl, inr}
use Rattle.fort_theory.specs.Trees.{Tree, Trees, Node, Nil, More, subtree_at, subtree_among, replaced_at, replaced_among}
use Rattle.fort_theory.specs.Rewriting.{Relation, Rewrites, RewritesBelow, RewritesInParallel, AllRewriteInParallel, AtRoot, Inside, End, Both}
use Rattle.fort_theory.proofs.Lists.{none-some, some-injective}
use Rattle.fort_theory.proofs.Constants.{Rewrites-from_root}
use Rattle.fort_theory.proofs.StepByRoot.{Node-equal, OneRewrites, Here, There, Rewrites-by_root, RewritesBelow-by_root}
use Rattle.fort_theory.specs.Contexts.{Context, Contexts, Hole, Over, NoContext, MoreContexts, hole_count, hole_counts, Fills, AllFill, OneHole, SomeHoles, AnyHoles, AtTheRoot, BelowTheRoot, AnyPlace, HoldsInContext}

-- numbers of holes
pub sum-zero : (a b : ℕ) → a + b ≡ 0 → (a ≡ 0) × (b ≡ 0)
sum-zero a b e = (omega arith, omega arith)

pub sum-one : (a b : ℕ) → a + b ≡ 1 → ((a ≡ 1) × (b ≡ 0)) ⊎ ((a ≡ 0) × (b ≡ 1))
sum-one zero b e = inr (refl, omega arith)
sum-one (suc a) b e = inl (omega arith, omega arith)

pub sum-some : (a b : ℕ) → 1 ≤ a + b → (1 ≤ a) ⊎ (1 ≤ b)
sum-some zero b e = inr (omega arith)
sum-some (suc a) b e = inl (omega arith)

pub More-equal : {s t : Tree} {ss ts : Trees} → s ≡ t → ss ≡ ts → More s ss ≡ More t ts
More-equal {s = s} {ts = ts} e h = ap (λ us. More s us) h ∙ ap (λ u. More u ts) e

-- without holes both terms are the context
mutual
  pub equal-from_Fills : (r : Relation) (c : Context) (s t : Tree) → hole_count c ≡ 0 → Fills r c s t → s ≡ t
  equal-from_Fills r Hole s t e h = absurd (let one : 1 ≡ 0 = e in omega arith)
  equal-from_Fills r (Over f cs) (Node g ss) (Node h ts) e w = Node-equal (sym w.0 ∙ w.1) (equal-from_AllFill r cs ss ts e w.2)

  pub equal-from_AllFill : (r : Relation) (cs : Contexts) (ss ts : Trees) → hole_counts cs ≡ 0 → AllFill r cs ss ts → ss ≡ ts
  equal-from_AllFill r NoContext Nil Nil e w = refl
  equal-from_AllFill r NoContext Nil (More t ts) e w = absurd w
  equal-from_AllFill r NoContext (More s ss) ts e w = absurd w
  equal-from_AllFill r (MoreContexts c cs) Nil ts e w = absurd w
  equal-from_AllFill r (MoreContexts c cs) (More s ss) Nil e w = absurd w
  equal-from_AllFill r (MoreContexts c cs) (More s ss) (More t ts) e w =
      let z = sum-zero (hole_count c) (hole_counts cs) e in
      More-equal (equal-from_Fills r c s t z.0 w.0) (equal-from_AllFill r cs ss ts z.1 w.1)

-- the context that is a term
abbrev mutual
  pub plain : Tree → Context
  plain (Node f ts) = Over f (all_plain ts)

  pub all_plain : Trees → Contexts
  all_plain Nil = NoContext
  all_plain (More t ts) = MoreContexts (plain t) (all_plain ts)

mutual
  pub hole_count-plain : (t : Tree) → hole_count (plain t) ≡ 0
  hole_count-plain (Node f ts) = hole_counts-all_plain ts

  pub hole_counts-all_plain : (ts : Trees) → hole_counts (all_plain ts) ≡ 0
  hole_counts-all_plain Nil = refl
  hole_counts-all_plain (More t ts) = let a = hole_count-plain t in let b = hole_counts-all_plain ts in omega arith

mutual
  pub Fills-plain : (r : Relation) (t : Tree) → Fills r (plain t) t t
  Fills-plain r (Node f ts) = (refl, refl, AllFill-all_plain r ts)

  pub AllFill-all_plain : (r : Relation) (ts : Trees) → AllFill r (all_plain ts) ts ts
  AllFill-all_plain r Nil = tt
  AllFill-all_plain r (More t ts) = (Fills-plain r t, AllFill-all_plain r ts)

pub Over-not_hole : {f : ℕ} {cs : Contexts} → Over f cs ≡ Hole → ⊥
Over-not_hole h = cc

-- any number of holes: parallel steps
mutual
  pub parallel-from_Fills : (r : Relation) (c : Context) (s t : Tree) → Fills r c s t → RewritesInParallel r s t
  parallel-from_Fills r Hole s t h = AtRoot h
  parallel-from_Fills r (Over f cs) (Node g ss) (Node h ts) w =
      subst (λ x. RewritesInParallel r (Node g ss) (Node x ts)) (sym w.0 ∙ w.1) (Inside (all_parallel-from_AllFill r cs ss ts w.2))

  pub all_parallel-from_AllFill : (r : Relation) (cs : Contexts) (ss ts : Trees) → AllFill r cs ss ts → AllRewriteInParallel r ss ts
  all_parallel-from_AllFill r NoContext Nil Nil w = End
  all_parallel-from_AllFill r NoContext Nil (More t ts) w = absurd w
  all_parallel-from_AllFill r NoContext (More s ss) ts w = absurd w
  all_parallel-from_AllFill r (MoreContexts c cs) Nil ts w = absurd w
  all_parallel-from_AllFill r (MoreContexts c cs) (More s ss) Nil w = absurd w
  all_parallel-from_AllFill r (MoreContexts c cs) (More s ss) (More t ts) w =
      Both (parallel-from_Fills r c s t w.0) (all_parallel-from_AllFill r cs ss ts w.1)

mutual
  pub Fills-from_parallel : {r : Relation} {s t : Tree} → RewritesInParallel r s t → (c : Context) × Fills r c s t
  Fills-from_parallel (AtRoot h) = (Hole, h)
  Fills-from_parallel (Inside {f = f} ks) = let w = AllFill-from_parallel ks in (Over f w.0, (refl, refl, w.1))

  pub AllFill-from_parallel : {r : Relation} {ss ts : Trees} → AllRewriteInParallel r ss ts → (cs : Contexts) × AllFill r cs ss ts
  AllFill-from_parallel End = (NoContext, tt)
  AllFill-from_parallel (Both k ks) =
      let w = Fills-from_parallel k in
      let ws = AllFill-from_parallel ks in
      (MoreContexts w.0 ws.0, (w.1, ws.1))

pub any-in_parallel : (r : Relation) (s t : Tree) → HoldsInContext r AnyHoles AnyPlace s t ↔ RewritesInParallel r s t
any-in_parallel r s t = (
  (λ h. parallel-from_Fills r h.context s t h.fills),
  (λ k. let w = Fills-from_parallel k in record { context = w.0; number_is = tt; place_is = tt; fills = w.1 }),
)

-- one hole: steps
mutual
  rewrites-from_Fills : (r : Relation) (c : Context) (s t : Tree) → hole_count c ≡ 1 → Fills r c s t → Rewrites r s t
  rewrites-from_Fills r Hole s t e h = Rewrites-from_root r s t h
  rewrites-from_Fills r (Over f cs) (Node g ss) (Node h ts) e w =
      (Rewrites-by_root r g h ss ts).1 (inr (sym w.0 ∙ w.1, one_rewrites-from_AllFill r cs ss ts e w.2))

  one_rewrites-from_AllFill : (r : Relation) (cs : Contexts) (ss ts : Trees) → hole_counts cs ≡ 1 → AllFill r cs ss ts → OneRewrites r ss ts
  one_rewrites-from_AllFill r NoContext ss ts e w = absurd (let none : 0 ≡ 1 = e in omega arith)
  one_rewrites-from_AllFill r (MoreContexts c cs) Nil ts e w = absurd w
  one_rewrites-from_AllFill r (MoreContexts c cs) (More s ss) Nil e w = absurd w
  one_rewrites-from_AllFill r (MoreContexts c cs) (More s ss) (More t ts) e w = elim (sum-one (hole_count c) (hole_counts cs) e) [
    | inl z ↦ subst (λ us. OneRewrites r (More s ss) (More t us)) (equal-from_AllFill r cs ss ts z.1 w.1) (Here (rewrites-from_Fills r c s t z.0 w.0))
    | inr z ↦ subst (λ u. OneRewrites r (More s ss) (More u ts)) (equal-from_Fills r c s t z.0 w.0) (There (one_rewrites-from_AllFill r cs ss ts z.1 w.1))
  ]

mutual
  Fills-from_position : (r : Relation) (p : List ℕ) (s redex v : Tree) → subtree_at s p ≡ Some redex → r redex v
      → (c : Context) × (hole_count c ≡ 1) × Fills r c s (replaced_at s p v)
  Fills-from_position r [] s redex v stands one = (Hole, refl, subst (λ x. r x v) (sym (some-injective stands)) one)
  Fills-from_position r (i ∷ p) (Node f ss) redex v stands one =
      let w = AllFill-from_position r p ss i redex v stands one in (Over f w.0, w.1, (refl, refl, w.2))

  AllFill-from_position : (r : Relation) (p : List ℕ) (ss : Trees) (i : ℕ) (redex v : Tree) → subtree_among ss i p ≡ Some redex → r redex v
      → (cs : Contexts) × (hole_counts cs ≡ 1) × AllFill r cs ss (replaced_among ss i p v)
  AllFill-from_position r p Nil i redex v stands one = absurd (none-some stands)
  AllFill-from_position r p (More s ss) zero redex v stands one =
      let w = Fills-from_position r p s redex v stands one in
      let z = hole_counts-all_plain ss in
      let e : hole_count w.0 ≡ 1 = w.1 in
      (MoreContexts w.0 (all_plain ss), omega (arith, e, z), (w.2, AllFill-all_plain r ss))
  AllFill-from_position r p (More s ss) (suc i) redex v stands one =
      let w = AllFill-from_position r p ss i redex v stands one in
      let z = hole_count-plain s in
      let e : hole_counts w.0 ≡ 1 = w.1 in
      (MoreContexts (plain s) w.0, omega (arith, e, z), (Fills-plain r s, w.2))

below-not_hole : (r : Relation) (p : List ℕ) (s redex v : Tree) → p ≢ [] → subtree_at s p ≡ Some redex → r redex v
    → (c : Context) × (hole_count c ≡ 1) × (c ≢ Hole) × Fills r c s (replaced_at s p v)
below-not_hole r [] s redex v deep stands one = absurd (deep refl)
below-not_hole r (i ∷ p) (Node f ss) redex v deep stands one =
    let w = AllFill-from_position r p ss i redex v stands one in (Over f w.0, w.1, Over-not_hole, (refl, refl, w.2))

pub one-is_step : (r : Relation) (s t : Tree) → HoldsInContext r OneHole AnyPlace s t ↔ Rewrites r s t
one-is_step r s t = (
  (λ h. rewrites-from_Fills r h.context s t h.number_is h.fills),
  (λ k.
      let w = Fills-from_position r k.0 s k.1.redex k.1.contractum k.1.stands k.1.contracts in
      record { context = w.0; number_is = w.1; place_is = tt; fills = subst (λ x. Fills r w.0 s x) (sym k.1.result) w.2 }),
)

below-from_Fills : (r : Relation) (c : Context) (s t : Tree) → hole_count c ≡ 1 → c ≢ Hole → Fills r c s t → RewritesBelow r s t
below-from_Fills r Hole s t e deep h = absurd (deep refl)
below-from_Fills r (Over f cs) (Node g ss) (Node h ts) e deep w =
    (RewritesBelow-by_root r g h ss ts).1 (sym w.0 ∙ w.1, one_rewrites-from_AllFill r cs ss ts e w.2)

pub one-below_is_step_below : (r : Relation) (s t : Tree) → HoldsInContext r OneHole BelowTheRoot s t ↔ RewritesBelow r s t
one-below_is_step_below r s t = (
  (λ h. below-from_Fills r h.context s t h.number_is h.place_is h.fills),
  (λ k.
      let w = below-not_hole r k.0 s k.2.redex k.2.contractum k.1 k.2.stands k.2.contracts in
      record { context = w.0; number_is = w.1; place_is = w.2; fills = subst (λ x. Fills r w.0 s x) (sym k.2.result) w.3 }),
)

-- at the root
pub one-at_root : (r : Relation) (s t : Tree) → HoldsInContext r OneHole AtTheRoot s t ↔ r s t
one-at_root r s t = (
  (λ h. elim h.place_is [
    | inl e ↦ subst (λ c. Fills r c s t) e h.fills
    | inr z ↦ absurd (let one : hole_count h.context ≡ 1 = h.number_is in omega (arith, z, one))
  ]),
  (λ k. record { context = Hole; number_is = refl; place_is = inl refl; fills = k }),
)

pub some-at_root : (r : Relation) (s t : Tree) → HoldsInContext r SomeHoles AtTheRoot s t ↔ r s t
some-at_root r s t = (
  (λ h. elim h.place_is [
    | inl e ↦ subst (λ c. Fills r c s t) e h.fills
    | inr z ↦ absurd (let one : 1 ≤ hole_count h.context = h.number_is in omega (arith, z, one))
  ]),
  (λ k. record { context = Hole; number_is = omega arith; place_is = inl refl; fills = k }),
)

pub any-at_root : (r : Relation) (s t : Tree) → HoldsInContext r AnyHoles AtTheRoot s t ↔ (r s t ⊎ (s ≡ t))
any-at_root r s t = (
  (λ h. elim h.place_is [
    | inl e ↦ inl (subst (λ c. Fills r c s t) e h.fills)
    | inr z ↦ inr (equal-from_Fills r h.context s t z h.fills)
  ]),
  (λ k. elim k [
    | inl one ↦ record { context = Hole; number_is = tt; place_is = inl refl; fills = one }
    | inr e ↦ record { context = plain s; number_is = tt; place_is = inr (hole_count-plain s); fills = subst (λ x. Fills r (plain s) s x) e (Fills-plain r s) }
  ]),
)
