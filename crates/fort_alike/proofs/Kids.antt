-- The tests on children decide what they are meant to, where the children's bits do.
use Rattle.std.specs.Prelude.{◌≡◌, ◌⊎◌, ℕ, suc, ◌<◌, ◌≤◌, List, [], ◌∷◌, length, Option, None, Some, get_or, Contains, Bool, Decides, ◌&&◌, ◌==◌}
use Rattle.std.proofs.Common.{sym, ap, ◌∙◌, arith}
use Rattle.std.proofs.lemmas.Bool.Decides.{Decides-eqb, Decides-and, Decides-or}
use Rattle.fort_theory.specs.Trees.{Tree, Trees, Node, Nil, More, tree_count}
use Rattle.fort_theory.specs.Signatures.{Signature, IsGround, arity_of}
use Rattle.fort_theory.specs.Patterns.{Pattern, Patterns, Any, At, NoPattern, MorePatterns, pattern_count}
use Rattle.fort_theory.specs.Rewriting.{Relation}
use Rattle.fort_theory.proofs.Lists.{some-injective}
use Rattle.fort_tables.specs.Tuples.{tree_at}
use Rattle.fort_tables.specs.OneColumn.{column_root, column_kid, column_kid_count}
use Rattle.fort_alike.specs.Atoms.{OfOne, OfTwo}
use Rattle.fort_alike.specs.ListedAtoms.{Mark}
use Rattle.fort_alike.specs.AtomRules.{all_inside, inside, all_kids, one_kid, some_kid}
use Rattle.fort_theory.specs.PatternOrder.{AllAmong}
use Rattle.fort_alike.proofs.ClosedLists.{ArePatterns}
use Rattle.fort_alike.proofs.Bits.{Decides-true, Decides-false, Decides-and_then}

-- child by child
abbrev pub AllOf : (Pattern → Tree → Type 0) → Patterns → Trees → Type 0
AllOf P NoPattern Nil = Unit {0}
AllOf P NoPattern (More t ts) = ⊥
AllOf P (MorePatterns p ps) Nil = ⊥
AllOf P (MorePatterns p ps) (More t ts) = P p t × AllOf P ps ts

-- a pattern at a tree, by the children alone
abbrev pub InsideOf : (Pattern → Tree → Type 0) → Pattern → Tree → Type 0
InsideOf P Any t = Unit {0}
InsideOf P (At g ps) (Node f ss) = (g ≡ f) × AllOf P ps ss

abbrev pub GroundAt : Signature → Option Tree → Type 0
GroundAt sig None = Unit {0}
GroundAt sig (Some t) = IsGround sig t

-- the children's bits of patterns are right
abbrev pub OneRight : (Mark → List ℕ → Bool) → (Pattern → Mark) → List Pattern → (Pattern → Tree → Type 0)
    → List (List ℕ) → (ℕ → Option Tree) → Type 0
OneRight bit of listed P ws kid_at = (j : ℕ) → j < length ws → (p : Pattern) → Contains listed p → Decides (bit (of p) (get_or ws j [])) (OfOne (P p) (kid_at j))

module _ (bit : Mark → List ℕ → Bool) (of : Pattern → Mark) (listed : List Pattern) (P : Pattern → Tree → Type 0) where
  Decides-all_inside : (ws : List (List ℕ)) (ps : Patterns) (ss : Trees) → AllAmong listed ps → pattern_count ps ≡ tree_count ss → tree_count ss ≤ length ws
      → OneRight bit of listed P ws (tree_at ss) → Decides (all_inside bit of ws ps) (AllOf P ps ss)
  Decides-all_inside ws NoPattern Nil m c l h = Decides-true tt
  Decides-all_inside ws NoPattern (More s ss) m c l h = absurd (omega arith)
  Decides-all_inside ws (MorePatterns p ps) Nil m c l h = absurd (omega arith)
  Decides-all_inside [] (MorePatterns p ps) (More s ss) m c l h = absurd (omega arith)
  Decides-all_inside (w ∷ ws) (MorePatterns p ps) (More s ss) m c l h =
      Decides-and (bit (of p) w) (all_inside bit of ws ps) (h 0 (omega arith) p m.0)
      (Decides-all_inside ws ps ss m.1 (omega arith) (omega arith) (λ j k q d. h (suc j) (omega arith) q d))

  pub Decides-inside : (sig : Signature) → ArePatterns sig listed → (x : Option Tree) (ws : List (List ℕ)) → GroundAt sig x → column_kid_count x ≤ length ws
      → OneRight bit of listed P ws (column_kid x) → (q : Pattern) → Contains listed q → Decides (inside bit of (column_root x) ws q) (OfOne (InsideOf P q) x)
  Decides-inside sig are None ws g l h q m = Decides-false (λ e. e)
  Decides-inside sig are (Some (Node f ss)) ws g l h Any m = Decides-true tt
  Decides-inside sig are (Some (Node f ss)) ws g l h (At k ps) m =
      Decides-and_then (k == f) (all_inside bit of ws ps) (Decides-eqb k f)
      (λ e. Decides-all_inside ws ps ss (are.closed k ps m)
      (some-injective (sym (are.fit (At k ps) m).0 ∙ (ap (arity_of sig) e ∙ g.0))) l h)

-- both terms' children
abbrev pub AllRelated : Relation → Trees → Trees → Type 0
AllRelated R Nil Nil = Unit {0}
AllRelated R Nil (More t ts) = ⊥
AllRelated R (More s ss) Nil = ⊥
AllRelated R (More s ss) (More t ts) = R s t × AllRelated R ss ts

abbrev pub OneRelated : Relation → Relation → Trees → Trees → Type 0
OneRelated R E Nil ts = ⊥
OneRelated R E (More s ss) Nil = ⊥
OneRelated R E (More s ss) (More t ts) = (R s t × AllRelated E ss ts) ⊎ (E s t × OneRelated R E ss ts)

abbrev pub SomeRelated : Relation → Trees → Trees → Type 0
SomeRelated R Nil ts = ⊥
SomeRelated R (More s ss) Nil = ⊥
SomeRelated R (More s ss) (More t ts) = R s t ⊎ SomeRelated R ss ts

abbrev pub TwoRight : (List ℕ → Bool) → Relation → List (List ℕ) → (ℕ → Option Tree) → (ℕ → Option Tree) → Type 0
TwoRight b R ws left right = (j : ℕ) → j < length ws → Decides (b (get_or ws j [])) (OfTwo R (left j) (right j))

pub Decides-all_kids : (b : List ℕ → Bool) (R : Relation) (ws : List (List ℕ)) (ss ts : Trees) → length ws ≡ tree_count ss → length ws ≡ tree_count ts
    → TwoRight b R ws (tree_at ss) (tree_at ts) → Decides (all_kids b ws) (AllRelated R ss ts)
Decides-all_kids b R [] Nil Nil l k h = Decides-true tt
Decides-all_kids b R [] Nil (More t ts) l k h = absurd (omega arith)
Decides-all_kids b R [] (More s ss) ts l k h = absurd (omega arith)
Decides-all_kids b R (w ∷ ws) Nil ts l k h = absurd (omega arith)
Decides-all_kids b R (w ∷ ws) (More s ss) Nil l k h = absurd (omega arith)
Decides-all_kids b R (w ∷ ws) (More s ss) (More t ts) l k h =
    Decides-and (b w) (all_kids b ws) (h 0 (omega arith)) (Decides-all_kids b R ws ss ts (omega arith) (omega arith) (λ j m. h (suc j) (omega arith)))

pub Decides-one_kid : (b c : List ℕ → Bool) (R E : Relation) (ws : List (List ℕ)) (ss ts : Trees) → length ws ≡ tree_count ss → length ws ≡ tree_count ts
    → TwoRight b R ws (tree_at ss) (tree_at ts) → TwoRight c E ws (tree_at ss) (tree_at ts) → Decides (one_kid b c ws) (OneRelated R E ss ts)
Decides-one_kid b c R E [] Nil ts l k h e = Decides-false (λ w. w)
Decides-one_kid b c R E [] (More s ss) ts l k h e = absurd (omega arith)
Decides-one_kid b c R E (w ∷ ws) Nil ts l k h e = absurd (omega arith)
Decides-one_kid b c R E (w ∷ ws) (More s ss) Nil l k h e = absurd (omega arith)
Decides-one_kid b c R E (w ∷ ws) (More s ss) (More t ts) l k h e =
    Decides-or (b w && all_kids c ws) (c w && one_kid b c ws)
    (Decides-and (b w) (all_kids c ws) (h 0 (omega arith)) (Decides-all_kids c E ws ss ts (omega arith) (omega arith) (λ j m. e (suc j) (omega arith))))
    (Decides-and (c w) (one_kid b c ws) (e 0 (omega arith))
    (Decides-one_kid b c R E ws ss ts (omega arith) (omega arith) (λ j m. h (suc j) (omega arith)) (λ j m. e (suc j) (omega arith))))

pub Decides-some_kid : (b : List ℕ → Bool) (R : Relation) (ws : List (List ℕ)) (ss ts : Trees) → length ws ≡ tree_count ss → length ws ≡ tree_count ts
    → TwoRight b R ws (tree_at ss) (tree_at ts) → Decides (some_kid b ws) (SomeRelated R ss ts)
Decides-some_kid b R [] Nil ts l k h = Decides-false (λ w. w)
Decides-some_kid b R [] (More s ss) ts l k h = absurd (omega arith)
Decides-some_kid b R (w ∷ ws) Nil ts l k h = absurd (omega arith)
Decides-some_kid b R (w ∷ ws) (More s ss) Nil l k h = absurd (omega arith)
Decides-some_kid b R (w ∷ ws) (More s ss) (More t ts) l k h =
    Decides-or (b w) (some_kid b ws) (h 0 (omega arith)) (Decides-some_kid b R ws ss ts (omega arith) (omega arith) (λ j m. h (suc j) (omega arith)))
