-- Law: the laws of the equality, the order and the hash of terms.
use Rattle.std.specs.Prelude.{◌≡◌, ℕ, suc, Bool, true, nat_eq, ◌&&◌, List, [], ◌∷◌, ◌++◌, length, refl}
use Rattle.std.specs.Bool.{Decides, one_answer}
use Rattle.std.specs.Hash as fed
use Rattle.std.specs.List.{flat_map}
use Rattle.std.specs.declared.cmp.Ordering.TheVariants.{Equal}
use Rattle.std.specs.Ordering.{nat_cmp, ordering_then, eq_by_cmp, as_partial_cmp, is_eq}
use Rattle.std.specs.Cmp.{IsPartialEquivalence, IsEquivalence, IsPartialOrder, IsTotalOrder, partial_equiv_from_equiv, partial_order_from_agreeing_total, decided, first_so, second_so}
use Rattle.std.specs.Cmp.Lexicographic.{slice_cmp, texts_ties}
use Rattle.std.proofs.Common.{ap, sym, ◌∙◌, subst, eq-eqb, eqb-true}
use Rattle.std.proofs.lemmas.Cmp.{on_total, nat_list_cmp_total}
use lib.Pointwise.{pointwise, bytes_decides}
use Rattle.fort_theory.specs.Trees.{Tree, Trees, Node, Nil, More, trees, tree_count}
use Rattle.fort_theory.specs.TreeCode.{spelled, all_spelled, tree_of_code, tree_again}
use Rattle.fort_terms.specs.Spellings.{DecideFirst, DecideFirst-nil, DecideFirst-cons, DecideFirst-less, DecideFirst-greater, DecideFirst-append, nat_cmp-suc}
use Rattle.fort_terms.specs.TermKeys.{tree_eq, trees_eq, tree_order, trees_order, tree_hash, trees_hash}

-- equal exactly where the trees are equal
mutual
  same_from_tree_eq : (s t : Tree) → tree_eq s t ≡ true → s ≡ t
  same_from_tree_eq (Node f ts) (Node g us) e =
      let symbols = eqb-true f g (first_so (nat_eq f g) (trees_eq ts us) e) in
      let kids = same_from_trees_eq ts us (second_so (nat_eq f g) (trees_eq ts us) e) in cc

  same_from_trees_eq : (ts us : Trees) → trees_eq ts us ≡ true → ts ≡ us
  same_from_trees_eq Nil Nil e = refl
  same_from_trees_eq Nil (More u us) e = cc
  same_from_trees_eq (More t ts) Nil e = cc
  same_from_trees_eq (More t ts) (More u us) e =
      let first = same_from_tree_eq t u (first_so (tree_eq t u) (trees_eq ts us) e) in
      let rest = same_from_trees_eq ts us (second_so (tree_eq t u) (trees_eq ts us) e) in cc

mutual
  tree_eq-itself : (t : Tree) → tree_eq t t ≡ true
  tree_eq-itself (Node f ts) = rw (eq-eqb f f refl) (trees_eq-itself ts)

  trees_eq-itself : (ts : Trees) → trees_eq ts ts ≡ true
  trees_eq-itself Nil = refl
  trees_eq-itself (More t ts) = rw (tree_eq-itself t) (trees_eq-itself ts)

pub Decides-tree_eq : (s t : Tree) → Decides (tree_eq s t) (s ≡ t)
Decides-tree_eq s t = (same_from_tree_eq s t, λ e. subst (λ u. tree_eq s u ≡ true) e (tree_eq-itself s))

pub tree_eq-equiv : IsEquivalence tree_eq
tree_eq-equiv = decided tree_eq Decides-tree_eq

pub tree_eq-partial_equiv : IsPartialEquivalence tree_eq
tree_eq-partial_equiv = partial_equiv_from_equiv tree_eq-equiv

-- the children, as a list or as the trees of a node
kids_eq : (ts us : List Tree) → pointwise tree_eq ts us ≡ trees_eq (trees ts) (trees us)
kids_eq [] [] = refl
kids_eq [] (u ∷ us) = refl
kids_eq (t ∷ ts) [] = refl
kids_eq (t ∷ ts) (u ∷ us) = ap (λ (b : Bool). tree_eq t u && b) (kids_eq ts us)

kids_order : (ts us : List Tree) → slice_cmp tree_order ts us ≡ trees_order (trees ts) (trees us)
kids_order [] [] = refl
kids_order [] (u ∷ us) = refl
kids_order (t ∷ ts) [] = refl
kids_order (t ∷ ts) (u ∷ us) = ap (ordering_then (tree_order t u)) (kids_order ts us)

spelled-injective : (s t : Tree) → spelled s ≡ spelled t → s ≡ t
spelled-injective s t e = sym (tree_again s) ∙ (ap tree_of_code e ∙ tree_again t)

-- no spelling of a tree begins another
mutual
  spelled-DecideFirst : (s t : Tree) → DecideFirst (spelled s) (spelled t)
  spelled-DecideFirst (Node f ts) (Node g us) = DecideFirst-cons (suc (suc f)) (suc (suc g)) (all_spelled ts) (all_spelled us) (all_spelled-DecideFirst ts us)

  all_spelled-DecideFirst : (ts us : Trees) → DecideFirst (all_spelled ts) (all_spelled us)
  all_spelled-DecideFirst Nil Nil = DecideFirst-cons 0 0 [] [] DecideFirst-nil
  all_spelled-DecideFirst Nil (More u us) = DecideFirst-less 0 1 [] (spelled u ++ all_spelled us) refl
  all_spelled-DecideFirst (More t ts) Nil = DecideFirst-greater 1 0 (spelled t ++ all_spelled ts) [] refl
  all_spelled-DecideFirst (More t ts) (More u us) =
      DecideFirst-cons 1 1 (spelled t ++ all_spelled ts) (spelled u ++ all_spelled us)
      (DecideFirst-append (spelled t) (spelled u) (all_spelled ts) (all_spelled us) (spelled-DecideFirst t u) (all_spelled-DecideFirst ts us))

-- the order of terms is that of their spellings
mutual
  pub tree_order-spelled : (s t : Tree) → tree_order s t ≡ slice_cmp nat_cmp (spelled s) (spelled t)
  tree_order-spelled (Node f ts) (Node g us) =
      ap (ordering_then (nat_cmp f g)) (trees_order-spelled ts us) ∙ ap (λ o. ordering_then o (slice_cmp nat_cmp (all_spelled ts) (all_spelled us))) (nat_cmp-suc f g ∙ nat_cmp-suc (suc f) (suc g))

  trees_order-spelled : (ts us : Trees) → trees_order ts us ≡ slice_cmp nat_cmp (all_spelled ts) (all_spelled us)
  trees_order-spelled Nil Nil = refl
  trees_order-spelled Nil (More u us) = refl
  trees_order-spelled (More t ts) Nil = refl
  trees_order-spelled (More t ts) (More u us) =
      ap (λ o. ordering_then o (trees_order ts us)) (tree_order-spelled t u)
      ∙ (ap (ordering_then (slice_cmp nat_cmp (spelled t) (spelled u))) (trees_order-spelled ts us)
      ∙ sym ((spelled-DecideFirst t u).decide (all_spelled ts) (all_spelled us)))

pub tree_order-total : IsTotalOrder tree_order
tree_order-total = subst IsTotalOrder (λ i s t. sym (tree_order-spelled s t) i) (on_total spelled nat_list_cmp_total)

-- the order calls two trees equal exactly where they are equal
tree_order-Decides : (s t : Tree) → Decides (eq_by_cmp tree_order s t) (s ≡ t)
tree_order-Decides s t =
    let test : eq_by_cmp tree_order s t ≡ pointwise nat_eq (spelled s) (spelled t) =
    ap is_eq (tree_order-spelled s t) ∙ sym (texts_ties (spelled s) (spelled t)) in
    let same = bytes_decides (spelled s) (spelled t) in
    (λ e. spelled-injective s t (same.0 (sym test ∙ e)), λ e. test ∙ same.1 (ap spelled e))

pub tree_eq-ties : (s t : Tree) → tree_eq s t ≡ eq_by_cmp tree_order s t
tree_eq-ties s t = one_answer (tree_eq s t) (eq_by_cmp tree_order s t) (Decides-tree_eq s t) (tree_order-Decides s t)

pub tree_order-partial : IsPartialOrder tree_eq (as_partial_cmp tree_order)
tree_order-partial = partial_order_from_agreeing_total tree_order tree_order-total (λ s t. refl) tree_eq-ties

-- equal terms feed a hasher alike
pub tree_hash-respects_eq : (s t : Tree) → tree_eq s t ≡ true → tree_hash s ≡ tree_hash t
tree_hash-respects_eq s t e = ap tree_hash ((Decides-tree_eq s t).0 e)

length-trees : (ts : List Tree) → length ts ≡ tree_count (trees ts)
length-trees [] = refl
length-trees (t ∷ ts) = ap suc (length-trees ts)

flat_map-trees : (ts : List Tree) → flat_map tree_hash ts ≡ trees_hash (trees ts)
flat_map-trees [] = refl
flat_map-trees (t ∷ ts) = ap (λ xs. tree_hash t ++ xs) (flat_map-trees ts)

pub kids_hash : (ts : List Tree) → fed.slice tree_hash ts ≡ fed.usize (tree_count (trees ts)) ++ trees_hash (trees ts)
kids_hash ts = ap (λ n. fed.usize n ++ flat_map tree_hash ts) (length-trees ts) ∙ ap (λ xs. fed.usize (tree_count (trees ts)) ++ xs) (flat_map-trees ts)

-- trees with one symbol at their roots are equal where their children are
pub tree_eq-kids : (f g : ℕ) (ts us : List Tree) → nat_eq f g ≡ true → pointwise tree_eq ts us ≡ tree_eq (Node f (trees ts)) (Node g (trees us))
tree_eq-kids f g ts us e = rw e (kids_eq ts us)

pub tree_order-kids : (f g : ℕ) (ts us : List Tree) → nat_cmp f g ≡ Equal → slice_cmp tree_order ts us ≡ tree_order (Node f (trees ts)) (Node g (trees us))
tree_order-kids f g ts us e = rw e (kids_order ts us)
