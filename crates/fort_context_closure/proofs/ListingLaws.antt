-- The number of the node with a symbol over the numbers of some trees is that of the tree over them; so a step gives the label.
use Rattle.std.specs.Prelude.{◌≡◌, ℕ, zero, suc, ◌<◌, List, [], ◌∷◌, map, length, set, Contains, Option, None, Some, get_or, refl}
use Rattle.std.proofs.Common.{sym, ap, ◌∙◌, arith, inl, inr}
use Rattle.fort_theory.specs.Trees.{Tree, Trees, Node, Nil, More}
use Rattle.fort_theory.specs.Signatures.{Signature}
use Rattle.fort_theory.proofs.Lists.{none-some, some-injective}
use Rattle.fort_tables.specs.Labels.{AreLabels}
use Rattle.fort_tables.specs.LabelRules.{label_of}
use Rattle.fort_alike.specs.Subterms.{subterms}
use Rattle.fort_alike.specs.TermRule.{number_in, number_of, numbers, numbered, put_first, all_numbered, number_over, number_at, number_word, term_rule}
use Rattle.fort_alike.proofs.SubtermLaws.{number_in-stands, number_in-none, number_in-zero, number_in-at, AllAmong, ListsSubterms-subterms, children_listed}
use Rattle.fort_alike.proofs.TermLabels.{HasChildren, TellsNumber-tuple}
use Rattle.fort_context_closure.specs.TermNodes.{TermNode, node_for, AreNodesOf, numbers_told, IsNode, AreNoNode, IsNodeNumber}

-- the trees of their numbers are the trees
numbered-own : (listed : List Tree) (s : Tree) (n : ℕ) → number_in listed s ≡ n → Contains listed s → numbered listed n ≡ Some s
numbered-own listed s zero h c = absurd (number_in-none listed s h c)
numbered-own listed s (suc i) h c = number_in-stands listed s i h

numbered-again : (listed : List Tree) (ss : Trees) → AllAmong listed ss → all_numbered listed (numbers listed ss) ≡ Some ss
numbered-again listed Nil a = refl
numbered-again listed (More s ss) a =
    let one = numbered-own listed s (number_in listed s) refl a.0 in
    let rest = numbered-again listed ss a.1 in
    λ i. put_first (one i) (rest i)

-- each number is that of some column
abbrev pub OwnNumbers : List Tree → List ℕ → Type 0
OwnNumbers listed [] = Unit {0}
OwnNumbers listed (n ∷ ns) = ((x : Option Tree) × (number_of listed x ≡ n)) × OwnNumbers listed ns

own_number : (listed : List Tree) (n : ℕ) (x : Option Tree) (s : Tree) → number_of listed x ≡ n → numbered listed n ≡ Some s → n ≡ number_in listed s
own_number listed zero x s o e = absurd (none-some e)
own_number listed (suc i) None s o e = absurd (omega arith)
own_number listed (suc i) (Some v) s o e =
    let same : v ≡ s = some-injective (sym (number_in-stands listed v i o) ∙ e) in
    sym (ap (number_in listed) (sym same) ∙ o)

-- such numbers of trees are the trees' numbers
own_numbers : (listed : List Tree) (ns : List ℕ) (ss : Trees) → OwnNumbers listed ns → all_numbered listed ns ≡ Some ss → ns ≡ numbers listed ss
own_numbers listed [] ss o e = ap (numbers listed) (some-injective e)
own_numbers listed (n ∷ ns) ss o e = by (numbered listed n) (all_numbered listed ns) refl refl e (λ rest k. own_numbers listed ns rest o.1 k)
  where
    by : (m : Option Tree) (found : Option Trees) → numbered listed n ≡ m → all_numbered listed ns ≡ found → put_first m found ≡ Some ss
        → ((rest : Trees) → all_numbered listed ns ≡ Some rest → ns ≡ numbers listed rest) → n ∷ ns ≡ numbers listed ss
    by None found h k e inner = absurd (none-some e)
    by (Some s) None h k e inner = absurd (none-some e)
    by (Some s) (Some rest) h k e inner =
        let first = own_number listed n o.0.0 s o.0.1 h in
        let behind = inner rest k in
        (λ i. first i ∷ behind i) ∙ ap (numbers listed) (some-injective e)

-- the numbers that the children's labels tell
number_words : (labels : List (List ℕ)) (kids : List ℕ) → map number_word (map (λ q. get_or labels q []) kids) ≡ numbers_told labels kids
number_words labels [] = refl
number_words labels (q ∷ kids) = ap (λ ns. number_word (get_or labels q []) ∷ ns) (number_words labels kids)

module _ (listed : List Tree) (closed : HasChildren listed) where
  OwnNumbers-labels : (sig : Signature) (labels : List (List ℕ)) (qs : List ℕ) → AreLabels sig 1 (label_of (term_rule sig listed)) labels
      → ((j : ℕ) → j < length qs → get_or qs j 0 < length labels) → OwnNumbers listed (numbers_told labels qs)
  OwnNumbers-labels sig labels [] are within = tt
  OwnNumbers-labels sig labels (q ∷ qs) are within =
      let w = are q (within 0 (omega arith)) in (
        (get_or w.0 0 None, ap number_word (sym (TellsNumber-tuple sig listed closed w.0 w.1) ∙ w.2)),
        OwnNumbers-labels sig labels qs are (λ j l. within (suc j) (omega arith)),
      )

  module _ (nodes : List TermNode) (are : AreNodesOf listed nodes) where
    over_found : (f : ℕ) (ns : List ℕ) (node : TermNode) → Contains nodes node → IsNode f ns node → node.number ≡ number_over listed f (all_numbered listed ns)
    over_found f ns node c is = by (are.each node c).0 (are.each node c).1 (are.each node c).2
      where
        by : (v : Tree) → Contains listed v → node ≡ node_for listed v → node.number ≡ number_over listed f (all_numbered listed ns)
        by (Node g us) there same =
            let symbol : g ≡ f = sym (ap (λ (n : TermNode). n.symbol) same) ∙ is.0 in
            let kids : numbers listed us ≡ ns = sym (ap (λ (n : TermNode). n.kids) same) ∙ is.1 in
            let again : all_numbered listed ns ≡ Some us = ap (all_numbered listed) (sym kids) ∙ numbered-again listed us (closed g us there) in
            ap (λ (n : TermNode). n.number) same ∙ (ap (λ h. number_in listed (Node h us)) symbol ∙ sym (ap (number_over listed f) again))

    over_none : (f : ℕ) (ns : List ℕ) → OwnNumbers listed ns → AreNoNode nodes f ns → 0 ≡ number_over listed f (all_numbered listed ns)
    over_none f ns o none = sym (by (all_numbered listed ns) refl)
      where
        by : (found : Option Trees) → all_numbered listed ns ≡ found → number_over listed f found ≡ 0
        by None e = refl
        by (Some ss) e = number_in-zero listed (Node f ss) (λ c. none (node_for listed (Node f ss)) (are.all (Node f ss) c) (refl, sym (own_numbers listed ns ss o e)))

    number_is : (x : Option ℕ) (ns : List ℕ) (n : ℕ) → OwnNumbers listed ns → IsNodeNumber nodes x ns n → n ≡ number_at listed x ns
    number_is None ns n o h = h
    number_is (Some f) ns n o (inl w) = w.3 ∙ over_found f ns w.0 w.1 w.2
    number_is (Some f) ns n o (inr w) = w.0 ∙ over_none f ns o w.1

-- Result: the node's number is what the rule asks for
pub number_at-nodes : (term : Tree) (nodes : List TermNode) → AreNodesOf (subterms term) nodes → (sig : Signature) (labels : List (List ℕ)) (x : Option ℕ) (qs : List ℕ) (n : ℕ)
    → AreLabels sig 1 (label_of (term_rule sig (subterms term))) labels → ((j : ℕ) → j < length qs → get_or qs j 0 < length labels)
    → IsNodeNumber nodes x (numbers_told labels qs) n → n ≡ number_at (subterms term) x (map number_word (map (λ q. get_or labels q []) qs))
number_at-nodes term nodes are sig labels x qs n own within h =
    let listed = subterms term in
    let closed = children_listed term listed (ListsSubterms-subterms term) in
    number_is listed closed nodes are x (numbers_told labels qs) n (OwnNumbers-labels listed closed sig labels qs own within) h
    ∙ ap (number_at listed x) (sym (number_words labels qs))

-- the term itself stands first
pub own_number_is : (t : Tree) → number_in (subterms t) t ≡ 1
own_number_is (Node f ss) = number_in-at (subterms (Node f ss)) (Node f ss) 0 refl (λ k l. absurd (omega arith))

-- two words, each written
pub two_words : (out : List ℕ) (p q n : ℕ) → length out ≡ 2 → p ≡ q → set (set out 0 p) 1 n ≡ q ∷ n ∷ []
two_words [] p q n l e = absurd (omega arith)
two_words (x ∷ []) p q n l e = absurd (omega arith)
two_words (x ∷ y ∷ []) p q n l e = ap (λ a. a ∷ n ∷ []) e
two_words (x ∷ y ∷ z ∷ out) p q n l e = absurd (omega arith)
