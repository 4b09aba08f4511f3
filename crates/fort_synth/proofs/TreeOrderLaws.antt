-- A result, which no proof cites: the order of terms in a family is that of the program's terms.
use Rattle.std.specs.Prelude.{◌≡◌, ◌↔◌, ◌⊎◌, ℕ, ◌<◌, refl}
use Rattle.std.specs.declared.cmp.Ordering.{Ordering}
use Rattle.std.specs.declared.cmp.Ordering.TheVariants.{Less, Equal, Greater}
use Rattle.std.specs.Ordering.{nat_cmp, ordering_then}
use Rattle.std.proofs.Common.{inl, inr, arith}
use Rattle.std.proofs.lemmas.Bool.Decides.{nat_tests}
use Rattle.fort_theory.specs.Trees.{Tree, Trees, Node, Nil, More}
use Rattle.fort_terms.specs.TermKeys.{tree_order, trees_order}
use Rattle.fort_answers.specs.FamilyRules.{TreeBefore, TreesBefore}

then_less : (o p : Ordering) → ordering_then o p ≡ Less ↔ ((o ≡ Less) ⊎ ((o ≡ Equal) × (p ≡ Less)))
then_less Less p = (λ e. inl refl, λ h. refl)
then_less Equal p = (λ e. inr (refl, e), λ h. elim h [ inl e ↦ cc | inr e ↦ e.1 ])
then_less Greater p = (λ e. cc, λ h. elim h [ inl e ↦ cc | inr e ↦ let d = e.0 in cc ])

below : (f g : ℕ) → nat_cmp f g ≡ Less ↔ (f < g)
below f g = (λ e. grind (arith, nat_tests), λ h. grind (arith, nat_tests))

same : (f g : ℕ) → nat_cmp f g ≡ Equal ↔ (f ≡ g)
same f g = (λ e. grind (arith, nat_tests), λ h. grind (arith, nat_tests))

then_equal : (o p : Ordering) → ordering_then o p ≡ Equal ↔ ((o ≡ Equal) × (p ≡ Equal))
then_equal Less p = (λ e. cc, λ h. let d = h.0 in cc)
then_equal Equal p = (λ e. (refl, e), λ h. h.1)
then_equal Greater p = (λ e. cc, λ h. let d = h.0 in cc)

-- terms that are equal in it are one
mutual
  tree_equal : (t u : Tree) → tree_order t u ≡ Equal ↔ t ≡ u
  tree_equal (Node f ts) (Node g us) =
      let both = then_equal (nat_cmp f g) (trees_order ts us) in
      let rest = trees_equal ts us in (
        λ e. let symbols = (same f g).0 (both.0 e).0 in let kids = rest.0 (both.0 e).1 in cc,
        λ e. let symbols : f ≡ g = cc in let kids : ts ≡ us = cc in both.1 ((same f g).1 symbols, rest.1 kids),
      )

  trees_equal : (ts us : Trees) → trees_order ts us ≡ Equal ↔ ts ≡ us
  trees_equal Nil Nil = (λ e. refl, λ e. refl)
  trees_equal Nil (More u us) = (λ e. cc, λ e. cc)
  trees_equal (More t ts) Nil = (λ e. cc, λ e. cc)
  trees_equal (More t ts) (More u us) =
      let both = then_equal (tree_order t u) (trees_order ts us) in
      let first = tree_equal t u in
      let rest = trees_equal ts us in (
        λ e. let one = first.0 (both.0 e).0 in let others = rest.0 (both.0 e).1 in cc,
        λ e. let one : t ≡ u = cc in let others : ts ≡ us = cc in both.1 (first.1 one, rest.1 others),
      )

mutual
  -- Result: one term is before another exactly where it is less
  pub TreeBefore-less : (t u : Tree) → tree_order t u ≡ Less ↔ TreeBefore t u
  TreeBefore-less (Node f ts) (Node g us) =
      let both = then_less (nat_cmp f g) (trees_order ts us) in
      let rest = TreesBefore-less ts us in (
        λ e. elim (both.0 e) [ inl l ↦ inl ((below f g).0 l) | inr s ↦ inr ((same f g).0 s.0, rest.0 s.1) ],
        λ h. both.1 (elim h [ inl l ↦ inl ((below f g).1 l) | inr s ↦ inr ((same f g).1 s.0, rest.1 s.1) ]),
      )

  TreesBefore-less : (ts us : Trees) → trees_order ts us ≡ Less ↔ TreesBefore ts us
  TreesBefore-less Nil Nil = (λ e. cc, λ h. absurd h)
  TreesBefore-less Nil (More u us) = (λ e. tt, λ h. refl)
  TreesBefore-less (More t ts) Nil = (λ e. cc, λ h. absurd h)
  TreesBefore-less (More t ts) (More u us) =
      let both = then_less (tree_order t u) (trees_order ts us) in
      let first = TreeBefore-less t u in
      let same_first = tree_equal t u in
      let rest = TreesBefore-less ts us in (
        λ e. elim (both.0 e) [ inl l ↦ inl (first.0 l) | inr s ↦ inr (same_first.0 s.0, rest.0 s.1) ],
        λ h. both.1 (elim h [ inl l ↦ inl (first.1 l) | inr s ↦ inr (same_first.1 s.0, rest.1 s.1) ]),
      )
