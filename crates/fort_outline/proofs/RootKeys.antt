-- The equality of roots, as it is derived, decides whether they are equal.
use Rattle.std.specs.Prelude.{◌≡◌, Bool, true, false, Decides, refl}
use Rattle.std.proofs.Common.{ap, true≢false}
use Rattle.std.proofs.lemmas.Bool.{false≢true}
use Rattle.std.proofs.lemmas.Bool.Decides.{Decides-eqb, Decides-and}
use Rattle.fort_terms.specs.TermKeyLaws.{Decides-tree_eq}
use Rattle.fort_relations.specs.declared.relation.Rel.{Rel}
use Rattle.fort_relations.specs.declared.relation.Rel.TheVariants as rels
use Rattle.fort_relations.specs.declared.holes.Holes.{Holes}
use Rattle.fort_relations.specs.declared.holes.Holes.TheVariants as numbers
use Rattle.fort_relations.specs.declared.holes.Place.{Place}
use Rattle.fort_relations.specs.declared.holes.Place.TheVariants as places
use Rattle.fort_relations.specs.RexKeyLaws.{Rex_eq-Decides}
use Rattle.fort_relations.specs.contracts.relation.RelPartialEq.TheImpl as rel_equality
use Rattle.fort_relations.specs.contracts.holes.HolesPartialEq.TheImpl as holes_equality
use Rattle.fort_relations.specs.contracts.holes.PlacePartialEq.TheImpl as place_equality
use Rattle.fort_connectives.specs.declared.connective.Op.{Op}
use Rattle.fort_connectives.specs.declared.connective.Op.TheVariants as ops
use Rattle.fort_connectives.specs.contracts.connective.OpPartialEq.TheImpl as op_equality
use Rattle.fort_outline.specs.declared.leaf.Leaf.{Leaf as Atom}
use Rattle.fort_outline.specs.declared.leaf.Leaf.TheVariants as atoms
use Rattle.fort_outline.specs.contracts.leaf.LeafPartialEq.TheImpl as leaf_equality
use Rattle.fort_outline.specs.declared.root.Root.{Root}
use Rattle.fort_outline.specs.declared.root.Root.TheVariants.{True, Leaf, Not, Binary, Exists, Infinite}
use Rattle.fort_outline.specs.contracts.root.RootPartialEq.TheImpl.{eq-value}

Decides-rel : (a b : Rel) → Decides (rel_equality.eq-value.it a b) (a ≡ b)
Decides-rel rels.Eq rels.Eq = (λ e. refl, λ e. refl)
Decides-rel rels.Root rels.Root = (λ e. refl, λ e. refl)
Decides-rel rels.Below rels.Below = (λ e. refl, λ e. refl)
Decides-rel rels.Step rels.Step = (λ e. refl, λ e. refl)
Decides-rel rels.Par rels.Par = (λ e. refl, λ e. refl)
Decides-rel rels.Plus rels.Plus = (λ e. refl, λ e. refl)
Decides-rel rels.Star rels.Star = (λ e. refl, λ e. refl)
Decides-rel rels.Conv rels.Conv = (λ e. refl, λ e. refl)
Decides-rel a b = (λ e. absurd (false≢true e), λ e. absurd (true≢false (ap (rel_equality.eq-value.it a) e)))

Decides-holes : (a b : Holes) → Decides (holes_equality.eq-value.it a b) (a ≡ b)
Decides-holes numbers.One numbers.One = (λ e. refl, λ e. refl)
Decides-holes numbers.Some numbers.Some = (λ e. refl, λ e. refl)
Decides-holes numbers.Any numbers.Any = (λ e. refl, λ e. refl)
Decides-holes a b = (λ e. absurd (false≢true e), λ e. absurd (true≢false (ap (holes_equality.eq-value.it a) e)))

Decides-place : (a b : Place) → Decides (place_equality.eq-value.it a b) (a ≡ b)
Decides-place places.Root places.Root = (λ e. refl, λ e. refl)
Decides-place places.Below places.Below = (λ e. refl, λ e. refl)
Decides-place places.All places.All = (λ e. refl, λ e. refl)
Decides-place a b = (λ e. absurd (false≢true e), λ e. absurd (true≢false (ap (place_equality.eq-value.it a) e)))

Decides-op : (a b : Op) → Decides (op_equality.eq-value.it a b) (a ≡ b)
Decides-op ops.And ops.And = (λ e. refl, λ e. refl)
Decides-op ops.Or ops.Or = (λ e. refl, λ e. refl)
Decides-op ops.Iff ops.Iff = (λ e. refl, λ e. refl)
Decides-op a b = (λ e. absurd (false≢true e), λ e. absurd (true≢false (ap (op_equality.eq-value.it a) e)))

-- two atoms of one kind
abbrev same_kind : Atom → Atom → Bool
same_kind (atoms.Related a i x y) (atoms.Related b j u v) = true
same_kind (atoms.InContext a m p x y) (atoms.InContext b n q u v) = true
same_kind (atoms.Normal i x) (atoms.Normal j y) = true
same_kind (atoms.IsTerm x t) (atoms.IsTerm y u) = true
same_kind r s = false

Decides-leaf : (r s : Atom) → Decides (leaf_equality.eq-value.it r s) (r ≡ s)
Decides-leaf (atoms.Related a i x y) (atoms.Related b j u v) =
    let d = Decides-and _ _ (Decides-rel a b) (Decides-and _ _ (Decides-eqb i j) (Decides-and _ _ (Decides-eqb x u) (Decides-eqb y v))) in (
      (λ e. let p = d.0 e in λ k. atoms.Related (p.0 k) (p.1.0 k) (p.1.1.0 k) (p.1.1.1 k)),
      (λ e. let p : a ≡ b = cc in let q : i ≡ j = cc in let r : x ≡ u = cc in let s : y ≡ v = cc in d.1 (p, (q, (r, s)))),
    )
Decides-leaf (atoms.InContext a m p x y) (atoms.InContext b n q u v) =
    let d =
    Decides-and _ _ (Rex_eq-Decides a b)
    (Decides-and _ _ (Decides-holes m n) (Decides-and _ _ (Decides-place p q) (Decides-and _ _ (Decides-eqb x u) (Decides-eqb y v)))) in (
      (λ e. let h = d.0 e in λ k. atoms.InContext (h.0 k) (h.1.0 k) (h.1.1.0 k) (h.1.1.1.0 k) (h.1.1.1.1 k)),
      (λ e.
          let f : a ≡ b = cc in
          let g : m ≡ n = cc in
          let h : p ≡ q = cc in
          let i : x ≡ u = cc in
          let j : y ≡ v = cc in
          d.1 (f, (g, (h, (i, j))))),
    )
Decides-leaf (atoms.Normal i x) (atoms.Normal j y) =
    let d = Decides-and _ _ (Decides-eqb i j) (Decides-eqb x y) in (
      (λ e. let p = d.0 e in λ k. atoms.Normal (p.0 k) (p.1 k)),
      (λ e. let p : i ≡ j = cc in let q : x ≡ y = cc in d.1 (p, q)),
    )
Decides-leaf (atoms.IsTerm x t) (atoms.IsTerm y u) =
    let d = Decides-and _ _ (Decides-eqb x y) (Decides-tree_eq t u) in (
      (λ e. let p = d.0 e in λ k. atoms.IsTerm (p.0 k) (p.1 k)),
      (λ e. let p : x ≡ y = cc in let q : t ≡ u = cc in d.1 (p, q)),
    )
Decides-leaf r s = (λ e. absurd (false≢true e), λ e. absurd (true≢false (ap (same_kind r) e)))

-- two roots of one kind
abbrev same_shape : Root → Root → Bool
same_shape True True = true
same_shape (Leaf a) (Leaf b) = true
same_shape (Not f) (Not g) = true
same_shape (Binary a f g) (Binary b h k) = true
same_shape (Exists n f) (Exists m g) = true
same_shape (Infinite n f) (Infinite m g) = true
same_shape r s = false

pub Decides-root : (r s : Root) → Decides (eq-value.it r s) (r ≡ s)
Decides-root True True = (λ e. refl, λ e. refl)
Decides-root (Leaf a) (Leaf b) = let d = Decides-leaf a b in ((λ e. ap (λ c. Leaf c) (d.0 e)), (λ e. let p : a ≡ b = cc in d.1 p))
Decides-root (Not f) (Not g) = let d = Decides-eqb f g in ((λ e. ap (λ k. Not k) (d.0 e)), (λ e. let p : f ≡ g = cc in d.1 p))
Decides-root (Binary a f g) (Binary b h k) =
    let d = Decides-and _ _ (Decides-op a b) (Decides-and _ _ (Decides-eqb f h) (Decides-eqb g k)) in (
      (λ e. let p = d.0 e in λ i. Binary (p.0 i) (p.1.0 i) (p.1.1 i)),
      (λ e. let p : a ≡ b = cc in let q : f ≡ h = cc in let r : g ≡ k = cc in d.1 (p, (q, r))),
    )
Decides-root (Exists n f) (Exists m g) =
    let d = Decides-and _ _ (Decides-eqb n m) (Decides-eqb f g) in (
      (λ e. let p = d.0 e in λ i. Exists (p.0 i) (p.1 i)),
      (λ e. let p : n ≡ m = cc in let q : f ≡ g = cc in d.1 (p, q)),
    )
Decides-root (Infinite n f) (Infinite m g) =
    let d = Decides-and _ _ (Decides-eqb n m) (Decides-eqb f g) in (
      (λ e. let p = d.0 e in λ i. Infinite (p.0 i) (p.1 i)),
      (λ e. let p : n ≡ m = cc in let q : f ≡ g = cc in d.1 (p, q)),
    )
Decides-root r s = (λ e. absurd (false≢true e), λ e. absurd (true≢false (ap (same_shape r) e)))
