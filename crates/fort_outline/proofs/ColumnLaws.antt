-- The columns of a part by those of its operands.
use Rattle.std.specs.Prelude.{◌≡◌, ◌↔◌, ◌⊎◌, ◌==◌, ℕ, ◌<◌, not, filter, List, [], ◌∷◌, ◌++◌, length, get_or, vec_items, Contains, Result, Ok, Err, IfOk, refl}
use Rattle.std.specs.List.Sorted.{IsStrictlyIncreasing}
use Rattle.std.specs.declared.alloc.Global.{Global}
use Rattle.std.specs.declared.vec.Vec.{Vec}
use Rattle.std.proofs.Common.{ap, sym, ◌∙◌, subst, ⊎_elim, inl, inr}
use Rattle.fort_theory.specs.Trees.{Tree}
use Rattle.fort_theory.specs.Cores as core
use Rattle.fort_theory.specs.Cores.{Core}
use Rattle.fort_theory.proofs.ColumnLaws.{AreColumns-Normal, AreColumns-IsTerm, AreColumns-Related, AreColumns-InContext, AreColumns-two, AreColumns-bound}
use Rattle.fort_relations.specs.declared.relation.Rel.{Rel}
use Rattle.fort_relations.specs.declared.rex.Rex.{Rex}
use Rattle.fort_relations.specs.declared.holes.Holes.{Holes}
use Rattle.fort_relations.specs.declared.holes.Place.{Place}
use Rattle.fort_relations.specs.RelView.{as_rel}
use Rattle.fort_relations.specs.HolesView.{as_hole_number, as_hole_place}
use Rattle.fort_relations.specs.RexView.{as_expression}
use Rattle.fort_connectives.specs.declared.connective.Op.{Op}
use Rattle.fort_connectives.specs.ConnectiveView.{connective_of}
use Rattle.fort_parts.specs.PartColumns.{columns_of}
use Rattle.fort_parts.proofs.PartColumnLaws.{AreColumns-columns_of, columns_of-unique}
use Rattle.fort_outline.specs.declared.leaf.Leaf.{Leaf}
use Rattle.fort_outline.specs.declared.leaf.Leaf.TheVariants.{Related, InContext, Normal, IsTerm}
use Rattle.fort_outline.specs.LeafView.{as_atom}
use Rattle.fort_outline.specs.declared.root.Root.{Root}
use Rattle.fort_outline.specs.declared.root.Root.TheVariants.{Binary, Exists, Infinite}
use Rattle.fort_outline.specs.Roots.{root_core, HasOperandsBelow}
use Rattle.fort_outline.specs.Outlines.{AreColumnsOf}

-- two facts of what was made
pub both_ok : {V E : Type 0} (r : Result V E) (P Q R : V → Type 0) → ((v : V) → P v → Q v → R v) → IfOk r P → IfOk r Q → IfOk r R
both_ok (Ok v) P Q R f p q = f v p q
both_ok (Err e) P Q R f p q = tt

pub columns_pair : (leaf : Leaf) (x y : ℕ) (columns : List ℕ)
    → ((rel : Rel) × (index : ℕ) × (leaf ≡ Related rel index x y)) ⊎ ((e : Rex) × (holes : Holes) × (place : Place) × (leaf ≡ InContext e holes place x y))
    → IsStrictlyIncreasing columns → ((n : ℕ) → Contains columns n ↔ Contains (x ∷ y ∷ []) n) → columns ≡ columns_of (core.Leaf (as_atom leaf))
columns_pair leaf x y columns (inl (rel, index, e)) rise same =
    subst (λ l. columns ≡ columns_of (core.Leaf (as_atom l))) (sym e)
    (columns_of-unique (core.Leaf (core.Related (as_rel rel) index x y)) columns (AreColumns-Related (as_rel rel) index x y columns rise same))
columns_pair leaf x y columns (inr (r, holes, place, e)) rise same =
    subst (λ l. columns ≡ columns_of (core.Leaf (as_atom l))) (sym e)
    (columns_of-unique (core.Leaf (core.InContext (as_expression r) (as_hole_number holes) (as_hole_place place) x y)) columns
    (AreColumns-InContext (as_expression r) (as_hole_number holes) (as_hole_place place) x y columns rise same))

pub columns_variable : (leaf : Leaf) (x : ℕ) → ((index : ℕ) × (leaf ≡ Normal index x)) ⊎ ((t : Tree) × (leaf ≡ IsTerm x t))
    → x ∷ [] ≡ columns_of (core.Leaf (as_atom leaf))
columns_variable leaf x (inl (index, e)) =
    subst (λ l. x ∷ [] ≡ columns_of (core.Leaf (as_atom l))) (sym e) (columns_of-unique (core.Leaf (core.Normal index x)) (x ∷ []) (AreColumns-Normal index x))
columns_variable leaf x (inr (t, e)) =
    subst (λ l. x ∷ [] ≡ columns_of (core.Leaf (as_atom l))) (sym e) (columns_of-unique (core.Leaf (core.IsTerm x t)) (x ∷ []) (AreColumns-IsTerm x t))

-- the list of an operand
pub operand_columns : (parts : List Core) (before : List (Vec ℕ Global)) (f : ℕ) (own : Vec ℕ Global) (xs : List ℕ) → AreColumnsOf parts before → f < length before
    → own ≡ get_or before f own → xs ≡ vec_items own → xs ≡ columns_of (get_or parts f core.True)
operand_columns parts before f own xs are l e is = is ∙ (ap (λ v. vec_items v) e ∙ are f own l)

-- a root of one operand, or of two
pub over_one : (k : ℕ) (root : Root) (n f : ℕ) → (root ≡ Exists n f) ⊎ (root ≡ Infinite n f) → HasOperandsBelow k root → f < k
over_one k root n f is over = ⊎_elim (λ e. subst (HasOperandsBelow k) e over) (λ e. subst (HasOperandsBelow k) e over) is

pub columns_two : (parts : List Core) (op : Op) (f g : ℕ) (xs ys columns : List ℕ) → xs ≡ columns_of (get_or parts f core.True)
    → ys ≡ columns_of (get_or parts g core.True) → IsStrictlyIncreasing columns → ((n : ℕ) → Contains columns n ↔ Contains (xs ++ ys) n)
    → columns ≡ columns_of (root_core parts (Binary op f g))
columns_two parts op f g xs ys columns first second rise same =
    let F = get_or parts f core.True in
    let G = get_or parts g core.True in
    let both : (n : ℕ) → Contains columns n ↔ Contains (columns_of F ++ columns_of G) n =
    λ n. subst (λ zs. Contains columns n ↔ Contains (columns_of F ++ zs) n) second (subst (λ zs. Contains columns n ↔ Contains (zs ++ ys) n) first (same n)) in
    columns_of-unique (core.Binary (connective_of op) F G) columns
    (AreColumns-two (core.Binary (connective_of op) F G) F G (columns_of F) (columns_of G) columns (λ n. refl) (AreColumns-columns_of F) (AreColumns-columns_of G) rise both)

pub columns_bound : (parts : List Core) (root : Root) (n f : ℕ) (xs columns : List ℕ) → (root ≡ Exists n f) ⊎ (root ≡ Infinite n f)
    → xs ≡ columns_of (get_or parts f core.True) → columns ≡ filter (λ m. not (n == m)) xs → columns ≡ columns_of (root_core parts root)
columns_bound parts root n f xs columns is body kept =
    let F = get_or parts f core.True in
    let own : columns ≡ filter (λ m. not (n == m)) (columns_of F) = kept ∙ ap (filter (λ (m : ℕ). not (n == m))) body in
    own
    ∙ ⊎_elim
    (λ e. subst (λ r. filter (λ m. not (n == m)) (columns_of F) ≡ columns_of (root_core parts r)) (sym e)
    (columns_of-unique (core.Exists n F) (filter (λ m. not (n == m)) (columns_of F)) (AreColumns-bound (core.Exists n F) F n (columns_of F) (λ m. refl) (AreColumns-columns_of F))))
    (λ e. subst (λ r. filter (λ m. not (n == m)) (columns_of F) ≡ columns_of (root_core parts r)) (sym e)
    (columns_of-unique (core.Infinite n F) (filter (λ m. not (n == m)) (columns_of F)) (AreColumns-bound (core.Infinite n F) F n (columns_of F) (λ m. refl) (AreColumns-columns_of F))))
    is
