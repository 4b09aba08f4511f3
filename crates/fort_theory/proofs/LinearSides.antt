-- A result, which no proof cites: the instances of a linear side's pattern are the trees that some substitution makes of the side.
use Rattle.std.proofs.Common.{◌≡◌, ◌↔◌, ℕ, nat_eq, List, Contains, if◌then◌else◌, refl, sym, ap, ◌∙◌}
use Rattle.std.specs.List.{IsDistinct}
use Rattle.std.specs.Set.{is_member}
use Rattle.std.proofs.lemmas.Bool.{false_from_ne_true}
use Rattle.std.proofs.lemmas.Bool.Decides.{Decides-eqb}
use Rattle.std.proofs.lemmas.Map.Made.{is_member-Decides}
use Rattle.fort_theory.specs.Trees.{Tree, Trees, Node, Nil, More}
use Rattle.fort_theory.specs.Sides.{Side, Sides, Var, App, NoSide, MoreSides, variables, variables_among, Substitution, applied, all_applied, IsLinear}
use Rattle.fort_theory.proofs.Lists.{IsDistinct-append_left, IsDistinct-append_right, IsDistinct-append_apart}
use Rattle.fort_theory.proofs.PatternSteps.{applied-agree, all_applied-agree, IsInstance-from_applied}
use Rattle.fort_theory.specs.Patterns.{IsInstance, AreInstances, pattern_of, patterns_of}

-- one substitution at these variables, another one elsewhere
abbrev joined : List ℕ → Substitution → Substitution → Substitution
joined vs m n = λ v. if is_member nat_eq vs v then m v else n v

joined-at : (vs : List ℕ) (m n : Substitution) (v : ℕ) → Contains vs v → joined vs m n v ≡ m v
joined-at vs m n v c = ap (λ b. if b then m v else n v) ((is_member-Decides Decides-eqb vs v).1 c)

joined-elsewhere : (vs : List ℕ) (m n : Substitution) (v : ℕ) → (Contains vs v → ⊥) → joined vs m n v ≡ n v
joined-elsewhere vs m n v h =
    ap (λ b. if b then m v else n v) (false_from_ne_true _ (λ e. h ((is_member-Decides Decides-eqb vs v).0 e)))

-- a tree made of a side, and trees made of sides
abbrev IsMade : Side → Tree → Type 0
IsMade s t = (m : Substitution) × (t ≡ applied m s)

abbrev AreMade : Sides → Trees → Type 0
AreMade ss ts = (m : Substitution) × (ts ≡ all_applied m ss)

mutual
  IsMade-from_instance : (s : Side) (t : Tree) → IsLinear s → IsInstance (pattern_of s) t → IsMade s t
  IsMade-from_instance (Var v) t linear h = ((λ w. t), refl)
  IsMade-from_instance (App f ss) (Node g ts) linear h =
      let made = AreMade-from_instances ss ts linear h.1 in
      (made.0, ap (λ x. Node x ts) (sym h.0) ∙ ap (λ us. Node f us) made.1)

  AreMade-from_instances : (ss : Sides) (ts : Trees) → IsDistinct nat_eq (variables_among ss) → AreInstances (patterns_of ss) ts → AreMade ss ts
  AreMade-from_instances NoSide Nil linear h = ((λ w. Node 0 Nil), refl)
  AreMade-from_instances NoSide (More t ts) linear h = absurd h
  AreMade-from_instances (MoreSides s ss) Nil linear h = absurd h
  AreMade-from_instances (MoreSides s ss) (More t ts) linear h =
      let vs = variables s in
      let ws = variables_among ss in
      let first = IsMade-from_instance s t (IsDistinct-append_left nat_eq vs ws linear) h.0 in
      let rest = AreMade-from_instances ss ts (IsDistinct-append_right nat_eq vs ws linear) h.1 in
      let m : Substitution = joined vs first.0 rest.0 in
      let here = first.1 ∙ sym (applied-agree m first.0 s (joined-at vs first.0 rest.0)) in
      let there = rest.1 ∙ sym (all_applied-agree m rest.0 ss (λ v c. joined-elsewhere vs first.0 rest.0 v (λ d. IsDistinct-append_apart vs ws linear v d c))) in
      (m, ap (λ u. More u ts) here ∙ ap (λ us. More (applied m s) us) there)

pub IsInstance-exactly_applied : (s : Side) (t : Tree) → IsLinear s → IsInstance (pattern_of s) t ↔ ((m : Substitution) × (t ≡ applied m s))
IsInstance-exactly_applied s t linear =
    (IsMade-from_instance s t linear, λ (m, e). IsInstance-from_applied m s t e)
