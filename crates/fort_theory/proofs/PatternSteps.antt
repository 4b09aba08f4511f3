-- A linear and variable-separated rule and its two patterns have the same root steps.
use Rattle.std.specs.Prelude.{◌≡◌, ◌≢◌, ◌↔◌, ℕ, List, map, All, Contains, nat_eq, if◌then◌else◌, true, false, refl}
use Rattle.std.specs.List.{IsDistinct}
use Rattle.std.proofs.Common.{sym, ap, subst, ◌∙◌, arith, eq-eqb, ne_eqb}
use Rattle.std.proofs.lemmas.List.Elements.{All-contains, Contains-append_left, Contains-append_right}
use Rattle.fort_theory.specs.Trees.{Tree, Trees, Node, Nil, More}
use Rattle.fort_theory.specs.Signatures.{Signature, IsGround, AreGround, HasConstant}
use Rattle.fort_theory.specs.Sides.{Side, Sides, Var, App, NoSide, MoreSides, variables, variables_among, Substitution, applied, all_applied, Rule, IsLinear, IsLinearSeparated}
use Rattle.fort_theory.specs.Patterns.{IsInstance, AreInstances, pattern_of, patterns_of, pattern_pair}
use Rattle.fort_theory.specs.Rewriting.{RootStep}
use Rattle.fort_theory.specs.PatternSteps.{PatternStep}
use Rattle.fort_theory.proofs.Lists.{IsDistinct-append_left, IsDistinct-append_right, IsDistinct-append_apart, Contains-map, Contains-map_from}

-- a side with trees for its variables is an instance of its pattern
mutual
  pub IsInstance-applied : (m : Substitution) (s : Side) → IsInstance (pattern_of s) (applied m s)
  IsInstance-applied m (Var v) = tt
  IsInstance-applied m (App f ss) = (refl, AreInstances-all_applied m ss)

  pub AreInstances-all_applied : (m : Substitution) (ss : Sides) → AreInstances (patterns_of ss) (all_applied m ss)
  AreInstances-all_applied m NoSide = tt
  AreInstances-all_applied m (MoreSides s ss) = (IsInstance-applied m s, AreInstances-all_applied m ss)

-- two substitutions agree at these variables
abbrev pub AgreeAt : List ℕ → Substitution → Substitution → Type 0
AgreeAt vs m n = (v : ℕ) → Contains vs v → m v ≡ n v

mutual
  pub applied-agree : (m n : Substitution) (s : Side) → AgreeAt (variables s) m n → applied m s ≡ applied n s
  applied-agree m n (Var v) h = h v (0, omega arith, refl)
  applied-agree m n (App f ss) h = ap (λ ts. Node f ts) (all_applied-agree m n ss h)

  pub all_applied-agree : (m n : Substitution) (ss : Sides) → AgreeAt (variables_among ss) m n → all_applied m ss ≡ all_applied n ss
  all_applied-agree m n NoSide h = refl
  all_applied-agree m n (MoreSides s ss) h =
      ap (λ t. More t (all_applied m ss)) (applied-agree m n s (λ v c. h v (Contains-append_left (variables s) (variables_among ss) v c)))
      ∙ ap (λ ts. More (applied n s) ts) (all_applied-agree m n ss (λ v c. h v (Contains-append_right (variables s) (variables_among ss) v c)))

-- the substitution with another tree for one variable
abbrev pub with_variable : Substitution → ℕ → Tree → Substitution
with_variable m v t = λ w. if nat_eq w v then t else m w

with_variable-same : (m : Substitution) (v : ℕ) (t : Tree) → with_variable m v t v ≡ t
with_variable-same m v t = ap (λ b. if b then t else m v) (eq-eqb v v refl)

with_variable-other : (m : Substitution) (v : ℕ) (t : Tree) (w : ℕ) → w ≢ v → with_variable m v t w ≡ m w
with_variable-other m v t w h = ap (λ b. if b then t else m w) (ne_eqb w v h)

-- the substitution with the subtrees of an instance for the variables of a side
abbrev mutual
  pub matched : Side → Tree → Substitution → Substitution
  matched (Var v) t m = with_variable m v t
  matched (App f ss) (Node g ts) m = all_matched ss ts m

  pub all_matched : Sides → Trees → Substitution → Substitution
  all_matched NoSide ts m = m
  all_matched (MoreSides s ss) Nil m = m
  all_matched (MoreSides s ss) (More t ts) m = all_matched ss ts (matched s t m)

-- it is as it was outside the side's variables
mutual
  pub matched-other : (s : Side) (t : Tree) (m : Substitution) (w : ℕ) → (Contains (variables s) w → ⊥) → matched s t m w ≡ m w
  matched-other (Var v) t m w h = with_variable-other m v t w (λ e. h (0, omega arith, sym e))
  matched-other (App f ss) (Node g ts) m w h = all_matched-other ss ts m w h

  pub all_matched-other : (ss : Sides) (ts : Trees) (m : Substitution) (w : ℕ) → (Contains (variables_among ss) w → ⊥) → all_matched ss ts m w ≡ m w
  all_matched-other NoSide ts m w h = refl
  all_matched-other (MoreSides s ss) Nil m w h = refl
  all_matched-other (MoreSides s ss) (More t ts) m w h =
      all_matched-other ss ts (matched s t m) w (λ c. h (Contains-append_right (variables s) (variables_among ss) w c))
      ∙ matched-other s t m w (λ c. h (Contains-append_left (variables s) (variables_among ss) w c))

-- each variable has a ground term
abbrev pub IsGroundSubstitution : Signature → Substitution → Type 0
IsGroundSubstitution signature m = (v : ℕ) → IsGround signature (m v)

with_variable-ground : (signature : Signature) (m : Substitution) (v : ℕ) (t : Tree) → IsGroundSubstitution signature m → IsGround signature t → IsGroundSubstitution signature (with_variable m v t)
with_variable-ground signature m v t h g w =
    elim (nat_eq w v) as (λ b. IsGround signature (if b then t else m w)) [ true ↦ g | false ↦ h w ]

mutual
  pub matched-ground : (signature : Signature) (s : Side) (t : Tree) (m : Substitution) → IsGroundSubstitution signature m → IsGround signature t → IsGroundSubstitution signature (matched s t m)
  matched-ground signature (Var v) t m h g = with_variable-ground signature m v t h g
  matched-ground signature (App f ss) (Node x ts) m h g = all_matched-ground signature ss ts m h g.1

  pub all_matched-ground : (signature : Signature) (ss : Sides) (ts : Trees) (m : Substitution) → IsGroundSubstitution signature m → AreGround signature ts → IsGroundSubstitution signature (all_matched ss ts m)
  all_matched-ground signature NoSide ts m h g = h
  all_matched-ground signature (MoreSides s ss) Nil m h g = h
  all_matched-ground signature (MoreSides s ss) (More t ts) m h g =
      all_matched-ground signature ss ts (matched s t m) (matched-ground signature s t m h g.0) g.1

-- it gives the instance back, where no variable stands twice
mutual
  pub applied-matched : (s : Side) (t : Tree) (m : Substitution) → IsLinear s → IsInstance (pattern_of s) t → applied (matched s t m) s ≡ t
  applied-matched (Var v) t m linear h = with_variable-same m v t
  applied-matched (App f ss) (Node g ts) m linear h =
      ap (λ us. Node f us) (all_applied-matched ss ts m linear h.1) ∙ ap (λ x. Node x ts) h.0

  pub all_applied-matched : (ss : Sides) (ts : Trees) (m : Substitution) → IsDistinct nat_eq (variables_among ss) → AreInstances (patterns_of ss) ts → all_applied (all_matched ss ts m) ss ≡ ts
  all_applied-matched NoSide Nil m linear h = refl
  all_applied-matched NoSide (More t ts) m linear h = absurd h
  all_applied-matched (MoreSides s ss) Nil m linear h = absurd h
  all_applied-matched (MoreSides s ss) (More t ts) m linear h =
      let vs = variables s in
      let ws = variables_among ss in
      let n = matched s t m in
      let kept : AgreeAt vs (all_matched ss ts n) n = λ v c. all_matched-other ss ts n v (λ d. IsDistinct-append_apart vs ws linear v c d) in
      ap (λ u. More u (all_applied (all_matched ss ts n) ss))
      (applied-agree (all_matched ss ts n) n s kept ∙ applied-matched s t m (IsDistinct-append_left nat_eq vs ws linear) h.0)
      ∙ ap (λ us. More t us) (all_applied-matched ss ts n (IsDistinct-append_right nat_eq vs ws linear) h.1)

-- one substitution by ground terms makes s of the left side and t of the right one
pub record MakesBoth (signature : Signature) (rule : Rule) (s t : Tree) : Type 0 where
  pub substitution : Substitution
  pub by_ground : (v : ℕ) → IsGround signature (substitution v)
  pub left : s ≡ applied substitution rule.left
  pub right : t ≡ applied substitution rule.right

pub IsInstance-from_applied : (m : Substitution) (s : Side) (t : Tree) → t ≡ applied m s → IsInstance (pattern_of s) t
IsInstance-from_applied m s t e = subst (λ u. IsInstance (pattern_of s) u) (sym e) (IsInstance-applied m s)

-- a ground instance of a linear side's pattern comes from some substitution by ground terms
pub applied-from_IsInstance : (signature : Signature) (s : Side) (t : Tree) → HasConstant signature → IsLinear s → IsGround signature t → IsInstance (pattern_of s) t
    → (m : Substitution) × IsGroundSubstitution signature m × (t ≡ applied m s)
applied-from_IsInstance signature s t constant linear g h =
    let base : Substitution = λ v. Node constant.0 Nil in
    (matched s t base, matched-ground signature s t base (λ v. (constant.1, tt)) g, sym (applied-matched s t base linear h))

pub MakesBoth-from_instances : (signature : Signature) (rule : Rule) (s t : Tree) → HasConstant signature → IsLinearSeparated rule → IsGround signature s → IsGround signature t
    → IsInstance (pattern_of rule.left) s → IsInstance (pattern_of rule.right) t → MakesBoth signature rule s t
MakesBoth-from_instances signature rule s t constant apart gs gt hs ht =
    let base : Substitution = λ v. Node constant.0 Nil in
    let m = matched rule.left s base in
    let n = matched rule.right t m in
    let kept : AgreeAt (variables rule.left) m n = λ v c. sym (matched-other rule.right t m v (λ d. apart.separated v c d)) in
    record {
      substitution = n;
      by_ground = matched-ground signature rule.right t m (matched-ground signature rule.left s base (λ v. (constant.1, tt)) gs) gt;
      left = sym (applied-matched rule.left s base apart.left hs) ∙ applied-agree m n rule.left kept;
      right = sym (applied-matched rule.right t m apart.right ht);
    }

-- the same for one rule, in both directions
pub MakesBoth-instances : (signature : Signature) (rule : Rule) (s t : Tree) → HasConstant signature → IsLinearSeparated rule → IsGround signature s → IsGround signature t
    → MakesBoth signature rule s t ↔ (IsInstance (pattern_of rule.left) s × IsInstance (pattern_of rule.right) t)
MakesBoth-instances signature rule s t constant apart gs gt = (
  (λ h. (IsInstance-from_applied h.substitution rule.left s h.left, IsInstance-from_applied h.substitution rule.right t h.right)),
  (λ w. MakesBoth-from_instances signature rule s t constant apart gs gt w.0 w.1),
)

-- whatever the rules are
pub PatternStep-from_RootStep : (signature : Signature) (rules : List Rule) (s t : Tree) → RootStep signature rules s t → PatternStep signature (map pattern_pair rules) s t
PatternStep-from_RootStep signature rules s t h = record {
  pair = pattern_pair h.rule;
  among = Contains-map pattern_pair rules h.rule h.among;
  left = IsInstance-from_applied h.substitution h.rule.left s h.left;
  right = IsInstance-from_applied h.substitution h.rule.right t h.right;
  left_grounded = h.left_grounded;
  right_grounded = h.right_grounded;
}

pub RootStep-from_PatternStep : (signature : Signature) (rules : List Rule) → HasConstant signature → All IsLinearSeparated rules
    → (s t : Tree) → PatternStep signature (map pattern_pair rules) s t → RootStep signature rules s t
RootStep-from_PatternStep signature rules constant apart s t h =
    let found = Contains-map_from pattern_pair rules h.pair h.among in
    let made : MakesBoth signature found.0 s t =
    MakesBoth-from_instances signature found.0 s t constant (All-contains IsLinearSeparated rules found.0 apart found.1) h.left_grounded h.right_grounded
    (subst (λ p. IsInstance p.0 s) (sym found.2) h.left)
    (subst (λ p. IsInstance p.1 t) (sym found.2) h.right)
    in
    record {
      rule = found.0;
      among = found.1;
      substitution = made.substitution;
      by_ground = made.by_ground;
      left = made.left;
      right = made.right;
      left_grounded = h.left_grounded;
      right_grounded = h.right_grounded;
    }

pub RootStep-PatternStep : (signature : Signature) (rules : List Rule) → HasConstant signature → All IsLinearSeparated rules
    → (s t : Tree) → RootStep signature rules s t ↔ PatternStep signature (map pattern_pair rules) s t
RootStep-PatternStep signature rules constant apart s t =
    (PatternStep-from_RootStep signature rules s t, RootStep-from_PatternStep signature rules constant apart s t)
