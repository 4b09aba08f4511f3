-- Terms and steps over a signature without functions of arguments: the terms are its constants, and each step is a root step.
use Rattle.std.specs.Prelude.{◌≡◌, ◌↔◌, ℕ, zero, suc, ◌<◌, ◌⊎◌, List, [], ◌∷◌, length, All, Some, refl}
use Rattle.std.proofs.Common.{sym, ap, subst, ◌∙◌, arith, inl, inr}
use Rattle.std.proofs.lemmas.List.Elements.{All-head, All-tail}
use Rattle.fort_theory.specs.Trees.{Tree, Trees, Node, Nil, More, tree_count}
use Rattle.fort_theory.specs.Signatures.{Symbol, Signature, arity_of, IsGround}
use Rattle.fort_theory.specs.Rewriting.{Relation, RewritesAt, Rewrites, RewritesBelow, RewritesInParallel, AtRoot, Inside, End, IsNormalForm}
use Rattle.fort_theory.proofs.Lists.{none-some, some-injective}

-- every symbol is a constant
abbrev pub AllConstants : Signature → Type 0
AllConstants signature = All (λ (s : Symbol). s.arity ≡ 0) signature

-- a symbol that has an arity is one of the signature
pub lt-from_arity_of : (signature : Signature) (f n : ℕ) → arity_of signature f ≡ Some n → f < length signature
lt-from_arity_of [] f n h = absurd (none-some h)
lt-from_arity_of (s ∷ signature) zero n h = omega arith
lt-from_arity_of (s ∷ signature) (suc f) n h =
    let below : f < length signature = lt-from_arity_of signature f n h in omega arith

pub zero-from_arity_of : (signature : Signature) (f n : ℕ) → AllConstants signature → arity_of signature f ≡ Some n → n ≡ 0
zero-from_arity_of [] f n constants h = absurd (none-some h)
zero-from_arity_of (s ∷ signature) zero n constants h =
    sym (some-injective h) ∙ All-head (λ (x : Symbol). x.arity ≡ 0) s signature constants
zero-from_arity_of (s ∷ signature) (suc f) n constants h =
    zero-from_arity_of signature f n (All-tail (λ (x : Symbol). x.arity ≡ 0) s signature constants) h

pub arity_of-constant : (signature : Signature) (f : ℕ) → AllConstants signature → f < length signature → arity_of signature f ≡ Some 0
arity_of-constant [] f constants h = absurd (omega arith)
arity_of-constant (s ∷ signature) zero constants h = ap Some (All-head (λ (x : Symbol). x.arity ≡ 0) s signature constants)
arity_of-constant (s ∷ signature) (suc f) constants h =
    arity_of-constant signature f (All-tail (λ (x : Symbol). x.arity ≡ 0) s signature constants) (omega arith)

-- the constant with this number
abbrev pub constant : ℕ → Tree
constant f = Node f Nil

pub IsGround-constant : (signature : Signature) (f : ℕ) → AllConstants signature → f < length signature → IsGround signature (constant f)
IsGround-constant signature f constants h = (arity_of-constant signature f constants h, tt)

-- a ground term is a constant of the signature
pub constant-from_IsGround : (signature : Signature) (t : Tree) → AllConstants signature → IsGround signature t → (f : ℕ) × (f < length signature) × (t ≡ constant f)
constant-from_IsGround signature (Node f Nil) constants h = (f, lt-from_arity_of signature f 0 h.0, refl)
constant-from_IsGround signature (Node f (More t ts)) constants h =
    absurd (let none : suc (tree_count ts) ≡ 0 = zero-from_arity_of signature f (suc (tree_count ts)) constants h.0 in omega arith)

-- a term without children has the empty position alone
root-from_RewritesAt_constant : (root : Relation) (f : ℕ) (t : Tree) (position : List ℕ) → RewritesAt root position (constant f) t → root (constant f) t
root-from_RewritesAt_constant root f t [] h =
    subst (λ x. root (constant f) x) (sym h.result) (subst (λ x. root x h.contractum) (sym (some-injective h.stands)) h.contracts)
root-from_RewritesAt_constant root f t (i ∷ p) h = absurd (none-some h.stands)

-- a root step is a step, of any term
pub Rewrites-from_root : (root : Relation) (s t : Tree) → root s t → Rewrites root s t
Rewrites-from_root root s t h = ([], record { redex = s; contractum = t; stands = refl; contracts = h; result = refl })

pub root-from_Rewrites_constant : (root : Relation) (f : ℕ) (t : Tree) → Rewrites root (constant f) t → root (constant f) t
root-from_Rewrites_constant root f t h = root-from_RewritesAt_constant root f t h.0 h.1

pub Rewrites-constant : (root : Relation) (f : ℕ) (t : Tree) → Rewrites root (constant f) t ↔ root (constant f) t
Rewrites-constant root f t = (root-from_Rewrites_constant root f t, Rewrites-from_root root (constant f) t)

pub IsNormalForm-constant : (root : Relation) (f : ℕ) → IsNormalForm root (constant f) ↔ ((t : Tree) → root (constant f) t → ⊥)
IsNormalForm-constant root f = (
  (λ normal t h. normal t (Rewrites-from_root root (constant f) t h)),
  (λ none t h. none t (root-from_Rewrites_constant root f t h)),
)

RewritesAt_below-constant : (root : Relation) (f : ℕ) (t : Tree) (position : List ℕ) → (position ≡ [] → ⊥) → RewritesAt root position (constant f) t → ⊥
RewritesAt_below-constant root f t [] below h = below refl
RewritesAt_below-constant root f t (i ∷ p) below h = none-some h.stands

pub RewritesBelow-constant : (root : Relation) (f : ℕ) (t : Tree) → RewritesBelow root (constant f) t → ⊥
RewritesBelow-constant root f t h = RewritesAt_below-constant root f t h.0 h.1 h.2

RewritesInParallel-constant_cases : (root : Relation) (f g : ℕ) (ts : Trees) → RewritesInParallel root (constant f) (Node g ts)
    → root (constant f) (Node g ts) ⊎ (constant f ≡ Node g ts)
RewritesInParallel-constant_cases root f g ts (AtRoot h) = inl h
RewritesInParallel-constant_cases root f g ts (Inside End) = inr refl

-- a parallel step from a constant is a root step, or none
pub RewritesInParallel-constant : (root : Relation) (f : ℕ) (t : Tree) → RewritesInParallel root (constant f) t ↔ (root (constant f) t ⊎ (constant f ≡ t))
RewritesInParallel-constant root f (Node g ts) = (
  RewritesInParallel-constant_cases root f g ts,
  (λ w. elim w [ inl h ↦ AtRoot h | inr e ↦ subst (λ x. RewritesInParallel root (constant f) x) e (Inside End) ]),
)
