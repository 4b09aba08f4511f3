-- Whether a tree is an instance of a pattern: by the roots, by the number of arguments, argument by argument.
use Rattle.std.proofs.Common.{◌≡◌, ◌↔◌, ℕ, Bool, true, false, not, nat_eq, IsTrue, List, [], ◌∷◌, length, refl, sym, ◌∙◌, eq-eqb, eqb-true, arith}
use Rattle.fort_theory.specs.Trees.{Tree, Node, trees}
use Rattle.fort_theory.specs.Patterns.{IsInstance, AreInstances}
use Rattle.fort_terms.specs.declared.sym.Sym.{Sym}
use Rattle.fort_terms.specs.declared.pattern.Pattern.{Pattern}
use Rattle.fort_terms.specs.declared.pattern.Pattern.TheVariants.{App}
use Rattle.fort_terms.specs.declared.pattern.Patterns.{Patterns}
use Rattle.fort_terms.specs.PatternView.{as_pattern, as_patterns}

-- a symbol with its arguments, the parts of the pattern and of the term being known by equations
pub IsInstance-App : (p : Pattern) (f : Sym) (args : Patterns) (ps : List Pattern) (term : Tree) (g : ℕ) (ts : List Tree) → p ≡ App f args
    → as_patterns ps ≡ args → Node g (trees ts) ≡ term → IsInstance (as_pattern p) term ↔ ((f.0 ≡ g) × AreInstances (as_patterns ps) (trees ts))
IsInstance-App p f args ps term g ts is_app is_args is_term = rw (is_app, ← is_args, ← is_term) (λ h. h, λ h. h)

pub AreInstances-long : (ps : List Pattern) (ts : List Tree) → AreInstances (as_patterns ps) (trees ts) → length ps ≡ length ts
AreInstances-long [] [] h = refl
AreInstances-long [] (t ∷ ts) h = absurd h
AreInstances-long (p ∷ ps) [] h = absurd h
AreInstances-long (p ∷ ps) (t ∷ ts) h = let e = AreInstances-long ps ts h.1 in omega arith

-- one pair of arguments less to look at, when the first is an instance
pub AreInstances-rest : (P : Type 0) (ps qs : List Pattern) (p : Pattern) (ts us : List Tree) (t : Tree) → ps ≡ p ∷ qs → ts ≡ t ∷ us
    → IsInstance (as_pattern p) t → P ↔ AreInstances (as_patterns ps) (trees ts) → P ↔ AreInstances (as_patterns qs) (trees us)
AreInstances-rest P ps qs p ts us t is_ps is_ts here all =
    let same = rw (is_ps, is_ts) at all in (λ h. (same.0 h).1, λ h. same.1 (here, h))

pub AreInstances-not : (P : Type 0) (ps qs : List Pattern) (p : Pattern) (ts us : List Tree) (t : Tree) → ps ≡ p ∷ qs → ts ≡ t ∷ us
    → (IsInstance (as_pattern p) t → ⊥) → P ↔ AreInstances (as_patterns ps) (trees ts) → P → ⊥
AreInstances-not P ps qs p ts us t is_ps is_ts here all h = let same = rw (is_ps, is_ts) at all in here ((same.0 h).0)

pub AreInstances-end : (P : Type 0) (ps : List Pattern) (ts : List Tree) → ps ≡ [] → ts ≡ [] → P ↔ AreInstances (as_patterns ps) (trees ts) → P
AreInstances-end P ps ts is_ps is_ts all = (rw (is_ps, is_ts) at all).1 tt

-- what the test for different roots says
pub roots_differ : (f g : ℕ) (b : Bool) → b ≡ not (nat_eq f g) → b ≡ true → f ≡ g → ⊥
roots_differ f g b is differ same = let h = rw (eq-eqb f g same) at is in cc

pub roots_same : (f g : ℕ) (b : Bool) → b ≡ not (nat_eq f g) → b ≡ false → f ≡ g
roots_same f g b is same = eqb-true f g (by (nat_eq f g) (sym is ∙ same))
  where
    by : (t : Bool) → not t ≡ false → t ≡ true
    by true e = refl
    by false e = cc

-- the answer "no"
pub answer_no : {P : Type 0} → (P → ⊥) → IsTrue false ↔ P
answer_no h = (λ e. cc, λ p. absurd (h p))

pub same_tails : {A B : Type 0} (xs ys : List A) (x : A) (us vs : List B) (u : B) → xs ≡ x ∷ ys → us ≡ u ∷ vs → length xs ≡ length us → length ys ≡ length vs
same_tails xs ys x us vs u is_xs is_us same = let e = rw (is_xs, is_us) at same in omega arith
