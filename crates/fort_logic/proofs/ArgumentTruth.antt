-- A formula about an argument is true exactly where what it says of the argument's tree is: a ground term's own variable can only be that term.
use Rattle.std.specs.Prelude.{◌≡◌, ◌↔◌, ℕ, ◌+◌, ◌<◌, ◌≤◌, List, refl}
use Rattle.std.proofs.Common.{◌∙◌, sym, arith, subst}
use Rattle.fort_theory.specs.Trees.{Tree}
use Rattle.fort_theory.specs.Signatures.{IsGround}
use Rattle.fort_logic.specs.Formulas.{Name, Argument, Var, Ground}
use Rattle.fort_theory.specs.Structures.{Structure}
use Rattle.fort_theory.specs.Cores.{Core, Leaf, IsTerm, Binary, Exists}
use Rattle.fort_theory.specs.Logic.{And}
use Rattle.fort_theory.specs.CoreTruth.{Places, with_number}
use Rattle.fort_logic.specs.Translation.{number_in, term_at, about, about_both}
use Rattle.fort_theory.proofs.CorePlaces.{with_number-same, with_number-other, IsMetBy-stable}
use Rattle.fort_logic.proofs.Binders.{Met}

-- these places have the same trees for all numbers below n
abbrev pub AgreeBelow : ℕ → Places → Places → Type 0
AgreeBelow n v w = (k : ℕ) → k < n → w k ≡ v k

module _ (structure : Structure) (terms : List Tree) (scope : List Name) where
  -- the argument's tree: a variable has its number below n, and a term is ground
  abbrev pub StandsFor : ℕ → Places → Argument → Tree → Type 0
  StandsFor n v (Var x) t = (number_in scope x < n) × (v (number_in scope x) ≡ t)
  StandsFor n v (Ground k) t = IsGround structure.signature t × (term_at terms k ≡ t)

  StandsFor-more : (n m : ℕ) (v w : Places) (a : Argument) (t : Tree) → n ≤ m → AgreeBelow n v w → StandsFor n v a t → StandsFor m w a t
  StandsFor-more n m v w (Var x) t more agree is =
      let below = is.0 in
      (omega arith, agree (number_in scope x) is.0 ∙ is.1)
  StandsFor-more n m v w (Ground k) t more agree is = is

  -- some tree that is this one
  Met-is : (n : ℕ) (t : Tree) (c : Core) (v : Places) → IsGround structure.signature t
      → Met structure (Exists n (Binary And (Leaf (IsTerm n t)) c)) v ↔ Met structure c (with_number v n t)
  Met-is n t c v is_ground = (
    (λ h. IsMetBy-stable structure c (with_number v n t) (λ no. h (λ s k. k.1.0 (λ e.
        no (subst (λ u. Met structure c (with_number v n u)) (sym (with_number-same v n s) ∙ e) k.1.1))))),
    (λ h none. none t (is_ground, ((λ no. no (with_number-same v n t)), h))),
  )

  pub Met-about : (n : ℕ) (a : Argument) (make : ℕ → ℕ → Core) (v : Places) (t : Tree) (Q : Type 0) → StandsFor n v a t
      → ((m x : ℕ) (w : Places) → n ≤ m → x < m → AgreeBelow n v w → w x ≡ t → Met structure (make m x) w ↔ Q)
      → Met structure (about terms scope n a make) v ↔ Q
  Met-about n (Var x) make v t Q is says = says n (number_in scope x) v (omega arith) is.0 (λ k l. refl) is.1
  Met-about n (Ground k) make v t Q is says =
      let term : IsGround structure.signature (term_at terms k) = subst (IsGround structure.signature) (sym is.1) is.0 in
      let w = with_number v n (term_at terms k) in
      let bound = Met-is n (term_at terms k) (make (n + 1) n) v term in
      let said =
      says (n + 1) n w (omega arith) (omega arith) (λ i l. with_number-other v n (term_at terms k) i (λ e. omega arith))
      (with_number-same v n (term_at terms k) ∙ is.1) in
      ((λ h. said.0 (bound.0 h)), (λ q. bound.1 (said.1 q)))

  pub Met-about_both : (n : ℕ) (a b : Argument) (make : ℕ → ℕ → ℕ → Core) (v : Places) (s t : Tree) (Q : Type 0)
      → StandsFor n v a s → StandsFor n v b t
      → ((m x y : ℕ) (w : Places) → x < m → y < m → w x ≡ s → w y ≡ t → Met structure (make m x y) w ↔ Q)
      → Met structure (about_both terms scope n a b make) v ↔ Q
  Met-about_both n a b make v s t Q first second says =
      Met-about n a (λ m x. about terms scope m b (λ k y. make k x y)) v s Q first (λ m x w more below agree at_x.
      Met-about m b (λ k y. make k x y) w t Q (StandsFor-more n m v w b t more agree second) (λ k y u still under same at_y.
      says k x y u (omega arith) under (same x below ∙ at_x) at_y))
