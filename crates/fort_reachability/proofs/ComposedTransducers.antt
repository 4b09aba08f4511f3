-- A transducer behind another relates what the two compose to, and its automata take a ground term to the states of what it leads to.
use Rattle.std.specs.Prelude.{◌≡◌, ◌↔◌, ◌⊎◌, List, [], ◌∷◌}
use Rattle.std.proofs.Common.{subst, inl, inr}
use Rattle.fort_theory.specs.Trees.{Tree}
use Rattle.fort_theory.specs.Signatures.{Signature, IsGround}
use Rattle.fort_theory.specs.Rewriting.{Relation, Rewrites, Path, RewritesInParallel}
use Rattle.fort_theory.proofs.GroundSteps.{RewritesInParallel-keeps_ground, RewritesInParallel-comes_from_ground}
use Rattle.fort_reachability.specs.TreeAutomata.{Automaton, Takes, FitsAutomaton}
use Rattle.fort_reachability.specs.Transducers.{Transducer, Transduces, FitsTransducer}
use Rattle.fort_reachability.specs.ClosureTables.{InClosure}
use Rattle.fort_reachability.proofs.TransducersLaws.{RelatesGround-Transduces}
use Rattle.fort_reachability.proofs.Reductions.{Reduces-refl}
use Rattle.fort_reachability.proofs.ClosureTableExact.{InClosure-Reaches}
use Rattle.fort_theory.specs.Expressions.{Composes}
use Rattle.fort_reachability.specs.TransducerParts.{inverse_of, meeting, ComposedCrossing, composed_left, ComposedPair, composed}
use Rattle.fort_reachability.specs.Compositions.{LeadsInto, LeadsFrom, IsComposition}
use Rattle.fort_reachability.proofs.ParallelSteps.{RewritesInParallel-turned}
use Rattle.fort_reachability.proofs.JoinedAutomata.{FitsAutomaton-joined, Takes-joined_first_iff, Takes-joined_across}

-- where no root relation holds, a reduction has no step
path-without_steps : (root : Relation) → ((s t : Tree) → root s t → ⊥) → (s : Tree) (us : List Tree) (t : Tree) → Path (Rewrites root) s us t → s ≡ t
path-without_steps root none s [] t h = h
path-without_steps root none s (u ∷ us) t h = absurd (none h.0.1.redex h.0.1.contractum h.0.1.contracts)

-- some ground term is taken to a state of each
pub record SharesTerm {A B : Type 0} (signature : Signature) (first : Automaton A) (second : Automaton B) (p : A) (q : B) : Type 0 where
  pub term : Tree
  pub grounded : IsGround signature term
  pub first_taken : Takes first term p
  pub second_taken : Takes second term q

module _ {A B : Type 0} (signature : Signature) (first : Automaton A) (second : Automaton B) (fits : FitsTransducer signature (meeting first second)) where
  shares-from_closure : (p : A) (q : B) → InClosure (meeting first second) p q → SharesTerm signature first second p q
  shares-from_closure p q h =
      let k = (InClosure-Reaches signature (meeting first second) fits p q).0 h in
      let e : k.start ≡ k.end = path-without_steps (Transduces signature (meeting first second)) (λ s t one. one.paired) k.start k.reduces.0 k.end k.reduces.1 in
      record {
        term = k.end;
        grounded = k.end_grounded;
        first_taken = subst (λ x. Takes first x p) e k.start_taken;
        second_taken = k.end_taken;
      }

  closure-from_shares : (p : A) (q : B) → SharesTerm signature first second p q → InClosure (meeting first second) p q
  closure-from_shares p q h = (InClosure-Reaches signature (meeting first second) fits p q).1 (record {
    start = h.term;
    end = h.term;
    start_taken = h.first_taken;
    end_taken = h.second_taken;
    start_grounded = h.grounded;
    end_grounded = h.grounded;
    reduces = Reduces-refl (Transduces signature (meeting first second)) h.term;
  })

  -- the closure table of two automata without pairs has the states that share a ground term
  pub InClosure-SharesTerm : (p : A) (q : B) → InClosure (meeting first second) p q ↔ SharesTerm signature first second p q
  InClosure-SharesTerm p q = (shares-from_closure p q, closure-from_shares p q)

-- one table serves both sides
pub InClosure-turned : {A B : Type 0} (signature : Signature) (first : Automaton A) (second : Automaton B) → FitsTransducer signature (meeting first second)
    → (p : A) (q : B) → InClosure (meeting first second) p q ↔ InClosure (meeting second first) q p
InClosure-turned signature first second fits p q =
    let back : FitsTransducer signature (meeting second first) = record { constant = fits.constant; left = fits.right; right = fits.left } in
    let here = InClosure-SharesTerm signature first second fits p q in
    let there = InClosure-SharesTerm signature second first back q p in (
      (λ h. let w = here.0 h in there.1 (record { term = w.term; grounded = w.grounded; first_taken = w.second_taken; second_taken = w.first_taken })),
      (λ h. let w = there.0 h in here.1 (record { term = w.term; grounded = w.grounded; first_taken = w.second_taken; second_taken = w.first_taken })),
    )

pub Transduces-turned : {L R : Type 0} (signature : Signature) (transducer : Transducer L R) (s t : Tree) → Transduces signature (inverse_of transducer) s t
    → Transduces signature transducer t s
Transduces-turned signature transducer s t h = record {
  left_state = h.right_state;
  right_state = h.left_state;
  paired = h.paired;
  left_taken = h.right_taken;
  right_taken = h.left_taken;
  left_grounded = h.right_grounded;
  right_grounded = h.left_grounded;
}

pub Transduces-inverse : {L R : Type 0} (signature : Signature) (transducer : Transducer L R) (s t : Tree) → Transduces signature (inverse_of transducer) s t
    ↔ Transduces signature transducer t s
Transduces-inverse signature transducer s t = (Transduces-turned signature transducer s t, Transduces-turned signature (inverse_of transducer) t s)

pub FitsTransducer-inverse : {L R : Type 0} (signature : Signature) (transducer : Transducer L R) → FitsTransducer signature transducer
    → FitsTransducer signature (inverse_of transducer)
FitsTransducer-inverse signature transducer fits = record { constant = fits.constant; left = fits.right; right = fits.left }

module _ {L R M S : Type 0} (signature : Signature) (first : Transducer L R) (second : Transducer M S)
    (fits_first : FitsTransducer signature first) (fits_second : FitsTransducer signature second) where
  fits_meeting : FitsTransducer signature (meeting first.right second.left)
  fits_meeting = record { constant = fits_first.constant; left = fits_second.left; right = fits_first.right }

  step-of_crossing : (s : Tree) (a : L) (q : M) → IsGround signature s → Takes first.left s a → ComposedCrossing first second a q
      → (u : Tree) × Transduces signature first s u × Takes second.left u q
  step-of_crossing s a q grounded h c =
      let k = (InClosure-SharesTerm signature first.right second.left fits_meeting c.0 q).0 c.2 in
      let one : Transduces signature first s k.term = record {
        left_state = a;
        right_state = c.0;
        paired = c.1;
        left_taken = h;
        right_taken = k.first_taken;
        left_grounded = grounded;
        right_grounded = k.grounded;
      } in
      (k.term, one, k.second_taken)

  crossing-of_step : (s u : Tree) (q : M) → Transduces signature first s u → Takes second.left u q
      → (a : L) × Takes first.left s a × ComposedCrossing first second a q
  crossing-of_step s u q one h = (
    one.left_state,
    one.left_taken,
    (
      one.right_state,
      one.paired,
      (InClosure-SharesTerm signature first.right second.left fits_meeting one.right_state q).1
          (record { term = u; grounded = one.right_grounded; first_taken = one.right_taken; second_taken = h }),
    ),
  )

  pub Takes-composed_left : (s : Tree) → IsGround signature s → (q : M)
      → Takes (composed_left first second) s (inr q) ↔ LeadsInto (Transduces signature first) second.left s q
  Takes-composed_left =
      Takes-joined_across signature first.left second.left (ComposedCrossing first second) (Transduces signature first) step-of_crossing crossing-of_step

  pub FitsAutomaton-composed_left : FitsAutomaton signature (composed_left first second)
  FitsAutomaton-composed_left = FitsAutomaton-joined first.left second.left (ComposedCrossing first second) signature fits_first.left fits_second.left

module _ {L R M S : Type 0} (signature : Signature) (first : Transducer L R) (second : Transducer M S)
    (fits_first : FitsTransducer signature first) (fits_second : FitsTransducer signature second) where
  into-from : (t : Tree) (p : R) → LeadsInto (Transduces signature (inverse_of second)) first.right t p → LeadsFrom (Transduces signature second) first.right p t
  into-from t p w = (
    w.0,
    w.2,
    RewritesInParallel-turned (Transduces signature (inverse_of second)) (Transduces signature second) (Transduces-turned signature second) w.1,
  )

  from-into : (t : Tree) (p : R) → LeadsFrom (Transduces signature second) first.right p t → LeadsInto (Transduces signature (inverse_of second)) first.right t p
  from-into t p w = (
    w.0,
    RewritesInParallel-turned (Transduces signature second) (Transduces signature (inverse_of second)) (Transduces-turned signature (inverse_of second)) w.2,
    w.1,
  )

  pub Takes-composed_right : (t : Tree) → IsGround signature t → (p : R)
      → Takes (composed first second).right t (inr p) ↔ LeadsFrom (Transduces signature second) first.right p t
  Takes-composed_right t grounded p =
      let k = Takes-composed_left signature (inverse_of second) (inverse_of first) (FitsTransducer-inverse signature second fits_second)
      (FitsTransducer-inverse signature first fits_first) t grounded p in
      ((λ h. into-from t p (k.0 h)), (λ w. k.1 (from-into t p w)))

  left_first : (s : Tree) (a : L) → Takes (composed first second).left s (inl a) ↔ Takes first.left s a
  left_first = Takes-joined_first_iff first.left second.left (ComposedCrossing first second)

  right_second : (t : Tree) (b : S) → Takes (composed first second).right t (inl b) ↔ Takes second.right t b
  right_second = Takes-joined_first_iff second.right first.right (ComposedCrossing (inverse_of second) (inverse_of first))

  at-first : (s t : Tree) (a : L) (b : R) → first.HasPair a b → Takes (composed first second).left s (inl a) → Takes (composed first second).right t (inr b)
      → IsGround signature s → IsGround signature t → Composes (Transduces signature first) (Transduces signature second) s t
  at-first s t a b paired h k gs gt =
      let w = (Takes-composed_right t gt b).0 k in
      let one : Transduces signature first s w.0 = record {
        left_state = a;
        right_state = b;
        paired = paired;
        left_taken = (left_first s a).0 h;
        right_taken = w.1;
        left_grounded = gs;
        right_grounded = RewritesInParallel-comes_from_ground signature (Transduces signature second) (RelatesGround-Transduces signature second) w.0 t w.2 gt;
      } in
      inl (w.0, one, w.2)

  at-second : (s t : Tree) (a : M) (b : S) → second.HasPair a b → Takes (composed first second).left s (inr a) → Takes (composed first second).right t (inl b)
      → IsGround signature s → IsGround signature t → Composes (Transduces signature first) (Transduces signature second) s t
  at-second s t a b paired h k gs gt =
      let w = (Takes-composed_left signature first second fits_first fits_second s gs a).0 h in
      let one : Transduces signature second w.0 t = record {
        left_state = a;
        right_state = b;
        paired = paired;
        left_taken = w.2;
        right_taken = (right_second t b).0 k;
        left_grounded = RewritesInParallel-keeps_ground signature (Transduces signature first) (RelatesGround-Transduces signature first) s w.0 w.1 gs;
        right_grounded = gt;
      } in
      inr (w.0, w.1, one)

  by-pair : (s t : Tree) (a : L ⊎ M) (b : S ⊎ R) → ComposedPair first second a b → Takes (composed first second).left s a → Takes (composed first second).right t b
      → IsGround signature s → IsGround signature t → Composes (Transduces signature first) (Transduces signature second) s t
  by-pair s t (inl a) (inl b) paired h k gs gt = absurd paired
  by-pair s t (inl a) (inr b) paired h k gs gt = at-first s t a b paired h k gs gt
  by-pair s t (inr a) (inl b) paired h k gs gt = at-second s t a b paired h k gs gt
  by-pair s t (inr a) (inr b) paired h k gs gt = absurd paired

  composes-from_Transduces : (s t : Tree) → Transduces signature (composed first second) s t → Composes (Transduces signature first) (Transduces signature second) s t
  composes-from_Transduces s t h = by-pair s t h.left_state h.right_state h.paired h.left_taken h.right_taken h.left_grounded h.right_grounded

  transduces-first : (s u t : Tree) → Transduces signature first s u → RewritesInParallel (Transduces signature second) u t → Transduces signature (composed first second) s t
  transduces-first s u t one k =
      let gt = RewritesInParallel-keeps_ground signature (Transduces signature second) (RelatesGround-Transduces signature second) u t k one.right_grounded in
      record {
        left_state = inl one.left_state;
        right_state = inr one.right_state;
        paired = one.paired;
        left_taken = (left_first s one.left_state).1 one.left_taken;
        right_taken = (Takes-composed_right t gt one.right_state).1 (u, one.right_taken, k);
        left_grounded = one.left_grounded;
        right_grounded = gt;
      }

  transduces-second : (s u t : Tree) → RewritesInParallel (Transduces signature first) s u → Transduces signature second u t → Transduces signature (composed first second) s t
  transduces-second s u t k one =
      let gs = RewritesInParallel-comes_from_ground signature (Transduces signature first) (RelatesGround-Transduces signature first) s u k one.left_grounded in
      record {
        left_state = inr one.left_state;
        right_state = inl one.right_state;
        paired = one.paired;
        left_taken = (Takes-composed_left signature first second fits_first fits_second s gs one.left_state).1 (u, k, one.left_taken);
        right_taken = (right_second t one.right_state).1 one.right_taken;
        left_grounded = gs;
        right_grounded = one.right_grounded;
      }

  pub Transduces-composed : (s t : Tree) → Transduces signature (composed first second) s t ↔ Composes (Transduces signature first) (Transduces signature second) s t
  Transduces-composed s t = (
    composes-from_Transduces s t,
    (λ h. elim h [ inl w ↦ transduces-first s w.0 t w.1 w.2 | inr w ↦ transduces-second s w.0 t w.1 w.2 ]),
  )

  pub FitsTransducer-composed : FitsTransducer signature (composed first second)
  FitsTransducer-composed = record {
    constant = fits_first.constant;
    left = FitsAutomaton-composed_left signature first second fits_first fits_second;
    right = FitsAutomaton-composed_left signature (inverse_of second) (inverse_of first) (FitsTransducer-inverse signature second fits_second)
        (FitsTransducer-inverse signature first fits_first);
  }

  pub composed-is_composition : IsComposition signature first second
  composed-is_composition = record {
    relates = Transduces-composed;
    left_first = left_first;
    left_second = Takes-composed_left signature first second fits_first fits_second;
    right_second = right_second;
    right_first = Takes-composed_right;
  }
