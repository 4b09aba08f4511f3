-- The translation keeps truth: over a signature with a constant a formula is true exactly where its core formula is.
use Rattle.std.specs.Prelude.{◌≡◌, ◌↔◌, ℕ, ◌<◌, ◌++◌, All, suc, Bool, true, false, if◌then◌else◌, List, [], ◌∷◌, Some, None, length, reverse, slice_get, bytes_eq, Contains, refl}
use Rattle.std.proofs.Common.{sym, ap, subst, ◌∙◌, arith}
use Rattle.std.proofs.lemmas.List.{reverse-reverse}
use Rattle.std.proofs.lemmas.List.Elements.{All-get_or, Contains-append_left, Contains-append_right}
use Rattle.std.proofs.lemmas.Option.{slice_get-get_or}
use Rattle.fort_theory.proofs.Members.{Contains-head}
use Rattle.fort_theory.specs.Logic.{Surely}
use Rattle.fort_theory.specs.Trees.{Tree, Node, Nil}
use Rattle.fort_theory.specs.Signatures.{IsGround, HasConstant}
use Rattle.fort_theory.specs.Rewriting.{IsNormalForm}
use Rattle.fort_theory.specs.Termination.{IsTerminating}
use Rattle.fort_theory.specs.Expressions.{Means}
use Rattle.fort_theory.specs.Contexts.{HoldsInContext}
use Rattle.fort_theory.specs.Structures.{Structure, structure_of}
use Rattle.fort_logic.specs.Truth.{Assignment, with_name, IsGroundAssignment, GivesTerms, Relates, AreJoinable, Holds}
use Rattle.fort_logic.specs.Formulas.{Name, Argument, Var, Ground, Formula, True, False, Related, InContext, Nf, Join, Sn, Has, Com, Not, And, Or, Imp, Iff, Exists, Forall, Infinite}
use Rattle.fort_logic.specs.FreeNames.{names_in, occurrences, free_names}
use Rattle.fort_logic.specs.Mentions.{places_in, places, HasTermsFor}
use Rattle.fort_logic.specs.Terminations.{terminations}
use Rattle.fort_theory.specs.Cores as core
use Rattle.fort_theory.specs.CoreTruth.{Places, with_number, IsMetBy}
use Rattle.fort_logic.specs.Translation.{number_in, related, joins, terminates, term_at, core_in, core_of}
use Rattle.fort_logic.specs.KeepsTruth.{AreTheirPlaces, KeepsTruth}
use Rattle.fort_theory.proofs.CorePlaces.{with_number-same, with_number-other}
use Rattle.fort_logic.proofs.Binders.{Met, Met-some, Met-every, Met-infinitely_many, Met-implies}
use Rattle.fort_logic.proofs.Abbreviations.{moved, Met-related, Met-joins}
use Rattle.fort_logic.proofs.PropertyTruth.{Met-property}
use Rattle.fort_logic.proofs.TerminationTruth.{HasTargets, HasTargets-right_ground, Met-terminates, Met-all_terminate}
use Rattle.fort_logic.proofs.CommutesTruth.{Met-commutes}
use Rattle.fort_logic.proofs.ArgumentTruth.{StandsFor, Met-about, Met-about_both}
use Rattle.fort_logic.proofs.ScopeNumbers.{names_same, Contains-without, Contains-once, Contains-reverse, number_in-below, slice_get-number_in}

-- each name that occurs free is in the scope, and its number has its tree
abbrev pub Agree : List Name → Assignment → Places → List Name → Type 0
Agree scope m v xs = (x : Name) → Contains xs x → Contains scope x × (v (number_in scope x) ≡ m (Var x))

-- likewise below a binder
agree_below : (scope : List Name) (m : Assignment) (v : Places) (x : Name) (xs ys : List Name) (t : Tree) → ((y : Name) → bytes_eq y x ≡ false → Contains xs y → Contains ys y)
    → Agree scope m v ys → Agree (x ∷ scope) (with_name m x t) (with_number v (length scope) t) xs
agree_below scope m v x xs ys t kept agree y among = by (bytes_eq y x) refl
  where
    by : (b : Bool) → bytes_eq y x ≡ b → Contains (x ∷ scope) y × (with_number v (length scope) t (number_in (x ∷ scope) y) ≡ with_name m x t (Var y))
    by true is = (
      (0, omega arith, sym (names_same y x is)),
      ap (with_number v (length scope) t) (ap (λ b. if b then length scope else number_in scope y) is)
          ∙ (with_number-same v (length scope) t ∙ sym (ap (λ b. if b then t else m (Var y)) is)),
    )
    by false is =
        let outer = agree y (kept y is among) in
        let below = number_in-below scope y outer.0 in (
          (suc outer.0.0, (let l = outer.0.1 in omega arith), outer.0.2),
          ap (with_number v (length scope) t) (ap (λ b. if b then length scope else number_in scope y) is)
              ∙ (with_number-other v (length scope) t (number_in scope y) (λ e. omega arith)
              ∙ (outer.1 ∙ sym (ap (λ b. if b then t else m (Var y)) is))),
        )

-- another ground term for one variable
with_name-ground : (structure : Structure) (m : Assignment) (x : Name) (t : Tree) → IsGroundAssignment structure m → IsGround structure.signature t
    → IsGroundAssignment structure (with_name m x t)
with_name-ground structure m x t all is_ground (Var y) =
    elim (bytes_eq y x) as (λ b. IsGround structure.signature (if b then t else m (Var y))) [ true ↦ is_ground | false ↦ all (Var y) ]
with_name-ground structure m x t all is_ground (Ground k) = all (Ground k)

-- where the formula says SN, root steps lead to finitely many terms, and the trees are ground terms
abbrev pub FitsAt : Structure → Assignment → List ℕ → Type 0
FitsAt structure m xs = (i : ℕ) → Contains xs i → HasTargets structure i × IsGroundAssignment structure m

-- the places of ground terms in an operand are among those of the formula
places_left : (f g : Formula) (terms : List Tree) → HasTermsFor (And f g) terms → HasTermsFor f terms
places_left f g terms has k among = has k (Contains-append_left (places f) (places g) k among)

places_right : (f g : Formula) (terms : List Tree) → HasTermsFor (And f g) terms → HasTermsFor g terms
places_right f g terms has k among = has k (Contains-append_right (places f) (places g) k among)

module _ (structure : Structure) (constant : HasConstant structure.signature) (terms : List Tree) (ground : All (IsGround structure.signature) terms) where
  abbrev pub Same : Formula → List Name → Assignment → Places → Type 0
  Same f scope m v = Holds structure f m ↔ Met structure (core_in terms scope f) v

  below : (x : Name) (f : Formula) (scope : List Name) (m : Assignment) (v : Places) (t : Tree) → Agree scope m v (occurrences (Exists x f))
      → Agree (x ∷ scope) (with_name m x t) (with_number v (length scope) t) (occurrences f)
  below x f scope m v t agree =
      agree_below scope m v x (occurrences f) (occurrences (Exists x f)) t (λ y other among. Contains-without x (occurrences f) y other among) agree

  left_of : (scope : List Name) (m : Assignment) (v : Places) (f g : Formula) → Agree scope m v (occurrences (And f g)) → Agree scope m v (occurrences f)
  left_of scope m v f g agree x among = agree x (Contains-append_left (occurrences f) (occurrences g) x among)

  right_of : (scope : List Name) (m : Assignment) (v : Places) (f g : Formula) → Agree scope m v (occurrences (And f g)) → Agree scope m v (occurrences g)
  right_of scope m v f g agree x among = agree x (Contains-append_right (occurrences f) (occurrences g) x among)

  fits_left : (m : Assignment) (f g : Formula) → FitsAt structure m (terminations (And f g)) → FitsAt structure m (terminations f)
  fits_left m f g fits i among = fits i (Contains-append_left (terminations f) (terminations g) i among)

  fits_right : (m : Assignment) (f g : Formula) → FitsAt structure m (terminations (And f g)) → FitsAt structure m (terminations g)
  fits_right m f g fits i among = fits i (Contains-append_right (terminations f) (terminations g) i among)

  fits_below : (m : Assignment) (x : Name) (f : Formula) (t : Tree) → IsGround structure.signature t → FitsAt structure m (terminations f)
      → FitsAt structure (with_name m x t) (terminations f)
  fits_below m x f t is_ground fits i among = ((fits i among).0, with_name-ground structure m x t (fits i among).1 is_ground)

  -- an argument whose variable is in the scope, or whose term is there, stands for its tree
  argument : (scope : List Name) (m : Assignment) (v : Places) (a : Argument) → GivesTerms terms m → ((k : ℕ) → Contains (places_in a) k → k < length terms)
      → Agree scope m v (names_in a) → StandsFor structure terms scope (length scope) v a (m a)
  argument scope m v (Var x) gives has agree =
      let at = agree x (Contains-head x []) in
      (number_in-below scope x at.0, at.1)
  argument scope m v (Ground k) gives has agree =
      let within = has k (Contains-head k []) in
      let is : m (Ground k) ≡ term_at terms k = gives k (term_at terms k) (slice_get-get_or terms k (Node 0 Nil) within) in
      (subst (IsGround structure.signature) (sym is) (All-get_or (IsGround structure.signature) terms k (Node 0 Nil) within ground), sym is)

  first_of : (scope : List Name) (m : Assignment) (v : Places) (a b : Argument) → GivesTerms terms m
      → ((k : ℕ) → Contains (places_in a ++ places_in b) k → k < length terms) → Agree scope m v (names_in a ++ names_in b)
      → StandsFor structure terms scope (length scope) v a (m a)
  first_of scope m v a b gives has agree =
      argument scope m v a gives (λ k among. has k (Contains-append_left (places_in a) (places_in b) k among))
      (λ x among. agree x (Contains-append_left (names_in a) (names_in b) x among))

  second_of : (scope : List Name) (m : Assignment) (v : Places) (a b : Argument) → GivesTerms terms m
      → ((k : ℕ) → Contains (places_in a ++ places_in b) k → k < length terms) → Agree scope m v (names_in a ++ names_in b)
      → StandsFor structure terms scope (length scope) v b (m b)
  second_of scope m v a b gives has agree =
      argument scope m v b gives (λ k among. has k (Contains-append_right (places_in a) (places_in b) k among))
      (λ x among. agree x (Contains-append_right (names_in a) (names_in b) x among))

  pub Holds-core_in : (f : Formula) (scope : List Name) (m : Assignment) (v : Places) → GivesTerms terms m → HasTermsFor f terms
      → FitsAt structure m (terminations f) → Agree scope m v (occurrences f) → Same f scope m v
  Holds-core_in True scope m v gives has fits agree = ((λ h. h), (λ h. h))
  Holds-core_in False scope m v gives has fits agree = ((λ h. absurd h), (λ h. h tt))
  Holds-core_in (Related rel a b index) scope m v gives has fits agree =
      let means =
      Met-about_both structure terms scope (length scope) a b (λ n x y. related rel index x y) v (m a) (m b)
      (Surely (Relates (structure.root index) rel (m a) (m b))) (first_of scope m v a b gives has agree) (second_of scope m v a b gives has agree)
      (λ n x y w below under at_x at_y.
      let inner = Met-related structure index rel w x y in (
        (λ h. moved (λ s t. Surely (Relates (structure.root index) rel s t)) (w x) (w y) (m a) (m b) at_x at_y (inner.0 h)),
        (λ h. inner.1 (moved (λ s t. Surely (Relates (structure.root index) rel s t)) (m a) (m b) (w x) (w y) (sym at_x) (sym at_y) h)),
      )) in
      (means.1, means.0)
  Holds-core_in (InContext e number place a b) scope m v gives has fits agree =
      let means =
      Met-about_both structure terms scope (length scope) a b (λ n x y. core.Leaf (core.InContext e number place x y)) v (m a) (m b)
      (Surely (HoldsInContext (Means structure.root e) number place (m a) (m b))) (first_of scope m v a b gives has agree) (second_of scope m v a b gives has agree)
      (λ n x y w below under at_x at_y. (
        moved (λ s t. Surely (HoldsInContext (Means structure.root e) number place s t)) (w x) (w y) (m a) (m b) at_x at_y,
        moved (λ s t. Surely (HoldsInContext (Means structure.root e) number place s t)) (m a) (m b) (w x) (w y) (sym at_x) (sym at_y),
      )) in
      (means.1, means.0)
  Holds-core_in (Nf a index) scope m v gives has fits agree =
      let means =
      Met-about structure terms scope (length scope) a (λ n x. core.Leaf (core.Normal index x)) v (m a) (IsNormalForm (structure.root index) (m a))
      (argument scope m v a gives has agree)
      (λ n x w more below same at_x. (subst (IsNormalForm (structure.root index)) at_x, subst (IsNormalForm (structure.root index)) (sym at_x))) in
      (means.1, means.0)
  Holds-core_in (Join a b index) scope m v gives has fits agree =
      let means =
      Met-about_both structure terms scope (length scope) a b (λ n x y. joins index n x y) v (m a) (m b)
      (AreJoinable structure index (m a) (m b)) (first_of scope m v a b gives has agree) (second_of scope m v a b gives has agree)
      (λ n x y w below under at_x at_y.
      Met-joins structure index constant n x y w (m a) (m b) (λ e. omega arith) (λ e. omega arith) at_x at_y) in
      (means.1, means.0)
  Holds-core_in (Sn (Some a) index) scope m v gives has fits agree =
      let fit = fits index (Contains-head index []) in
      let means =
      Met-about structure terms scope (length scope) a (λ n x. terminates index n x) v (m a) (IsTerminating (structure.root index) (m a))
      (argument scope m v a gives has agree)
      (λ n x w more below same at_x. Met-terminates structure constant index n x w (m a) (λ e. omega arith) at_x fit.0 (fit.1 a)) in
      (means.1, means.0)
  Holds-core_in (Sn None index) scope m v gives has fits agree =
      let means = Met-all_terminate structure constant index (fits index (Contains-head index [])).0 (length scope) v in
      (means.1, means.0)
  Holds-core_in (Has p index) scope m v gives has fits agree =
      let means = Met-property structure index constant p (length scope) v in
      (means.1, means.0)
  Holds-core_in Com scope m v gives has fits agree =
      let means = Met-commutes structure constant (length scope) v in
      (means.1, means.0)
  Holds-core_in (Not f) scope m v gives has fits agree =
      let k = Holds-core_in f scope m v gives has fits agree in
      ((λ h yes. h (k.1 yes)), (λ h yes. h (k.0 yes)))
  Holds-core_in (And f g) scope m v gives has fits agree =
      let k = Holds-core_in f scope m v gives (places_left f g terms has) (fits_left m f g fits) (left_of scope m v f g agree) in
      let l = Holds-core_in g scope m v gives (places_right f g terms has) (fits_right m f g fits) (right_of scope m v f g agree) in
      ((λ h. (k.0 h.0, l.0 h.1)), (λ h. (k.1 h.0, l.1 h.1)))
  Holds-core_in (Or f g) scope m v gives has fits agree =
      let k = Holds-core_in f scope m v gives (places_left f g terms has) (fits_left m f g fits) (left_of scope m v f g agree) in
      let l = Holds-core_in g scope m v gives (places_right f g terms has) (fits_right m f g fits) (right_of scope m v f g agree) in
      ((λ h no_f no_g. h (λ a. no_f (k.0 a)) (λ b. no_g (l.0 b))), (λ h no_f no_g. h (λ a. no_f (k.1 a)) (λ b. no_g (l.1 b))))
  Holds-core_in (Imp f g) scope m v gives has fits agree =
      let k = Holds-core_in f scope m v gives (places_left f g terms has) (fits_left m f g fits) (left_of scope m v f g agree) in
      let l = Holds-core_in g scope m v gives (places_right f g terms has) (fits_right m f g fits) (right_of scope m v f g agree) in
      let means = Met-implies structure (core_in terms scope f) (core_in terms scope g) v in
      ((λ h. means.1 (λ a. l.0 (h (k.1 a)))), (λ h a. l.1 (means.0 h (k.0 a))))
  Holds-core_in (Iff f g) scope m v gives has fits agree =
      let k = Holds-core_in f scope m v gives (places_left f g terms has) (fits_left m f g fits) (left_of scope m v f g agree) in
      let l = Holds-core_in g scope m v gives (places_right f g terms has) (fits_right m f g fits) (right_of scope m v f g agree) in
      ((λ h. ((λ a. l.0 (h.0 (k.1 a))), (λ b. k.0 (h.1 (l.1 b))))), (λ h. ((λ a. l.1 (h.0 (k.0 a))), (λ b. k.1 (h.1 (l.0 b))))))
  Holds-core_in (Exists x f) scope m v gives has fits agree =
      let means = Met-some structure constant (length scope) (core_in terms (x ∷ scope) f) v in
      let inner : (t : Tree) → IsGround structure.signature t → Same f (x ∷ scope) (with_name m x t) (with_number v (length scope) t) =
      λ t is_ground. Holds-core_in f (x ∷ scope) (with_name m x t) (with_number v (length scope) t) gives has (fits_below m x f t is_ground fits)
      (below x f scope m v t agree) in (
        (λ h. means.1 (λ none. h (λ t k. none t (k.0, (inner t k.0).0 k.1)))),
        (λ h none. means.0 h (λ t k. none t (k.0, (inner t k.0).1 k.1))),
      )
  Holds-core_in (Forall x f) scope m v gives has fits agree =
      let means = Met-every structure constant (length scope) (core_in terms (x ∷ scope) f) v in
      let inner : (t : Tree) → IsGround structure.signature t → Same f (x ∷ scope) (with_name m x t) (with_number v (length scope) t) =
      λ t is_ground. Holds-core_in f (x ∷ scope) (with_name m x t) (with_number v (length scope) t) gives has (fits_below m x f t is_ground fits)
      (below x f scope m v t agree) in (
        (λ h. means.1 (λ t is_ground. (inner t is_ground).0 (h t is_ground))),
        (λ h t is_ground. (inner t is_ground).1 (means.0 h t is_ground)),
      )
  Holds-core_in (Infinite x f) scope m v gives has fits agree =
      let means = Met-infinitely_many structure (length scope) (core_in terms (x ∷ scope) f) v in
      let inner : (t : Tree) → IsGround structure.signature t → Same f (x ∷ scope) (with_name m x t) (with_number v (length scope) t) =
      λ t is_ground. Holds-core_in f (x ∷ scope) (with_name m x t) (with_number v (length scope) t) gives has (fits_below m x f t is_ground fits)
      (below x f scope m v t agree) in (
        (λ h. means.1 (λ ts none. h ts (λ t k. none t (k.0, (k.1.0, (inner t k.1.0).0 k.1.1))))),
        (λ h ts none. means.0 h ts (λ t k. none t (k.0, (k.1.0, (inner t k.1.0).1 k.1.1)))),
      )

  -- the free names have the first numbers
  pub Holds-core_of : (f : Formula) (m : Assignment) (v : Places) → GivesTerms terms m → HasTermsFor f terms
      → FitsAt structure m (terminations f) → AreTheirPlaces f m v
      → Holds structure f m ↔ IsMetBy structure (core_of terms f) v
  Holds-core_of f m v gives has fits at =
      Holds-core_in f (reverse (free_names f)) m v gives has fits (λ x among.
      let there = Contains-reverse (free_names f) x (Contains-once (occurrences f) x among) in
      let stands = slice_get-number_in (reverse (free_names f)) x there in
      (there, at (number_in (reverse (free_names f)) x) x (ap (λ w. slice_get w (number_in (reverse (free_names f)) x)) (sym (reverse-reverse (free_names f))) ∙ stands)))

pub core_of-keeps_truth : (terms : List Tree) (f : Formula) → HasTermsFor f terms → KeepsTruth terms f (core_of terms f)
core_of-keeps_truth terms f has system constant ground m v suits gives at =
    Holds-core_of (structure_of system) constant terms ground f m v gives has
    (λ i among. let both = suits i among in (HasTargets-right_ground system i both.0, both.1)) at
