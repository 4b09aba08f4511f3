-- The core formula of a formula whose indices are the system's, each with few rules if it has an expression, and in which ground terms are written, is over the system.
use Rattle.std.specs.Prelude.{◌≡◌, ◌||◌, refl, ℕ, ◌+◌, ◌<◌, List, [], ◌∷◌, ◌++◌, Some, None, length, reverse, Contains, All, Bool, true, false, if◌then◌else◌}
use Rattle.std.proofs.lemmas.Bool.{or_left, or_right}
use Rattle.std.proofs.lemmas.List.Elements.{All-get_or, Contains-append_left, Contains-append_right}
use Rattle.fort_theory.specs.Trees.{Tree, Node, Nil}
use Rattle.fort_theory.specs.Signatures.{IsGround}
use Rattle.fort_theory.specs.Sides.{IsIndexOf}
use Rattle.fort_theory.specs.Patterns.{PatternSystem}
use Rattle.fort_theory.proofs.Members.{Contains-head, Contains-behind}
use Rattle.fort_logic.specs.Formulas as surface
use Rattle.fort_logic.specs.Formulas.{Name, Argument, Formula, SurfaceRel, Property}
use Rattle.fort_logic.specs.FreeNames.{free_names}
use Rattle.fort_logic.specs.Mentions.{indices, places, places_in, has_expression}
use Rattle.fort_theory.specs.Cores.{Core, Leaf, InContext, Normal, Binary, Not, Exists, Infinite, Star, Plus, Step, Conv}
use Rattle.fort_theory.specs.Logic.{And}
use Rattle.fort_theory.specs.Parts.{is_free}
use Rattle.fort_logic.specs.Translation.{atom, some, every, infinitely_many, implies, equal, at_most_one_step, normalises, joins, terminates, all_terminate, related, forks, property_core, commutes, about, about_both, core_in, core_of, number_in}
use Rattle.fort_parts.specs.DecidedCores.{IsOverSystem}
use Rattle.fort_run.specs.Ready.{HaveFewRules}

-- what holds of both ways of a choice
either : (P : Core → Type 0) (b : Bool) (f g : Core) → P f → P g → P (if b then f else g)
either P true f g p q = p
either P false f g p q = q

module _ (system : PatternSystem) (first : IsIndexOf system.rules 1) (terms : List Tree) (grounded : All (IsGround system.signature) terms) where
  abbrev Over : Core → Type 0
  Over f = IsOverSystem system f

  over-some : (n : ℕ) (f : Core) → Over f → Over (some n f)
  over-some n f h = either Over (is_free n f) (Exists n f) f h h

  over-every : (n : ℕ) (f : Core) → Over f → Over (every n f)
  over-every n f h = over-some n (Not f) h

  over-infinitely_many : (n : ℕ) (f : Core) → Over f → Over (infinitely_many n f)
  over-infinitely_many n f h = either Over (is_free n f) (Infinite n f) (Binary And f (Infinite n (equal n n))) h (h, first)

  over-related : (rel : SurfaceRel) (index x y : ℕ) → IsIndexOf system.rules index → Over (related rel index x y)
  over-related surface.Eq index x y h = first
  over-related surface.Step index x y h = h
  over-related surface.Star index x y h = h
  over-related surface.Plus index x y h = h
  over-related surface.Reflexive index x y h = (first, h)
  over-related surface.Normal index x y h = (h, h)
  over-related surface.Root index x y h = h
  over-related surface.Below index x y h = h
  over-related surface.Par index x y h = h
  over-related surface.Either index x y h = (h, h)
  over-related surface.Conv index x y h = h

  over-joins : (index n x y : ℕ) → IsIndexOf system.rules index → Over (joins index n x y)
  over-joins index n x y h = over-some n (Binary And (atom Star index x n) (atom Star index y n)) (h, h)

  over-terminates : (index n x : ℕ) → IsIndexOf system.rules index → Over (terminates index n x)
  over-terminates index n x h =
      (over-infinitely_many n (atom Star index x n) h, over-some n (Binary And (atom Star index x n) (atom Plus index n n)) (h, h))

  over-all_terminate : (index n : ℕ) → IsIndexOf system.rules index → Over (all_terminate index n)
  over-all_terminate index n h = over-every n (terminates index (n + 1) n) (over-terminates index (n + 1) n h)

  over-two : (n : ℕ) (f : Core) → Over f → Over (every n (every (n + 1) f))
  over-two n f h = over-every n (every (n + 1) f) (over-every (n + 1) f h)

  over-property : (p : Property) (index n : ℕ) → IsIndexOf system.rules index → Over (property_core p index n)
  over-property surface.Cr index n h =
      over-two n (implies (forks (atom Star index) (n + 2) n (n + 1)) (joins index (n + 2) n (n + 1)))
      (over-some (n + 2) (Binary And (atom Star index (n + 2) n) (atom Star index (n + 2) (n + 1))) (h, h), over-joins index (n + 2) n (n + 1) h)
  over-property surface.Wcr index n h =
      over-two n (implies (forks (atom Step index) (n + 2) n (n + 1)) (joins index (n + 2) n (n + 1)))
      (over-some (n + 2) (Binary And (atom Step index (n + 2) n) (atom Step index (n + 2) (n + 1))) (h, h), over-joins index (n + 2) n (n + 1) h)
  over-property surface.Scr index n h =
      over-two n (implies (forks (atom Step index) (n + 2) n (n + 1))
      (some (n + 2) (Binary And (at_most_one_step index n (n + 2)) (atom Star index (n + 1) (n + 2))))) (
        over-some (n + 2) (Binary And (atom Step index (n + 2) n) (atom Step index (n + 2) (n + 1))) (h, h),
        over-some (n + 2) (Binary And (at_most_one_step index n (n + 2)) (atom Star index (n + 1) (n + 2))) ((first, h), h),
      )
  over-property surface.Wn index n h =
      over-every n (some (n + 1) (normalises index n (n + 1))) (over-some (n + 1) (normalises index n (n + 1)) (h, h))
  over-property surface.Unr index n h =
      over-two n (implies (forks (normalises index) (n + 2) n (n + 1)) (equal n (n + 1)))
      (over-some (n + 2) (Binary And (normalises index (n + 2) n) (normalises index (n + 2) (n + 1))) ((h, h), (h, h)), first)
  over-property surface.Unc index n h =
      over-two n (implies (Binary And (Binary And (atom Conv index n (n + 1)) (Leaf (Normal index n))) (Leaf (Normal index (n + 1)))) (equal n (n + 1))) (((h, h), h), first)
  over-property surface.Nfp index n h =
      over-two n (implies (Binary And (atom Conv index n (n + 1)) (Leaf (Normal index (n + 1)))) (atom Star index n (n + 1))) ((h, h), h)

  over-commutes : (n : ℕ) → IsIndexOf system.rules 2 → Over (commutes n)
  over-commutes n second =
      over-two n (implies (some (n + 2) (Binary And (atom Star 1 (n + 2) n) (atom Star 2 (n + 2) (n + 1))))
      (some (n + 2) (Binary And (atom Star 2 n (n + 2)) (atom Star 1 (n + 1) (n + 2))))) (
        over-some (n + 2) (Binary And (atom Star 1 (n + 2) n) (atom Star 2 (n + 2) (n + 1))) (first, second),
        over-some (n + 2) (Binary And (atom Star 2 n (n + 2)) (atom Star 1 (n + 1) (n + 2))) (second, first),
      )

  over-about : (scope : List Name) (n : ℕ) (a : Argument) (make : ℕ → ℕ → Core) → ((k : ℕ) → Contains (places_in a) k → k < length terms)
      → ((m x : ℕ) → Over (make m x)) → Over (about terms scope n a make)
  over-about scope n (surface.Var x) make within over = over n (number_in scope x)
  over-about scope n (surface.Ground k) make within over =
      (All-get_or (IsGround system.signature) terms k (Node 0 Nil) (within k (Contains-head k [])) grounded, over (n + 1) n)

  over-about_both : (scope : List Name) (n : ℕ) (a b : Argument) (make : ℕ → ℕ → ℕ → Core) → ((k : ℕ) → Contains (places_in a ++ places_in b) k → k < length terms)
      → ((m x y : ℕ) → Over (make m x y)) → Over (about_both terms scope n a b make)
  over-about_both scope n a b make within over =
      over-about scope n a (λ m x. about terms scope m b (λ k y. make k x y)) (λ k c. within k (Contains-append_left (places_in a) (places_in b) k c))
      (λ m x. over-about scope m b (λ k y. make k x y) (λ k c. within k (Contains-append_right (places_in a) (places_in b) k c)) (λ k y. over k x y))

  -- each index is one of the system's, each place has a term, and where there is an expression, the rules of each index are few
  abbrev Mentions : Formula → Type 0
  Mentions f = ((y : ℕ) → Contains (indices f) y → IsIndexOf system.rules y) × ((k : ℕ) → Contains (places f) k → k < length terms)
      × (has_expression f ≡ true → HaveFewRules system)

  left : (f g : Formula) → ((y : ℕ) → Contains (indices f ++ indices g) y → IsIndexOf system.rules y) → ((k : ℕ) → Contains (places f ++ places g) k → k < length terms)
      → ((has_expression f || has_expression g) ≡ true → HaveFewRules system) → Mentions f × Mentions g
  left f g i p few = (
    (
      (λ y c. i y (Contains-append_left (indices f) (indices g) y c)),
      (λ k c. p k (Contains-append_left (places f) (places g) k c)),
      λ e. few (or_left (has_expression f) (has_expression g) e),
    ),
    (
      (λ y c. i y (Contains-append_right (indices f) (indices g) y c)),
      (λ k c. p k (Contains-append_right (places f) (places g) k c)),
      λ e. few (or_right (has_expression f) (has_expression g) e),
    ),
  )

  over-core_in : (scope : List Name) (f : Formula) → Mentions f → Over (core_in terms scope f)
  over-core_in scope surface.True m = tt
  over-core_in scope surface.False m = tt
  over-core_in scope (surface.Related rel a b index) m =
      over-about_both scope (length scope) a b (λ n x y. related rel index x y) m.1 (λ n x y. over-related rel index x y (m.0 index (Contains-head index [])))
  over-core_in scope (surface.InContext e number place a b) m =
      over-about_both scope (length scope) a b (λ n x y. Leaf (InContext e number place x y)) m.1
      (λ n x y. record { indices = m.0; few = λ index c. m.2 refl index })
  over-core_in scope (surface.Nf a index) m = over-about scope (length scope) a (λ n x. Leaf (Normal index x)) m.1 (λ n x. m.0 index (Contains-head index []))
  over-core_in scope (surface.Join a b index) m =
      over-about_both scope (length scope) a b (λ n x y. joins index n x y) m.1 (λ n x y. over-joins index n x y (m.0 index (Contains-head index [])))
  over-core_in scope (surface.Sn (Some a) index) m =
      over-about scope (length scope) a (λ n x. terminates index n x) m.1 (λ n x. over-terminates index n x (m.0 index (Contains-head index [])))
  over-core_in scope (surface.Sn None index) m = over-all_terminate index (length scope) (m.0 index (Contains-head index []))
  over-core_in scope (surface.Has p index) m = over-property p index (length scope) (m.0 index (Contains-head index []))
  over-core_in scope surface.Com m = over-commutes (length scope) (m.0 2 (Contains-behind 1 (2 ∷ []) 2 (Contains-head 2 [])))
  over-core_in scope (surface.Not f) m = over-core_in scope f m
  over-core_in scope (surface.And f g) m = let w = left f g m.0 m.1 m.2 in (over-core_in scope f w.0, over-core_in scope g w.1)
  over-core_in scope (surface.Or f g) m = let w = left f g m.0 m.1 m.2 in (over-core_in scope f w.0, over-core_in scope g w.1)
  over-core_in scope (surface.Imp f g) m = let w = left f g m.0 m.1 m.2 in (over-core_in scope f w.0, over-core_in scope g w.1)
  over-core_in scope (surface.Iff f g) m = let w = left f g m.0 m.1 m.2 in (over-core_in scope f w.0, over-core_in scope g w.1)
  over-core_in scope (surface.Exists x f) m = over-some (length scope) (core_in terms (x ∷ scope) f) (over-core_in (x ∷ scope) f m)
  over-core_in scope (surface.Forall x f) m = over-every (length scope) (core_in terms (x ∷ scope) f) (over-core_in (x ∷ scope) f m)
  over-core_in scope (surface.Infinite x f) m = over-infinitely_many (length scope) (core_in terms (x ∷ scope) f) (over-core_in (x ∷ scope) f m)

  -- Result
  pub IsOverSystem-core_of : (f : Formula) → ((y : ℕ) → Contains (indices f) y → IsIndexOf system.rules y) → ((k : ℕ) → Contains (places f) k → k < length terms)
      → (has_expression f ≡ true → HaveFewRules system) → IsOverSystem system (core_of terms f)
  IsOverSystem-core_of f i p few = over-core_in (reverse (free_names f)) f (i, p, few)
