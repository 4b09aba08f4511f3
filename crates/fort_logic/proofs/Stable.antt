-- A result, which no proof cites: truth is stable: a formula that is not false is true. So "for all" and "not for some not" are one.
use Rattle.std.specs.Prelude.{ℕ, Some, None}
use Rattle.fort_theory.specs.Logic.{Surely}
use Rattle.fort_theory.specs.Structures.{Structure}
use Rattle.fort_logic.specs.Truth.{Assignment, with_name, HasProperty, Holds}
use Rattle.fort_logic.specs.Formulas.{Property, Cr, Wcr, Scr, Wn, Unr, Unc, Nfp, Formula, True, False, Related, InContext, Nf, Join, Sn, Has, Com, Not, And, Or, Imp, Iff, Exists, Forall, Infinite}

pub HasProperty-stable : (structure : Structure) (index : ℕ) (p : Property) → Surely (HasProperty structure index p) → HasProperty structure index p
HasProperty-stable structure index Cr h = λ s t u gs gt gu st su none. h (λ p. p s t u gs gt gu st su none)
HasProperty-stable structure index Wcr h = λ s t u gs gt gu st su none. h (λ p. p s t u gs gt gu st su none)
HasProperty-stable structure index Scr h = λ s t u gs gt gu st su none. h (λ p. p s t u gs gt gu st su none)
HasProperty-stable structure index Wn h = λ s gs none. h (λ p. p s gs none)
HasProperty-stable structure index Unr h = λ s t u gs gt gu st su nt nu none. h (λ p. p s t u gs gt gu st su nt nu none)
HasProperty-stable structure index Unc h = λ s t gs gt st ns nt none. h (λ p. p s t gs gt st ns nt none)
HasProperty-stable structure index Nfp h = λ s t gs gt st nt none. h (λ p. p s t gs gt st nt none)

pub Holds-stable : (structure : Structure) (f : Formula) (m : Assignment) → Surely (Holds structure f m) → Holds structure f m
Holds-stable structure True m h = tt
Holds-stable structure False m h = h (λ no. no)
Holds-stable structure (Related rel a b index) m h = λ no. h (λ yes. yes no)
Holds-stable structure (InContext e number place a b) m h = λ no. h (λ yes. yes no)
Holds-stable structure (Nf a index) m h = λ t s. h (λ n. n t s)
Holds-stable structure (Join a b index) m h = λ none. h (λ some. some none)
Holds-stable structure (Sn (Some a) index) m h = λ none. h (λ ends. ends none)
Holds-stable structure (Sn None index) m h = λ s gs none. h (λ all. all s gs none)
Holds-stable structure (Has p index) m h = HasProperty-stable structure index p h
Holds-stable structure Com m h = λ s t u gs gt gu st su none. h (λ p. p s t u gs gt gu st su none)
Holds-stable structure (Not f) m h = λ yes. h (λ no. no yes)
Holds-stable structure (And f g) m h =
    (Holds-stable structure f m (λ no. h (λ p. no p.0)), Holds-stable structure g m (λ no. h (λ p. no p.1)))
Holds-stable structure (Or f g) m h = λ no_f no_g. h (λ e. e no_f no_g)
Holds-stable structure (Imp f g) m h = λ yes. Holds-stable structure g m (λ no. h (λ i. no (i yes)))
Holds-stable structure (Iff f g) m h = (
  λ yes. Holds-stable structure g m (λ no. h (λ i. no (i.0 yes))),
  λ yes. Holds-stable structure f m (λ no. h (λ i. no (i.1 yes))),
)
Holds-stable structure (Exists x f) m h = λ none. h (λ some. some none)
Holds-stable structure (Forall x f) m h =
    λ t is_ground. Holds-stable structure f (with_name m x t) (λ no. h (λ all. no (all t is_ground)))
Holds-stable structure (Infinite x f) m h = λ ts none. h (λ many. many ts none)
