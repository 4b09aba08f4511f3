-- What a visit of a pair and the begin of a pass do to the progress of the passes.
use Rattle.std.proofs.Common.{◌≡◌, ℕ, ◌+◌, ◌*◌, ◌<◌, List, [], ◌∷◌, ◌++◌, length, take, map, ap, sym, ◌∙◌, refl, subst, arith, Option, Some, None, inl, inr, ◌⊎◌, length-append}
use Rattle.std.specs.Prelude.{slice_get}
use Rattle.std.specs.List.{last_or}
use Rattle.std.proofs.Math.Seq.{take-append_seam}
use Rattle.std.proofs.lemmas.Bool.{cases_lt}
use Rattle.std.proofs.lemmas.List.{take-append-le}
use Rattle.std.proofs.lemmas.Nat.{same_from_place, mul-add-lt}
use Rattle.fort_theory.proofs.Lists.{none-some}
use Rattle.fort_transducers.specs.declared.agtt.Agtt.{Agtt}
use Rattle.fort_gtt_closure.specs.declared.entry.Entry.{Entry}
use Rattle.fort_gtt_closure.specs.declared.entry.Why.{Why}
use Rattle.fort_gtt_closure.specs.Reasons.{IsListed, IsFirstReason}
use Rattle.fort_gtt_closure.specs.Passes.{IsDue, IsNext, IsPassed, IsListOfPasses, last_number, number}
use Rattle.fort_gtt_closure.specs.Progress.{IsVisited, Progress}
use Rattle.fort_gtt_closure.proofs.Places.{place-push}

passed-step : (last : Option ℕ) (n m : ℕ) → IsPassed last (n + 1) m → IsPassed last n m ⊎ (m ≡ n)
passed-step None n m h = elim (cases_lt m n) [ inl low ↦ inl low | inr high ↦ inr (omega (arith, h, high)) ]
passed-step (Some l) n m (inl w) = elim (cases_lt m n) [ inl low ↦ inl (inl (w.0, low)) | inr high ↦ inr (omega (arith, w.1, high)) ]
passed-step (Some l) n m (inr w) = elim w.1 [
  | inl past ↦ inl (inr (omega (arith, w.0), inl past))
  | inr lt ↦ elim (cases_lt m n) [ inl low ↦ inl (inr (omega (arith, w.0), inr low)) | inr high ↦ inr (omega (arith, lt, high)) ]
]

none-passed : (n m : ℕ) → IsPassed (Some n) (n + 1) m → ⊥
none-passed n m (inl w) = omega (arith, w.0, w.1)
none-passed n m (inr w) = omega (arith, w.0)

-- going on from the greatest number to 0 passes nothing
round : (last : Option ℕ) (total m : ℕ) → m < total → IsPassed last 0 m → IsPassed last total m
round None total m low h = absurd (omega (arith, h))
round (Some l) total m low (inl w) = absurd (omega (arith, w.1))
round (Some l) total m low (inr w) = elim w.1 [
  | inl past ↦ elim (cases_lt l total) [ inl lt ↦ inl (past, low) | inr le ↦ inr (le, inl past) ]
  | inr lt ↦ absurd (omega (arith, lt))
]

last-push : {X : Type 0} (f : X → ℕ) (o : Option ℕ) (xs : List X) (x : X) → last_or o (map f (xs ++ x ∷ [])) ≡ Some (f x)
last-push f o [] x = refl
last-push f o (y ∷ ys) x = last-push f (Some (f y)) ys x

module _ (agtt : Agtt) where
  each-push : (es : List Entry) (e : Entry) → ((k : ℕ) (d : Entry) → slice_get es k ≡ Some d → IsNext agtt (take k es) d) → IsNext agtt es e
      → (k : ℕ) (d : Entry) → slice_get (es ++ e ∷ []) k ≡ Some d → IsNext agtt (take k (es ++ e ∷ [])) d
  each-push es e each next k d at = elim (place-push es e k d at) [
    | inl w ↦ subst (λ xs. IsNext agtt xs d) (sym (take-append-le k es (e ∷ []) (omega (arith, w.0)))) (each k d w.1)
    | inr w ↦ subst (λ xs. IsNext agtt xs d) (sym (ap (λ i. take i (es ++ e ∷ [])) w.0 ∙ take-append_seam es (e ∷ []))) (subst (IsNext agtt es) w.1 next)
  ]

  module _ (p q n : ℕ) (here : number agtt p q ≡ n) (right : p < agtt.right.states) (left : q < agtt.left.states) where
    at_here : (es : List Entry) (a b : ℕ) → (IsDue agtt es p q → ⊥) → IsDue agtt es a b → number agtt a b ≡ n → ⊥
    at_here es a b none due e =
        let same = same_from_place a b p q agtt.left.states due.left left (e ∙ sym here) in
        none (subst (λ x. IsDue agtt es x q) same.0 (subst (λ x. IsDue agtt es a x) same.1 due))

    not_due : (start es : List Entry) → Progress agtt start es n → (IsDue agtt es p q → ⊥) → Progress agtt start es (n + 1)
    not_due start es h none = record {
      each = h.each;
      passed = λ a b due way. elim (passed-step (last_number agtt es) n (number agtt a b) way) [
        | inl w ↦ h.passed a b due w
        | inr e ↦ at_here es a b none due e
      ];
      grown = h.grown;
      still = λ same a b due lt. elim (cases_lt (number agtt a b) n) [
        | inl low ↦ h.still same a b due low
        | inr high ↦ at_here es a b none due (omega (arith, lt, high))
      ];
    }

    listed : (start es : List Entry) (why : Why) → Progress agtt start es n → (IsListed es p q → ⊥) → IsFirstReason agtt es p q why
        → Progress agtt start (es ++ record { p = p; q = q; why = why } ∷ []) (n + 1)
    listed start es why h unlisted first =
        let e : Entry = record { p = p; q = q; why = why } in
        let next : IsNext agtt es e = record {
          due = record { right = right; left = left; unlisted = unlisted; why = why; follows = first.follows };
          reason = first;
          nearest = λ a b due way. h.passed a b due (subst (λ i. IsPassed (last_number agtt es) i (number agtt a b)) here way);
        } in
        record {
          each = each-push es e h.each next;
          passed = λ a b due way. none-passed n (number agtt a b)
              (subst (λ o. IsPassed o (n + 1) (number agtt a b)) (last-push (λ (d : Entry). number agtt d.p d.q) None es e ∙ ap Some here) way);
          grown = (let more = h.grown in omega (arith, more, length-append es (e ∷ [])));
          still = λ same a b due lt. absurd (let more = h.grown in omega (arith, more, same, length-append es (e ∷ [])));
        }

    pub Progress-visited : (start old new : List Entry) → Progress agtt start old n → IsVisited agtt p q old new → Progress agtt start new (n + 1)
    Progress-visited start old new h (inl w) = subst (λ es. Progress agtt start es (n + 1)) (sym w.0) (not_due start old h w.1)
    Progress-visited start old new h (inr w) = subst (λ es. Progress agtt start es (n + 1)) (sym w.3) (listed start old w.0 h w.1 w.2)

  pub Progress-none : (es : List Entry) → es ≡ [] → Progress agtt es es 0
  Progress-none es e = rw e record {
    each = λ k d at. absurd (none-some at);
    passed = λ p q due way. omega (arith, way);
    grown = omega arith;
    still = λ same p q due lt. omega (arith, lt);
  }

  number-below : (p q : ℕ) → p < agtt.right.states → q < agtt.left.states → number agtt p q < agtt.right.states * agtt.left.states
  number-below p q a b = omega (arith, mul-add-lt p agtt.left.states q agtt.right.states a b)

  -- a pass is at its end, and another begins
  pub Progress-again : (start es : List Entry) → Progress agtt start es (agtt.right.states * agtt.left.states) → Progress agtt es es 0
  Progress-again start es h = record {
    each = h.each;
    passed = λ p q due way. h.passed p q due
        (round (last_number agtt es) (agtt.right.states * agtt.left.states) (number agtt p q) (number-below p q due.right due.left) way);
    grown = omega arith;
    still = λ same p q due lt. omega (arith, lt);
  }

  -- a pass is at its end, and nothing was listed in it
  pub IsListOfPasses-still : (start es : List Entry) → Progress agtt start es (agtt.right.states * agtt.left.states) → length es ≡ length start → IsListOfPasses agtt es
  IsListOfPasses-still start es h same = record { each = h.each; done = λ p q due. h.still same p q due (number-below p q due.right due.left) }

  pub Progress-at : (start es : List Entry) (n m : ℕ) → n ≡ m → Progress agtt start es n → Progress agtt start es m
  Progress-at start es n m e h = subst (Progress agtt start es) e h
