-- The patterns that stand within some patterns can be listed in their order.
use Rattle.std.proofs.Common.{◌≡◌, ◌⊎◌, ℕ, zero, suc, ◌<◌, List, [], ◌∷◌, ◌++◌, map, length, get_or, refl, sym, ◌∙◌, arith, subst, inl, inr, ⊎_elim}
use Rattle.std.specs.Prelude.{Contains}
use Rattle.std.proofs.lemmas.Bool.{cases_lt}
use Rattle.std.proofs.lemmas.List.Elements.{Contains-get_or, Contains-append_cases, Contains-append_left, Contains-append_right}
use Rattle.fort_theory.specs.Patterns.{Pattern, Patterns, Any, At, NoPattern, MorePatterns, Pair}
use Rattle.fort_theory.specs.PatternOrder.{PatternBefore, PatternsBefore, subpatterns, StandsWithin, AreSubpatternsInOrder}
use Rattle.fort_theory.proofs.Members.{Contains-head, Contains-behind, Contains-cons_cases, Contains-none}
use Rattle.fort_certificate_theory.specs.ClosureSteps.{AreSidePatterns}

-- ---- of two patterns one comes first, or they are one

abbrev AreCompared : Pattern → Pattern → Type 0
AreCompared p q = PatternBefore p q ⊎ ((p ≡ q) ⊎ PatternBefore q p)

abbrev AllCompared : Patterns → Patterns → Type 0
AllCompared ps qs = PatternsBefore ps qs ⊎ ((ps ≡ qs) ⊎ PatternsBefore qs ps)

one_symbol : (f g : ℕ) (ps qs : Patterns) → f ≡ g → AllCompared ps qs → AreCompared (At f ps) (At g qs)
one_symbol f g ps qs e (inl h) = inl (inr (e, h))
one_symbol f g ps qs e (inr (inl d)) = inr (inl (λ i. At (e i) (d i)))
one_symbol f g ps qs e (inr (inr h)) = inr (inr (inr (sym e, h)))

more_compared : (p q : Pattern) (ps qs : Patterns) → AreCompared p q → AllCompared ps qs → AllCompared (MorePatterns p ps) (MorePatterns q qs)
more_compared p q ps qs (inl h) rest = inl (inl h)
more_compared p q ps qs (inr (inl e)) (inl k) = inl (inr (e, k))
more_compared p q ps qs (inr (inl e)) (inr (inl d)) = inr (inl (λ i. MorePatterns (e i) (d i)))
more_compared p q ps qs (inr (inl e)) (inr (inr k)) = inr (inr (inr (sym e, k)))
more_compared p q ps qs (inr (inr h)) rest = inr (inr (inl h))

mutual
  compared : (p q : Pattern) → AreCompared p q
  compared Any Any = inr (inl refl)
  compared Any (At g qs) = inl tt
  compared (At f ps) Any = inr (inr tt)
  compared (At f ps) (At g qs) =
      ⊎_elim
      (λ (l : f < g). inl (inl l))
      (λ l. ⊎_elim
      (λ (m : g < f). inr (inr (inl m)))
      (λ m. let e : f ≡ g = omega arith in one_symbol f g ps qs e (all_compared ps qs))
      (cases_lt g f))
      (cases_lt f g)

  all_compared : (ps qs : Patterns) → AllCompared ps qs
  all_compared NoPattern NoPattern = inr (inl refl)
  all_compared NoPattern (MorePatterns q qs) = inl tt
  all_compared (MorePatterns p ps) NoPattern = inr (inr tt)
  all_compared (MorePatterns p ps) (MorePatterns q qs) = more_compared p q ps qs (compared p q) (all_compared ps qs)

-- ---- what comes before one that comes before another comes before that

mutual
  before_transitive : (p q r : Pattern) → PatternBefore p q → PatternBefore q r → PatternBefore p r
  before_transitive p q Any h k = absurd k
  before_transitive p Any (At e rs) h k = absurd h
  before_transitive Any (At g qs) (At e rs) h k = tt
  before_transitive (At f ps) (At g qs) (At e rs) h k =
      ⊎_elim
      (λ (l : f < g). ⊎_elim (λ (m : g < e). inl (omega arith)) (λ m. let d = m.0 in inl (omega arith)) k)
      (λ s. let d = s.0 in ⊎_elim (λ (m : g < e). inl (omega arith)) (λ m. inr (d ∙ m.0, all_transitive ps qs rs s.1 m.1)) k)
      h

  all_transitive : (ps qs rs : Patterns) → PatternsBefore ps qs → PatternsBefore qs rs → PatternsBefore ps rs
  all_transitive ps qs NoPattern h k = absurd k
  all_transitive ps NoPattern (MorePatterns r rs) h k = absurd h
  all_transitive NoPattern (MorePatterns q qs) (MorePatterns r rs) h k = tt
  all_transitive (MorePatterns p ps) (MorePatterns q qs) (MorePatterns r rs) h k =
      ⊎_elim
      (λ l. ⊎_elim (λ m. inl (before_transitive p q r l m)) (λ m. inl (subst (PatternBefore p) m.0 l)) k)
      (λ s. ⊎_elim (λ m. inl (subst (λ (x : Pattern). PatternBefore x r) (sym s.0) m)) (λ m. inr (s.0 ∙ m.0, all_transitive ps qs rs s.1 m.1)) k)
      h

-- ---- lists in order

abbrev IsInOrder : List Pattern → Type 0
IsInOrder [] = Unit {0}
IsInOrder (p ∷ ps) = ((q : Pattern) → Contains ps q → PatternBefore p q) × IsInOrder ps

-- the same patterns, and one more
record IsWithOne (p : Pattern) (ps : List Pattern) : Type 0 where
  list : List Pattern
  ordered : IsInOrder list
  from : (x : Pattern) → Contains list x → (p ≡ x) ⊎ Contains ps x
  first : Contains list p
  kept : (x : Pattern) → Contains ps x → Contains list x

put_first : (p q : Pattern) (qs : List Pattern) → IsInOrder (q ∷ qs) → PatternBefore p q → IsWithOne p (q ∷ qs)
put_first p q qs s h = record {
  list = p ∷ q ∷ qs;
  ordered = ((λ x c. ⊎_elim (λ e. subst (PatternBefore p) e h) (λ d. before_transitive p q x h (s.0 x d)) (Contains-cons_cases q qs x c)), s);
  from = λ x c. Contains-cons_cases p (q ∷ qs) x c;
  first = Contains-head p (q ∷ qs);
  kept = λ x c. Contains-behind p (q ∷ qs) x c;
}

put_nowhere : (p q : Pattern) (qs : List Pattern) → IsInOrder (q ∷ qs) → p ≡ q → IsWithOne p (q ∷ qs)
put_nowhere p q qs s e = record {
  list = q ∷ qs;
  ordered = s;
  from = λ x c. inr c;
  first = subst (Contains (q ∷ qs)) (sym e) (Contains-head q qs);
  kept = λ x c. c;
}

put_behind : (p q : Pattern) (qs : List Pattern) → IsInOrder (q ∷ qs) → PatternBefore q p → IsWithOne p qs → IsWithOne p (q ∷ qs)
put_behind p q qs s h w = record {
  list = q ∷ w.list;
  ordered = ((λ x c. ⊎_elim (λ e. subst (PatternBefore q) e h) (λ d. s.0 x d) (w.from x c)), w.ordered);
  from = λ x c. ⊎_elim (λ e. inr (subst (Contains (q ∷ qs)) e (Contains-head q qs))) (λ d. ⊎_elim (λ e. inl e) (λ b. inr (Contains-behind q qs x b)) (w.from x d)) (Contains-cons_cases q w.list x c);
  first = Contains-behind q w.list p w.first;
  kept = λ x c. ⊎_elim (λ e. subst (Contains (q ∷ w.list)) e (Contains-head q w.list)) (λ d. Contains-behind q w.list x (w.kept x d)) (Contains-cons_cases q qs x c);
}

with_one : (p : Pattern) (ps : List Pattern) → IsInOrder ps → IsWithOne p ps
with_one p [] s = record {
  list = p ∷ [];
  ordered = ((λ x c. absurd (Contains-none x c)), tt);
  from = λ x c. Contains-cons_cases p [] x c;
  first = Contains-head p [];
  kept = λ x c. absurd (Contains-none x c);
}
with_one p (q ∷ qs) s =
    ⊎_elim
    (λ h. put_first p q qs s h)
    (λ o. ⊎_elim (λ e. put_nowhere p q qs s e) (λ h. put_behind p q qs s h (with_one p qs s.1)) o)
    (compared p q)

record IsOrdered (xs : List Pattern) : Type 0 where
  list : List Pattern
  ordered : IsInOrder list
  from : (x : Pattern) → Contains list x → Contains xs x
  kept : (x : Pattern) → Contains xs x → Contains list x

in_order : (xs : List Pattern) → IsOrdered xs
in_order [] = record { list = []; ordered = tt; from = λ x c. c; kept = λ x c. c }
in_order (x ∷ xs) =
    let r = in_order xs in
    let w = with_one x r.list r.ordered in
    record {
      list = w.list;
      ordered = w.ordered;
      from = λ y c. ⊎_elim (λ e. subst (Contains (x ∷ xs)) e (Contains-head x xs)) (λ d. Contains-behind x xs y (r.from y d)) (w.from y c);
      kept = λ y c. ⊎_elim (λ e. subst (Contains w.list) e w.first) (λ d. w.kept y (r.kept y d)) (Contains-cons_cases x xs y c);
    }

order_at : (ps : List Pattern) → IsInOrder ps → (i j : ℕ) → i < j → j < length ps → PatternBefore (get_or ps i Any) (get_or ps j Any)
order_at [] s i j l m = absurd (omega arith)
order_at (p ∷ ps) s i zero l m = absurd (omega arith)
order_at (p ∷ ps) s zero (suc j) l m = s.0 (get_or ps j Any) (Contains-get_or ps j Any (omega arith))
order_at (p ∷ ps) s (suc i) (suc j) l m = order_at ps s.1 i j (omega arith) (omega arith)

-- ---- what stands within some patterns

abbrev all_within : List Pattern → List Pattern
all_within [] = []
all_within (t ∷ ts) = subpatterns t ++ all_within ts

within_from : (ts : List Pattern) (p : Pattern) → Contains (all_within ts) p → StandsWithin ts p
within_from [] p c = absurd (Contains-none p c)
within_from (t ∷ ts) p c =
    ⊎_elim
    (λ h. (t, Contains-head t ts, h))
    (λ h. let w = within_from ts p h in (w.0, Contains-behind t ts w.0 w.1, w.2))
    (Contains-append_cases (subpatterns t) (all_within ts) p c)

within_to : (ts : List Pattern) (p top : Pattern) → Contains ts top → Contains (subpatterns top) p → Contains (all_within ts) p
within_to [] p top c h = absurd (Contains-none top c)
within_to (t ∷ ts) p top c h =
    ⊎_elim
    (λ e. Contains-append_left (subpatterns t) (all_within ts) p (subst (λ (x : Pattern). Contains (subpatterns x) p) (sym e) h))
    (λ d. Contains-append_right (subpatterns t) (all_within ts) p (within_to ts p top d h))
    (Contains-cons_cases t ts top c)

-- Results
pub patterns_in_order : (tops : List Pattern) → (ps : List Pattern) × AreSubpatternsInOrder tops ps
patterns_in_order tops =
    let r = in_order (all_within tops) in (
      r.list,
      record {
        same = λ p. ((λ c. within_from tops p (r.from p c)), (λ w. r.kept p (within_to tops p w.0 w.1 w.2)));
        ordered = order_at r.list r.ordered;
      },
    )

pub side_patterns : (pairs : List Pair) → (lefts rights : List Pattern) × AreSidePatterns pairs lefts rights
side_patterns pairs =
    let l = patterns_in_order (map (λ (pair : Pair). pair.0) pairs) in
    let r = patterns_in_order (map (λ (pair : Pair). pair.1) pairs) in
    (l.0, r.0, record { left = l.1; right = r.1 })
