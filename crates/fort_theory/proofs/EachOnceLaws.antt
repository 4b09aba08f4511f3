-- Each value once: what one more value at the end changes, whether it is there already or new.
use Rattle.std.specs.Prelude.{◌≡◌, List, [], ◌∷◌, ◌++◌, ◌⊎◌, Contains}
use Rattle.std.proofs.Common.{ap, sym, ◌∙◌, inl, inr, append_assoc, subst}
use Rattle.std.proofs.lemmas.List.Elements.{Contains-append_left, Contains-append_right, Contains-push, Contains-push_cases}
use Rattle.fort_theory.specs.EachOnce.{StandsBefore, StandsBeforeAll, AreEachOnce}
use Rattle.fort_theory.proofs.Members.{Contains-head, Contains-none, Contains-cons_cases}

pub AreEachOnce-nil : {A : Type 0} → AreEachOnce {A = A} [] []
AreEachOnce-nil {A} =
    record {
      same = λ x. (λ c. c, λ c. c);
      distinct = λ x s. nothing s.front s.back x s.split;
      ordered = λ x y s. absurd (nothing s.front s.back x s.split);
    }
  where
    nothing : (front back : List A) (x : A) → [] ≡ front ++ (x ∷ back) → ⊥
    nothing [] back x e = cc
    nothing (z ∷ front) back x e = cc

-- a value that stands before all y in a list does so where more follows
StandsBeforeAll-push : {A : Type 0} (xs : List A) (z x y : A) → StandsBeforeAll xs x y → StandsBeforeAll (xs ++ z ∷ []) x y
StandsBeforeAll-push xs z x y s =
    record {
      front = s.front;
      back = s.back ++ z ∷ [];
      split = ap (λ ys. ys ++ z ∷ []) s.split ∙ append_assoc s.front (x ∷ s.back) (z ∷ []);
      none = s.none;
    }

-- the last value is there already
pub AreEachOnce-there : {A : Type 0} (xs ys : List A) (z : A) → AreEachOnce xs ys → Contains ys z → AreEachOnce (xs ++ z ∷ []) ys
AreEachOnce-there {A} xs ys z once there =
    record {
      same = λ x. (λ c. to x (Contains-push_cases xs z x c), λ c. Contains-append_left xs (z ∷ []) x ((once.same x).1 c));
      distinct = once.distinct;
      ordered = λ x y s. StandsBeforeAll-push xs z x y (once.ordered x y s);
    }
  where
    to : (x : A) → Contains xs x ⊎ (z ≡ x) → Contains ys x
    to x (inl c) = (once.same x).0 c
    to x (inr e) = subst (λ (w : A). Contains ys w) e there

-- where a value is before another one in a list with one more, either both were there, or the other is the last
push-before : {A : Type 0} (ys : List A) (z x y : A) → StandsBefore (ys ++ z ∷ []) x y → StandsBefore ys x y ⊎ (Contains ys x × (z ≡ y))
push-before {A} ys z x y s = by ys s.front s.split
  where
    last : (back : List A) → Contains back y → (rest : List A) → rest ++ z ∷ [] ≡ back → Contains rest y ⊎ (z ≡ y)
    last back c rest e = let d : Contains (rest ++ z ∷ []) y = rw e c in Contains-push_cases rest z y d

    by : (ws front : List A) → ws ++ z ∷ [] ≡ front ++ (x ∷ s.back) → StandsBefore ws x y ⊎ (Contains ws x × (z ≡ y))
    by [] [] e = let none : [] ≡ s.back = cc in absurd (Contains-none y (subst (λ (back : List A). Contains back y) (sym none) s.behind))
    by [] (v ∷ front) e = absurd (short front (ap tail e))
      where
        tail : List A → List A
        tail [] = []
        tail (w ∷ ws) = ws

        short : (front : List A) → [] ≡ front ++ (x ∷ s.back) → ⊥
        short [] d = cc
        short (w ∷ front) d = cc
    by (w ∷ ws) [] e =
        let head : w ≡ x = cc in
        let rest : ws ++ z ∷ [] ≡ s.back = cc in
        elim (last s.back s.behind ws rest) [
          | inl c ↦ inl (record { front = []; back = ws; split = ap (λ v. v ∷ ws) head; behind = c })
          | inr d ↦ inr (subst (λ (v : A). Contains (w ∷ ws) v) head (Contains-head w ws), d)
        ]
    by (w ∷ ws) (v ∷ front) e =
        let head : w ≡ v = cc in
        let rest : ws ++ z ∷ [] ≡ front ++ (x ∷ s.back) = cc in
        elim (by ws front rest) [
          | inl t ↦ inl (record { front = w ∷ t.front; back = t.back; split = ap (λ vs. w ∷ vs) t.split; behind = t.behind })
          | inr p ↦ inr (Contains-append_right (w ∷ []) ws x p.0, p.1)
        ]

-- what is in a list stands in it after some values
split_at : {A : Type 0} (xs : List A) (x : A) → Contains xs x → (front : List A) × (back : List A) × (xs ≡ front ++ (x ∷ back))
split_at [] x c = absurd (Contains-none x c)
split_at (w ∷ xs) x c =
    elim (Contains-cons_cases w xs x c) [
      | inl e ↦ ([], xs, ap (λ v. v ∷ xs) e)
      | inr d ↦ let p = split_at xs x d in (w ∷ p.0, p.1, ap (λ vs. w ∷ vs) p.2)
    ]

-- the last value is new
pub AreEachOnce-new : {A : Type 0} (xs ys : List A) (z : A) → AreEachOnce xs ys → (Contains ys z → ⊥) → AreEachOnce (xs ++ z ∷ []) (ys ++ z ∷ [])
AreEachOnce-new {A} xs ys z once fresh =
    record {
      same = λ x. (λ c. to xs ys x (λ d. (once.same x).0 d) c, λ c. to ys xs x (λ d. (once.same x).1 d) c);
      distinct = λ x s. apart x (push-before ys z x x s);
      ordered = λ x y s. order x y (push-before ys z x y s);
    }
  where
    to : (us vs : List A) (x : A) → (Contains us x → Contains vs x) → Contains (us ++ z ∷ []) x → Contains (vs ++ z ∷ []) x
    to us vs x f c =
        elim (Contains-push_cases us z x c) [
          | inl d ↦ Contains-append_left vs (z ∷ []) x (f d)
          | inr e ↦ subst (λ (w : A). Contains (vs ++ z ∷ []) w) e (Contains-push vs z)
        ]

    apart : (x : A) → StandsBefore ys x x ⊎ (Contains ys x × (z ≡ x)) → ⊥
    apart x (inl s) = once.distinct x s
    apart x (inr (c, e)) = fresh (subst (λ (w : A). Contains ys w) (sym e) c)

    order : (x y : A) → StandsBefore ys x y ⊎ (Contains ys x × (z ≡ y)) → StandsBeforeAll (xs ++ z ∷ []) x y
    order x y (inl s) = StandsBeforeAll-push xs z x y (once.ordered x y s)
    order x y (inr (c, e)) =
        let p = split_at xs x ((once.same x).1 c) in
        let none : Contains p.0 y → ⊥ =
        λ d.
        let there : Contains xs y = rw p.2 (Contains-append_left p.0 (x ∷ p.1) y d) in
        fresh (subst (λ (w : A). Contains ys w) (sym e) ((once.same y).0 there)) in
        StandsBeforeAll-push xs z x y (record { front = p.0; back = p.1; split = p.2; none = none })
