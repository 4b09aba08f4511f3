-- Names that a reader meets one by one, in a set that tells keys apart by their names.
use Rattle.std.proofs.Common.{◌≡◌, ℕ, zero, suc, ◌+◌, ◌<◌, Bool, true, false, ◌||◌, List, [], ◌∷◌, ◌++◌, length, map, take, drop, get_or, slice_get, Some, Contains, inl, inr, ap, sym, ◌∙◌, subst, arith}
use Rattle.std.specs.Prelude.{bytes_eq, cond}
use Rattle.std.specs.Bool.{Decides}
use Rattle.std.specs.List.{IsDistinct, list_any}
use Rattle.std.proofs.lemmas.Bool.{cases_Bool}
use Rattle.std.proofs.lemmas.Option.{slice_get-get_or}
use Rattle.std.proofs.lemmas.List.{map-append}
use Rattle.std.proofs.lemmas.List.Elements.{Contains-append_left, Contains-append_right, Contains-append_cases}
use Rattle.std.proofs.lemmas.Slice.Eq.{bytes_eq-Decides}
use Rattle.fort_theory.proofs.Members.{Contains-head, Contains-behind, Contains-cons_cases, Contains-none}
use Rattle.fort_grammar.specs.RuleForms.{IsFirstMetAgain, IsFirstAlso}
use Rattle.fort_ari.specs.NameSets.{HaveSameNames, HasMetOnce, HasFoundNone}
use Rattle.fort_ari.proofs.Distinct.{IsDistinct-joined}

-- one more element of a list
pub take_one_more : {A : Type 0} (xs : List A) (i : ℕ) (x : A) → slice_get xs i ≡ Some x → take (suc i) xs ≡ take i xs ++ x ∷ []
take_one_more [] i x e = absurd cc
take_one_more (y ∷ xs) zero x e = let same : y ≡ x = cc in ap (λ z. z ∷ []) same
take_one_more (y ∷ xs) (suc i) x e = ap (λ zs. y ∷ zs) (take_one_more xs i x e)

-- a list around one of its elements
pub around : {A : Type 0} (xs : List A) (i : ℕ) (x : A) → slice_get xs i ≡ Some x → xs ≡ take i xs ++ x ∷ drop (suc i) xs
around [] i x e = absurd cc
around (y ∷ xs) zero x e = let same : y ≡ x = cc in ap (λ z. z ∷ xs) same
around (y ∷ xs) (suc i) x e = ap (λ zs. y ∷ zs) (around xs i x e)

module _ {K : Type 0} (name : K → List ℕ) where
  around_names : (ks : List K) (i : ℕ) (k : K) → slice_get ks i ≡ Some k → map name ks ≡ map name (take i ks) ++ name k ∷ map name (drop (suc i) ks)
  around_names ks i k e = ap (map name) (around ks i k e) ∙ map-append name (take i ks) (k ∷ drop (suc i) ks)

  more_names : (ks : List K) (i : ℕ) (k : K) → slice_get ks i ≡ Some k → map name (take (i + 1) ks) ≡ map name (take i ks) ++ name k ∷ []
  more_names ks i k e =
      let one : i + 1 ≡ suc i = omega arith in
      ap (λ n. map name (take n ks)) one ∙ (ap (map name) (take_one_more ks i k e) ∙ map-append name (take i ks) (k ∷ []))

  one_name : (x : List ℕ) (k : K) → Contains (name k ∷ []) x → name k ≡ x
  one_name x k c =
      elim (Contains-cons_cases (name k) [] x c) [
        | inl same ↦ same
        | inr none ↦ absurd (Contains-none x none)
      ]

  pub same_none : (ks : List K) → HaveSameNames name [] (take 0 ks)
  same_none ks = λ k. (λ c. c, λ c. c)

  pub met_none : (ks : List K) → HasMetOnce name [] ks 0
  unfolding IsDistinct
  met_none ks = record { same = same_none ks; once = tt }

  pub found_none : (others ks : List K) → HasFoundNone name others ks 0
  found_none others ks = λ x c _. Contains-none x c

  -- whether two keys have one name
  abbrev eq : K → K → Bool
  eq a b = bytes_eq (name a) (name b)

  -- whether a set has a key of this name
  pub member-Decides : (k : K) (ks : List K) → Decides (list_any (eq k) ks) (Contains (map name ks) (name k))
  member-Decides k [] = (λ h. absurd cc, λ c. absurd (Contains-none (name k) c))
  member-Decides k (x ∷ ks) =
      let rest = member-Decides k ks in
      elim (cases_Bool (eq k x)) [
        | inl here ↦ (
          λ h. let same : name k ≡ name x = (bytes_eq-Decides (name k) (name x)).0 (here) in
              subst (Contains (name x ∷ map name ks)) (sym same) (Contains-head (name x) (map name ks)),
          λ c. ap (λ b. b || list_any (eq k) ks) here,
        )
        | inr other ↦ (
          λ h. Contains-behind (name x) (map name ks) (name k) (rest.0 (sym (ap (λ b. b || list_any (eq k) ks) other) ∙ h)),
          λ c. elim (Contains-cons_cases (name x) (map name ks) (name k) c) [
            | inl same ↦ (let yes : eq k x ≡ true = (bytes_eq-Decides (name k) (name x)).1 (sym same) in absurd cc)
            | inr behind ↦ ap (λ b. b || list_any (eq k) ks) other ∙ rest.1 behind
          ],
        )
      ]

  module _ (ks : List K) (i : ℕ) (d : K) (below : i < length ks) where
    abbrev k : K
    k = get_or ks i d

    e : slice_get ks i ≡ Some k
    e = slice_get-get_or ks i d below

    -- a key that is put into the set
    pub same_more : (old new : List K) → ((q : K) → list_any (eq q) new ≡ cond (eq k q) true (list_any (eq q) old))
        → HaveSameNames name old (take i ks) → HaveSameNames name new (take (i + 1) ks)
    same_more old new puts same = λ q. (there q, back q)
      where
        put : (q : K) (b : Bool) → eq k q ≡ b → list_any (eq q) new ≡ cond b true (list_any (eq q) old)
        put q b is = puts q ∙ ap (λ t. cond t true (list_any (eq q) old)) is

        there : (q : K) → Contains (map name new) (name q) → Contains (map name (take (i + 1) ks)) (name q)
        there q c =
            let has = (member-Decides q new).1 c in
            subst (λ ns. Contains ns (name q)) (sym (more_names ks i k e))
            (elim (cases_Bool (eq k q)) [
              | inl here ↦ (let is : name k ≡ name q = (bytes_eq-Decides (name k) (name q)).0 (here) in
                  Contains-append_right (map name (take i ks)) (name k ∷ []) (name q) (subst (Contains (name k ∷ [])) is (Contains-head (name k) [])))
              | inr other ↦ Contains-append_left (map name (take i ks)) (name k ∷ []) (name q)
                  ((same q).0 ((member-Decides q old).0 (sym (put q false other) ∙ has)))
            ])

        back : (q : K) → Contains (map name (take (i + 1) ks)) (name q) → Contains (map name new) (name q)
        back q c =
            (member-Decides q new).0
            (elim (Contains-append_cases (map name (take i ks)) (name k ∷ []) (name q) (subst (λ ns. Contains ns (name q)) (more_names ks i k e) c)) [
              | inl before ↦ elim (cases_Bool (eq k q)) [
                | inl here ↦ put q true here
                | inr other ↦ put q false other ∙ (member-Decides q old).1 ((same q).1 before)
              ]
              | inr last ↦ put q true ((bytes_eq-Decides (name k) (name q)).1 (one_name (name q) k last))
            ])

    pub met_more : (old new : List K) → ((q : K) → list_any (eq q) new ≡ cond (eq k q) true (list_any (eq q) old))
        → list_any (eq k) old ≡ false → HasMetOnce name old ks i → HasMetOnce name new ks (i + 1)
    unfolding IsDistinct
    met_more old new puts fresh m = record {
      same = same_more old new puts m.same;
      once = subst (IsDistinct bytes_eq) (sym (more_names ks i k e)) (IsDistinct-joined (map name (take i ks)) (name k ∷ []) m.once (tt, tt)
          (λ x c d. let here = one_name x k d in
          let known = (m.same k).1 (subst (Contains (map name (take i ks))) (sym here) c) in
          let yes = (member-Decides k old).1 known in absurd cc));
    }

    pub met_again : (old : List K) → list_any (eq k) old ≡ true → HasMetOnce name old ks i
        → IsFirstMetAgain (map name ks) (name k)
    met_again old has m = record {
      front = map name (take i ks);
      back = map name (drop (suc i) ks);
      split = around_names ks i k e;
      again = (m.same k).0 ((member-Decides k old).0 has);
      first = m.once;
    }

    pub found_more : (keys others : List K) → HaveSameNames name keys others
        → list_any (eq k) keys ≡ false → HasFoundNone name others ks i → HasFoundNone name others ks (i + 1)
    found_more keys others same absent none = λ x c d.
        elim (Contains-append_cases (map name (take i ks)) (name k ∷ []) x (subst (λ ns. Contains ns x) (more_names ks i k e) c)) [
          | inl before ↦ none x before d
          | inr last ↦ (let here = one_name x k last in
              let yes = (member-Decides k keys).1 ((same k).1 (subst (Contains (map name others)) (sym here) d)) in absurd cc)
        ]

    pub found_also : (keys others : List K) → HaveSameNames name keys others
        → list_any (eq k) keys ≡ true → HasFoundNone name others ks i → IsFirstAlso (map name ks) (map name others) (name k)
    found_also keys others same has none = record {
      front = map name (take i ks);
      back = map name (drop (suc i) ks);
      split = around_names ks i k e;
      also = (same k).0 ((member-Decides k keys).0 has);
      before = none;
    }
