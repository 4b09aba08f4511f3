-- The last of a tuple's nodes is the node of the tuple itself.
use Rattle.std.proofs.Common.{◌≡◌, ℕ, zero, suc, ◌-◌, ◌<◌, ◌≤◌, List, [], ◌∷◌, ◌++◌, length, get_or, refl, ap, sym, ◌∙◌, arith, subst, ⊎_elim}
use Rattle.std.specs.Prelude.{Contains}
use Rattle.std.specs.List.{flat_map}
use Rattle.std.proofs.lemmas.Bool.{cases_lt}
use Rattle.std.proofs.lemmas.List.{get_or_default}
use Rattle.std.proofs.lemmas.List.Elements.{Contains-get_or, Contains-push, Contains-push_cases, Contains-append_cases}
use Rattle.fort_theory.specs.Signatures.{Signature}
use Rattle.fort_theory.proofs.Members.{Contains-head, Contains-behind, Contains-cons_cases, Contains-none}
use Rattle.fort_theory.specs.EachOnce.{StandsBefore, AreEachOnce}
use Rattle.fort_tables.specs.Tuples.{Tuple, tabulate, kid, kid_count, kids, level}
use Rattle.fort_tables.specs.Entries.{Entry, tuples_of}
use Rattle.fort_tables.proofs.EntryLaws.{length-tuples_after}
use Rattle.fort_tables.proofs.TupleLaws.{level_kid, no_kid}
use Rattle.fort_tables.specs.TupleNodes.{tuples_within, AreNodesOf}
use Rattle.fort_certificate_theory.specs.OpenChecked.{last_of}
use Rattle.fort_certificate_theory.proofs.OneOpenWritten.{stands_twice}

-- ---- a last value that stands nowhere before

module _ {A : Type 0} where
  front_one : (front back before : List A) (x : A) → front ++ x ∷ back ≡ before ++ x ∷ [] → (Contains before x → ⊥) → front ≡ before
  front_one [] back [] x e none = refl
  front_one [] back (b ∷ before) x e none = let same : b ≡ x = cc in absurd (none (subst (λ (z : A). Contains (b ∷ before) z) same (Contains-head b before)))
  front_one (f ∷ front) back [] x e none = let tail : front ++ x ∷ back ≡ [] = cc in absurd (some front tail)
    where
      some : (front : List A) → front ++ x ∷ back ≡ [] → ⊥
      some [] h = cc
      some (z ∷ zs) h = cc
  front_one (f ∷ front) back (b ∷ before) x e none =
      let head : f ≡ b = cc in
      let tail : front ++ x ∷ back ≡ before ++ x ∷ [] = cc in
      let rest = front_one front back before x tail (λ c. none (Contains-behind b before x c)) in
      λ i. head i ∷ rest i

  pub record IsLastOf (ys : List A) (x d : A) : Type 0 where
    pub some : 0 < length ys
    pub last : get_or ys (length ys - 1) d ≡ x

  -- so it is the last one where each is taken once
  pub last_once : (before ys : List A) (x d : A) → AreEachOnce (before ++ x ∷ []) ys → (Contains before x → ⊥) → IsLastOf ys x d
  last_once before ys x d once none =
      let c = (once.same x).0 (Contains-push before x) in
      let at : get_or ys c.0 d ≡ x = get_or_default ys c.0 d x c.1 ∙ c.2 in
      let n = length ys - 1 in
      let within : n < length ys = let l = c.1 in omega arith in
      record {
        some = let l = c.1 in omega arith;
        last = ⊎_elim
            (λ (l : c.0 < n). absurd (nothing_behind (get_or ys n d)
            (subst (λ (z : A). StandsBefore ys z (get_or ys n d)) at (stands_twice ys c.0 n d l within)) (Contains-get_or ys n d within)))
            (λ l. let m = c.1 in let e : n ≡ c.0 = omega arith in ap (λ i. get_or ys i d) e ∙ at)
            (cases_lt c.0 n);
      }
    where
      nothing_behind : (z : A) → StandsBefore ys x z → Contains ys z → ⊥
      nothing_behind z s has =
          let first = once.ordered x z s in
          let front = front_one first.front first.back before x (sym first.split) none in
          ⊎_elim
          (λ (k : Contains before z). first.none (subst (λ (zs : List A). Contains zs z) (sym front) k))
          (λ e. once.distinct x (subst (λ (w : A). StandsBefore ys x w) (sym e) s))
          (Contains-push_cases before x z ((once.same z).1 has))

-- ---- the tuples in the children are smaller

within_flat : (h : ℕ) (F : Tuple → List Tuple) (ts : List Tuple) (u : Tuple)
    → ((t v : Tuple) → Contains ts t → Contains (F t) v → level v < h) → Contains (flat_map F ts) u → level u < h
within_flat h F [] u all c = absurd (Contains-none u c)
within_flat h F (t ∷ ts) u all c =
    ⊎_elim
    (λ (k : Contains (F t) u). all t u (Contains-head t ts) k)
    (λ k. within_flat h F ts u (λ s v there k. all s v (Contains-behind t ts s there) k) k)
    (Contains-append_cases (F t) (flat_map F ts) u c)

kid_within : (n : ℕ) (g : ℕ → Tuple) (h : ℕ) (t : Tuple) → ((j : ℕ) → j < n → level (g j) ≤ h) → Contains (tabulate n g) t → level t ≤ h
kid_within zero g h t all c = absurd (Contains-none t c)
kid_within (suc n) g h t all c =
    ⊎_elim
    (λ (e : g 0 ≡ t). subst (λ (u : Tuple). level u ≤ h) e (all 0 (omega arith)))
    (λ k. kid_within n (λ j. g (suc j)) h t (λ j l. all (suc j) (omega arith)) k)
    (Contains-cons_cases (g 0) (tabulate n (λ j. g (suc j))) t c)

-- children where there is a level below
kids_below : (h : ℕ) (t u : Tuple) → level t ≤ suc h → Contains (kids t) u → level u ≤ h
kids_below h t u l c = kid_within (kid_count t) (kid t) h u (λ j m. level_kid t j h l) c

-- by what holds of the depth below
within_kids : (n h : ℕ) (t u : Tuple) → ((s v : Tuple) → level s ≤ n → Contains (tuples_within n s) v → level v ≤ level s) → level t ≡ h
    → level t ≤ suc n → Contains (flat_map (tuples_within n) (kids t)) u → level u < h
within_kids n zero t u below e l c =
    within_flat zero (tuples_within n) (kids t) u
    (λ s v there k. absurd (Contains-none s (subst (λ (m : ℕ). Contains (tabulate m (kid t)) s) (no_kid t (omega arith)) there))) c
within_kids n (suc h) t u below e l c =
    within_flat (suc h) (tuples_within n) (kids t) u
    (λ s v there k.
    let a = kids_below h t s (omega arith) there in
    let b = below s v (kids_below n t s l there) k in
    omega arith) c

within_level : (n : ℕ) (t u : Tuple) → level t ≤ n → Contains (tuples_within n t) u → level u ≤ level t
within_level zero t u l c =
    ⊎_elim (λ (e : t ≡ u). omega (arith, ap level e)) (λ k. absurd (Contains-none u k)) (Contains-cons_cases t [] u c)
within_level (suc n) t u l c =
    ⊎_elim
    (λ (k : Contains (flat_map (tuples_within n) (kids t)) u). let m = within_kids n (level t) t u (within_level n) refl l k in omega arith)
    (λ e. omega (arith, ap level e))
    (Contains-push_cases (flat_map (tuples_within n) (kids t)) t u c)

-- a tuple stands in its tuples at their end alone
record EndsInItself (t : Tuple) (ts : List Tuple) : Type 0 where
  before : List Tuple
  is : ts ≡ before ++ t ∷ []
  none : Contains before t → ⊥

ends_in_itself : (n : ℕ) (t : Tuple) → level t ≡ n → EndsInItself t (tuples_within n t)
ends_in_itself zero t e = record { before = []; is = refl; none = λ c. Contains-none t c }
ends_in_itself (suc n) t e = record {
  before = flat_map (tuples_within n) (kids t);
  is = refl;
  none = λ c. let l = within_kids n (level t) t t (within_level n) refl (omega arith) c in omega arith;
}

pub record IsLastNode (t : Tuple) (nodes : List Entry) : Type 0 where
  pub some : 0 < length nodes
  pub last : last_of nodes ≡ t

-- Result
pub last_node : (sig : Signature) (n : ℕ) (t : Tuple) (nodes : List Entry) → AreNodesOf sig n t nodes → IsLastNode t nodes
last_node sig n t nodes h =
    let end = ends_in_itself (level t) t refl in
    let last = last_once end.before (tuples_of nodes) t [] (subst (λ (ts : List Tuple). AreEachOnce ts (tuples_of nodes)) end.is h.once) end.none in
    let count : length (tuples_of nodes) ≡ length nodes = omega (arith, length-tuples_after [] nodes) in
    record { some = omega (arith, last.some); last = ap (λ k. get_or (tuples_of nodes) (k - 1) []) (sym count) ∙ last.last }
