-- Ranks to which no round adds, with the least children without one, are the exact counts.
use Rattle.std.proofs.Common.{◌≡◌, ℕ, zero, suc, ◌<◌, ◌≤◌, List, [], ◌∷◌, map, length, get_or, true, false, ◌==◌, inl, inr, ⊎_elim, refl, ap, sym, ◌∙◌, arith, subst}
use Rattle.std.specs.Prelude.{Contains}
use Rattle.std.proofs.lemmas.Bool.{cases_Bool, eqb-true, eq-eqb}
use Rattle.std.proofs.lemmas.List.{length-map, get_or-map}
use Rattle.fort_theory.specs.Trees.{Tree, height}
use Rattle.fort_theory.specs.Logic.{HasInfinitelyMany}
use Rattle.fort_theory.proofs.Members.{Contains-cons_cases, Contains-none, Contains-Decides}
use Rattle.fort_tables.specs.Tables.{Table, IsTable, IsReached}
use Rattle.fort_tables.specs.Projections.{ArePure}
use Rattle.fort_tables.specs.PureStates.{GivesAlone, IsPureState}
use Rattle.fort_tables.specs.Counts.{Count, Finite, Infinite, is_infinite, KeepsRule, KeepRules, IsGreatestHeight, IsLeastInfinite, IsCountOf, count_at, AreCounts}
use Rattle.fort_tables.specs.Ranks.{AreSettled, IsLeastUnranked, count_by}
use Rattle.fort_tables.proofs.PureStateLaws.{term_of_pure, pure_child}
use Rattle.fort_tables.proofs.PureSearchLaws.{pure_from_test, test_from_pure}
use Rattle.fort_tables.proofs.MarkLaws.{heights_from_marks, many_from_marks, infinite_exactly, above_child}

-- the least children of the states without a rank
abbrev pub AreLeast : Table → ℕ → (ℕ → ℕ) → (ℕ → ℕ) → Type 0
AreLeast body c rank next = (q : ℕ) → IsPureState body c q → rank q ≡ 0 → IsLeastUnranked body c rank q (next q)

-- the counts that ranks and those children make
abbrev pub marks_by : (ℕ → ℕ) → (ℕ → ℕ) → ℕ → Count
marks_by rank next q = count_by (rank q) (next q)

module _ (body : Table) (c : ℕ) (rank next : ℕ → ℕ) (low : c < body.columns) (settled : AreSettled body c rank) (least : AreLeast body c rank next) where
  mark_ranked : (q s : ℕ) → rank q ≡ suc s → marks_by rank next q ≡ Finite s
  mark_ranked q s h = ap (λ n. count_by n (next q)) h

  mark_unranked : (q : ℕ) → rank q ≡ 0 → marks_by rank next q ≡ Infinite (next q)
  mark_unranked q h = ap (λ n. count_by n (next q)) h

  keeps_by : (q : ℕ) → IsPureState body c q → (n : ℕ) → rank q ≡ n → KeepsRule body c (marks_by rank next) q (count_by n (next q))
  keeps_by q pure zero e =
      let y = least q pure e in
      record { child = y.child; next = next (next q); infinite = mark_unranked (next q) y.none }
  keeps_by q pure (suc s) e = λ k d. let b = settled.children q s pure e k d in (b.0, mark_ranked k b.0 b.1, b.2)

  -- their rules hold
  pub rules_by_ranks : KeepRules body c (marks_by rank next)
  rules_by_ranks q pure = keeps_by q pure (rank q) refl

  module _ (is : IsTable body) (reached : IsReached body) where
    high_by_rank : (s q : ℕ) → IsPureState body c q → rank q ≡ suc s → (u : Tree) × GivesAlone body c q u × (s ≤ height u)
    high_by_rank zero q pure e = let u = term_of_pure body c q is reached low pure in (u.0, u.1, omega arith)
    high_by_rank (suc s) q pure e =
        let b = settled.tight q s pure e in
        let u = high_by_rank s b.state (pure_child body c q b.state low b.child) b.holds in
        above_child body c q b.state s is reached low b.child u.0 u.1 u.2

    greatest_by_rank : (s q : ℕ) → IsPureState body c q → rank q ≡ suc s → IsGreatestHeight body c q s
    greatest_by_rank s q pure e =
        let below = heights_from_marks body c (marks_by rank next) is low rules_by_ranks q s (mark_ranked q s e) in
        let u = high_by_rank s q pure e in
        record { bound = below; term = u.0; gives = u.1; reaches = omega (arith, u.2, below u.0 u.1) }

    unranked_by : (n m : ℕ) → is_infinite (count_by n m) ≡ true → n ≡ 0
    unranked_by zero m h = refl
    unranked_by (suc s) m h = absurd cc

    -- no rank exactly where infinitely many terms give the state
    many_by_none : (q : ℕ) → IsPureState body c q → rank q ≡ 0 → HasInfinitelyMany (GivesAlone body c q)
    many_by_none q pure e = many_from_marks body c (marks_by rank next) is reached low rules_by_ranks q (next q) pure (mark_unranked q e)

    none_by_many : (q : ℕ) → IsPureState body c q → HasInfinitelyMany (GivesAlone body c q) → rank q ≡ 0
    none_by_many q pure many = unranked_by (rank q) (next q) ((infinite_exactly body c (marks_by rank next) is reached low rules_by_ranks q pure).1 many)

    least_by_none : (q : ℕ) → IsPureState body c q → rank q ≡ 0 → IsLeastInfinite body c q (next q)
    least_by_none q pure e =
        let y = least q pure e in
        record {
          many = many_by_none q pure e;
          child = record { child = y.child; many = many_by_none (next q) (pure_child body c q (next q) low y.child) y.none };
          least = λ k z. y.least k z.child (none_by_many k (pure_child body c q k low z.child) z.many);
        }

    exact_by : (q : ℕ) → IsPureState body c q → (n : ℕ) → rank q ≡ n → IsCountOf body c q (count_by n (next q))
    exact_by q pure zero e = least_by_none q pure e
    exact_by q pure (suc s) e = greatest_by_rank s q pure e

    -- they are exact
    pub exact_by_ranks : (q : ℕ) → IsPureState body c q → IsCountOf body c q (marks_by rank next q)
    exact_by_ranks q pure = exact_by q pure (rank q) refl

-- the count beside a state of a list
pub count_at-map : (f : ℕ → Count) (qs : List ℕ) (q : ℕ) → Contains qs q → count_at qs (map f qs) q ≡ f q
count_at-map f [] q h = absurd (Contains-none q h)
count_at-map f (p ∷ qs) q h = elim (cases_Bool (p == q)) [
  | inl y ↦ rw y (ap f (eqb-true p q y))
  | inr z ↦ rw z (⊎_elim (λ (e : p ≡ q). absurd (let x : true ≡ false = sym (eq-eqb p q e) ∙ z in cc)) (λ d. count_at-map f qs q d) (Contains-cons_cases p qs q h))
]

-- rules speak of the marks of pure states alone
same_rule : (body : Table) (c : ℕ) (f g : ℕ → Count) → c < body.columns → ((q : ℕ) → IsPureState body c q → f q ≡ g q) → (q : ℕ) → (n : Count) → KeepsRule body c f q n → KeepsRule body c g q n
same_rule body c f g low same q (Finite r) h = λ k d. let b = h k d in (b.0, sym (same k (pure_child body c q k low d)) ∙ b.1, b.2)
same_rule body c f g low same q (Infinite p) h = record { child = h.child; next = h.next; infinite = sym (same p (pure_child body c q p low h.child)) ∙ h.infinite }

pub same_rules : (body : Table) (c : ℕ) (f g : ℕ → Count) → c < body.columns → ((q : ℕ) → IsPureState body c q → f q ≡ g q) → KeepRules body c f → KeepRules body c g
same_rules body c f g low same h q pure = subst (KeepsRule body c g q) (same q pure) (same_rule body c f g low same q (f q) (h q pure))

-- each pure state is in the list
pub pure_listed : (body : Table) (c : ℕ) (states : List ℕ) → ArePure body c states → (q : ℕ) → IsPureState body c q → Contains states q
pure_listed body c states pure q h = (Contains-Decides states q).0 (pure.all q h.within (test_from_pure body c q h))

-- Result: the counts of the pure states, by ranks to which no round adds
pub counts_by_ranks : (body : Table) (c : ℕ) (rank next : ℕ → ℕ) (states : List ℕ) → IsTable body → IsReached body → c < body.columns → ArePure body c states → AreSettled body c rank → AreLeast body c rank next
    → AreCounts body c states (map (marks_by rank next) states)
counts_by_ranks body c rank next states is reached low pure settled least =
    let f = marks_by rank next in
    record {
      count = length-map states f;
      are = λ i l.
          let m : i < length states = omega (arith, length-map states f) in
          let q = get_or states i 0 in
          let p = pure.each i m in
          subst (IsCountOf body c q) (sym (get_or-map f states i 0 (Finite 0) m)) (exact_by_ranks body c rank next low settled least is reached q (pure_from_test body c q p.0 p.1));
      rules = same_rules body c f (count_at states (map f states)) low (λ q p. sym (count_at-map f states q (pure_listed body c states pure q p))) (rules_by_ranks body c rank next low settled least);
    }
