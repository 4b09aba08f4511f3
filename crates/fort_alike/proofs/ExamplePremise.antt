-- The example's atom meets what is asked of an atom with listed patterns, and its list of numbers makes a closure test.
use Rattle.std.specs.Prelude.{◌≡◌, ℕ, zero, suc, ◌<◌, List, [], ◌∷◌, All, get_or, refl}
use Rattle.std.proofs.Common.{ap, sym, arith, inl, inr}
use Rattle.std.proofs.lemmas.List.Elements.{All-nil, All-cons}
use Rattle.fort_theory.specs.Patterns.{Pattern, Any, Pair, FitsPair, IsSystem}
use Rattle.fort_theory.specs.PatternOrder.{PatternBefore, AreSubpatternsInOrder}
use Rattle.fort_theory.proofs.Members.{Contains-head, Contains-cons_cases, Contains-none}
use Rattle.fort_theory.proofs.PatternOrderLaws.{Contains-flat_map_subpatterns}
use Rattle.fort_theory.specs.Cores.{Star, Leaf, Related}
use Rattle.fort_theory.specs.Parts as parts
use Rattle.fort_theory.proofs.ColumnLaws.{AreColumns-Related}
use Rattle.fort_reachability.specs.PatternClosures.{InPatternClosure, AnyRight, AnyLeft, ByArguments, ThroughPair, NoneIn}
use Rattle.fort_alike.specs.ListedAtoms.{IsListedAtom}
use Rattle.fort_alike.specs.ClosureTests.{IsClosure, ListsClosure}
use Rattle.fort_alike.proofs.AtomPlaces.{Contains-exchanged, IsStrictlyIncreasing-two}
use Rattle.fort_alike.proofs.SystemAtoms.{IsListedAtom-relation}
use Rattle.fort_alike.proofs.ClosureTestLaws.{IsClosure-listed}
use Rattle.fort_alike.proofs.Example.{a, f_of_a, system, star_atom, numbers, closure}

abbrev pairs : List Pair
pairs = (a, f_of_a) ∷ []

system_is : IsSystem system
system_is = record {
  constant = (0, refl);
  some = omega arith;
  few = omega arith;
  fits =
      All-cons (All (FitsPair system.signature)) pairs []
      (All-cons (FitsPair system.signature) (a, f_of_a) [] ((refl, tt), (refl, ((refl, tt), tt))) (All-nil (FitsPair system.signature)))
      (All-nil (All (FitsPair system.signature)));
}

columns_are : parts.AreColumns (Leaf (Related Star 1 0 1)) (0 ∷ 1 ∷ [])
columns_are = AreColumns-Related Star 1 0 1 (0 ∷ 1 ∷ []) (IsStrictlyIncreasing-two 0 1 (omega arith)) (λ n. ((λ c. c), (λ c. c)))

lefts_are : AreSubpatternsInOrder (a ∷ []) (a ∷ [])
lefts_are = record { same = λ p. Contains-flat_map_subpatterns (a ∷ []) p; ordered = λ i j l m. absurd (omega arith) }

rights_ordered : (i j : ℕ) → i < j → j < 2 → PatternBefore (get_or (a ∷ f_of_a ∷ []) i Any) (get_or (a ∷ f_of_a ∷ []) j Any)
rights_ordered zero zero l m = absurd (omega arith)
rights_ordered zero (suc zero) l m = inl (omega arith)
rights_ordered zero (suc (suc j)) l m = absurd (omega arith)
rights_ordered (suc i) j l m = absurd (omega arith)

rights_are : AreSubpatternsInOrder (f_of_a ∷ []) (a ∷ f_of_a ∷ [])
rights_are = record {
  same =
      λ p.
      let within = Contains-flat_map_subpatterns (f_of_a ∷ []) p in
      ((λ c. within.0 (Contains-exchanged f_of_a a p c)), (λ w. Contains-exchanged a f_of_a p (within.1 w)));
  ordered = rights_ordered;
}

pub star_atom_is : IsListedAtom star_atom
star_atom_is = IsListedAtom-relation system system_is 1 Star 0 1 (0 ∷ 1 ∷ []) columns_are (a ∷ []) (a ∷ f_of_a ∷ []) lefts_are rights_are

-- no instance of f(a) reduces to a: neither by the arguments, nor through the pair, whose left side is a itself
f_of_a-apart : {p q : Pattern} → InPatternClosure pairs p q → p ≡ f_of_a → q ≡ a → ⊥
f_of_a-apart AnyRight e d = absurd cc
f_of_a-apart AnyLeft e d = absurd cc
f_of_a-apart (ByArguments {f = f} {ps = ps} {qs = qs} hs) e d = absurd cc
f_of_a-apart (ThroughPair pair among h k) e d = elim (Contains-cons_cases (a, f_of_a) [] pair among) [
  | inl same ↦ f_of_a-apart h e (ap (λ (z : Pair). z.0) (sym same))
  | inr none ↦ Contains-none pair none
]

numbers_are : ListsClosure star_atom numbers
numbers_are zero zero l m = ((λ c. ByArguments NoneIn), (λ h. Contains-head (0, 0) []))
numbers_are (suc zero) zero l m = (
  (λ c. elim (Contains-cons_cases (0, 0) [] (1, 0) c) [
    | inl e ↦ absurd (let d : 0 ≡ 1 = ap (λ (z : ℕ × ℕ). z.0) e in omega arith)
    | inr none ↦ absurd (Contains-none (1, 0) none)
  ]),
  (λ h. absurd (f_of_a-apart h refl refl)),
)
numbers_are (suc (suc i)) zero l m = absurd (omega arith)
numbers_are i (suc j) l m = absurd (omega arith)

pub closure_is : IsClosure star_atom closure
closure_is = IsClosure-listed star_atom star_atom_is numbers (λ e. numbers_are)
