-- A set of numbers with one more, and the set of the marked states up to a place.
use Rattle.std.proofs.Common.{◌≡◌, ◌↔◌, ◌⊎◌, ℕ, ◌+◌, ◌<◌, List, [], ◌∷◌, Bool, refl, sym, subst, arith, inl, inr}
use Rattle.std.specs.Prelude.{Contains}
use Rattle.std.specs.BTreeSet.{insert_key}
use Rattle.std.specs.declared.cmp.Ordering.{Ordering}
use Rattle.std.specs.declared.cmp.Ordering.TheVariants.{Less, Equal, Greater}
use Rattle.std.specs.Ordering.{nat_cmp, match_ordering}
use Rattle.std.proofs.lemmas.Bool.{cases_eq}
use Rattle.std.proofs.lemmas.Bool.Decides.{nat_tests}
use Rattle.fort_theory.proofs.Members.{Contains-head, Contains-behind, Contains-cons_cases, Contains-none}
use Rattle.fort_tree_automata.specs.InhabitedStates.{IsMarked}

equal_same : (k x : ℕ) → nat_cmp k x ≡ Equal → x ≡ k
equal_same k x e = grind (arith, nat_tests)

placed_old : (o : Ordering) (k x q : ℕ) (ks rest : List ℕ) → (Contains ks q → Contains rest q) → Contains (x ∷ ks) q
    → Contains (match_ordering o (k ∷ x ∷ ks) (x ∷ ks) (x ∷ rest)) q
placed_old Less k x q ks rest more c = Contains-behind k (x ∷ ks) q c
placed_old Equal k x q ks rest more c = c
placed_old Greater k x q ks rest more c = elim (Contains-cons_cases x ks q c) [
  | inl here ↦ subst (λ y. Contains (x ∷ rest) y) here (Contains-head x rest)
  | inr there ↦ Contains-behind x rest q (more there)
]

placed_new : (o : Ordering) (k x : ℕ) (ks rest : List ℕ) → (o ≡ Equal → x ≡ k) → Contains rest k → Contains (match_ordering o (k ∷ x ∷ ks) (x ∷ ks) (x ∷ rest)) k
placed_new Less k x ks rest same c = Contains-head k (x ∷ ks)
placed_new Equal k x ks rest same c = subst (λ y. Contains (x ∷ ks) y) (same refl) (Contains-head x ks)
placed_new Greater k x ks rest same c = Contains-behind x rest k c

placed_from : (o : Ordering) (k x q : ℕ) (ks rest : List ℕ) → (Contains rest q → Contains ks q ⊎ (k ≡ q))
    → Contains (match_ordering o (k ∷ x ∷ ks) (x ∷ ks) (x ∷ rest)) q → Contains (x ∷ ks) q ⊎ (k ≡ q)
placed_from Less k x q ks rest from c = elim (Contains-cons_cases k (x ∷ ks) q c) [ inl here ↦ inr here | inr there ↦ inl there ]
placed_from Equal k x q ks rest from c = inl c
placed_from Greater k x q ks rest from c = elim (Contains-cons_cases x rest q c) [
  | inl here ↦ inl (subst (λ y. Contains (x ∷ ks) y) here (Contains-head x ks))
  | inr there ↦ elim (from there) [ inl old ↦ inl (Contains-behind x ks q old) | inr new ↦ inr new ]
]

inserted_old : (ks : List ℕ) (k q : ℕ) → Contains ks q → Contains (insert_key nat_cmp ks k) q
inserted_old [] k q c = absurd (Contains-none q c)
inserted_old (x ∷ ks) k q c = placed_old (nat_cmp k x) k x q ks (insert_key nat_cmp ks k) (λ h. inserted_old ks k q h) c

inserted_new : (ks : List ℕ) (k : ℕ) → Contains (insert_key nat_cmp ks k) k
inserted_new [] k = Contains-head k []
inserted_new (x ∷ ks) k = placed_new (nat_cmp k x) k x ks (insert_key nat_cmp ks k) (equal_same k x) (inserted_new ks k)

inserted_from : (ks : List ℕ) (k q : ℕ) → Contains (insert_key nat_cmp ks k) q → Contains ks q ⊎ (k ≡ q)
inserted_from [] k q c = elim (Contains-cons_cases k [] q c) [ inl here ↦ inr here | inr none ↦ absurd (Contains-none q none) ]
inserted_from (x ∷ ks) k q c = placed_from (nat_cmp k x) k x q ks (insert_key nat_cmp ks k) (λ h. inserted_from ks k q h) c

-- a marked state is inserted
pub Contains-inserted : (flags : List Bool) (old new : List ℕ) (k : ℕ) → new ≡ insert_key nat_cmp old k → IsMarked flags k → (q : ℕ)
    → Contains new q ↔ (Contains old q ⊎ ((k ≡ q) × IsMarked flags q))
Contains-inserted flags old new k e h q = rw e (
  λ c. elim (inserted_from old k q c) [ inl was ↦ inl was | inr here ↦ inr (here, subst (IsMarked flags) here h) ],
  λ c. elim c [ inl was ↦ inserted_old old k q was | inr here ↦ subst (λ y. Contains (insert_key nat_cmp old k) y) here.0 (inserted_new old k) ],
)

-- the set has the marked states below a number
abbrev pub HasMarked : List Bool → List ℕ → ℕ → Type 0
HasMarked flags keys k = (q : ℕ) → Contains keys q ↔ ((q < k) × IsMarked flags q)

pub HasMarked-more : (flags : List Bool) (old new : List ℕ) (k : ℕ) → HasMarked flags old k
    → ((q : ℕ) → Contains new q ↔ (Contains old q ⊎ ((k ≡ q) × IsMarked flags q))) → HasMarked flags new (k + 1)
HasMarked-more flags old new k has more q = (
  λ c. elim ((more q).0 c) [
    | inl was ↦ let h = (has q).0 was in (omega (arith, h.0), h.1)
    | inr here ↦ (omega (arith, here.0), here.1)
  ],
  λ h. (more q).1 (elim (cases_eq q k) [
    | inl e ↦ inr (sym e, h.1)
    | inr ne ↦ inl ((has q).1 (omega (arith, h.0), h.1))
  ]),
)
