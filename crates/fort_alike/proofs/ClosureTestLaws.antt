-- A list of the numbers of exactly the pairs in the closure table makes a closure test.
use Rattle.std.specs.Prelude.{◌≡◌, ℕ, suc, ◌<◌, List, [], ◌∷◌, length, get_or, Contains, Bool, true, false, Decides, ◌==◌, ◌&&◌, ◌||◌, if◌then◌else◌, refl}
use Rattle.std.proofs.Common.{sym, ap, subst, ◌∙◌, arith, inl, inr, true≢false}
use Rattle.std.proofs.lemmas.Bool.Decides.{Decides-eqb, Decides-like, Decides-and, Decides-or}
use Rattle.fort_theory.specs.Patterns.{Pattern, Any}
use Rattle.fort_theory.proofs.Members.{Contains-none, Contains-cons_cases, Contains-head, Contains-behind}
use Rattle.fort_reachability.specs.PatternClosures.{InPatternClosure}
use Rattle.fort_reachability.proofs.PatternClosureExact.{InPatternClosure-ReachesInstance}
use Rattle.fort_alike.specs.Alike.{is_reaching}
use Rattle.fort_alike.specs.ClosureTests.{IsClosure, pattern_place, is_listed, closure_test, ListsClosure}
use Rattle.fort_alike.proofs.ClosedLists.{ArePatterns-lefts, ArePatterns-rights}
use Rattle.fort_alike.specs.AtomRules.{same_pattern}
use Rattle.fort_alike.proofs.Bits.{Decides-false, Decides-iff, Decides-same_pattern}
use Rattle.fort_alike.specs.ListedAtoms.{ListedAtom, IsListedAtom}

pair-equal : {a b : ℕ × ℕ} → a.0 ≡ b.0 → a.1 ≡ b.1 → a ≡ b
pair-equal e h = λ i. (e i, h i)

Decides-is_listed : (numbers : List (ℕ × ℕ)) (i j : ℕ) → Decides (is_listed numbers i j) (Contains numbers (i, j))
Decides-is_listed [] i j = Decides-false (Contains-none (i, j))
Decides-is_listed (x ∷ xs) i j =
    let w : ℕ × ℕ = (i, j) in
    Decides-like (((x.0 == i) && (x.1 == j)) || is_listed xs i j)
    (λ s. elim s [ inl a ↦ subst (Contains (x ∷ xs)) (pair-equal a.0 a.1) (Contains-head x xs) | inr b ↦ Contains-behind x xs w b ])
    (λ c. elim (Contains-cons_cases x xs w c) [ inl e ↦ inl (ap (λ (z : ℕ × ℕ). z.0) e, ap (λ (z : ℕ × ℕ). z.1) e) | inr n ↦ inr n ])
    (Decides-or ((x.0 == i) && (x.1 == j)) (is_listed xs i j) (Decides-and (x.0 == i) (x.1 == j) (Decides-eqb x.0 i) (Decides-eqb x.1 j)) (Decides-is_listed xs i j))

-- the first place of a pattern that is there
record StandsAt (xs : List Pattern) (p : Pattern) (k : ℕ) : Type 0 where
  within : k < length xs
  value : get_or xs k Any ≡ p

stands-cases : (xs : List Pattern) (p x : Pattern) (t : Bool) → same_pattern x p ≡ t → Contains (x ∷ xs) p → (Contains xs p → StandsAt xs p (pattern_place xs p))
    → StandsAt (x ∷ xs) p (if t then 0 else suc (pattern_place xs p))
stands-cases xs p x true h c rest = record { within = omega arith; value = (Decides-same_pattern x p).0 h }
stands-cases xs p x false h c rest = elim (Contains-cons_cases x xs p c) [
  | inl e ↦ absurd (true≢false (sym ((Decides-same_pattern x p).1 e) ∙ h))
  | inr k ↦ (let r = rest k in let l = r.within in record { within = omega arith; value = r.value })
]

stands : (xs : List Pattern) (p : Pattern) → Contains xs p → StandsAt xs p (pattern_place xs p)
stands [] p c = absurd (Contains-none p c)
stands (x ∷ xs) p c = stands-cases xs p x (same_pattern x p) refl c (λ k. stands xs p k)

-- what reads no closure has any test for one
pub IsClosure-unread : (a : ListedAtom) (closure : Pattern → Pattern → Bool) → is_reaching a.atom.kind ≡ false → IsClosure a closure
IsClosure-unread a closure h e = absurd (true≢false (sym e ∙ h))

pub IsClosure-listed : (a : ListedAtom) → IsListedAtom a → (numbers : List (ℕ × ℕ)) → (is_reaching a.atom.kind ≡ true → ListsClosure a numbers)
    → IsClosure a (closure_test a.rights a.lefts numbers)
IsClosure-listed a is numbers exact e p q among_rights among_lefts =
    let i = stands a.rights p among_rights in
    let j = stands a.lefts q among_lefts in
    let test = closure_test a.rights a.lefts numbers p q in
    let in_table : Decides test (InPatternClosure a.atom.pairs p q) =
    subst (λ z. Decides test (InPatternClosure a.atom.pairs z q)) i.value
    (subst (λ z. Decides test (InPatternClosure a.atom.pairs (get_or a.rights (pattern_place a.rights p) Any) z)) j.value
    (Decides-iff test (exact e (pattern_place a.rights p) (pattern_place a.lefts q) i.within j.within)
    (Decides-is_listed numbers (pattern_place a.rights p) (pattern_place a.lefts q)))) in
    Decides-iff test
    (InPatternClosure-ReachesInstance a.atom.signature is.constant a.atom.pairs is.fit p q
    ((ArePatterns-rights a is).fit p among_rights) ((ArePatterns-lefts a is).fit q among_lefts)) in_table
