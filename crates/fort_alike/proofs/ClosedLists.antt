-- The two lists of a listed atom have the arguments of each pattern of theirs, fit the signature, and have the sides of the pairs.
use Rattle.std.specs.Prelude.{◌≡◌, ◌≢◌, ◌⊎◌, List, [], map, Contains, refl}
use Rattle.std.proofs.Common.{subst, inl, inr}
use Rattle.std.proofs.lemmas.List.Elements.{All-contains, Contains-append_cases}
use Rattle.fort_theory.specs.Signatures.{Signature}
use Rattle.fort_theory.specs.Patterns.{Pattern, Patterns, Any, At, NoPattern, MorePatterns, FitsPattern, FitPatterns, Pair, FitsPair}
use Rattle.fort_theory.specs.PatternOrder.{subpatterns, all_subpatterns, StandsWithin, HaveArguments}
use Rattle.fort_theory.proofs.ClosedPatterns.{subpatterns-self, HaveArguments-within}
use Rattle.fort_theory.proofs.Lists.{Contains-map, Contains-map_from}
use Rattle.fort_theory.proofs.Members.{Contains-cons_cases, Contains-none}
use Rattle.fort_alike.specs.Atoms.{AtomKind, EqKind, RootKind, StepKind, BelowKind, ParKind, NfKind, StarKind, PlusKind}
use Rattle.fort_alike.specs.ListedAtoms.{ListedAtom, IsListedAtom}

-- each pattern's arguments are among them too, and each fits the signature
pub record ArePatterns (sig : Signature) (listed : List Pattern) : Type 0 where
  pub closed : HaveArguments listed
  pub fit : (p : Pattern) → Contains listed p → FitsPattern sig p

mutual
  subpatterns-fit : (sig : Signature) (p : Pattern) → FitsPattern sig p → (q : Pattern) → Contains (subpatterns p) q → FitsPattern sig q
  subpatterns-fit sig Any h q c =
      elim (Contains-cons_cases Any [] q c) [ inl e ↦ subst (FitsPattern sig) e tt | inr n ↦ absurd (Contains-none q n) ]
  subpatterns-fit sig (At f ps) h q c =
      elim (Contains-cons_cases (At f ps) (all_subpatterns ps) q c) [
        | inl e ↦ subst (FitsPattern sig) e h
        | inr n ↦ all_subpatterns-fit sig ps h.1 q n
      ]

  all_subpatterns-fit : (sig : Signature) (ps : Patterns) → FitPatterns sig ps → (q : Pattern) → Contains (all_subpatterns ps) q → FitsPattern sig q
  all_subpatterns-fit sig NoPattern h q c = absurd (Contains-none q c)
  all_subpatterns-fit sig (MorePatterns p ps) h q c =
      elim (Contains-append_cases (subpatterns p) (all_subpatterns ps) q c) [
        | inl l ↦ subpatterns-fit sig p h.0 q l
        | inr r ↦ all_subpatterns-fit sig ps h.1 q r
      ]

-- a list of patterns that stand within some, and that has all of them where it has one
ArePatterns-within : (sig : Signature) (tops listed : List Pattern) → ((top : Pattern) → Contains tops top → FitsPattern sig top)
    → ((p : Pattern) → Contains listed p → StandsWithin tops p)
    → ((p q : Pattern) → Contains listed p → StandsWithin tops q → Contains listed q) → ArePatterns sig listed
ArePatterns-within sig tops listed fits within all = record {
  closed = HaveArguments-within tops listed within all;
  fit = λ p c. let w = within p c in subpatterns-fit sig w.0 (fits w.0 w.1) p w.2;
}

IsNf-cases : (kind : AtomKind) → (kind ≡ NfKind) ⊎ (kind ≢ NfKind)
IsNf-cases EqKind = inr (λ e. cc)
IsNf-cases RootKind = inr (λ e. cc)
IsNf-cases StepKind = inr (λ e. cc)
IsNf-cases BelowKind = inr (λ e. cc)
IsNf-cases ParKind = inr (λ e. cc)
IsNf-cases NfKind = inl refl
IsNf-cases StarKind = inr (λ e. cc)
IsNf-cases PlusKind = inr (λ e. cc)

module _ (a : ListedAtom) (is : IsListedAtom a) where
  pub fits-pair : (pair : Pair) → Contains a.atom.pairs pair → FitsPair a.atom.signature pair
  fits-pair pair c = All-contains (FitsPair a.atom.signature) a.atom.pairs pair is.fit c

  fits-left_side : (top : Pattern) → Contains (map (λ (pair : Pair). pair.0) a.atom.pairs) top → FitsPattern a.atom.signature top
  fits-left_side top c =
      let w = Contains-map_from (λ (pair : Pair). pair.0) a.atom.pairs top c in
      subst (FitsPattern a.atom.signature) w.2 (fits-pair w.0 w.1).0

  fits-right_side : (top : Pattern) → Contains (map (λ (pair : Pair). pair.1) a.atom.pairs) top → FitsPattern a.atom.signature top
  fits-right_side top c =
      let w = Contains-map_from (λ (pair : Pair). pair.1) a.atom.pairs top c in
      subst (FitsPattern a.atom.signature) w.2 (fits-pair w.0 w.1).1

  pub ArePatterns-lefts : ArePatterns a.atom.signature a.lefts
  ArePatterns-lefts =
      ArePatterns-within a.atom.signature (map (λ (pair : Pair). pair.0) a.atom.pairs) a.lefts fits-left_side
      (λ p c. (is.left_patterns p).0 c) (λ p q c w. (is.left_patterns q).1 w)

  pub ArePatterns-rights : ArePatterns a.atom.signature a.rights
  ArePatterns-rights =
      ArePatterns-within a.atom.signature (map (λ (pair : Pair). pair.1) a.atom.pairs) a.rights fits-right_side
      (λ p c. ((is.right_patterns p).0 c).1) (λ p q c w. (is.right_patterns q).1 (((is.right_patterns p).0 c).0, w))

  pub lefts-has_side : (pair : Pair) → Contains a.atom.pairs pair → Contains a.lefts pair.0
  lefts-has_side pair c =
      (is.left_patterns pair.0).1 (pair.0, Contains-map (λ (pair : Pair). pair.0) a.atom.pairs pair c, subpatterns-self pair.0)

  -- but for normal forms
  pub rights-has_side : (a.atom.kind ≡ NfKind) ⊎ ((pair : Pair) → Contains a.atom.pairs pair → Contains a.rights pair.1)
  rights-has_side = elim (IsNf-cases a.atom.kind) [
    | inl e ↦ inl e
    | inr other ↦ inr (λ pair c.
        (is.right_patterns pair.1).1 (other, (pair.1, Contains-map (λ (pair : Pair). pair.1) a.atom.pairs pair c, subpatterns-self pair.1)))
  ]
