-- Lists of patterns closed under arguments: those within some patterns are; and no pattern comes before itself.
use Rattle.std.specs.Prelude.{◌≡◌, ℕ, List, [], ◌∷◌, ◌++◌, Contains}
use Rattle.std.proofs.Common.{subst, arith, inl, inr}
use Rattle.std.proofs.lemmas.List.Elements.{Contains-append_left, Contains-append_right, Contains-append_cases}
use Rattle.fort_theory.specs.Patterns.{Pattern, Patterns, Any, At, NoPattern, MorePatterns}
use Rattle.fort_theory.specs.PatternOrder.{PatternBefore, PatternsBefore, subpatterns, all_subpatterns, StandsWithin, AreSubpatternsInOrder, AllAmong, HaveArguments}
use Rattle.fort_theory.proofs.Members.{Contains-head, Contains-behind, Contains-cons_cases, Contains-none}

mutual
  pub PatternBefore-irreflexive : (p : Pattern) → PatternBefore p p → ⊥
  PatternBefore-irreflexive Any h = h
  PatternBefore-irreflexive (At f ps) h = elim h [ inl l ↦ omega arith | inr w ↦ PatternsBefore-irreflexive ps w.1 ]

  PatternsBefore-irreflexive : (ps : Patterns) → PatternsBefore ps ps → ⊥
  PatternsBefore-irreflexive NoPattern h = h
  PatternsBefore-irreflexive (MorePatterns p ps) h =
      elim h [ inl a ↦ PatternBefore-irreflexive p a | inr w ↦ PatternsBefore-irreflexive ps w.1 ]

any-at : {f : ℕ} {ps : Patterns} → Any ≡ At f ps → ⊥
any-at h = cc

at-args : {f g : ℕ} {ps qs : Patterns} → At f ps ≡ At g qs → ps ≡ qs
at-args h = cc

pub AllAmong-more : (xs ys : List Pattern) (ps : Patterns) → ((p : Pattern) → Contains xs p → Contains ys p) → AllAmong xs ps → AllAmong ys ps
AllAmong-more xs ys NoPattern h a = tt
AllAmong-more xs ys (MorePatterns p ps) h a = (h p a.0, AllAmong-more xs ys ps h a.1)

pub subpatterns-self : (p : Pattern) → Contains (subpatterns p) p
subpatterns-self Any = Contains-head Any []
subpatterns-self (At f ps) = Contains-head (At f ps) (all_subpatterns ps)

pub all_subpatterns-self : (ps : Patterns) → AllAmong (all_subpatterns ps) ps
all_subpatterns-self NoPattern = tt
all_subpatterns-self (MorePatterns p ps) = (
  Contains-append_left (subpatterns p) (all_subpatterns ps) p (subpatterns-self p),
  AllAmong-more (all_subpatterns ps) (subpatterns p ++ all_subpatterns ps) ps
      (λ q c. Contains-append_right (subpatterns p) (all_subpatterns ps) q c) (all_subpatterns-self ps),
)

mutual
  pub subpatterns-closed : (p : Pattern) (f : ℕ) (ps : Patterns) → Contains (subpatterns p) (At f ps) → AllAmong (subpatterns p) ps
  subpatterns-closed Any f ps c =
      elim (Contains-cons_cases Any [] (At f ps) c) [ inl e ↦ absurd (any-at e) | inr n ↦ absurd (Contains-none (At f ps) n) ]
  subpatterns-closed (At g qs) f ps c =
      AllAmong-more (all_subpatterns qs) (At g qs ∷ all_subpatterns qs) ps (λ q d. Contains-behind (At g qs) (all_subpatterns qs) q d)
      (elim (Contains-cons_cases (At g qs) (all_subpatterns qs) (At f ps) c) [
        | inl e ↦ subst (AllAmong (all_subpatterns qs)) (at-args e) (all_subpatterns-self qs)
        | inr n ↦ all_subpatterns-closed qs f ps n
      ])

  all_subpatterns-closed : (qs : Patterns) (f : ℕ) (ps : Patterns) → Contains (all_subpatterns qs) (At f ps) → AllAmong (all_subpatterns qs) ps
  all_subpatterns-closed NoPattern f ps c = absurd (Contains-none (At f ps) c)
  all_subpatterns-closed (MorePatterns q qs) f ps c =
      elim (Contains-append_cases (subpatterns q) (all_subpatterns qs) (At f ps) c) [
        | inl l ↦
            AllAmong-more (subpatterns q) (subpatterns q ++ all_subpatterns qs) ps
            (λ p d. Contains-append_left (subpatterns q) (all_subpatterns qs) p d) (subpatterns-closed q f ps l)
        | inr r ↦
            AllAmong-more (all_subpatterns qs) (subpatterns q ++ all_subpatterns qs) ps
            (λ p d. Contains-append_right (subpatterns q) (all_subpatterns qs) p d) (all_subpatterns-closed qs f ps r)
      ]

-- a list of patterns that stand within some, and that has all of them where it has one
pub HaveArguments-within : (tops listed : List Pattern) → ((p : Pattern) → Contains listed p → StandsWithin tops p)
    → ((p q : Pattern) → Contains listed p → StandsWithin tops q → Contains listed q) → HaveArguments listed
HaveArguments-within tops listed within all f ps c =
    let w = within (At f ps) c in
    AllAmong-more (subpatterns w.0) listed ps (λ q d. all (At f ps) q c (w.0, w.1, d)) (subpatterns-closed w.0 f ps w.2)

pub HaveArguments-subpatterns : (tops ps : List Pattern) → AreSubpatternsInOrder tops ps → HaveArguments ps
HaveArguments-subpatterns tops ps are = HaveArguments-within tops ps (λ p c. (are.same p).0 c) (λ p q c w. (are.same q).1 w)
