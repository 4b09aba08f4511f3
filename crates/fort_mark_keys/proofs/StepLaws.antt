-- A mark's bit at a node depends on the bits alone that the node asks of its children.
use Rattle.std.specs.Prelude.{◌≡◌, ℕ, suc, ◌<◌, List, [], ◌∷◌, length, Contains, Option, None, Some, get_or, Bool, true, false, ◌&&◌, ◌||◌, ◌==◌, not, refl}
use Rattle.std.proofs.Common.{sym, ap, subst, ◌∙◌, arith, inl, inr, true≢false}
use Rattle.fort_theory.specs.Patterns.{Pattern, Patterns, Any, At, NoPattern, MorePatterns, Pair}
use Rattle.fort_theory.proofs.Members.{Contains-none, Contains-cons_cases, Contains-head, Contains-behind}
use Rattle.fort_alike.specs.Atoms.{AtomKind, NfKind}
use Rattle.fort_alike.specs.Alike.{Fact, Same, Steps, StepsBelow, StepsInParallel, IsNormal, Goes, GoesStrictly, facts_of, is_reaching}
use Rattle.fort_alike.specs.ListedAtoms.{Mark, OfFirst, OfSecond, OfBoth, ListedAtom}
use Rattle.fort_alike.specs.AtomRules.{marks_of, bit_in, any_pair, all_inside, inside, all_kids, one_kid, some_kid, is_there, same_roots, first_step, second_step, root_test, fact_step, mark_step}
use Rattle.fort_alike.proofs.Bits.{Decides-same_pattern}
use Rattle.fort_alike.proofs.AtomMarks.{marks_of-each}
use Rattle.fort_mark_keys.specs.AskedMarks.{is_argument, stands_under, asks_fact, HasSides}

-- tests that agree where they are read
pub and-same : (b l r : Bool) → (b ≡ true → l ≡ r) → (b && l) ≡ (b && r)
and-same true l r h = h refl
and-same false l r h = refl

any_pair-same : (test other : Pair → Bool) (rs : List Pair) → ((r : Pair) → Contains rs r → test r ≡ other r) → any_pair test rs ≡ any_pair other rs
any_pair-same test other [] h = refl
any_pair-same test other (r ∷ rs) h =
    let here = h r (Contains-head r rs) in
    let rest = any_pair-same test other rs (λ s c. h s (Contains-behind r rs s c)) in
    λ i. here i || rest i

-- a test passes the same children of two rows
abbrev pub KidsSame : (List ℕ → Bool) → List (List ℕ) → List (List ℕ) → Type 0
KidsSame test ws vs = (j : ℕ) → j < length ws → test (get_or ws j []) ≡ test (get_or vs j [])

pub all_kids-same : (test : List ℕ → Bool) (ws vs : List (List ℕ)) → length ws ≡ length vs → KidsSame test ws vs → all_kids test ws ≡ all_kids test vs
all_kids-same test [] [] e h = refl
all_kids-same test [] (v ∷ vs) e h = absurd (omega arith)
all_kids-same test (w ∷ ws) [] e h = absurd (omega arith)
all_kids-same test (w ∷ ws) (v ∷ vs) e h =
    let here : test w ≡ test v = h 0 (omega arith) in
    let rest = all_kids-same test ws vs (omega arith) (λ j l. h (suc j) (omega arith)) in
    λ i. here i && rest i

pub some_kid-same : (test : List ℕ → Bool) (ws vs : List (List ℕ)) → length ws ≡ length vs → KidsSame test ws vs → some_kid test ws ≡ some_kid test vs
some_kid-same test [] [] e h = refl
some_kid-same test [] (v ∷ vs) e h = absurd (omega arith)
some_kid-same test (w ∷ ws) [] e h = absurd (omega arith)
some_kid-same test (w ∷ ws) (v ∷ vs) e h =
    let here : test w ≡ test v = h 0 (omega arith) in
    let rest = some_kid-same test ws vs (omega arith) (λ j l. h (suc j) (omega arith)) in
    λ i. here i || rest i

pub one_kid-same : (test other : List ℕ → Bool) (ws vs : List (List ℕ)) → length ws ≡ length vs → KidsSame test ws vs → KidsSame other ws vs
    → one_kid test other ws ≡ one_kid test other vs
one_kid-same test other [] [] e h k = refl
one_kid-same test other [] (v ∷ vs) e h k = absurd (omega arith)
one_kid-same test other (w ∷ ws) [] e h k = absurd (omega arith)
one_kid-same test other (w ∷ ws) (v ∷ vs) e h k =
    let one : test w ≡ test v = h 0 (omega arith) in
    let same : other w ≡ other v = k 0 (omega arith) in
    let all = all_kids-same other ws vs (omega arith) (λ j l. k (suc j) (omega arith)) in
    let rest = one_kid-same test other ws vs (omega arith) (λ j l. h (suc j) (omega arith)) (λ j l. k (suc j) (omega arith)) in
    λ i. (one i && all i) || (same i && rest i)

-- a pattern at a node
module _ (bit : Mark → List ℕ → Bool) (of : Pattern → Mark) where
  all_inside-same : (ps : Patterns) (ws vs : List (List ℕ)) → length ws ≡ length vs
      → ((j : ℕ) (p : Pattern) → j < length ws → is_argument p j ps ≡ true → bit (of p) (get_or ws j []) ≡ bit (of p) (get_or vs j []))
      → all_inside bit of ws ps ≡ all_inside bit of vs ps
  all_inside-same NoPattern ws vs e h = refl
  all_inside-same (MorePatterns p ps) [] [] e h = refl
  all_inside-same (MorePatterns p ps) [] (v ∷ vs) e h = absurd (omega arith)
  all_inside-same (MorePatterns p ps) (w ∷ ws) [] e h = absurd (omega arith)
  all_inside-same (MorePatterns p ps) (w ∷ ws) (v ∷ vs) e h =
      let here : bit (of p) w ≡ bit (of p) v = h 0 p (omega arith) ((Decides-same_pattern p p).1 refl) in
      let rest = all_inside-same ps ws vs (omega arith) (λ j q l s. h (suc j) q (omega arith) s) in
      λ i. here i && rest i

  inside-same : (x : Option ℕ) (q : Pattern) (ws vs : List (List ℕ)) → length ws ≡ length vs
      → ((j : ℕ) (p : Pattern) → j < length ws → stands_under x j p q ≡ true → bit (of p) (get_or ws j []) ≡ bit (of p) (get_or vs j []))
      → inside bit of x ws q ≡ inside bit of x vs q
  inside-same None q ws vs e h = refl
  inside-same (Some f) Any ws vs e h = refl
  inside-same (Some f) (At g ps) ws vs e h =
      and-same (g == f) (all_inside bit of ws ps) (all_inside bit of vs ps)
      (λ t. all_inside-same ps ws vs e (λ j p l s. h j p l (ap (λ b. b && is_argument p j ps) t ∙ s)))

-- two rows of children have the same bits where a node with these roots reads them
pub record ReadsSame (a : ListedAtom) (x y : Option ℕ) (ws vs : List (List ℕ)) : Type 0 where
  pub count : length ws ≡ length vs
  pub firsts : (q p : Pattern) (j : ℕ) → Contains a.lefts q → j < length ws → stands_under x j p q ≡ true
      → bit_in a (OfFirst p) (get_or ws j []) ≡ bit_in a (OfFirst p) (get_or vs j [])
  pub seconds : (q p : Pattern) (j : ℕ) → Contains a.rights q → j < length ws → stands_under y j p q ≡ true
      → bit_in a (OfSecond p) (get_or ws j []) ≡ bit_in a (OfSecond p) (get_or vs j [])
  pub facts : (k : Fact) (j : ℕ) → j < length ws → asks_fact x y k ≡ true → bit_in a (OfBoth k) (get_or ws j []) ≡ bit_in a (OfBoth k) (get_or vs j [])

-- a fact of a root step is none of normal forms
not_normal : (kind : AtomKind) (k : Fact) → (IsNormal ≡ k → ⊥) → Contains (facts_of kind) k → kind ≡ NfKind → ⊥
not_normal kind k apart c e =
    let here : Contains (IsNormal ∷ []) k = subst (λ (x : AtomKind). Contains (facts_of x) k) e c in
    elim (Contains-cons_cases IsNormal [] k here) [ inl i ↦ apart i | inr n ↦ Contains-none k n ]

reaching-not_normal : (kind : AtomKind) → is_reaching kind ≡ true → kind ≡ NfKind → ⊥
reaching-not_normal kind r e = true≢false (sym r ∙ ap is_reaching e)

module _ (a : ListedAtom) (sides : HasSides a) (closure : Pattern → Pattern → Bool) (x y : Option ℕ) (ws vs : List (List ℕ)) (h : ReadsSame a x y ws vs) where
  first-inside : (q : Pattern) → Contains a.lefts q → inside (bit_in a) OfFirst x ws q ≡ inside (bit_in a) OfFirst x vs q
  first-inside q c = inside-same (bit_in a) OfFirst x q ws vs h.count (λ j p l s. h.firsts q p j c l s)

  second-inside : (q : Pattern) → Contains a.rights q → inside (bit_in a) OfSecond y ws q ≡ inside (bit_in a) OfSecond y vs q
  second-inside q c = inside-same (bit_in a) OfSecond y q ws vs h.count (λ j p l s. h.seconds q p j c l s)

  first-same : (reaching : Bool) (q : Pattern) → Contains a.lefts q
      → first_step reaching (bit_in a) a.atom.pairs closure x ws q ≡ first_step reaching (bit_in a) a.atom.pairs closure x vs q
  first-same false q c = first-inside q c
  first-same true q c =
      let here = first-inside q c in
      let rules = any_pair-same (λ r. inside (bit_in a) OfFirst x ws r.0 && closure r.1 q) (λ r. inside (bit_in a) OfFirst x vs r.0 && closure r.1 q) a.atom.pairs
      (λ r m. ap (λ b. b && closure r.1 q) (first-inside r.0 (sides.lefts r m))) in
      λ i. here i || rules i

  second-same : (reaching : Bool) → is_reaching a.atom.kind ≡ reaching → (p : Pattern) → Contains a.rights p
      → second_step reaching (bit_in a) a.atom.pairs closure y ws p ≡ second_step reaching (bit_in a) a.atom.pairs closure y vs p
  second-same false e p c = second-inside p c
  second-same true e p c =
      let here = second-inside p c in
      let rules = any_pair-same (λ r. closure p r.0 && inside (bit_in a) OfSecond y ws r.1) (λ r. closure p r.0 && inside (bit_in a) OfSecond y vs r.1) a.atom.pairs
      (λ r m. ap (λ b. closure p r.0 && b) (second-inside r.1 (sides.rights r (reaching-not_normal a.atom.kind e) m))) in
      λ i. here i || rules i

  root-same : (a.atom.kind ≡ NfKind → ⊥)
      → root_test (is_reaching a.atom.kind) (bit_in a) a.atom.pairs closure x y ws ≡ root_test (is_reaching a.atom.kind) (bit_in a) a.atom.pairs closure x y vs
  root-same apart =
      any_pair-same
      (λ r. first_step (is_reaching a.atom.kind) (bit_in a) a.atom.pairs closure x ws r.0 && second_step (is_reaching a.atom.kind) (bit_in a) a.atom.pairs closure y ws r.1)
      (λ r. first_step (is_reaching a.atom.kind) (bit_in a) a.atom.pairs closure x vs r.0 && second_step (is_reaching a.atom.kind) (bit_in a) a.atom.pairs closure y vs r.1)
      a.atom.pairs
      (λ r m. let l = first-same (is_reaching a.atom.kind) r.0 (sides.lefts r m) in
      let s = second-same (is_reaching a.atom.kind) refl r.1 (sides.rights r apart m) in
      λ i. l i && s i)

  -- the children's bits of a fact, where the node asks it
  kids-same : (k : Fact) → asks_fact x y k ≡ true → KidsSame (bit_in a (OfBoth k)) ws vs
  kids-same k e j l = h.facts k j l e

  all-same : (k : Fact) → asks_fact x y k ≡ true → all_kids (bit_in a (OfBoth k)) ws ≡ all_kids (bit_in a (OfBoth k)) vs
  all-same k e = all_kids-same (bit_in a (OfBoth k)) ws vs h.count (kids-same k e)

  below-same : (same_roots x y && one_kid (bit_in a (OfBoth Steps)) (bit_in a (OfBoth Same)) ws)
      ≡ (same_roots x y && one_kid (bit_in a (OfBoth Steps)) (bit_in a (OfBoth Same)) vs)
  below-same =
      and-same (same_roots x y) _ _ (λ e. one_kid-same (bit_in a (OfBoth Steps)) (bit_in a (OfBoth Same)) ws vs h.count (kids-same Steps e) (kids-same Same e))

  fact-same : (k : Fact) → Contains (facts_of a.atom.kind) k
      → fact_step (is_reaching a.atom.kind) (bit_in a) a.atom.pairs closure x y ws k ≡ fact_step (is_reaching a.atom.kind) (bit_in a) a.atom.pairs closure x y vs k
  fact-same Same c = and-same (same_roots x y) _ _ (λ e. all-same Same e)
  fact-same Steps c =
      let root = root-same (not_normal a.atom.kind Steps (λ e. cc) c) in
      let below = below-same in
      λ i. root i || below i
  fact-same StepsBelow c = below-same
  fact-same StepsInParallel c =
      let root = root-same (not_normal a.atom.kind StepsInParallel (λ e. cc) c) in
      let kids = and-same (same_roots x y) (all_kids (bit_in a (OfBoth StepsInParallel)) ws) (all_kids (bit_in a (OfBoth StepsInParallel)) vs) (λ e. all-same StepsInParallel e) in
      λ i. root i || kids i
  fact-same IsNormal c =
      and-same (is_there x) _ _
      (λ e. let none = any_pair-same (λ r. inside (bit_in a) OfFirst x ws r.0) (λ r. inside (bit_in a) OfFirst x vs r.0) a.atom.pairs (λ r m. first-inside r.0 (sides.lefts r m)) in
      let kids = all-same IsNormal e in
      λ i. not (none i) && kids i)
  fact-same Goes c =
      let root = root-same (not_normal a.atom.kind Goes (λ e. cc) c) in
      let kids = and-same (same_roots x y) (all_kids (bit_in a (OfBoth Goes)) ws) (all_kids (bit_in a (OfBoth Goes)) vs) (λ e. all-same Goes e) in
      λ i. root i || kids i
  fact-same GoesStrictly c =
      let root = root-same (not_normal a.atom.kind GoesStrictly (λ e. cc) c) in
      let kids = and-same (same_roots x y) (all_kids (bit_in a (OfBoth Goes)) ws && some_kid (bit_in a (OfBoth GoesStrictly)) ws)
      (all_kids (bit_in a (OfBoth Goes)) vs && some_kid (bit_in a (OfBoth GoesStrictly)) vs)
      (λ e. let all = all-same Goes e in
      let some = some_kid-same (bit_in a (OfBoth GoesStrictly)) ws vs h.count (kids-same GoesStrictly e) in
      λ i. all i && some i) in
      λ i. root i || kids i

  -- Result: each mark has the same bit over both rows of children
  pub mark-same : (m : Mark) → Contains (marks_of a) m
      → mark_step (is_reaching a.atom.kind) (bit_in a) a.atom.pairs closure x y ws m ≡ mark_step (is_reaching a.atom.kind) (bit_in a) a.atom.pairs closure x y vs m
  mark-same =
      marks_of-each a
      (λ m. mark_step (is_reaching a.atom.kind) (bit_in a) a.atom.pairs closure x y ws m ≡ mark_step (is_reaching a.atom.kind) (bit_in a) a.atom.pairs closure x y vs m)
      (λ p c. first-same (is_reaching a.atom.kind) p c) (λ p c. second-same (is_reaching a.atom.kind) refl p c) (λ k c. fact-same k c)
