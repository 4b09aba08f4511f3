-- The place of a pattern in a list in order: of Any, and as a binary search finds it.
use Rattle.std.proofs.Common.{◌≡◌, ◌↔◌, ℕ, zero, suc, ◌+◌, ◌<◌, ◌≤◌, List, [], ◌∷◌, ◌++◌, take, length, get_or, map, refl, sym, ap, ◌∙◌, subst, arith, Some, None, Result, Err, inl, inr}
use Rattle.std.specs.Prelude.{Contains, slice_get, HoldsAt}
use Rattle.std.specs.List.Sorted.{IsBinarySearchResult}
use Rattle.std.specs.declared.cmp.Ordering.TheVariants.{Equal}
use Rattle.std.specs.Ordering.{nat_cmp, on, ordering_index, ordering_reverse}
use Rattle.std.proofs.lemmas.Bool.{cases_lt, cases_eq}
use Rattle.std.proofs.lemmas.Bool.Decides.{nat_tests}
use Rattle.std.proofs.lemmas.List.{length-map, get_or-map, take_more, map-append, length-take-le}
use Rattle.std.proofs.lemmas.List.Elements.{Contains-get_or}
use Rattle.std.proofs.lemmas.Option.{slice_get-get_or}
use Rattle.fort_theory.specs.Patterns as theory
use Rattle.fort_theory.specs.PatternOrder.{PatternBefore, AllAmong}
use Rattle.fort_theory.proofs.Lists.{none-some, some-injective, Contains-map}
use Rattle.fort_terms.specs.declared.sym.Sym.{Sym}
use Rattle.fort_terms.specs.declared.pattern.Pattern.{Pattern}
use Rattle.fort_terms.specs.declared.pattern.Pattern.TheVariants.{Any, App}
use Rattle.fort_terms.specs.PatternView.{as_pattern}
use Rattle.fort_terms.specs.PatternKeys.{pattern_order}
use Rattle.fort_terms.specs.PatternKeyLaws.{pattern_order-Equal, Pattern_order-total}
use Rattle.fort_terms.proofs.PatternKeysLaws.{PatternBefore-less}
use Rattle.fort_tree_automata.specs.declared.nta.Move.{Move}
use Rattle.fort_tree_automata.specs.NtaView.{MoveParts, as_move}
use Rattle.fort_tree_automata.specs.PatternMoves.{IsClosedInOrder, StandsAt, AllStandAt, AreMovesFor}
use Rattle.fort_tree_automata.proofs.PatternMovesLaws.{StandsAt-below, AreMovesFor-any, AreMovesFor-push}

read_at : {A : Type 0} (xs : List A) (k : ℕ) (x d : A) → slice_get xs k ≡ Some x → get_or xs k d ≡ x
read_at [] k x d h = absurd (none-some h)
read_at (y ∷ xs) zero x d h = some-injective h
read_at (y ∷ xs) (suc k) x d h = read_at xs k x d h

-- ---- Any

not_before_any : (p q : theory.Pattern) → q ≡ theory.Any → PatternBefore p q → ⊥
not_before_any p q e h = rw e at h

any_first : (ps : List theory.Pattern) → IsClosedInOrder ps → (q : ℕ) → StandsAt ps q theory.Any → q ≡ 0
any_first ps closed zero h = refl
any_first ps closed (suc q) h =
    absurd (not_before_any (get_or ps 0 theory.Any) (get_or ps (suc q) theory.Any) (read_at ps (suc q) theory.Any theory.Any h)
    (closed.ordered 0 (suc q) (omega arith) (StandsAt-below ps (suc q) theory.Any h)))

first_stands : (xs : List Pattern) (x : Pattern) → 0 < length xs → x ≡ get_or xs 0 x → StandsAt (map as_pattern xs) 0 (as_pattern x)
first_stands [] x h e = absurd (omega arith)
first_stands (y ∷ xs) x h e = ap (λ z. Some (as_pattern z)) (sym e)

pub any-there : (xs : List Pattern) (x : Pattern) → IsClosedInOrder (map as_pattern xs) → 0 < length xs → x ≡ get_or xs 0 x → as_pattern x ≡ theory.Any
    → (q : ℕ) → (Some 0 ≡ Some q) ↔ StandsAt (map as_pattern xs) q theory.Any
any-there xs x closed h e is q = (
  λ s. subst (λ j. StandsAt (map as_pattern xs) j theory.Any) (some-injective s) (first_stands xs x h e ∙ ap Some is),
  λ s. ap Some (sym (any_first (map as_pattern xs) closed q s)),
)

pub any-absent : (xs : List Pattern) (x : Pattern) → IsClosedInOrder (map as_pattern xs) → 0 < length xs → x ≡ get_or xs 0 x → (as_pattern x ≡ theory.Any → ⊥)
    → (q : ℕ) → (None ≡ Some q) ↔ StandsAt (map as_pattern xs) q theory.Any
any-absent xs x closed h e not_any q = (
  λ s. absurd (none-some s),
  λ s.
      let here : StandsAt (map as_pattern xs) 0 theory.Any = subst (λ j. StandsAt (map as_pattern xs) j theory.Any) (any_first (map as_pattern xs) closed q s) s in
      absurd (not_any (some-injective (sym (first_stands xs x h e) ∙ here))),
)

-- ---- any pattern

module _ (xs : List Pattern) (p : Pattern) (closed : IsClosedInOrder (map as_pattern xs)) (k : ℕ) (below : k < length xs)
    (at : as_pattern (get_or xs k p) ≡ as_pattern p) where
  -- how an element compares to the pattern is how its place compares to the pattern's
  by_place : (i : ℕ) (d : Pattern) → i < length xs → on as_pattern pattern_order (get_or xs i d) p ≡ nat_cmp i k
  by_place i d l =
      let before : (a b : ℕ) → a < b → b < length xs → PatternBefore (get_or (map as_pattern xs) a theory.Any) (get_or (map as_pattern xs) b theory.Any) =
      λ a b less short. closed.ordered a b less (omega (arith, length-map xs as_pattern)) in
      let here : get_or (map as_pattern xs) i theory.Any ≡ as_pattern (get_or xs i d) = get_or-map as_pattern xs i d theory.Any l in
      let there : get_or (map as_pattern xs) k theory.Any ≡ as_pattern p = get_or-map as_pattern xs k p theory.Any below ∙ at in
      elim (cases_eq i k) [
        | inl e ↦
            (pattern_order-Equal (as_pattern (get_or xs i d)) (as_pattern p)).1 (sym here ∙ (ap (λ j. get_or (map as_pattern xs) j theory.Any) e ∙ there))
            ∙ grind (arith, nat_tests)
        | inr ne ↦ elim (cases_lt i k) [
          | inl less ↦
              (PatternBefore-less (as_pattern (get_or xs i d)) (as_pattern p)).1 (rw (here, there) at (before i k less below))
              ∙ grind (arith, nat_tests)
          | inr more ↦
              Pattern_order-total.antisymm (get_or xs i d) p
              ∙ (ap ordering_reverse ((PatternBefore-less (as_pattern p) (as_pattern (get_or xs i d))).1 (rw (here, there) at (before k i (omega arith) l)))
              ∙ grind (arith, nat_tests))
        ]
      ]

  rises : (i j : ℕ) (d : Pattern) → i ≤ j → j < length xs → ordering_index (on as_pattern pattern_order (get_or xs i d) p) ≤ ordering_index (on as_pattern pattern_order (get_or xs j d) p)
  rises i j d le l = rw (by_place i d (omega arith), by_place j d l) (grind (arith, nat_tests))

  not_missing : (i : ℕ) → IsBinarySearchResult (λ y. on as_pattern pattern_order y p) xs (Err i) → ⊥
  not_missing i h =
      let parted = h rises in
      let itself : on as_pattern pattern_order (get_or xs k p) p ≡ Equal = (pattern_order-Equal (as_pattern (get_or xs k p)) (as_pattern p)).1 at in
      elim (cases_lt k i) [
        | inl less ↦ let low = parted.0 k p (omega arith) less in cc
        | inr more ↦ let high = parted.1 k p more below in cc
      ]

pub search-misses_none : (xs : List Pattern) (p : Pattern) → IsClosedInOrder (map as_pattern xs) → Contains (map as_pattern xs) (as_pattern p) → (r : Result ℕ ℕ) (i : ℕ)
    → IsBinarySearchResult (λ y. on as_pattern pattern_order y p) xs r → r ≡ Err i → ⊥
search-misses_none xs p closed (k, l, e) r i h is =
    let below : k < length xs = omega (arith, l, length-map xs as_pattern) in
    not_missing xs p closed k below (sym (get_or-map as_pattern xs k p (as_pattern p) below) ∙ e) i (rw is at h)

pub search-finds : (xs : List Pattern) (p : Pattern) (i : ℕ) → i < length xs → HoldsAt (λ y. on as_pattern pattern_order y p ≡ Equal) xs i → StandsAt (map as_pattern xs) i (as_pattern p)
search-finds xs p i l h =
    let long : i < length (map as_pattern xs) = omega (arith, length-map xs as_pattern) in
    slice_get-get_or (map as_pattern xs) i theory.Any long
    ∙ ap Some (get_or-map as_pattern xs i p theory.Any l ∙ (pattern_order-Equal (as_pattern (get_or xs i p)) (as_pattern p)).0 (h p))

-- ---- the moves, one pattern after the other

pub args-among : (xs : List Pattern) (i : ℕ) (x : Pattern) (f : Sym) (args : theory.Patterns) → IsClosedInOrder (map as_pattern xs) → i < length xs → x ≡ get_or xs i x
    → x ≡ App f args → AllAmong (map as_pattern xs) args
args-among xs i x f args closed l at is =
    let among : Contains (map as_pattern xs) (as_pattern x) = subst (λ y. Contains (map as_pattern xs) (as_pattern y)) (sym at) (Contains-map as_pattern xs (get_or xs i x) (Contains-get_or xs i x l)) in
    closed.closed f.0 args (rw is at among)

with_next : (xs : List Pattern) (i : ℕ) (x : Pattern) → i < length xs → x ≡ get_or xs i x → map as_pattern (take (i + 1) xs) ≡ map as_pattern (take i xs) ++ as_pattern x ∷ []
with_next xs i x l at = rw (take_more xs i x l, ← at, map-append as_pattern (take i xs) (x ∷ [])) refl

pub moves-any : (xs : List Pattern) (i : ℕ) (x : Pattern) (ms : List MoveParts) → i < length xs → x ≡ get_or xs i x → x ≡ Any
    → AreMovesFor (map as_pattern xs) 0 (map as_pattern (take i xs)) ms → AreMovesFor (map as_pattern xs) 0 (map as_pattern (take (i + 1) xs)) ms
moves-any xs i x ms l at is h =
    rw (with_next xs i x l at, is) (AreMovesFor-any (map as_pattern xs) 0 (map as_pattern (take i xs)) ms h)

pub moves-more : (xs : List Pattern) (i : ℕ) (x : Pattern) (f : Sym) (args : theory.Patterns) (old new : List Move) (m : Move) → i < length xs → x ≡ get_or xs i x
    → x ≡ App f args → new ≡ old ++ m ∷ [] → m.sym ≡ f → AllStandAt (map as_pattern xs) m.kids.items args → m.target ≡ i
    → AreMovesFor (map as_pattern xs) 0 (map as_pattern (take i xs)) (map as_move old) → AreMovesFor (map as_pattern xs) 0 (map as_pattern (take (i + 1) xs)) (map as_move new)
moves-more xs i x f args old new m l at is is_new same kids target h =
    let long : length (map as_pattern (take i xs)) ≡ i = length-map (take i xs) as_pattern ∙ length-take-le i xs (omega arith) in
    rw (with_next xs i x l at, is, is_new, map-append as_move old (m ∷ []))
    (AreMovesFor-push (map as_pattern xs) 0 (map as_pattern (take i xs)) (map as_move old) f.0 args (as_move m) h (ap (λ (g : Sym). g.0) same) kids (omega arith))
