-- The reason that the tests find is the first by which the pair follows.
use Rattle.std.proofs.Common.{◌≡◌, ℕ, zero, suc, ◌+◌, ◌<◌, List, [], ◌∷◌, Bool, true, false, length, get_or, ap, sym, ◌∙◌, refl, subst, arith, Option, Some, None, inl, inr, ◌⊎◌, eqb-true, eq-eqb, nat_eq}
use Rattle.std.specs.Prelude.{slice_get, ◌&&◌}
use Rattle.std.proofs.lemmas.Option.{slice_get_within}
use Rattle.fort_theory.proofs.Lists.{none-some, some-injective}
use Rattle.fort_tree_automata.specs.declared.nta.Move.{Move}
use Rattle.fort_tree_automata.specs.NtaView.{MoveParts, as_move}
use Rattle.fort_tree_automata.proofs.Truths.{and_left, and_right, and_both, not_both}
use Rattle.fort_transducers.specs.declared.agtt.Agtt.{Agtt}
use Rattle.fort_gtt_closure.specs.declared.entry.Entry.{Entry}
use Rattle.fort_gtt_closure.specs.declared.entry.Why.{Why}
use Rattle.fort_gtt_closure.specs.declared.entry.Why.TheVariants.{Any, Kids, SilentRight, SilentLeft, Pair}
use Rattle.fort_gtt_closure.specs.declared.reasons.Inhabited.{Inhabited}
use Rattle.fort_gtt_closure.specs.Grids.{is_listed}
use Rattle.fort_gtt_closure.specs.Scans.{is_any, all_listed, moves_meet, by_left_move, kids_at, if_met, by_kids, by_silent_right, by_silent_left, by_pair, by_any, any_or, kids_or, place_or, first_reason}
use Rattle.fort_gtt_closure.specs.Reasons.{MovesMeet, Follows, rank, IsFirstReason}
use Rattle.fort_gtt_closure.specs.Progress.{MarksBoth}
use Rattle.fort_gtt_closure.proofs.GridLaws.{or_cases, or_left, or_right}
use Rattle.fort_gtt_closure.proofs.Places.{PassesAt, position-passes, position-first, position-none, place-map, place-from_map}
use Rattle.fort_gtt_closure.proofs.ListedLaws.{listed-from_test, test-from_listed, all_listed-from_test, test-from_all_listed}

is_any-true : (any : Option ℕ) (q : ℕ) → is_any any q ≡ true → any ≡ Some q
is_any-true None q h = absurd (not_both h refl)
is_any-true (Some a) q h = ap Some (eqb-true a q h)

is_any-from : (any : Option ℕ) (q : ℕ) → any ≡ Some q → is_any any q ≡ true
is_any-from None q h = absurd (none-some h)
is_any-from (Some a) q h = eq-eqb a q (some-injective h)

-- a right and a left move at these places pass the tests
record MeetAt (es : List Entry) (p q : ℕ) (lefts rights : List Move) (k j : ℕ) : Type 0 where
  right : Move
  right_at : slice_get rights k ≡ Some right
  target : nat_eq right.target p ≡ true
  left : PassesAt (moves_meet es right q) lefts j

module _ (es : List Entry) (p q : ℕ) (lefts : List Move) where
  -- the places found, the right ones counted from n, are the first
  record FoundKids (n : ℕ) (rights : List Move) (w : ℕ × ℕ) : Type 0 where
    index : ℕ
    place : w.0 ≡ n + index
    meet : MeetAt es p q lefts rights index w.1
    first : (k j : ℕ) → MeetAt es p q lefts rights k j → (k < index) ⊎ ((k ≡ index) × (j < w.1)) → ⊥

  behind : (m : Move) (rights : List Move) (k j : ℕ) → MeetAt es p q lefts rights k j → MeetAt es p q lefts (m ∷ rights) (suc k) j
  behind m rights k j h = record { right = h.right; right_at = h.right_at; target = h.target; left = h.left }

  ahead : (m : Move) (rights : List Move) (k j : ℕ) → MeetAt es p q lefts (m ∷ rights) (suc k) j → MeetAt es p q lefts rights k j
  ahead m rights k j h = record { right = h.right; right_at = h.right_at; target = h.target; left = h.left }

  at_head : (m : Move) (rights : List Move) (j : ℕ) → MeetAt es p q lefts (m ∷ rights) 0 j → (nat_eq m.target p ≡ true) × PassesAt (moves_meet es m q) lefts j
  at_head m rights j h =
      let same : m ≡ h.right = some-injective h.right_at in
      (ap (λ (x : Move). nat_eq x.target p) same ∙ h.target, subst (λ (x : Move). PassesAt (moves_meet es x q) lefts j) (sym same) h.left)

  found-behind : (n : ℕ) (m : Move) (rights : List Move) (w : ℕ × ℕ) → ((j : ℕ) → MeetAt es p q lefts (m ∷ rights) 0 j → ⊥) → FoundKids (n + 1) rights w → FoundKids n (m ∷ rights) w
  found-behind n m rights w none f = record {
    index = suc f.index;
    place = (let e = f.place in omega (arith, e));
    meet = behind m rights f.index w.1 f.meet;
    first = λ k j h before. first_behind k j h before;
  }
    where
      first_behind : (k j : ℕ) → MeetAt es p q lefts (m ∷ rights) k j → (k < suc f.index) ⊎ ((k ≡ suc f.index) × (j < w.1)) → ⊥
      first_behind zero j h before = none j h
      first_behind (suc k) j h (inl lt) = f.first k j (ahead m rights k j h) (inl (omega (arith, lt)))
      first_behind (suc k) j h (inr e) = f.first k j (ahead m rights k j h) (inr (omega (arith, e.0), e.1))

  found-here : (n : ℕ) (m : Move) (rights : List Move) (j : ℕ) → nat_eq m.target p ≡ true → by_left_move es m q lefts ≡ Some j → FoundKids n (m ∷ rights) (n, j)
  found-here n m rights j e d = record {
    index = 0;
    place = omega arith;
    meet = record { right = m; right_at = refl; target = e; left = position-passes (moves_meet es m q) lefts j d };
    first = λ k i h before. first_here k i h before;
  }
    where
      first_here : (k i : ℕ) → MeetAt es p q lefts (m ∷ rights) k i → (k < 0) ⊎ ((k ≡ 0) × (i < j)) → ⊥
      first_here zero i h (inl lt) = absurd (omega (arith, lt))
      first_here zero i h (inr lt) = position-first (moves_meet es m q) lefts j i d lt.1 (at_head m rights i h).1
      first_here (suc k) i h (inl lt) = absurd (omega (arith, lt))
      first_here (suc k) i h (inr lt) = absurd (omega (arith, lt.0))

  found_by : (n : ℕ) (m : Move) (rights : List Move) (w : ℕ × ℕ) (later : Option (ℕ × ℕ)) (b : Bool) → nat_eq m.target p ≡ b → (o : Option ℕ) → by_left_move es m q lefts ≡ o
      → kids_at n (if_met b o) later ≡ Some w → (later ≡ Some w → FoundKids (n + 1) rights w) → FoundKids n (m ∷ rights) w
  found_by n m rights w later false e o d h next = found-behind n m rights w (λ j there. not_both (at_head m rights j there).0 e) (next h)
  found_by n m rights w later true e None d h next =
      found-behind n m rights w (λ j there. position-none (moves_meet es m q) lefts j d (at_head m rights j there).1) (next h)
  found_by n m rights w later true e (Some j) d h next = subst (FoundKids n (m ∷ rights)) (some-injective h) (found-here n m rights j e d)

  found-kids : (n : ℕ) (rights : List Move) (w : ℕ × ℕ) → by_kids es p q lefts n rights ≡ Some w → FoundKids n rights w
  found-kids n [] w h = absurd (none-some h)
  found-kids n (m ∷ rights) w h =
      found_by n m rights w (by_kids es p q lefts (n + 1) rights) (nat_eq m.target p) refl (by_left_move es m q lefts) refl h (found-kids (n + 1) rights w)

  none_by : (n : ℕ) (b : Bool) (o : Option ℕ) (later : Option (ℕ × ℕ)) → kids_at n (if_met b o) later ≡ None → (b ≡ true → o ≡ None) × (later ≡ None)
  none_by n false o later h = (λ e. absurd (not_both e refl), h)
  none_by n true None later h = (λ e. refl, h)
  none_by n true (Some j) later h = absurd (none-some (sym h))

  no-kids : (n : ℕ) (rights : List Move) → by_kids es p q lefts n rights ≡ None → (k j : ℕ) → MeetAt es p q lefts rights k j → ⊥
  no-kids n [] h k j there = none-some there.right_at
  no-kids n (m ∷ rights) h zero j there =
      let w = at_head m rights j there in
      let none = none_by n (nat_eq m.target p) (by_left_move es m q lefts) (by_kids es p q lefts (n + 1) rights) h in
      position-none (moves_meet es m q) lefts j (none.0 w.0) w.1
  no-kids n (m ∷ rights) h (suc k) j there =
      let none = none_by n (nat_eq m.target p) (by_left_move es m q lefts) (by_kids es p q lefts (n + 1) rights) h in
      no-kids (n + 1) rights none.1 k j (ahead m rights k j there)

pub kids-within : (es : List Entry) (p q : ℕ) (lefts rights : List Move) (w : ℕ × ℕ) → by_kids es p q lefts 0 rights ≡ Some w → (w.0 < length rights) × (w.1 < length lefts)
kids-within es p q lefts rights w h =
    let f = found-kids es p q lefts 0 rights w h in
    let right = slice_get_within rights f.index f.meet.right f.meet.right_at in
    let left = slice_get_within lefts w.1 f.meet.left.item f.meet.left.at in
    let e = f.place in
    (omega (arith, right, e), left)

module _ (agtt : Agtt) (inhabited : Inhabited) (marked : MarksBoth agtt inhabited) (es : List Entry) (p q : ℕ) where
  -- each reason passes its test
  any-follows : by_any agtt inhabited p q ≡ true → Follows agtt es p q Any
  any-follows h =
      elim (or_cases (is_any agtt.right.any p && get_or inhabited.left.items q false) (is_any agtt.left.any q && get_or inhabited.right.items p false) h) [
        | inl w ↦ inl (
          is_any-true agtt.right.any p (and_left (is_any agtt.right.any p) (get_or inhabited.left.items q false) w),
          (marked.left q).0 (and_right (is_any agtt.right.any p) (get_or inhabited.left.items q false) w),
        )
        | inr w ↦ inr (
          is_any-true agtt.left.any q (and_left (is_any agtt.left.any q) (get_or inhabited.right.items p false) w),
          (marked.right p).0 (and_right (is_any agtt.left.any q) (get_or inhabited.right.items p false) w),
        )
      ]

  any-tested : Follows agtt es p q Any → by_any agtt inhabited p q ≡ true
  any-tested (inl w) =
      or_left (is_any agtt.right.any p && get_or inhabited.left.items q false) (is_any agtt.left.any q && get_or inhabited.right.items p false)
      (and_both (is_any agtt.right.any p) (get_or inhabited.left.items q false) (is_any-from agtt.right.any p w.0) ((marked.left q).1 w.1))
  any-tested (inr w) =
      or_right (is_any agtt.right.any p && get_or inhabited.left.items q false) (is_any agtt.left.any q && get_or inhabited.right.items p false)
      (and_both (is_any agtt.left.any q) (get_or inhabited.right.items p false) (is_any-from agtt.left.any q w.0) ((marked.right p).1 w.1))

  kids-follow : (k j : ℕ) → MeetAt es p q agtt.left.moves.items agtt.right.moves.items k j → MovesMeet agtt es p q k j
  kids-follow k j h =
      let l = h.left.item in
      let r = h.right in
      let first = and_left (nat_eq l.target q && nat_eq l.sym.0 r.sym.0) (all_listed es r.kids.items l.kids.items) h.left.passes in
      let target : l.target ≡ q = eqb-true l.target q (and_left (nat_eq l.target q) (nat_eq l.sym.0 r.sym.0) first) in
      let symbol : l.sym.0 ≡ r.sym.0 = eqb-true l.sym.0 r.sym.0 (and_right (nat_eq l.target q) (nat_eq l.sym.0 r.sym.0) first) in
      let right_target : r.target ≡ p = eqb-true r.target p h.target in
      record {
        symbol = r.sym.0;
        rights = r.kids.items;
        lefts = l.kids.items;
        right_move = place-map as_move agtt.right.moves.items k r h.right_at ∙ ap (λ (x : ℕ). Some (r.sym.0, r.kids.items, x)) right_target;
        left_move = place-map as_move agtt.left.moves.items j l h.left.at
            ∙ (ap (λ (x : ℕ). Some (x, l.kids.items, l.target)) symbol ∙ ap (λ (x : ℕ). Some (r.sym.0, l.kids.items, x)) target);
        listed = all_listed-from_test es r.kids.items l.kids.items
            (and_right (nat_eq l.target q && nat_eq l.sym.0 r.sym.0) (all_listed es r.kids.items l.kids.items) h.left.passes);
      }

  kids-tested : (k j : ℕ) → MovesMeet agtt es p q k j → MeetAt es p q agtt.left.moves.items agtt.right.moves.items k j
  kids-tested k j h =
      let r = place-from_map as_move agtt.right.moves.items k (h.symbol, h.rights, p) h.right_move in
      let l = place-from_map as_move agtt.left.moves.items j (h.symbol, h.lefts, q) h.left_move in
      let symbol : l.0.sym.0 ≡ r.0.sym.0 = ap (λ (m : MoveParts). m.0) l.2 ∙ sym (ap (λ (m : MoveParts). m.0) r.2) in
      let kids : all_listed es r.0.kids.items l.0.kids.items ≡ true =
      ap (λ (qs : List ℕ). all_listed es qs l.0.kids.items) (ap (λ (m : MoveParts). m.1) r.2)
      ∙ (ap (all_listed es h.rights) (ap (λ (m : MoveParts). m.1) l.2) ∙ test-from_all_listed es h.rights h.lefts h.listed) in
      record {
        right = r.0;
        right_at = r.1;
        target = eq-eqb r.0.target p (ap (λ (m : MoveParts). m.2) r.2);
        left = record {
          item = l.0;
          at = l.1;
          passes = and_both (nat_eq l.0.target q && nat_eq l.0.sym.0 r.0.sym.0) (all_listed es r.0.kids.items l.0.kids.items)
              (and_both (nat_eq l.0.target q) (nat_eq l.0.sym.0 r.0.sym.0) (eq-eqb l.0.target q (ap (λ (m : MoveParts). m.2) l.2)) (eq-eqb l.0.sym.0 r.0.sym.0 symbol))
              kids;
        };
      }

  abbrev right_test : ℕ × ℕ → Bool
  right_test step = nat_eq step.1 p && is_listed es step.0 q

  abbrev left_test : ℕ × ℕ → Bool
  left_test step = nat_eq step.1 q && is_listed es p step.0

  abbrev pair_test : ℕ × ℕ → Bool
  pair_test pair = is_listed es p pair.0 && is_listed es pair.1 q

  right-follows : (k : ℕ) → PassesAt right_test agtt.right.silent.items k → Follows agtt es p q (SilentRight k)
  right-follows k h =
      let target : h.item.1 ≡ p = eqb-true h.item.1 p (and_left (nat_eq h.item.1 p) (is_listed es h.item.0 q) h.passes) in
      (h.item.0, h.at ∙ ap (λ (x : ℕ). Some (h.item.0, x)) target, listed-from_test es h.item.0 q (and_right (nat_eq h.item.1 p) (is_listed es h.item.0 q) h.passes))

  right-tested : (k : ℕ) → Follows agtt es p q (SilentRight k) → PassesAt right_test agtt.right.silent.items k
  right-tested k w = record { item = (w.0, p); at = w.1; passes = and_both (nat_eq p p) (is_listed es w.0 q) (eq-eqb p p refl) (test-from_listed es w.0 q w.2) }

  left-follows : (k : ℕ) → PassesAt left_test agtt.left.silent.items k → Follows agtt es p q (SilentLeft k)
  left-follows k h =
      let target : h.item.1 ≡ q = eqb-true h.item.1 q (and_left (nat_eq h.item.1 q) (is_listed es p h.item.0) h.passes) in
      (h.item.0, h.at ∙ ap (λ (x : ℕ). Some (h.item.0, x)) target, listed-from_test es p h.item.0 (and_right (nat_eq h.item.1 q) (is_listed es p h.item.0) h.passes))

  left-tested : (k : ℕ) → Follows agtt es p q (SilentLeft k) → PassesAt left_test agtt.left.silent.items k
  left-tested k w = record { item = (w.0, q); at = w.1; passes = and_both (nat_eq q q) (is_listed es p w.0) (eq-eqb q q refl) (test-from_listed es p w.0 w.2) }

  pair-follows : (k : ℕ) → PassesAt pair_test agtt.pairs.items k → Follows agtt es p q (Pair k)
  pair-follows k h = (
    h.item.0,
    h.item.1,
    h.at,
    listed-from_test es p h.item.0 (and_left (is_listed es p h.item.0) (is_listed es h.item.1 q) h.passes),
    listed-from_test es h.item.1 q (and_right (is_listed es p h.item.0) (is_listed es h.item.1 q) h.passes),
  )

  pair-tested : (k : ℕ) → Follows agtt es p q (Pair k) → PassesAt pair_test agtt.pairs.items k
  pair-tested k w =
      record { item = (w.0, w.1); at = w.2; passes = and_both (is_listed es p w.0) (is_listed es w.1 q) (test-from_listed es p w.0 w.3) (test-from_listed es w.1 q w.4) }

  -- the tests of the first c kinds of reasons found nothing
  record Missed (c : ℕ) : Type 0 where
    any : 0 < c → by_any agtt inhabited p q ≡ false
    kids : 1 < c → by_kids es p q agtt.left.moves.items 0 agtt.right.moves.items ≡ None
    silent_right : 2 < c → by_silent_right es p q agtt.right.silent.items ≡ None
    silent_left : 3 < c → by_silent_left es p q agtt.left.silent.items ≡ None
    pair : 4 < c → by_pair es p q agtt.pairs.items ≡ None

  none-below : (c : ℕ) → Missed c → (other : Why) → (rank other).0 < c → Follows agtt es p q other → ⊥
  none-below c missed Any lt f = not_both (any-tested f) (missed.any lt)
  none-below c missed (Kids k j) lt f = no-kids es p q agtt.left.moves.items 0 agtt.right.moves.items (missed.kids lt) k j (kids-tested k j f)
  none-below c missed (SilentRight k) lt f = position-none right_test agtt.right.silent.items k (missed.silent_right lt) (right-tested k f)
  none-below c missed (SilentLeft k) lt f = position-none left_test agtt.left.silent.items k (missed.silent_left lt) (left-tested k f)
  none-below c missed (Pair k) lt f = position-none pair_test agtt.pairs.items k (missed.pair lt) (pair-tested k f)

  -- the first of its kind
  abbrev IsFirstOfKind : Why → Type 0
  IsFirstOfKind why = (other : Why) → (rank other).0 ≡ (rank why).0
      → ((rank other).1 < (rank why).1) ⊎ (((rank other).1 ≡ (rank why).1) × ((rank other).2 < (rank why).2)) → Follows agtt es p q other → ⊥

  first-made : (why : Why) → Missed (rank why).0 → Follows agtt es p q why → IsFirstOfKind why → IsFirstReason agtt es p q why
  first-made why missed follows alone = record {
    follows = follows;
    first = λ other f smaller. elim smaller [ inl lt ↦ none-below (rank why).0 missed other lt f | inr w ↦ alone other w.0 w.1 f ];
  }

  no_smaller : (a b : ℕ) → (a < 0) ⊎ ((a ≡ 0) × (b < 0)) → ⊥
  no_smaller a b (inl lt) = omega (arith, lt)
  no_smaller a b (inr w) = omega (arith, w.1)

  just_first : (a b c : ℕ) → (a < c) ⊎ ((a ≡ c) × (b < 0)) → a < c
  just_first a b c (inl lt) = lt
  just_first a b c (inr w) = absurd (omega (arith, w.1))

  kids-alone : (w : ℕ × ℕ) → by_kids es p q agtt.left.moves.items 0 agtt.right.moves.items ≡ Some w → IsFirstOfKind (Kids w.0 w.1)
  kids-alone w h Any same before f = absurd (omega (arith, same))
  kids-alone w h (Kids k j) same before f =
      let found = found-kids es p q agtt.left.moves.items 0 agtt.right.moves.items w h in
      let e : w.0 ≡ found.index = (let x = found.place in omega (arith, x)) in
      found.first k j (kids-tested k j f) (subst (λ i. (k < i) ⊎ ((k ≡ i) × (j < w.1))) e before)
  kids-alone w h (SilentRight k) same before f = absurd (omega (arith, same))
  kids-alone w h (SilentLeft k) same before f = absurd (omega (arith, same))
  kids-alone w h (Pair k) same before f = absurd (omega (arith, same))

  any-alone : IsFirstOfKind Any
  any-alone other same before f = no_smaller (rank other).1 (rank other).2 before

  right-alone : (k : ℕ) → by_silent_right es p q agtt.right.silent.items ≡ Some k → IsFirstOfKind (SilentRight k)
  right-alone k h Any same before f = absurd (omega (arith, same))
  right-alone k h (Kids i j) same before f = absurd (omega (arith, same))
  right-alone k h (SilentRight i) same before f = position-first right_test agtt.right.silent.items k i h (just_first i 0 k before) (right-tested i f)
  right-alone k h (SilentLeft i) same before f = absurd (omega (arith, same))
  right-alone k h (Pair i) same before f = absurd (omega (arith, same))

  left-alone : (k : ℕ) → by_silent_left es p q agtt.left.silent.items ≡ Some k → IsFirstOfKind (SilentLeft k)
  left-alone k h Any same before f = absurd (omega (arith, same))
  left-alone k h (Kids i j) same before f = absurd (omega (arith, same))
  left-alone k h (SilentRight i) same before f = absurd (omega (arith, same))
  left-alone k h (SilentLeft i) same before f = position-first left_test agtt.left.silent.items k i h (just_first i 0 k before) (left-tested i f)
  left-alone k h (Pair i) same before f = absurd (omega (arith, same))

  pair-alone : (k : ℕ) → by_pair es p q agtt.pairs.items ≡ Some k → IsFirstOfKind (Pair k)
  pair-alone k h Any same before f = absurd (omega (arith, same))
  pair-alone k h (Kids i j) same before f = absurd (omega (arith, same))
  pair-alone k h (SilentRight i) same before f = absurd (omega (arith, same))
  pair-alone k h (SilentLeft i) same before f = absurd (omega (arith, same))
  pair-alone k h (Pair i) same before f = position-first pair_test agtt.pairs.items k i h (just_first i 0 k before) (pair-tested i f)

  abbrev Found : Option Why → Type 0
  Found (Some why) = IsFirstReason agtt es p q why
  Found None = (other : Why) → Follows agtt es p q other → ⊥

  found : (b : Bool) (o : Option (ℕ × ℕ)) (r l m : Option ℕ) → by_any agtt inhabited p q ≡ b → by_kids es p q agtt.left.moves.items 0 agtt.right.moves.items ≡ o
      → by_silent_right es p q agtt.right.silent.items ≡ r → by_silent_left es p q agtt.left.silent.items ≡ l → by_pair es p q agtt.pairs.items ≡ m
      → Found (any_or b (kids_or o (place_or (λ k. SilentRight k) r (place_or (λ k. SilentLeft k) l (place_or (λ k. Pair k) m None)))))
  found true o r l m eb eo er el em =
      first-made Any
      (record { any = λ lt. absurd (omega (arith, lt)); kids = λ lt. absurd (omega (arith, lt)); silent_right = λ lt. absurd (omega (arith, lt)); silent_left = λ lt. absurd (omega (arith, lt)); pair = λ lt. absurd (omega (arith, lt)) })
      (any-follows eb) any-alone
  found false (Some w) r l m eb eo er el em =
      let f = found-kids es p q agtt.left.moves.items 0 agtt.right.moves.items w eo in
      let e : f.index ≡ w.0 = (let x = f.place in omega (arith, x)) in
      first-made (Kids w.0 w.1)
      (record { any = λ lt. eb; kids = λ lt. absurd (omega (arith, lt)); silent_right = λ lt. absurd (omega (arith, lt)); silent_left = λ lt. absurd (omega (arith, lt)); pair = λ lt. absurd (omega (arith, lt)) })
      (subst (λ k. MovesMeet agtt es p q k w.1) e (kids-follow f.index w.1 f.meet)) (kids-alone w eo)
  found false None (Some k) l m eb eo er el em =
      first-made (SilentRight k)
      (record { any = λ lt. eb; kids = λ lt. eo; silent_right = λ lt. absurd (omega (arith, lt)); silent_left = λ lt. absurd (omega (arith, lt)); pair = λ lt. absurd (omega (arith, lt)) })
      (right-follows k (position-passes right_test agtt.right.silent.items k er)) (right-alone k er)
  found false None None (Some k) m eb eo er el em =
      first-made (SilentLeft k)
      (record { any = λ lt. eb; kids = λ lt. eo; silent_right = λ lt. er; silent_left = λ lt. absurd (omega (arith, lt)); pair = λ lt. absurd (omega (arith, lt)) })
      (left-follows k (position-passes left_test agtt.left.silent.items k el)) (left-alone k el)
  found false None None None (Some k) eb eo er el em =
      first-made (Pair k)
      (record { any = λ lt. eb; kids = λ lt. eo; silent_right = λ lt. er; silent_left = λ lt. el; pair = λ lt. absurd (omega (arith, lt)) })
      (pair-follows k (position-passes pair_test agtt.pairs.items k em)) (pair-alone k em)
  found false None None None None eb eo er el em =
      λ other f. none-below 5 (record { any = λ lt. eb; kids = λ lt. eo; silent_right = λ lt. er; silent_left = λ lt. el; pair = λ lt. em }) other (few other) f
    where
      few : (other : Why) → (rank other).0 < 5
      few Any = omega arith
      few (Kids k j) = omega arith
      few (SilentRight k) = omega arith
      few (SilentLeft k) = omega arith
      few (Pair k) = omega arith

  found-first : Found (first_reason agtt inhabited es p q)
  found-first =
      found (by_any agtt inhabited p q) (by_kids es p q agtt.left.moves.items 0 agtt.right.moves.items) (by_silent_right es p q agtt.right.silent.items)
      (by_silent_left es p q agtt.left.silent.items) (by_pair es p q agtt.pairs.items) refl refl refl refl refl

  pub first_reason-is_first : (why : Why) → Some why ≡ first_reason agtt inhabited es p q → IsFirstReason agtt es p q why
  first_reason-is_first why h = subst Found (sym h) found-first

  pub first_reason-none : None ≡ first_reason agtt inhabited es p q → (other : Why) → Follows agtt es p q other → ⊥
  first_reason-none h = subst Found (sym h) found-first
