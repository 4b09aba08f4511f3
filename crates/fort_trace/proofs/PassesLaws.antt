-- Passes over the pairs of states of a transducer of root steps are passes over the pairs of patterns.
use Rattle.std.proofs.Common.{◌≡◌, ℕ, zero, suc, ◌+◌, ◌*◌, ◌<◌, ◌≤◌, List, [], ◌∷◌, map, length, take, get_or, Option, None, Some, refl, ap, sym, ◌∙◌, arith, subst, inl, inr, ⊎_elim}
use Rattle.std.specs.Prelude.{Contains, slice_get}
use Rattle.std.specs.List.{last_or}
use Rattle.std.proofs.lemmas.Bool.{cases_lt}
use Rattle.std.proofs.lemmas.List.{length-map, get_or_default}
use Rattle.std.proofs.lemmas.Simd.{map-map}
use Rattle.fort_theory.specs.Signatures.{Signature, HasConstant}
use Rattle.fort_theory.specs.Sides.{at_index}
use Rattle.fort_theory.specs.Patterns.{Pattern, Patterns, Any, At, FitsPattern, Pair, PatternSystem, IsSystem}
use Rattle.fort_theory.specs.PatternOrder.{PatternBefore, AreSubpatternsInOrder}
use Rattle.fort_theory.proofs.Lists.{none-some, some-injective}
use Rattle.fort_theory.specs.Cores as core
use Rattle.fort_alike.specs.Atoms.{pairs_for, relation_atom}
use Rattle.fort_alike.specs.ListedAtoms.{listed}
use Rattle.fort_alike.proofs.ClosedLists.{ArePatterns-lefts, ArePatterns-rights}
use Rattle.fort_alike.proofs.SystemAtoms.{IsListedAtom-relation}
use Rattle.fort_parts.specs.PartColumns.{columns_of}
use Rattle.fort_parts.proofs.PartColumnLaws.{AreColumns-columns_of}
use Rattle.fort_reachability.specs.TreeAutomata.{IsInhabited}
use Rattle.fort_reachability.proofs.PatternAutomata.{AllStandFor, NoneStand, MoreStand, Takes-IsInstance}
use Rattle.fort_reachability.proofs.PatternInstances.{some-instance}
use Rattle.fort_reachability.proofs.PatternTransducers.{StandForPair}
use Rattle.fort_tree_automata.specs.NtaView.{moves_of, automaton_of}
use Rattle.fort_tree_automata.specs.PatternMoves.{StandsAt}
use Rattle.fort_transducers.specs.declared.agtt.Agtt.{Agtt}
use Rattle.fort_transducers.specs.RootSteps.{HasRootSteps, ArePlaces}
use Rattle.fort_transducers.proofs.RootStepsLaws.{IsPatternTransducer-rules}
use Rattle.fort_gtt_closure.specs.declared.entry.Entry.{Entry}
use Rattle.fort_gtt_closure.specs.declared.entry.Why as reasons
use Rattle.fort_gtt_closure.specs.declared.entry.Why.TheVariants as variants
use Rattle.fort_gtt_closure.specs.Reasons as closure
use Rattle.fort_gtt_closure.specs.Passes as passes
use Rattle.fort_alike.specs.ListedClosures as closures
use Rattle.fort_alike.specs.ListedClosures.{Which, Pair as Item, relation_of}
use Rattle.fort_certificate_theory.specs.ClosureSteps.{ClosureRules, IsPatternAt, numbers_of, IsListed, AreListed, AllListed, Follows, AnyRight, AnyLeft, ByArguments, ByRule, FollowsBy, number}
use Rattle.fort_certificate_theory.specs.Passes.{IsDuePair, rank, IsFirstReason, last_number, IsPassed, IsNextItem, IsListOfPasses}
use Rattle.fort_certificate_theory.specs.Written.{IsWrittenClosure}
use Rattle.fort_alike.proofs.OneInOrder.{before_asymmetric}
use Rattle.fort_context_closure.specs.ItemView.{as_why, as_item, as_items}

-- an element by its place, in both ways of saying it
slice_from : {A : Type 0} (xs : List A) (k : ℕ) (x : A) → k < length xs → get_or xs k x ≡ x → slice_get xs k ≡ Some x
slice_from [] k x l e = absurd (omega arith)
slice_from (y ∷ xs) zero x l e = ap Some e
slice_from (y ∷ xs) (suc k) x l e = slice_from xs k x (omega arith) e

from_slice : {A : Type 0} (xs : List A) (k : ℕ) (x d : A) → slice_get xs k ≡ Some x → get_or xs k d ≡ x
from_slice [] k x d e = absurd (none-some e)
from_slice (y ∷ xs) zero x d e = some-injective e
from_slice (y ∷ xs) (suc k) x d e = from_slice xs k x d e

slice_below : {A : Type 0} (xs : List A) (k : ℕ) (x : A) → slice_get xs k ≡ Some x → k < length xs
slice_below [] k x e = absurd (none-some e)
slice_below (y ∷ xs) zero x e = omega arith
slice_below (y ∷ xs) (suc k) x e = let l = slice_below xs k x e in omega arith

slice_among : {A : Type 0} (xs : List A) (k : ℕ) (x : A) → slice_get xs k ≡ Some x → Contains xs x
slice_among xs k x e = (k, slice_below xs k x e, from_slice xs k x x e)

-- a pattern at a place
pattern_there : (ps : List Pattern) (q : ℕ) (p : Pattern) → StandsAt ps q p → IsPatternAt ps q p
pattern_there ps q p h = (slice_below ps q p h, from_slice ps q p Any h)

stands_there : (ps : List Pattern) (q : ℕ) (p : Pattern) → q < length ps → get_or ps q Any ≡ p → StandsAt ps q p
stands_there ps q p l e = slice_from ps q p l (get_or_default ps q p Any l ∙ e)

-- the pair of a place among the rules' pairs
record IsPairAt (rules : List Pair) (lefts rights : List Pattern) (k a b : ℕ) : Type 0 where
  pair : Pair
  within : k < length rules
  is : get_or rules k pair ≡ pair
  stand : StandForPair (StandsAt lefts) (StandsAt rights) a b pair

pair_at : (lefts rights : List Pattern) (rules : List Pair) (ps : List (ℕ × ℕ)) → ArePlaces lefts rights rules ps → (k a b : ℕ) → slice_get ps k ≡ Some (a, b) → IsPairAt rules lefts rights k a b
pair_at lefts rights [] [] h k a b e = absurd (none-some e)
pair_at lefts rights [] (p ∷ ps) h k a b e = absurd h
pair_at lefts rights (rule ∷ rules) [] h k a b e = absurd h
pair_at lefts rights (rule ∷ rules) (p ∷ ps) h zero a b e =
    let same : p ≡ (a, b) = some-injective e in
    let here : StandForPair (StandsAt lefts) (StandsAt rights) p.0 p.1 rule = record { left = h.0; right = h.1 } in
    record { pair = rule; within = omega arith; is = refl; stand = subst (λ (o : ℕ × ℕ). StandForPair (StandsAt lefts) (StandsAt rights) o.0 o.1 rule) same here }
pair_at lefts rights (rule ∷ rules) (p ∷ ps) h (suc k) a b e =
    let w = pair_at lefts rights rules ps h.2 k a b e in
    record { pair = w.pair; within = (let l = w.within in omega arith); is = w.is; stand = w.stand }

record HasPlaces (ps : List (ℕ × ℕ)) (lefts rights : List Pattern) (k : ℕ) (pair : Pair) : Type 0 where
  a : ℕ
  b : ℕ
  at : slice_get ps k ≡ Some (a, b)
  stand : StandForPair (StandsAt lefts) (StandsAt rights) a b pair

places_at : (lefts rights : List Pattern) (rules : List Pair) (ps : List (ℕ × ℕ)) → ArePlaces lefts rights rules ps → (k : ℕ) (pair : Pair) → k < length rules → get_or rules k pair ≡ pair → HasPlaces ps lefts rights k pair
places_at lefts rights [] ps h k pair l e = absurd (omega arith)
places_at lefts rights (rule ∷ rules) [] h k pair l e = absurd h
places_at lefts rights (rule ∷ rules) (p ∷ ps) h zero pair l e =
    let here : StandForPair (StandsAt lefts) (StandsAt rights) p.0 p.1 rule = record { left = h.0; right = h.1 } in
    record { a = p.0; b = p.1; at = refl; stand = subst (StandForPair (StandsAt lefts) (StandsAt rights) p.0 p.1) e here }
places_at lefts rights (rule ∷ rules) (p ∷ ps) h (suc k) pair l e =
    let w = places_at lefts rights rules ps h.2 k pair (omega arith) e in
    record { a = w.a; b = w.b; at = w.at; stand = w.stand }

numbers_same : (es : List Entry) → numbers_of (as_items es) ≡ map (λ (e : Entry). (e.p, e.q)) es
numbers_same es = map-map (λ (e : Item). (e.p, e.q)) as_item es

one_place : (tops ps : List Pattern) → AreSubpatternsInOrder tops ps → (i j : ℕ) (x : Pattern) → StandsAt ps i x → StandsAt ps j x → i ≡ j
one_place tops ps order i j x a b =
    let l = slice_below ps i x a in
    let m = slice_below ps j x b in
    let u = from_slice ps i x Any a in
    let v = from_slice ps j x Any b in
    ⊎_elim
    (λ (n : i < j). absurd (itself (subst (λ (z : Pattern). PatternBefore z x) u (subst (PatternBefore (get_or ps i Any)) v (order.ordered i j n m)))))
    (λ n. ⊎_elim
    (λ (o : j < i). absurd (itself (subst (λ (z : Pattern). PatternBefore z x) v (subst (PatternBefore (get_or ps j Any)) u (order.ordered j i o l)))))
    (λ o. omega arith)
    (cases_lt j i))
    (cases_lt i j)
  where
    itself : PatternBefore x x → ⊥
    itself h = before_asymmetric x x h h

element : {A : Type 0} (xs : List A) (k : ℕ) → k < length xs → (x : A) × (slice_get xs k ≡ Some x)
element [] k l = absurd (omega arith)
element (y ∷ xs) zero l = (y, refl)
element (y ∷ xs) (suc k) l = element xs k (omega arith)

slice_map : {A B : Type 0} (f : A → B) (xs : List A) (k : ℕ) (x : A) → slice_get xs k ≡ Some x → slice_get (map f xs) k ≡ Some (f x)
slice_map f [] k x e = absurd (none-some e)
slice_map f (y ∷ xs) zero x e = ap (λ z. Some (f z)) (some-injective e)
slice_map f (y ∷ xs) (suc k) x e = slice_map f xs k x e

take_map : {A B : Type 0} (f : A → B) (k : ℕ) (xs : List A) → take k (map f xs) ≡ map f (take k xs)
take_map f zero xs = refl
take_map f (suc k) [] = refl
take_map f (suc k) (x ∷ xs) = ap (λ ys. f x ∷ ys) (take_map f k xs)

-- the order of reasons
smaller : (o y : reasons.Why) → rank (as_why o) < rank (as_why y) → closure.IsSmaller (closure.rank o) (closure.rank y)
smaller variants.Any variants.Any l = absurd (omega arith)
smaller variants.Any (variants.Kids k j) l = inl (omega arith)
smaller variants.Any (variants.SilentRight k) l = inl (omega arith)
smaller variants.Any (variants.SilentLeft k) l = inl (omega arith)
smaller variants.Any (variants.Pair k) l = inl (omega arith)
smaller (variants.Kids a b) variants.Any l = absurd (omega arith)
smaller (variants.Kids a b) (variants.Kids k j) l = absurd (omega arith)
smaller (variants.Kids a b) (variants.SilentRight k) l = absurd (omega arith)
smaller (variants.Kids a b) (variants.SilentLeft k) l = absurd (omega arith)
smaller (variants.Kids a b) (variants.Pair k) l = inl (omega arith)
smaller (variants.SilentRight a) variants.Any l = absurd (omega arith)
smaller (variants.SilentRight a) (variants.Kids k j) l = absurd (omega arith)
smaller (variants.SilentRight a) (variants.SilentRight k) l = absurd (omega arith)
smaller (variants.SilentRight a) (variants.SilentLeft k) l = absurd (omega arith)
smaller (variants.SilentRight a) (variants.Pair k) l = inl (omega arith)
smaller (variants.SilentLeft a) variants.Any l = absurd (omega arith)
smaller (variants.SilentLeft a) (variants.Kids k j) l = absurd (omega arith)
smaller (variants.SilentLeft a) (variants.SilentRight k) l = absurd (omega arith)
smaller (variants.SilentLeft a) (variants.SilentLeft k) l = absurd (omega arith)
smaller (variants.SilentLeft a) (variants.Pair k) l = inl (omega arith)
smaller (variants.Pair a) variants.Any l = absurd (omega arith)
smaller (variants.Pair a) (variants.Kids k j) l = absurd (omega arith)
smaller (variants.Pair a) (variants.SilentRight k) l = absurd (omega arith)
smaller (variants.Pair a) (variants.SilentLeft k) l = absurd (omega arith)
smaller (variants.Pair a) (variants.Pair k) l = inr (refl, inl (omega arith))

passed_same : (last : Option ℕ) (m n : ℕ) → IsPassed last m n → passes.IsPassed last m n
passed_same None m n h = h
passed_same (Some last) m n h = h

module _ (rules : List Pair) (agtt : Agtt) (has : HasRootSteps rules agtt) (signature : Signature) (constant : HasConstant signature)
    (fits_left : (p : Pattern) → Contains has.lefts p → FitsPattern signature p) (fits_right : (p : Pattern) → Contains has.rights p → FitsPattern signature p) where
  abbrev pub own_rules : ClosureRules
  own_rules = record { pairs = rules; rights = has.rights; lefts = has.lefts }

  listed_on : (es : List Entry) (p q : ℕ) → closure.IsListed es p q → IsListed (as_items es) p q
  listed_on es p q h = subst (λ (xs : List (ℕ × ℕ)). Contains xs (p, q)) (sym (numbers_same es)) h

  listed_back : (es : List Entry) (p q : ℕ) → IsListed (as_items es) p q → closure.IsListed es p q
  listed_back es p q h = subst (λ (xs : List (ℕ × ℕ)). Contains xs (p, q)) (numbers_same es) h

  all_on : (es : List Entry) (ps qs : List ℕ) (xs ys : Patterns) → closure.AllListed es ps qs → AllStandFor (StandsAt has.rights) ps xs → AllStandFor (StandsAt has.lefts) qs ys → AllListed own_rules (as_items es) xs ys
  all_on es [] [] xs ys h NoneStand NoneStand = tt
  all_on es [] (q ∷ qs) xs ys h a b = absurd h
  all_on es (p ∷ ps) [] xs ys h a b = absurd h
  all_on es (p ∷ ps) (q ∷ qs) xs ys h (MoreStand {p = x} {ps = us} s ss) (MoreStand {p = y} {ps = vs} t ts) =
      (record { p = p; q = q; right = pattern_there has.rights p x s; left = pattern_there has.lefts q y t; listed = listed_on es p q h.0 }, all_on es ps qs us vs h.1 ss ts)

  follows_on : (es : List Entry) (p q : ℕ) (why : reasons.Why) → p < length has.rights → q < length has.lefts → closure.Follows agtt es p q why → FollowsBy own_rules (as_items es) p q (as_why why)
  follows_on es p q variants.Any l m h =
      ⊎_elim
      (λ a. let e = from_slice has.rights p Any Any ((has.right_states.any p).0 a.0) in subst (λ (x : Pattern). Follows own_rules (as_items es) closures.Any x (get_or has.lefts q Any)) (sym e) AnyRight)
      (λ a. let e = from_slice has.lefts q Any Any ((has.left_states.any q).0 a.0) in subst (λ (x : Pattern). Follows own_rules (as_items es) closures.Any (get_or has.rights p Any) x) (sym e) AnyLeft)
      h
  follows_on es p q (variants.Kids k j) l m h =
      let is = IsPatternTransducer-rules rules agtt has in
      let a = is.right.moves h.symbol h.rights p (slice_among (moves_of agtt.right) k (h.symbol, h.rights, p) h.right_move) in
      let b = is.left.moves h.symbol h.lefts q (slice_among (moves_of agtt.left) j (h.symbol, h.lefts, q) h.left_move) in
      let x = from_slice has.rights p (At h.symbol a.0) Any a.1 in
      let y = from_slice has.lefts q (At h.symbol b.0) Any b.1 in
      subst (λ (z : Pattern). Follows own_rules (as_items es) closures.Kids z (get_or has.lefts q Any)) (sym x)
      (subst (λ (z : Pattern). Follows own_rules (as_items es) closures.Kids (At h.symbol a.0) z) (sym y) (ByArguments (all_on es h.rights h.lefts a.0 b.0 h.listed a.2 b.2)))
  follows_on es p q (variants.SilentRight k) l m h = absurd (none-some (ap (λ (xs : List (ℕ × ℕ)). slice_get xs k) (sym has.right_states.silent) ∙ h.1))
  follows_on es p q (variants.SilentLeft k) l m h = absurd (none-some (ap (λ (xs : List (ℕ × ℕ)). slice_get xs k) (sym has.left_states.silent) ∙ h.1))
  follows_on es p q (variants.Pair k) l m h =
      let w = pair_at has.lefts has.rights rules agtt.pairs.items has.places k h.0 h.1 h.2 in
      ByRule w.pair w.within w.is
      (record { p = p; q = h.0; right = (l, refl); left = pattern_there has.lefts h.0 w.pair.0 w.stand.left; listed = listed_on es p h.0 h.3 })
      (record { p = h.1; q = q; right = pattern_there has.rights h.1 w.pair.1 w.stand.right; left = (m, refl); listed = listed_on es h.1 q h.4 })

  -- a pattern has one place
  right_place : (i j : ℕ) (x : Pattern) → StandsAt has.rights i x → StandsAt has.rights j x → i ≡ j
  right_place i j x a b = one_place (map (λ (pair : Pair). pair.1) rules) has.rights has.right_patterns i j x a b

  left_place : (i j : ℕ) (x : Pattern) → StandsAt has.lefts i x → StandsAt has.lefts j x → i ≡ j
  left_place i j x a b = one_place (map (λ (pair : Pair). pair.0) rules) has.lefts has.left_patterns i j x a b

  listed_between : (es : List Entry) (p q : ℕ) (x y : Pattern) → StandsAt has.rights p x → StandsAt has.lefts q y → AreListed own_rules (as_items es) x y → closure.IsListed es p q
  listed_between es p q x y a b h =
      let i = right_place h.p p x (stands_there has.rights h.p x h.right.0 h.right.1) a in
      let j = left_place h.q q y (stands_there has.lefts h.q y h.left.0 h.left.1) b in
      subst (λ (n : ℕ). closure.IsListed es n q) i (subst (λ (n : ℕ). closure.IsListed es h.p n) j (listed_back es h.p h.q h.listed))

  all_back : (es : List Entry) (ps qs : List ℕ) (xs ys : Patterns) → AllListed own_rules (as_items es) xs ys → AllStandFor (StandsAt has.rights) ps xs → AllStandFor (StandsAt has.lefts) qs ys → closure.AllListed es ps qs
  all_back es [] [] xs ys h NoneStand NoneStand = tt
  all_back es [] (q ∷ qs) xs ys h NoneStand (MoreStand t ts) = absurd h
  all_back es (p ∷ ps) [] xs ys h (MoreStand s ss) NoneStand = absurd h
  all_back es (p ∷ ps) (q ∷ qs) xs ys h (MoreStand {p = x} {ps = us} s ss) (MoreStand {p = y} {ps = vs} t ts) =
      (listed_between es p q x y s t h.0, all_back es ps qs us vs h.1 ss ts)

  right_inhabited : (p : ℕ) → p < length has.rights → IsInhabited (automaton_of agtt.right) p
  right_inhabited p l =
      let x = get_or has.rights p Any in
      let at = stands_there has.rights p x l refl in
      let t = some-instance signature constant x (fits_right x (slice_among has.rights p x at)) in
      record { tree = t.0; taken = (Takes-IsInstance (automaton_of agtt.right) (StandsAt has.rights) (IsPatternTransducer-rules rules agtt has).right p x at t.0).1 t.2 }

  left_inhabited : (q : ℕ) → q < length has.lefts → IsInhabited (automaton_of agtt.left) q
  left_inhabited q l =
      let x = get_or has.lefts q Any in
      let at = stands_there has.lefts q x l refl in
      let t = some-instance signature constant x (fits_left x (slice_among has.lefts q x at)) in
      record { tree = t.0; taken = (Takes-IsInstance (automaton_of agtt.left) (StandsAt has.lefts) (IsPatternTransducer-rules rules agtt has).left q x at t.0).1 t.2 }

  record HasReason (es : List Entry) (p q : ℕ) (w : closures.Why) : Type 0 where
    why : reasons.Why
    is : as_why why ≡ w
    follows : closure.Follows agtt es p q why

  follows_back : (es : List Entry) (p q : ℕ) (w : closures.Why) (x y : Pattern) → StandsAt has.rights p x → StandsAt has.lefts q y → Follows own_rules (as_items es) w x y → HasReason es p q w
  follows_back es p q w x y a b AnyRight = record { why = variants.Any; is = refl; follows = inl ((has.right_states.any p).1 a, left_inhabited q (slice_below has.lefts q y b)) }
  follows_back es p q w x y a b AnyLeft = record { why = variants.Any; is = refl; follows = inr ((has.left_states.any q).1 b, right_inhabited p (slice_below has.rights p x a)) }
  follows_back es p q w x y a b (ByArguments {f = f} {xs = xs} {ys = ys} h) =
      let is = IsPatternTransducer-rules rules agtt has in
      let m = is.right.has_move f xs p a in
      let n = is.left.has_move f ys q b in
      record {
        why = variants.Kids m.1.0 n.1.0;
        is = refl;
        follows = record {
          symbol = f;
          rights = m.0;
          lefts = n.0;
          right_move = slice_from (moves_of agtt.right) m.1.0 (f, m.0, p) m.1.1 m.1.2;
          left_move = slice_from (moves_of agtt.left) n.1.0 (f, n.0, q) n.1.1 n.1.2;
          listed = all_back es m.0 n.0 xs ys h m.2 n.2;
        };
      }
  follows_back es p q w x y a b (ByRule {k = k} pair l e s t) =
      let h = places_at has.lefts has.rights rules agtt.pairs.items has.places k pair l e in
      record {
        why = variants.Pair k;
        is = refl;
        follows = (h.a, h.b, h.at, listed_between es p h.a x pair.0 a h.stand.left s, listed_between es h.b q pair.1 y h.stand.right b t);
      }

  reason_at : (es : List Entry) (p q : ℕ) (w : closures.Why) → p < length has.rights → q < length has.lefts → FollowsBy own_rules (as_items es) p q w → HasReason es p q w
  reason_at es p q w l m h =
      follows_back es p q w (get_or has.rights p Any) (get_or has.lefts q Any) (stands_there has.rights p (get_or has.rights p Any) l refl) (stands_there has.lefts q (get_or has.lefts q Any) m refl) h

  due_on : (es : List Entry) (p q : ℕ) → passes.IsDue agtt es p q → IsDuePair own_rules (as_items es) p q
  due_on es p q h =
      let l : p < length has.rights = omega (arith, h.right, has.right_states.states) in
      let m : q < length has.lefts = omega (arith, h.left, has.left_states.states) in
      record { right = l; left = m; unlisted = λ k. h.unlisted (listed_back es p q k); follows = (as_why h.why, follows_on es p q h.why l m h.follows) }

  due_back : (es : List Entry) (p q : ℕ) → IsDuePair own_rules (as_items es) p q → passes.IsDue agtt es p q
  due_back es p q h =
      let r = reason_at es p q h.follows.0 h.right h.left h.follows.1 in
      record {
        right = omega (arith, h.right, has.right_states.states);
        left = omega (arith, h.left, has.left_states.states);
        unlisted = λ k. h.unlisted (listed_on es p q k);
        why = r.why;
        follows = r.follows;
      }

  first_on : (es : List Entry) (p q : ℕ) (why : reasons.Why) → p < length has.rights → q < length has.lefts → closure.IsFirstReason agtt es p q why → IsFirstReason own_rules (as_items es) p q (as_why why)
  first_on es p q why l m h = record {
    follows = follows_on es p q why l m h.follows;
    first = λ w f.
        let r = reason_at es p q w l m f in
        ⊎_elim
        (λ (low : rank w < rank (as_why why)). absurd (h.first r.why r.follows (smaller r.why why (subst (λ (z : closures.Why). rank z < rank (as_why why)) (sym r.is) low))))
        (λ (high : rank (as_why why) ≤ rank w). high)
        (cases_lt (rank w) (rank (as_why why)));
  }

  number_same : (p q : ℕ) → passes.number agtt p q ≡ number own_rules p q
  number_same p q = ap (λ n. p * n + q) has.left_states.states

  last_same : (es : List Entry) → passes.last_number agtt es ≡ last_number own_rules (as_items es)
  last_same es =
      ap (λ n. last_or None (map (λ (e : Entry). e.p * n + e.q) es)) has.left_states.states
      ∙ ap (last_or None) (sym (map-map (λ (e : Item). number own_rules e.p e.q) as_item es))

  next_on : (es : List Entry) (e : Entry) → passes.IsNext agtt es e → IsNextItem own_rules (as_items es) (as_item e)
  next_on es e h =
      let due = due_on es e.p e.q h.due in
      record {
        due = due;
        reason = first_on es e.p e.q e.why due.right due.left h.reason;
        nearest = λ p q d f.
            h.nearest p q (due_back es p q d)
            (subst (λ (n : ℕ). passes.IsPassed (passes.last_number agtt es) n (passes.number agtt p q)) (sym (number_same e.p e.q))
            (subst (λ (n : ℕ). passes.IsPassed (passes.last_number agtt es) (number own_rules e.p e.q) n) (sym (number_same p q))
            (subst (λ (n : Option ℕ). passes.IsPassed n (number own_rules e.p e.q) (number own_rules p q)) (sym (last_same es)) (passed_same (last_number own_rules (as_items es)) (number own_rules e.p e.q) (number own_rules p q) f))));
      }

  -- Result
  pub IsListOfPasses-items : (es : List Entry) → passes.IsListOfPasses agtt es → IsListOfPasses own_rules (as_items es)
  IsListOfPasses-items es h = record {
    each = λ k d l.
        let e = element es k (omega (arith, length-map es as_item)) in
        let at : get_or (as_items es) k d ≡ as_item e.0 = from_slice (as_items es) k (as_item e.0) d (slice_map as_item es k e.0 e.1) in
        subst (IsNextItem own_rules (take k (as_items es))) (sym at)
        (subst (λ (xs : List Item). IsNextItem own_rules xs (as_item e.0)) (sym (take_map as_item k es)) (next_on (take k es) e.0 (h.each k e.0 e.1)));
    done = λ p q d. h.done p q (due_back es p q d);
  }

-- Result: over a system, the entries that passes make are the items of the closure that is written
pub closure_items : (system : PatternSystem) → IsSystem system → (which : Which) (index : ℕ) (agtt : Agtt) (has : HasRootSteps (pairs_for (relation_of which) (at_index index system.rules)) agtt) (es : List Entry)
    → passes.IsListOfPasses agtt es → IsWrittenClosure system which index (as_items es)
closure_items system is which index agtt has es h =
    let pairs = pairs_for (relation_of which) (at_index index system.rules) in
    let own = listed (relation_atom system (relation_of which) index 0 0 (columns_of (core.Leaf (core.Related (relation_of which) index 0 0)))) has.lefts has.rights in
    let atom = IsListedAtom-relation system is index (relation_of which) 0 0 (columns_of (core.Leaf (core.Related (relation_of which) index 0 0))) (AreColumns-columns_of (core.Leaf (core.Related (relation_of which) index 0 0)))
    has.lefts has.rights has.left_patterns has.right_patterns in
    record {
      rules = own_rules pairs agtt has system.signature is.constant (ArePatterns-lefts own atom).fit (ArePatterns-rights own atom).fit;
      rules_are = record { pairs = refl; patterns = record { left = has.left_patterns; right = has.right_patterns } };
      passes = IsListOfPasses-items pairs agtt has system.signature is.constant (ArePatterns-lefts own atom).fit (ArePatterns-rights own atom).fit es h;
    }
